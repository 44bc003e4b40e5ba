-- Start-up's labels, over the present slots that are not stale: level (generation M), the same label once more (M + 1), the one with Out' (M + 2);
-- then the stale slots adopt it. An absent disk may carry a label that no present one has, but at most one generation further: after these rounds it
-- can neither tie with the settled label nor beat it.
use Prim.Native.Nat.{ℕ, suc, ◌≤◌, ◌<◌}
use Rattle.std.specs.Prelude.{◌≡◌, Bool, cond, ◌&&◌, ◌||◌, ◌⊎◌, eqb}
use Rattle.std.proofs.Math.Path.{refl, sym, ap}
use Rattle.std.proofs.Common.{ap₂, ◌∙◌, true≢false, arith}
use Rattle.std.proofs.Math.Bool.{true, false, not, or-true}
use Rattle.std.proofs.lemmas.Bool.{false≢true}
use Rattle.std.proofs.Math.Logic.{⊎_elim, inl, inr}
use mathlib.Core.List.{◌++◌, Memᴰ}
use Rattle.std.proofs.Math.Dec.{ltb}
use borrow.Author.Tests.{ne_eqb, eqb-true, eqb-false, ltb-true, ltb-false, lt-ltb, not-true}
use Rattle.protocol.specs.World.{label, log, strip, Image, World, run, Sane, Always, During, sane_run, always_map, during_map, during_append, run_append}
use Rattle.protocol.specs.Slots.{from, in_from, in_slots, of_slots, every_of, leader_top, leader_below}
use Rattle.protocol.specs.Log.{Belief, Within, within_trans, Agrees}
use Rattle.protocol.specs.Write.{both}
use Rattle.protocol.specs.Label.{Label, again, plainly_out, Size, looked, belief, Quorum, LabelCodec, copy, Aged, prep, round, MayRule, Labels, Only, Bare, only_start, only_put}
use Rattle.protocol.proofs.Label.{look_of, round_keeps, prep_safe, round_safe, rules_self, labels_settle}
use Rattle.protocol.specs.Bays.{front, front_in, Aside, Bays, aged_in}
use Rattle.protocol.proofs.Bays.{bays_cap, bays_fine, bays_put, bays_rise}
use Rattle.protocol.specs.Startup.{without, behind, disowned, newest, seen, lead, M, L, stale, gone, labelled, next, parts, late, level_to, again_to, last_to, rounds, Framed, Settles, Same, same_bare, newest_is, seen_aged, astray, settled}

pub behind_false : (own newest : ℕ) → behind own newest ≡ false → newest ≤ suc own
unfolding behind
behind_false own newest e = ltb-false (suc own) newest e

-- a label that calls its slot plainly out is noticed by one that does not
pub disowned_is : (own newest : Label) (d : ℕ) → plainly_out own d ≡ true → plainly_out newest d ≡ false → disowned own newest d ≡ true
unfolding disowned
disowned_is own newest d p q = ap₂ (λ (a b : Bool). a && not b) p q

-- the new label believes nothing that the old one does not
pull : (i e : Bool) → (i && not (true && not e)) ≡ true → e ≡ true
pull i true h = refl
pull true false h = h
pull false false h = h

module _ (n T d rebuilding mark : ℕ) (dn : d < n) where
  narrow_raw : (o gd gr : Bool) → (d ≡ rebuilding → gd ≡ gr) → (ltb d n && not ((o || gd) && not (eqb d (cond gr n rebuilding)))) ≡ true → ((ltb d n && not (o && not (eqb d rebuilding))) ≡ true) × ((t : ℕ) → ((ltb d n && not ((o || gd) && not (eqb d (cond gr n rebuilding)))) && (ltb t T && (not (o || gd) || ltb t (cond gr 0 mark)))) ≡ ((ltb d n && not (o && not (eqb d rebuilding))) && (ltb t T && (not o || ltb t mark))))
  narrow_raw true true true q h = absurd (eqb-false d n (ne_eqb d n (λ x. omega arith)) (eqb-true d n (pull (ltb d n) (eqb d n) h)))
  narrow_raw true true false q h = absurd (true≢false (q (eqb-true d rebuilding (pull (ltb d n) (eqb d rebuilding) h))))
  narrow_raw true false true q h = absurd (eqb-false d n (ne_eqb d n (λ x. omega arith)) (eqb-true d n (pull (ltb d n) (eqb d n) h)))
  narrow_raw true false false q h = (h, λ t. refl)
  narrow_raw false true true q h = absurd (eqb-false d n (ne_eqb d n (λ x. omega arith)) (eqb-true d n (pull (ltb d n) (eqb d n) h)))
  narrow_raw false true false q h = absurd (true≢false (q (eqb-true d rebuilding (pull (ltb d n) (eqb d rebuilding) h))))
  narrow_raw false false true q h = (h, λ t. refl)
  narrow_raw false false false q h = (h, λ t. refl)

pub without_narrow : (z : Size) (l : Label) (gone : ℕ → Bool) (g : ℕ) → Within (belief z (without z.n l gone g)) (belief z l)
unfolding belief
without_narrow z l gone g =
    record {
      look_in = λ d h. (narrow_raw z.n z.T d l.rebuilding l.mark (below d h) (l.out d) (gone d) (gone l.rebuilding) (ap gone) h).0;
      believe_in = λ d t h. (narrow_raw z.n z.T d l.rebuilding l.mark (below d h) (l.out d) (gone d) (gone l.rebuilding) (ap gone) h).1 t;
    }
  where
    below : (d : ℕ) → looked z (without z.n l gone g) d ≡ true → d < z.n
    below d h = ltb-true d z.n (both (ltb d z.n) (not (plainly_out (without z.n l gone g) d)) h).0

unmasked : (a b c : Bool) → a ≡ true → (a && (b || c)) ≡ false → b ≡ false
unmasked true true c p h = h
unmasked true false c p h = refl
unmasked false b c p h = absurd (false≢true p)

masked : (a b c : Bool) → a ≡ true → b ≡ true → (a && (b || c)) ≡ true
masked true true c p h = refl
masked true false c p h = absurd (false≢true h)
masked false b c p h = absurd (false≢true p)

-- who is gone is not looked at
pub without_gone : (z : Size) (l : Label) (gone : ℕ → Bool) (g d : ℕ) → looked z (without z.n l gone g) d ≡ true → gone d ≡ false
without_gone z l gone g d h =
    let p = look_of z (without z.n l gone g) d h in
    ⊎_elim (λ q. right (l.out d) (gone d) q) (λ q. being p.0 (gone l.rebuilding) refl q) p.1
  where
    right : (x y : Bool) → (x || y) ≡ false → y ≡ false
    right true y q = absurd (true≢false q)
    right false y q = q

    being : d < z.n → (b : Bool) → gone l.rebuilding ≡ b → d ≡ cond b z.n l.rebuilding → gone d ≡ false
    being i true e q = absurd (omega arith)
    being i false e q = ap gone q ∙ e

-- who is not looked at is plainly out, and who is looked at is not
dark_out : (z : Size) (l : Label) (d : ℕ) → d < z.n → (looked z l d ≡ true → ⊥) → plainly_out l d ≡ true
dark_out z l d i h = go (plainly_out l d) refl
  where
    go : (b : Bool) → plainly_out l d ≡ b → plainly_out l d ≡ true
    go true e = e
    go false e = absurd (h (rw (lt-ltb d z.n i, e)))

lit_in : (z : Size) (l : Label) (d : ℕ) → looked z l d ≡ true → plainly_out l d ≡ false
lit_in z l d h = not-true (plainly_out l d) (both (ltb d z.n) (not (plainly_out l d)) h).1

module _ {X : Type 0} (z : Size) (W : Quorum z.n) (C : LabelCodec X z.n) (absent : ℕ → Bool) (f0 : Image X) where
  pub gone_absent : (d : ℕ) → d < z.n → gone z C absent f0 d ≡ false → absent d ≡ false
  unfolding gone
  gone_absent d i h = unmasked (ltb d z.n) (absent d) (stale z C absent f0 d) (lt-ltb d z.n i) h

  pub absent_gone : (d : ℕ) → d < z.n → absent d ≡ true → gone z C absent f0 d ≡ true
  unfolding gone
  absent_gone d i h = masked (ltb d z.n) (absent d) (stale z C absent f0 d) (lt-ltb d z.n i) h

  pub stale_gone : (d : ℕ) → d < z.n → stale z C absent f0 d ≡ true → gone z C absent f0 d ≡ true
  unfolding gone
  stale_gone d i h = rw (lt-ltb d z.n i, h, or-true)

  -- with every present slot labelled, and not all of them gone, there is a label to go on from
  pub M_positive : labelled z C absent f0 ≡ true → W.few (gone z C absent f0) ≡ true → 0 < M z C absent f0
  M_positive all few =
      let y = W.meet (gone z C absent f0) (gone z C absent f0) few few in
      let p = every_of (λ d. absent d || ltb 0 (seen z C absent f0 d)) (from 0 z.n) all y.0 (in_from z.n 0 y.0 (omega arith) (omega (arith, y.1))) in
      omega (arith, ltb-true 0 (seen z C absent f0 y.0) (go (absent y.0) (gone_absent y.0 y.1 y.2) (ltb 0 (seen z C absent f0 y.0)) p), leader_top (seen z C absent f0) z.n y.0 y.1)
    where
      go : (x : Bool) → x ≡ false → (y : Bool) → (x || y) ≡ true → y ≡ true
      go true e y p = absurd (true≢false e)
      go false e y p = p

  -- What start-up meets: odd slots, whose bays hold another disk than their last; Q, N, top and far, as of the last disks; and a label that is no older than Q. It is not refused.
  module _ (odd : ℕ → Bool) (last : Image X) (Q N : Label) (top : ℕ) (far : ℕ → Bool) (H : Bays z W C Q N top far odd last f0) (M_low : Q.generation ≤ M z C absent f0)
      (all_labelled : labelled z C absent f0 ≡ true) (enough : W.few (λ d. (L z C absent f0).out d || gone z C absent f0 d) ≡ true)
      (fits1 : C.Fits (again (L z C absent f0) (suc (M z C absent f0)))) (fits1' : C.Fits (next z C absent f0 (suc (M z C absent f0)))) (fits2 : C.Fits (next z C absent f0 (suc (suc (M z C absent f0))))) where
    few_gone : W.few (gone z C absent f0) ≡ true
    few_gone = W.part (gone z C absent f0) (λ d. (L z C absent f0).out d || gone z C absent f0 d) (λ d i e. rw (e, or-true)) enough

    M_pos : 0 < M z C absent f0
    M_pos = M_positive all_labelled few_gone

    lead_n : lead z C absent f0 < z.n
    lead_n = let y = W.meet (gone z C absent f0) (gone z C absent f0) few_gone few_gone in leader_below (seen z C absent f0) z.n (omega (arith, y.1))

    -- a present slot has a label
    own_pos : (d : ℕ) → d < z.n → absent d ≡ false → 0 < seen z C absent f0 d
    own_pos d dn dp =
        let p : (absent d || ltb 0 (seen z C absent f0 d)) ≡ true = every_of (λ d. absent d || ltb 0 (seen z C absent f0 d)) (from 0 z.n) all_labelled d (in_from z.n 0 d (omega arith) (omega arith)) in
        ltb-true 0 (seen z C absent f0 d) (go (absent d) dp (ltb 0 (seen z C absent f0 d)) p)
      where
        go : (x : Bool) → x ≡ false → (y : Bool) → (x || y) ≡ true → y ≡ true
        go true e y p = absurd (true≢false e)
        go false e y p = p

    L_generation : (L z C absent f0).generation ≡ M z C absent f0
    L_generation = go (absent (lead z C absent f0)) refl
      where
        go : (x : Bool) → absent (lead z C absent f0) ≡ x → (L z C absent f0).generation ≡ M z C absent f0
        go true e = let q : M z C absent f0 ≡ 0 = rw e in absurd (omega (arith, M_pos, q))
        go false e = rw e

    L_top : (L z C absent f0).generation ≤ top
    L_top = let y = (newest_is z W C absent f0) (lead z C absent f0) in rw y.1 (bays_cap z W C Q N top far odd last f0 H (lead z C absent f0) y.0 lead_n)

    L_fits : C.Fits (L z C absent f0)
    unfolding copy
    L_fits = let y = (newest_is z W C absent f0) (lead z C absent f0) in rw y.1 (C.decode_fits (lead z C absent f0) y.0 (f0 (label (lead z C absent f0) y.0)) (omega (arith, M_pos, L_generation, ap (λ (x : Label). x.generation) y.1)))

    L_ok : MayRule z W C Q N (L z C absent f0)
    L_ok = let y = (newest_is z W C absent f0) (lead z C absent f0) in rw y.1 (bays_fine z W C Q N top far odd last f0 H (lead z C absent f0) y.0 lead_n (omega (arith, M_pos, L_generation, ap (λ (x : Label). x.generation) y.1)) (omega (arith, M_low, L_generation, ap (λ (x : Label). x.generation) y.1)))

    -- AN OLDER DISK IS NOTICED: its slot is gone, or L calls it plainly out
    odd_gone : (d : ℕ) → d < z.n → absent d ≡ false → odd d ≡ true → looked z (L z C absent f0) d ≡ true → gone z C absent f0 d ≡ true
    unfolding belief
    odd_gone d dn dp o lit = stale_gone d dn (go (behind (seen z C absent f0 d) (M z C absent f0)) refl)
      where
        own : Label
        own = newest z C absent f0 d

        generation : seen z C absent f0 d ≡ own.generation
        generation = rw dp

        aside : Aside z W C Q N top d own
        aside = let y = (newest_is z W C absent f0) d in rw y.1 (H.odds d y.0 dn o)

        pos : 0 < own.generation
        pos = omega (arith, own_pos d dn dp, generation)

        dark : M z C absent f0 ≤ suc own.generation → looked z own d ≡ true → ⊥
        dark i = less (ltb own.generation Q.generation) refl
          where
            under_Q : suc own.generation ≡ Q.generation → looked z Q d ≡ true
            under_Q q = ⊎_elim (λ n. n.look_in d lit) (λ n. absurd (omega (arith, n.0, L_generation))) L_ok.narrow

            less : (b : Bool) → ltb own.generation Q.generation ≡ b → looked z own d ≡ true → ⊥
            less true e = let j = ltb-true own.generation Q.generation e in let q : suc own.generation ≡ Q.generation = omega (arith, M_low) in aside.near pos q (under_Q q)
            less false e = aside.own pos (ltb-false own.generation Q.generation e)

        go : (b : Bool) → behind (seen z C absent f0 d) (M z C absent f0) ≡ b → stale z C absent f0 d ≡ true
        go true e = rw e
        go false e =
            let i = behind_false (seen z C absent f0 d) (M z C absent f0) e in
            rw (disowned_is own (L z C absent f0) d (dark_out z own d dn (dark (omega (arith, generation)))) (lit_in z (L z C absent f0) d lit), or-true)

    -- so an odd slot that takes part in the rounds is plainly out in each of their labels
    odd_L : (d : ℕ) → d < z.n → gone z C absent f0 d ≡ false → odd d ≡ true → looked z (L z C absent f0) d ≡ true → ⊥
    odd_L d dn g o lit = true≢false (sym (odd_gone d dn (gone_absent d dn g) o lit) ∙ g)

    odd_next : (g d : ℕ) → odd d ≡ true → looked z (next z C absent f0 g) d ≡ true → ⊥
    unfolding belief
    odd_next g d o lit = odd_L d (look_of z (next z C absent f0 g) d lit).0 (without_gone z (L z C absent f0) (gone z C absent f0) g d lit) o ((without_narrow z (L z C absent f0) (gone z C absent f0) g).look_in d lit)

    -- and every odd slot is out in the label that start-up settles
    odd_out : (d : ℕ) → d < z.n → odd d ≡ true → ((L z C absent f0).out d || gone z C absent f0 d) ≡ true
    odd_out d dn o = go (gone z C absent f0 d) refl
      where
        go : (b : Bool) → gone z C absent f0 d ≡ b → ((L z C absent f0).out d || gone z C absent f0 d) ≡ true
        go true e = rw (e, or-true)
        go false e = rw (both ((L z C absent f0).out d) (not (eqb d (L z C absent f0).rebuilding)) (dark_out z (L z C absent f0) d dn (odd_L d dn e o))).0

    few_astray : W.few (astray z W C absent f0 odd last Q N top far H M_low all_labelled enough fits1 fits1' fits2) ≡ true
    unfolding astray
    few_astray = W.part (astray z W C absent f0 odd last Q N top far H M_low all_labelled enough fits1 fits1' fits2) (λ d. (L z C absent f0).out d || gone z C absent f0 d) (λ d i e. go d i (gone z C absent f0 d) refl e) enough
      where
        go : (d : ℕ) → d < z.n → (b : Bool) → gone z C absent f0 d ≡ b → (b || odd d) ≡ true → ((L z C absent f0).out d || gone z C absent f0 d) ≡ true
        go d i true e h = rw (e, or-true)
        go d i false e h = odd_out d i h

    not_astray : (d : ℕ) → (astray z W C absent f0 odd last Q N top far H M_low all_labelled enough fits1 fits1' fits2) d ≡ false → (gone z C absent f0 d ≡ false) × (odd d ≡ false)
    unfolding astray
    not_astray d h = go (gone z C absent f0 d) (odd d) h
      where
        go : (x y : Bool) → (x || y) ≡ false → (x ≡ false) × (y ≡ false)
        go true y q = absurd (true≢false q)
        go false y q = (refl, q)

    -- all but few slots are present with their last disks, so one of them is not far
    M_near : top ≤ suc (M z C absent f0)
    M_near = go (ltb (suc (M z C absent f0)) top) refl
      where
        y : (d : ℕ) × (d < z.n) × ((astray z W C absent f0 odd last Q N top far H M_low all_labelled enough fits1 fits1' fits2) d ≡ false) × (far d ≡ false)
        y = W.meet (astray z W C absent f0 odd last Q N top far H M_low all_labelled enough fits1 fits1' fits2) far few_astray H.lasts.few_far

        near : suc (M z C absent f0) < top → suc (M z C absent f0) ≤ M z C absent f0
        near i =
            let q = not_astray y.0 y.2 in
            (seen_aged z W C absent f0) y.0 (suc (M z C absent f0)) y.1 (gone_absent y.0 y.1 q.0) (aged_in z W C Q N top far odd last f0 y.0 (suc (M z C absent f0)) q.1 (H.lasts.near y.0 (suc (M z C absent f0)) y.1 y.3 i))

        go : (x : Bool) → ltb (suc (M z C absent f0)) top ≡ x → top ≤ suc (M z C absent f0)
        go true e = absurd (omega (arith, near (ltb-true (suc (M z C absent f0)) top e)))
        go false e = ltb-false (suc (M z C absent f0)) top e

    next_narrow : (g : ℕ) → M z C absent f0 < g → Within (belief z (next z C absent f0 g)) (belief z Q) ⊎ ((Q.generation < g) × Within (belief z (next z C absent f0 g)) (belief z N))
    next_narrow g i =
        let h = without_narrow z (L z C absent f0) (gone z C absent f0) g in
        ⊎_elim (λ n. inl (within_trans (belief z (next z C absent f0 g)) (belief z (L z C absent f0)) (belief z Q) h n)) (λ n. inr (omega (arith, M_low), within_trans (belief z (next z C absent f0 g)) (belief z (L z C absent f0)) (belief z N) h n.1)) L_ok.narrow

    next_ok : (g : ℕ) → M z C absent f0 < g → MayRule z W C Q N (next z C absent f0 g)
    next_ok g i = record { few_out = enough; same_out = λ e. absurd (omega (arith, M_low)); narrow = next_narrow g i }

    -- L with a greater generation rules as L does
    again_ok : (g : ℕ) → M z C absent f0 < g → MayRule z W C Q N (again (L z C absent f0) g)
    unfolding belief
    again_ok g i =
        record {
          few_out = L_ok.few_out;
          same_out = λ e. absurd (omega (arith, M_low));
          narrow = ⊎_elim (λ n. inl (record { look_in = n.look_in; believe_in = n.believe_in })) (λ n. inr (omega (arith, M_low), record { look_in = n.1.look_in; believe_in = n.1.believe_in })) L_ok.narrow;
        }

    -- the slots that take part are those that are not gone
    of_parts : (d : ℕ) → Memᴰ d (parts z C absent f0) → (d < z.n) × (gone z C absent f0 d ≡ false)
    of_parts d m = let y = of_slots (λ x. not (gone z C absent f0 x)) z.n d m in (y.0, not-true (gone z C absent f0 d) y.1)

    -- whoever is not gone gets each of the three labels
    in_level : (d : ℕ) → d < z.n → gone z C absent f0 d ≡ false → Memᴰ d (level_to z C absent f0)
    unfolding level_to
    in_level d i e = in_slots (λ x. not (gone z C absent f0 x)) z.n d i (rw e)

    in_again : (d : ℕ) → d < z.n → gone z C absent f0 d ≡ false → Memᴰ d (again_to z C absent f0)
    unfolding again_to
    in_again d i e = in_slots (λ x. not (gone z C absent f0 x)) z.n d i (rw e)

    in_last : (d : ℕ) → d < z.n → gone z C absent f0 d ≡ false → Memᴰ d (last_to z C absent f0)
    unfolding last_to
    in_last d i e = in_slots (λ x. not (gone z C absent f0 x)) z.n d i (rw e)

    -- and nobody else
    of_level : (d : ℕ) → Memᴰ d (level_to z C absent f0) → (d < z.n) × (gone z C absent f0 d ≡ false)
    unfolding level_to
    of_level d m = of_parts d m

    of_again : (d : ℕ) → Memᴰ d (again_to z C absent f0) → (d < z.n) × (gone z C absent f0 d ≡ false)
    unfolding again_to
    of_again d m = of_parts d m

    -- a stale slot is out in the settled label
    late_out : (d : ℕ) → Memᴰ d (late z C absent f0) → ((L z C absent f0).out d || gone z C absent f0 d) ≡ true
    unfolding gone
    late_out d m =
        let y = of_slots (λ x. not (absent x) && stale z C absent f0 x) z.n d m in
        let e : stale z C absent f0 d ≡ true = (both (not (absent d)) (stale z C absent f0 d) y.1).1 in
        let i : ltb d z.n ≡ true = lt-ltb d z.n y.0 in
        rw (e, i, or-true) (or-true ((L z C absent f0).out d))

    in_gone : (d : ℕ) → ((L z C absent f0).out d || gone z C absent f0 d) ≡ false → gone z C absent f0 d ≡ false
    in_gone d h = go ((L z C absent f0).out d) (gone z C absent f0 d) h
      where
        go : (x y : Bool) → (x || y) ≡ false → y ≡ false
        go true y q = absurd (true≢false q)
        go false y q = q

    -- on what the settled label looks at, the bays hold what the last disks held
    settled_agrees : (f : Image X) → Same f0 f → Agrees (belief z (settled z W C absent f0 odd last Q N top far H M_low all_labelled enough fits1 fits1' fits2)) (front odd last f0) f
    unfolding belief
    settled_agrees f s =
        record {
          on_log = λ d j a. s.logs d j ∙ sym (front_in odd last f0 (log d j) (in_place d a));
          on_strip_lem = λ d t j a. s.strips d t j ∙ sym (front_in odd last f0 (strip d t j) (in_place d a));
        }
      where
        in_place : (d : ℕ) → looked z (settled z W C absent f0 odd last Q N top far H M_low all_labelled enough fits1 fits1' fits2) d ≡ true → odd d ≡ false
        in_place d a = go (odd d) refl
          where
            go : (b : Bool) → odd d ≡ b → odd d ≡ false
            go true e = absurd (odd_next (suc (suc (M z C absent f0))) d e a)
            go false e = e

    -- D under the new label, from what it was under Q or N when start-up read the disks
    pub settled_D : (D : Belief → Image X → Type 0) → Framed D → D (belief z Q) (front odd last f0) → D (belief z N) (front odd last f0) → (f : Image X) → Same f0 f → D (belief z (settled z W C absent f0 odd last Q N top far H M_low all_labelled enough fits1 fits1' fits2)) f
    unfolding Framed
    settled_D D fr a b f s =
        let g = settled_agrees f s in
        ⊎_elim (λ i. fr (belief z Q) (belief z (settled z W C absent f0 odd last Q N top far H M_low all_labelled enough fits1 fits1' fits2)) i (front odd last f0) f g a) (λ i. fr (belief z N) (belief z (settled z W C absent f0 odd last Q N top far H M_low all_labelled enough fits1 fits1' fits2)) i.1 (front odd last f0) f g b) (next_narrow (suc (suc (M z C absent f0))) (omega arith))

    pub settles : Settles z odd Q N top (settled z W C absent f0 odd last Q N top far H M_low all_labelled enough fits1 fits1' fits2)
    unfolding belief
    settles =
        record {
          over_Q = omega (arith, M_low);
          over_top = omega (arith, M_near);
          dark = odd_next (suc (suc (M z C absent f0)));
          inner = λ d a. ⊎_elim (λ n. inl (n.look_in d a)) (λ n. inr (n.1.look_in d a)) (next_narrow (suc (suc (M z C absent f0))) (omega arith));
        }

    -- THE ROUNDS. Until the last of them is flushed, Q and N stand, on the last disks; then the label is settled, on the disks in the bays.
    pub rounds_safe : (P : Image X → Type 0) → ((t : ℕ) (fr : ℕ → Bool) (f : Image X) → top ≤ t → Bays z W C Q N t fr odd last f → Same f0 f → P f) → ((f : Image X) → Labels z W C (settled z W C absent f0 odd last Q N top far H M_low all_labelled enough fits1 fits1' fits2) (settled z W C absent f0 odd last Q N top far H M_low all_labelled enough fits1 fits1' fits2) (settled z W C absent f0 odd last Q N top far H M_low all_labelled enough fits1 fits1' fits2).generation (settled z W C absent f0 odd last Q N top far H M_low all_labelled enough fits1 fits1' fits2).out f → Same f0 f → P f) → (w : World X) → Sane w → Always w (λ f. Bays z W C Q N top far odd last f × Same f0 f) → During w (rounds z C absent f0) P × Always (run w (rounds z C absent f0)) (λ f. Labels z W C (settled z W C absent f0 odd last Q N top far H M_low all_labelled enough fits1 fits1' fits2) (settled z W C absent f0 odd last Q N top far H M_low all_labelled enough fits1 fits1' fits2) (settled z W C absent f0 odd last Q N top far H M_low all_labelled enough fits1 fits1' fits2).generation (settled z W C absent f0 odd last Q N top far H M_low all_labelled enough fits1 fits1' fits2).out f × Same f0 f)
    unfolding rounds Bare last_to
    rounds_safe P before later w sane start =
        let m = M z C absent f0 in
        let l = L z C absent f0 in
        let l1 = again l (suc m) in
        let l2 = next z C absent f0 (suc (suc m)) in
        let p1 = level_to z C absent f0 in
        let p2 = again_to z C absent f0 in
        let p3 = last_to z C absent f0 in
        let ls = late z C absent f0 in
        let sb = same_bare z W C f0 in
        let A1 = round C l p1 in
        let A2 = round C l1 p2 in
        let A3 = round C l2 p3 in
        let A4 = prep C f0 (suc m) l2 ls in
        let A5 = round C l2 ls in
        let w1 = run w A1 in
        let w2 = run w1 A2 in
        let w3 = run w2 A3 in
        let w4 = run w3 A4 in
        let s1 = sane_run w A1 sane in
        let s2 = sane_run w1 A2 s1 in
        let s3 = sane_run w2 A3 s2 in
        let s4 = sane_run w3 A4 s3 in
        let e = L_generation in
        let P1 : Image X → Type 0 = λ f. Bays z W C Q N top far odd last f × Same f0 f in
        let P2 : Image X → Type 0 = λ f. Bays z W C Q N (suc m) (astray z W C absent f0 odd last Q N top far H M_low all_labelled enough fits1 fits1' fits2) odd last f × Same f0 f in
        let P3 : Image X → Type 0 = λ f. Bays z W C Q N (suc (suc m)) (astray z W C absent f0 odd last Q N top far H M_low all_labelled enough fits1 fits1' fits2) odd last f × Same f0 f × Only z W C (suc (suc m)) l2 f in
        let P4 : Image X → Type 0 = λ f. Labels z W C l2 l2 (suc (suc m)) l2.out f × Same f0 f in
        let r1 = round_keeps C P1 l p1 w sane L_fits (λ d x f o. (bays_put z W C Q N top far odd last f l d L_fits (omega (arith, M_low, e)) L_top (omega (arith, M_near, e)) L_ok (odd_L d (of_level d x).0 (of_level d x).1) o.0, sb f d (C.side l.generation) (C.encode d l) o.1)) start in
        let t2 : Always w1 P2 =
        always_map (λ f. P1 f × ((d g : ℕ) → Memᴰ d p1 → d < z.n → g ≤ l.generation → Aged C f d g)) P2 w1
        (λ f o. (bays_rise z W C Q N top far odd last (suc m) (astray z W C absent f0 odd last Q N top far H M_low all_labelled enough fits1 fits1' fits2) f M_near few_astray (λ d g i x j. let q = not_astray d x in (q.1, o.1 d g (in_level d i q.0) i (omega (arith, e)))) o.0.0, o.0.1)) r1.1 in
        let r2 = round_keeps C P2 l1 p2 w1 s1 fits1 (λ d x f o. (bays_put z W C Q N (suc m) (astray z W C absent f0 odd last Q N top far H M_low all_labelled enough fits1 fits1' fits2) odd last f l1 d fits1 (omega (arith, M_low)) (omega arith) (omega arith) (again_ok (suc m) (omega arith)) (odd_L d (of_again d x).0 (of_again d x).1) o.0, sb f d (C.side (suc m)) (C.encode d l1) o.1)) t2 in
        let t3 : Always w2 P3 =
        always_map (λ f. P2 f × ((d g : ℕ) → Memᴰ d p2 → d < z.n → g ≤ suc m → Aged C f d g)) P3 w2
        (λ f o. (
          bays_rise z W C Q N (suc m) (astray z W C absent f0 odd last Q N top far H M_low all_labelled enough fits1 fits1' fits2) odd last (suc (suc m)) (astray z W C absent f0 odd last Q N top far H M_low all_labelled enough fits1 fits1' fits2) f (omega arith) few_astray (λ d g i x j. let q = not_astray d x in (q.1, o.1 d g (in_again d i q.0) i (omega arith))) o.0.0,
          o.0.1,
          only_start z W C (suc m) (suc (suc m)) l2 f (omega arith) (bays_cap z W C Q N (suc m) (astray z W C absent f0 odd last Q N top far H M_low all_labelled enough fits1 fits1' fits2) odd last f o.0.0),
        )) r2.1 in
        let r3 = round_keeps C P3 l2 p3 w2 s2 fits2 (λ d x f o. (
          bays_put z W C Q N (suc (suc m)) (astray z W C absent f0 odd last Q N top far H M_low all_labelled enough fits1 fits1' fits2) odd last f l2 d fits2 (omega (arith, M_low)) (omega arith) (omega arith) (next_ok (suc (suc m)) (omega arith)) (odd_next (suc (suc m)) d) o.0,
          sb f d (C.side (suc (suc m))) (C.encode d l2) o.1,
          only_put z W C (suc (suc m)) l2 d f fits2 o.2,
        )) t3 in
        let t4 : Always w3 P4 =
        always_map (λ f. P3 f × ((d g : ℕ) → Memᴰ d p3 → d < z.n → g ≤ suc (suc m) → Aged C f d g)) P4 w3
        (λ f o. (labels_settle z W C l2 f enough (λ d g i x j. o.1 d g (in_last d i (in_gone d x)) i j) o.0.2 (bays_cap z W C Q N (suc (suc m)) (astray z W C absent f0 odd last Q N top far H M_low all_labelled enough fits1 fits1' fits2) odd last f o.0.0), o.0.1)) r3.1 in
        let r4 = prep_safe z W C l2 l2 (suc (suc m)) l2.out f0 (suc m) l2 ls (Same f0) sb w3 s3 fits1' (omega arith) (λ q. absurd (omega arith)) (λ d x. (late_out d x, late_out d x)) t4 in
        let r5 = round_safe z W C l2 l2 (suc (suc m)) l2.out l2 ls (Same f0) sb w4 s4 fits2 (omega arith) (omega arith) (omega arith) (rules_self z W C l2 enough) r4.1 in
        let u1 = during_map P1 P w A1 (λ f y. before top far f (omega arith) y.0 y.1) r1.0 in
        let u2 = during_map P2 P w1 A2 (λ f y. before (suc m) (astray z W C absent f0 odd last Q N top far H M_low all_labelled enough fits1 fits1' fits2) f M_near y.0 y.1) r2.0 in
        let u3 = during_map P3 P w2 A3 (λ f y. before (suc (suc m)) (astray z W C absent f0 odd last Q N top far H M_low all_labelled enough fits1 fits1' fits2) f (omega (arith, M_near)) y.0 y.1) r3.0 in
        let u4 = during_map P4 P w3 A4 (λ f y. later f y.0 y.1) r4.0 in
        let u5 = during_map P4 P w4 A5 (λ f y. later f y.0 y.1) r5.0 in
        let v4 = during_append P w3 A4 A5 u4 u5 in
        let v3 = during_append P w2 A3 (A4 ++ A5) u3 v4 in
        let v2 = during_append P w1 A2 (A3 ++ (A4 ++ A5)) u2 v3 in
        let v1 = during_append P w A1 (A2 ++ (A3 ++ (A4 ++ A5))) u1 v2 in
        (v1, rw (run_append w A1 (A2 ++ (A3 ++ (A4 ++ A5))), run_append w1 A2 (A3 ++ (A4 ++ A5)), run_append w2 A3 (A4 ++ A5), run_append w3 A4 A5) (always_map (λ f. P4 f × ((d g : ℕ) → Memᴰ d ls → d < z.n → g ≤ suc (suc m) → Aged C f d g)) P4 (run w4 A5) (λ f o. o.0) r5.1))
