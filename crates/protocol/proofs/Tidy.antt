-- EVERY DISK HAS THE C6 SHAPE AT EVERY MOMENT, as long as every disk that is put in has it (one without a label of this shelf has it, and an older disk of the shelf kept it).
use Rattle.std.specs.Prelude.{ℕ, zero, suc, ◌≤◌, ◌<◌, ◌≡◌, Bool, ◌&&◌, ◌||◌, ◌⊎◌, ◌≢◌, ltb}
use Rattle.std.proofs.Math.Path.{refl}
use Rattle.std.proofs.Common.{sym, ap, subst, ◌∙◌, true≢false, ⊎_elim, inl, inr, arith, ltb-true, lt-ltb}
use Rattle.std.proofs.Math.Bool.{true, false, not, or-true}
use Rattle.std.proofs.lemmas.Bool.{false≢true, not-true}
use mathlib.Core.List.{◌++◌, Memᴰ}
use Rattle.std.proofs.Math.Decide.{ℕ_discrete}
use Rattle.protocol.proofs.Told.{rounds_told}
use Rattle.protocol.specs.World.{label, slot, Image, update, update_other, run, after, Always, During, sane_after, sane_run, always_after, always_map, during_map, during_end, during_append, run_append}
use Rattle.protocol.specs.Batch.{each_during}
use Rattle.protocol.specs.Slots.{from, in_from, in_slots, of_slots, every_of, leader_top}
use Rattle.protocol.specs.Log.{RecordCodec}
use Rattle.protocol.specs.Write.{both}
use Rattle.protocol.specs.Redo.{redo}
use Rattle.protocol.specs.Label.{Label, again, Size, belief, Quorum, LabelCodec, copy, round, prep}
use Rattle.protocol.specs.Startup.{behind, disowned, newest, newest_is, newest_top, seen, stale, gone, parts, late, level_to, again_to, last_to, rounds, L, M, L_valid}
use Rattle.protocol.proofs.Startup.{behind_false, gone_absent, M_positive}
use Rattle.protocol.specs.Decide.{Touch, Looked, startup, Accepted}
use Rattle.protocol.proofs.Decide.{redo_each, turn_run, turn_during}
use Rattle.protocol.specs.Shape.{not_not, copy_side, shape_same, Low, Top, ShapesBy}
use Rattle.protocol.proofs.Shape.{round_shape, prep_shape}
use Rattle.protocol.specs.Tidy.{has_low, labels_kept, top_same, Aside, m, l2, Parts, Everyone}

module _ {X : Type 0} (z : Size) (W : Quorum z.n) (C : LabelCodec X z.n) (K : RecordCodec X) where
  -- START-UP, on disks that have the shape
  module _ (A : ℕ → Bool) (f0 : Image X) (ok : Accepted z W C A f0) (strict : Bool) (h0 : ShapesBy C strict f0) where
    few_gone : W.few (gone z C A f0) ≡ true
    few_gone = W.part (gone z C A f0) (λ d. (L z C A f0).out d || gone z C A f0 d) (λ d i e. rw (e, or-true)) ok.enough

    some : 0 < M z C A f0
    some = M_positive z W C A f0 ok.labels_there few_gone

    -- whoever takes part is at most one behind
    module _ (g0 : ℕ) (M0 : M z C A f0 ≡ suc g0) where
      part_low : (d : ℕ) → d < z.n → gone z C A f0 d ≡ false → Low C f0 d g0
      unfolding gone
      part_low d i e = near (newest_is z W C A f0 d) (ℕ_discrete (newest z C A f0 d).generation (M z C A f0))
        where
          here : A d ≡ false
          here = gone_absent z W C A f0 d i e

          seen_is : seen z C A f0 d ≡ (newest z C A f0 d).generation
          seen_is = rw here

          top : (newest z C A f0 d).generation ≤ M z C A f0
          top = omega (arith, leader_top (seen z C A f0) z.n d i, seen_is)

          fresh : stale z C A f0 d ≡ false
          fresh = go (ltb d z.n) (lt-ltb d z.n i) (A d) here (stale z C A f0 d) e
            where
              go : (x : Bool) → x ≡ true → (y : Bool) → y ≡ false → (s : Bool) → (x && (y || s)) ≡ false → s ≡ false
              go true p true q s r = absurd (true≢false q)
              go true p false q s r = r
              go false p y q s r = absurd (false≢true p)

          close : M z C A f0 ≤ suc (newest z C A f0 d).generation
          close = omega (arith, seen_is, behind_false (seen z C A f0 d) (M z C A f0) (first_false (behind (seen z C A f0 d) (M z C A f0)) (disowned (newest z C A f0 d) (L z C A f0) d) fresh))
            where
              first_false : (x y : Bool) → (x || y) ≡ false → x ≡ false
              first_false true y q = absurd (true≢false q)
              first_false false y q = refl

          there : 0 < (newest z C A f0 d).generation
          there = omega (arith, seen_is, ltb-true 0 (seen z C A f0 d) (labelled_one (A d) here (ltb 0 (seen z C A f0 d)) (every_of (λ x. A x || ltb 0 (seen z C A f0 x)) (from 0 z.n) ok.labels_there d (in_from z.n 0 d (omega arith) (omega arith)))))
            where
              labelled_one : (x : Bool) → x ≡ false → (y : Bool) → (x || y) ≡ true → y ≡ true
              labelled_one true p y q = absurd (true≢false p)
              labelled_one false p y q = q

          at : (b : Bool) → newest z C A f0 d ≡ copy C f0 d b → b ≡ C.side (newest z C A f0 d).generation
          at b q = copy_side C f0 d b (subst (λ (l : Label). 0 < l.generation) q there) ∙ ap (λ (l : Label). C.side l.generation) (sym q)

          near : (b : Bool) × (newest z C A f0 d ≡ copy C f0 d b) → Dec ((newest z C A f0 d).generation ≡ M z C A f0) → Low C f0 d g0
          near (b, q) (yes m) =
              let s : b ≡ C.side (suc g0) = at b q ∙ ap C.side (m ∙ M0) in
              let o : not b ≡ C.side g0 = ap not (s ∙ C.side_next g0) ∙ not_not (C.side g0) in
              let gb : (copy C f0 d b).generation ≡ suc g0 = ap (λ (l : Label). l.generation) (sym q) ∙ (m ∙ M0) in
              subst (λ (y : Bool). (f0 (label d y) ≡ C.zeros) ⊎ ((0 < g0) × ((copy C f0 d y).generation ≡ g0))) o
              (⊎_elim inl (λ p. ⊎_elim (λ y. inr (omega (arith, gb, y, p), omega (arith, gb, y))) (λ y. absurd (omega (arith, gb, y, newest_top z W C A f0 d (not b), m, M0))) ((h0 d i).follow b (omega (arith, gb)) p)) ((h0 d i).calm (not b) (inr (omega (arith, gb, ap (λ (y : Bool). (copy C f0 d y).generation) (not_not b))))))
          near (b, q) (no m) =
              let e1 : (newest z C A f0 d).generation ≡ g0 = omega (arith, close, top, M0) in
              inr (omega (arith, there, e1), subst (λ (y : Bool). (copy C f0 d y).generation ≡ g0) (at b q ∙ ap C.side e1) (ap (λ (l : Label). l.generation) (sym q) ∙ e1))

    gone_true : (d : ℕ) → d < z.n → A d ≡ false → gone z C A f0 d ≡ true → stale z C A f0 d ≡ true
    unfolding gone
    gone_true d i a g = go (ltb d z.n) (A d) a (stale z C A f0 d) g
      where
        go : (x y : Bool) → y ≡ false → (s : Bool) → (x && (y || s)) ≡ true → s ≡ true
        go true true q s r = absurd (true≢false q)
        go true false q s r = r
        go false y q s r = absurd (false≢true r)

    stale_gone : (d : ℕ) → d < z.n → stale z C A f0 d ≡ true → gone z C A f0 d ≡ true
    unfolding gone
    stale_gone d i s = rw (lt-ltb d z.n i, s, or-true)

    not_and : (x y : Bool) → x ≡ false → y ≡ true → (not x && y) ≡ true
    not_and true y p q = absurd (true≢false p)
    not_and false y p q = q

    part_in : (d : ℕ) → Memᴰ d (parts z C A f0) → (d < z.n) × (gone z C A f0 d ≡ false)
    part_in d m = let y = of_slots (λ e. not (gone z C A f0 e)) z.n d m in (y.0, not-true (gone z C A f0 d) y.1)

    late_in : (d : ℕ) → Memᴰ d (late z C A f0) → (d < z.n) × (gone z C A f0 d ≡ true)
    late_in d m = let y = of_slots (λ e. not (A e) && stale z C A f0 e) z.n d m in (y.0, stale_gone d y.0 (both (not (A d)) (stale z C A f0 d) y.1).1)

    apart : (d e : ℕ) → Memᴰ d (parts z C A f0) → Memᴰ e (late z C A f0) → e ≢ d
    apart d e m l q = true≢false (sym (late_in e l).1 ∙ (ap (gone z C A f0) q ∙ (part_in d m).1))

    aside_put : (f : Image X) (d : ℕ) (b : Bool) (x : X) → Memᴰ d (parts z C A f0) → (Aside z W C K A f0 ok strict h0) f → (Aside z W C K A f0 ok strict h0) (update f (label d b) x)
    aside_put f d b x m h e s l = update_other f (label d b) x (label e s) (λ q. apart d e m l (ap slot q)) ∙ h e s l

    parts_put : (f : Image X) (d : ℕ) (b : Bool) (x : X) → Memᴰ d (late z C A f0) → (Parts z W C K A f0 ok strict h0) f → (Parts z W C K A f0 ok strict h0) (update f (label d b) x)
    parts_put f d b x l h e p = (top_same z W C K) f (update f (label d b) x) e (suc (m z W C K A f0 ok strict h0)) (λ s. update_other f (label d b) x (label e s) (λ q. apart e d p l (sym (ap slot q)))) (h e p)

    rounds_shape : During (after f0) (rounds z C A f0) (ShapesBy C strict) × Always (run (after f0) (rounds z C A f0)) (λ f. ShapesBy C strict f × (Everyone z W C K A f0 ok strict h0) f)
    unfolding rounds level_to again_to last_to
    rounds_shape =
        let told = rounds_told in
        go (m z W C K A f0 ok strict h0) refl
      where
        everybody : (f : Image X) → ((d : ℕ) → Memᴰ d (late z C A f0) → Top C f d (suc (m z W C K A f0 ok strict h0))) → (Parts z W C K A f0 ok strict h0) f → (d : ℕ) → d < z.n → A d ≡ false → (b : Bool) → gone z C A f0 d ≡ b → Top C f d (suc (m z W C K A f0 ok strict h0))
        everybody f ls ps d i a true e = ls d (in_slots (λ x. not (A x) && stale z C A f0 x) z.n d i (not_and (A d) (stale z C A f0 d) a (gone_true d i a e)))
        everybody f ls ps d i a false e = ps d (in_slots (λ x. not (gone z C A f0 x)) z.n d i (rw e))

        go : (a : ℕ) → M z C A f0 ≡ a → During (after f0) (rounds z C A f0) (ShapesBy C strict) × Always (run (after f0) (rounds z C A f0)) (λ f. ShapesBy C strict f × (Everyone z W C K A f0 ok strict h0) f)
        go zero e = absurd (omega (arith, some, e))
        go (suc g0) e =
            let P = ShapesBy C strict in
            let ps = parts z C A f0 in
            let ls = late z C A f0 in
            let l = L z C A f0 in
            let l1 = again l (suc (m z W C K A f0 ok strict h0)) in
            let valid = L_valid z W C A f0 some in
            let A1 = round C l ps in
            let A2 = round C l1 ps in
            let A3 = round C (l2 z W C K A f0 ok strict h0) ps in
            let A4 = prep C f0 (suc (m z W C K A f0 ok strict h0)) (l2 z W C K A f0 ok strict h0) ls in
            let A5 = round C (l2 z W C K A f0 ok strict h0) ls in
            let w = after f0 in
            let w1 = run w A1 in
            let w2 = run w1 A2 in
            let w3 = run w2 A3 in
            let w4 = run w3 A4 in
            let s0 = sane_after f0 in
            let s1 = sane_run w A1 s0 in
            let s2 = sane_run w1 A2 s1 in
            let s3 = sane_run w2 A3 s2 in
            let s4 = sane_run w3 A4 s3 in
            let r1 = round_shape C strict l g0 ps (Aside z W C K A f0 ok strict h0) aside_put (valid.0 ∙ e) valid.1 (λ d x. (part_in d x).0) w s0
            (always_after (λ f. P f × ((d : ℕ) → Memᴰ d ps → Low C f d g0) × (Aside z W C K A f0 ok strict h0) f) f0 (h0, (λ d x. let y = part_in d x in part_low g0 e d y.0 y.1), λ d b x. refl)) in
            let t2 : Always w1 (λ f. P f × ((d : ℕ) → Memᴰ d ps → Low C f d (m z W C K A f0 ok strict h0)) × (Aside z W C K A f0 ok strict h0) f) =
            always_map (λ f. P f × ((d : ℕ) → Memᴰ d ps → Top C f d g0) × (Aside z W C K A f0 ok strict h0) f) (λ f. P f × ((d : ℕ) → Memᴰ d ps → Low C f d (m z W C K A f0 ok strict h0)) × (Aside z W C K A f0 ok strict h0) f) w1 (λ f o. (o.0, (λ d x. (has_low z W C K) f d (m z W C K A f0 ok strict h0) (g0, e, o.1 d x)), o.2)) r1.1 in
            let r2 = round_shape C strict l1 (m z W C K A f0 ok strict h0) ps (Aside z W C K A f0 ok strict h0) aside_put refl ok.fits1 (λ d x. (part_in d x).0) w1 s1 t2 in
            let t3 : Always w2 (λ f. P f × ((d : ℕ) → Memᴰ d ps → Low C f d (suc (m z W C K A f0 ok strict h0))) × (Aside z W C K A f0 ok strict h0) f) =
            always_map (λ f. P f × ((d : ℕ) → Memᴰ d ps → Top C f d (m z W C K A f0 ok strict h0)) × (Aside z W C K A f0 ok strict h0) f) (λ f. P f × ((d : ℕ) → Memᴰ d ps → Low C f d (suc (m z W C K A f0 ok strict h0))) × (Aside z W C K A f0 ok strict h0) f) w2 (λ f o. (o.0, (λ d x. (has_low z W C K) f d (suc (m z W C K A f0 ok strict h0)) ((m z W C K A f0 ok strict h0), refl, o.1 d x)), o.2)) r2.1 in
            let r3 = round_shape C strict (l2 z W C K A f0 ok strict h0) (suc (m z W C K A f0 ok strict h0)) ps (Aside z W C K A f0 ok strict h0) aside_put refl ok.fits2 (λ d x. (part_in d x).0) w2 s2 t3 in
            let t4 : Always w3 (λ f. P f × ((d : ℕ) (b : Bool) → Memᴰ d ls → f (label d b) ≡ f0 (label d b)) × (Parts z W C K A f0 ok strict h0) f) =
            always_map (λ f. P f × ((d : ℕ) → Memᴰ d ps → Top C f d (suc (m z W C K A f0 ok strict h0))) × (Aside z W C K A f0 ok strict h0) f) (λ f. P f × ((d : ℕ) (b : Bool) → Memᴰ d ls → f (label d b) ≡ f0 (label d b)) × (Parts z W C K A f0 ok strict h0) f) w3 (λ f o. (o.0, o.2, o.1)) r3.1 in
            let r4 = prep_shape C strict f0 (suc (m z W C K A f0 ok strict h0)) (l2 z W C K A f0 ok strict h0) ls (Parts z W C K A f0 ok strict h0) parts_put (omega arith) ok.fits1' (λ d x. (late_in d x).0) w3 s3 t4 in
            let r5 = round_shape C strict (l2 z W C K A f0 ok strict h0) (suc (m z W C K A f0 ok strict h0)) ls (Parts z W C K A f0 ok strict h0) parts_put refl ok.fits2 (λ d x. (late_in d x).0) w4 s4 r4.1 in
            let u1 = during_map (λ f. P f × (Aside z W C K A f0 ok strict h0) f) P w A1 (λ f o. o.0) r1.0 in
            let u2 = during_map (λ f. P f × (Aside z W C K A f0 ok strict h0) f) P w1 A2 (λ f o. o.0) r2.0 in
            let u3 = during_map (λ f. P f × (Aside z W C K A f0 ok strict h0) f) P w2 A3 (λ f o. o.0) r3.0 in
            let u4 = during_map (λ f. P f × (Parts z W C K A f0 ok strict h0) f) P w3 A4 (λ f o. o.0) r4.0 in
            let u5 = during_map (λ f. P f × (Parts z W C K A f0 ok strict h0) f) P w4 A5 (λ f o. o.0) r5.0 in (
              during_append P w A1 (A2 ++ (A3 ++ (A4 ++ A5))) u1 (during_append P w1 A2 (A3 ++ (A4 ++ A5)) u2 (during_append P w2 A3 (A4 ++ A5) u3 (during_append P w3 A4 A5 u4 u5))),
              rw (run_append w A1 (A2 ++ (A3 ++ (A4 ++ A5))), run_append w1 A2 (A3 ++ (A4 ++ A5)), run_append w2 A3 (A4 ++ A5), run_append w3 A4 A5)
                  (always_map (λ f. P f × ((d : ℕ) → Memᴰ d ls → Top C f d (suc (m z W C K A f0 ok strict h0))) × (Parts z W C K A f0 ok strict h0) f) (λ f. P f × (Everyone z W C K A f0 ok strict h0) f) (run w4 A5) (λ f o. (o.0, λ d i a. everybody f o.1 o.2 d i a (gone z C A f0 d) refl)) r5.1),
            )

    -- the log part puts no label
    pub start_shape : During (after f0) (startup z C K A f0) (ShapesBy C strict) × Always (run (after f0) (startup z C K A f0)) (λ f. ShapesBy C strict f × (Everyone z W C K A f0 ok strict h0) f)
    unfolding startup Touch
    start_shape =
        let P : Image X → Type 0 = λ f. ShapesBy C strict f × (Everyone z W C K A f0 ok strict h0) f in
        let B = belief z (l2 z W C K A f0 ok strict h0) in
        let w1 = run (after f0) (rounds z C A f0) in
        let acts = redo K B f0 in
        let r = rounds_shape in
        let a : During w1 acts P = each_during (Touch B) (Looked B) P (λ f k v t o. ((λ d i. shape_same C strict f (update f k v) d (λ b. (labels_kept z W C K) f k v t.0 d b) (o.0 d i)), λ d i x. (top_same z W C K) f (update f k v) d (suc (m z W C K A f0 ok strict h0)) (λ b. (labels_kept z W C K) f k v t.0 d b) (o.1 d i x))) w1 acts (sane_run (after f0) (rounds z C A f0) (sane_after f0)) r.1 (redo_each K B f0) in
        (turn_during (ShapesBy C strict) (after f0) (rounds z C A f0) acts r.0 (during_map P (ShapesBy C strict) w1 acts (λ f o. o.0) a), rw turn_run (during_end P w1 acts a))
