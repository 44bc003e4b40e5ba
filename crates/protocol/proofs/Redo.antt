-- The log part of start-up. Its list of actions is computed from what is read, f0, once the label is settled: the greatest stamp among the
-- tails decides. Complete on every believed slot that its write changes: forward. Otherwise: kill.
use Prim.Native.Nat.{ℕ, zero, suc, ◌≤◌, ◌<◌}
use Rattle.std.proofs.Math.Path.{◌≡◌, refl, sym, ap, ap₂, fun_ext}
use Rattle.std.proofs.Common.{subst, ◌∙◌, arith}
use Rattle.std.proofs.Math.Bool.{Bool, true}
use Rattle.std.specs.Prelude.{false, cond, ◌&&◌, ◌⊎◌, ◌≢◌}
use Rattle.std.proofs.lemmas.Bool.{false≢true}
use Rattle.std.proofs.Math.Logic.{⊎_elim, inl, inr}
use mathlib.Core.List.{List, [], ◌∷◌, Memᴰ}
use Rattle.std.proofs.Math.Decide.{ℕ_discrete}
use Rattle.std.proofs.Math.Dec.{eqb}
use borrow.Author.Tests.{eq-eqb, ne_eqb, eqb-true}
use Rattle.protocol.specs.World.{Place, log, strip, Image, update, update_other, update_cases, World, Action, run, Sane, Always, During, always_map, during_map}
use Rattle.protocol.specs.Batch.{Kept, Covered, Done, stage}
use Rattle.protocol.specs.Slots.{in_from, of_from, in_slots, in_rows, of_rows, rows_slots, every_of, every_all}
use Rattle.protocol.specs.Log.{Write, RecordCodec, Belief, Table, Wrote, Complete, Logs, Old, New, Quiet, Fit, old_log, old_strip, old_new, old_quiet, Agrees, old_frame, new_frame}
use Rattle.protocol.specs.Write.{involved, store, store_batch, stored_sectors, stored_of, Mid}
use Rattle.protocol.proofs.Write.{in_involved, of_involved, strips_safe}
use Rattle.protocol.specs.Redo.{compared_sectors, key, lead, tail, complete_b, whole, decision, redone, forward, marked, kill_batch, kill, redo, key_top, key_seen, the_stripe, the_changes, the_strip, Tails, Redone}

-- a record is complete when the stamps of all these sectors are equal
module _ {X : Type 0} (K : RecordCodec X) where
  compared_in : (j : ℕ) → j ≤ K.c → Memᴰ j (compared_sectors K)
  unfolding compared_sectors
  compared_in j h = in_from (suc K.c) 0 j (omega arith) (omega arith)

  compared_of : (j : ℕ) → Memᴰ j (compared_sectors K) → j ≤ K.c
  unfolding compared_sectors
  compared_of j m = omega (arith, of_from (suc K.c) 0 j m)

module _ {X : Type 0} (K : RecordCodec X) (B : Belief) (history : ℕ → Write X) (f0 : Image X) where
  complete_b_of : (τ d : ℕ) → complete_b K B f0 τ d ≡ true → Complete K f0 d τ
  unfolding complete_b Complete
  complete_b_of τ d h j g = eqb-true _ _ (every_of (λ i. eqb (K.stamp (f0 (log d i))) τ) (compared_sectors K) h j (compared_in K j (omega arith)))

  pub complete_b_is : (τ d : ℕ) → Complete K f0 d τ → complete_b K B f0 τ d ≡ true
  unfolding complete_b Complete
  complete_b_is τ d h = every_all (λ i. eqb (K.stamp (f0 (log d i))) τ) (compared_sectors K) (λ j m. eq-eqb _ _ (h j (compared_of K j m)))

  tails_of : (f : Image X) → (Tails K B history f0) f → (d κ : ℕ) → B.look d ≡ true → Complete K f d (suc κ) → K.stamp (f0 (log d K.c)) ≡ suc κ
  unfolding Tails Complete
  tails_of f t d κ a p =
      let z : K.stamp (f (log d K.c)) ≡ suc κ = p K.c (omega arith) in
      ⊎_elim (λ q. ap K.stamp (sym q) ∙ z) (λ q. absurd (omega (arith, sym z ∙ ap K.stamp q ∙ K.stamp_zeros))) (t d a)

  tails_strip : (f : Image X) (d t j : ℕ) (x : X) → (Tails K B history f0) f → (Tails K B history f0) (update f (strip d t j) x)
  unfolding Tails
  tails_strip f d t j x h e a = rw (update_other f (strip d t j) x (log e K.c) (λ q. let z : ◌≡◌ {A = ℕ} 0 1 = cc in omega arith)) (h e a)

  tails_zero : (f : Image X) (d : ℕ) → (Tails K B history f0) f → (Tails K B history f0) (update f (log d K.c) K.zeros)
  unfolding Tails
  tails_zero f d h e a = update_cases f (log d K.c) K.zeros (λ y. (y ≡ f0 (log e K.c)) ⊎ (y ≡ K.zeros)) (log e K.c) (λ q. inr refl) (h e a)

  tails_same : (f : Image X) → Agrees B f0 f → (Tails K B history f0) f
  unfolding Tails
  tails_same f g d a = inl (g.on_log d K.c a)

  module _ (u : ℕ) (l : Logs K B history u f0) (κ : ℕ) (e : key K B f0 (lead K B f0) ≡ suc κ) where
    pub forward_is : forward K B f0 ≡ store K B (history (suc κ)).stripe (history (suc κ)).changes (redone K B f0)
    unfolding forward
    forward_is = ap₂ (λ (t : ℕ) (ch : ℕ → Bool). store K B t ch (redone K B f0)) ((the_stripe K B history f0) u l κ e) (fun_ext ((the_changes K B history f0) u l κ e))

    whole_of : whole K B f0 ≡ true → (d : ℕ) → B.believe d (history (suc κ)).stripe ≡ true → (history (suc κ)).changes d ≡ true → Complete K f0 d (suc κ)
    unfolding whole
    whole_of h d a b =
        let m = in_involved B (K.stripe_of (tail K B f0)) (K.changes_of (tail K B f0)) d (rw ((the_stripe K B history f0) u l κ e) a) ((the_changes K B history f0) u l κ e d ∙ b) in
        rw e at (complete_b_of (key K B f0 (lead K B f0)) d (every_of (complete_b K B f0 (key K B f0 (lead K B f0))) (involved B (K.stripe_of (tail K B f0)) (K.changes_of (tail K B f0))) h d m))

    pub whole_is : ((d : ℕ) → B.believe d (history (suc κ)).stripe ≡ true → (history (suc κ)).changes d ≡ true → Complete K f0 d (suc κ)) → whole K B f0 ≡ true
    unfolding whole
    whole_is h =
        every_all (complete_b K B f0 (key K B f0 (lead K B f0))) (involved B (K.stripe_of (tail K B f0)) (K.changes_of (tail K B f0)))
        (λ d m. let i = of_involved B (K.stripe_of (tail K B f0)) (K.changes_of (tail K B f0)) d m in
        complete_b_is (key K B f0 (lead K B f0)) d (rw e (h d (rw ((the_stripe K B history f0) u l κ e) at i.0) (sym ((the_changes K B history f0) u l κ e d) ∙ i.1))))

  -- Old, and the tails as read: no record of the undecided write is complete unless the leader is that write
  module _ (u σ : ℕ) (s : Table X) (last : (κ : ℕ) → σ ≡ suc κ → u ≤ σ) (o0 : Old K B history u σ s f0) where
    -- an older write once more: the same strips again
    forward_old : (w : World X) (κ : ℕ) → Sane w → Always w (λ f. Old K B history u σ s f × (Tails K B history f0) f) → key K B f0 (lead K B f0) ≡ suc κ → whole K B f0 ≡ true → suc κ ≢ σ → During w (forward K B f0) (λ f. Old K B history u σ s f × (Tails K B history f0) f) × Always (run w (forward K B f0)) (Quiet K B history u s)
    unfolding store_batch Kept Covered
    forward_old w κ sane h e full ne =
        let t = (history (suc κ)).stripe in
        let ds = involved B t (history (suc κ)).changes in
        let place : ℕ → ℕ → Place = λ d j. strip d t j in
        rw (forward_is u o0.logs κ e)
        (stage (λ f. Old K B history u σ s f × (Tails K B history f0) f) (Quiet K B history u s) w (store_batch K B t (history (suc κ)).changes (redone K B f0)) sane h
        (λ k m f o.
        let y = of_rows place (stored_sectors K) ds k m in
        let i = of_involved B t (history (suc κ)).changes y.0 y.2 in
        let a = B.believe_look y.0 t i.0 in
        let p = whole_of u o0.logs κ e full y.0 i.0 i.1 in
        let g : y.1 < K.c = stored_of K y.1 y.3 in
        let r : redone K B f0 y.0 y.1 ≡ s t y.0 y.1 = (the_strip K B history f0) u o0.logs κ e y.0 a p y.1 g ∙ ⊎_elim (λ q. absurd (ne q)) (λ q. q y.1 g) (o0.records y.0 κ a p) in
        rw y.4 (old_strip K B history u σ s f y.0 t y.1 (redone K B f0 y.0 y.1) r o.0, tails_strip f y.0 t y.1 (redone K B f0 y.0 y.1) o.1))
        (rows_slots place (stored_sectors K) ds (λ d j. refl))
        (λ f o done. old_quiet K B history u σ s f (λ d τ a p q. ne (sym e ∙ not_above d τ f o.1 a p q)) o.0))
      where
        not_above : (d τ : ℕ) (f : Image X) → (Tails K B history f0) f → B.look d ≡ true → Complete K f d (suc τ) → suc τ ≡ σ → key K B f0 (lead K B f0) ≡ σ
        not_above d τ f t a p q =
            let x = tails_of f t d τ a p in
            let y = (key_seen K B history f0) (lead K B f0) κ e in
            omega (arith, x, (key_top K B history f0) d a, last τ (sym q), o0.logs.old (lead K B f0) K.c y.0 (omega arith))

    kill_old : (w : World X) (κ : ℕ) → Sane w → Always w (λ f. Old K B history u σ s f × (Tails K B history f0) f) → key K B f0 (lead K B f0) ≡ suc κ → During w (kill K B f0) (λ f. Old K B history u σ s f × (Tails K B history f0) f) × Always (run w (kill K B f0)) (Quiet K B history u s)
    unfolding kill_batch marked Kept Covered Done Fit Complete
    kill_old w κ sane h e =
        stage (λ f. Old K B history u σ s f × (Tails K B history f0) f) (Quiet K B history u s) w (kill_batch K B f0) sane h
        (λ k m f o.
        let y = of_rows place (0 ∷ []) ds k m in
        rw y.4 (old_log K B history u σ s f y.0 K.c K.zeros (omega arith) (inl K.stamp_zeros) (λ τ z. absurd (omega (arith, K.stamp_zeros, z))) o.0, tails_zero f y.0 o.1))
        (rows_slots place (0 ∷ []) ds (λ d j. refl))
        (λ f o done. old_quiet K B history u σ s f (λ d τ a p q. gone f o.1 d τ a p q done) o.0)
      where
        place : ℕ → ℕ → Place
        place d j = log d K.c

        ds : List ℕ
        ds = marked K B f0

        gone : (f : Image X) → (Tails K B history f0) f → (d τ : ℕ) → B.look d ≡ true → Complete K f d (suc τ) → suc τ ≡ σ → Done (kill_batch K B f0) f → ⊥
        gone f t d τ a p q done =
            let x = tails_of f t d τ a p in
            let y = (key_seen K B history f0) (lead K B f0) κ e in
            let z : K.stamp (f0 (log d K.c)) ≡ key K B f0 (lead K B f0) = omega (arith, x, (key_top K B history f0) d a, last τ (sym q), o0.logs.old (lead K B f0) K.c y.0 (omega arith)) in
            let m : Memᴰ d ds = in_slots (λ i. B.look i && eqb (K.stamp (f0 (log i K.c))) (key K B f0 (lead K B f0))) B.n d (B.look_n d a) (rw (a, eq-eqb _ _ z)) in
            let v : f (log d K.c) ≡ K.zeros = done (log d K.c) (in_rows place (0 ∷ []) ds d 0 m (mathlib.Core.List.Memᴰ.head refl)) in
            omega (arith, K.stamp_zeros, ap K.stamp v, p K.c (omega arith))

  redo_none : key K B f0 (lead K B f0) ≡ 0 → redo K B f0 ≡ []
  unfolding redo
  redo_none e = rw e

  pub redo_forward : (κ : ℕ) → key K B f0 (lead K B f0) ≡ suc κ → whole K B f0 ≡ true → redo K B f0 ≡ forward K B f0
  unfolding redo
  redo_forward κ e h = rw (ne_eqb (key K B f0 (lead K B f0)) 0 (λ q. omega arith), h)

  redo_kill : (κ : ℕ) → key K B f0 (lead K B f0) ≡ suc κ → whole K B f0 ≡ false → redo K B f0 ≡ kill K B f0
  unfolding redo
  redo_kill κ e h = rw (ne_eqb (key K B f0 (lead K B f0)) 0 (λ q. omega arith), h)

  -- the undecided write is not the leader, or is not whole: it is as if it had never been
  module _ (u σ : ℕ) (s : Table X) (last : (κ : ℕ) → σ ≡ suc κ → u ≤ σ) (o0 : Old K B history u σ s f0) where
    redo_old : (w : World X) → Sane w → Always w (Agrees B f0) → ((κ : ℕ) → key K B f0 (lead K B f0) ≡ suc κ → whole K B f0 ≡ true → suc κ ≢ σ) → (Redone K B history f0) w (Old K B history u σ s) (Quiet K B history u s)
    unfolding Redone
    redo_old w sane ag ne = go (key K B f0 (lead K B f0)) refl (whole K B f0) refl
      where
        start : Always w (λ f. Old K B history u σ s f × (Tails K B history f0) f)
        start = always_map (Agrees B f0) (λ f. Old K B history u σ s f × (Tails K B history f0) f) w (λ f g. (old_frame K B B history (record { look_in = λ d a. a; believe_in = λ d t a. refl }) f0 f g u σ s o0, tails_same f g)) ag

        less : (l : List (Action X)) → During w l (λ f. Old K B history u σ s f × (Tails K B history f0) f) → During w l (Old K B history u σ s)
        less l = during_map (λ f. Old K B history u σ s f × (Tails K B history f0) f) (Old K B history u σ s) w l (λ f o. o.0)

        go : (k : ℕ) → key K B f0 (lead K B f0) ≡ k → (b : Bool) → whole K B f0 ≡ b → During w (redo K B f0) (Old K B history u σ s) × Always (run w (redo K B f0)) (Quiet K B history u s)
        go zero e b h = rw (redo_none e) (always_map (λ f. Old K B history u σ s f × (Tails K B history f0) f) (Old K B history u σ s) w (λ f o. o.0) start, always_map (λ f. Old K B history u σ s f × (Tails K B history f0) f) (Quiet K B history u s) w (λ f o. old_quiet K B history u σ s f (λ d τ a p q. omega (arith, tails_of f o.1 d τ a p, (key_top K B history f0) d a)) o.0) start)
        go (suc κ) e true h = rw (redo_forward κ e h) (let r = forward_old u σ s last o0 w κ sane start e h (ne κ e h) in (less (forward K B f0) r.0, r.1))
        go (suc κ) e false h = rw (redo_kill κ e h) (let r = kill_old u σ s last o0 w κ sane start e in (less (kill K B f0) r.0, r.1))

  -- the write is safe in the log: it has the greatest stamp, and is whole
  new_key : (κ : ℕ) (s' : Table X) (d : ℕ) → B.believe d (history (suc κ)).stripe ≡ true → (history (suc κ)).changes d ≡ true → New K B history (suc κ) s' f0 → key K B f0 (lead K B f0) ≡ suc κ
  unfolding Complete
  new_key κ s' d hb hc o = go (key K B f0 (lead K B f0)) refl
    where
      high : suc κ ≤ key K B f0 (lead K B f0)
      high = omega (arith, (key_top K B history f0) d (B.believe_look d (history (suc κ)).stripe hb), o.full d hb hc K.c (omega arith))

      go : (k : ℕ) → key K B f0 (lead K B f0) ≡ k → key K B f0 (lead K B f0) ≡ suc κ
      go zero q = absurd (omega (arith, high))
      go (suc m) q = let y = (key_seen K B history f0) (lead K B f0) m q in omega (arith, high, o.logs.old (lead K B f0) K.c y.0 (omega arith))

  new_decides : (u : ℕ) (s' : Table X) → 0 < u → (d : ℕ) → B.believe d (history u).stripe ≡ true → (history u).changes d ≡ true → New K B history u s' f0 → decision K B f0 u ≡ true
  unfolding decision
  new_decides zero s' pos d hb hc o = absurd (omega arith)
  new_decides (suc κ) s' pos d hb hc o =
      let e = new_key κ s' d hb hc o in
      rw (eq-eqb (key K B f0 (lead K B f0)) (suc κ) e, whole_is (suc κ) o.logs κ e o.full)

  -- it goes forward
  pub redo_new : (u : ℕ) (s' : Table X) → 0 < u → (d : ℕ) → B.believe d (history u).stripe ≡ true → (history u).changes d ≡ true → (w : World X) → Sane w → Always w (Agrees B f0) → New K B history u s' f0 → (Redone K B history f0) w (New K B history u s') (Quiet K B history u s')
  unfolding Redone Complete
  redo_new zero s' pos d hb hc w sane ag o = absurd (omega arith)
  redo_new (suc κ) s' pos d hb hc w sane ag o =
      let e = new_key κ s' d hb hc o in
      rw (redo_forward κ e (whole_is (suc κ) o.logs κ e o.full), forward_is (suc κ) o.logs κ e)
      (strips_safe K B history (suc κ) s' w (redone K B f0) sane
      (always_map (Agrees B f0) (New K B history (suc κ) s') w (λ f g. new_frame K B B history (record { look_in = λ i a. a; believe_in = λ i t a. refl }) f0 f g (suc κ) s' o) ag)
      (λ i j a b h. let z = B.believe_look i (history (suc κ)).stripe a in (the_strip K B history f0) (suc κ) o.logs κ e i z (o.full i a b) j h ∙ o.records i κ z (o.full i a b) j h))

  -- DECIDED ONCE: with nothing undecided, the log part of start-up changes nothing, at any moment
  pub redo_quiet : (u : ℕ) (s : Table X) (w : World X) → Sane w → Always w (Agrees B f0) → Quiet K B history u s f0 → (Redone K B history f0) w (Quiet K B history u s) (Quiet K B history u s)
  unfolding Quiet
  redo_quiet u s w sane ag o = redo_old u 0 s (λ κ q. absurd (omega arith)) o w sane ag (λ κ e h q. omega arith)

  -- THE DECISION: cut at any moment the write is still undecided or safe; at its end it is there, or never was, as `decision` says
  pub redo_mid : (u : ℕ) (s s' : Table X) → 0 < u → Wrote B.n K.c (history u) s s' → (d : ℕ) → B.believe d (history u).stripe ≡ true → (history u).changes d ≡ true → (w : World X) → Sane w → Always w (Agrees B f0) → Mid K B history u s s' f0 → (Redone K B history f0) w (Mid K B history u s s') (Quiet K B history u (cond (decision K B f0 u) s' s))
  unfolding Redone Mid decision
  redo_mid u s s' pos wr d hb hc w sane ag m = ⊎_elim old new m
    where
      Goal : Bool → Type 0
      Goal b = During w (redo K B f0) (λ f. Old K B history u u s f ⊎ New K B history u s' f) × Always (run w (redo K B f0)) (Quiet K B history u (cond b s' s))

      new : New K B history u s' f0 → Goal (decision K B f0 u)
      new o =
          let r = redo_new u s' pos d hb hc w sane ag o in
          let e : decision K B f0 u ≡ true = new_decides u s' pos d hb hc o in
          subst Goal (sym e) (during_map (New K B history u s') (λ f. Old K B history u u s f ⊎ New K B history u s' f) w (redo K B f0) (λ f. inr) r.0, r.1)

      old : Old K B history u u s f0 → Goal (decision K B f0 u)
      old o = go (whole K B f0) refl (ℕ_discrete (key K B f0 (lead K B f0)) u)
        where
          other : decision K B f0 u ≡ false → ((κ : ℕ) → key K B f0 (lead K B f0) ≡ suc κ → whole K B f0 ≡ true → suc κ ≢ u) → Goal (decision K B f0 u)
          other e ne = let r = redo_old u u s (λ κ q. omega arith) o w sane ag ne in subst Goal (sym e) (during_map (Old K B history u u s) (λ f. Old K B history u u s f ⊎ New K B history u s' f) w (redo K B f0) (λ f. inl) r.0, r.1)

          go : (b : Bool) → whole K B f0 ≡ b → Dec (key K B f0 (lead K B f0) ≡ u) → Goal (decision K B f0 u)
          go true h (yes e) = new (up u pos e)
            where
              up : (v : ℕ) → 0 < v → key K B f0 (lead K B f0) ≡ v → New K B history u s' f0
              up zero p q = absurd (omega arith)
              up (suc κ) p q =
                  let z : suc κ ≡ u = sym q ∙ e in
                  old_new K B history u s s' f0 wr (λ i a b. rw z at (whole_of u o.logs κ q h i (rw z a) (rw z b))) o
          go true h (no e) = other (ap (λ (x : Bool). x && whole K B f0) (ne_eqb (key K B f0 (lead K B f0)) u e)) (λ κ q x y. e (q ∙ y))
          go false h x = other (ap (λ (y : Bool). eqb (key K B f0 (lead K B f0)) u && y) h ∙ last (eqb (key K B f0 (lead K B f0)) u)) (λ κ q y z. false≢true (sym h ∙ y))
            where
              last : (b : Bool) → (b && false) ≡ false
              last true = refl
              last false = refl
