-- A program that dies and is started again with no cut finds the caches as they were. Start-up flushes every present slot first: from then on what it
-- read is certain. What the absent slots will turn out to hold is open, but start-up neither sees nor touches them. So all that is proved of
-- start-up after a cut, for whatever the absent slots hold, is true of it here as well (`restart`).
use Rattle.std.specs.Prelude.{ℕ, ◌≡◌, Bool, cond}
use Rattle.std.proofs.Math.Path.{refl, sym}
use Rattle.std.proofs.Common.{ap, subst, ◌∙◌, true≢false, inl, inr}
use Rattle.std.proofs.Math.Bool.{true, false}
use Rattle.std.proofs.Math.Logic.{⊎_elim}
use mathlib.Core.List.{List, [], ◌∷◌, ◌++◌, Memᴰ}
use Rattle.protocol.specs.World.{Place, slot, Image, update, update_here, update_other, same_or_not, World, Action, put, flush, act, run, after, Possible, Sane, Always, During, sane_act, sane_run, during_append, run_append}
use Rattle.protocol.specs.Batch.{flushes, flushes_during}
use Rattle.protocol.specs.Spare.{Spares}

module _ {X : Type 0} (absent : ℕ → Bool) where
  -- w may be taken for v, as far as the image f goes: v allows on the present slots what w allows, and f on the absent ones
  pub record Under (f : Image X) (w v : World X) : Type 0 where
    pub reads : (k : Place) → absent (slot k) ≡ false → w.cur k ≡ v.cur k
    pub less : (k : Place) → absent (slot k) ≡ false → (x : X) → w.may k x → v.may k x
    pub left : (k : Place) → absent (slot k) ≡ true → v.may k (f k)

  under_put : (f : Image X) (w v : World X) (k : Place) (x : X) → absent (slot k) ≡ false → Under f w v → Under f (act w (put k x)) (act v (put k x))
  under_put f w v k x h u =
      record {
        reads = λ l a. ⊎_elim
            (λ q. subst (λ (y : Place). update w.cur k x y ≡ update v.cur k x y) (sym q) (update_here w.cur k x ∙ sym (update_here v.cur k x)))
            (λ n. update_other w.cur k x l n ∙ (u.reads l a ∙ sym (update_other v.cur k x l n))) (same_or_not l k);
        less = λ l a y. ⊎_elim (λ m. inl (u.less l a y m)) inr;
        left = λ l a. inl (u.left l a);
      }

  under_flush : (f : Image X) (w v : World X) (d : ℕ) → absent d ≡ false → Under f w v → Under f (act w (flush d)) (act v (flush d))
  under_flush f w v d h u =
      record {
        reads = u.reads;
        less = λ l a y m. (u.less l a y m.0, λ e. m.1 e ∙ u.reads l a);
        left = λ l a. (u.left l a, λ e. absurd (true≢false (sym a ∙ (ap absent e ∙ h))));
      }

  pub under_possible : (f : Image X) (w v : World X) → Under f w v → Possible w f → Possible v f
  unfolding Possible
  under_possible f w v u p k = go (absent (slot k)) refl
    where
      go : (b : Bool) → absent (slot k) ≡ b → v.may k (f k)
      go true e = u.left k e
      go false e = u.less k e (f k) (p k)

  -- f on the absent slots, what is read on the others
  abbrev pub mix : World X → Image X → Image X
  mix w f k = cond (absent (slot k)) (f k) (w.cur k)

  pub mix_present : (w : World X) (f : Image X) (k : Place) → absent (slot k) ≡ false → mix w f k ≡ w.cur k
  mix_present w f k e = rw e

  pub mix_absent : (w : World X) (f : Image X) (k : Place) → absent (slot k) ≡ true → mix w f k ≡ f k
  mix_absent w f k e = rw e

  pub mix_possible : (w : World X) (f : Image X) → Sane w → ((k : Place) → absent (slot k) ≡ true → w.may k (f k)) → Possible w (mix w f)
  unfolding Possible Sane
  mix_possible w f sane h k = go (absent (slot k)) refl
    where
      go : (b : Bool) → absent (slot k) ≡ b → w.may k (cond b (f k) (w.cur k))
      go true e = h k e
      go false e = sane k

  under_mix : (f : Image X) (w v : World X) → Under (mix w f) w v → Under f w v
  under_mix f w v u = record { reads = u.reads; less = u.less; left = λ k a. subst (v.may k) (mix_absent w f k a) (u.left k a) }

  -- what every such v keeps, w keeps
  pub under : (P Z : Image X → Type 0) (l : List (Action X)) → Spares absent l → (w : World X) → Sane w → ((f : Image X) → Possible w f → (v : World X) × Under f w v × During v l P × Always (run v l) Z) → During w l P × Always (run w l) Z
  unfolding Always Possible
  under P Z [] s w sane h = (λ f p. let y = h f p in y.2 f (under_possible f w y.0 y.1 p), λ f p. let y = h f p in y.3 f (under_possible f w y.0 y.1 p))
  under P Z (put k x ∷ l) s w sane h =
      let r : During (act w (put k x)) l P × Always (run (act w (put k x)) l) Z =
      under P Z l s.1 (act w (put k x)) (sane_act w (put k x) sane)
      (λ f p.
      let y = h (mix w f) (mix_possible w f sane (λ j a. before f p j a)) in
      (act y.0 (put k x), under_put f w y.0 k x s.0 (under_mix f w y.0 y.1), y.2.1, y.3)) in
      ((λ f p. let y = h f p in y.2.0 f (under_possible f w y.0 y.1 p), r.0), r.1)
    where
      before : (f : Image X) → Possible (act w (put k x)) f → (j : Place) → absent (slot j) ≡ true → w.may j (f j)
      before f p j a = ⊎_elim (λ m. m) (λ e. absurd (true≢false (sym a ∙ (ap (λ (y : Place). absent (slot y)) e.0 ∙ s.0)))) (p j)
  under P Z (flush d ∷ l) s w sane h =
      let r : During (act w (flush d)) l P × Always (run (act w (flush d)) l) Z =
      under P Z l s.1 (act w (flush d)) (sane_act w (flush d) sane)
      (λ f p.
      let y = h (mix w f) (mix_possible w f sane (λ j a. before f p j a)) in
      (act y.0 (flush d), under_flush f w y.0 d s.0 (under_mix f w y.0 y.1), y.2.1, y.3)) in
      ((λ f p. let y = h f p in y.2.0 f (under_possible f w y.0 y.1 p), r.0), r.1)
    where
      before : (f : Image X) → Possible (act w (flush d)) f → (j : Place) → absent (slot j) ≡ true → w.may j (f j)
      before f p j a = (p j).0

  flushes_cur : (w : World X) (ds : List ℕ) (k : Place) → (run w (flushes ds)).cur k ≡ w.cur k
  flushes_cur w [] k = refl
  flushes_cur w (d ∷ ds) k = flushes_cur (act w (flush d)) ds k

  flushes_may : (w : World X) (ds : List ℕ) (k : Place) (x : X) → (run w (flushes ds)).may k x → w.may k x
  flushes_may w [] k x m = m
  flushes_may w (d ∷ ds) k x m = (flushes_may (act w (flush d)) ds k x m).0

  flushes_certain : (w : World X) (ds : List ℕ) (k : Place) (x : X) → Memᴰ (slot k) ds → (run w (flushes ds)).may k x → x ≡ w.cur k
  flushes_certain w [] k x i m = absurd (mathlib.Core.List.Memᴰ.not-nil i)
  flushes_certain w (d ∷ ds) k x i m =
      let r : Memᴰ (slot k) ds → x ≡ w.cur k = λ q. flushes_certain (act w (flush d)) ds k x q m in
      ⊎_elim (λ e. (flushes_may (act w (flush d)) ds k x m).1 e) r (mathlib.Core.List.Memᴰ.cases_cons i)

  -- start-up on a world with caches: flushes of all present slots, and then l
  pub restart : (P Z : Image X → Type 0) (ds : List ℕ) (l : List (Action X)) → Spares absent l → ((k : Place) → absent (slot k) ≡ false → Memᴰ (slot k) ds) → (w : World X) → Sane w → Always w P → ((f : Image X) → Possible w f → ((k : Place) → absent (slot k) ≡ false → f k ≡ w.cur k) → P f → During (after f) l P × Always (run (after f) l) Z) → During w (flushes ds ++ l) P × Always (run w (flushes ds ++ l)) Z
  unfolding Always Possible after
  restart P Z ds l s all w sane h start =
      let w1 = run w (flushes ds) in
      let r = under P Z l s w1 (sane_run w (flushes ds) sane)
      (λ f p.
      let g = mix w f in
      let q = mix_possible w f sane (λ k a. flushes_may w ds k (f k) (p k)) in
      let y = start g q (mix_present w f) (h g q) in (
        after g,
        record {
          reads = λ k a. flushes_cur w ds k ∙ sym (mix_present w f k a);
          less = λ k a x m. flushes_certain w ds k x (all k a) m ∙ sym (mix_present w f k a);
          left = λ k a. sym (mix_absent w f k a);
        },
        y.0,
        y.1,
      )) in
      (during_append P w (flushes ds) l (flushes_during P w.cur w ds h) r.0, rw run_append r.1)
