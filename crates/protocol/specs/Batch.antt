-- A batch: some places are put, each to its value, in a given order, and then some slots are flushed. Every request is a chain of
-- batches. What has to be shown of a batch is about images alone: that a statement is kept by each single put of the batch.
-- Then it holds whatever a cut leaves at any moment of the batch, in whatever order the cache wrote; and at the end of
-- the batch every place of it certainly holds its value.
use Rattle.std.specs.Prelude.{ℕ, ◌≡◌, refl}
use Rattle.std.proofs.Common.{subst, ◌∙◌}
use Rattle.std.proofs.Math.Logic.{⊎_elim}
use mathlib.Core.List.{List, [], ◌∷◌, ◌++◌, Memᴰ}
use Rattle.protocol.specs.World.{Place, slot, Image, update, update_here, update_other, same_or_not, World, Action, put, flush, act, run, Sane, Always, During, sane_act, always_put, always_flush, always_flushed, during_end, during_append, run_append}

module _ {X : Type 0} where
  abbrev pub puts : (Place → X) → List Place → List (Action X)
  puts v [] = []
  puts v (k ∷ l) = put k (v k) ∷ puts v l

  abbrev pub flushes : List ℕ → List (Action X)
  flushes [] = []
  flushes (d ∷ l) = flush d ∷ flushes l

-- value: what each place gets; places: where, in this order; flushed: these slots, afterwards
pub record Batch (X : Type 0) : Type 0 where
  pub value : Place → X
  pub places : List Place
  pub flushed : List ℕ

module _ {X : Type 0} where
  -- first the puts, in the order of the list, then the flushes
  abbrev pub actions : Batch X → List (Action X)
  actions b = puts b.value b.places ++ flushes b.flushed

  -- P is kept by each single put of the batch
  unfoldable pub Kept : (Image X → Type 0) → Batch X → Type 0
  Kept P b = (k : Place) → Memᴰ k b.places → (f : Image X) → P f → P (update f k (b.value k))

  -- whatever is put is flushed
  unfoldable pub Covered : Batch X → Type 0
  Covered b = (k : Place) → Memᴰ k b.places → Memᴰ (slot k) b.flushed

  -- each place of the batch has its value
  unfoldable pub Done : Batch X → Image X → Type 0
  Done b f = (k : Place) → Memᴰ k b.places → f k ≡ b.value k

module _ {X : Type 0} (P : Image X → Type 0) (v : Place → X) where
  puts_during : (w : World X) (ks : List Place) → Sane w → Always w P → ((k : Place) → Memᴰ k ks → (f : Image X) → P f → P (update f k (v k))) → During w (puts v ks) P
  puts_during w [] s h c = h
  puts_during w (k ∷ ks) s h c =
      (h, puts_during (act w (put k (v k))) ks (sane_act w (put k (v k)) s) (always_put P w k (v k) s h (c k (mathlib.Core.List.Memᴰ.head refl))) (λ l m. c l (mathlib.Core.List.Memᴰ.tail m)))

  pub flushes_during : (w : World X) (ds : List ℕ) → Always w P → During w (flushes ds) P
  flushes_during w [] h = h
  flushes_during w (d ∷ ds) h = (h, flushes_during (act w (flush d)) ds (always_flush P w d h))

  batch_during : (w : World X) (ks : List Place) (ds : List ℕ) → Sane w → Always w P → ((k : Place) → Memᴰ k ks → (f : Image X) → P f → P (update f k (v k))) → During w (puts v ks ++ flushes ds) P
  batch_during w ks ds s h c =
      let a = puts_during w ks s h c in
      during_append P w (puts v ks) (flushes ds) a (flushes_during (run w (puts v ks)) ds (during_end P w (puts v ks) a))

module _ {X : Type 0} (v : Place → X) where
  stays : (w : World X) (ks : List Place) (k : Place) → w.cur k ≡ v k → (run w (puts v ks)).cur k ≡ v k
  stays w [] k e = e
  stays w (l ∷ ks) k e = stays (act w (put l (v l))) ks k (⊎_elim (λ q. subst (λ (x : Place). update w.cur x (v x) k ≡ v k) q (update_here w.cur k (v k))) (λ n. update_other w.cur l (v l) k n ∙ e) (same_or_not k l))

  reads : (w : World X) (ks : List Place) (k : Place) → Memᴰ k ks → (run w (puts v ks)).cur k ≡ v k
  reads w [] k m = absurd (mathlib.Core.List.Memᴰ.not-nil m)
  reads w (l ∷ ks) k m =
      let r : Memᴰ k ks → (run (act w (put l (v l))) (puts v ks)).cur k ≡ v k = reads (act w (put l (v l))) ks k in
      ⊎_elim (λ q. stays (act w (put l (v l))) ks k (subst (λ (x : Place). update w.cur x (v x) k ≡ v k) q (update_here w.cur k (v k)))) r (mathlib.Core.List.Memᴰ.cases_cons m)

  pub certain : (w : World X) (ds : List ℕ) → Always (run w (flushes ds)) (λ f. (k : Place) → Memᴰ (slot k) ds → f k ≡ w.cur k)
  unfolding Always
  certain w [] f p k m = absurd (mathlib.Core.List.Memᴰ.not-nil m)
  certain w (d ∷ ds) f p k m =
      let r : Memᴰ (slot k) ds → f k ≡ w.cur k = certain (act w (flush d)) ds f p k in
      let b = during_end (λ g. (l : Place) → slot l ≡ d → g l ≡ w.cur l) (act w (flush d)) (flushes ds) (flushes_during (λ g. (l : Place) → slot l ≡ d → g l ≡ w.cur l) v (act w (flush d)) ds (always_flushed w d)) in
      ⊎_elim (λ q. b f p k q) r (mathlib.Core.List.Memᴰ.cases_cons m)

  batch_done : (w : World X) (ks : List Place) (ds : List ℕ) → ((k : Place) → Memᴰ k ks → Memᴰ (slot k) ds) → Always (run w (puts v ks ++ flushes ds)) (λ f. (k : Place) → Memᴰ k ks → f k ≡ v k)
  unfolding Always
  batch_done w ks ds i =
      rw run_append (λ f p k m. certain (run w (puts v ks)) ds f p k (i k m) ∙ reads w ks k m)

-- ONE BATCH: if P holds before, and each single put keeps P, then P holds all the while, whatever a cut leaves; and if what is put is flushed, R holds at the end
module _ {X : Type 0} (P R : Image X → Type 0) (w : World X) (b : Batch X) where
  pub stage : Sane w → Always w P → Kept P b → Covered b → ((f : Image X) → P f → Done b f → R f) → During w (actions b) P × Always (run w (actions b)) R
  unfolding Always Kept Covered Done
  stage s h c i r =
      let a = batch_during P b.value w b.places b.flushed s h c in
      (a, λ f p. r f (during_end P w (actions b) a f p) (batch_done b.value w b.places b.flushed i f p))

-- where a list of actions puts, and what it flushes
module _ {X : Type 0} (T : Place → Type 0) (U : ℕ → Type 0) where
  abbrev pub Each : List (Action X) → Type 0
  Each [] = Unit {0}
  Each (put k v ∷ l) = T k × Each l
  Each (flush d ∷ l) = U d × Each l

  pub each_append : (l r : List (Action X)) → Each l → Each r → Each (l ++ r)
  each_append [] r a b = b
  each_append (put k v ∷ l) r a b = (a.0, each_append l r a.1 b)
  each_append (flush d ∷ l) r a b = (a.0, each_append l r a.1 b)

  each_puts : (v : Place → X) (ks : List Place) → ((k : Place) → Memᴰ k ks → T k) → Each (puts v ks)
  each_puts v [] h = tt
  each_puts v (k ∷ ks) h = (h k (mathlib.Core.List.Memᴰ.head refl), each_puts v ks (λ l m. h l (mathlib.Core.List.Memᴰ.tail m)))

  pub each_flushes : (l : List (Action X)) (ds : List ℕ) → ((d : ℕ) → Memᴰ d ds → U d) → Each l → Each (flushes ds)
  each_flushes l [] h i = tt
  each_flushes l (d ∷ ds) h i = (h d (mathlib.Core.List.Memᴰ.head refl), each_flushes l ds (λ e m. h e (mathlib.Core.List.Memᴰ.tail m)) i)

  pub each_batch : (b : Batch X) → ((k : Place) → Memᴰ k b.places → T k) → ((d : ℕ) → Memᴰ d b.flushed → U d) → Each (actions b)
  each_batch b h g =
      let p = each_puts b.value b.places h in
      each_append (puts b.value b.places) (flushes b.flushed) p (each_flushes (puts b.value b.places) b.flushed g p)

  -- what every such put keeps, the list keeps at every moment
  pub each_during : (P : Image X → Type 0) → ((f : Image X) (k : Place) (v : X) → T k → P f → P (update f k v)) → (w : World X) (l : List (Action X)) → Sane w → Always w P → Each l → During w l P
  each_during P c w [] s h e = h
  each_during P c w (put k v ∷ l) s h e = (h, each_during P c (act w (put k v)) l (sane_act w (put k v) s) (always_put P w k v s h (λ f. c f k v e.0)) e.1)
  each_during P c w (flush d ∷ l) s h e = (h, each_during P c (act w (flush d)) l (sane_act w (flush d) s) (always_flush P w d h) e.1)

pub each_map : {X : Type 0} (T T' : Place → Type 0) (U U' : ℕ → Type 0) → ((k : Place) → T k → T' k) → ((d : ℕ) → U d → U' d) → (l : List (Action X)) → Each T U l → Each T' U' l
each_map T T' U U' f g [] e = tt
each_map T T' U U' f g (put k v ∷ l) e = (f k e.0, each_map T T' U U' f g l e.1)
each_map T T' U U' f g (flush d ∷ l) e = (g d e.0, each_map T T' U U' f g l e.1)

pub each_tail : {X : Type 0} (T : Place → Type 0) (U : ℕ → Type 0) (a : Action X) (l : List (Action X)) → Each T U (a ∷ l) → Each T U l
each_tail T U (put k v) l e = e.1
each_tail T U (flush d) l e = e.1

module _ {X : Type 0} (P R : Image X → Type 0) where
  pub during_both : (w : World X) (l : List (Action X)) → During w l P → During w l R → During w l (λ f. P f × R f)
  unfolding Always
  during_both w [] a b = λ f p. (a f p, b f p)
  during_both w (c ∷ l) a b = (λ f p. (a.0 f p, b.0 f p), during_both (act w c) l a.1 b.1)
