-- WORLDS: disks with caches, and what a power cut may leave on them (document 02, C7). X is whatever a sector can hold.
-- A place is named by what it is for: the two label sectors, the log sectors, the sectors of the strips of a slot. (The shelf maps
-- places to sector numbers; all that is asked of that map is that it keeps different places apart.)
-- An image tells what each place holds. A world is what each place reads as, and what it may hold after a cut: each place by itself.
use Rattle.std.specs.Prelude.{ℕ, ◌≡◌, Bool, ◌&&◌, ◌⊎◌, ◌≢◌, List, [], ◌∷◌, ◌++◌, eqb}
use Rattle.std.proofs.Math.Path.{refl, sym, subst, fun_ext}
use Rattle.std.proofs.Common.{ap₂, ◌∙◌, eq-eqb, eqb-true}
use Rattle.std.proofs.Math.Bool.{true, false, cond}
use Rattle.std.specs.Bool.{beq}
use Rattle.std.proofs.lemmas.Bool.{false≢true}
use Rattle.std.proofs.Math.Logic.{⊎_elim, inl, inr}

-- label d b: label sector b of slot d; log d j: sector j of its log record; strip d t j: sector j of its strip t
pub data Place : Type 0 where
  label : ℕ → Bool → Place
  log : ℕ → ℕ → Place
  strip : ℕ → ℕ → ℕ → Place

abbrev pub slot : Place → ℕ
slot (label d b) = d
slot (log d j) = d
slot (strip d t j) = d

abbrev pub same : Place → Place → Bool
same (label d b) (label e u) = eqb d e && beq b u
same (label d b) (log e i) = false
same (label d b) (strip e t i) = false
same (log d j) (label e u) = false
same (log d j) (log e i) = eqb d e && eqb j i
same (log d j) (strip e t i) = false
same (strip d t j) (label e u) = false
same (strip d t j) (log e i) = false
same (strip d t j) (strip e u i) = eqb d e && (eqb t u && eqb j i)

and_both : (a b : Bool) → (a && b) ≡ true → (a ≡ true) × (b ≡ true)
and_both true true e = (refl, refl)
and_both true false e = absurd (false≢true e)
and_both false true e = absurd (false≢true e)
and_both false false e = absurd (false≢true e)

beq_true : (a b : Bool) → beq a b ≡ true → a ≡ b
beq_true true true e = refl
beq_true true false e = absurd (false≢true e)
beq_true false true e = absurd (false≢true e)
beq_true false false e = refl

pub same_true : (k l : Place) → same k l ≡ true → k ≡ l
same_true (label d b) (label e u) h =
    let p = and_both _ _ h in ap₂ label (eqb-true d e p.0) (beq_true b u p.1)
same_true (label d b) (log e i) h = absurd (false≢true h)
same_true (label d b) (strip e t i) h = absurd (false≢true h)
same_true (log d j) (label e u) h = absurd (false≢true h)
same_true (log d j) (log e i) h =
    let p = and_both _ _ h in ap₂ log (eqb-true d e p.0) (eqb-true j i p.1)
same_true (log d j) (strip e t i) h = absurd (false≢true h)
same_true (strip d t j) (label e u) h = absurd (false≢true h)
same_true (strip d t j) (log e i) h = absurd (false≢true h)
same_true (strip d t j) (strip e u i) h =
    let p = and_both _ _ h in
    let q = and_both _ _ p.1 in
    let a : d ≡ e = eqb-true d e p.0 in
    let b : t ≡ u = eqb-true t u q.0 in
    let c : j ≡ i = eqb-true j i q.1 in
    cc

beq_self : (b : Bool) → beq b b ≡ true
beq_self true = refl
beq_self false = refl

pub same_self : (k : Place) → same k k ≡ true
same_self (label d b) = rw (eq-eqb d d refl, beq_self b)
same_self (log d j) = rw (eq-eqb d d refl, eq-eqb j j refl)
same_self (strip d t j) = rw (eq-eqb d d refl, eq-eqb t t refl, eq-eqb j j refl)

pub same_or_not : (k l : Place) → (k ≡ l) ⊎ (k ≢ l)
same_or_not k l = go (same k l) refl
  where
    go : (b : Bool) → same k l ≡ b → (k ≡ l) ⊎ (k ≢ l)
    go true e = inl (same_true k l e)
    go false e = inr (λ q. false≢true (sym e ∙ subst (λ (x : Place). same k x ≡ true) q (same_self k)))

-- what each place holds
abbrev pub Image : Type 0 → Type 0
Image X = Place → X

-- the image f with v in place k
unfoldable pub update : {X : Type 0} → Image X → Place → X → Image X
update f k v l = cond (same l k) v (f l)

module _ {X : Type 0} (f : Image X) (k : Place) (v : X) where
  pub update_here : update f k v k ≡ v
  unfolding update
  update_here = rw same_self

  pub update_other : (l : Place) → l ≢ k → update f k v l ≡ f l
  unfolding update
  update_other l n = go (same l k) refl
    where
      go : (b : Bool) → same l k ≡ b → cond b v (f l) ≡ f l
      go true e = absurd (n (same_true l k e))
      go false e = refl

  pub update_cases : (P : X → Type 0) (l : Place) → (l ≡ k → P v) → P (f l) → P (update f k v l)
  update_cases P l h g = ⊎_elim (λ q. subst (λ (x : Place). P (update f k v x)) (sym q) (subst P (sym update_here) (h q))) (λ n. subst P (sym (update_other l n)) g) (same_or_not l k)

-- cur: what each place reads as, the newest value. may k x: x may be found in place k if power is lost now.
pub record World (X : Type 0) : Type 1 where
  pub cur : Place → X
  pub may : Place → X → Type 0

-- a step's action: one whole sector is written, or one slot is flushed
pub data Action (X : Type 0) : Type 0 where
  put : Place → X → Action X
  flush : ℕ → Action X

-- a put is read at once, and may or may not be there after a cut; a flush makes certain what its slot reads as
abbrev pub act : {X : Type 0} → World X → Action X → World X
act w (put k v) =
    record {
      cur = update w.cur k v;
      may = λ l x. w.may l x ⊎ ((l ≡ k) × (x ≡ v));
    }
act w (flush d) =
    record {
      cur = w.cur;
      may = λ l x. w.may l x × (slot l ≡ d → x ≡ w.cur l);
    }

-- a list of actions, one after the other
abbrev pub run : {X : Type 0} → World X → List (Action X) → World X
run w [] = w
run w (a ∷ l) = run (act w a) l

-- an image that a cut could leave now
unfoldable pub Possible : {X : Type 0} → World X → Image X → Type 0
Possible w f = (l : Place) → w.may l (f l)

-- the world after a cut that left f: nothing else is possible any more
unfoldable pub after : {X : Type 0} → Image X → World X
after f = record { cur = f; may = λ l x. x ≡ f l }

-- what is read is possible (true at the beginning, kept by everything)
unfoldable pub Sane : {X : Type 0} → World X → Type 0
Sane w = Possible w w.cur

-- whatever a cut leaves now, P holds of it
unfoldable pub Always : {X : Type 0} → World X → (Image X → Type 0) → Type 0
Always {X} w P = (f : Image X) → Possible w f → P f

-- the same at every moment while a list of actions is carried out: before the first, between any two, after the last
abbrev pub During : {X : Type 0} → World X → List (Action X) → (Image X → Type 0) → Type 0
During w [] P = Always w P
During w (a ∷ l) P = Always w P × During (act w a) l P

module _ {X : Type 0} where
  pub sane_after : (f : Image X) → Sane (after f)
  unfolding Sane after Possible
  sane_after f l = refl

  pub sane_act : (w : World X) (a : Action X) → Sane w → Sane (act w a)
  unfolding Sane Possible
  sane_act w (put k v) s l =
      ⊎_elim (λ q. inr (q, subst (λ (x : Place). update w.cur k v x ≡ v) (sym q) (update_here w.cur k v)))
      (λ n. inl (subst (w.may l) (sym (update_other w.cur k v l n)) (s l))) (same_or_not l k)
  sane_act w (flush d) s l = (s l, λ q. refl)

  pub sane_run : (w : World X) (l : List (Action X)) → Sane w → Sane (run w l)
  sane_run w [] s = s
  sane_run w (a ∷ l) s = sane_run (act w a) l (sane_act w a s)

  -- what always holds is true of what is read
  pub always_cur : (P : Image X → Type 0) (w : World X) → Sane w → Always w P → P w.cur
  unfolding Sane Always
  always_cur P w s h = h w.cur s

  -- a cut costs nothing
  pub always_after : (P : Image X → Type 0) (f : Image X) → P f → Always (after f) P
  unfolding Always Possible after
  always_after P f h g p = let e : f ≡ g = fun_ext (λ l. sym (p l)) in subst P e h

  pub always_map : (P R : Image X → Type 0) (w : World X) → ((f : Image X) → P f → R f) → Always w P → Always w R
  unfolding Always
  always_map P R w i h f p = i f (h f p)

  put_cases : (w : World X) (k : Place) (v : X) → Sane w → (f : Image X) → Possible (act w (put k v)) f → Possible w f ⊎ ((g : Image X) × Possible w g × (f ≡ update g k v))
  unfolding Possible Sane
  put_cases w k v s f p = ⊎_elim (λ q. inl (λ l. ⊎_elim (λ m. m) (λ e. subst (λ (x : Place). w.may x (f x)) (sym e.0) q) (p l))) (λ e. inr (g, pg, fg e.1)) (p k)
    where
      g : Image X
      g = update f k (w.cur k)

      pg : (l : Place) → w.may l (g l)
      pg l = ⊎_elim (λ q. subst (λ (x : Place). w.may x (g x)) (sym q) (subst (w.may k) (sym (update_here f k (w.cur k))) (s k)))
          (λ n. subst (w.may l) (sym (update_other f k (w.cur k) l n)) (⊎_elim (λ m. m) (λ e. absurd (n e.0)) (p l))) (same_or_not l k)

      fg : f k ≡ v → f ≡ update g k v
      fg e = fun_ext (λ l. ⊎_elim (λ q. subst (λ (x : Place). f x ≡ update g k v x) (sym q) (e ∙ sym (update_here g k v)))
          (λ n. sym (update_other g k v l n ∙ update_other f k (w.cur k) l n)) (same_or_not l k))

  pub always_put : (P : Image X → Type 0) (w : World X) (k : Place) (v : X) → Sane w → Always w P → ((f : Image X) → P f → P (update f k v)) → Always (act w (put k v)) P
  unfolding Always
  always_put P w k v s h c f p = ⊎_elim (λ q. h f q) (λ q. subst P (sym q.2) (c q.0 (h q.0 q.1))) (put_cases w k v s f p)

  pub always_flush : (P : Image X → Type 0) (w : World X) (d : ℕ) → Always w P → Always (act w (flush d)) P
  unfolding Always Possible
  always_flush P w d h f p = h f (λ l. (p l).0)

  -- after a flush the slot holds what it reads as
  pub always_flushed : (w : World X) (d : ℕ) → Always (act w (flush d)) (λ f. (l : Place) → slot l ≡ d → f l ≡ w.cur l)
  unfolding Always Possible
  always_flushed w d f p l e = (p l).1 e

  pub during_start : (P : Image X → Type 0) (w : World X) (l : List (Action X)) → During w l P → Always w P
  during_start P w [] h = h
  during_start P w (a ∷ l) h = h.0

  pub during_end : (P : Image X → Type 0) (w : World X) (l : List (Action X)) → During w l P → Always (run w l) P
  during_end P w [] h = h
  during_end P w (a ∷ l) h = during_end P (act w a) l h.1

  pub during_map : (P R : Image X → Type 0) (w : World X) (l : List (Action X)) → ((f : Image X) → P f → R f) → During w l P → During w l R
  during_map P R w [] i h = always_map P R w i h
  during_map P R w (a ∷ l) i h = (always_map P R w i h.0, during_map P R (act w a) l i h.1)

  pub run_append : (w : World X) (l r : List (Action X)) → run w (l ++ r) ≡ run (run w l) r
  run_append w [] r = refl
  run_append w (a ∷ l) r = run_append (act w a) l r

  pub during_append : (P : Image X → Type 0) (w : World X) (l r : List (Action X)) → During w l P → During (run w l) r P → During w (l ++ r) P
  during_append P w [] r h g = g
  during_append P w (a ∷ l) r h g = (h.0, during_append P (act w a) l r h.1 g)
