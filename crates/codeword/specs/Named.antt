-- Which shards a list names. Assumes nothing.
use Rattle.std.specs.Prelude.{◌≡◌, refl, Bool, true, false, cond, List, [], ◌∷◌, ◌++◌, ◌≢◌, ℕ, zero, suc, ◌<◌, eqb, length, get_or}
use Rattle.std.proofs.Common.{sym, ap, ◌∙◌, arith, eqb-true, eq-eqb, ne_eqb}
use Rattle.codeword.specs.Stripe.{has}

pub has_not : (l : List ℕ) (a c : ℕ) → has l a ≡ false → c < length l → get_or l c 0 ≢ a
has_not [] a c h l e = omega arith
has_not (b ∷ l) a zero h k e =
    let z : ◌≡◌ {A = Bool} true false = sym (ap (λ (t : Bool). cond t true (has l a)) (eq-eqb b a e)) ∙ h in
    let y : ◌≡◌ {A = ℕ} 0 1 = cc in
    omega arith
has_not (b ∷ l) a (suc c) h k e = has_not l a c (go (eqb b a) h) (omega arith) e
  where
    go : (t : Bool) → cond t true (has l a) ≡ false → has l a ≡ false
    go true q = absurd (let y : ◌≡◌ {A = ℕ} 0 1 = cc in omega arith)
    go false q = q

pub has_none : (l : List ℕ) (a : ℕ) → ((c : ℕ) → c < length l → get_or l c 0 ≢ a) → has l a ≡ false
has_none [] a h = refl
has_none (b ∷ l) a h =
    ap (λ (t : Bool). cond t true (has l a)) (ne_eqb b a (h 0 (omega arith))) ∙ has_none l a (λ c g. h (suc c) (omega arith))

pub has_index : (l : List ℕ) (r : ℕ) → has l r ≡ true → (c : ℕ) × (c < length l) × (get_or l c 0 ≡ r)
has_index [] r e = absurd (let z : ◌≡◌ {A = ℕ} 0 1 = cc in omega arith)
has_index (a ∷ l) r e = go (eqb a r) refl e (has_index l r)
  where
    go : (b : Bool) → eqb a r ≡ b → cond b true (has l r) ≡ true → (has l r ≡ true → (c : ℕ) × (c < length l) × (get_or l c 0 ≡ r))
        → (c : ℕ) × (c < suc (length l)) × (get_or (a ∷ l) c 0 ≡ r)
    go true q t ih = (0, omega arith, eqb-true a r q)
    go false q t ih = let i = ih t in (suc i.0, omega arith, i.2)

-- a list and another after it
pub has_append : (l t : List ℕ) (r : ℕ) → has (l ++ t) r ≡ cond (has l r) true (has t r)
has_append [] t r = refl
has_append (a ∷ l) t r = go (eqb a r) (has_append l t r)
  where
    go : (b : Bool) → has (l ++ t) r ≡ cond (has l r) true (has t r)
        → cond b true (has (l ++ t) r) ≡ cond (cond b true (has l r)) true (has t r)
    go true e = refl
    go false e = e
