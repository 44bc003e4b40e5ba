-- Bounded searches: whether a test holds of each number below n, of one of them, and which is the first. Assumes nothing.
use Rattle.std.specs.Prelude.{◌≡◌, refl, Bool, true, false, cond, ◌&&◌, ◌||◌, ◌⊎◌, ℕ, zero, suc, ◌≤◌, ◌<◌}
use Rattle.std.proofs.Common.{sym, ap, ◌∙◌, inl, inr, eq-or-lt_of_le, le_of_suc-le-suc, arith}
use Rattle.std.proofs.Math.Bool.{or-true}
use Rattle.std.proofs.lemmas.Bool.{false≢true}
use Rattle.disk.specs.Tests.{and_left, and_right}

-- p holds of each number below n
unfoldable pub all : ℕ → (ℕ → Bool) → Bool
all zero p = true
all (suc n) p = all n p && p n

-- p holds of a number below n
unfoldable pub some : ℕ → (ℕ → Bool) → Bool
some zero p = false
some (suc n) p = some n p || p n

-- the least such number; 0 where there is none
unfoldable pub first : ℕ → (ℕ → Bool) → ℕ
first zero p = 0
first (suc n) p = cond (some n p) (first n p) (cond (p n) n 0)

pub all_at : (n : ℕ) (p : ℕ → Bool) → all n p ≡ true → (i : ℕ) → i < n → p i ≡ true
unfolding all
all_at zero p e i h = absurd (omega arith)
all_at (suc n) p e i h = go (all_at n p (and_left (all n p) (p n) e) i) (eq-or-lt_of_le (le_of_suc-le-suc h))
  where
    go : (i < n → p i ≡ true) → (i ≡ n) ⊎ (i < n) → p i ≡ true
    go ih (inl q) = ap p q ∙ and_right (all n p) (p n) e
    go ih (inr l) = ih l

pub all_of : (n : ℕ) (p : ℕ → Bool) → ((i : ℕ) → i < n → p i ≡ true) → all n p ≡ true
unfolding all
all_of zero p h = refl
all_of (suc n) p h = rw (all_of n p (λ i l. h i (omega arith)), h n (omega arith))

pub some_of : (n : ℕ) (p : ℕ → Bool) (i : ℕ) → i < n → p i ≡ true → some n p ≡ true
unfolding some
some_of zero p i h e = absurd (omega arith)
some_of (suc n) p i h e = go (λ l. some_of n p i l e) (eq-or-lt_of_le (le_of_suc-le-suc h))
  where
    go : (i < n → some n p ≡ true) → (i ≡ n) ⊎ (i < n) → (some n p || p n) ≡ true
    go ih (inl q) = ap (λ (b : Bool). some n p || b) (ap p (sym q) ∙ e) ∙ or-true (some n p)
    go ih (inr l) = rw (ih l)

-- where p holds of some number, it holds of the first
pub first_is : (n : ℕ) (p : ℕ → Bool) → some n p ≡ true → p (first n p) ≡ true
unfolding some first
first_is zero p e = absurd (false≢true e)
first_is (suc n) p e = go (some n p) refl (p n) refl (first_is n p) e
  where
    go : (a : Bool) → some n p ≡ a → (b : Bool) → p n ≡ b → (some n p ≡ true → p (first n p) ≡ true) → (a || b) ≡ true → p (cond a (first n p) (cond b n 0)) ≡ true
    go true q b r ih h = ih q
    go false q true r ih h = r
    go false q false r ih h = absurd (false≢true h)

-- tests that agree find the same
pub some_ext : (n : ℕ) (p q : ℕ → Bool) → ((i : ℕ) → p i ≡ q i) → some n p ≡ some n q
unfolding some
some_ext zero p q e = refl
some_ext (suc n) p q e = rw (some_ext n p q e, e n)

pub first_ext : (n : ℕ) (p q : ℕ → Bool) → ((i : ℕ) → p i ≡ q i) → first n p ≡ first n q
unfolding first
first_ext zero p q e = refl
first_ext (suc n) p q e = rw (some_ext n p q e, first_ext n p q e, e n)

first_le : (n : ℕ) (p : ℕ → Bool) → first n p ≤ n
unfolding first
first_le zero p = omega arith
first_le (suc n) p = go (some n p) (p n) (first_le n p)
  where
    go : (a b : Bool) → first n p ≤ n → cond a (first n p) (cond b n 0) ≤ suc n
    go true b h = omega arith
    go false true h = omega arith
    go false false h = omega arith

pub first_lt : (n : ℕ) (p : ℕ → Bool) → 0 < n → first n p < n
unfolding first
first_lt zero p h = absurd (omega arith)
first_lt (suc n) p h = go (some n p) (p n) (first_le n p)
  where
    go : (a b : Bool) → first n p ≤ n → cond a (first n p) (cond b n 0) < suc n
    go true b h = omega arith
    go false true h = omega arith
    go false false h = omega arith
