-- Counting: with n = k + m slots and k > m, `at most m` is a Quorum. This is all that is asked of the world for k > m.
use Rattle.std.specs.Prelude.{ℕ, zero, suc, ◌+◌, ◌≤◌, ◌<◌, ◌≡◌, refl, Bool, true, false, ◌⊎◌, leb}
use Rattle.std.proofs.Common.{sym, ◌∙◌, true≢false, ⊎_elim, inl, inr, arith, leb-true, le-leb}
use Rattle.protocol.specs.Label.{Quorum}

abbrev pub tally : Bool → ℕ
tally true = 1
tally false = 0

-- how many slots below n are in a
abbrev pub count : (ℕ → Bool) → ℕ → ℕ
count a zero = 0
count a (suc n) = tally (a n) + count a n

pub count_part : (a b : ℕ → Bool) (n : ℕ) → ((d : ℕ) → d < n → a d ≡ true → b d ≡ true) → count a n ≤ count b n
count_part a b zero h = omega arith
count_part a b (suc n) h = go (a n) refl (b n) refl (count_part a b n (λ d i. h d (omega arith)))
  where
    go : (x : Bool) → a n ≡ x → (y : Bool) → b n ≡ y → count a n ≤ count b n → tally (a n) + count a n ≤ tally (b n) + count b n
    go true p true q r = rw (p, q) (omega arith)
    go true p false q r = absurd (true≢false (sym (h n (omega arith) p) ∙ q))
    go false p true q r = rw (p, q) (omega arith)
    go false p false q r = rw (p, q) (omega arith)

-- a slot in neither, or each slot is in one of the two
pub count_meet : (a b : ℕ → Bool) (n : ℕ) → ((d : ℕ) × (d < n) × (a d ≡ false) × (b d ≡ false)) ⊎ (n ≤ count a n + count b n)
count_meet a b zero = inr (omega arith)
count_meet a b (suc n) = ⊎_elim (λ r. inl (r.0, omega (arith, r.1), r.2, r.3)) (λ r. go (a n) refl (b n) refl r) (count_meet a b n)
  where
    go : (x : Bool) → a n ≡ x → (y : Bool) → b n ≡ y → n ≤ count a n + count b n → ((d : ℕ) × (d < suc n) × (a d ≡ false) × (b d ≡ false)) ⊎ (suc n ≤ (tally (a n) + count a n) + (tally (b n) + count b n))
    go true p true q r = inr (rw (p, q) (omega arith))
    go true p false q r = inr (rw (p, q) (omega arith))
    go false p true q r = inr (rw (p, q) (omega arith))
    go false p false q r = inl (n, omega arith, p, q)

unfoldable pub at_most : (k m : ℕ) → m < k → Quorum (k + m)
at_most k m more =
    record {
      few = λ a. leb (count a (k + m)) m;
      part = λ a b h e. le-leb (count a (k + m)) m (omega (arith, count_part a b (k + m) h, leb-true (count b (k + m)) m e));
      meet = λ a b p q. ⊎_elim (λ r. r) (λ r. absurd (omega (arith, leb-true (count a (k + m)) m p, leb-true (count b (k + m)) m q))) (count_meet a b (k + m));
    }
