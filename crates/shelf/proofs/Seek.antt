-- The first slot from one on that is in a mask. Assumes nothing.
use Rattle.std.specs.Prelude.{◌≡◌, Bool, true, false, ℕ, zero, suc, ◌+◌, ◌-◌, ◌≤◌, ◌<◌, ltb, max, Option, Some, None}
use Rattle.std.specs.Option.{MatchOption, unwrap_or}
use Rattle.std.proofs.Math.Path.{refl, sym, ap}
use Rattle.std.proofs.Common.{◌∙◌, arith, ltb-true, ltb-false}
use Rattle.disk.specs.Mask.{in_mask}
use Rattle.shelf.specs.Step.{seek}
use Rattle.shelf.specs.Says.{seek_here, seek_on, seek_end}

module _ (mask n : ℕ) where
  seek_none : (k a : ℕ) → a + k ≡ n → ((d : ℕ) → a ≤ d → d < n → in_mask mask d ≡ false) → seek mask (n - a) a ≡ n
  seek_none zero a e h = let q : a ≡ n = omega (arith, e) in seek_end mask n a (omega (arith, e)) ∙ q
  seek_none (suc k) a e h = seek_on mask n a (omega (arith, e)) (h a (omega arith) (omega (arith, e))) ∙ seek_none k (a + 1) (omega (arith, e)) (λ d l. h d (omega (arith, l)))

  seek_some : (k a i : ℕ) → a + k ≡ i → i < n → in_mask mask i ≡ true → ((d : ℕ) → a ≤ d → d < i → in_mask mask d ≡ false) → seek mask (n - a) a ≡ i
  seek_some zero a i e l y h = let q : a ≡ i = omega (arith, e) in seek_here mask n a (omega (arith, e, l)) (ap (in_mask mask) q ∙ y) ∙ q
  seek_some (suc k) a i e l y h =
      seek_on mask n a (omega (arith, e, l)) (h a (omega arith) (omega (arith, e))) ∙ seek_some k (a + 1) i (omega (arith, e)) l y (λ d m. h d (omega (arith, m)))

  pub first_or : (from : ℕ) (r : Option ℕ)
      → MatchOption r ((d : ℕ) → from ≤ d → d < n → in_mask mask d ≡ false)
      (λ i. (from ≤ i) × (i < n) × (in_mask mask i ≡ true) × ((d : ℕ) → from ≤ d → d < i → in_mask mask d ≡ false))
      → unwrap_or r (max n from) ≡ seek mask (n - from) from
  first_or from None h = by (ltb n from) refl
    where
      by : (b : Bool) → ltb n from ≡ b → max n from ≡ seek mask (n - from) from
      by true e = let l : n < from = ltb-true n from e in let q : max n from ≡ from = omega (arith, l) in q ∙ sym (seek_end mask n from (omega (arith, l)))
      by false e = let l : from ≤ n = ltb-false n from e in let q : max n from ≡ n = omega (arith, l) in q ∙ sym (seek_none (n - from) from (omega (arith, l)) h)
  first_or from (Some i) h = sym (seek_some (i - from) from i (omega (arith, h.0)) h.1 h.2 h.3)
