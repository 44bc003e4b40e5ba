-- The laws of the product: bilinear, commutative, associative, all without a bound. Assumes nothing.
use Rattle.std.specs.Prelude.{◌≡◌, ℕ, zero, suc, ◌*◌, ◌/◌, ◌%◌, ◌^◌, ◌<◌}
use Rattle.std.proofs.Common.{sym, ap, ap₂, ◌∙◌, subst, mod-lt, pow-suc, div-lt_iff_lt-mul, zero-mul, one-mul, mul_comm, arith, pow_pos}
use Rattle.std.proofs.Math.Arith.{lt-one}
use Rattle.std.proofs.Math.Pow.{split}
use Rattle.std.specs.Int.Bits.{bit_xor, xor_self, xor_shifted}
use Rattle.bits.specs.Xor.{bit_ind}

-- two linear functions that agree at the powers of 2 agree below 2 ^ k
module _ (f g : ℕ → ℕ) (lf : (a b : ℕ) → f (bit_xor a b) ≡ bit_xor (f a) (f b)) (lg : (a b : ℕ) → g (bit_xor a b) ≡ bit_xor (g a) (g b)) where
  zeros : f 0 ≡ g 0
  zeros = lf 0 0 ∙ xor_self (f 0) ∙ sym (lg 0 0 ∙ xor_self (g 0))

  pub lin_ext : (k : ℕ) → ((i : ℕ) → i < k → f (2 ^ i) ≡ g (2 ^ i)) → (a : ℕ) → a < 2 ^ k → f a ≡ g a
  lin_ext zero e a h = rw (lt-one h) zeros
  lin_ext (suc k) e a h =
      ap f apart ∙ lf (a / 2 ^ k * 2 ^ k) (a % 2 ^ k)
      ∙ ap₂ bit_xor (high (a / 2 ^ k) ((div-lt_iff_lt-mul (pow_pos k)).1 (subst (λ (x : ℕ). a < x) (pow-suc 2 k ∙ mul_comm (2 ^ k) 2) h)))
      (lin_ext k (λ i l. e i (omega arith)) (a % 2 ^ k) (mod-lt a (pow_pos k)))
      ∙ sym (ap g apart ∙ lg (a / 2 ^ k * 2 ^ k) (a % 2 ^ k))
    where
      apart : a ≡ bit_xor (a / 2 ^ k * 2 ^ k) (a % 2 ^ k)
      apart = sym (xor_shifted (a / 2 ^ k) k (a % 2 ^ k) (mod-lt a (pow_pos k)) ∙ split a k)

      high : (x : ℕ) → x < 2 → f (x * 2 ^ k) ≡ g (x * 2 ^ k)
      high = bit_ind (λ x. f (x * 2 ^ k) ≡ g (x * 2 ^ k)) (rw (zero-mul (2 ^ k)) zeros) (rw (one-mul (2 ^ k)) (e k (omega arith)))
