-- What a division answers: refused for a divisor 0; else the one byte whose product with the divisor is the dividend.
-- Assumes nothing.
use Rattle.std.specs.Prelude.{◌≡◌, refl, ◌≢◌, ℕ, zero, suc, ◌<◌, Ok}
use Rattle.std.proofs.Common.{sym, ap, ◌∙◌}
use Rattle.field.specs.Field.{mul_of, inverse_of}
use Rattle.field.proofs.Bytes.{bytes}
use Rattle.field.proofs.InverseLaws.{cancel}
use Rattle.field.specs.Quotient.{quotient_of}

pub quotient_of_lem : (a b q : ℕ) → b ≢ 0 → q ≡ mul_of a (inverse_of b) → Ok q ≡ quotient_of a b
quotient_of_lem a zero q n e = absurd (n refl)
quotient_of_lem a (suc b) q n e = ap Ok e

-- b times the quotient of a and b is a
pub quotient_times : (a b : ℕ) → b ≢ 0 → a < 256 → b < 256 → mul_of b (mul_of a (inverse_of b)) ≡ a
quotient_times a b n ha hb =
    ap (mul_of b) (bytes.mul_comm a (inverse_of b)) ∙ sym (bytes.mul_assoc b (inverse_of b) a)
    ∙ ap (λ (x : ℕ). mul_of x a) (bytes.mul_inverse b n hb) ∙ bytes.mul_comm 1 a ∙ bytes.mul_one a ha

-- and no other byte does that
pub quotient_only : (a b q : ℕ) → b ≢ 0 → a < 256 → b < 256 → q < 256 → mul_of b q ≡ a → q ≡ mul_of a (inverse_of b)
quotient_only a b q n ha hb hq e =
    cancel b q (mul_of a (inverse_of b)) n hb hq (bytes.mul_byte a (inverse_of b)) (e ∙ sym (quotient_times a b n ha hb))
