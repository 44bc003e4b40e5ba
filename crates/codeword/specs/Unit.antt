-- Products by 0 and 1, sums that are 0, and the entries of a unit column. Assumes nothing.
use Rattle.std.specs.Prelude.{◌≡◌, refl, Bool, cond, ◌≢◌, ℕ, ◌<◌}
use Rattle.std.proofs.Common.{sym, ap, ◌∙◌, eq-eqb, ne_eqb}
use Rattle.std.specs.Int.Bits.{bit_xor}
use Rattle.field.specs.Field.{mul_of}
use Rattle.field.proofs.Bytes.{bytes}
use Rattle.codeword.specs.Table.{unit}

pub one_times : (a : ℕ) → a < 256 → mul_of 1 a ≡ a
one_times a h = bytes.mul_comm 1 a ∙ bytes.mul_one a h

pub zero_times : (a : ℕ) → mul_of 0 a ≡ 0
zero_times a = bytes.mul_comm 0 a ∙ bytes.mul_zero a

pub sum_zero : (a b : ℕ) → bit_xor a b ≡ 0 → a ≡ b
sum_zero a b e =
    sym (bytes.add_zero a) ∙ ap (bit_xor a) (sym (bytes.add_self b)) ∙ sym (bytes.add_assoc a b b) ∙ ap (λ (z : ℕ). bit_xor z b) e

pub unit_same : (i : ℕ) → unit i i ≡ 1
unit_same i = ap (λ (b : Bool). cond b 1 0) (eq-eqb i i refl)

pub unit_other : (i j : ℕ) → i ≢ j → unit i j ≡ 0
unit_other i j h = ap (λ (b : Bool). cond b 1 0) (ne_eqb i j h)
