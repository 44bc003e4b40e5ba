-- What a division answers: refused for a divisor 0; else the one byte whose product with the divisor is the dividend.
-- Assumes nothing.
use Rattle.std.specs.Prelude.{ℕ, zero, suc, Ok, Err, Result}
use Rattle.field.specs.Field.{mul_of, inverse_of}
use Rattle.field.specs.declared.Refusal.{Refusal}
use Rattle.field.specs.declared.Refusal.TheVariants.{Zero}

-- what became of a division
abbrev pub Quotient : Type 0
Quotient = Result ℕ Refusal

abbrev pub quotient_of : ℕ → ℕ → Quotient
quotient_of a zero = Err Zero
quotient_of a (suc b) = Ok (mul_of a (inverse_of (suc b)))
