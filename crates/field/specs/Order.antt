-- The order of g is 255: no power below the 255th but the first is 1, so the first 255 powers are distinct. Assumes nothing.
use Rattle.std.specs.Prelude.{Bool, true, not, ℕ, zero, suc, eqb}
use Rattle.bits.specs.Below.{both}
use Rattle.field.specs.Field.{double_of}

-- n doublings from x on, none of which is at 1
abbrev pub off_one : ℕ → ℕ → Bool
off_one zero x = true
off_one (suc n) x = both (not (eqb x 1)) (off_one n (double_of x))
