-- The powers of g: exponents add, and count modulo 255; each byte but 0 is a power. Assumes nothing.
use Rattle.std.specs.Prelude.{Bool, true, false, List, [], ◌∷◌, ℕ, zero, suc, eqb}
use Rattle.field.specs.Field.{double_of}

-- ---- each byte but 0 is a power: one walk through the first 255 of them, by doubling, meets all

abbrev pub walk : ℕ → ℕ → List ℕ
walk zero x = []
walk (suc n) x = x ∷ walk n (double_of x)

abbrev pub meets : List ℕ → ℕ → Bool
meets [] a = false
meets (x ∷ l) a = elim (eqb x a) [ true ↦ true | false ↦ meets l a ]

abbrev pub meets_next : List ℕ → ℕ → Bool
meets_next l n = meets l (suc n)
