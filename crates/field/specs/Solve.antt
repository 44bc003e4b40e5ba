-- The solver of `algebra` for numbers under `bit_xor` and `mul_of`: identities of all numbers, bytes or not. Assumes nothing.
use Rattle.std.specs.Prelude.{◌≡◌, Bool, false, List, [], ◌∷◌, ℕ}

-- the variables of an identity
abbrev pub vars : List ℕ → List (Bool × ℕ)
vars [] = []
vars (n ∷ l) = (false, n) ∷ vars l

-- an equation for `solve_from`
pub eqn : {a b : ℕ} → a ≡ b → ◌≡◌ {A = Bool × ℕ} (false, a) (false, b)
eqn p = λ i. (false, p i)
