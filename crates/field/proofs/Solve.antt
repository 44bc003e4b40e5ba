-- The solver of `algebra` for numbers under `bit_xor` and `mul_of`: identities of all numbers, bytes or not. Assumes nothing.
use Rattle.std.specs.Prelude.{◌≡◌, Bool, List, [], ◌∷◌, ℕ, T}
use Rattle.std.proofs.Common.{ap}
use Rattle.std.specs.Int.Bits.{bit_xor}
use Rattle.algebra.specs.Ring.{Expr, one, ◌⊕◌, ◌⊗◌, norm, empty, eval, ring, ring_from, Given, none, given}
use Rattle.algebra.specs.Adjoin.{Rng, adjoin}
use Rattle.algebra.specs.Field.{X, Y, Z, P, Q, S}
use Rattle.field.specs.Field.{mul_of}
use Rattle.field.proofs.Bytes.{bytes}
use Rattle.field.specs.Solve.{vars, eqn}

abbrev pub rng : Rng ℕ
rng =
    record {
      add = bit_xor;
      mul = mul_of;
      O = 0;
      add_comm = bytes.add_comm;
      add_assoc = bytes.add_assoc;
      add_zero = bytes.add_zero;
      add_self = bytes.add_self;
      mul_comm = bytes.mul_comm;
      mul_assoc = bytes.mul_assoc;
      mul_add = bytes.mul_add;
    }

-- what an expression says of them. `one` may stand only as a coefficient in `solve_from`
abbrev pub val : List ℕ → Expr → ℕ
val ρ e = (eval (adjoin rng) (vars ρ) e).1

-- an identity
pub solve : (ρ : List ℕ) (e f : Expr) → T (empty (norm (e ⊕ f))) → val ρ e ≡ val ρ f
solve ρ e f t = ap (λ (p : Bool × ℕ). p.1) (ring (adjoin rng) (vars ρ) e f t)

-- an identity modulo equations
pub solve_from : (ρ : List ℕ) (e f : Expr) {s : Expr} → Given (adjoin rng) (vars ρ) s → T (empty (norm (e ⊕ f ⊕ s))) → val ρ e ≡ val ρ f
solve_from ρ e f g t = ap (λ (p : Bool × ℕ). p.1) (ring_from (adjoin rng) (vars ρ) e f g t)

-- two examples: a square of a sum, and two lost shards before the division
square_of_sum : (x y p : ℕ) → mul_of (bit_xor x y) (mul_of p (bit_xor x y)) ≡ mul_of p (bit_xor (mul_of x x) (mul_of y y))
square_of_sum x y p = solve (x ∷ y ∷ p ∷ []) ((X ⊕ Y) ⊗ (Z ⊗ (X ⊕ Y))) (Z ⊗ (X ⊗ X ⊕ Y ⊗ Y)) tt

two_lost : (x y p q s t : ℕ) → bit_xor p q ≡ s → bit_xor (mul_of x p) (mul_of y q) ≡ t → mul_of (bit_xor x y) p ≡ bit_xor t (mul_of y s)
two_lost x y p q s t e f =
    solve_from (x ∷ y ∷ s ∷ p ∷ q ∷ t ∷ []) ((X ⊕ Y) ⊗ P) (S ⊕ Y ⊗ Z)
    (given Y (P ⊕ Q) Z (eqn e) (given one (X ⊗ P ⊕ Y ⊗ Q) S (eqn f) none)) tt
