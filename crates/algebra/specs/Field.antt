-- Fields of characteristic 2: division, no divisors of zero; and names for the variables of the solver's expressions. Assumes nothing.
use Rattle.std.specs.Prelude.{◌≡◌, ◌≢◌, [], ◌∷◌}
use Rattle.std.proofs.Common.{◌∙◌}
use Rattle.algebra.specs.Ring.{Ring, Expr, var, one, ◌⊗◌, ring_from, none, given, eq_of_sum, mul_zero}

-- a ring of characteristic 2 in which each element but O has an inverse
pub record Field (A : Type 0) : Type 0 where
  pub base : Ring A
  pub inv : A → A
  pub mul_inv : (a : A) → a ≢ base.O → base.mul a (inv a) ≡ base.I

-- names for the variables of an expression
abbrev pub X : Expr
X = var 0

abbrev pub Y : Expr
Y = var 1

abbrev pub Z : Expr
Z = var 2

abbrev pub P : Expr
P = var 3

abbrev pub Q : Expr
Q = var 4

abbrev pub S : Expr
S = var 5

abbrev pub U : Expr
U = var 6

abbrev pub K : Expr
K = var 7

abbrev pub W : Expr
W = var 8

module _ {A : Type 0} (F : Field A) where
  open F.base use {add as ◌⊞◌, mul as ◌⊠◌, O}

  infixl 60 ◌⊞◌
  infixl 70 ◌⊠◌
  -- k a = s: a = s / k
  pub divided : (k a s : A) → k ≢ O → k ⊠ a ≡ s → a ≡ F.inv k ⊠ s
  divided k a s n e =
      ring_from F.base (k ∷ a ∷ s ∷ F.inv k ∷ []) Y (P ⊗ Z)
      (given Y (X ⊗ P) one (F.mul_inv k n) (given P (X ⊗ Y) Z e none)) tt

  pub mul_nonzero : (a b : A) → a ≢ O → b ≢ O → a ⊠ b ≢ O
  mul_nonzero a b ha hb e = hb (divided a b O ha e ∙ mul_zero F.base (F.inv a))

  pub sum_nonzero : (a b : A) → a ≢ b → a ⊞ b ≢ O
  sum_nonzero a b n e = n (eq_of_sum F.base a b e)
