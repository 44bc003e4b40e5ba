-- The equations of up to three lost shards, rows 1, x, x * x, in any field of characteristic 2: the explicit formula is the lost
-- value. Assumes nothing.
use Rattle.std.specs.Prelude.{◌≡◌, ◌≢◌, [], ◌∷◌}
use Rattle.algebra.specs.Ring.{one, ◌⊕◌, ◌⊗◌, ring_from, none, given}
use Rattle.algebra.specs.Field.{Field, X, Y, Z, P, Q, S, U, K, W, divided, mul_nonzero, sum_nonzero}

module _ {A : Type 0} (F : Field A) where
  open F.base use {add as ◌⊞◌, mul as ◌⊠◌, O}

  infixl 60 ◌⊞◌
  infixl 70 ◌⊠◌
  -- ---- two lost: x, y the weights, p, q the values; each pair of rows
  module _ (x y p q : A) (n : x ≢ y) where
    pub two_01 : (s t : A) → p ⊞ q ≡ s → x ⊠ p ⊞ y ⊠ q ≡ t → p ≡ F.inv (x ⊞ y) ⊠ (t ⊞ y ⊠ s)
    two_01 s t e f =
        divided F (x ⊞ y) p (t ⊞ y ⊠ s) (sum_nonzero F x y n)
        (ring_from F.base (x ∷ y ∷ s ∷ p ∷ q ∷ t ∷ []) ((X ⊕ Y) ⊗ P) (S ⊕ Y ⊗ Z)
        (given Y (P ⊕ Q) Z e (given one (X ⊗ P ⊕ Y ⊗ Q) S f none)) tt)

    pub two_02 : (s t : A) → p ⊞ q ≡ s → x ⊠ x ⊠ p ⊞ y ⊠ y ⊠ q ≡ t → p ≡ F.inv ((x ⊞ y) ⊠ (x ⊞ y)) ⊠ (t ⊞ y ⊠ y ⊠ s)
    two_02 s t e f =
        divided F ((x ⊞ y) ⊠ (x ⊞ y)) p (t ⊞ y ⊠ y ⊠ s) (mul_nonzero F (x ⊞ y) (x ⊞ y) (sum_nonzero F x y n) (sum_nonzero F x y n))
        (ring_from F.base (x ∷ y ∷ s ∷ p ∷ q ∷ t ∷ []) ((X ⊕ Y) ⊗ (X ⊕ Y) ⊗ P) (S ⊕ Y ⊗ Y ⊗ Z)
        (given (Y ⊗ Y) (P ⊕ Q) Z e (given one (X ⊗ X ⊗ P ⊕ Y ⊗ Y ⊗ Q) S f none)) tt)

    pub two_12 : (s t : A) → x ≢ O → x ⊠ p ⊞ y ⊠ q ≡ s → x ⊠ x ⊠ p ⊞ y ⊠ y ⊠ q ≡ t → p ≡ F.inv (x ⊠ (x ⊞ y)) ⊠ (t ⊞ y ⊠ s)
    two_12 s t nx e f =
        divided F (x ⊠ (x ⊞ y)) p (t ⊞ y ⊠ s) (mul_nonzero F x (x ⊞ y) nx (sum_nonzero F x y n))
        (ring_from F.base (x ∷ y ∷ s ∷ p ∷ q ∷ t ∷ []) (X ⊗ (X ⊕ Y) ⊗ P) (S ⊕ Y ⊗ Z)
        (given Y (X ⊗ P ⊕ Y ⊗ Q) Z e (given one (X ⊗ X ⊗ P ⊕ Y ⊗ Y ⊗ Q) S f none)) tt)

  -- ---- three lost
  module _ (x y z p q r : A) where
    pub three : (s t u : A) → p ⊞ q ⊞ r ≡ s → x ⊠ p ⊞ y ⊠ q ⊞ z ⊠ r ≡ t → x ⊠ x ⊠ p ⊞ y ⊠ y ⊠ q ⊞ z ⊠ z ⊠ r ≡ u
        → x ≢ y → x ≢ z → p ≡ F.inv ((x ⊞ y) ⊠ (x ⊞ z)) ⊠ (u ⊞ (y ⊞ z) ⊠ t ⊞ y ⊠ z ⊠ s)
    three s t u e f g ny nz =
        divided F ((x ⊞ y) ⊠ (x ⊞ z)) p (u ⊞ (y ⊞ z) ⊠ t ⊞ y ⊠ z ⊠ s)
        (mul_nonzero F (x ⊞ y) (x ⊞ z) (sum_nonzero F x y ny) (sum_nonzero F x z nz))
        (ring_from F.base (x ∷ y ∷ z ∷ p ∷ q ∷ r ∷ s ∷ t ∷ u ∷ []) ((X ⊕ Y) ⊗ (X ⊕ Z) ⊗ P) (W ⊕ (Y ⊕ Z) ⊗ K ⊕ Y ⊗ Z ⊗ U)
        (given (Y ⊗ Z) (P ⊕ Q ⊕ S) U e
        (given (Y ⊕ Z) (X ⊗ P ⊕ Y ⊗ Q ⊕ Z ⊗ S) K f
        (given one (X ⊗ X ⊗ P ⊕ Y ⊗ Y ⊗ Q ⊕ Z ⊗ Z ⊗ S) W g none))) tt)
