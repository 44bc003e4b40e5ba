-- Three syndromes, two wrong shards: they never look like one other wrong shard. Assumes nothing.
use Rattle.std.specs.Prelude.{◌≡◌, ◌≢◌, [], ◌∷◌}
use Rattle.std.proofs.Common.{◌∙◌}
use Rattle.algebra.specs.Ring.{zer, one, ◌⊕◌, ◌⊗◌, ring, ring_from, none, given}
use Rattle.algebra.specs.Field.{Field, X, Y, Z, P, Q, S}
use Rattle.algebra.specs.Vander.{three}

module _ {A : Type 0} (F : Field A) where
  open F.base use {add as ◌⊞◌, mul as ◌⊠◌, O}

  infixl 60 ◌⊞◌
  infixl 70 ◌⊠◌
  -- errors p at x and q at y, seen as an error r at z: p is 0
  pub innocent : (x y z p q r : A) → p ⊞ q ≡ r → x ⊠ p ⊞ y ⊠ q ≡ z ⊠ r → x ⊠ x ⊠ p ⊞ y ⊠ y ⊠ q ≡ z ⊠ z ⊠ r → x ≢ y → x ≢ z → p ≡ O
  innocent x y z p q r e f g ny nz =
      three F x y z p q r O O O
      (ring_from F.base (x ∷ y ∷ z ∷ p ∷ q ∷ r ∷ []) (P ⊕ Q ⊕ S) zer (given one (P ⊕ Q) S e none) tt)
      (ring_from F.base (x ∷ y ∷ z ∷ p ∷ q ∷ r ∷ []) (X ⊗ P ⊕ Y ⊗ Q ⊕ Z ⊗ S) zer (given one (X ⊗ P ⊕ Y ⊗ Q) (Z ⊗ S) f none) tt)
      (ring_from F.base (x ∷ y ∷ z ∷ p ∷ q ∷ r ∷ []) (X ⊗ X ⊗ P ⊕ Y ⊗ Y ⊗ Q ⊕ Z ⊗ Z ⊗ S) zer (given one (X ⊗ X ⊗ P ⊕ Y ⊗ Y ⊗ Q) (Z ⊗ Z ⊗ S) g none) tt)
      ny nz
      ∙ ring F.base (F.inv ((x ⊞ y) ⊠ (x ⊞ z)) ∷ y ∷ z ∷ []) (X ⊗ (zer ⊕ (Y ⊕ Z) ⊗ zer ⊕ Y ⊗ Z ⊗ zer)) zer tt
