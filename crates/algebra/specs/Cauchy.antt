-- Cauchy systems of any size: the sums of d / (x + y) over the unknowns (x, d), one for each row y, determine the d.
-- By elimination: taking one row and one unknown out leaves such a system again. Assumes nothing.
use Rattle.std.specs.Prelude.{◌≡◌, refl, ◌≢◌, List, [], ◌∷◌}
use Rattle.std.proofs.Common.{◌∙◌}
use Rattle.algebra.specs.Ring.{zer, one, ◌⊕◌, ◌⊗◌, ring, ring_from, none, given, eq_of_sum, mul_zero}
use Rattle.algebra.specs.Field.{Field, X, Y, Z, P, Q, S, U, K, W, divided, sum_nonzero}

-- the first list is at least as long as the second: rows and unknowns
abbrev pub Enough : {B C : Type 0} → List B → List C → Type 0
Enough rs [] = Unit {0}
Enough [] (u ∷ l) = ⊥
Enough (r ∷ rs) (u ∷ l) = Enough rs l

module _ {A : Type 0} (F : Field A) where
  open F.base use {add as ◌⊞◌, mul as ◌⊠◌, O, I, mul_comm, mul_assoc, mul_one}

  infixl 60 ◌⊞◌
  infixl 70 ◌⊠◌
  -- the row of y
  abbrev pub row : A → List (A × A) → A
  row y [] = O
  row y (u ∷ l) = u.1 ⊠ F.inv (u.0 ⊞ y) ⊞ row y l

  -- x is none of the unknowns' places, y none of the rows
  abbrev pub Apart : A → List (A × A) → Type 0
  Apart a [] = Unit {0}
  Apart a (u ∷ l) = (u.0 ≢ a) × Apart a l

  abbrev pub Distinct : List (A × A) → Type 0
  Distinct [] = Unit {0}
  Distinct (u ∷ l) = Apart u.0 l × Distinct l

  -- the unknowns that are left when the unknown at x and the row of y are taken out
  abbrev pub less : A → A → List (A × A) → List (A × A)
  less x y [] = []
  less x y (u ∷ l) = (u.0, u.1 ⊠ (x ⊞ u.0) ⊠ F.inv (u.0 ⊞ y)) ∷ less x y l

  -- (x + y) / (x + y) = 1
  pub unit_at : (x y : A) → x ≢ y → (x ⊞ y) ⊠ F.inv (x ⊞ y) ≡ I
  unit_at x y n = F.mul_inv (x ⊞ y) (sum_nonzero F x y n)

  -- a term: (y + z) d (x + u) / ((u + y) (u + z)) = (x + z) d / (u + z) + (x + y) d / (u + y)
  term : (x y z u d : A) → u ≢ y → u ≢ z
      → (y ⊞ z) ⊠ (d ⊠ (x ⊞ u) ⊠ F.inv (u ⊞ y) ⊠ F.inv (u ⊞ z)) ≡ (x ⊞ z) ⊠ (d ⊠ F.inv (u ⊞ z)) ⊞ (x ⊞ y) ⊠ (d ⊠ F.inv (u ⊞ y))
  term x y z u d ny nz =
      ring_from F.base (x ∷ y ∷ z ∷ u ∷ d ∷ F.inv (u ⊞ y) ∷ F.inv (u ⊞ z) ∷ [])
      ((Y ⊕ Z) ⊗ (Q ⊗ (X ⊕ P) ⊗ S ⊗ U)) ((X ⊕ Z) ⊗ (Q ⊗ U) ⊕ (X ⊕ Y) ⊗ (Q ⊗ S))
      (given (Q ⊗ (X ⊕ P) ⊗ U ⊕ Q) ((P ⊕ Y) ⊗ S) one (unit_at u y ny)
      (given (Q ⊗ (X ⊕ P) ⊗ S ⊕ Q) ((P ⊕ Z) ⊗ U) one (unit_at u z nz) none)) tt

  -- the rows of what is left, from the rows of the whole but for the unknown at x
  pub rest : (x y z : A) (l : List (A × A)) → Apart y l → Apart z l
      → (y ⊞ z) ⊠ row z (less x y l) ≡ (x ⊞ z) ⊠ row z l ⊞ (x ⊞ y) ⊠ row y l
  rest x y z [] ay az =
      ring F.base (x ∷ y ∷ z ∷ []) ((Y ⊕ Z) ⊗ zer) ((X ⊕ Z) ⊗ zer ⊕ (X ⊕ Y) ⊗ zer) tt
  rest x y z (u ∷ l) ay az =
      ring_from F.base
      (x ∷ y ∷ z ∷ u.1 ⊠ (x ⊞ u.0) ⊠ F.inv (u.0 ⊞ y) ⊠ F.inv (u.0 ⊞ z) ∷ row z (less x y l) ∷ u.1 ⊠ F.inv (u.0 ⊞ z)
      ∷ u.1 ⊠ F.inv (u.0 ⊞ y) ∷ row z l ∷ row y l ∷ [])
      ((Y ⊕ Z) ⊗ (P ⊕ Q)) ((X ⊕ Z) ⊗ (S ⊕ K) ⊕ (X ⊕ Y) ⊗ (U ⊕ W))
      (given one ((Y ⊕ Z) ⊗ P) ((X ⊕ Z) ⊗ S ⊕ (X ⊕ Y) ⊗ U) (term x y z u.0 u.1 ay.0 az.0)
      (given one ((Y ⊕ Z) ⊗ Q) ((X ⊕ Z) ⊗ K ⊕ (X ⊕ Y) ⊗ W) (rest x y z l ay.1 az.1) none)) tt

  -- where both rows of the whole are 0, so is the row of what is left
  left : (x d y z : A) (l : List (A × A)) → y ≢ z → x ≢ y → x ≢ z → Apart y l → Apart z l
      → row y ((x, d) ∷ l) ≡ O → row z ((x, d) ∷ l) ≡ O → row z (less x y l) ≡ O
  left x d y z l n ny nz ay az e f =
      divided F (y ⊞ z) (row z (less x y l)) O (sum_nonzero F y z n)
      (ring_from F.base (x ∷ y ∷ z ∷ d ∷ F.inv (x ⊞ y) ∷ F.inv (x ⊞ z) ∷ row y l ∷ row z l ∷ row z (less x y l) ∷ [])
      ((Y ⊕ Z) ⊗ W) zer
      (given one ((Y ⊕ Z) ⊗ W) ((X ⊕ Z) ⊗ K ⊕ (X ⊕ Y) ⊗ U) (rest x y z l ay az)
      (given (X ⊕ Y) (P ⊗ Q ⊕ U) zer e
      (given (X ⊕ Z) (P ⊗ S ⊕ K) zer f
      (given P ((X ⊕ Y) ⊗ Q) one (unit_at x y ny)
      (given P ((X ⊕ Z) ⊗ S) one (unit_at x z nz) none))))) tt)
      ∙ mul_zero F.base (F.inv (y ⊞ z))

  -- ---- the statement

  -- each row is 0
  abbrev pub Solved : List A → List (A × A) → Type 0
  Solved [] l = Unit {0}
  Solved (y ∷ ys) l = (row y l ≡ O) × Solved ys l

  -- each row is none of the unknowns' places
  abbrev pub Off : List A → List (A × A) → Type 0
  Off [] l = Unit {0}
  Off (y ∷ ys) l = Apart y l × Off ys l

  abbrev pub Unlike : A → List A → Type 0
  Unlike y [] = Unit {0}
  Unlike y (z ∷ ys) = (y ≢ z) × Unlike y ys

  abbrev pub Rows : List A → Type 0
  Rows [] = Unit {0}
  Rows (y ∷ ys) = Unlike y ys × Rows ys

  abbrev pub Zeros : List (A × A) → Type 0
  Zeros [] = Unit {0}
  Zeros (u ∷ l) = (u.1 ≡ O) × Zeros l

  pub apart_less : (a x y : A) (l : List (A × A)) → Apart a l → Apart a (less x y l)
  apart_less a x y [] h = tt
  apart_less a x y (u ∷ l) h = (h.0, apart_less a x y l h.1)

  pub distinct_less : (x y : A) (l : List (A × A)) → Distinct l → Distinct (less x y l)
  distinct_less x y [] h = tt
  distinct_less x y (u ∷ l) h = (apart_less u.0 x y l h.0, distinct_less x y l h.1)

  off_less : (ys : List A) (x y : A) (l : List (A × A)) → Off ys l → Off ys (less x y l)
  off_less [] x y l h = tt
  off_less (z ∷ ys) x y l h = (apart_less z x y l h.0, off_less ys x y l h.1)

  enough_less : (ys : List A) (x y : A) (l : List (A × A)) → Enough ys l → Enough ys (less x y l)
  enough_less ys x y [] h = tt
  enough_less [] x y (u ∷ l) h = h
  enough_less (z ∷ ys) x y (u ∷ l) h = enough_less ys x y l h

  solved_less : (ys : List A) (x d y : A) (l : List (A × A)) → Unlike y ys → x ≢ y → Apart y l → Off ys ((x, d) ∷ l)
      → row y ((x, d) ∷ l) ≡ O → Solved ys ((x, d) ∷ l) → Solved ys (less x y l)
  solved_less [] x d y l n ny ay o e s = tt
  solved_less (z ∷ ys) x d y l n ny ay o e s =
      (left x d y z l n.0 ny o.0.0 ay o.0.1 e s.0, solved_less ys x d y l n.1 ny ay o.1 e s.1)

  -- d (x + u) / (u + y) = 0: d = 0
  zero_back : (x y u d : A) → u ≢ x → u ≢ y → d ⊠ (x ⊞ u) ⊠ F.inv (u ⊞ y) ≡ O → d ≡ O
  zero_back x y u d nx ny e =
      divided F (u ⊞ x) d O (sum_nonzero F u x nx)
      (ring_from F.base (x ∷ y ∷ u ∷ d ∷ F.inv (u ⊞ y) ∷ []) ((Z ⊕ X) ⊗ P) zer
      (given (Z ⊕ Y) (P ⊗ (X ⊕ Z) ⊗ Q) zer e (given ((Z ⊕ X) ⊗ P) ((Z ⊕ Y) ⊗ Q) one (unit_at u y ny) none)) tt)
      ∙ mul_zero F.base (F.inv (u ⊞ x))

  zeros_back : (x y : A) (l : List (A × A)) → Apart x l → Apart y l → Zeros (less x y l) → Zeros l
  zeros_back x y [] ax ay h = tt
  zeros_back x y (u ∷ l) ax ay h =
      (zero_back x y u.0 u.1 ax.0 ay.0 h.0, zeros_back x y l ax.1 ay.1 h.1)

  row_zeros : (y : A) (l : List (A × A)) → Zeros l → row y l ≡ O
  row_zeros y [] h = refl
  row_zeros y (u ∷ l) h =
      ring_from F.base (u.1 ∷ F.inv (u.0 ⊞ y) ∷ row y l ∷ []) (X ⊗ Y ⊕ Z) zer
      (given Y X zer h.0 (given one Z zer (row_zeros y l h.1) none)) tt

  head_zero : (x y d : A) (l : List (A × A)) → x ≢ y → Zeros l → row y ((x, d) ∷ l) ≡ O → d ≡ O
  head_zero x y d l n h e =
      ring_from F.base (x ∷ y ∷ d ∷ F.inv (x ⊞ y) ∷ row y l ∷ []) Z zer
      (given (X ⊕ Y) (Z ⊗ P ⊕ Q) zer e (given (X ⊕ Y) Q zer (row_zeros y l h) (given Z ((X ⊕ Y) ⊗ P) one (unit_at x y n) none))) tt

  off_tail : (ys : List A) (u : A × A) (l : List (A × A)) → Off ys (u ∷ l) → Off ys l
  off_tail [] u l o = tt
  off_tail (y ∷ ys) u l o = (o.0.1, off_tail ys u l o.1)

  -- the only solution of the system of zeros is 0
  pub unique : (ys : List A) (l : List (A × A)) → Enough ys l → Rows ys → Distinct l → Off ys l → Solved ys l → Zeros l
  unique [] [] en r ds o s = tt
  unique (y ∷ ys) [] en r ds o s = tt
  unique [] (u ∷ l) en r ds o s = absurd en
  unique (y ∷ ys) (u ∷ l) en r ds o s =
      let zs : Zeros l =
      zeros_back u.0 y l ds.0 o.0.1
      (unique ys (less u.0 y l) (enough_less ys u.0 y l en) r.1 (distinct_less u.0 y l ds.1) (off_less ys u.0 y l (off_tail ys u l o.1))
      (solved_less ys u.0 u.1 y l r.0 o.0.0 o.0.1 o.1 s.0 s.1)) in
      (head_zero u.0 y u.1 l o.0.0 zs s.0, zs)

  -- ---- the same for two solutions: a list of places with two candidates each

  abbrev pub firsts : List (A × A × A) → List (A × A)
  firsts [] = []
  firsts (u ∷ l) = (u.0, u.1) ∷ firsts l

  abbrev pub seconds : List (A × A × A) → List (A × A)
  seconds [] = []
  seconds (u ∷ l) = (u.0, u.2) ∷ seconds l

  abbrev pub sums : List (A × A × A) → List (A × A)
  sums [] = []
  sums (u ∷ l) = (u.0, u.1 ⊞ u.2) ∷ sums l

  row_sums : (y : A) (l : List (A × A × A)) → row y (sums l) ≡ row y (firsts l) ⊞ row y (seconds l)
  row_sums y [] = ring F.base [] zer (zer ⊕ zer) tt
  row_sums y (u ∷ l) =
      ring_from F.base (u.1 ∷ u.2 ∷ F.inv (u.0 ⊞ y) ∷ row y (sums l) ∷ row y (firsts l) ∷ row y (seconds l) ∷ [])
      ((X ⊕ Y) ⊗ Z ⊕ P) ((X ⊗ Z ⊕ Q) ⊕ (Y ⊗ Z ⊕ S)) (given one P (Q ⊕ S) (row_sums y l) none) tt

  abbrev pub Agree : List A → List (A × A × A) → Type 0
  Agree [] l = Unit {0}
  Agree (y ∷ ys) l = (row y (firsts l) ≡ row y (seconds l)) × Agree ys l

  abbrev pub Same : List (A × A × A) → Type 0
  Same [] = Unit {0}
  Same (u ∷ l) = (u.1 ≡ u.2) × Same l

  agree_solved : (ys : List A) (l : List (A × A × A)) → Agree ys l → Solved ys (sums l)
  agree_solved [] l h = tt
  agree_solved (y ∷ ys) l h = (
    ring_from F.base (row y (sums l) ∷ row y (firsts l) ∷ row y (seconds l) ∷ []) X zer
        (given one X (Y ⊕ Z) (row_sums y l) (given one Y Z h.0 none)) tt,
    agree_solved ys l h.1,
  )

  zeros_same : (l : List (A × A × A)) → Zeros (sums l) → Same l
  zeros_same [] h = tt
  zeros_same (u ∷ l) h = (eq_of_sum F.base u.1 u.2 h.0, zeros_same l h.1)

  -- the rows determine the unknowns
  pub determined : (ys : List A) (l : List (A × A × A)) → Enough ys (sums l) → Rows ys → Distinct (sums l) → Off ys (sums l) → Agree ys l → Same l
  determined ys l en r ds o s = zeros_same l (unique ys (sums l) en r ds o (agree_solved ys l s))
