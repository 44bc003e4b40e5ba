-- Cauchy systems of any size solved by elimination: the procedure gives the unknowns. Assumes nothing.
use Rattle.std.specs.Prelude.{◌≡◌, refl, ◌≢◌, List, [], ◌∷◌, ℕ, zero, suc, length}
use Rattle.std.proofs.Common.{sym, ap, ap₂, ◌∙◌, arith}
use Rattle.algebra.specs.Ring.{var, one, ◌⊕◌, ◌⊗◌, ring_from, none, given}
use Rattle.algebra.specs.Field.{Field, X, Y, Z, P, Q, S, U, K, W, divided, sum_nonzero}
use Rattle.algebra.specs.Cauchy.{Enough, row, Apart, Distinct, less, unit_at, rest, apart_less, distinct_less}

module _ {A : Type 0} (F : Field A) where
  open F.base use {add as ◌⊞◌, mul as ◌⊠◌, O, I}

  infixl 60 ◌⊞◌
  infixl 70 ◌⊠◌
  -- a row is (y, s): the sum at y is s. The rows that are left when x and the row (y, s) are taken out
  abbrev pub reduce : A → A → A → List (A × A) → List (A × A)
  reduce x y s [] = []
  reduce x y s (r ∷ rs) = (r.0, F.inv (y ⊞ r.0) ⊠ ((x ⊞ r.0) ⊠ r.1 ⊞ (x ⊞ y) ⊠ s)) ∷ reduce x y s rs

  -- places and values
  abbrev pub pairs : List A → List A → List (A × A)
  pairs [] ds = []
  pairs (x ∷ xs) [] = []
  pairs (x ∷ xs) (d ∷ ds) = (x, d) ∷ pairs xs ds

  -- the values as they were before x and the row of y were taken out
  abbrev pub back : A → A → List A → List A → List A
  back x y [] ds = []
  back x y (u ∷ us) [] = []
  back x y (u ∷ us) (d ∷ ds) = d ⊠ (u ⊞ y) ⊠ F.inv (u ⊞ x) ∷ back x y us ds

  -- elimination: reduce the rows, recover the rest, scale it back, and take the head from the first row
  abbrev pub recover : List A → List (A × A) → List A
  recover [] rs = []
  recover (x ∷ xs) [] = []
  recover (x ∷ xs) (r ∷ rs) =
      let ds : List A = back x r.0 xs (recover xs (reduce x r.0 r.1 rs)) in
      (x ⊞ r.0) ⊠ (r.1 ⊞ row F r.0 (pairs xs ds)) ∷ ds

  abbrev pub places : List (A × A) → List A
  places [] = []
  places (u ∷ l) = u.0 ∷ places l

  abbrev pub values : List (A × A) → List A
  values [] = []
  values (u ∷ l) = u.1 ∷ values l

  -- the rows hold of l, and their places are off l
  abbrev pub Holds : List (A × A) → List (A × A) → Type 0
  Holds [] l = Unit {0}
  Holds (r ∷ rs) l = (row F r.0 l ≡ r.1) × Apart F r.0 l × Holds rs l

  places_less : (x y : A) (l : List (A × A)) → places (less F x y l) ≡ places l
  places_less x y [] = refl
  places_less x y (u ∷ l) = ap (λ (t : List A). u.0 ∷ t) (places_less x y l)

  pairs_of : (l : List (A × A)) → pairs (places l) (values l) ≡ l
  pairs_of [] = refl
  pairs_of (u ∷ l) = ap (λ (t : List (A × A)). u ∷ t) (pairs_of l)

  back_less : (x y : A) (l : List (A × A)) → Apart F x l → Apart F y l → back x y (places l) (values (less F x y l)) ≡ values l
  back_less x y [] ax ay = refl
  back_less x y (u ∷ l) ax ay =
      ap₂ {C = List A} (λ (d : A) (t : List A). d ∷ t)
      (ring_from F.base (x ∷ y ∷ u.0 ∷ u.1 ∷ F.inv (u.0 ⊞ y) ∷ F.inv (u.0 ⊞ x) ∷ [])
      (P ⊗ (X ⊕ Z) ⊗ Q ⊗ (Z ⊕ Y) ⊗ S) P
      (given (P ⊗ (X ⊕ Z) ⊗ S) ((Z ⊕ Y) ⊗ Q) one (unit_at F u.0 y ay.0) (given P ((Z ⊕ X) ⊗ S) one (unit_at F u.0 x ax.0) none)) tt)
      (back_less x y l ax.1 ay.1)

  -- a row of what is left
  next : (x d y z s v : A) (l : List (A × A)) → y ≢ z → x ≢ y → x ≢ z → Apart F y l → Apart F z l
      → row F y ((x, d) ∷ l) ≡ s → row F z ((x, d) ∷ l) ≡ v → row F z (less F x y l) ≡ F.inv (y ⊞ z) ⊠ ((x ⊞ z) ⊠ v ⊞ (x ⊞ y) ⊠ s)
  next x d y z s v l n ny nz ay az e f =
      divided F (y ⊞ z) (row F z (less F x y l)) ((x ⊞ z) ⊠ v ⊞ (x ⊞ y) ⊠ s) (sum_nonzero F y z n)
      (ring_from F.base
      (x ∷ y ∷ z ∷ d ∷ F.inv (x ⊞ y) ∷ F.inv (x ⊞ z) ∷ row F y l ∷ row F z l ∷ row F z (less F x y l) ∷ s ∷ v ∷ [])
      ((Y ⊕ Z) ⊗ W) ((X ⊕ Z) ⊗ var 10 ⊕ (X ⊕ Y) ⊗ var 9)
      (given one ((Y ⊕ Z) ⊗ W) ((X ⊕ Z) ⊗ K ⊕ (X ⊕ Y) ⊗ U) (rest F x y z l ay az)
      (given (X ⊕ Y) (P ⊗ Q ⊕ U) (var 9) e
      (given (X ⊕ Z) (P ⊗ S ⊕ K) (var 10) f
      (given P ((X ⊕ Y) ⊗ Q) one (unit_at F x y ny)
      (given P ((X ⊕ Z) ⊗ S) one (unit_at F x z nz) none))))) tt)

  holds_less : (rs : List (A × A)) (x d y s : A) (l : List (A × A)) → Apart F y rs → x ≢ y → Apart F y l → row F y ((x, d) ∷ l) ≡ s
      → Holds rs ((x, d) ∷ l) → Holds (reduce x y s rs) (less F x y l)
  holds_less [] x d y s l n ny ay e h = tt
  holds_less (r ∷ rs) x d y s l n ny ay e h = (
    next x d y r.0 s r.1 l (λ q. n.0 (sym q)) ny h.1.0 ay h.1.1 e h.0,
    apart_less F r.0 x y l h.1.1,
    holds_less rs x d y s l n.1 ny ay e h.2,
  )

  apart_reduce : (a x y s : A) (rs : List (A × A)) → Apart F a rs → Apart F a (reduce x y s rs)
  apart_reduce a x y s [] h = tt
  apart_reduce a x y s (r ∷ rs) h = (h.0, apart_reduce a x y s rs h.1)

  distinct_reduce : (x y s : A) (rs : List (A × A)) → Distinct F rs → Distinct F (reduce x y s rs)
  distinct_reduce x y s [] h = tt
  distinct_reduce x y s (r ∷ rs) h = (apart_reduce r.0 x y s rs h.0, distinct_reduce x y s rs h.1)

  enough_both : (rs : List (A × A)) (x y s : A) (l : List (A × A)) → Enough rs l → Enough (reduce x y s rs) (less F x y l)
  enough_both [] x y s [] h = tt
  enough_both (r ∷ rs) x y s [] h = tt
  enough_both [] x y s (u ∷ l) h = h
  enough_both (r ∷ rs) x y s (u ∷ l) h = enough_both rs x y s l h

  head_is : (x y d s : A) (l : List (A × A)) → x ≢ y → row F y ((x, d) ∷ l) ≡ s → (x ⊞ y) ⊠ (s ⊞ row F y l) ≡ d
  head_is x y d s l n e =
      ring_from F.base (x ∷ y ∷ d ∷ s ∷ row F y l ∷ F.inv (x ⊞ y) ∷ []) ((X ⊕ Y) ⊗ (P ⊕ Q)) Z
      (given (X ⊕ Y) (Z ⊗ S ⊕ Q) P e (given Z ((X ⊕ Y) ⊗ S) one (unit_at F x y n) none)) tt

  length_less : (x y : A) (l : List (A × A)) → length (less F x y l) ≡ length l
  length_less x y [] = refl
  length_less x y (u ∷ l) = ap suc (length_less x y l)

  -- by induction on the number of unknowns
  go : (n : ℕ) (rs l : List (A × A)) → length l ≡ n → Enough rs l → Distinct F rs → Distinct F l → Holds rs l → recover (places l) rs ≡ values l
  go zero rs [] q en dr dl h = refl
  go zero rs (u ∷ l) q en dr dl h = absurd (omega arith)
  go (suc n) rs [] q en dr dl h = absurd (omega arith)
  go (suc n) [] (u ∷ l) q en dr dl h = absurd en
  go (suc n) (r ∷ rs) (u ∷ l) q en dr dl h =
      let x : A = u.0 in
      let y : A = r.0 in
      let k : length l ≡ n = omega arith in
      let ih : recover (places (less F x y l)) (reduce x y r.1 rs) ≡ values (less F x y l) =
      go n (reduce x y r.1 rs) (less F x y l) (length_less x y l ∙ k) (enough_both rs x y r.1 l en) (distinct_reduce x y r.1 rs dr.1)
      (distinct_less F x y l dl.1) (holds_less rs x u.1 y r.1 l dr.0 h.1.0 h.1.1 h.0 h.2) in
      let ds : back x y (places l) (recover (places l) (reduce x y r.1 rs)) ≡ values l =
      ap (λ (t : List A). back x y (places l) t) (ap (λ (t : List A). recover t (reduce x y r.1 rs)) (sym (places_less x y l)) ∙ ih)
      ∙ back_less x y l dl.0 h.1.1 in
      ap (λ (t : List A). (x ⊞ y) ⊠ (r.1 ⊞ row F y (pairs (places l) t)) ∷ t) ds
      ∙ ap (λ (d : A). d ∷ values l) (ap (λ (t : List (A × A)). (x ⊞ y) ⊠ (r.1 ⊞ row F y t)) (pairs_of l) ∙ head_is x y u.1 r.1 l h.1.0 h.0)

  -- the procedure gives the unknowns
  pub recovered : (rs l : List (A × A)) → Enough rs l → Distinct F rs → Distinct F l → Holds rs l → recover (places l) rs ≡ values l
  recovered rs l = go (length l) rs l refl
