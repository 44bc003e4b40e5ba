-- Lists put together from parts of one length, one behind the other, or from their elements. Assumes nothing.
use Rattle.std.specs.Prelude.{◌≡◌, refl, List, [], ◌∷◌, ◌++◌, ℕ, zero, suc, ◌+◌, ◌*◌, ◌<◌, length, get_or}
use Rattle.std.proofs.Common.{sym, ap, ap₂, ◌∙◌, ⊎_elim, zero-mul, suc-mul, eq-or-lt_of_le, le_of_suc-le-suc, arith, length-append, get_or-append-add}
use Rattle.std.proofs.Math.Arith.{digits_lt}
use Rattle.std.proofs.Math.ListN.{get_or-append}

-- f 0, f 1, .. f (n - 1), one behind the other
abbrev pub in_row : ℕ → (ℕ → List ℕ) → List ℕ
in_row zero f = []
in_row (suc n) f = in_row n f ++ f n

module _ (w : ℕ) (f : ℕ → List ℕ) where
  pub row_length : (n : ℕ) → ((i : ℕ) → i < n → length (f i) ≡ w) → length (in_row n f) ≡ n * w
  row_length zero h = sym (zero-mul w)
  row_length (suc n) h =
      length-append (in_row n f) (f n) ∙ ap₂ (λ (x y : ℕ). x + y) (row_length n (λ i l. h i (omega arith))) (h n (omega arith)) ∙ sym (suc-mul n w)

  pub row_at : (n : ℕ) → ((i : ℕ) → i < n → length (f i) ≡ w) → (i p : ℕ) → i < n → p < w → get_or (in_row n f) (i * w + p) 0 ≡ get_or (f i) p 0
  row_at zero h i p l hp = absurd (omega arith)
  row_at (suc n) h i p l hp =
      ⊎_elim (λ (e : i ≡ n). last e) (λ (g : i < n). before g ∙ row_at n less i p g hp) (eq-or-lt_of_le (le_of_suc-le-suc l))
    where
      less : (i : ℕ) → i < n → length (f i) ≡ w
      less i l = h i (omega arith)

      last : i ≡ n → get_or (in_row n f ++ f n) (i * w + p) 0 ≡ get_or (f i) p 0
      last e =
          ap (λ (i : ℕ). get_or (in_row n f ++ f n) (i * w + p) 0) e ∙ ap (λ (k : ℕ). get_or (in_row n f ++ f n) (k + p) 0) (sym (row_length n less))
          ∙ get_or-append-add (in_row n f) (f n) p 0 ∙ ap (λ (i : ℕ). get_or (f i) p 0) (sym e)

      before : i < n → get_or (in_row n f ++ f n) (i * w + p) 0 ≡ get_or (in_row n f) (i * w + p) 0
      before g =
          let inside : i * w + p < n * w = digits_lt g hp in
          get_or-append (in_row n f) (f n) 0 (i * w + p) (omega (arith, row_length n less))

-- the list of the numbers f 0, f 1, .. f (n - 1)
unfoldable pub listed : ℕ → (ℕ → ℕ) → List ℕ
listed zero f = []
listed (suc n) f = f 0 ∷ listed n (λ i. f (suc i))

pub listed_length : (n : ℕ) (f : ℕ → ℕ) → length (listed n f) ≡ n
unfolding listed
listed_length zero f = refl
listed_length (suc n) f = ap suc (listed_length n (λ i. f (suc i)))

pub listed_at : (n : ℕ) (f : ℕ → ℕ) (i : ℕ) → i < n → get_or (listed n f) i 0 ≡ f i
unfolding listed
listed_at zero f i h = absurd (omega arith)
listed_at (suc n) f zero h = refl
listed_at (suc n) f (suc i) h = listed_at n (λ i. f (suc i)) i (omega arith)
