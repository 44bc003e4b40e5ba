-- Numbers in a row of bytes, 8 bytes each, lowest byte first. What is written reads back. Assumes nothing.
use Rattle.std.specs.Prelude.{◌≡◌, refl, length, get_or, set, drop}
use Rattle.std.proofs.Common.{sym, ◌∙◌, add-one, length-append, length-drop, drop_of_length-le, drop-drop, drop-cons, take_all, take-suc-set}
use Rattle.std.proofs.Math.Path.{ap, ap₂}
use mathlib.Core.List.{List, [], ◌∷◌, ◌++◌, append_assoc, append-nil}
use Prim.Native.Nat.{ℕ, zero, suc, ◌+◌, ◌*◌, ◌-◌, ◌≤◌, ◌<◌, ◌^◌}
use native.Mathlib.Omega.{arith}
use Rattle.std.proofs.Math.ListN.{take}
use Rattle.std.proofs.Math.Seq.{append_snoc}
use Rattle.disk.specs.Number.{number_at, with_number, bytes_of, length_bytes, with_append}
use Rattle.disk.proofs.NumberLaws.{number_append}

-- the bytes of the numbers
unfoldable pub words : List ℕ → List ℕ
words [] = []
words (x ∷ l) = bytes_of 8 x ++ words l

-- n numbers from `at`; a byte past the end counts as 0
unfoldable pub numbers_at : ℕ → List ℕ → ℕ → List ℕ
numbers_at zero b at = []
numbers_at (suc n) b at = number_at 8 b at ∷ numbers_at n b (at + 8)

-- b with the numbers written from `at`; past the end nothing is written
unfoldable pub with_words : List ℕ → List ℕ → ℕ → List ℕ
with_words [] b at = b
with_words (x ∷ l) b at = with_words l (with_number 8 b at x) (at + 8)

-- each number fits in 8 bytes
abbrev pub Fit : List ℕ → Type 0
Fit l = (i : ℕ) → get_or l i 0 < 2 ^ 64

-- ---- laws

pub length_words : (l : List ℕ) → length (words l) ≡ 8 * length l
unfolding words
length_words [] = refl
length_words (x ∷ l) = omega (arith, length-append (bytes_of 8 x) (words l), length_bytes 8 x, length_words l)

-- numbers that are written behind p are their bytes there
pub words_append : (l p q : List ℕ) → 8 * length l ≤ length q → with_words l (p ++ q) (length p) ≡ p ++ (words l ++ drop (8 * length l) q)
unfolding with_words words
words_append [] p q h = refl
words_append (x ∷ l) p q h =
    let y : List ℕ = bytes_of 8 x in
    let e : length p + 8 ≡ length (p ++ y) = omega (arith, length-append p y, length_bytes 8 x) in
    let d : 8 + 8 * length l ≡ 8 * suc (length l) = omega arith in
    ap (λ (b : List ℕ). with_words l b (length p + 8)) (with_append 8 p q x (omega arith) ∙ sym (append_assoc p y (drop 8 q)))
    ∙ ap (λ (k : ℕ). with_words l ((p ++ y) ++ drop 8 q) k) e
    ∙ words_append l (p ++ y) (drop 8 q) (omega (arith, length-drop 8 q))
    ∙ append_assoc p y (words l ++ drop (8 * length l) (drop 8 q))
    ∙ ap (λ (z : List ℕ). p ++ (y ++ (words l ++ z))) (drop-drop (8 * length l) 8 q ∙ ap (λ (k : ℕ). drop k q) d)
    ∙ ap (λ (z : List ℕ). p ++ z) (sym (append_assoc y (words l) (drop (8 * suc (length l)) q)))

-- and bytes behind p read as their numbers
pub numbers_append : (l p q : List ℕ) → Fit l → numbers_at (length l) (p ++ (words l ++ q)) (length p) ≡ l
unfolding numbers_at words
numbers_append [] p q h = refl
numbers_append (x ∷ l) p q h =
    let y : List ℕ = bytes_of 8 x in
    let e : length p + 8 ≡ length (p ++ y) = omega (arith, length-append p y, length_bytes 8 x) in
    let a : p ++ ((y ++ words l) ++ q) ≡ p ++ (y ++ (words l ++ q)) = ap (λ (z : List ℕ). p ++ z) (append_assoc y (words l) q) in
    ap₂ (λ (u : ℕ) (v : List ℕ). u ∷ v)
    (ap (λ (b : List ℕ). number_at 8 b (length p)) a ∙ number_append 8 p (words l ++ q) x (h 0))
    (ap₂ (λ (b : List ℕ) (k : ℕ). numbers_at (length l) b k) (a ∙ sym (append_assoc p y (words l ++ q))) e
    ∙ numbers_append l (p ++ y) q (λ i. h (suc i)))

pub fit_append : (l r : List ℕ) → Fit l → Fit r → Fit (l ++ r)
fit_append [] r p q i = q i
fit_append (x ∷ l) r p q zero = p 0
fit_append (x ∷ l) r p q (suc i) = fit_append l r (λ j. p (suc j)) q i

-- ---- number by number

module _ (a b : List ℕ) (i : ℕ) where
  pub read_turn : (n : ℕ) → i < n → i < length a
      → take (i + 1) (set a i (number_at 8 b (8 * i))) ++ numbers_at (n - (i + 1)) b (8 * (i + 1)) ≡ take i a ++ numbers_at (n - i) b (8 * i)
  unfolding numbers_at
  read_turn n l h =
      let v : ℕ = number_at 8 b (8 * i) in
      let m : ℕ = n - (i + 1) in
      let f : 8 * (i + 1) ≡ 8 * i + 8 = omega arith in
      let e : suc (n - (i + 1)) ≡ n - i = omega arith in
      ap₂ (λ (j k : ℕ). take j (set a i v) ++ numbers_at m b k) (add-one i) f
      ∙ ap (λ (z : List ℕ). z ++ numbers_at m b (8 * i + 8)) (take-suc-set a i v h)
      ∙ append_snoc (take i a) v (numbers_at m b (8 * i + 8))
      ∙ ap (λ (k : ℕ). take i a ++ numbers_at k b (8 * i)) e

  pub read_done : (n k : ℕ) → n ≤ i → length a ≤ i → take i a ++ numbers_at (n - i) b k ≡ a
  unfolding numbers_at
  read_done n k l h =
      let e : n - i ≡ 0 = omega arith in
      ap₂ (λ (z : List ℕ) (j : ℕ). z ++ numbers_at j b k) (take_all i a h) e ∙ append-nil a

  pub write_turn : (from : ℕ) → i < length a
      → with_words (drop (i + 1) a) (with_number 8 b (8 * (from + i)) (get_or a i 0)) (8 * (from + (i + 1))) ≡ with_words (drop i a) b (8 * (from + i))
  unfolding with_words
  write_turn from h =
      let f : 8 * (from + (i + 1)) ≡ 8 * (from + i) + 8 = omega arith in
      ap₂ (λ (j k : ℕ). with_words (drop j a) (with_number 8 b (8 * (from + i)) (get_or a i 0)) k) (add-one i) f
      ∙ ap (λ (z : List ℕ). with_words z b (8 * (from + i))) (sym (drop-cons a i 0 h))

  pub write_done : (k : ℕ) → length a ≤ i → with_words (drop i a) b k ≡ b
  unfolding with_words
  write_done k h = ap (λ (z : List ℕ). with_words z b k) (drop_of_length-le a {i = i} h)
