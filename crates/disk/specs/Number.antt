-- Numbers in bytes, lowest byte first, of any width: the number of w bytes at a place, the bytes with a number written
-- there, and a number's own bytes. What is written reads back, and no byte outside changes. Assumes nothing.
use Rattle.std.specs.Prelude.{◌≡◌, refl, ◌⊎◌, List, [], ◌∷◌, ◌++◌, length, get_or, set, drop}
use Rattle.std.proofs.Common.{sym, ap₂, ◌∙◌, subst, inl, inr, ⊎_elim, pow-suc, lit<, length-set, length-append, get_or-set_other}
use Rattle.std.proofs.Math.Path.{ap}
use Prim.Native.Nat.{ℕ, zero, suc, ◌+◌, ◌*◌, ◌-◌, ◌≤◌, ◌<◌, ◌/◌, ◌%◌, ◌^◌}
use Rattle.std.proofs.Math.Nat.{pow-le-pow_right, one-le-pow}
use native.Mathlib.Omega.{arith}
use Rattle.std.proofs.Math.Seq.{set_out, set-append_seam, append_snoc}

-- the number of w bytes at `at`; a byte past the end counts as 0
unfoldable pub number_at : ℕ → List ℕ → ℕ → ℕ
number_at zero b at = 0
number_at (suc w) b at = get_or b at 0 + 256 * number_at w b (at + 1)

-- b with the low w bytes of x at `at`; past the end nothing is written
unfoldable pub with_number : ℕ → List ℕ → ℕ → ℕ → List ℕ
with_number zero b at x = b
with_number (suc w) b at x = with_number w (set b at (x % 256)) (at + 1) (x / 256)

-- b with the bytes ys at `at`; past the end nothing is written
unfoldable pub with_bytes : List ℕ → ℕ → List ℕ → List ℕ
with_bytes b at [] = b
with_bytes b at (y ∷ ys) = with_bytes (set b at y) (at + 1) ys

-- ---- laws

pub pow_some : (w : ℕ) → 0 < 256 ^ w
pow_some w = one-le-pow w 256 (lit< tt)

pub length_with : (w : ℕ) (b : List ℕ) (at x : ℕ) → length (with_number w b at x) ≡ length b
unfolding with_number
length_with zero b at x = refl
length_with (suc w) b at x = length_with w (set b at (x % 256)) (at + 1) (x / 256) ∙ length-set b at (x % 256)

-- no byte outside changes
pub byte_other : (w : ℕ) (b : List ℕ) (at x j : ℕ) → (j < at) ⊎ (at + w ≤ j) → get_or (with_number w b at x) j 0 ≡ get_or b j 0
unfolding with_number
byte_other zero b at x j h = refl
byte_other (suc w) b at x j h =
    byte_other w (set b at (x % 256)) (at + 1) (x / 256) j (⊎_elim (λ (l : j < at). inl (omega arith)) (λ (g : at + suc w ≤ j). inr (omega arith)) h)
    ∙ get_or-set_other b at j (x % 256) 0 (⊎_elim (λ (l : j < at) e. omega arith) (λ (g : at + suc w ≤ j) e. omega arith) h)

pub with_past : (w : ℕ) (b : List ℕ) (at x : ℕ) → length b ≤ at → with_number w b at x ≡ b
unfolding with_number
with_past zero b at x h = refl
with_past (suc w) b at x h =
    ap (λ (l : List ℕ). with_number w l (at + 1) (x / 256)) (set_out b at (x % 256) h) ∙ with_past w b (at + 1) (x / 256) (omega arith)

-- ---- a number's bytes, in a row of bytes

-- the w bytes of x, lowest first
unfoldable pub bytes_of : ℕ → ℕ → List ℕ
bytes_of zero x = []
bytes_of (suc w) x = x % 256 ∷ bytes_of w (x / 256)

pub length_bytes : (w x : ℕ) → length (bytes_of w x) ≡ w
unfolding bytes_of
length_bytes zero x = refl
length_bytes (suc w) x = ap suc (length_bytes w (x / 256))

-- a number that is written behind p is its bytes there
pub with_append : (w : ℕ) (p q : List ℕ) (x : ℕ) → w ≤ length q → with_number w (p ++ q) (length p) x ≡ p ++ (bytes_of w x ++ drop w q)
unfolding with_number bytes_of
with_append zero p q x h = refl
with_append (suc w) p [] x h = absurd (omega arith)
with_append (suc w) p (y ∷ ys) x h =
    let a : ℕ = x % 256 in
    let e : length p + 1 ≡ length (p ++ (a ∷ [])) = sym (length-append p (a ∷ [])) in
    ap (λ (l : List ℕ). with_number w l (length p + 1) (x / 256)) (set-append_seam p y ys a ∙ sym (append_snoc p a ys))
    ∙ ap (λ (k : ℕ). with_number w (p ++ (a ∷ []) ++ ys) k (x / 256)) e
    ∙ with_append w (p ++ (a ∷ [])) ys (x / 256) (omega arith)
    ∙ append_snoc p a (bytes_of w (x / 256) ++ drop w ys)

-- ---- byte by byte, from the highest when reading and from the lowest when writing

module _ (b : List ℕ) (at w : ℕ) where
  pub write_start : (x : ℕ) → with_number (w - 0) b (at + 0) x ≡ with_number w b at x
  write_start x = let e : w - 0 ≡ w = omega arith in let f : at + 0 ≡ at = omega arith in ap₂ (λ (k : ℕ) (a : ℕ). with_number k b a x) e f

  pub write_turn : (i y : ℕ) → i < w → with_number (w - (i + 1)) (set b (at + i) (y % 256)) (at + (i + 1)) (y / 256) ≡ with_number (w - i) b (at + i) y
  unfolding with_number
  write_turn i y l =
      let e : suc (w - (i + 1)) ≡ w - i = omega arith in
      let f : at + (i + 1) ≡ at + i + 1 = omega arith in
      ap (λ (a : ℕ). with_number (w - (i + 1)) (set b (at + i) (y % 256)) a (y / 256)) f ∙ ap (λ (k : ℕ). with_number k b (at + i) y) e

  pub write_done : (i y : ℕ) → w ≤ i → with_number (w - i) b (at + i) y ≡ b
  unfolding with_number
  write_done i y l = let e : w - i ≡ 0 = omega arith in ap (λ (k : ℕ). with_number k b (at + i) y) e

-- the number stays below 256^8
pub read_fits : (w j x y : ℕ) → 0 < j → j ≤ w → w ≤ 8 → x < 256 ^ (w - j) → y < 256 → (x * 256 + y < 256 ^ (w - (j - 1))) × (x * 256 + y < 256 ^ 8)
read_fits w j x y p l e h k =
    let s : w - (j - 1) ≡ suc (w - j) = omega arith in
    let b : x * 256 + y < 256 ^ suc (w - j) = omega (arith, pow-suc 256 (w - j)) in
    let t : 256 ^ suc (w - j) ≤ 256 ^ 8 = pow-le-pow_right {n = 256} (lit< tt) {i = suc (w - j)} {j = 8} (omega arith) in
    (subst (λ (u : ℕ). x * 256 + y < 256 ^ u) (sym s) b, omega arith)
