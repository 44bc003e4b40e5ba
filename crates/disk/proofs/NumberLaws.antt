-- Numbers in bytes, lowest byte first, of any width: the number of w bytes at a place, the bytes with a number written
-- there, and a number's own bytes. What is written reads back, and no byte outside changes. Assumes nothing.
use Rattle.std.specs.Prelude.{◌≡◌, refl, ◌⊎◌, List, [], ◌∷◌, ◌++◌, length, get_or, set, take, drop}
use Rattle.std.proofs.Common.{sym, ap₂, ◌∙◌, inl, inr, ⊎_elim, div-one, pow-suc, length-set, length-append, get_or-set_same, take-append-drop, length-drop, length-take-le}
use Rattle.std.proofs.Math.Path.{ap}
use Rattle.std.proofs.Math.Nat.{div-div-eq-div-mul}
use Prim.Native.Nat.{ℕ, zero, suc, ◌+◌, ◌*◌, ◌-◌, ◌≤◌, ◌<◌, ◌/◌, ◌%◌, ◌^◌, min}
use native.Mathlib.Omega.{arith}
use Rattle.std.proofs.Math.ListN.{get_or-eq_default}
use Rattle.std.proofs.Math.Seq.{append_snoc, get_or-append_seam, set-append_seam, set_out}
use Rattle.std.specs.Int.{w64, byte_at, bytes_low_first, to_le_bytes}
use Rattle.disk.specs.Number.{number_at, with_number, with_bytes, byte_other, bytes_of}

-- a number depends on its own bytes only
pub number_same : (w : ℕ) (a b : List ℕ) (at : ℕ) → ((j : ℕ) → at ≤ j → j < at + w → get_or a j 0 ≡ get_or b j 0) → number_at w a at ≡ number_at w b at
unfolding number_at
number_same zero a b at h = refl
number_same (suc w) a b at h =
    ap₂ (λ (x y : ℕ). x + 256 * y) (h at (omega arith) (omega arith)) (number_same w a b (at + 1) (λ j l g. h j (omega arith) (omega arith)))

-- a number elsewhere is as it was
pub number_other : (v w : ℕ) (b : List ℕ) (at x e : ℕ) → (e + v ≤ at) ⊎ (at + w ≤ e) → number_at v (with_number w b at x) e ≡ number_at v b e
number_other v w b at x e h =
    number_same v (with_number w b at x) b e
    (λ j l g. byte_other w b at x j (⊎_elim (λ (p : e + v ≤ at). inl (omega arith)) (λ (q : at + w ≤ e). inr (omega arith)) h))

-- what is written reads back
pub number_back : (w : ℕ) (b : List ℕ) (at x : ℕ) → at + w ≤ length b → x < 256 ^ w → number_at w (with_number w b at x) at ≡ x
unfolding number_at with_number
number_back zero b at x h l = omega arith
number_back (suc w) b at x h l =
    let b' : List ℕ = set b at (x % 256) in
    let k : x / 256 < 256 ^ w = omega (arith, pow-suc 256 w) in
    ap₂ (λ (u v : ℕ). u + 256 * v)
    (byte_other w b' (at + 1) (x / 256) at (inl (omega arith)) ∙ get_or-set_same b at (x % 256) 0 (omega arith))
    (number_back w b' (at + 1) (x / 256) (omega (arith, length-set b at (x % 256))) k)
    ∙ omega arith

-- of bytes, a number of w bytes is below 256^w
pub number_lt : (w : ℕ) (b : List ℕ) (at : ℕ) → ((j : ℕ) → get_or b j 0 < 256) → number_at w b at < 256 ^ w
unfolding number_at
number_lt zero b at h = omega arith
number_lt (suc w) b at h = omega (arith, pow-suc 256 w, h at, number_lt w b (at + 1) h)

-- ---- past the end

pub number_past : (w : ℕ) (b : List ℕ) (at : ℕ) → length b ≤ at → number_at w b at ≡ 0
unfolding number_at
number_past zero b at h = refl
number_past (suc w) b at h =
    ap₂ (λ (x y : ℕ). x + 256 * y) (get_or-eq_default b 0 h) (number_past w b (at + 1) (omega arith))

-- and bytes behind p read as their number
pub number_append : (w : ℕ) (p q : List ℕ) (x : ℕ) → x < 256 ^ w → number_at w (p ++ (bytes_of w x ++ q)) (length p) ≡ x
unfolding number_at bytes_of
number_append zero p q x h = omega arith
number_append (suc w) p q x h =
    let a : ℕ = x % 256 in
    let r : List ℕ = bytes_of w (x / 256) ++ q in
    let e : length p + 1 ≡ length (p ++ (a ∷ [])) = sym (length-append p (a ∷ [])) in
    let k : x / 256 < 256 ^ w = omega (arith, pow-suc 256 w) in
    ap₂ (λ (u v : ℕ). u + 256 * v) (get_or-append_seam p a r 0)
    (ap₂ (λ (l : List ℕ) (i : ℕ). number_at w l i) (sym (append_snoc p a r)) e ∙ number_append w (p ++ (a ∷ [])) q (x / 256) k)
    ∙ omega arith

-- ---- byte by byte, from the highest when reading and from the lowest when writing

module _ (b : List ℕ) (at w : ℕ) where
  pub read_none : number_at (w - w) b (at + w) ≡ 0
  unfolding number_at
  read_none = let e : w - w ≡ 0 = omega arith in ap (λ (k : ℕ). number_at k b (at + w)) e

  pub read_turn : (j : ℕ) → 0 < j → j ≤ w → number_at (w - j) b (at + j) * 256 + get_or b (at + (j - 1)) 0 ≡ number_at (w - (j - 1)) b (at + (j - 1))
  unfolding number_at
  read_turn j p l =
      let e : w - (j - 1) ≡ suc (w - j) = omega arith in
      let f : at + (j - 1) + 1 ≡ at + j = omega arith in
      omega (arith, ap (λ (k : ℕ). number_at (w - j) b k) f, ap (λ (k : ℕ). number_at k b (at + (j - 1))) e)

-- ---- the bytes of a number, one after the other

-- a number depends on its own bytes only, wherever they stand
moved : (w : ℕ) (a b : List ℕ) (i j : ℕ) → ((k m n : ℕ) → k < w → m ≡ i + k → n ≡ j + k → get_or a m 0 ≡ get_or b n 0) → number_at w a i ≡ number_at w b j
unfolding number_at
moved zero a b i j h = refl
moved (suc w) a b i j h =
    ap₂ (λ (x y : ℕ). x + 256 * y) (h 0 i j (omega arith) (omega arith) (omega arith))
    (moved w a b (i + 1) (j + 1) (λ k m n l e f. h (k + 1) m n (omega arith) (omega arith) (omega arith)))

pub number_moved : (w : ℕ) (a b : List ℕ) (at : ℕ) → ((k : ℕ) → k < w → get_or a k 0 ≡ get_or b (at + k) 0) → number_at w a 0 ≡ number_at w b at
number_moved w a b at h = moved w a b 0 at (λ k m n l e f. ap (λ (i : ℕ). get_or a i 0) (let z : m ≡ k = omega arith in z) ∙ h k l ∙ ap (λ (i : ℕ). get_or b i 0) (sym f))

-- a number is written by its bytes
pub number_bytes : (w : ℕ) (b : List ℕ) (at x : ℕ) → with_bytes b at (bytes_of w x) ≡ with_number w b at x
unfolding with_number with_bytes bytes_of
number_bytes zero b at x = refl
number_bytes (suc w) b at x = number_bytes w (set b at (x % 256)) (at + 1) (x / 256)

-- std's bytes of a number are those
le_byte : (i x : ℕ) → byte_at i x ≡ x / 256 ^ i % 256
le_byte zero x = ap (λ (y : ℕ). y % 256) (sym (div-one x))
le_byte (suc i) x = refl

le_bytes_from : (k i x : ℕ) → bytes_low_first i k x ≡ bytes_of k (x / 256 ^ i)
unfolding bytes_of
le_bytes_from zero i x = refl
le_bytes_from (suc k) i x =
    ap₂ {C = List ℕ} (λ (y : ℕ) (ys : List ℕ). y ∷ ys) (le_byte i x)
    (le_bytes_from k (suc i) x ∙ ap (bytes_of k) (ap (λ (y : ℕ). x / y) (pow-suc 256 i) ∙ sym (div-div-eq-div-mul x (256 ^ i) 256)))

pub le_bytes_are : (x : ℕ) → to_le_bytes w64 x ≡ bytes_of 8 x
le_bytes_are x = le_bytes_from 8 0 x ∙ ap (bytes_of 8) (div-one x)

-- ---- a row of bytes, written

bytes_past : (ys b : List ℕ) (at : ℕ) → length b ≤ at → with_bytes b at ys ≡ b
unfolding with_bytes
bytes_past [] b at h = refl
bytes_past (y ∷ ys) b at h =
    ap (λ (l : List ℕ). with_bytes l (at + 1) ys) (set_out b at y h) ∙ bytes_past ys b (at + 1) (omega arith)

bytes_append : (ys p q : List ℕ) (n : ℕ) → n ≡ min (length ys) (length q) → with_bytes (p ++ q) (length p) ys ≡ p ++ (take n ys ++ drop n q)
unfolding with_bytes
bytes_append [] p q zero h = refl
bytes_append [] p q (suc n) h = absurd (omega arith)
bytes_append (y ∷ ys) p [] zero h = bytes_past (y ∷ ys) (p ++ []) (length p) (omega (arith, length-append p []))
bytes_append (y ∷ ys) p [] (suc n) h = absurd (omega arith)
bytes_append (y ∷ ys) p (z ∷ q) zero h = absurd (omega arith)
bytes_append (y ∷ ys) p (z ∷ q) (suc n) h =
    let e : length p + 1 ≡ length (p ++ (y ∷ [])) = sym (length-append p (y ∷ [])) in
    ap (λ (l : List ℕ). with_bytes l (length p + 1) ys) (set-append_seam p z q y ∙ sym (append_snoc p y q))
    ∙ ap (λ (k : ℕ). with_bytes (p ++ (y ∷ []) ++ q) k ys) e
    ∙ bytes_append ys (p ++ (y ∷ [])) q n (omega arith)
    ∙ append_snoc p y (take n ys ++ drop n q)

-- and past the end nothing is
module _ (b : List ℕ) (at : ℕ) (ys : List ℕ) where
  pub bytes_none : length b ≤ at → with_bytes b at ys ≡ b
  bytes_none h = bytes_past ys b at h

  pub bytes_put : (n : ℕ) → at ≤ length b → n ≡ min (length ys) (length b - at) → with_bytes b at ys ≡ take at b ++ (take n ys ++ drop n (drop at b))
  bytes_put n h e =
      ap₂ (λ (l : List ℕ) (k : ℕ). with_bytes l k ys) (sym (take-append-drop at b)) (sym (length-take-le at b h))
      ∙ bytes_append ys (take at b) (drop at b) n (omega (arith, e, length-drop at b))
