-- The lent image: sector s of slot d begins at (d * S + s) * 512. Reading a sector, putting one, and the laws that later
-- proofs live on: after a put that sector is the new one; every other sector of every slot, the length, and every byte
-- outside the 512 are as before. They hold for every n and S. Assumes nothing.
use Rattle.std.specs.Prelude.{◌≡◌, ◌⊎◌, Bool, true, ◌&&◌, cond, ltb, eqb, get_or, Ok, Err}
use Rattle.std.proofs.Common.{sym, ap₂, ◌∙◌, ⊎_elim, eq-zero-or-pos, arith, length-drop, drop_of_length-le, take-append-drop, length-take-le, get_or-take, get_or-drop, ext_get_or, get_or-append-add, drop-drop, ltb-true, eqb-true}
use Rattle.std.proofs.Math.Path.{ap}
use Rattle.std.proofs.Math.Logic.{inl, inr}
use mathlib.Core.List.{List, [], ◌++◌, append_assoc, append-nil}
use Prim.Native.Nat.{ℕ, ◌+◌, ◌*◌, ◌-◌, ◌≤◌, ◌<◌}
use Rattle.std.proofs.Math.ListN.{length, take, drop, get_or-append}
use Rattle.std.proofs.Math.Seq.{paste, length_paste_head, take_all, take-length}
use Rattle.std.proofs.lemmas.List.{drop-append-le, take-append-le}
use borrow.Rule.Slice.PartMut.{put_mid, mid_of, Post-is}
use Rattle.disk.specs.Limits.{sector_bytes}
use Rattle.disk.specs.Tests.{and_left, and_right}
use Rattle.disk.specs.Geometry.{in_range, image_bytes, InRange, in_range_lem}
use Rattle.disk.specs.declared.geometry.Geometry.{Geometry}
use Rattle.disk.specs.declared.refusal.Refusal.TheVariants.{BadImage, BadBlock, BadBuffer}
use Rattle.disk.specs.Refusal.{Outcome}

-- where sector s of slot d begins
abbrev pub place : ℕ → ℕ → ℕ → ℕ
place S d s = (d * S + s) * sector_bytes

-- the bytes of sector s of slot d
unfoldable pub sector : ℕ → List ℕ → ℕ → ℕ → List ℕ
sector S img d s = take sector_bytes (drop (place S d s) img)

-- the image with the bytes v at sector s of slot d
unfoldable pub put_sector : ℕ → List ℕ → ℕ → ℕ → List ℕ → List ℕ
put_sector S img d s v = paste img (place S d s) v sector_bytes

-- an image of n slots of S sectors
unfoldable pub Shape : ℕ → ℕ → List ℕ → Type 0
Shape n S img = length img ≡ n * S * sector_bytes

-- ---- what the functions answer

-- a slice of `len` bytes is the image of such a shelf
unfoldable pub fits_image : Geometry → ℕ → Bool
fits_image g len = in_range g && eqb len (image_bytes g)

-- there is a slot d, and a sector s of its disk
unfoldable pub on_shelf : Geometry → ℕ → ℕ → Bool
on_shelf g d s = ltb d g.n && ltb s g.sectors

-- a read: that sector, or nothing
unfoldable pub read_of : Geometry → List ℕ → ℕ → ℕ → List ℕ
read_of g img d s = cond (fits_image g (length img) && on_shelf g d s) (sector g.sectors img d s) []

-- a put of `m` bytes: the first refusal that applies
unfoldable pub put_answer : Geometry → ℕ → ℕ → ℕ → ℕ → Outcome
put_answer g len d s m =
    cond (fits_image g len) (cond (on_shelf g d s) (cond (eqb m sector_bytes) (Ok tt) (Err BadBuffer)) (Err BadBlock)) (Err BadImage)

-- and what it leaves
abbrev pub after_put : Outcome → Geometry → List ℕ → ℕ → ℕ → List ℕ → List ℕ
after_put (Ok tt) g img d s v = put_sector g.sectors img d s v
after_put (Err why) g img d s v = img

-- what the tests say
pub fits_image_lem : (g : Geometry) (img : List ℕ) → fits_image g (length img) ≡ true → InRange g × Shape g.n g.sectors img
unfolding fits_image image_bytes Shape
fits_image_lem g img e =
    (in_range_lem g (and_left (in_range g) (eqb (length img) (image_bytes g)) e), eqb-true _ _ (and_right (in_range g) (eqb (length img) (image_bytes g)) e))

pub on_shelf_lem : (g : Geometry) (d s : ℕ) → on_shelf g d s ≡ true → (d < g.n) × (s < g.sectors)
unfolding on_shelf
on_shelf_lem g d s e =
    (ltb-true _ _ (and_left (ltb d g.n) (ltb s g.sectors) e), ltb-true _ _ (and_right (ltb d g.n) (ltb s g.sectors) e))

-- ---- where sectors lie

pub lt_or_ge : (x y : ℕ) → (x < y) ⊎ (y ≤ x)
lt_or_ge x y = ⊎_elim (λ e. inr (omega arith)) (λ l. inl (omega arith)) (eq-zero-or-pos (y - x))

-- ---- paste, byte by byte

module _ (d : List ℕ) (at : ℕ) (s : List ℕ) (n : ℕ) (hd : at + n ≤ length d) (hs : n ≤ length s) where
  head_length : length (take at d ++ take n s) ≡ at + n
  head_length = length_paste_head d at s n (omega arith) hs

  pub get_or_paste_before : (k : ℕ) → k < at → get_or (paste d at s n) k 0 ≡ get_or d k 0
  get_or_paste_before k h =
      get_or-append (take at d ++ take n s) (drop (at + n) d) 0 k (omega (arith, head_length))
      ∙ get_or-append (take at d) (take n s) 0 k (omega (arith, length-take-le at d (omega arith)))
      ∙ get_or-take at d k 0 h

  pub get_or_paste_inside : (k : ℕ) → k < n → get_or (paste d at s n) (at + k) 0 ≡ get_or s k 0
  get_or_paste_inside k h =
      get_or-append (take at d ++ take n s) (drop (at + n) d) 0 (at + k) (omega (arith, head_length))
      ∙ ap (λ (x : ℕ). get_or (take at d ++ take n s) (x + k) 0) (sym (length-take-le at d (omega arith)))
      ∙ get_or-append-add (take at d) (take n s) k 0
      ∙ get_or-take n s k 0 h

  pub get_or_paste_after : (k : ℕ) → at + n ≤ k → get_or (paste d at s n) k 0 ≡ get_or d k 0
  get_or_paste_after k h =
      let e : k ≡ length (take at d ++ take n s) + (k - (at + n)) = omega (arith, head_length) in
      let f : (at + n) + (k - (at + n)) ≡ k = omega arith in
      ap (λ (x : ℕ). get_or (paste d at s n) x 0) e
      ∙ get_or-append-add (take at d ++ take n s) (drop (at + n) d) (k - (at + n)) 0
      ∙ get_or-drop (at + n) d (k - (at + n)) 0
      ∙ ap (λ (x : ℕ). get_or d x 0) f

  -- what is not inside is as it was
  pub get_or_paste_other : (k : ℕ) → (k < at) ⊎ (at + n ≤ k) → get_or (paste d at s n) k 0 ≡ get_or d k 0
  get_or_paste_other k = ⊎_elim (get_or_paste_before k) (get_or_paste_after k)

-- two lists that agree from k on for m elements
pub part_ext : (a b : List ℕ) (k m : ℕ) → k + m ≤ length a → k + m ≤ length b
    → ((i : ℕ) → i < m → get_or a (k + i) 0 ≡ get_or b (k + i) 0) → take m (drop k a) ≡ take m (drop k b)
part_ext a b k m ha hb h =
    ext_get_or 0 (take m (drop k a)) (take m (drop k b)) (len a ha ∙ sym (len b hb))
    (λ i l.
    let l' : i < m = omega (arith, len a ha) in
    get_or-take m (drop k a) i 0 l' ∙ get_or-drop k a i 0 ∙ h i l' ∙ sym (get_or-drop k b i 0) ∙ sym (get_or-take m (drop k b) i 0 l'))
  where
    len : (c : List ℕ) → k + m ≤ length c → length (take m (drop k c)) ≡ m
    len c hc = length-take-le m (drop k c) (omega (arith, length-drop k c))

-- ---- a part of a slice that is lent, `&mut s[at..e]`, and comes back: what the whole holds then

-- the part comes back as ys, of which there are n
pub back : (d ys : List ℕ) (at e n : ℕ) → e ≡ at + n → length ys ≡ n → put_mid at (e - at) d ys ≡ paste d at ys n
back d ys at e n q l =
    ap (λ (x : List ℕ). take at d ++ (ys ++ x)) (Post-is at e d (omega arith))
    ∙ sym (append_assoc (take at d) ys (drop e d))
    ∙ ap₂ (λ (x : List ℕ) (k : ℕ). take at d ++ x ++ drop k d) (sym (take_all n ys (omega arith))) q

-- a copy of all of v into a part as long as v is v
pub copied : (d v : List ℕ) (at e : ℕ) → at ≤ e → e ≤ length d → length v ≡ e - at → take (length v) v ++ drop (length v) (mid_of at (e - at) d) ≡ v
copied d v at e h g l =
    ap₂ (λ (x y : List ℕ). x ++ y) (take-length v) (drop_of_length-le (mid_of at (e - at) d) {i = length v} (omega (arith, length-take-le (e - at) (drop at d) (omega (arith, length-drop at d)))))
    ∙ append-nil v

-- ---- a part of a part

pub part_take : (l : List ℕ) (n i m : ℕ) → n ≤ length l → i + m ≤ n → take m (drop i (take n l)) ≡ take m (drop i l)
part_take l n i m hn h =
    let ln : length (take n l) ≡ n = length-take-le n l hn in
    sym
    (ap (λ (x : List ℕ). take m (drop i x)) (sym (take-append-drop n l))
    ∙ ap (take m) (drop-append-le i (take n l) (drop n l) (omega arith))
    ∙ take-append-le m (drop i (take n l)) (drop n l) (omega (arith, length-drop i (take n l))))

pub part_part : (l : List ℕ) (p n i m : ℕ) → p + n ≤ length l → i + m ≤ n → take m (drop i (take n (drop p l))) ≡ take m (drop (p + i) l)
part_part l p n i m hp h = part_take (drop p l) n i m (omega (arith, length-drop p l)) h ∙ ap (take m) (drop-drop i p l)
