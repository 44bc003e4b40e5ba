-- A valid label's sector is the encoding of that label, to the byte: no two sectors say the same. Assumes nothing.
use mathlib.Core.Path.{◌≡◌, refl, sym, ap, ap₂, ◌∙◌}
use mathlib.Core.Bool.{Bool, true, false, ◌&&◌, cond}
use mathlib.Core.List.{List, [], ◌∷◌, ◌++◌}
use Prim.Native.Nat.{ℕ, zero, suc, ◌+◌, ◌*◌, ◌≤◌, ◌<◌, ◌/◌, ◌%◌}
use native.Mathlib.Numerals.{add-one}
use native.Mathlib.Omega.{arith}
use lib.Dec.{eqb, lit≤}
use lib.ListN.{length, get_or, take, drop, drop_of_length-le, take-append-drop, length-drop}
use lib.Seq.{drop-cons, drop-drop, length-take-le}
use borrow.Author.Tests.{eqb-true}
use Rattle.std.specs.Prelude.{Some, None}
use Rattle.crc32c.specs.Crc.{crc_of}
use Rattle.disk.specs.Tests.{and_left, and_right}
use Rattle.disk.specs.Number.{number_at, bytes_of}
use Rattle.label.specs.Fields.{fits_of}
use Rattle.label.specs.Bytes.{letters, version, label_bytes, sealed, all_zero}
use Rattle.label.specs.Valid.{label_at, zeros_of, valid_of, decode_of}
use Rattle.label.specs.declared.fields.Label.{Label}

-- bytes are the low bytes of their number
part_number : (w : ℕ) (b : List ℕ) (at : ℕ) → ((k : ℕ) → get_or b k 0 < 256) → at + w ≤ length b → take w (drop at b) ≡ bytes_of w (number_at w b at)
unfolding bytes_of number_at
part_number zero b at small h = refl
part_number (suc w) b at small h =
    let x = get_or b at 0 in
    let n = number_at w b (at + 1) in
    let p : x ≡ (x + 256 * n) % 256 = omega (arith, small at) in
    let q : n ≡ (x + 256 * n) / 256 = omega (arith, small at) in
    ap (take (suc w)) (drop-cons b at 0 (omega arith))
    ∙ ap₂ (λ (y : ℕ) (l : List ℕ). y ∷ l) p
    (ap (λ (i : ℕ). take w (drop i b)) (sym (add-one at)) ∙ part_number w b (at + 1) small (omega arith) ∙ ap (bytes_of w) q)

part_zero : (l : List ℕ) → all_zero l ≡ true → l ≡ bytes_of (length l) 0
unfolding bytes_of all_zero
part_zero [] e = refl
part_zero (x ∷ l) e =
    ap₂ (λ (y : ℕ) (r : List ℕ). y ∷ r) (eqb-true x 0 (and_left (eqb x 0) (all_zero l) e)) (part_zero l (and_right (eqb x 0) (all_zero l) e))

module _ (b : List ℕ) (whole : length b ≡ 512) where
  next : (at w : ℕ) → drop at b ≡ take w (drop at b) ++ drop (at + w) b
  next at w = sym (take-append-drop w (drop at b)) ∙ ap (λ (r : List ℕ). take w (drop at b) ++ r) (drop-drop w at b)

  field : (at w v : ℕ) → ((k : ℕ) → get_or b k 0 < 256) → at + w ≤ 512 → number_at w b at ≡ v → drop at b ≡ bytes_of w v ++ drop (at + w) b
  field at w v small h e =
      next at w ∙ ap (λ (l : List ℕ). l ++ drop (at + w) b) (part_number w b at small (omega arith) ∙ ap (bytes_of w) e)

  blank : (at w : ℕ) → at + w ≤ 512 → all_zero (take w (drop at b)) ≡ true → drop at b ≡ bytes_of w 0 ++ drop (at + w) b
  blank at w h e =
      let n : length (take w (drop at b)) ≡ w = length-take-le w (drop at b) (omega (arith, length-drop at b)) in
      next at w ∙ ap (λ (l : List ℕ). l ++ drop (at + w) b) (part_zero (take w (drop at b)) e ∙ ap (λ (k : ℕ). bytes_of k 0) n)

abbrev put : ℕ → ℕ → List ℕ → List ℕ
put w v r = bytes_of w v ++ r

byte_number : (b : List ℕ) (at : ℕ) → number_at 1 b at ≡ get_or b at 0
unfolding number_at
byte_number b at = omega arith

-- the sum behind the label's bytes, whatever it is
before_any : (l : Label) (x : ℕ) → take 508 (label_bytes l ++ bytes_of 4 x) ≡ label_bytes l
unfolding bytes_of label_bytes
before_any l x = refl

pub valid_bytes : (b : List ℕ) (d s : ℕ) → ((k : ℕ) → get_or b k 0 < 256) → valid_of b d s ≡ true → b ≡ sealed (label_at b)
unfolding bytes_of label_bytes sealed label_at zeros_of valid_of
valid_bytes b d s small e =
    let l = label_at b in
    let whole = eqb-true (length b) 512 (and_left (eqb (length b) 512) _ e) in
    let e1 = and_right (eqb (length b) 512) _ e in
    let e2 = and_right (eqb (number_at 8 b 0) letters) _ e1 in
    let e3 = and_right (eqb (number_at 2 b 8) version) _ e2 in
    let z = and_left (zeros_of b) _ e3 in
    let z1 = and_right (all_zero (take 2 (drop 14 b))) (all_zero (take 3 (drop 41 b)) && all_zero (take 460 (drop 48 b))) z in
    let e4 = and_right (zeros_of b) _ e3 in
    let e5 = and_right (fits_of l) _ e4 in
    let e6 = and_right (eqb l.slot d) _ e5 in
    let sum = eqb-true (number_at 4 b 508) (crc_of (take 508 b)) (and_left (eqb (number_at 4 b 508) (crc_of (take 508 b))) (eqb (l.generation % 2) s) e6) in
    let is : b ≡ label_bytes l ++ bytes_of 4 (crc_of (take 508 b)) =
    field b whole 0 8 letters small (lit≤ tt) (eqb-true (number_at 8 b 0) letters (and_left (eqb (number_at 8 b 0) letters) _ e1))
    ∙ ap (put 8 letters) (field b whole 8 2 version small (lit≤ tt) (eqb-true (number_at 2 b 8) version (and_left (eqb (number_at 2 b 8) version) _ e2))
    ∙ ap (put 2 version) (field b whole 10 1 l.k small (lit≤ tt) (byte_number b 10)
    ∙ ap (put 1 l.k) (field b whole 11 1 l.m small (lit≤ tt) (byte_number b 11)
    ∙ ap (put 1 l.m) (field b whole 12 1 l.slot small (lit≤ tt) (byte_number b 12)
    ∙ ap (put 1 l.slot) (field b whole 13 1 l.c small (lit≤ tt) (byte_number b 13)
    ∙ ap (put 1 l.c) (blank b whole 14 2 (lit≤ tt) (and_left (all_zero (take 2 (drop 14 b))) (all_zero (take 3 (drop 41 b)) && all_zero (take 460 (drop 48 b))) z)
    ∙ ap (put 2 0) (field b whole 16 4 l.sectors small (lit≤ tt) refl
    ∙ ap (put 4 l.sectors) (field b whole 20 8 l.shelf small (lit≤ tt) refl
    ∙ ap (put 8 l.shelf) (field b whole 28 8 l.generation small (lit≤ tt) refl
    ∙ ap (put 8 l.generation) (field b whole 36 4 l.out small (lit≤ tt) refl
    ∙ ap (put 4 l.out) (field b whole 40 1 l.rebuilding small (lit≤ tt) (byte_number b 40)
    ∙ ap (put 1 l.rebuilding) (blank b whole 41 3 (lit≤ tt) (and_left (all_zero (take 3 (drop 41 b))) (all_zero (take 460 (drop 48 b))) z1)
    ∙ ap (put 3 0) (field b whole 44 4 l.mark small (lit≤ tt) refl
    ∙ ap (put 4 l.mark) (blank b whole 48 460 (lit≤ tt) (and_right (all_zero (take 3 (drop 41 b))) (all_zero (take 460 (drop 48 b))) z1)
    ∙ ap (put 460 0) (field b whole 508 4 (crc_of (take 508 b)) small (lit≤ tt) sum
    ∙ ap (put 4 (crc_of (take 508 b))) (drop_of_length-le b {i = 512} (omega arith))))))))))))))))) in
    is ∙ ap (λ (x : ℕ). label_bytes l ++ bytes_of 4 x) (ap crc_of (ap (take 508) is ∙ before_any l (crc_of (take 508 b))))

pub decode_bytes : (b : List ℕ) (d s : ℕ) (l : Label) → ((k : ℕ) → get_or b k 0 < 256) → decode_of b d s ≡ Some l → b ≡ sealed l
unfolding decode_of
decode_bytes b d s l small = by (valid_of b d s) refl
  where
    by : (v : Bool) → valid_of b d s ≡ v → cond v (Some (label_at b)) None ≡ Some l → b ≡ sealed l
    by true e q = let p : label_at b ≡ l = cc in valid_bytes b d s small e ∙ ap sealed p
    by false e q = absurd (let z : ◌≡◌ {A = ℕ} 0 1 = cc in omega arith)
