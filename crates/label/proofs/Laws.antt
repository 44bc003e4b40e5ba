-- The laws of the codec: a label that fits comes back from its bytes, a sector of zeros is no label, and what a valid
-- label's numbers are. Assumes nothing.
use mathlib.Core.Path.{◌≡◌, refl, ap, ap₂, ◌∙◌, subst}
use mathlib.Core.Bool.{Bool, true, false, cond}
use mathlib.Core.List.{List, [], ◌∷◌, ◌++◌}
use Prim.Native.Nat.{ℕ, zero, suc, ◌+◌, ◌*◌, ◌≤◌, ◌<◌, ◌/◌, ◌%◌, ◌^◌}
use native.Mathlib.Nat.{pow-suc}
use native.Mathlib.Omega.{arith}
use lib.Dec.{eqb}
use lib.Pow.{pow_mono}
use lib.ListN.{length, get_or, take, replicate}
use borrow.Author.Tests.{eq-eqb, eqb-true}
use Rattle.std.specs.Prelude.{Some, None}
use Rattle.crc32c.specs.Crc.{crc_of}
use Rattle.crc32c.proofs.Laws.{crc_lt}
use Rattle.disk.specs.Tests.{and_left, and_right, both}
use Rattle.disk.specs.Number.{number_at, bytes_of}
use Rattle.disk.specs.Geometry.{stripes_le}
use Rattle.label.specs.Fields.{geometry_of, fits_of}
use Rattle.label.specs.Bytes.{letters, version, written, table, label_bytes, sealed, all_zero}
use Rattle.label.specs.Valid.{label_at, zeros_of, valid_of, decode_of}
use Rattle.label.specs.declared.fields.Label.{Label}
use Rattle.label.proofs.Build.{length_sealed}
use Rattle.label.proofs.Fits.{Fits, fits_says}

-- ---- a number from its bytes

abbrev value : ℕ → ℕ → ℕ
value zero x = 0
value (suc w) x = x % 256 + 256 * value w (x / 256)

value_back : (w x : ℕ) → x < 256 ^ w → value w x ≡ x
value_back zero x h = omega arith
value_back (suc w) x h = let k : x / 256 < 256 ^ w = omega (arith, pow-suc 256 w) in omega (arith, value_back w (x / 256) k)

-- ---- the bytes are bytes

bytes_below : (w x : ℕ) (r : List ℕ) → ((k : ℕ) → get_or r k 0 < 256) → (k : ℕ) → get_or (bytes_of w x ++ r) k 0 < 256
unfolding bytes_of
bytes_below zero x r small k = small k
bytes_below (suc w) x r small zero = omega arith
bytes_below (suc w) x r small (suc k) = bytes_below w (x / 256) r small k

bytes_small : (t : List (ℕ × ℕ)) (k : ℕ) → get_or (written t) k 0 < 256
bytes_small [] k = none k
  where
    none : (k : ℕ) → get_or {A = ℕ} [] k 0 < 256
    none zero = omega arith
    none (suc k) = omega arith
bytes_small (f ∷ t) k = bytes_below f.0 f.1 (written t) (bytes_small t) k

sum_lt : (l : Label) → crc_of (label_bytes l) < 4294967296
unfolding label_bytes
sum_lt l = crc_lt (written (table l)) (bytes_small (table l))

-- ---- there and back

-- each field reads as its own low bytes
fields_read : (l : Label) → label_at (sealed l) ≡ record {
  k = l.k % 256;
  m = l.m % 256;
  slot = l.slot % 256;
  c = l.c % 256;
  sectors = value 4 l.sectors;
  shelf = value 8 l.shelf;
  generation = value 8 l.generation;
  out = value 4 l.out;
  rebuilding = l.rebuilding % 256;
  mark = value 4 l.mark;
}
unfolding bytes_of number_at label_bytes sealed label_at
fields_read l = refl

pub label_back : (l : Label) → Fits l → l.shelf < 18446744073709551616 → label_at (sealed l) ≡ l
label_back l f h =
    let n : 2 ^ (l.k + l.m) ≤ 2 ^ 19 = pow_mono {j = 19} (omega (arith, f.few_data, f.few_parity)) in
    let t : l.mark ≤ l.sectors = omega (arith, f.mark_below, stripes_le (geometry_of l)) in
    let k : l.k % 256 ≡ l.k = omega (arith, f.few_data) in
    let m : l.m % 256 ≡ l.m = omega (arith, f.few_parity) in
    let d : l.slot % 256 ≡ l.slot = omega (arith, f.on_shelf_lem, f.few_data, f.few_parity) in
    let c : l.c % 256 ≡ l.c = omega (arith, f.range.short) in
    let S : value 4 l.sectors ≡ l.sectors = value_back 4 l.sectors (omega (arith, f.range.most)) in
    let s : value 8 l.shelf ≡ l.shelf = value_back 8 l.shelf h in
    let g : value 8 l.generation ≡ l.generation = value_back 8 l.generation (omega (arith, f.not_last)) in
    let o : value 4 l.out ≡ l.out = value_back 4 l.out (omega (arith, f.out_below, n)) in
    let r : l.rebuilding % 256 ≡ l.rebuilding = omega (arith, f.slot_small) in
    let q : value 4 l.mark ≡ l.mark = value_back 4 l.mark (omega (arith, f.range.most, t)) in
    fields_read l ∙ (λ i. record {
      k = k i;
      m = m i;
      slot = d i;
      c = c i;
      sectors = S i;
      shelf = s i;
      generation = g i;
      out = o i;
      rebuilding = r i;
      mark = q i;
    })

-- letters, version, zeros and checksum of its bytes are right
letters_read : (l : Label) → eqb (number_at 8 (sealed l) 0) letters ≡ true
unfolding bytes_of number_at label_bytes sealed
letters_read l = refl

version_read : (l : Label) → eqb (number_at 2 (sealed l) 8) version ≡ true
unfolding bytes_of number_at label_bytes sealed
version_read l = refl

zeros_read : (l : Label) → zeros_of (sealed l) ≡ true
unfolding bytes_of label_bytes sealed all_zero zeros_of
zeros_read l = refl

sum_read : (l : Label) → number_at 4 (sealed l) 508 ≡ crc_of (take 508 (sealed l))
unfolding bytes_of number_at label_bytes sealed
sum_read l = value_back 4 (crc_of (label_bytes l)) (sum_lt l)

-- a label that fits is valid in its own slot, in the sector that its generation calls for, and comes back from there
pub decode_encode : (l : Label) → fits_of l ≡ true → l.shelf < 18446744073709551616
    → decode_of (sealed l) l.slot (l.generation % 2) ≡ Some l
unfolding valid_of decode_of
decode_encode l e h =
    let q : label_at (sealed l) ≡ l = label_back l (fits_says l e) h in
    let v : valid_of (sealed l) l.slot (l.generation % 2) ≡ true =
    both _ _ (eq-eqb _ _ (length_sealed l))
    (both _ _ (letters_read l)
    (both _ _ (version_read l)
    (both _ _ (zeros_read l)
    (both _ _ (ap fits_of q ∙ e)
    (both _ _ (eq-eqb _ _ (ap (λ (x : Label). x.slot) q))
    (both _ _ (eq-eqb _ _ (sum_read l)) (eq-eqb _ _ (ap (λ (x : Label). x.generation % 2) q)))))))) in
    ap₂ (λ (b : Bool) (x : Label). cond b (Some x) None) v q

-- a sector of zeros is no label, of no slot and in no sector
pub zeros_nothing : (d s : ℕ) → decode_of (replicate 512 0) d s ≡ None
unfolding number_at valid_of decode_of
zeros_nothing d s = refl

-- what a valid label's numbers are
pub record Meant (b : List ℕ) (d s : ℕ) (l : Label) : Type 0 where
  pub is : l ≡ label_at b
  pub fit : fits_of l ≡ true
  pub own : l.slot ≡ d
  pub place : l.generation % 2 ≡ s

valid_says : (b : List ℕ) (d s : ℕ) → valid_of b d s ≡ true → Meant b d s (label_at b)
unfolding valid_of
valid_says b d s e =
    let e1 = and_right (eqb (length b) 512) _ e in
    let e2 = and_right (eqb (number_at 8 b 0) letters) _ e1 in
    let e3 = and_right (eqb (number_at 2 b 8) version) _ e2 in
    let e4 = and_right (zeros_of b) _ e3 in
    let e5 = and_right (fits_of (label_at b)) _ e4 in
    let e6 = and_right (eqb (label_at b).slot d) _ e5 in
    let e7 = and_right (eqb (number_at 4 b 508) (crc_of (take 508 b))) (eqb ((label_at b).generation % 2) s) e6 in
    record {
      is = refl;
      fit = and_left (fits_of (label_at b)) _ e4;
      own = eqb-true (label_at b).slot d (and_left (eqb (label_at b).slot d) _ e5);
      place = eqb-true ((label_at b).generation % 2) s e7;
    }

pub decode_says : (b : List ℕ) (d s : ℕ) (l : Label) → decode_of b d s ≡ Some l → Meant b d s l
unfolding decode_of
decode_says b d s l = by (valid_of b d s) refl
  where
    by : (v : Bool) → valid_of b d s ≡ v → cond v (Some (label_at b)) None ≡ Some l → Meant b d s l
    by true e q = let p : label_at b ≡ l = cc in subst (Meant b d s) p (valid_says b d s e)
    by false e q = absurd (let z : ◌≡◌ {A = ℕ} 0 1 = cc in omega arith)
