-- The bytes of a label as the code writes them are those that the protocol's put of that label writes. Assumes nothing.
use Rattle.std.specs.Prelude.{◌≡◌, Bool, true, false, cond, ◌&&◌, eqb, ltb, leb}
use Rattle.std.proofs.Math.Path.{refl, ap}
use Rattle.std.proofs.Common.{sym, ap₂, ◌∙◌, subst, true≢false, div-one, pow-suc, mod-lt, arith, lit<, eq-eqb, ne_eqb, eqb-true, ltb-true}
use Prim.Native.Nat.{ℕ, zero, suc, ◌+◌, ◌<◌, ◌/◌, ◌%◌, ◌^◌}
use Rattle.std.proofs.Math.Nat.{pow-succ', div-div-eq-div-mul}
use Rattle.disk.specs.Tests.{and_left}
use Rattle.disk.specs.Mask.{in_mask, mask_of, mask_lt, mask_below}
use Rattle.disk.specs.Geometry.{stripes_of}
use Rattle.label.specs.Fields.{no_slot, geometry_of, rebuild_fits, fits_of}
use Rattle.label.specs.Bytes.{sealed}
use Rattle.label.specs.declared.fields.Label as bytes
use Rattle.label.proofs.Fits.{Fits, fits_says}
use Rattle.label.proofs.Counts.{SameShelf, same_says}
use Rattle.codecs.specs.Shelf.{Shelf, slots}
use Rattle.codecs.specs.Labels.{fields_of, slot_byte, slot_meant, no_label, label_of, ours}
use Rattle.codecs.proofs.Labels.{encode_label}

-- ---- two masks with the same slots are one

low_digit : (x y : ℕ) → x < 2 → y < 2 → eqb x 1 ≡ eqb y 1 → x ≡ y
low_digit zero zero h g e = refl
low_digit zero (suc zero) h g e = absurd (true≢false (sym e))
low_digit zero (suc (suc y)) h g e = absurd (omega arith)
low_digit (suc zero) zero h g e = absurd (true≢false e)
low_digit (suc zero) (suc zero) h g e = refl
low_digit (suc zero) (suc (suc y)) h g e = absurd (omega arith)
low_digit (suc (suc x)) y h g e = absurd (omega arith)

digit_suc : (m d : ℕ) → m / 2 ^ suc d ≡ m / 2 / 2 ^ d
digit_suc m d = ap (λ (x : ℕ). m / x) (pow-succ' 2 d) ∙ sym (div-div-eq-div-mul m 2 (2 ^ d))

pub mask_ext : (n a b : ℕ) → a < 2 ^ n → b < 2 ^ n → ((d : ℕ) → d < n → in_mask a d ≡ in_mask b d) → a ≡ b
unfolding in_mask
mask_ext zero a b h g e = omega arith
mask_ext (suc n) a b h g e =
    let first : a % 2 ≡ b % 2 = low_digit (a % 2) (b % 2) (mod-lt a (lit< tt)) (mod-lt b (lit< tt))
    (ap (λ (x : ℕ). eqb (x % 2) 1) (sym (div-one a)) ∙ e 0 (omega arith) ∙ ap (λ (x : ℕ). eqb (x % 2) 1) (div-one b)) in
    let rest : a / 2 ≡ b / 2 = mask_ext n (a / 2) (b / 2) (omega (arith, pow-suc 2 n)) (omega (arith, pow-suc 2 n))
    (λ d k. ap (λ (x : ℕ). eqb (x % 2) 1) (sym (digit_suc a d)) ∙ e (suc d) (omega arith) ∙ ap (λ (x : ℕ). eqb (x % 2) 1) (digit_suc b d)) in
    omega arith

module _ (z : Shelf) (a : bytes.Label) (own : ours z a ≡ true) (fit : fits_of a ≡ true) where
  same : SameShelf (fields_of z 0 (no_label z)) a
  same = same_says (fields_of z 0 (no_label z)) a own

  fits : Fits a
  fits = fits_says a fit

  out_there : mask_of (in_mask a.out) (slots z) ≡ a.out
  out_there =
      let n : z.k + z.m ≡ a.k + a.m = ap₂ (λ (x y : ℕ). x + y) same.same_k same.same_m in
      mask_ext (slots z) (mask_of (in_mask a.out) (slots z)) a.out (mask_lt (in_mask a.out) (slots z))
      (subst (λ (k : ℕ). a.out < 2 ^ k) (sym n) fits.out_below) (mask_below (in_mask a.out) (slots z))

  slot_there : slot_byte (slots z) (slot_meant (slots z) a.rebuilding) ≡ a.rebuilding
  unfolding rebuild_fits
  slot_there = by (eqb a.rebuilding no_slot) refl fits.rebuild
    where
      r : ℕ
      r = a.rebuilding

      by : (b : Bool) → eqb r no_slot ≡ b
          → cond b (eqb a.mark 0) (ltb r (a.k + a.m) && (in_mask a.out r && leb a.mark (stripes_of (geometry_of a)))) ≡ true
          → slot_byte (slots z) (cond b (slots z) r) ≡ r
      by true e h = ap (λ (b : Bool). cond b no_slot (slots z)) (eq-eqb (slots z) (slots z) refl) ∙ sym (eqb-true r no_slot e)
      by false e h =
          let l = ltb-true r (a.k + a.m) (and_left (ltb r (a.k + a.m)) _ h) in
          ap (λ (b : Bool). cond b no_slot r) (ne_eqb r (slots z) (λ q. omega (arith, same.same_k, same.same_m)))

  -- THE LABEL a, as the protocol puts it into its slot
  pub told_is : (encode_label z a.slot (label_of z a)).bytes ≡ sealed a
  unfolding encode_label
  told_is = ap sealed (λ i. record {
    k = same.same_k i;
    m = same.same_m i;
    slot = a.slot;
    c = same.same_c i;
    sectors = same.same_sectors i;
    shelf = same.same_number i;
    generation = a.generation;
    out = out_there i;
    rebuilding = slot_there i;
    mark = a.mark;
  })
