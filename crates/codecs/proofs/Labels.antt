-- The protocol's labels as the bytes of a real sector: the codec that document 03's table gives, and its laws. The
-- protocol writes n where no slot is being rebuilt, the table 255; a sector that tells of another shelf is no label.
-- Assumes nothing.
use Rattle.std.specs.Prelude.{◌≡◌, ◌⊎◌, ◌≢◌, List, [], ◌∷◌, Bool, ◌&&◌, eqb, ltb, leb, Some, None}
use Rattle.std.proofs.Math.Path.{refl, sym, ap, fun_ext}
use Rattle.std.proofs.Common.{◌∙◌, subst, eq-or-lt_of_le, eq-zero-or-pos, arith}
use Rattle.std.proofs.Math.Logic.{⊎_elim}
use Rattle.std.proofs.Math.Bool.{true, false, cond}
use Prim.Native.Nat.{ℕ, ◌+◌, ◌≤◌, ◌<◌, ◌%◌, ◌^◌}
use borrow.Author.Tests.{eqb-true, eqb-false, eq-eqb, ne_eqb, leb-true, le-leb, ltb-true, lt-ltb}
use Rattle.disk.specs.Tests.{and_left, and_right, both}
use Rattle.crc32c.specs.Crc.{crc_of}
use Rattle.disk.specs.Limits.{most_k, most_m}
use Rattle.disk.specs.Number.{bytes_of}
use Rattle.disk.specs.Image.{lt_or_ge}
use Rattle.disk.specs.Mask.{in_mask, in_past, mask_of, mask_lt, mask_below, mask_past}
use Rattle.disk.specs.Geometry.{in_range_with, stripes_of}
use Rattle.disk.specs.declared.geometry.Geometry.{Geometry}
use Rattle.label.specs.Fields.{no_slot, most_generation, geometry_of, rebuild_fits, fits_of}
use Rattle.label.specs.Bytes.{table, label_bytes, sealed, written}
use Rattle.label.specs.Valid.{label_at, decode_of}
use Rattle.label.specs.Newest.{same_shelf}
use Rattle.label.specs.declared.fields.Label as bytes
use Rattle.label.specs.Fields.{Decoded}
use Rattle.label.proofs.Build.{length_sealed}
use Rattle.label.proofs.Fits.{Fits, fits_says}
use Rattle.label.proofs.Laws.{decode_encode, zeros_nothing, decode_says}
use Rattle.protocol.specs.Label.{Label, LabelCodec}
use Rattle.protocol.specs.Strangers.{Strangers}
use Rattle.codecs.specs.Sector.{Sector, Bytes}
use Rattle.codecs.proofs.Sector.{zeros, bytes_none, bytes_append, bytes_number}
use Rattle.codecs.specs.Shelf.{Shelf, slots, geometry, few_data, few_parity, few_slots}
use Rattle.codecs.specs.Labels.{side_of, sector_of, slot_byte, slot_meant, fields_of, no_label, label_of, ours, meant, decode_label, own, strange_in, strange_label, Fitting, side_next, Told, Rebuild}

written_bytes : (t : List (ℕ × ℕ)) → Bytes (written t)
written_bytes [] = bytes_none
written_bytes (f ∷ t) = bytes_append (bytes_of f.0 f.1) (written t) (bytes_number f.0 f.1) (written_bytes t)

pub sealed_bytes : (a : bytes.Label) → Bytes (sealed a)
unfolding sealed label_bytes
sealed_bytes a = bytes_append (written (table a)) (bytes_of 4 (crc_of (written (table a)))) (written_bytes (table a)) (bytes_number 4 (crc_of (written (table a))))

unfoldable pub encode_label : Shelf → ℕ → Label → Sector
encode_label z d l = record { bytes = sealed (fields_of z d l); whole = length_sealed (fields_of z d l); small = sealed_bytes (fields_of z d l) }

pub sector_side : (g : ℕ) → sector_of (side_of g) ≡ g % 2
sector_side g = by (side_of g) refl
  where
    by : (b : Bool) → eqb (g % 2) 1 ≡ b → sector_of b ≡ g % 2
    by true e = sym (eqb-true (g % 2) 1 e)
    by false e = let n : g % 2 ≡ 1 → ⊥ = eqb-false (g % 2) 1 e in omega arith

side_sector : (g : ℕ) (b : Bool) → g % 2 ≡ sector_of b → b ≡ side_of g
side_sector g true e = sym (eq-eqb (g % 2) 1 e)
side_sector g false e = sym (ne_eqb (g % 2) 1 (λ q. omega arith))

module _ (z : Shelf) where
  pub told : (d : ℕ) (b : Bool) (x : Sector) → 0 < (decode_label z d b x).generation → (Told z) d b x
  unfolding decode_label
  told d b x = by (decode_of x.bytes d (sector_of b)) refl
    where
      by : (r : Decoded) → decode_of x.bytes d (sector_of b) ≡ r → 0 < (meant z r).generation → (Told z) d b x
      by None e p = absurd (omega arith)
      by (Some a) e p = go (ours z a) refl p
        where
          go : (s : Bool) → ours z a ≡ s → 0 < (cond s (label_of z a) (no_label z)).generation → (Told z) d b x
          go true q p =
              record {
                fields = a;
                same = q;
                means = decode_says x.bytes d (sector_of b) a e;
                read = e;
                is = ap (meant z) e ∙ ap (λ (s : Bool). cond s (label_of z a) (no_label z)) q;
              }
          go false q p = absurd (omega arith)

  pub decode_side : (d : ℕ) (b : Bool) (x : Sector) → 0 < (decode_label z d b x).generation → b ≡ side_of (decode_label z d b x).generation
  decode_side d b x p =
      let t = told d b x p in
      side_sector t.fields.generation b t.means.place ∙ ap (λ (l : Label). side_of l.generation) (sym t.is)

  pub decode_zeros : (d : ℕ) (b : Bool) → (decode_label z d b zeros).generation ≡ 0
  unfolding decode_label
  decode_zeros d b = ap (λ (r : Decoded). (meant z r).generation) (zeros_nothing d (sector_of b))

  -- a label of this shelf has its n and T
  shelf_same : (a : bytes.Label) → ours z a ≡ true → geometry_of a ≡ geometry z
  unfolding same_shelf
  shelf_same a e =
      let e1 = and_right (eqb z.k a.k) _ e in
      let e2 = and_right (eqb z.m a.m) _ e1 in
      let e3 = and_right (eqb z.c a.c) _ e2 in
      let k : z.k ≡ a.k = eqb-true z.k a.k (and_left (eqb z.k a.k) _ e) in
      let m : z.m ≡ a.m = eqb-true z.m a.m (and_left (eqb z.m a.m) _ e1) in
      let c : z.c ≡ a.c = eqb-true z.c a.c (and_left (eqb z.c a.c) _ e2) in
      let S : z.sectors ≡ a.sectors = eqb-true z.sectors a.sectors (and_left (eqb z.sectors a.sectors) (eqb z.number a.shelf) e3) in
      sym (λ i. record { n = k i + m i; c = c i; sectors = S i })

  rebuild_of : (a : bytes.Label) → geometry_of a ≡ geometry z → rebuild_fits a ≡ true → (Rebuild z) a
  unfolding rebuild_fits
  rebuild_of a g e = by (eqb a.rebuilding no_slot) refl e
    where
      r : ℕ
      r = a.rebuilding

      n : a.k + a.m ≡ slots z
      n = ap (λ (y : Geometry). y.n) g

      by : (b : Bool) → eqb r no_slot ≡ b
          → cond b (eqb a.mark 0) (ltb r (a.k + a.m) && (in_mask a.out r && leb a.mark (stripes_of (geometry_of a)))) ≡ true → (Rebuild z) a
      by true q h =
          let i : slot_meant (slots z) r ≡ slots z = ap (λ (b : Bool). cond b (slots z) r) q in
          let zero : a.mark ≡ 0 = eqb-true a.mark 0 h in
          record { low = omega arith; also = λ l. absurd (omega arith); most = omega arith; none = λ l. zero }
      by false q h =
          let i : slot_meant (slots z) r ≡ r = ap (λ (b : Bool). cond b (slots z) r) q in
          let h1 = and_right (ltb r (a.k + a.m)) _ h in
          let below : r < a.k + a.m = ltb-true r (a.k + a.m) (and_left (ltb r (a.k + a.m)) _ h) in
          record {
            low = omega (arith, n);
            also = λ l. ap (in_mask a.out) i ∙ and_left (in_mask a.out r) (leb a.mark (stripes_of (geometry_of a))) h1;
            most = omega (arith, leb-true a.mark (stripes_of (geometry_of a)) (and_right (in_mask a.out r) (leb a.mark (stripes_of (geometry_of a))) h1), ap stripes_of g);
            none = λ l. absurd (omega (arith, n));
          }

  pub decode_fits : (d : ℕ) (b : Bool) (x : Sector) → 0 < (decode_label z d b x).generation → Fitting z (decode_label z d b x)
  decode_fits d b x p = subst (Fitting z) (sym t.is) (record {
    sound = record {
      inside = λ e l. in_past (slots z) a.out e (subst (λ (k : ℕ). a.out < 2 ^ k) (ap (λ (y : Geometry). y.n) g) f.out_below) l;
      slot_or_none = r.low;
      also_out = r.also;
      mark_T = r.most;
      unmarked = r.none;
    };
    from_one = f.from_one;
    not_last = f.not_last;
  })
    where
      t : (Told z) d b x
      t = told d b x p

      a : bytes.Label
      a = t.fields

      f : Fits a
      f = fits_says a t.means.fit

      g : geometry_of a ≡ geometry z
      g = shelf_same a t.same

      r : (Rebuild z) a
      r = rebuild_of a g f.rebuild

  -- ---- what fits comes back

  -- the byte for the slot being rebuilt, and what it means
  slot_back : (r : ℕ) → r ≤ slots z → slot_meant (slots z) (slot_byte (slots z) r) ≡ r
  slot_back r l = by (eqb r (slots z)) refl
    where
      by : (b : Bool) → eqb r (slots z) ≡ b → slot_meant (slots z) (cond b no_slot r) ≡ r
      by true e = sym (eqb-true r (slots z) e)
      by false e = ap (λ (b : Bool). cond b (slots z) r) (ne_eqb r no_slot (λ q. omega (arith, few_slots z)))

  out_back : (p : ℕ → Bool) → ((d : ℕ) → slots z ≤ d → p d ≡ false) → in_mask (mask_of p (slots z)) ≡ p
  out_back p h = fun_ext (λ d. ⊎_elim (λ (l : d < slots z). mask_below p (slots z) d l) (λ (g : slots z ≤ d). mask_past p (slots z) d g ∙ sym (h d g)) (lt_or_ge d (slots z)))

  label_back : (d : ℕ) (l : Label) → Fitting z l → label_of z (fields_of z d l) ≡ l
  label_back d l f =
      let o : in_mask (mask_of l.out (slots z)) ≡ l.out = out_back l.out f.sound.inside in
      let r : slot_meant (slots z) (slot_byte (slots z) l.rebuilding) ≡ l.rebuilding = slot_back l.rebuilding f.sound.slot_or_none in
      λ i. record { generation = l.generation; out = o i; rebuilding = r i; mark = l.mark }

  rebuild_fits_lem : (d : ℕ) (l : Label) → Fitting z l → rebuild_fits (fields_of z d l) ≡ true
  unfolding rebuild_fits
  rebuild_fits_lem d l f = by (eqb l.rebuilding (slots z)) refl
    where
      r : ℕ
      r = l.rebuilding

      M : ℕ
      M = mask_of l.out (slots z)

      T : ℕ
      T = stripes_of (geometry z)

      by : (b : Bool) → eqb r (slots z) ≡ b
          → cond (eqb (cond b no_slot r) no_slot) (eqb l.mark 0) (ltb (cond b no_slot r) (slots z) && (in_mask M (cond b no_slot r) && leb l.mark T)) ≡ true
      by true e = eq-eqb l.mark 0 (f.sound.unmarked (eqb-true r (slots z) e))
      by false e =
          let other : r ≡ slots z → ⊥ = eqb-false r (slots z) e in
          let below : r < slots z = ⊎_elim (λ (q : r ≡ slots z). absurd (other q)) (λ (q : r < slots z). q) (eq-or-lt_of_le f.sound.slot_or_none) in
          ap (λ (b : Bool). cond b (eqb l.mark 0) (ltb r (slots z) && (in_mask M r && leb l.mark T))) (ne_eqb r no_slot (λ q. omega (arith, few_slots z)))
          ∙ both (ltb r (slots z)) _ (lt-ltb r (slots z) below)
          (both (in_mask M r) _ (mask_below l.out (slots z) r below ∙ f.sound.also_out below) (le-leb l.mark T f.sound.mark_T))

  fields_fit : (d : ℕ) (l : Label) → d < slots z → Fitting z l → fits_of (fields_of z d l) ≡ true
  unfolding fits_of
  fields_fit d l i f =
      both (leb z.k most_k) _ (le-leb z.k most_k (few_data z))
      (both (leb z.m most_m) _ (le-leb z.m most_m (few_parity z))
      (both (in_range_with (geometry z) z.k) _ z.range
      (both (ltb d (slots z)) _ (lt-ltb d (slots z) i)
      (both (leb 1 l.generation) _ (le-leb 1 l.generation f.from_one)
      (both (leb l.generation most_generation) _ (le-leb l.generation most_generation f.not_last)
      (both (ltb (mask_of l.out (slots z)) (2 ^ slots z)) _ (lt-ltb (mask_of l.out (slots z)) (2 ^ slots z) (mask_lt l.out (slots z))) (rebuild_fits_lem d l f)))))))

  own_shelf : (d : ℕ) (l : Label) → ours z (fields_of z d l) ≡ true
  unfolding same_shelf
  own_shelf d l =
      both (eqb z.k z.k) _ (eq-eqb z.k z.k refl)
      (both (eqb z.m z.m) _ (eq-eqb z.m z.m refl)
      (both (eqb z.c z.c) _ (eq-eqb z.c z.c refl)
      (both (eqb z.sectors z.sectors) _ (eq-eqb z.sectors z.sectors refl) (eq-eqb z.number z.number refl))))

  pub encode_back : (d : ℕ) (l : Label) → d < slots z → Fitting z l → decode_label z d (side_of l.generation) (encode_label z d l) ≡ l
  unfolding decode_label encode_label
  encode_back d l i f =
      let a : bytes.Label = fields_of z d l in
      ap (λ (s : ℕ). meant z (decode_of (sealed a) d s)) (sector_side l.generation)
      ∙ ap (meant z) (decode_encode a (fields_fit d l i f) z.number_fits)
      ∙ ap (λ (b : Bool). cond b (label_of z a) (no_label z)) (own_shelf d l)
      ∙ label_back d l f

  -- ---- strange labels

  -- a sector with a label of some shelf, read with the slot number that it carries
  self_read : (d : ℕ) (b : Bool) (x : Sector) (a : bytes.Label) → decode_of x.bytes d (sector_of b) ≡ Some a → decode_of x.bytes (label_at x.bytes).slot (sector_of b) ≡ Some a
  self_read d b x a e =
      let m = decode_says x.bytes d (sector_of b) a e in
      let q : (label_at x.bytes).slot ≡ d = ap (λ (l : bytes.Label). l.slot) (sym m.is) ∙ m.own in
      ap (λ (y : ℕ). decode_of x.bytes y (sector_of b)) q ∙ e

  pub strange_none : (d : ℕ) (b : Bool) (x : Sector) → 0 < strange_label z d b x → (decode_label z d b x).generation ≡ 0
  unfolding strange_label
  strange_none d b x h = ⊎_elim (λ q. q) (λ p. absurd (omega (arith, h, none p))) (eq-zero-or-pos (decode_label z d b x).generation)
    where
      none : 0 < (decode_label z d b x).generation → strange_in z d (decode_of x.bytes (label_at x.bytes).slot (sector_of b)) ≡ 0
      none p =
          let t = told d b x p in
          let a = t.fields in
          let q : (label_at x.bytes).slot ≡ d = ap (λ (l : bytes.Label). l.slot) (sym t.means.is) ∙ t.means.own in
          let e : own z d a ≡ true = both (ours z a) (eqb a.slot d) t.same (eq-eqb a.slot d t.means.own) in
          ap (strange_in z d) (self_read d b x a t.read) ∙ ap (λ (y : Bool). cond y 0 a.generation) e

  pub strange_zeros : (d : ℕ) (b : Bool) → strange_label z d b zeros ≡ 0
  unfolding strange_label
  strange_zeros d b = ap (strange_in z d) (zeros_nothing (label_at zeros.bytes).slot (sector_of b))

  pub strange_encode : (d : ℕ) (l : Label) → d < slots z → Fitting z l → strange_label z d (side_of l.generation) (encode_label z d l) ≡ 0
  strange_encode d l i f =
      let b = side_of l.generation in
      let x = encode_label z d l in
      let g : (decode_label z d b x).generation ≡ l.generation = ap (λ (y : Label). y.generation) (encode_back d l i f) in
      ⊎_elim (λ q. q) (λ p. absurd (omega (arith, g, f.from_one, strange_none d b x p))) (eq-zero-or-pos (strange_label z d b x))

-- the codec of this shelf's labels
abbrev pub labels : (z : Shelf) → LabelCodec Sector (slots z)
labels z =
    record {
      Fits = Fitting z;
      side = side_of;
      zeros = zeros;
      encode = encode_label z;
      decode = decode_label z;
      decode_fits = decode_fits z;
      decode_encode = encode_back z;
      decode_zeros = decode_zeros z;
      side_next = side_next;
      decode_side = decode_side z;
      strange = strange_label z;
      strange_none = strange_none z;
      strange_zeros = strange_zeros z;
      strange_encode = strange_encode z;
    }

number_same : (y : Shelf) (a : bytes.Label) → ours y a ≡ true → y.number ≡ a.shelf
unfolding same_shelf
number_same y a e =
    let e1 = and_right (eqb y.k a.k) _ e in
    let e2 = and_right (eqb y.m a.m) _ e1 in
    let e3 = and_right (eqb y.c a.c) _ e2 in
    eqb-true y.number a.shelf (and_right (eqb y.sectors a.sectors) (eqb y.number a.shelf) e3)

known_is : (z z' : Shelf) (d d' : ℕ) (b : Bool) (x : Sector) (t : Told z' d' b x) → own z d t.fields ≡ false → strange_label z d b x ≡ (decode_label z' d' b x).generation
unfolding strange_label
known_is z z' d d' b x t e =
    ap (strange_in z d) (self_read z' d' b x t.fields t.read)
    ∙ (ap (λ (y : Bool). cond y 0 t.fields.generation) e ∙ ap (λ (l : Label). l.generation) (sym t.is))

-- A DISK THAT WAS SLOT d' OF ANOTHER SHELF, or another slot of this one, as the protocol asks: what is valid there is strange here
pub strangers : (z z' : Shelf) (d d' : ℕ) → (z.number ≢ z'.number) ⊎ (d ≢ d') → Strangers (labels z) (labels z') d d'
strangers z z' d d' apart = record { known = λ b x p. known b x (told z' d' b x p) }
  where
    same_number : (y : Shelf) (a : bytes.Label) → ours y a ≡ true → y.number ≡ a.shelf
    same_number y a e = number_same y a e

    strange : (a : bytes.Label) → ours z' a ≡ true → a.slot ≡ d' → own z d a ≡ false
    strange a o e = by (ours z a) refl (eqb a.slot d) refl
      where
        by : (u : Bool) → ours z a ≡ u → (v : Bool) → eqb a.slot d ≡ v → (u && v) ≡ false
        by true p true q =
            ⊎_elim (λ n. absurd (n (same_number z a p ∙ sym (same_number z' a o)))) (λ n. absurd (n (sym (eqb-true a.slot d q) ∙ e))) apart
        by true p false q = refl
        by false p v q = refl

    known : (b : Bool) (x : Sector) → Told z' d' b x → strange_label z d b x ≡ (decode_label z' d' b x).generation
    known b x t = known_is z z' d d' b x t (strange t.fields t.same t.means.own)
