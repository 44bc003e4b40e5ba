-- The protocol's labels as the bytes of a real sector: the codec that document 03's table gives, and its laws. The
-- protocol writes n where no slot is being rebuilt, the table 255; a sector that tells of another shelf is no label.
-- Assumes nothing.
use Rattle.std.specs.Prelude.{◌≡◌, Bool, not, ◌&&◌, eqb, Some, None}
use Rattle.std.proofs.Math.Path.{refl}
use Rattle.std.proofs.Common.{arith}
use Rattle.std.proofs.Math.Bool.{true, false, cond}
use Prim.Native.Nat.{ℕ, suc, ◌≤◌, ◌<◌, ◌%◌}
use borrow.Author.Tests.{eqb-true, eqb-false, eq-eqb, ne_eqb}
use Rattle.disk.specs.Mask.{in_mask, mask_of}
use Rattle.disk.specs.Geometry.{stripes_of}
use Rattle.label.specs.Fields.{no_slot, most_generation}
use Rattle.label.specs.Valid.{label_at, decode_of}
use Rattle.label.specs.Newest.{same_shelf}
use Rattle.label.specs.declared.fields.Label as bytes
use Rattle.label.specs.Fields.{Decoded}
use Rattle.label.proofs.Laws.{Meant}
use Rattle.protocol.specs.Label.{Label}
use Rattle.protocol.specs.Program.{Proper}
use Rattle.codecs.specs.Sector.{Sector}
use Rattle.codecs.specs.Shelf.{Shelf, slots, geometry, size}

-- sector 1 for an odd generation, sector 0 for an even one
abbrev pub side_of : ℕ → Bool
side_of g = eqb (g % 2) 1

abbrev pub sector_of : Bool → ℕ
sector_of b = cond b 1 0

-- ---- there

-- no slot is being rebuilt: n in the protocol, 255 in the bytes
abbrev pub slot_byte : ℕ → ℕ → ℕ
slot_byte n r = cond (eqb r n) no_slot r

abbrev pub slot_meant : ℕ → ℕ → ℕ
slot_meant n r = cond (eqb r no_slot) n r

-- the row of numbers that the sector tells
abbrev pub fields_of : Shelf → ℕ → Label → bytes.Label
fields_of z d l =
    record {
      k = z.k;
      m = z.m;
      slot = d;
      c = z.c;
      sectors = z.sectors;
      shelf = z.number;
      generation = l.generation;
      out = mask_of l.out (slots z);
      rebuilding = slot_byte (slots z) l.rebuilding;
      mark = l.mark;
    }

-- ---- and back

-- no label: generation 0
abbrev pub no_label : Shelf → Label
no_label z = record { generation = 0; out = λ d. false; rebuilding = slots z; mark = 0 }

abbrev pub label_of : Shelf → bytes.Label → Label
label_of z a = record { generation = a.generation; out = in_mask a.out; rebuilding = slot_meant (slots z) a.rebuilding; mark = a.mark }

-- it tells this shelf's k, m, c, S and number
abbrev pub ours : Shelf → bytes.Label → Bool
ours z a = same_shelf (fields_of z 0 (no_label z)) a

-- a valid label of this shelf, or none
abbrev pub meant : Shelf → Decoded → Label
meant z None = no_label z
meant z (Some a) = cond (ours z a) (label_of z a) (no_label z)

unfoldable pub decode_label : Shelf → ℕ → Bool → Sector → Label
decode_label z d b x = meant z (decode_of x.bytes d (sector_of b))

-- ---- labels of another shelf or slot

-- this shelf's, and this slot's
abbrev pub own : Shelf → ℕ → bytes.Label → Bool
own z d a = ours z a && eqb a.slot d

-- the generation of a label that is not
abbrev pub strange_in : Shelf → ℕ → Decoded → ℕ
strange_in z d None = 0
strange_in z d (Some a) = cond (own z d a) 0 a.generation

-- valid with the slot number that it carries itself, in the sector that its generation calls for
unfoldable pub strange_label : Shelf → ℕ → Bool → Sector → ℕ
strange_label z d b x = strange_in z d (decode_of x.bytes (label_at x.bytes).slot (sector_of b))

-- ---- what a label has to be for its bytes to tell it: proper, and of a generation from 1 to 2^63 - 1
pub record Fitting (z : Shelf) (l : Label) : Type 0 where
  pub sound : Proper (size z) l
  pub from_one : 1 ≤ l.generation
  pub not_last : l.generation ≤ most_generation

-- ---- the laws

pub side_next : (g : ℕ) → side_of (suc g) ≡ not (side_of g)
side_next g = by (side_of g) refl
  where
    by : (b : Bool) → eqb (g % 2) 1 ≡ b → eqb (suc g % 2) 1 ≡ not b
    by true e = ne_eqb (suc g % 2) 1 (λ q. omega (arith, eqb-true (g % 2) 1 e))
    by false e = eq-eqb (suc g % 2) 1 (let n : g % 2 ≡ 1 → ⊥ = eqb-false (g % 2) 1 e in omega arith)

module _ (z : Shelf) where
  -- what a sector with a label of this shelf tells
  pub record Told (d : ℕ) (b : Bool) (x : Sector) : Type 0 where
    pub fields : bytes.Label
    pub same : ours z fields ≡ true
    pub means : Meant x.bytes d (sector_of b) fields
    pub read : decode_of x.bytes d (sector_of b) ≡ Some fields
    pub is : decode_label z d b x ≡ label_of z fields

  -- what the bytes tell of a rebuild
  pub record Rebuild (a : bytes.Label) : Type 0 where
    pub low : slot_meant (slots z) a.rebuilding ≤ slots z
    pub also : slot_meant (slots z) a.rebuilding < slots z → in_mask a.out (slot_meant (slots z) a.rebuilding) ≡ true
    pub most : a.mark ≤ stripes_of (geometry z)
    pub none : slot_meant (slots z) a.rebuilding ≡ slots z → a.mark ≡ 0
