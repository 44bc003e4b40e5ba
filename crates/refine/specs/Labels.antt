-- The labels that the code reads are the labels that the protocol reads. `Rattle.label` finds the newest label of each disk and
-- of the shelf among the bytes of the image; the protocol finds them among its places. If the shelf's label names this shelf
-- and every present disk has a label that agrees with it, both find the same. Assumes nothing.
use Rattle.std.specs.Prelude.{◌≡◌, Bool, ◌&&◌, ℕ, ◌<◌, ◌^◌, ltb, eqb, leb, length, drop, Some}
use Rattle.std.proofs.Math.Path.{refl, ap}
use Rattle.std.proofs.Common.{arith, eq-eqb}
use Rattle.std.proofs.Math.Bool.{true, false, cond}
use mathlib.Core.List.{List, []}
use Rattle.disk.specs.Limits.{most_k, most_m, sector_bytes}
use Rattle.disk.specs.Tests.{and_left, and_right, both}
use Rattle.disk.proofs.NumberLaws.{number_lt}
use Rattle.disk.specs.Geometry.{in_range_with}
use Rattle.disk.specs.Image.{place, sector, fits_image, on_shelf, read_of}
use Rattle.disk.specs.Mask.{in_mask}
use Rattle.disk.specs.declared.geometry.Geometry.{Geometry}
use Rattle.label.specs.Fields.{geometry_of, fits_of}
use Rattle.label.specs.Valid.{label_at}
use Rattle.label.specs.Newest.{shelf_label, same_shelf, agreed}
use Rattle.label.specs.declared.fields.Label as bytes
use Rattle.label.specs.Fields.{Decoded}
use Rattle.label.proofs.Counts.{SameShelf, shelf_says, present_says, disk_says, copy_says}
use Rattle.protocol.specs.World.{Image}
use Rattle.protocol.specs.Label.{Label}
use Rattle.codecs.specs.Sector.{Sector, Bytes}
use Rattle.codecs.proofs.Sector.{bytes_none, bytes_take, bytes_drop}
use Rattle.codecs.specs.Shelf.{Shelf, slots, geometry}
use Rattle.codecs.specs.Labels.{no_label, ours}
use Rattle.codecs.specs.Labels as Labels
use Rattle.refine.specs.Disks.{Disks, seen_of}

-- ---- the shelf that a label names

pub range_of : (l : bytes.Label) → fits_of l ≡ true → in_range_with (geometry_of l) l.k ≡ true
unfolding fits_of
range_of l e = and_left (in_range_with (geometry_of l) l.k) _ (and_right (leb l.m most_m) _ (and_right (leb l.k most_k) _ e))

abbrev pub shelf_of : (l : bytes.Label) → fits_of l ≡ true → l.shelf < 2 ^ 64 → Shelf
shelf_of l e h = record { k = l.k; m = l.m; c = l.c; sectors = l.sectors; number = l.shelf; range = range_of l e; number_fits = h }

-- what a read gives is bytes
read_bytes : (g : Geometry) (img : List ℕ) (d s : ℕ) → Bytes img → Bytes (read_of g img d s)
unfolding read_of sector
read_bytes g img d s h = go (fits_image g (length img) && on_shelf g d s)
  where
    go : (b : Bool) → Bytes (cond b (sector g.sectors img d s) [])
    go true = bytes_take sector_bytes (drop (place g.sectors d s) img) (bytes_drop (place g.sectors d s) img h)
    go false = bytes_none

-- the shelf's label, of any image of bytes, names a shelf
pub named : (g : Geometry) (img : List ℕ) (absent : ℕ) (l : bytes.Label) → Bytes img → shelf_label g img absent ≡ Some l → (fits_of l ≡ true) × (l.shelf < 2 ^ 64)
unfolding Bytes label_at
named g img absent l small e =
    let s = shelf_says g img absent l e in
    let d = s.whose in
    let n = disk_says g img d l (present_says g img absent d l s.is).1 in
    let m = copy_says g img d n.whose l n.is in
    (m.fit, omega (arith, ap (λ (x : bytes.Label). x.shelf) m.is, number_lt 8 (read_of g img d n.whose) 20 (read_bytes g img d n.whose small)))

-- two labels that agree in the five numbers
pub same_shelf_lem : (x y : bytes.Label) → SameShelf x y → same_shelf x y ≡ true
unfolding same_shelf
same_shelf_lem x y s =
    both (eqb x.k y.k) _ (eq-eqb x.k y.k s.same_k)
    (both (eqb x.m y.m) _ (eq-eqb x.m y.m s.same_m)
    (both (eqb x.c y.c) _ (eq-eqb x.c y.c s.same_c)
    (both (eqb x.sectors y.sectors) _ (eq-eqb x.sectors y.sectors s.same_sectors) (eq-eqb x.shelf y.shelf s.same_number))))

-- the label names that shelf
pub shelf_ours : (l : bytes.Label) (e : fits_of l ≡ true) (h : l.shelf < 2 ^ 64) → ours (shelf_of l e h) l ≡ true
shelf_ours l e h = same_shelf_lem (Labels.fields_of (shelf_of l e h) 0 (no_label (shelf_of l e h))) l (record { same_k = refl; same_m = refl; same_c = refl; same_sectors = refl; same_number = refl })

-- ---- the newer of two

-- a label has a generation from 1 on
abbrev pub Aged : Decoded → Type 0
Aged x = (l : bytes.Label) → x ≡ Some l → 0 < l.generation

module _ (z : Shelf) where
  -- the newer of what two sectors say, in the protocol's words
  abbrev pub newer_of : Label → Label → Label
  newer_of x y = cond (ltb x.generation y.generation) y x

-- ---- the shelf's label l names this shelf, and each present disk has one that agrees with it. (A: the absent slots, as a test.)
pub record Led (z : Shelf) (img : List ℕ) (absent : ℕ) (A : ℕ → Bool) (l : bytes.Label) : Type 0 where
  pub disks : Disks z img
  pub are : (d : ℕ) → d < slots z → A d ≡ in_mask absent d
  pub own : ours z l ≡ true
  pub leads : shelf_label (geometry z) img absent ≡ Some l
  pub agree : agreed (geometry z) img absent l ≡ true

module _ (z : Shelf) (img : List ℕ) (absent : ℕ) (A : ℕ → Bool) (l : bytes.Label) (led : Led z img absent A l) where
  abbrev pub f0 : Image Sector
  f0 = seen_of z A img
