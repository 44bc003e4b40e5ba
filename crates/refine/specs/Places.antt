-- Where the protocol's places lie on a disk (document 03, section 1; docs/LOG.md): the two labels in sectors 0 and 1, the log
-- record from sector 2 on, its tail last, and the strips behind the log area. The places that a shelf has lie within the disk,
-- and no two of them in one sector. Assumes nothing.
use Rattle.std.specs.Prelude.{◌≡◌, Bool, cond, ◌&&◌, ℕ, ◌+◌, ◌≤◌, ◌<◌, leb}
use Rattle.std.proofs.Math.Bool.{true}
use Rattle.std.proofs.Math.Dec.{ltb}
use borrow.Author.Tests.{ltb-true, lt-ltb, le-leb}
use Rattle.disk.specs.Limits.{first_log}
use Rattle.disk.specs.Tests.{and_left, both}
use Rattle.disk.specs.Geometry.{stripes_of, strip_of}
use Rattle.protocol.specs.World.{Place, label, log, strip, slot}
use Rattle.codecs.specs.Shelf.{Shelf, slots, geometry}

-- the sector of a copy of the label
unfoldable pub copy_sector : Bool → ℕ
copy_sector b = cond b 1 0

-- the sector of a place
unfoldable pub sector_of : Shelf → Place → ℕ
sector_of z (label d b) = copy_sector b
sector_of z (log d j) = first_log + j
sector_of z (strip d t j) = strip_of (geometry z) t + j

-- the shelf has this place: its slots, the c + 1 sectors of a record, the c sectors of each of its strips
unfoldable pub inside : Shelf → Place → Bool
inside z (label d b) = ltb d (slots z)
inside z (log d j) = ltb d (slots z) && leb j z.c
inside z (strip d t j) = ltb d (slots z) && (ltb t (stripes_of (geometry z)) && ltb j z.c)

module _ (z : Shelf) where
  -- ---- which places there are

  pub label_inside : (d : ℕ) (b : Bool) → d < slots z → inside z (label d b) ≡ true
  unfolding inside
  label_inside d b h = lt-ltb d (slots z) h

  pub log_inside : (d j : ℕ) → d < slots z → j ≤ z.c → inside z (log d j) ≡ true
  unfolding inside
  log_inside d j h l = both (ltb d (slots z)) (leb j z.c) (lt-ltb d (slots z) h) (le-leb j z.c l)

  pub strip_is_inside : (d t j : ℕ) → d < slots z → t < stripes_of (geometry z) → j < z.c → inside z (strip d t j) ≡ true
  unfolding inside
  strip_is_inside d t j h u l =
      both (ltb d (slots z)) _ (lt-ltb d (slots z) h) (both (ltb t (stripes_of (geometry z))) (ltb j z.c) (lt-ltb t (stripes_of (geometry z)) u) (lt-ltb j z.c l))

  -- ---- they lie on the shelf's disks

  pub slot_below : (k : Place) → inside z k ≡ true → slot k < slots z
  unfolding inside
  slot_below (label d b) e = ltb-true d (slots z) e
  slot_below (log d j) e = ltb-true d (slots z) (and_left (ltb d (slots z)) (leb j z.c) e)
  slot_below (strip d t j) e = ltb-true d (slots z) (and_left (ltb d (slots z)) (ltb t (stripes_of (geometry z)) && ltb j z.c) e)
