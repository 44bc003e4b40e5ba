-- Which label counts, of a disk and of the shelf, and when labels disagree. Assumes nothing.
use Rattle.std.specs.Prelude.{Bool, true, false, ◌&&◌, ◌||◌, cond, List, ℕ, zero, suc, ltb, eqb, length, Some, None}
use Rattle.disk.specs.Image.{fits_image, read_of}
use Rattle.disk.specs.Mask.{in_mask}
use Rattle.disk.specs.declared.geometry.Geometry.{Geometry}
use Rattle.label.specs.Valid.{decode_of}
use Rattle.label.specs.declared.fields.Label.{Label}
use Rattle.label.specs.Fields.{Decoded}

-- the newer of two; the first where they are of one generation
abbrev pub newer : Decoded → Decoded → Decoded
newer None y = y
newer (Some a) None = Some a
newer (Some a) (Some b) = cond (ltb a.generation b.generation) (Some b) (Some a)

-- the newest of the first n: see `newest_is`
unfoldable pub newest_of : (ℕ → Decoded) → ℕ → Decoded
newest_of f zero = None
newest_of f (suc n) = newer (newest_of f n) (f n)

-- what stands in sector s of slot d, as a label
unfoldable pub copy_of : Geometry → List ℕ → ℕ → ℕ → Decoded
copy_of g img d s = decode_of (read_of g img d s) d s

-- a disk's label: its valid copy of the greatest generation
unfoldable pub disk_label : Geometry → List ℕ → ℕ → Decoded
disk_label g img d = newest_of (copy_of g img d) 2

-- of a present disk
unfoldable pub present_label : Geometry → List ℕ → ℕ → ℕ → Decoded
present_label g img absent d = cond (in_mask absent d) None (disk_label g img d)

-- the shelf's label: the greatest among its present disks
unfoldable pub shelf_label : Geometry → List ℕ → ℕ → Decoded
shelf_label g img absent = cond (fits_image g (length img)) (newest_of (present_label g img absent) g.n) None

-- two labels agree in k, m, c, S and the shelf number; all valid labels are of version 1
unfoldable pub same_shelf : Label → Label → Bool
same_shelf x y =
    eqb x.k y.k && (eqb x.m y.m && (eqb x.c y.c && (eqb x.sectors y.sectors && eqb x.shelf y.shelf)))

-- there is a label, and it agrees with l
abbrev pub agreeing : Label → Decoded → Bool
agreeing l (Some x) = same_shelf l x
agreeing l None = false

-- slot d is absent, or its disk has a label that agrees with l
unfoldable pub standing : Geometry → List ℕ → ℕ → Label → ℕ → Bool
standing g img absent l d = in_mask absent d || agreeing l (disk_label g img d)

-- the test p holds of the first n
unfoldable pub all_of : (ℕ → Bool) → ℕ → Bool
all_of p zero = true
all_of p (suc n) = all_of p n && p n

-- each present disk has a label, and it agrees with l
unfoldable pub agreed : Geometry → List ℕ → ℕ → Label → Bool
agreed g img absent l = fits_image g (length img) && all_of (standing g img absent l) g.n
