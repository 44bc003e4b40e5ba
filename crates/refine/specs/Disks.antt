-- The lent image as the protocol's disks: what each place holds is what its sector reads as. A put of a place's sector is the
-- protocol's put, and what is seen with some slots absent goes by the sectors of the others alone. Assumes nothing.
use Rattle.std.specs.Prelude.{◌≡◌, Bool, List, ℕ, ◌+◌, ◌*◌, ◌%◌, eqb, length, get_or}
use Rattle.std.proofs.Common.{lit<, eq-eqb}
use Rattle.std.proofs.Math.Bool.{true, cond}
use Rattle.std.proofs.Math.Nat.{mod-lt}
use Rattle.disk.specs.Limits.{sector_bytes}
use Rattle.disk.specs.Tests.{both}
use Rattle.disk.specs.Geometry.{in_range, image_bytes}
use Rattle.disk.specs.Image.{place, put_sector, Shape, fits_image}
use Rattle.protocol.specs.World.{Place, slot, Image}
use Rattle.codecs.specs.Sector.{Sector, Bytes}
use Rattle.codecs.proofs.Sector.{zeros}
use Rattle.codecs.specs.Shelf.{Shelf, slots, geometry, in_limits}
use Rattle.shards.specs.Parity as Parity
use Rattle.refine.specs.Places.{sector_of, inside}

-- an image of this shelf: the bytes of its n disks of S sectors
pub record Disks (z : Shelf) (img : List ℕ) : Type 0 where
  pub shape : Shape (slots z) z.sectors img
  pub small : Bytes img

-- byte p of a place's sector (of every list: what is missing is 0, and what is no byte counts modulo 256)
abbrev pub byte_in : Shelf → List ℕ → Place → ℕ → ℕ
byte_in z img k p = get_or img (place z.sectors (slot k) (sector_of z k) + p) 0 % 256

-- what each place holds; a place that the shelf does not have holds zeros
unfoldable pub cur_of : Shelf → List ℕ → Image Sector
cur_of z img k = cond (inside z k) (Parity.sector_of (byte_in z img k) (λ p. mod-lt (get_or img (place z.sectors (slot k) (sector_of z k) + p) 0) (lit< tt))) zeros

-- the same with the slots of A absent
unfoldable pub seen_of : Shelf → (ℕ → Bool) → List ℕ → Image Sector
seen_of z A img k = cond (A (slot k)) zeros (cur_of z img k)

module _ (z : Shelf) where
  module _ (img : List ℕ) (disks : Disks z img) where
    -- it is the image of a shelf in range
    pub image_fits : fits_image (geometry z) (length img) ≡ true
    unfolding fits_image image_bytes Shape
    image_fits = both (in_range (geometry z)) (eqb (length img) (slots z * z.sectors * sector_bytes)) (in_limits z) (eq-eqb _ _ disks.shape)

  -- ---- a put

  module _ (img : List ℕ) (disks : Disks z img) (k : Place) (v : Sector) (i : inside z k ≡ true) where
    abbrev pub then : List ℕ
    then = put_sector z.sectors img (slot k) (sector_of z k) v.bytes
