-- A stripe as it is seen in the lent image is the protocol's: the strips of the slots that are there, with those of some slots taken
-- from a slice of shards instead. What is shown of it, shard by shard, are the blocks that the protocol's code reads, whatever is lost
-- and whatever the strips hold. Assumes nothing.
use Rattle.std.specs.Prelude.{◌≡◌, Bool, true, cond, not, drop}
use Rattle.std.proofs.Math.Path.{sym, ap}
use Rattle.std.proofs.Common.{◌∙◌, get_or-take}
use mathlib.Core.List.{List}
use Prim.Native.Nat.{ℕ, ◌+◌, ◌*◌, ◌<◌}
use Rattle.std.proofs.Math.ListN.{get_or}
use Rattle.std.proofs.Math.Seq.{get_or-drop}
use Rattle.disk.specs.Limits.{sector_bytes}
use Rattle.disk.specs.Geometry.{strip_of, slot_of}
use Rattle.disk.specs.Image.{sector}
use Rattle.disk.specs.Mask.{in_mask}
use Rattle.codecs.specs.Sector.{Sector}
use Rattle.codecs.specs.Shelf.{Shelf, slots, geometry}
use Rattle.codecs.specs.Records.{strip_bytes}
use Rattle.codecs.proofs.Written.{strip_part}
use Rattle.record.specs.Log.{part}
use Rattle.shards.specs.Parity.{byte}

-- ---- the image's strips, and the slice's

-- the strips g of stripe t are those of the image, as far as their slots are there
abbrev pub Lying : Shelf → ℕ → List ℕ → ℕ → (ℕ → ℕ → Sector) → Type 0
Lying z t img there g = (d j : ℕ) → d < slots z → j < z.c → in_mask there d ≡ true → sector z.sectors img d (strip_of (geometry z) t + j) ≡ (g d j).bytes

-- the strips h are those of a slice of shards, as far as their slots are in `over`
abbrev pub Keeping : Shelf → ℕ → List ℕ → ℕ → (ℕ → ℕ → Sector) → Type 0
Keeping z t kept over h = (r j : ℕ) → r < slots z → j < z.c → in_mask over (slot_of (slots z) t r) ≡ true → sector z.c kept r j ≡ (h (slot_of (slots z) t r) j).bytes

-- the slots that are not there
unfoldable pub gone : ℕ → ℕ → Bool
gone there d = not (in_mask there d)

-- the strips h of the slots in `over`, and g of the others
unfoldable pub laid_over : ℕ → (ℕ → ℕ → Sector) → (ℕ → ℕ → Sector) → ℕ → ℕ → Sector
laid_over over h g d j = cond (in_mask over d) (h d j) (g d j)

-- a strip's bytes
pub strip_at : (v : ℕ → Sector) (c j p : ℕ) → j < c → p < sector_bytes → get_or (strip_bytes v c) (j * sector_bytes + p) 0 ≡ byte (v j) p
unfolding part
strip_at v c j p hj hp =
    let s : List ℕ = strip_bytes v c in
    sym (get_or-take sector_bytes (drop (j * sector_bytes) s) p 0 hp ∙ get_or-drop (j * sector_bytes) s p 0)
    ∙ ap (λ (l : List ℕ). get_or l p 0) (strip_part v c j hj)

module _ (z : Shelf) (t : ℕ) (img : List ℕ) (there over : ℕ) (kept : List ℕ) (g h : ℕ → ℕ → Sector) (lies : Lying z t img there g) (keeps : Keeping z t kept over h) where
  abbrev pub n : ℕ
  n = slots z

  abbrev pub view : ℕ → ℕ → Sector
  view = laid_over over h g
