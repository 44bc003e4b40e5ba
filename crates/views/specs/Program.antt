-- The same in the words of the protocol's program. Its label says which strips are believed: `there` has the slots of these. What is shown
-- of a block is what the program reads (from the work area, where a write is on its way to its strips), what is filled in is what it
-- rebuilds, what is prepared for a write is what it writes, and a scrub finds what it finds. Assumes nothing.
use Rattle.std.specs.Prelude.{◌≡◌}
use Rattle.std.proofs.Math.Bool.{Bool, true}
use mathlib.Core.List.{List}
use Prim.Native.Nat.{ℕ, ◌<◌}
use Rattle.disk.specs.Geometry.{slot_of, slot_lt}
use Rattle.disk.specs.Mask.{in_mask}
use Rattle.codeword.specs.Unique.{AllBytes}
use Rattle.position.specs.Position.{ascending, filled, filled_bytes}
use Rattle.protocol.specs.World.{strip, Image}
use Rattle.protocol.specs.Label.{Label, believed, Quorum}
use Rattle.protocol.specs.Host.{strips_of}
use Rattle.protocol.specs.Program.{Own, all_believed}
use Rattle.protocol.specs.Pairs.{no_sets}
use Rattle.codecs.specs.Sector.{Sector}
use Rattle.codecs.specs.Shelf.{Shelf, slots, geometry, size, some_slots}
use Rattle.codecs.proofs.Labels.{labels}
use Rattle.codecs.specs.Records.{strip_bytes}
use Rattle.codecs.proofs.Records.{records}
use Rattle.codecs.specs.Media.{stamps}
use Rattle.shards.specs.Quorum.{few_of}
use Rattle.shards.specs.Parity.{sector_of}
use Rattle.shards.specs.Strips.{position, position_bytes, missing_of, blocks_from}
use Rattle.shards.proofs.Even.{any_code, any_sectors}
use Rattle.strips.specs.Whole.{PreparedBy}
use Rattle.views.specs.Seen.{Lying, gone}

-- the blocks that are read go by which slots of the shelf are bad
pub bad_same : (z : Shelf) (t : ℕ) (a b : ℕ → Bool) (g : ℕ → ℕ → Sector) → ((d : ℕ) → d < slots z → a d ≡ b d) → blocks_from z t a g ≡ blocks_from z t b g
unfolding blocks_from missing_of
bad_same z t a b g e =
    λ q i j. sector_of (λ p. filled z.k z.m (same q) (position z t g j p) i)
    (λ p. filled_bytes z.k z.m (same q) (position z t g j p) (position_bytes z t g j p) i)
  where
    same : ascending (λ r. a (slot_of (slots z) t r)) (slots z) ≡ ascending (λ r. b (slot_of (slots z) t r)) (slots z)
    same = λ q. ascending (λ r. e (slot_of (slots z) t r) (slot_lt (slots z) t (some_slots z) r) q) (slots z)

module _ (z : Shelf) (Q : Label) (t there : ℕ) (img : List ℕ) (f : Image Sector) (holds : (d : ℕ) → d < slots z → in_mask there d ≡ believed (size z) Q d t)
    (lies : Lying z t img there (strips_of (size z) (no_sets (slots z)) (records z) (any_code z) f t)) where
  abbrev pub n : ℕ
  n = slots z

  abbrev pub g : ℕ → ℕ → Sector
  g d j = f (strip d t j)

-- WRITE of block i, by a program in the state o: the whole stripe as it will be, and whether all of it is to be written
module _ (z : Shelf) (o : Own) (t there : ℕ) (img : List ℕ) (f : Image Sector) (holds : (d : ℕ) → d < slots z → in_mask there d ≡ believed (size z) o.now d t)
    (lies : Lying z t img there (strips_of (size z) (no_sets (slots z)) (records z) (any_code z) f t)) (few : few_of z (gone there) ≡ true)
    (i : ℕ) (hi : i < z.k) (x : ℕ → Sector) (all : Bool) (after : List ℕ) (small : AllBytes after)
    (w : PreparedBy (geometry z) z.k img there t i (strip_bytes x z.c) all after) where
  abbrev pub W : Quorum (slots z)
  W = no_sets (slots z)

  abbrev pub strips : ℕ → ℕ → Sector
  strips d j = f (strip d t j)

  abbrev pub asked : Bool
  asked = all_believed (size z) W (labels z) (records z) (any_code z) stamps (any_sectors z) o t
