-- The shelf's code at real sectors, as the protocol asks for it: the strips of Strips, and what a scrub and a mended strip are where all shards of a
-- stripe but one are right. Assumes nothing.
use Rattle.std.specs.Prelude.{◌≡◌, Bool, false, ℕ, ◌<◌}
use Rattle.std.proofs.Common.{arith}
use Rattle.std.proofs.Math.Dec.{eqb}
use Rattle.disk.specs.Geometry.{slot_of}
use Rattle.protocol.specs.Host.{Finding, all_sound, accused, several}
use Rattle.codecs.specs.Sector.{Sector}
use Rattle.codecs.specs.Shelf.{Shelf, slots}
use Rattle.shards.specs.Strips.{shard_in, blocks_from}
use Rattle.shards.specs.Exact.{blocks_there}

-- ---- a strip from the others

unfoldable pub mended_in : Shelf → ℕ → (ℕ → ℕ → Sector) → ℕ → ℕ → Sector
mended_in z t g d j = shard_in z t (blocks_from z t (λ e. eqb e d) g) d j

-- whom a finding names
abbrev pub who : Finding → ℕ
who all_sound = 0
who (accused r) = r
who several = 0

module _ (z : Shelf) where
  abbrev pub n : ℕ
  n = slots z

  -- block i is shard i
  pub home : (t : ℕ) (bad : ℕ → Bool) (g : ℕ → ℕ → Sector) (i j : ℕ) → i < z.k → bad (slot_of n t i) ≡ false → blocks_from z t bad g i j ≡ g (slot_of n t i) j
  home t bad g i j h e = blocks_there z t bad g i j (omega arith) e
