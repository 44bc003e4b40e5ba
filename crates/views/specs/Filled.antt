-- The strip of a slot that is not there, as it is filled in, is the strip that the protocol rebuilds: its blocks as they are read, and
-- from these its shard. Whatever the strips that are there hold: a data shard that is there is always among the k least of them, so
-- filling in a parity shard and computing it from the blocks is the same. Assumes nothing.
use Rattle.std.specs.Prelude.{◌≡◌, refl, Bool, true, false, List, ℕ, ◌<◌}
use Rattle.std.proofs.Common.{sym, ◌∙◌, arith}
use Rattle.std.proofs.Math.Path.{ap}
use Rattle.disk.specs.Limits.{sector_bytes}
use Rattle.disk.specs.Geometry.{slot_of, shard_of}
use Rattle.disk.specs.Mask.{in_mask}
use Rattle.codeword.specs.Stripe.{Holds, Bytes, has}
use Rattle.position.specs.Position.{padded}
use Rattle.codecs.specs.Sector.{Sector}
use Rattle.codecs.specs.Shelf.{Shelf, slots}
use Rattle.shards.specs.Quorum.{few_of}
use Rattle.shards.specs.Parity.{byte, sector_ext}
use Rattle.shards.specs.Strips.{shard_in, position, position_bytes, missing_of, missing_has, blocks_from, in_range_lem}
use Rattle.shards.specs.Exact.{blocks_there}
use Rattle.shards.proofs.Exact.{blocks_found}
use Rattle.stripes.specs.Slice.{missing_lost}
use Rattle.views.specs.Seen.{Lying, Keeping, gone, laid_over}
use Rattle.views.specs.Whole.{shard_by}
use Rattle.views.specs.Solvable.{completed_least, data_least}

-- a shard in a bad slot, filled in, is the shard of the blocks that are read
pub shard_filled : (z : Shelf) (t : ℕ) (bad : ℕ → Bool) (g : ℕ → ℕ → Sector) → few_of z bad ≡ true → (r j : ℕ) → r < slots z → bad (slot_of (slots z) t r) ≡ true
    → blocks_from z t bad g r j ≡ shard_in z t (blocks_from z t bad g) (slot_of (slots z) t r) j
unfolding position
shard_filled z t bad g few r j hr e = sector_ext (blocks_from z t bad g r j) (shard_in z t (blocks_from z t bad g) (slot_of (slots z) t r) j) at
  where
    missing : List ℕ
    missing = missing_of z t bad

    at : (p : ℕ) → p < sector_bytes → byte (blocks_from z t bad g r j) p ≡ byte (shard_in z t (blocks_from z t bad g) (slot_of (slots z) t r) j) p
    at p hp = lost r hr e ∙ sym (shard_by z t bad g j p hp y.0 y.2 same r hr)
      where
        x : ℕ → ℕ
        x = position z t g j p

        y : (y : ℕ → ℕ) × Bytes y × Holds z.k z.m y × ((r : ℕ) → has (padded z.k z.m missing) r ≡ false → x r ≡ y r)
        y = completed_least z.k z.m (in_range_lem z) missing (missing_lost z t bad few) x (position_bytes z t g j p)

        lost : (i : ℕ) → i < slots z → bad (slot_of (slots z) t i) ≡ true → byte (blocks_from z t bad g i j) p ≡ y.0 i
        lost i hi q = blocks_found z t bad g i j hi few q p hp y.0 y.1 y.2 (λ r h n. y.3 r n)

        same : (i : ℕ) → i < z.k → byte (blocks_from z t bad g i j) p ≡ y.0 i
        same i hi = go (bad (slot_of (slots z) t i)) refl
          where
            go : (b : Bool) → bad (slot_of (slots z) t i) ≡ b → byte (blocks_from z t bad g i j) p ≡ y.0 i
            go true q = lost i (omega arith) q
            go false q =
                ap (λ (s : Sector). byte s p) (blocks_there z t bad g i j (omega arith) q)
                ∙ y.3 i (data_least z.k z.m (in_range_lem z) missing (missing_lost z t bad few) i hi (missing_has z t bad i (omega arith) ∙ q))

module _ (z : Shelf) (t : ℕ) (img : List ℕ) (there over : ℕ) (kept : List ℕ) (g h : ℕ → ℕ → Sector) (lies : Lying z t img there g) (keeps : Keeping z t kept over h)
    (few : few_of z (gone there) ≡ true) (d : ℕ) (hd : d < slots z) (out : in_mask there d ≡ false) where
  abbrev pub r : ℕ
  r = shard_of (slots z) t d

  abbrev pub view : ℕ → ℕ → Sector
  view = laid_over over h g
