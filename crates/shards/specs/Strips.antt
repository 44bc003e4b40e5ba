-- A shelf's strips at real sectors (document 03, section 1, and document 01, sections 2 to 4). Shard r
-- of stripe t lies in slot (r + t) mod n; byte by byte the shards of a stripe meet the equations. What is believed gives the blocks
-- back; a scrub tells a sound stripe. Both are definitions by search, total in the strips whatever these hold. Assumes nothing.
use Rattle.std.specs.Prelude.{◌≡◌, Bool, ◌&&◌, ◌||◌, List, ℕ, ◌<◌, eqb, ltb, leb}
use Rattle.std.proofs.Common.{arith}
use Rattle.std.proofs.Math.Bool.{true, cond}
use Rattle.disk.specs.Limits.{sector_bytes}
use Rattle.disk.specs.Geometry.{slot_of, shard_of, in_range_with_lem}
use Rattle.codeword.specs.Stripe.{InRange, Holds, Bytes, has}
use Rattle.codeword.specs.Mend.{put}
use Rattle.protocol.specs.Count.{count}
use Rattle.protocol.specs.Host.{Blocks, Finding, all_sound, accused, several}
use Rattle.codecs.specs.Sector.{Sector}
use Rattle.codecs.proofs.Sector.{zeros}
use Rattle.codecs.specs.Shelf.{Shelf, slots, geometry}
use Rattle.position.specs.Search.{all, all_of, some, first}
use Rattle.position.specs.Position.{holds, holds_is, ascending, ascending_has, filled, filled_bytes}
use Rattle.shards.specs.Parity.{byte, byte_small, sector_of, byte_of, shard_sector}

-- ---- the definitions

-- the strip of slot d for the blocks b: the shard that lies there. Slots past the shelf have zeros
unfoldable pub shard_in : Shelf → ℕ → Blocks Sector → ℕ → ℕ → Sector
shard_in z t b d j = cond (ltb d (slots z)) (shard_sector z.k z.m b (shard_of (slots z) t d) j) zeros

-- block i reaches its own shard and the parity shards
unfoldable pub reaches : ℕ → ℕ → ℕ → Bool
reaches k i r = eqb r i || leb k r

unfoldable pub touched_in : Shelf → ℕ → ℕ → ℕ → Bool
touched_in z t i d = ltb d (slots z) && reaches z.k i (shard_of (slots z) t d)

-- the bytes of the shards of stripe t at byte p of sector j of the strips g
unfoldable pub position : Shelf → ℕ → (ℕ → ℕ → Sector) → ℕ → ℕ → ℕ → ℕ
position z t g j p r = byte (g (slot_of (slots z) t r) j) p

-- the shards of stripe t that lie in bad slots, in ascending order
unfoldable pub missing_of : Shelf → ℕ → (ℕ → Bool) → List ℕ
missing_of z t bad = ascending (λ r. bad (slot_of (slots z) t r)) (slots z)

pub position_bytes : (z : Shelf) (t : ℕ) (g : ℕ → ℕ → Sector) (j p : ℕ) → Bytes (position z t g j p)
unfolding position
position_bytes z t g j p r = byte_small (g (slot_of (slots z) t r) j) p

-- the blocks from the strips of the slots that are not bad
unfoldable pub blocks_from : Shelf → ℕ → (ℕ → Bool) → (ℕ → ℕ → Sector) → Blocks Sector
blocks_from z t bad g i j =
    sector_of (λ p. filled z.k z.m (missing_of z t bad) (position z t g j p) i)
    (λ p. filled_bytes z.k z.m (missing_of z t bad) (position z t g j p) (position_bytes z t g j p) i)

-- the equations hold at every byte of a strip
unfoldable pub sound_in : Shelf → (ℕ → ℕ → ℕ → ℕ) → Bool
sound_in z x = all z.c (λ j. all sector_bytes (λ p. holds z.k z.m (x j p)))

pub sound_is : (z : Shelf) (x : ℕ → ℕ → ℕ → ℕ) → ((j p : ℕ) → j < z.c → p < sector_bytes → Holds z.k z.m (x j p)) → sound_in z x ≡ true
unfolding sound_in
sound_is z x e =
    all_of z.c (λ j. all sector_bytes (λ p. holds z.k z.m (x j p)))
    (λ j hj. all_of sector_bytes (λ p. holds z.k z.m (x j p)) (λ p hp. holds_is z.k z.m (x j p) (e j p hj hp)))

-- there is a content for shard r with which they do
unfoldable pub mended_by : Shelf → (ℕ → ℕ → ℕ → ℕ) → ℕ → Bool
mended_by z x r = all z.c (λ j. all sector_bytes (λ p. some 256 (λ v. holds z.k z.m (put r v (x j p)))))

-- exactly one shard is such
unfoldable pub one_mends : Shelf → (ℕ → ℕ → ℕ → ℕ) → Bool
one_mends z x = leb 2 z.m && eqb (count (mended_by z x) (slots z)) 1

-- the finding names a shard, not a slot. With m = 1 nobody is named, and `several` stands for every stripe that is not sound
unfoldable pub scrub_of : Shelf → ℕ → (ℕ → ℕ → Sector) → Finding
scrub_of z t g =
    cond (sound_in z (position z t g)) all_sound
    (cond (one_mends z (position z t g)) (accused (first (slots z) (mended_by z (position z t g)))) several)

-- ---- their laws

module _ (z : Shelf) where
  abbrev pub n : ℕ
  n = slots z

  pub in_range_lem : InRange z.k z.m
  in_range_lem =
      let s = (in_range_with_lem (geometry z) z.k z.range).1 in
      record { k_least_lem = s.least; k_most_lem = s.most; m_least_lem = omega (arith, s.parity); m_most_lem = omega (arith, s.few) }

  module _ (t : ℕ) where
    -- those whose slot is bad
    pub missing_has : (bad : ℕ → Bool) (r : ℕ) → r < n → has (missing_of z t bad) r ≡ bad (slot_of n t r)
    unfolding missing_of
    missing_has bad r h = ascending_has (λ r. bad (slot_of n t r)) n r h

    -- a block, byte by byte
    pub blocks_byte : (bad : ℕ → Bool) (g : ℕ → ℕ → Sector) (i j p : ℕ) → p < sector_bytes
        → byte (blocks_from z t bad g i j) p ≡ filled z.k z.m (missing_of z t bad) (position z t g j p) i
    unfolding blocks_from
    blocks_byte bad g i j p l =
        byte_of (λ p. filled z.k z.m (missing_of z t bad) (position z t g j p) i)
        (λ p. filled_bytes z.k z.m (missing_of z t bad) (position z t g j p) (position_bytes z t g j p) i) p l

    -- a stripe whose equations hold at every byte is found sound
    pub scrub_holds : (g : ℕ → ℕ → Sector) → ((j p : ℕ) → j < z.c → p < sector_bytes → Holds z.k z.m (position z t g j p)) → scrub_of z t g ≡ all_sound
    unfolding scrub_of
    scrub_holds g e = rw (sound_is z (position z t g) e)
