-- The strip of a slot that is not there, as it is filled in, is the strip that the protocol rebuilds: its blocks as they are read, and
-- from these its shard. Whatever the strips that are there hold: a data shard that is there is always among the k least of them, so
-- filling in a parity shard and computing it from the blocks is the same. Assumes nothing.
use Rattle.std.specs.Prelude.{◌≡◌, true, false, List, ℕ, ◌+◌, ◌*◌, ◌≤◌, ◌<◌}
use Rattle.std.proofs.Common.{◌∙◌}
use Rattle.std.proofs.Math.Path.{ap}
use Rattle.std.proofs.Math.Bool.{not}
use Rattle.disk.specs.Limits.{sector_bytes}
use Rattle.disk.specs.Geometry.{slot_of, shard_lt, slot_shard}
use Rattle.disk.specs.Mask.{in_mask}
use Rattle.codecs.specs.Sector.{Sector}
use Rattle.codecs.specs.Shelf.{Shelf, slots, geometry, some_slots}
use Rattle.codecs.specs.Records.{strip_bytes}
use Rattle.shards.specs.Quorum.{few_of}
use Rattle.shards.specs.Parity.{byte}
use Rattle.shards.specs.Strips.{shard_in, blocks_from}
use Rattle.shards.proofs.Even.{any_code}
use Rattle.strips.specs.Seen.{shown_byte, shard_shown}
use Rattle.views.specs.Seen.{Lying, Keeping, gone}
use Rattle.views.proofs.Seen.{shown_is, shown_part}
use Rattle.views.specs.Filled.{shard_filled, r, view}

module _ (z : Shelf) (t : ℕ) (img : List ℕ) (there over : ℕ) (kept : List ℕ) (g h : ℕ → ℕ → Sector) (lies : Lying z t img there g) (keeps : Keeping z t kept over h)
    (few : few_of z (gone there) ≡ true) (d : ℕ) (hd : d < slots z) (out : in_mask there d ≡ false) where
  strip_filled : (j : ℕ) → (any_code z).blocks t (gone there) (view z t img there over kept g h lies keeps few d hd out) (r z t img there over kept g h lies keeps few d hd out) j ≡ (any_code z).shard t ((any_code z).blocks t (gone there) (view z t img there over kept g h lies keeps few d hd out)) d j
  unfolding gone
  strip_filled j =
      let back : slot_of (slots z) t (r z t img there over kept g h lies keeps few d hd out) ≡ d = slot_shard (slots z) t (some_slots z) d hd in
      shard_filled z t (gone there) (view z t img there over kept g h lies keeps few d hd out) few (r z t img there over kept g h lies keeps few d hd out) j (shard_lt (slots z) t (some_slots z) d) (ap (λ (e : ℕ). not (in_mask there e)) back ∙ ap not out)
      ∙ ap (λ (e : ℕ). shard_in z t (blocks_from z t (gone there) (view z t img there over kept g h lies keeps few d hd out)) e j) back

  -- BYTE BY BYTE
  pub filled_is : (j p : ℕ) → j < z.c → p < sector_bytes
      → shown_byte (geometry z) z.k img there over kept t (r z t img there over kept g h lies keeps few d hd out) (j * sector_bytes + p) ≡ byte ((any_code z).shard t ((any_code z).blocks t (gone there) (view z t img there over kept g h lies keeps few d hd out)) d j) p
  filled_is j p hj hp =
      shown_is z t img there over kept g h lies keeps (r z t img there over kept g h lies keeps few d hd out) j p (shard_lt (slots z) t (some_slots z) d) hj hp ∙ ap (λ (s : Sector). byte s p) (strip_filled j)

  -- SECTOR BY SECTOR: some sectors of the strip that are filled in are those that the protocol rebuilds
  pub filled_part : (first count : ℕ) → first + count ≤ z.c
      → shard_shown (geometry z) z.k img there over kept t first count (r z t img there over kept g h lies keeps few d hd out) ≡ strip_bytes (λ j. (any_code z).shard t ((any_code z).blocks t (gone there) (view z t img there over kept g h lies keeps few d hd out)) d (first + j)) count
  filled_part first count hc =
      shown_part z t img there over kept g h lies keeps (r z t img there over kept g h lies keeps few d hd out) first count (shard_lt (slots z) t (some_slots z) d) hc
      ∙ (λ i. strip_bytes (λ j. strip_filled (first + j) i) count)
