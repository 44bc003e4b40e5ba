-- A write of one block: what is prepared for it is the stripe that the protocol writes, and all shards are to change where the protocol
-- changes them all. Whatever the strips hold. Assumes nothing.
use Rattle.std.specs.Prelude.{◌≡◌, true, cond, ◌≢◌, length}
use mathlib.Core.List.{List}
use Prim.Native.Nat.{ℕ, ◌+◌, ◌*◌, ◌<◌}
use Rattle.std.proofs.Math.Seq.{paste}
use Rattle.disk.specs.Limits.{sector_bytes}
use Rattle.codeword.specs.Stripe.{byte_at}
use Rattle.codeword.specs.Unique.{AllBytes}
use Rattle.protocol.specs.Host.{Finding, mend}
use Rattle.protocol.specs.Pairs.{no_sets}
use Rattle.codecs.specs.Sector.{Sector}
use Rattle.codecs.specs.Shelf.{Shelf, slots, size}
use Rattle.codecs.specs.Records.{strip_bytes}
use Rattle.codecs.proofs.Records.{records}
use Rattle.shards.specs.Quorum.{few_of}
use Rattle.shards.specs.Parity.{byte}
use Rattle.shards.proofs.Even.{any_code}
use Rattle.stripes.specs.Slice.{shard_bytes}
use Rattle.strips.specs.Whole.{none_lost}
use Rattle.views.specs.Seen.{Lying, gone}
use Rattle.views.specs.Whole.{all_there}

-- the strips that a write goes by: where every slot is there, with the accused one mended
unfoldable pub mended_first : Shelf → ℕ → ℕ → (ℕ → ℕ → Sector) → ℕ → ℕ → Sector
mended_first z t there g = cond (all_there (slots z) there) (mend (size z) (no_sets (slots z)) (records z) (any_code z) t ((any_code z).scrub t g) g) g

-- a strip's bytes put at shard i of a slice
module _ (z : Shelf) (s : List ℕ) (whole : length s ≡ slots z * shard_bytes z) (i : ℕ) (hi : i < slots z) (x : ℕ → Sector) where
  abbrev pub w : ℕ
  w = shard_bytes z

  abbrev pub pasted : List ℕ
  pasted = paste s (i * w) (strip_bytes x z.c) w

module _ (z : Shelf) (t : ℕ) (img : List ℕ) (there : ℕ) (g : ℕ → ℕ → Sector) (lies : Lying z t img there g) (few : few_of z (gone there) ≡ true)
    (i : ℕ) (hi : i < z.k) (x : ℕ → Sector) (after : List ℕ) (small : AllBytes after) where
  abbrev pub n : ℕ
  n = slots z

  abbrev pub len : ℕ
  len = shard_bytes z

  -- the data shards but i of a stripe that was restored are these blocks
  abbrev pub Reads : List ℕ → (ℕ → ℕ → Sector) → Type 0
  Reads stripe v = (r j p : ℕ) → r < z.k → r ≢ i → j < z.c → p < sector_bytes → byte_at len stripe (j * sector_bytes + p) r ≡ byte ((any_code z).blocks t (gone there) v r j) p

  -- a stripe of which nothing is lost is repaired
  module _ (none : none_lost n t there ≡ true) (stripe : List ℕ)
      (fits : length stripe ≡ n * len → (r q : ℕ) → r < z.k → r ≢ i → q < len → byte_at len stripe q r < 256) where
    abbrev pub M : Finding → ℕ → ℕ → Sector
    M f = mend (size z) (no_sets n) (records z) (any_code z) t f g
