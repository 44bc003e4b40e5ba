-- What the blocks and the finding of a scrub are, in the words of the code's own theorems: these are the laws by which a function that
-- rebuilds or scrubs is shown to compute them, also where the strips contradict each other. Assumes nothing.
use Rattle.std.specs.Prelude.{◌≡◌}
use Rattle.std.proofs.Common.{◌∙◌}
use Rattle.std.proofs.Math.Bool.{Bool, true, false}
use Prim.Native.Nat.{ℕ, ◌<◌}
use Rattle.disk.specs.Limits.{sector_bytes}
use Rattle.disk.specs.Geometry.{slot_of}
use Rattle.codeword.specs.Stripe.{Holds, Bytes, has}
use Rattle.codecs.specs.Sector.{Sector}
use Rattle.codecs.specs.Shelf.{Shelf, slots}
use Rattle.shards.specs.Quorum.{few_of}
use Rattle.position.specs.Position.{padded, filled_is}
use Rattle.shards.specs.Parity.{byte}
use Rattle.shards.specs.Strips.{position, position_bytes, missing_of, missing_has, in_range_lem, blocks_from, blocks_byte}
use Rattle.shards.proofs.Strips.{missing_few}

module _ (z : Shelf) (t : ℕ) where
  -- ---- THE BLOCKS
  module _ (bad : ℕ → Bool) (g : ℕ → ℕ → Sector) (i j : ℕ) (hi : i < slots z) where
    -- one whose slot is bad is that of the stripe y, which meets the equations and has the bytes of the k least shards that are there
    pub blocks_found : few_of z bad ≡ true → bad (slot_of (slots z) t i) ≡ true → (p : ℕ) → p < sector_bytes → (y : ℕ → ℕ) → Bytes y → Holds z.k z.m y
        → ((r : ℕ) → r < slots z → has (padded z.k z.m (missing_of z t bad)) r ≡ false → position z t g j p r ≡ y r) → byte (blocks_from z t bad g i j) p ≡ y i
    blocks_found few e p l y by h off =
        blocks_byte z t bad g i j p l
        ∙ filled_is z.k z.m (in_range_lem z) (missing_of z t bad) (missing_few z t bad few) (position z t g j p) y (position_bytes z t g j p) by h off i hi
        (missing_has z t bad i hi ∙ e)
