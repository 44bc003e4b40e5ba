-- A stripe of a shelf as it is seen: shard r of stripe t lies in slot (r + t) mod n, at strip t. Two masks of slots say what to go by.
-- `there`: the slots whose strip is there and believed. `over`: the slots whose shard is taken from `kept`, a stripe of n shards one
-- behind the other, instead of the image. A shard whose slot is in `there` is seen; the others are lost, and are filled in.
-- Assumes nothing.
use Rattle.std.specs.Prelude.{cond, not, List, ℕ, ◌+◌, ◌-◌, ◌*◌, get_or}
use Rattle.disk.specs.Limits.{sector_bytes}
use Rattle.disk.specs.Geometry.{strip_of, slot_of}
use Rattle.disk.specs.Image.{place}
use Rattle.disk.specs.Mask.{in_mask}
use Rattle.disk.specs.declared.geometry.Geometry.{Geometry}
use Rattle.position.specs.Row.{in_row, listed}
use Rattle.position.specs.Position.{ascending, filled}

-- the bytes of a shard
abbrev pub shard_bytes : Geometry → ℕ
shard_bytes g = g.c * sector_bytes

-- the shards of stripe t that lie in no slot of the mask, in ascending order
unfoldable pub lost_of : ℕ → ℕ → ℕ → List ℕ
lost_of n t there = ascending (λ r. not (in_mask there (slot_of n t r))) n

-- byte q of shard r of stripe t as it is seen; 0 where it is not
unfoldable pub seen : Geometry → List ℕ → ℕ → ℕ → List ℕ → ℕ → ℕ → ℕ → ℕ
seen g img there over kept t r q =
    cond (in_mask over (slot_of g.n t r)) (get_or kept (r * shard_bytes g + q) 0)
    (cond (in_mask there (slot_of g.n t r)) (get_or img (place g.sectors (slot_of g.n t r) (strip_of g t) + q) 0) 0)

-- the same with what is lost filled in, k data shards to the stripe
unfoldable pub shown_byte : Geometry → ℕ → List ℕ → ℕ → ℕ → List ℕ → ℕ → ℕ → ℕ → ℕ
shown_byte g k img there over kept t r q = filled k (g.n - k) (lost_of g.n t there) (λ i. seen g img there over kept t i q) r

-- sectors first .. first + count of shard r as they are seen
unfoldable pub shard_seen : Geometry → List ℕ → ℕ → ℕ → List ℕ → ℕ → ℕ → ℕ → ℕ → List ℕ
shard_seen g img there over kept t first count r = listed (count * sector_bytes) (λ p. seen g img there over kept t r (first * sector_bytes + p))

-- those of all shards, one behind the other
unfoldable pub row_seen : Geometry → List ℕ → ℕ → ℕ → List ℕ → ℕ → ℕ → ℕ → List ℕ
row_seen g img there over kept t first count = in_row g.n (shard_seen g img there over kept t first count)

-- sectors first .. first + count of shard r with what is lost filled in
unfoldable pub shard_shown : Geometry → ℕ → List ℕ → ℕ → ℕ → List ℕ → ℕ → ℕ → ℕ → ℕ → List ℕ
shard_shown g k img there over kept t first count r =
    listed (count * sector_bytes) (λ p. shown_byte g k img there over kept t r (first * sector_bytes + p))
