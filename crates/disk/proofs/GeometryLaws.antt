-- Where things lie on a shelf, in the words of the document: n slots, S sectors a disk, strips of c sectors, k data
-- shards a stripe. The laws: strips lie apart, behind the log and within the disk; for each stripe shards and slots are
-- one to one; blocks and data shards are one to one. Assumes nothing.
use Rattle.std.specs.Prelude.{◌≡◌, true, ℕ, ◌+◌, ◌*◌, ◌-◌, ◌≤◌, ◌<◌, ◌/◌}
use Rattle.std.proofs.Common.{mul-le-mul_right, div-mul-le_self, suc-mul}
use native.Mathlib.Omega.{arith}
use Rattle.disk.specs.Limits.{first_strip, most_k, most_sectors}
use Rattle.disk.specs.declared.geometry.Geometry.{Geometry}
use Rattle.disk.specs.Geometry.{in_range_with, stripes_of, strip_of, blocks_of, block_of, InRange, in_range_with_lem, stripes_le, product_le, block_lt}

-- every strip lies within the disk
pub strip_inside : (g : Geometry) → InRange g → (t : ℕ) → t < stripes_of g → strip_of g t + g.c ≤ g.sectors
unfolding stripes_of strip_of
strip_inside g r t h =
    let T : ℕ = (g.sectors - first_strip) / g.c in
    omega (arith, r.room, suc-mul t g.c, mul-le-mul_right g.c h, div-mul-le_self (g.sectors - first_strip) g.c)

-- T times k, and the number of each block, are numbers that fit
pub blocks_le : (g : Geometry) (k : ℕ) → in_range_with g k ≡ true → stripes_of g * k ≤ most_sectors * most_k
blocks_le g k e =
    let r = in_range_with_lem g k e in
    product_le (stripes_of g) k most_sectors most_k (omega (arith, stripes_le g, r.0.most)) r.1.most

pub block_le : (g : Geometry) (k t r : ℕ) → in_range_with g k ≡ true → t < stripes_of g → r < k → t * k + r ≤ most_sectors * most_k
unfolding blocks_of block_of
block_le g k t r e h l = omega (arith, blocks_le g k e, block_lt g k t r h l)

-- no strip overlaps the log or the labels
pub strip_behind : (g : Geometry) (t : ℕ) → first_strip ≤ strip_of g t
unfolding strip_of
strip_behind g t = omega arith

-- no two strips overlap
pub strips_apart : (g : Geometry) (t u : ℕ) → t < u → strip_of g t + g.c ≤ strip_of g u
unfolding strip_of
strips_apart g t u h = omega (arith, suc-mul t g.c, mul-le-mul_right g.c h)
