use Prim.Native.Nat.{◌*◌}
use native.Mathlib.Omega.{arith}
use Rattle.disk.specs.Limits.{sector_bytes}
use Rattle.strips.specs.Seen.{shard_seen, row_seen}
use Rattle.strips.specs.Turns.{row_done}
use Rattle.strips.proofs.seen.Seen.gather.Goals as goal

pub returns : goal.returns
unfolding row_seen
returns c = let l = c.loop-r in
    let s = c.args.self in
    row_done s.from.g.n (s.count * sector_bytes) l.r (shard_seen s.from.g s.from.image.now s.from.there s.from.over s.from.kept.now s.t s.first s.count) l.to c.args.to.now (omega arith) c.requires l.invariant
