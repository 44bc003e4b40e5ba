-- The loop's invariant: the row of the shards passed, and the rest as it was.
use mathlib.Core.Path.{◌≡◌}
use mathlib.Core.List.{◌++◌}
use Prim.Native.Nat.{◌*◌}
use lib.ListN.{drop}
use Rattle.disk.specs.Limits.{sector_bytes}
use Rattle.position.specs.Row.{in_row}
use Rattle.strips.specs.Seen.{shard_seen}
use Rattle.strips.proofs.seen.Seen.gather.Given as goal

abbrev pub invariant-loop-r : goal.invariant-loop-r
invariant-loop-r l = let s = l.self in
    l.to ≡ in_row l.r (shard_seen s.from.g s.from.image.now s.from.there s.from.over s.from.kept.now s.t s.first s.count) ++ drop (l.r * (s.count * sector_bytes)) l.initial.to
