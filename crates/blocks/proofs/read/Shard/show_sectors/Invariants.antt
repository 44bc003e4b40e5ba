-- The loop's invariant: the sectors passed, and the rest as it was.
use Prim.Native.Nat.{◌*◌}
use mathlib.Core.Path.{◌≡◌}
use lib.ListN.{length, drop}
use mathlib.Core.List.{◌++◌}
use Rattle.disk.specs.Limits.{sector_bytes}
use Rattle.position.specs.Row.{in_row}
use Rattle.strips.specs.Seen.{shard_shown}
use Rattle.blocks.proofs.read.Shard.show_sectors.Given as goal

abbrev pub invariant-loop-j : goal.invariant-loop-j
invariant-loop-j l = (length l.room ≡ length l.initial.room) × (l.bytes ≡ in_row l.j (λ i. shard_shown l.self.from.g l.self.k l.self.from.image.now l.self.from.there l.self.from.over l.self.from.kept.now l.self.t i 1 l.self.r) ++ drop (l.j * sector_bytes) l.initial.bytes)
