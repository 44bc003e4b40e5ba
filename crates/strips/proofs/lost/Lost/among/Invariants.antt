-- The loop's invariant: the list begins with the lost shards among those passed, and the rest is as it was.
use mathlib.Core.Path.{◌≡◌}
use mathlib.Core.Bool.{not}
use mathlib.Core.List.{◌++◌}
use Prim.Native.Nat.{◌≤◌}
use lib.ListN.{drop, length, replicate}
use Rattle.disk.specs.Geometry.{slot_of}
use Rattle.disk.specs.Mask.{in_mask}
use Rattle.position.specs.Position.{ascending}
use Rattle.strips.proofs.lost.Lost.among.Given as goal

abbrev pub invariant-loop-r : goal.invariant-loop-r
invariant-loop-r l = (l.many ≤ l.r) × (l.many ≡ length (ascending (λ i. not (in_mask l.there (slot_of l.n l.t i))) l.r)) × (l.list ≡ ascending (λ i. not (in_mask l.there (slot_of l.n l.t i))) l.r ++ drop l.many (replicate 19 0))
