-- The loop's invariant: the last bytes of the first s sectors stand at their places.
use mathlib.Core.Path.{◌≡◌}
use Rattle.record.specs.Tail.{pasted}
use Rattle.record.proofs.tail.put_rests.Given as goal

abbrev pub invariant-loop-s : goal.invariant-loop-s
invariant-loop-s l = l.out ≡ pasted l.s l.strip l.initial.out
