use Prim.Native.Nat.{◌+◌, ◌-◌}
use Rattle.code.specs.PadTurns.{Padding}
use Rattle.code.proofs.Shape.pad.Given as goal

abbrev pub invariant-loop-a : goal.invariant-loop-a
invariant-loop-a l = Padding l.self.k l.self.m l.lost l.c (l.self.k + l.self.m + 1 - l.a-counter) l.all
