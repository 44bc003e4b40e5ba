use Rattle.solve.specs.SolveTurns.{Filling}
use Rattle.solve.proofs.Shape.fill.Given as goal

abbrev pub invariant-loop-p : goal.invariant-loop-p
invariant-loop-p l = Filling l.self.k l.self.m l.p l.initial.e l.e
