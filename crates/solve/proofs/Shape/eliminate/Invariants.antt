use Rattle.solve.specs.Solving.{SolvedTo}
use Rattle.solve.proofs.Shape.eliminate.Given as goal

abbrev pub invariant-loop-c : goal.invariant-loop-c
invariant-loop-c l = SolvedTo l.self.k l.self.m l.c l.lost l.e
