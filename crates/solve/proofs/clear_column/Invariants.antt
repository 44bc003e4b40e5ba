use Rattle.solve.specs.SolveTurns.{Clearing}
use Rattle.solve.proofs.clear_column.Given as goal

abbrev pub invariant-loop-j : goal.invariant-loop-j
invariant-loop-j l = Clearing l.n l.c l.a l.j l.initial.e l.e
