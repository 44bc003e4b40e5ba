use Rattle.solve.specs.SolveTurns.{Adding}
use Rattle.solve.proofs.add_row.Given as goal

abbrev pub invariant-loop-i : goal.invariant-loop-i
invariant-loop-i l = Adding l.n l.dst l.src l.c l.i l.initial.e l.e
