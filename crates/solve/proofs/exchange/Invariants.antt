use Rattle.solve.specs.SolveTurns.{Exchanging}
use Rattle.solve.proofs.exchange.Given as goal

abbrev pub invariant-loop-i : goal.invariant-loop-i
invariant-loop-i l = Exchanging l.n l.c l.j l.i l.initial.e l.e
