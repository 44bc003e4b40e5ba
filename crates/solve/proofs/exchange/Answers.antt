use native.Mathlib.Omega.{arith}
use Rattle.solve.specs.SolveTurns.{exchanging_turn, exchanging_done}
use Rattle.solve.proofs.exchange.Goals as goal

pub loop-i-preserved : goal.loop-i-preserved
loop-i-preserved c = let l = c.loop-i in let a = c.args in
    exchanging_turn a.n a.c a.j _ l.i l.e _ l.invariant c.loop-i-test.true c.swap.ensures.len c.swap.ensures.by_index

pub returns : goal.returns
returns c = let l = c.loop-i in let a = c.args in
    exchanging_done a.n a.c a.j _ l.i l.e l.invariant (omega arith)
