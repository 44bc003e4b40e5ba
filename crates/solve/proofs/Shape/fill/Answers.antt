use native.Mathlib.Omega.{arith}
use Rattle.solve.specs.SolveTurns.{filling_done}
use Rattle.solve.proofs.Shape.fill.Goals as goal

pub returns : goal.returns
returns c = let l = c.loop-p in filling_done c.args.self.k c.args.self.m l.p _ l.e l.invariant (omega (arith, l.invariant.same)) c.requires
