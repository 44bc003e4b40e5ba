use Rattle.std.proofs.Common.{arith}
use Rattle.field.specs.Turns.{each_first, each_turn, each_done}
use Rattle.field.proofs.change_each.Goals as goal

pub loop-i-init : goal.loop-i-init
loop-i-init g c = each_first _ _ _

pub loop-i-preserved : goal.loop-i-preserved
loop-i-preserved g c = let l = c.loop-i in each_turn _ _ _ l.i _ l.dst l.invariant (omega arith) c.f.ensures

pub returns : goal.returns
returns g c = let l = c.loop-i in each_done _ _ _ l.i l.dst l.invariant (omega arith)
