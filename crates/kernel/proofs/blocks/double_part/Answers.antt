use Rattle.std.proofs.Common.{[], arith}
use Rattle.field.specs.Turns.{each_first, each_turn}
use Rattle.kernel.proofs.blocks.double_part.Goals as goal

pub loop-b-init : goal.loop-b-init
loop-b-init c = each_first _ _ []

pub loop-b-preserved : goal.loop-b-preserved
loop-b-preserved c = let l = c.loop-b in each_turn _ _ [] l.b-index _ l.y l.invariant (omega arith) c.double.ensures

pub returns : goal.returns
returns c = let l = c.loop-b in λ j h. l.invariant.done j (omega arith)
