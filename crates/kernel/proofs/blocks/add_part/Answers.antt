use Rattle.std.proofs.Common.{refl, arith}
use Rattle.field.specs.Turns.{each_first, each_turn}
use Rattle.kernel.proofs.blocks.add_part.Goals as goal

pub loop-j-init : goal.loop-j-init
loop-j-init c = each_first _ _ _

pub loop-j-preserved : goal.loop-j-preserved
loop-j-preserved c = let l = c.loop-j in each_turn _ _ _ l.j _ l.y l.invariant (omega arith) refl

pub returns : goal.returns
returns c = let l = c.loop-j in λ j h. l.invariant.done j (omega arith)
