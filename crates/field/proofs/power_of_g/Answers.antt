use Rattle.std.proofs.Common.{refl, arith}
use Rattle.field.specs.Field.{power_of}
use Rattle.field.proofs.Turns.{power_next, power_reached}
use Rattle.field.proofs.power_of_g.Goals as goal

pub loop-init : goal.loop-init
unfolding power_of
loop-init c = refl

pub loop-preserved : goal.loop-preserved
loop-preserved c = let l = c.loop in power_next l.counter l.x _ c.double-x.ensures l.invariant

pub returns : goal.returns
returns c = let l = c.loop in power_reached c.args.n l.counter l.x (omega arith) l.invariant
