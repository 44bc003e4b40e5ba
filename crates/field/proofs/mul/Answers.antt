use Rattle.std.proofs.Common.{rules, ◌∙◌, ◌-◌, arith}
use Rattle.field.proofs.Product.{mul_bytes}
use Rattle.field.proofs.Turns.{bit_turn, mul_done, double_byte}
use Rattle.field.proofs.mul.Goals as goal

pub loop-init : goal.loop-init
loop-init c = (search rules, mul_bytes c.args.a c.args.b (search rules) (search rules))

pub loop-preserved : goal.loop-preserved
loop-preserved c = let l = c.loop in (
  double_byte l.x _ c.double-x.ensures,
  bit_turn l.counter l.sum l.x l.y _ _ c.loop-test.true l.invariant.0 c.select-sum.ensures c.double-x.ensures ∙ l.invariant.1,
)

pub returns : goal.returns
returns c = let l = c.loop in mul_done (8 - l.counter) l.sum l.x l.y _ (omega (arith, c.loop-test.false)) l.invariant.1
