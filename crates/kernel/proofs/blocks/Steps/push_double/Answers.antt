use Rattle.std.proofs.Common.{rules, arith}
use Rattle.kernel.specs.StepsTurns.{double_stays, double_one}
use Rattle.kernel.proofs.blocks.Steps.push_double.Goals as goal

pub returns-then-self-ne0 : goal.returns-then-self-ne0
returns-then-self-ne0 c = let s = c.args.self.now in
    λ n h. double_one n s.len _ s.list (search rules) (omega arith)

pub returns-else-self-ne0 : goal.returns-else-self-ne0
returns-else-self-ne0 c = let s = c.args.self.now in λ n h. double_stays n s.len s.list c.if-self-ne0.false
