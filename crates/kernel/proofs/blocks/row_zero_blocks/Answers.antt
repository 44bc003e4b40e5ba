use Rattle.std.proofs.Common.{rules, true, false, length, refl, arith}
use borrow.Author.Tests.{tests}
use Rattle.std.proofs.lemmas.Iterator.{cases_from_all, YieldsList-from_range}
use Rattle.kernel.specs.Kernel.{row_at}
use Rattle.kernel.specs.Steps.{BlockZero, start_of}
use Rattle.kernel.specs.StepsTurns.{rows_blocks}
use Rattle.kernel.proofs.blocks.row_zero_blocks.Goals as goal

pub returns : goal.returns
returns c = let s = c.args.shards.now in
    let n = length s.row.now in
    rows_blocks c.all.result n s.len s.stripe.now s.row.now 0 c.requires (cases_from_all _ _ _
    (λ i. BlockZero true (start_of i s.len) (row_at n s.len s.stripe.now s.row.now 0))
    (λ i. BlockZero false (start_of i s.len) (row_at n s.len s.stripe.now s.row.now 0))
    c.all.ensures.ran (YieldsList-from_range 0 c.div_ceil.result _ refl (omega (arith, c.div_ceil.ensures))) (λ x q k. search (rules, tests)) (λ x q k. search (rules, tests)))
