use Rattle.std.proofs.Common.{◌+◌, length, ◌∙◌, get_or-take, length-take, arith}
use Rattle.std.proofs.Math.ListN.{get_or-replicate}
use Rattle.codeword.specs.Stripe.{byte_at}
use Rattle.kernel.specs.Steps.{made_by}
use Rattle.kernel.specs.StepsTurns.{block_turn}
use Rattle.kernel.proofs.blocks.block.Goals as goal

pub loop-s-init : goal.loop-s-init
unfolding made_by
loop-s-init c = λ j h. get_or-replicate 64 j 0 0 h

pub loop-s-preserved : goal.loop-s-preserved
loop-s-preserved c = let l = c.loop-s in
    let s = c.args.shards.now in
    let t = c.args.steps.now in
    block_turn (length s.row.now) l.s-index _ t.list l.y _ (λ j. byte_at s.len s.stripe.now (c.args.p + j))
    (c.from.ensures ∙ get_or-take t.len t.list l.s-index 0 (omega (arith, c.loop-s-test.true, length-take t.len t.list))) l.invariant c.take_step.ensures
