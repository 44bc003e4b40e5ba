use Rattle.std.proofs.Common.{◌+◌, length}
use Rattle.codeword.specs.Stripe.{byte_at}
use Rattle.kernel.specs.Steps.{Are, made_by}
use Rattle.kernel.proofs.blocks.block.Given as goal

abbrev pub invariant-loop-s : goal.invariant-loop-s
invariant-loop-s l = let s = l.shards in
    Are l.y (λ j. made_by (length s.row.now) l.steps.list (byte_at s.len s.stripe.now (l.p + j)) l.s-index)
