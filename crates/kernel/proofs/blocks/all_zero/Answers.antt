use Rattle.std.proofs.Common.{rules}
use Rattle.std.proofs.lemmas.Fn.{fold_over, slice_gives, fronts}
use Rattle.kernel.specs.StepsTurns.{AnyBits, any_none, any_turn, zeros_of}
use Rattle.kernel.proofs.blocks.all_zero.Goals as goal

pub returns : goal.returns
returns c =
    zeros_of c.args.y c.fold.result (search rules) (rw c.iter.ensures.rest at (fold_over fronts (λ y. y.now) _ AnyBits _ (λ ys a x b f' j k. (any_turn ys a x.now b (search rules) j, search rules)) c.iter.result _ 0 c.fold.result
    (slice_gives c.iter.result) any_none c.fold.ensures.ran))
