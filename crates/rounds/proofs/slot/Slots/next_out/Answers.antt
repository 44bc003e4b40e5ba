use Rattle.std.proofs.Common.{rules}
use Rattle.disk.proofs.Masks.{mask_from_filter}
use Rattle.rounds.specs.Slot.{goes_out}
use Rattle.rounds.specs.Survey.{slots_that}
use Rattle.rounds.proofs.slot.Slots.next_out.Goals as goal

pub returns : goal.returns
unfolding slots_that
returns c =
    let a = c.args.self.now in
    mask_from_filter (goes_out a.g a.image.now a.absent a.lead) _ a.few c.fold.ensures.ran c.filter.ensures.source c.filter.ensures.closure
    (λ d b q k. search rules) (λ m d w q k. search rules)
