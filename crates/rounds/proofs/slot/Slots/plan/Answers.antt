-- Field by field.
use Rattle.std.proofs.Common.{rules}
use Rattle.disk.proofs.Masks.{mask_from_filter}
use Rattle.rounds.specs.Slot.{takes_part, adopts, gets_zeros, gets_label}
use Rattle.rounds.specs.Survey.{slots_that, plan_of}
use Rattle.rounds.proofs.slot.Slots.plan.Goals as goal

pub returns : goal.returns
unfolding plan_of slots_that
returns c =
    let a = c.args.self.now in
    let n = c.next.ensures in
    let p =
    mask_from_filter (takes_part a.g a.image.now a.absent a.lead) _ a.few c.fold.ensures.ran c.filter.ensures.source c.filter.ensures.closure
    (λ d b q k. search rules) (λ m d w q k. search rules) in
    let l =
    mask_from_filter (adopts a.g a.image.now a.absent a.lead) _ a.few c.fold-2.ensures.ran c.filter-2.ensures.source c.filter-2.ensures.closure
    (λ d b q k. search rules) (λ m d w q k. search rules) in
    let z =
    mask_from_filter (gets_zeros a.g a.image.now a.absent a.lead) _ a.few c.fold-3.ensures.ran c.filter-3.ensures.source c.filter-3.ensures.closure
    (λ d b q k. search rules) (λ m d w q k. search rules) in
    let k =
    mask_from_filter (gets_label a.g a.image.now a.absent a.lead) _ a.few c.fold-4.ensures.ran c.filter-4.ensures.source c.filter-4.ensures.closure
    (λ d b q k. search rules) (λ m d w q k. search rules) in
    λ i. record { lead = a.lead; next = n i; parts = p i; late = l i; zeroed = z i; kept = k i }
