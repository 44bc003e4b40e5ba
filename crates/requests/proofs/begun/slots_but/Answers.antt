use Rattle.std.proofs.Common.{rules, ◌∙◌, not, arith}
use Rattle.disk.proofs.Masks.{mask_from_filter}
use Rattle.disk.specs.Mask.{in_mask}
use Rattle.requests.proofs.Answers.{slots_mask}
use Rattle.requests.proofs.begun.slots_but.Goals as goal

pub returns : goal.returns
returns c =
    let a = c.args in
    mask_from_filter (λ d. not (in_mask a.absent d)) _ (omega (arith, c.requires)) c.fold.ensures.ran c.filter.ensures.source c.filter.ensures.closure
    (λ d b q k. search rules) (λ m d w q k. search rules)
    ∙ slots_mask a.absent a.n
