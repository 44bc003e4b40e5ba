-- `requests::step::step` meets its contract: by the state, then by the work area. Assumes nothing.
use mathlib.Core.Path.{◌≡◌, sym, ap, ◌∙◌}
use Rattle.shelf.specs.Act.{Move}
use Rattle.shelf.specs.Step.{step_move}
use Rattle.requests.specs.Step.{step_with, sound_fits, step_short, step_goes, step_unsound}
use Rattle.requests.proofs.step.step.Goals.{else-in_range-via-then-in_range+else-other_work, else-in_range-via-else-in_range}
use Rattle.requests.proofs.step.step.Goals as goal

pub other_work-requires : goal.other_work-requires
other_work-requires c = sound_fits c.args.s (sym c.in_range.ensures ∙ c.if-in_range.true)

pub returns-then-other_work : goal.returns-then-other_work
returns-then-other_work c = let a = c.args in
    let q = sym (step_short a.s a.image.now a.work.now (sym c.in_range.ensures ∙ c.if-in_range.true) (sym c.other_work.ensures ∙ c.if-other_work.true)) in
    (ap (λ (m : Move). m.stepped) q, ap (λ (m : Move). m.image) q)

pub returns : goal.returns
returns c = let a = c.args in
    let q : step_with a.s a.image.now a.work.now ≡ step_move a.s a.work.now a.image.now =
    elim c.else-in_range.branch [
      | else-in_range-via-then-in_range+else-other_work w ↦
          step_goes a.s a.image.now a.work.now (sym c.in_range.ensures ∙ w.if-in_range.true) (sym w.other_work.ensures ∙ w.if-other_work.false)
      | else-in_range-via-else-in_range w ↦ step_unsound a.s a.image.now a.work.now (sym c.in_range.ensures ∙ w.if-in_range.false)
    ]
    in
    (c.step.ensures.0 ∙ sym (ap (λ (m : Move). m.stepped) q), c.step.ensures.1 ∙ sym (ap (λ (m : Move). m.image) q))
