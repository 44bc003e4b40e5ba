use mathlib.Core.Path.{ap, ap₂, ◌∙◌}
use lib.ListN.{length}
use Rattle.paritylocker_c.specs.Labels.{number_of_outcome}
use Rattle.label.specs.Bytes.{encode_answer, after_encode}
use Rattle.label.specs.declared.fields.Label.{Label}
use Rattle.disk.specs.Refusal.{Outcome}
use Rattle.paritylocker_c.proofs.labels.pl_label_encode.Goals as goal

pub returns : goal.returns
returns c = let b = c.args.sector.now in
    let e = c.label_of-l.ensures in
    let w = c.encode.ensures in
    let r = w.0 ∙ ap (λ (l : Label). encode_answer l (length b)) e in
    (c.outcome.ensures ∙ ap number_of_outcome r, w.1 ∙ ap₂ (λ (o : Outcome) (l : Label). after_encode o l b) r e)
