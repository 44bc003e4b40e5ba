-- By the shelf, then by the image.
use mathlib.Core.Path.{sym, ap, ◌∙◌}
use native.Mathlib.Omega.{arith}
use Rattle.requests.proofs.Answers.{few_slots}
use Rattle.blocks.specs.Answers.{look_answer}
use Rattle.requests.specs.Accepted.{has_fits}
use Rattle.disk.specs.Image.{fits_image}
use Rattle.disk.specs.declared.geometry.Geometry.{Geometry}
use Rattle.blocks.proofs.answers.look_answer.Goals as goal

pub returns-then-not-has_shelf : goal.returns-then-not-has_shelf
unfolding look_answer
returns-then-not-has_shelf c = simp (sym c.has_shelf.ensures ∙ c.if-not-has_shelf.true)

pub returns-then-not-fits_image : goal.returns-then-not-fits_image
unfolding look_answer
returns-then-not-fits_image c = let a = c.args in
    simp (sym c.has_shelf.ensures ∙ c.if-not-has_shelf.false, ap (λ (g : Geometry). fits_image g a.len) (sym (c.geometry-g.ensures (omega (arith, few_slots _ (has_fits c.args.l c.args.kind (sym c.has_shelf.ensures ∙ c.if-not-has_shelf.false)))))) ∙ sym c.fits_image.ensures ∙ c.if-not-fits_image.true)

pub returns : goal.returns
unfolding look_answer
returns c = let a = c.args in
    simp (sym c.has_shelf.ensures ∙ c.if-not-has_shelf.false, ap (λ (g : Geometry). fits_image g a.len) (sym (c.geometry-g.ensures (omega (arith, few_slots _ (has_fits c.args.l c.args.kind (sym c.has_shelf.ensures ∙ c.if-not-has_shelf.false)))))) ∙ sym c.fits_image.ensures ∙ c.if-not-fits_image.false)
