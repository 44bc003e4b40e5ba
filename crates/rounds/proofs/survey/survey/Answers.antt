use mathlib.Core.Path.{sym, ◌∙◌}
use native.Mathlib.Omega.{arith}
use Rattle.disk.specs.Image.{fits_image_lem}
use Rattle.rounds.proofs.survey.survey.Goals as goal

pub invariant_of-slots : goal.invariant_of-slots
invariant_of-slots c = record { few = omega (arith, (fits_image_lem c.args.g c.args.image.now (sym c.fits_image.ensures ∙ c.if-not-fits_image.false)).0.few) }
