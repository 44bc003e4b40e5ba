use mathlib.Core.Path.{refl, sym, ◌∙◌}
use Rattle.std.proofs.Common.{rules}
use Rattle.disk.proofs.Search.{all_below}
use Rattle.label.specs.Newest.{all_of, agreed}
use Rattle.label.proofs.newest.all_agree.Goals as goal

pub returns-then-fits_image : goal.returns-then-fits_image
unfolding agreed all_of
returns-then-fits_image c = rw (sym c.fits_image.ensures ∙ c.if-fits_image.true) (all_below all_of refl (λ k. refl) c.all.ensures.ran (λ d r f l h. search rules))

pub returns-else-fits_image : goal.returns-else-fits_image
unfolding agreed
returns-else-fits_image c = rw (sym c.fits_image.ensures ∙ c.if-fits_image.false, c.if-fits_image.false)
