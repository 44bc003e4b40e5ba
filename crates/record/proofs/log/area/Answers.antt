-- The area ends within the image.
use mathlib.Core.Path.{sym, ◌∙◌}
use native.Mathlib.Omega.{arith}
use Rattle.record.proofs.Places.{area_fits}
use Rattle.record.proofs.log.area.Goals as goal

pub overflow_add-result : goal.overflow_add-result
overflow_add-result c = let a = c.args in
    omega (arith, area_fits a.g a.image.now a.d (sym c.fits_image.ensures ∙ c.if-not-fits_image.false) (omega arith))

pub overflow_mul-result : goal.overflow_mul-result
overflow_mul-result c = let a = c.args in
    omega (arith, area_fits a.g a.image.now a.d (sym c.fits_image.ensures ∙ c.if-not-fits_image.false) (omega arith))
