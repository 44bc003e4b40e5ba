-- Both tests hold, so that the sector lies within the image.
use mathlib.Core.Path.{sym, ◌∙◌}
use Rattle.disk.proofs.Image.{sector_fits}
use Rattle.disk.proofs.sector.read.Goals as goal

pub get_sector-requires : goal.get_sector-requires
get_sector-requires c =
    let a = c.args in
    sector_fits a.g a.image.now a.d a.s (sym c.fits_image.ensures ∙ c.if-fits_image.true) (sym c.on_shelf.ensures ∙ c.if-on_shelf.true)
