-- After all three tests the sector lies within the image.
use mathlib.Core.Path.{sym, ◌∙◌}
use native.Mathlib.Omega.{arith}
use Rattle.disk.proofs.Image.{sector_fits}
use Rattle.disk.proofs.sector.put.Goals as goal

pub put_sector-requires : goal.put_sector-requires
put_sector-requires c =
    let a = c.args in
    (sector_fits a.g a.image.now a.d a.s (sym c.fits_image.ensures ∙ c.if-not-fits_image.false) (sym c.on_shelf.ensures ∙ c.if-not-on_shelf.false), omega arith)
