-- By its answer.
use mathlib.Core.Path.{sym}
use native.Mathlib.Omega.{arith}
use Rattle.blocks.specs.Read.{read_done}
use Rattle.label.proofs.Fits.{fits_says}
use Rattle.blocks.proofs.read.read.Goals as goal

pub nonzero_div-block : goal.nonzero_div-block
nonzero_div-block c = let a = c.args in
    let h = read_done a.s.now a.s.kind a.s.absent a.block a.image.now a.work.now a.bytes.now (sym c.in_ok-read_answer.ensures) in
    omega (arith, (fits_says a.s.now h.fits).split.least)

pub show_of-requires : goal.show_of-requires
show_of-requires c = let a = c.args in read_done a.s.now a.s.kind a.s.absent a.block a.image.now a.work.now a.bytes.now (sym c.in_ok-read_answer.ensures)
