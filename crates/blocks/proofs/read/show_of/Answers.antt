-- What is needed is there.
use Prim.Native.Nat.{◌*◌}
use mathlib.Core.Path.{ap, ◌∙◌, ◌≡◌, sym}
use native.Mathlib.Omega.{arith}
use Rattle.requests.proofs.Answers.{few_slots}
use Rattle.blocks.specs.Read.{shows_with, shown_with}
use Rattle.disk.specs.declared.geometry.Geometry.{Geometry}
use Rattle.disk.specs.Limits.{sector_bytes}
use Rattle.disk.specs.Geometry.{in_range}
use Rattle.label.proofs.Fits.{fits_says}
use Rattle.blocks.specs.Answers.{range_of, half_at}
use lib.Seq.{length-take-le}
use Rattle.blocks.proofs.read.show_of.Goals as goal

pub nonzero_div-t : goal.nonzero_div-t
nonzero_div-t c = omega (arith, (fits_says c.args.l c.requires.fits).split.least)

pub slots_there-there-requires : goal.slots_there-there-requires
slots_there-there-requires c = ap in_range (c.geometry-g.ensures (omega (arith, few_slots _ c.requires.fits))) ∙ range_of c.args.l c.requires.fits

pub overflow_mul-half : goal.overflow_mul-half
overflow_mul-half c = let e = ap (λ (x : Geometry). x.c) (c.geometry-g.ensures (omega (arith, few_slots _ c.requires.fits))) in omega (arith, e, (fits_says c.args.l c.requires.fits).range.short)

pub overflow_mul-half-2 : goal.overflow_mul-half-2
overflow_mul-half-2 c = omega (arith, half_at c.args.l _ c.requires.fits (c.geometry-g.ensures (omega (arith, few_slots _ c.requires.fits))) _ c.requires.whole)

pub slice_bounds-from-end : goal.slice_bounds-from-end
slice_bounds-from-end c = let g = c.geometry-g.result in sym (length-take-le (g.n * (g.c * sector_bytes)) c.args.work.now (omega (arith, half_at c.args.l _ c.requires.fits (c.geometry-g.ensures (omega (arith, few_slots _ c.requires.fits))) _ c.requires.whole)))

pub nonzero_rem-r : goal.nonzero_rem-r
nonzero_rem-r c = omega (arith, (fits_says c.args.l c.requires.fits).split.least)

pub invariant_of-show_block : goal.invariant_of-show_block
invariant_of-show_block c = let a = c.args in
    record { can = shows_with a.l a.absent a.over a.image.now a.work.now a.block _ _ (c.geometry-g.ensures (omega (arith, few_slots _ c.requires.fits))) c.slots_there-there.ensures a.bytes.now c.requires }

pub show_block-requires : goal.show_block-requires
show_block-requires c = let a = c.args in
    let e : c.geometry-g.result.c ≡ a.l.c = ap (λ (x : Geometry). x.c) (c.geometry-g.ensures (omega (arith, few_slots _ c.requires.fits))) in
    omega (arith, e, c.requires.sized)

pub returns : goal.returns
returns c = let a = c.args in
    c.show_block.ensures ∙ shown_with a.l a.absent a.over a.image.now a.work.now a.block _ _ (c.geometry-g.ensures (omega (arith, few_slots _ c.requires.fits))) c.slots_there-there.ensures
