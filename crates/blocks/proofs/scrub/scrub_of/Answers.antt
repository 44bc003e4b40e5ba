-- Nothing is refused.
use Prim.Native.Nat.{◌*◌}
use mathlib.Core.Path.{sym, ap, ◌∙◌}
use native.Mathlib.Omega.{arith}
use lib.Seq.{length-take-le}
use Rattle.disk.specs.Limits.{sector_bytes}
use Rattle.disk.specs.Geometry.{in_range}
use Rattle.requests.proofs.Answers.{few_slots}
use Rattle.blocks.specs.Answers.{range_of, range_at, half_small, half_at}
use Rattle.blocks.specs.Scrub.{room_holds, scrub_with}
use Rattle.blocks.proofs.scrub.scrub_of.Goals as goal

pub slots_there-there-requires : goal.slots_there-there-requires
slots_there-there-requires c = ap in_range (c.geometry-g.ensures (omega (arith, few_slots _ c.requires.lies.fits))) ∙ range_of c.args.l c.requires.lies.fits

pub overflow_mul-half : goal.overflow_mul-half
overflow_mul-half c = omega (arith, (range_at c.args.l _ c.requires.lies.fits (c.geometry-g.ensures (omega (arith, few_slots _ c.requires.lies.fits)))).short)

pub overflow_mul-half-2 : goal.overflow_mul-half-2
overflow_mul-half-2 c = omega (arith, half_small c.args.l _ c.requires.lies.fits (c.geometry-g.ensures (omega (arith, few_slots _ c.requires.lies.fits))))

pub slice_bounds-from-end : goal.slice_bounds-from-end
slice_bounds-from-end c = let g = c.geometry-g.result in
    sym (length-take-le (g.n * (g.c * sector_bytes)) c.args.work.now (half_at c.args.l g c.requires.lies.fits (c.geometry-g.ensures (omega (arith, few_slots _ c.requires.lies.fits))) _ c.requires.whole))

pub slice_bounds-room-end : goal.slice_bounds-room-end
slice_bounds-room-end c = omega (arith, half_small c.args.l _ c.requires.lies.fits (c.geometry-g.ensures (omega (arith, few_slots _ c.requires.lies.fits))))

pub slice_bounds-scrub-end : goal.slice_bounds-scrub-end
slice_bounds-scrub-end c = let g = c.geometry-g.result in
    sym (room_holds (g.n * (g.c * sector_bytes)) (half_small c.args.l g c.requires.lies.fits (c.geometry-g.ensures (omega (arith, few_slots _ c.requires.lies.fits)))))

pub returns : goal.returns
returns c = let a = c.args in
    let g = c.geometry-g.result in
    let ge = (c.geometry-g.ensures (omega (arith, few_slots _ c.requires.lies.fits))) in
    let d = c.slots_there-there in
    scrub_with a.l a.absent a.over a.image.now a.work.now a.t c.requires g d.result ge d.ensures _ _
    (length-take-le (g.n * (g.c * sector_bytes)) a.work.now (half_at a.l g c.requires.lies.fits ge _ c.requires.whole))
    (room_holds (g.n * (g.c * sector_bytes)) (half_small a.l g c.requires.lies.fits ge)) _ c.scrub.result c.scrub.ensures
