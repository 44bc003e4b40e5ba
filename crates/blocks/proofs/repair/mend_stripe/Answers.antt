-- There is room.
use Prim.Native.Nat.{◌+◌, ◌*◌}
use mathlib.Core.Path.{refl, sym}
use native.Mathlib.Omega.{arith}
use Rattle.disk.specs.Limits.{sector_bytes}
use Rattle.label.proofs.Fits.{fits_says}
use Rattle.blocks.specs.Answers.{half_small}
use Rattle.blocks.specs.Scrub.{room_holds}
use Rattle.blocks.specs.Repair.{stripe_bytes}
use Rattle.blocks.proofs.repair.mend_stripe.Goals as goal

pub overflow_add-half : goal.overflow_add-half
overflow_add-half c = let f = fits_says _ c.requires.lies.fits in omega (arith, f.few_data, f.few_parity)

pub overflow_mul-half : goal.overflow_mul-half
overflow_mul-half c = let f = fits_says _ c.requires.lies.fits in omega (arith, f.range.short)

pub overflow_mul-half-2 : goal.overflow_mul-half-2
overflow_mul-half-2 c = omega (arith, half_small c.args.s.now _ c.requires.lies.fits refl)

pub slice_bounds-room-end : goal.slice_bounds-room-end
slice_bounds-room-end c = omega (arith, half_small c.args.s.now _ c.requires.lies.fits refl)

pub slice_bounds-mend_into-end : goal.slice_bounds-mend_into-end
slice_bounds-mend_into-end c = sym (room_holds ((c.args.s.now.k + c.args.s.now.m) * (c.args.s.now.c * sector_bytes)) (half_small c.args.s.now _ c.requires.lies.fits refl))

pub mend_into-requires : goal.mend_into-requires
unfolding stripe_bytes
mend_into-requires c = (c.requires, room_holds ((c.args.s.now.k + c.args.s.now.m) * (c.args.s.now.c * sector_bytes)) (half_small c.args.s.now _ c.requires.lies.fits refl))

pub returns : goal.returns
returns c = c.mend_into.ensures
