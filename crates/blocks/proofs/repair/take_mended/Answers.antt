-- By the size of the work area.
use Prim.Native.Nat.{ℕ, ◌+◌, ◌*◌}
use mathlib.Core.Path.{refl, sym, ◌≡◌, ◌∙◌}
use native.Mathlib.Omega.{arith}
use lib.ListN.{length}
use Rattle.label.proofs.Fits.{fits_says}
use Rattle.blocks.specs.Answers.{half_small, sized_half}
use lib.Seq.{length-take-le}
use Rattle.disk.specs.Limits.{sector_bytes}
use Rattle.blocks.specs.Repair.{stripe_bytes, begins_short, begins_goes}
use Rattle.blocks.proofs.repair.take_mended.Goals as goal

pub returns-then-not-is_sized : goal.returns-then-not-is_sized
returns-then-not-is_sized c = let a = c.args in begins_short a.s a.t a.r a.stripe.now a.work.now (sym c.is_sized.ensures ∙ c.if-not-is_sized.true)

pub overflow_add-half : goal.overflow_add-half
overflow_add-half c = let f = fits_says _ c.requires.0 in omega (arith, f.few_data, f.few_parity)

pub overflow_mul-half : goal.overflow_mul-half
overflow_mul-half c = let f = fits_says _ c.requires.0 in omega (arith, f.range.short)

pub overflow_mul-half-2 : goal.overflow_mul-half-2
overflow_mul-half-2 c = omega (arith, half_small c.args.s.now _ c.requires.0 refl)

pub returns : goal.returns
unfolding stripe_bytes
returns c = let a = c.args in
    begins_goes a.s a.t a.r a.stripe.now a.work.now c.begin_mend.result c.copy_from_slice.new.self
    (sym c.is_sized.ensures ∙ c.if-not-is_sized.false) c.begin_mend.ensures
    c.copy_from_slice.ensures.after

pub slice_bounds-copy_from_slice-end : goal.slice_bounds-copy_from_slice-end
slice_bounds-copy_from_slice-end c =
    sized_half c.args.s.now (length c.args.work.now) c.requires.0 (sym c.is_sized.ensures ∙ c.if-not-is_sized.false)

pub slice_bounds-copy_from_slice-end-2 : goal.slice_bounds-copy_from_slice-end-2
slice_bounds-copy_from_slice-end-2 c =
    let half : ℕ = (c.args.s.now.k + c.args.s.now.m) * (c.args.s.now.c * sector_bytes) in
    sym (length-take-le half c.args.work.now (sized_half c.args.s.now (length c.args.work.now) c.requires.0 (sym c.is_sized.ensures ∙ c.if-not-is_sized.false)))

pub copy_from_slice-requires : goal.copy_from_slice-requires
unfolding stripe_bytes
copy_from_slice-requires c =
    let half : ℕ = (c.args.s.now.k + c.args.s.now.m) * (c.args.s.now.c * sector_bytes) in
    let q : length c.args.stripe.now ≡ half = c.requires.4 in
    length-take-le half c.args.work.now (sized_half c.args.s.now (length c.args.work.now) c.requires.0 (sym c.is_sized.ensures ∙ c.if-not-is_sized.false)) ∙ sym q
