-- No preparation is refused.
use Prim.Native.Nat.{ℕ, ◌*◌, ◌/◌, ◌%◌}
use mathlib.Core.Path.{◌≡◌, refl, sym, ap, subst, ◌∙◌}
use native.Mathlib.Omega.{arith}
use lib.ListN.{length, take}
use borrow.Author.Rules.{rules}
use Rattle.blocks.specs.Write.{prepare_goes, prepared_in}
use Rattle.disk.specs.declared.geometry.Geometry.{Geometry}
use Rattle.disk.specs.Limits.{sector_bytes}
use Rattle.requests.proofs.Answers.{few_slots}
use Rattle.label.proofs.Fits.{fits_says}
use Rattle.blocks.specs.Answers.{range_of, half_at}
use lib.Seq.{length-take-le}
use Rattle.disk.specs.Geometry.{in_range}
use Rattle.strips.specs.Whole.{prepare_answer, AfterPrepare, prepare_goes_on}
use Rattle.std.specs.Prelude.{Result}
use mathlib.Core.Bool.{Bool}
use mathlib.Core.List.{List}
use Rattle.disk.specs.declared.refusal.Refusal.{Refusal}
use Rattle.blocks.proofs.write.prepare_in.Goals as goal

pub nonzero_div-t : goal.nonzero_div-t
nonzero_div-t c = omega (arith, (fits_says c.args.l c.requires.fits).split.least)

pub slots_there-there-requires : goal.slots_there-there-requires
slots_there-there-requires c = ap in_range (c.geometry-g.ensures (omega (arith, few_slots _ c.requires.fits))) ∙ range_of c.args.l c.requires.fits

pub overflow_mul-half : goal.overflow_mul-half
overflow_mul-half c = let e = ap (λ (x : Geometry). x.c) (c.geometry-g.ensures (omega (arith, few_slots _ c.requires.fits))) in omega (arith, e, (fits_says c.args.l c.requires.fits).range.short)

pub overflow_mul-half-2 : goal.overflow_mul-half-2
overflow_mul-half-2 c = omega (arith, half_at c.args.l _ c.requires.fits (c.geometry-g.ensures (omega (arith, few_slots _ c.requires.fits))) _ c.requires.whole)

pub nonzero_rem-block : goal.nonzero_rem-block
nonzero_rem-block c = omega (arith, (fits_says c.args.l c.requires.fits).split.least)

pub slice_bounds-prepare-end : goal.slice_bounds-prepare-end
slice_bounds-prepare-end c = omega (arith, half_at c.args.l _ c.requires.fits (c.geometry-g.ensures (omega (arith, few_slots _ c.requires.fits))) _ c.requires.whole)

pub slice_bounds-prepare-end-2 : goal.slice_bounds-prepare-end-2
slice_bounds-prepare-end-2 c = let g = c.geometry-g.result in sym (length-take-le (g.n * (g.c * sector_bytes)) c.args.work.now (omega (arith, half_at c.args.l _ c.requires.fits (c.geometry-g.ensures (omega (arith, few_slots _ c.requires.fits))) _ c.requires.whole)))

pub unwrap-requires : goal.unwrap-requires
unwrap-requires c = let a = c.args in
    let g = c.geometry-g.result in
    let d = c.slots_there-there.result in
    let n : length (take (g.n * (g.c * sector_bytes)) a.work.now) ≡ g.n * (g.c * sector_bytes) = length-take-le (g.n * (g.c * sector_bytes)) a.work.now (omega (arith, half_at c.args.l _ c.requires.fits (c.geometry-g.ensures (omega (arith, few_slots _ c.requires.fits))) _ c.requires.whole)) in
    prepare_goes_on _ g a.l.k a.image.now d (a.block / a.l.k) (a.block % a.l.k) a.bytes.now c.prepare.result (take (g.n * (g.c * sector_bytes)) a.work.now) c.prepare.new.stripe
    (prepare_goes a.l a.absent a.image.now a.work.now a.block a.bytes.now c.requires g d _ (c.geometry-g.ensures (omega (arith, few_slots _ c.requires.fits))) c.slots_there-there.ensures n) c.prepare.ensures

pub returns : goal.returns
returns c = let a = c.args in
    let g = c.geometry-g.result in
    let d = c.slots_there-there.result in
    let p = c.prepare in
    let w : List ℕ = take (g.n * (g.c * sector_bytes)) a.work.now in
    prepared_in a.l a.absent a.image.now a.work.now a.block a.bytes.now c.requires g d (c.geometry-g.ensures (omega (arith, few_slots _ c.requires.fits))) c.slots_there-there.ensures c.unwrap.result p.new.stripe _
    (subst (λ (r : Result Bool Refusal). AfterPrepare (prepare_answer g a.l.k (length a.image.now) (a.block / a.l.k) (a.block % a.l.k) d (length a.bytes.now) (length w)) g a.l.k a.image.now d (a.block / a.l.k) (a.block % a.l.k) a.bytes.now r w p.new.stripe) c.unwrap.ensures p.ensures).1
    (search rules) refl
