-- The tests are handed on.
use mathlib.Core.Path.{ap, ◌∙◌}
use native.Mathlib.Omega.{arith}
use Rattle.requests.proofs.Answers.{few_slots}
use Rattle.blocks.specs.Answers.{answered, sizes, block_answer, ranged}
use lib.Dec.{ltb}
use Rattle.disk.specs.Geometry.{in_range_with, blocks_of}
use Rattle.disk.specs.declared.geometry.Geometry.{Geometry}
use Rattle.label.proofs.Fits.{fits_says}
use Rattle.blocks.proofs.answers.block_answer.Goals as goal

pub has_block-inside-requires : goal.has_block-inside-requires
has_block-inside-requires c = ap (λ (g : Geometry). in_range_with g c.args.l.k) (c.geometry-g.ensures (omega (arith, few_slots _ c.requires))) ∙ ranged c.args.l c.requires

pub block_sized-sized-requires : goal.block_sized-sized-requires
block_sized-sized-requires c = let e = ap (λ (g : Geometry). g.c) (c.geometry-g.ensures (omega (arith, few_slots _ c.requires))) in omega (arith, e, (fits_says c.args.l c.requires).range.short)

pub returns : goal.returns
unfolding block_answer
returns c = let g = (c.geometry-g.ensures (omega (arith, few_slots _ c.requires))) in
    let a = c.args in
    let inside = c.has_block-inside.ensures ∙ ap (λ (x : Geometry). ltb a.block (blocks_of x a.l.k)) g in
    let sized = c.block_sized-sized.ensures ∙ ap (λ (x : Geometry). sizes x.n x.c a.bytes a.room) g in
    c.by_tests.ensures ∙ (λ i. answered (c.too_few-few.ensures i) (inside i) a.idle a.sense (sized i))
