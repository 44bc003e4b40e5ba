-- Field by field.
use Prim.Native.Nat.{ℕ}
use mathlib.Core.Path.{ap, ◌∙◌}
use native.Mathlib.Omega.{arith}
use Rattle.blocks.specs.Write.{write_marks, stamped_with}
use Rattle.requests.proofs.Answers.{few_slots}
use Rattle.blocks.specs.Slots.{there, changed_slots}
use Rattle.disk.specs.declared.geometry.Geometry.{Geometry}
use Rattle.label.proofs.Fits.{fits_says}
use Rattle.blocks.specs.Answers.{range_of}
use Rattle.disk.specs.Geometry.{in_range}
use Rattle.blocks.proofs.write.begin_change.Goals as goal

pub slots_there-requires : goal.slots_there-requires
slots_there-requires c = ap in_range (c.geometry-g.ensures (omega (arith, few_slots _ c.requires.0))) ∙ range_of c.args.s.now c.requires.0

pub changed_slots-redo-requires : goal.changed_slots-redo-requires
changed_slots-redo-requires c = let e = ap (λ (x : Geometry). x.n) (c.geometry-g.ensures (omega (arith, few_slots _ c.requires.0))) in omega (arith, e, (fits_says c.args.s.now c.requires.0).range.few)

pub returns : goal.returns
returns c = let a = c.args in
    let g = (c.geometry-g.ensures (omega (arith, few_slots _ c.requires.0))) in
    c.stamped.ensures
    ∙ ap (stamped_with a.s)
    (c.write_marks.ensures
    ∙ ap (λ (x : ℕ). write_marks a.parts x a.t)
    (c.changed_slots-redo.ensures
    ∙ ap (λ (y : ℕ). changed_slots c.geometry-g.result.n a.t y a.parts) c.slots_there.ensures
    ∙ ap (λ (x : Geometry). changed_slots x.n a.t (there x a.s.now a.s.absent a.t) a.parts) g))
