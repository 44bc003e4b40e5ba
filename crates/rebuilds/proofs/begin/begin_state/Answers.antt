use Rattle.std.proofs.Common.{ap, ap₂, ◌∙◌, Bool, cond, ℕ, arith, lt-ltb}
use Rattle.disk.specs.Limits.{mask_bits}
use Rattle.disk.specs.Mask.{with_slot}
use Rattle.disk.specs.declared.geometry.Geometry.{Geometry}
use Rattle.requests.specs.TakeOut.{next_label}
use Rattle.requests.proofs.Answers.{few_slots}
use Rattle.rebuilds.specs.Begin.{begin_marks, began_with}
use Rattle.rebuilds.proofs.begin.begin_state.Goals as goal

pub returns : goal.returns
returns c =
    let a = c.args in
    let l = a.s.now in
    let q = few_slots l c.requires.0 in
    let w = c.with_slot.ensures ∙ ap (λ (b : Bool). cond b (with_slot l.out a.d) l.out) (lt-ltb a.d mask_bits (omega (arith, q, c.requires.1))) in
    let e1 = c.next_label.ensures ∙ ap (λ (x : ℕ). next_label l x a.d 0) w in
    let e2 = c.without_slot-absent.ensures in
    let e3 = c.begin_marks.ensures ∙ ap₂ (λ (g : Geometry) (x : ℕ). begin_marks g a.image.now l x a.d) (c.geometry.ensures (omega (arith, q))) e2 in
    λ i. began_with a.s (e1 i) (e2 i) (e3 i)
