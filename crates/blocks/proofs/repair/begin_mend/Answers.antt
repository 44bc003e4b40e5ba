-- By the two masks.
use Rattle.std.proofs.Common.{ap, ap₂, ◌∙◌, ◌+◌, ◌≤◌, ◌%◌, ℕ, Bool, cond, arith, lt-ltb}
use native.Mathlib.Nat.{mod-lt}
use Rattle.disk.specs.Geometry.{slot_of}
use Rattle.disk.specs.Limits.{mask_bits}
use Rattle.disk.specs.Mask.{with_slot}
use Rattle.requests.proofs.Answers.{few_slots}
use Rattle.blocks.specs.Write.{write_marks, stamped_with}
use Rattle.blocks.proofs.repair.begin_mend.Goals as goal

pub overflow_add-n : goal.overflow_add-n
overflow_add-n c = omega (arith, few_slots _ c.requires.0)

pub overflow_add-r : goal.overflow_add-r
overflow_add-r c = omega (arith, c.requires.1, c.requires.2, few_slots _ c.requires.0)

pub nonzero_rem-r : goal.nonzero_rem-r
nonzero_rem-r c = omega (arith, c.requires.1)

pub returns : goal.returns
unfolding slot_of
returns c =
    let a = c.args in
    let n : ℕ = a.s.now.k + a.s.now.m in
    let few = few_slots _ c.requires.0 in
    let q : 1 ≤ n = omega (arith, c.requires.1) in
    let one : (d : ℕ) → Bool → ℕ = λ d b. cond b (with_slot 0 d) 0 in
    let p = c.with_slot-parts.ensures ∙ ap (one a.r) (lt-ltb a.r mask_bits (omega (arith, few, c.requires.1))) in
    let r = c.with_slot-redo.ensures ∙ ap (one ((a.r + a.t) % n)) (lt-ltb ((a.r + a.t) % n) mask_bits (omega (arith, few, mod-lt (a.r + a.t) q))) in
    c.stamped.ensures ∙ ap (stamped_with a.s) (c.write_marks.ensures ∙ ap₂ (λ (x y : ℕ). write_marks x y a.t) p r)
