use mathlib.Core.Path.{refl, sym, ap, ◌∙◌}
use mathlib.Core.List.{List}
use Prim.Native.Nat.{ℕ, ◌+◌, ◌-◌}
use native.Mathlib.Omega.{arith}
use lib.ListN.{length}
use Rattle.stages.specs.Limits.{most_stages}
use Rattle.shelf.specs.Act.{Move, act_move}
use Rattle.shelf.specs.Step.{seek, walk, kept}
use Rattle.shelf.specs.Says.{stage_known, walk_end, walk_act, walk_on, walk_out}
use Rattle.stages.specs.declared.state.State.{State}
use Rattle.shelf.proofs.Results.{told_kept}
use Rattle.shelf.proofs.step.go.Goals as goal

pub loop-init : goal.loop-init
loop-init c = record { same = refl; so_far = refl; few = omega arith; staged = omega arith; within = omega arith; low = omega arith }

pub shape_of-image-then-is_end : goal.shape_of-image-then-is_end
shape_of-image-then-is_end c = ap length c.loop.invariant.same

pub returns-then-is_end : goal.returns-then-is_end
returns-then-is_end c = let l = c.loop in
    let a = c.args in
    let m =
    walk_end a.s l.t a.g a.work.now a.image.now l.counter l.invariant.so_far (omega arith) c.stage_of-stage.result (c.stage_of-stage.ensures ∙ stage_known l.t l.invariant.low)
    (sym c.is_end.ensures ∙ c.if-is_end.true) in
    (c.finish.ensures ∙ sym (ap (λ (x : Move). kept a.s x.stepped) m), l.invariant.same ∙ sym (ap (λ (x : Move). x.image) m))

pub shape_of-image-then-d-g : goal.shape_of-image-then-d-g
shape_of-image-then-d-g c = omega (arith, ap length c.loop.invariant.same)

pub returns-then-d-g : goal.returns-then-d-g
returns-then-d-g c = let l = c.loop in
    let a = c.args in
    let x = c.stage_of-stage.result in
    let d = c.find-d.result in
    let m =
    walk_act a.s l.t a.g a.work.now a.image.now l.counter l.invariant.so_far (omega arith) x (c.stage_of-stage.ensures ∙ stage_known l.t l.invariant.low)
    (sym c.is_end.ensures ∙ c.if-is_end.false) d (c.find-d.ensures ∙ ap (λ (k : ℕ). seek k (a.g.n - l.t.cursor.slot) l.t.cursor.slot) c.slots_of.ensures) (omega arith) in
    let q = sym (m ∙ ap (λ (v : List ℕ). act_move l.t a.g x d a.work.now v) (sym l.invariant.same)) in
    (told_kept a.s l.t c.act.result ∙ ap (kept a.s) (c.act.ensures.0 ∙ ap (λ (x : Move). x.stepped) q), c.act.ensures.1 ∙ ap (λ (x : Move). x.image) q)

pub next_stage-t-requires : goal.next_stage-t-requires
next_stage-t-requires c = omega (arith, c.loop.invariant.staged)

pub loop-preserved : goal.loop-preserved
loop-preserved c = let l = c.loop in
    let a = c.args in
    let e = c.next_stage-t.ensures in
    let m =
    walk_on a.s l.t a.g a.work.now a.image.now l.counter l.invariant.so_far (omega arith) c.stage_of-stage.result (c.stage_of-stage.ensures ∙ stage_known l.t l.invariant.low)
    (sym c.is_end.ensures ∙ c.if-is_end.false) c.find-d.result
    (c.find-d.ensures ∙ ap (λ (k : ℕ). seek k (a.g.n - l.t.cursor.slot) l.t.cursor.slot) c.slots_of.ensures) (omega arith) in
    record {
      same = l.invariant.same;
      so_far = ap (λ (x : State). walk (most_stages - (l.counter + 1)) x a.g a.work.now a.image.now) e ∙ m;
      few = omega arith;
      staged = omega (arith, l.invariant.staged, ap (λ (x : State). x.cursor.stage) e);
      within = omega (arith, ap (λ (x : State). x.cursor.sector) e);
      low = omega (arith, l.invariant.low, ap (λ (x : State). x.now.generation) e);
    }

pub shape_of-image : goal.shape_of-image
shape_of-image c = ap length c.loop.invariant.same

pub returns : goal.returns
returns c = let l = c.loop in
    let a = c.args in
    let m = walk_out a.s l.t a.g a.work.now a.image.now l.counter l.invariant.so_far (omega arith) in
    (c.finish-2.ensures ∙ sym (ap (λ (x : Move). kept a.s x.stepped) m), l.invariant.same ∙ sym (ap (λ (x : Move). x.image) m))
