use mathlib.Core.Path.{sym, ◌∙◌}
use Prim.Native.Nat.{◌+◌, ◌-◌}
use native.Mathlib.Omega.{arith}
use Rattle.solve.specs.Lists.{has_any}
use Rattle.code.specs.PadTurns.{padding_start, padding_put, padding_past, padding_end, padding_done}
use Rattle.code.proofs.Shape.pad.Goals as goal

pub loop-a-init : goal.loop-a-init
loop-a-init c = let s = c.args.self in
    padding_start s.k s.m c.args.lost.now c.requires.lost c.args.all.now c.copy_from_slice.new.self c.requires.room (c.copy_from_slice.ensures.after)

pub loop-a-preserved-then-not-contains : goal.loop-a-preserved-then-not-contains
loop-a-preserved-then-not-contains c = let s = c.args.self in
    let l = c.loop-a in
    padding_put s.k s.m c.args.lost.now c.requires.lost l.c l.a-counter _ l.all c.loop-a-test.true (omega arith) (omega arith) l.invariant (omega (arith, l.invariant.most))
    (sym (has_any c.args.lost.now _) ∙ sym c.contains.ensures.value ∙ c.if-not-contains.true)

pub loop-a-preserved : goal.loop-a-preserved
loop-a-preserved c = let s = c.args.self in
    let l = c.loop-a in
    padding_past s.k s.m c.args.lost.now c.requires.lost l.c l.a-counter _ l.all c.loop-a-test.true (omega arith) (omega arith) l.invariant (omega (arith, l.invariant.most))
    (sym (has_any c.args.lost.now _) ∙ sym c.contains.ensures.value ∙ c.if-not-contains.false)

pub returns-after-loop-a : goal.returns-after-loop-a
returns-after-loop-a c = let s = c.args.self in
    let l = c.loop-a in
    padding_end s.k s.m c.args.lost.now c.requires.lost l.c l.a-counter l.all (omega arith) l.invariant

pub returns-then-c-self : goal.returns-then-c-self
returns-then-c-self c = let s = c.args.self in
    let l = c.loop-a in
    padding_done s.k s.m c.args.lost.now l.c (s.k + s.m + 1 - l.a-counter) l.all l.invariant (omega arith)
