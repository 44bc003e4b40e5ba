use mathlib.Core.List.{[]}
use mathlib.Core.Path.{subst}
use native.Mathlib.Omega.{arith}
use Prim.Native.Nat.{◌+◌}
use Rattle.solve.specs.Lists.{lost_none}
use Rattle.code.specs.Blame.{RowsZero}
use Rattle.code.specs.Filling.{sound_yes, sound_no, judged}
use Rattle.code.proofs.Calls.{solved}
use Rattle.code.proofs.Shape.scrub_with.Goals as goal

pub returns-then-rows_zero : goal.returns-then-rows_zero
returns-then-rows_zero c = let a = c.args in
    let s = a.self in
    let w = solved s.k s.m [] a.table.now c.solve.new.e s.in_range (lost_none s.k s.m) c.requires.table_len c.solve.ensures in
    sound_yes s.k s.m s.len c.solve.new.e a.stripe.now w.0.same (λ i. omega (arith, c.type_inv.stripe i))
    (subst (RowsZero 0 s.m (s.k + s.m) s.len c.solve.new.e a.stripe.now) c.if-rows_zero.true c.rows_zero.ensures)

pub returns-then-self-lt2 : goal.returns-then-self-lt2
returns-then-self-lt2 c = let a = c.args in
    let s = a.self in
    let w = solved s.k s.m [] a.table.now c.solve.new.e s.in_range (lost_none s.k s.m) c.requires.table_len c.solve.ensures in (
      sound_no s.k s.m s.len c.solve.new.e a.stripe.now w.0.same (λ i. omega (arith, c.type_inv.stripe i))
          (subst (RowsZero 0 s.m (s.k + s.m) s.len c.solve.new.e a.stripe.now) c.if-rows_zero.false c.rows_zero.ensures),
      λ h. absurd (omega arith),
    )

pub returns : goal.returns
returns c = let a = c.args in
    let s = a.self in
    let w = solved s.k s.m [] a.table.now c.solve.new.e s.in_range (lost_none s.k s.m) c.requires.table_len c.solve.ensures in
    judged s.k s.m s.len a.stripe.now c.accused.result
    (sound_no s.k s.m s.len c.solve.new.e a.stripe.now w.0.same (λ i. omega (arith, c.type_inv.stripe i))
    (subst (RowsZero 0 s.m (s.k + s.m) s.len c.solve.new.e a.stripe.now) c.if-rows_zero.false c.rows_zero.ensures))
    (omega arith) c.accused.ensures
