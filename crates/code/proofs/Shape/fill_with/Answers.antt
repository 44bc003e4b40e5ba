use native.Mathlib.Omega.{arith}
use lib.ListN.{length, get_or}
use mathlib.Core.Path.{◌∙◌}
use Rattle.code.specs.Filling.{filled_to_turn, filled_to_done}
use Rattle.code.specs.Padded.{solved_first}
use Rattle.code.proofs.Calls.{solved_padded, shards, combined}
use Rattle.code.proofs.Shape.fill_with.Goals as goal

pub loop-c-preserved : goal.loop-c-preserved
loop-c-preserved c = let a = c.args in
    let s = a.self in
    let l = c.loop-c in
    let r = c.requires in
    let w = solved_padded s.k s.m a.lost.now a.all.now a.table.now c.solve.new.e s.in_range r.lost r.all_padded r.table_len c.solve.ensures in
    filled_to_turn s.k s.m s.len l.c a.lost.now c.solve.new.e a.stripe.now l.stripe _ r.lost (solved_first s.k s.m a.lost.now r.lost c.solve.new.e w.0)
    c.loop-c-test.true l.invariant
    (combined s.k s.m s.len l.c (get_or a.lost.now l.c 0) l.stripe c.combine.new.buf c.solve.new.e
    (shards s.k s.m s.len (length l.stripe) s.in_range s.len_most_lem (l.invariant.same ∙ r.stripe_len))
    (w.1 ∙ r.table_len) (omega (arith, r.lost.few)) (r.lost.shards l.c c.loop-c-test.true) (rw c.from.ensures at c.combine.ensures))

pub returns : goal.returns
returns c = let a = c.args in
    let s = a.self in
    let l = c.loop-c in
    let r = c.requires in
    let w = solved_padded s.k s.m a.lost.now a.all.now a.table.now c.solve.new.e s.in_range r.lost r.all_padded r.table_len c.solve.ensures in
    filled_to_done s.k s.m s.len l.c a.lost.now c.solve.new.e a.stripe.now l.stripe w.0 c.loop-c-test.false l.invariant
