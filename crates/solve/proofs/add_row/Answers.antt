use Prim.Native.Nat.{◌+◌, ◌*◌}
use mathlib.Core.Path.{ap}
use lib.ListN.{get_or}
use lib.Bits.{bit_xor}
use Rattle.solve.specs.SolveTurns.{adding_none, adding_turn, adding_done}
use Rattle.solve.proofs.add_row.Goals as goal

pub returns-then-c-eq0 : goal.returns-then-c-eq0
returns-then-c-eq0 c = adding_none _ _ _ _ _ c.if-c-eq0.true

pub loop-i-preserved : goal.loop-i-preserved
loop-i-preserved c = let l = c.loop-i in
    let a = c.args in
    adding_turn a.n a.dst a.src a.c _ l.i _ l.e l.invariant
    c.loop-i-test.true c.requires.n_in_bounds
    (ap (bit_xor (get_or l.e (a.dst * a.n + l.i) 0)) c.mul.ensures)

pub returns : goal.returns
returns c = let l = c.loop-i in let a = c.args in
    adding_done a.n a.dst a.src a.c _ l.i l.e l.invariant c.loop-i-test.false
