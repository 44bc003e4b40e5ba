use mathlib.Core.Path.{ap}
use native.Mathlib.Omega.{arith}
use lib.Bits.{bit_xor}
use Rattle.codeword.specs.Table.{entry}
use Rattle.solve.specs.SolveTurns.{clearing_turn}
use Rattle.solve.proofs.clear_column.Goals as goal

pub loop-j-preserved : goal.loop-j-preserved
loop-j-preserved c = let l = c.loop-j in
    let turned = clearing_turn c.args.n c.args.c c.args.a _ l.j _ l.e _ l.invariant (omega arith) c.requires.a_value
    (ap (bit_xor (entry c.args.n l.e l.j c.args.a)) c.one_where.ensures) c.add_row.ensures in
    turned
