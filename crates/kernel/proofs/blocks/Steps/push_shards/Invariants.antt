use Rattle.std.proofs.Common.{length, unwrap_or}
use Rattle.std.specs.Int.Bits.{bit_xor}
use Rattle.kernel.specs.Steps.{Pushed, chosen}
use Rattle.kernel.proofs.blocks.Steps.push_shards.Given as goal

abbrev pub invariant-loop-r : goal.invariant-loop-r
invariant-loop-r l = Pushed (length l.row) l.initial.len l.len l.r l.initial.self.list l.self.list
    (λ x y. bit_xor y (chosen l.r l.row 0 (unwrap_or l.left_out (length l.row)) l.bit x))
