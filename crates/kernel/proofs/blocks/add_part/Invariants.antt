use Rattle.std.proofs.Common.{◌≡◌}
use Rattle.std.specs.Int.Bits.{bit_xor}
use Rattle.field.specs.Turns.{Begun}
use Rattle.kernel.proofs.blocks.add_part.Given as goal

abbrev pub invariant-loop-j : goal.invariant-loop-j
invariant-loop-j l = Begun (λ d e r. r ≡ bit_xor d e) l.j l.initial.y l.part l.y
