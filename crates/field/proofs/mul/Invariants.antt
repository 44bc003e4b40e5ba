use Rattle.std.proofs.Common.{◌≡◌, ◌-◌, ◌<◌}
use Rattle.std.specs.Int.Bits.{bit_xor}
use Rattle.field.specs.Field.{mul_bits, mul_of}
use Rattle.field.proofs.mul.Given as goal

abbrev pub invariant-loop : goal.invariant-loop
invariant-loop l = (l.x < 256) × (bit_xor l.sum (mul_bits (8 - l.counter) l.x l.y) ≡ mul_of l.a l.b)
