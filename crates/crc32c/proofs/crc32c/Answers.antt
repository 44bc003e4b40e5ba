-- `crc32c::crc32c` meets its contract. The table passes its test; the rest is the definition. Assumes nothing.
use mathlib.Core.Path.{ap}
use Prim.Native.Nat.{ℕ}
use lib.Bits.{bit_xor}
use Rattle.crc32c.specs.Crc.{all_ones, step, steps, crc_of}
use Rattle.crc32c.proofs.Rows.{known, doubles, added, sums, powers, right, table_right}
use Rattle.crc32c.proofs.crc32c.Goals as goal

pub invariant_of-steps : goal.invariant_of-steps
unfolding step steps known doubles added sums powers right
invariant_of-steps c = record { filled = table_right _ tt }

pub returns : goal.returns
unfolding crc_of
returns c = ap (λ (x : ℕ). bit_xor x all_ones) c.register.ensures
