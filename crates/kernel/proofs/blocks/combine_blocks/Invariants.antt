use Rattle.std.proofs.Common.{ℕ, ◌*◌, ◌<◌, min, length, get_or}
use Rattle.field.specs.Field.{mul_of}
use Rattle.codeword.specs.Sum.{total}
use Rattle.codeword.specs.Stripe.{byte_at}
use Rattle.kernel.specs.Kernel.{weight}
use Rattle.kernel.specs.Steps.{columns}
use Rattle.kernel.specs.StepsTurns.{Filled}
use Rattle.kernel.proofs.blocks.combine_blocks.Given as goal

abbrev pub invariant-loop-i : goal.invariant-loop-i
invariant-loop-i l = ((i : ℕ) → get_or l.buf i 0 < 256)
    × Filled (l.a * l.len) (min (l.i * columns) l.len) l.len
    (λ q. total (length l.row) (λ r. mul_of (weight l.row 0 l.a r) (byte_at l.len l.initial.buf q r))) l.initial.buf l.buf
