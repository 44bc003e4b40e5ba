use Rattle.std.proofs.Common.{◌≡◌, []}
use Rattle.field.specs.Field.{mul_of, g}
use Rattle.field.specs.Turns.{Begun}
use Rattle.kernel.proofs.blocks.double_part.Given as goal

abbrev pub invariant-loop-b : goal.invariant-loop-b
invariant-loop-b l = Begun (λ d e r. r ≡ mul_of g d) l.b-index l.initial.y [] l.y
