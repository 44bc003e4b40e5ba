-- A byte that is not 0 divides.
use mathlib.Core.Path.{ap, ◌∙◌}
use native.Mathlib.Omega.{arith}
use Rattle.field.specs.Field.{mul_of}
use Rattle.field.specs.Quotient.{Quotient}
use Rattle.std.specs.Result.{result_unwrap_or}
use Rattle.solve.specs.SolveTurns.{quotient_value}
use Rattle.solve.proofs.quotient.Goals as goal

pub returns : goal.returns
returns c = let a = c.args in
    ap (mul_of a.b) (c.unwrap_or.ensures ∙ ap (λ (q : Quotient). result_unwrap_or q 0) c.div.ensures) ∙ quotient_value a.a a.b c.requires (omega arith) (omega arith)
