use Prim.Native.Nat.{ℕ, ◌+◌}
use mathlib.Core.Path.{ap, sym, ◌∙◌}
use native.Mathlib.Omega.{arith}
use Rattle.paritylocker_c.specs.Answers.{as_number}
use Rattle.field.specs.Refusal.{number_small}
use Rattle.paritylocker_c.proofs.pl_div.Goals as goal

pub overflow_add-result : goal.overflow_add-result
overflow_add-result c = omega (arith, number_small c.in-Err.x)

pub returns-in-Ok : goal.returns-in-Ok
returns-in-Ok c = ap as_number (sym c.in-Ok.is ∙ c.div.ensures)

pub returns-in-Err : goal.returns-in-Err
returns-in-Err c = ap (λ (x : ℕ). 256 + x) c.number.ensures ∙ ap as_number (sym c.in-Err.is ∙ c.div.ensures)
