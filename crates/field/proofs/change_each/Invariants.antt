use Rattle.field.specs.Turns.{Begun}
use Rattle.field.proofs.change_each.Given as goal

abbrev pub invariant-loop-i : goal.invariant-loop-i
invariant-loop-i g l = Begun (λ d s r. goal.F-post g l.f d s r) l.i l.initial.dst l.src l.dst
