-- The loop's invariant: see `Walking`.
use Rattle.shelf.specs.Says.{Walking}
use Rattle.shelf.proofs.step.go.Given as goal

abbrev pub invariant-loop : goal.invariant-loop
invariant-loop l = Walking l.g l.work l.initial.image l.initial.t l.image l.t l.counter
