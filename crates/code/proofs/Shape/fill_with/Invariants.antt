use Rattle.code.specs.Filling.{FilledTo}
use Rattle.code.proofs.Shape.fill_with.Given as goal

abbrev pub invariant-loop-c : goal.invariant-loop-c
invariant-loop-c l = FilledTo l.self.k l.self.m l.self.len l.c l.lost l.table l.initial.stripe l.stripe
