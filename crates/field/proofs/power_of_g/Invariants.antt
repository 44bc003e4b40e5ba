use Rattle.std.proofs.Common.{◌≡◌}
use Rattle.field.specs.Field.{power_of}
use Rattle.field.proofs.power_of_g.Given as goal

abbrev pub invariant-loop : goal.invariant-loop
invariant-loop l = l.x ≡ power_of l.counter
