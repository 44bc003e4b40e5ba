use Rattle.std.proofs.Common.{rules}
use Rattle.field.specs.Turns.{changed_each}
use Rattle.field.proofs.mul_add.Goals as goal

pub returns : goal.returns
returns c = (search rules, changed_each _ _ _ _ _ (λ d s r p. search rules) c.change_each.ensures)
