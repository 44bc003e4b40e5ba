use borrow.Author.Rules.{rules}
use Rattle.field.proofs.Turns.{double_is}
use Rattle.field.proofs.double.Goals as goal

pub returns : goal.returns
returns c = double_is c.args.a (search rules)
