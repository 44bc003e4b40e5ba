use Rattle.paritylocker_c.specs.Answers.{small}
use Rattle.paritylocker_c.proofs.pl_repair.Goals as goal

pub said-requires : goal.said-requires
said-requires c = small _ _ _ _ c.repair.result c.repair.ensures.says

pub returns : goal.returns
returns c = record { said = c.repair.result; number = c.said.ensures; holds = c.repair.ensures }
