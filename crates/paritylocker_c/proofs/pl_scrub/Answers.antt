use Rattle.paritylocker_c.specs.Answers.{small}
use Rattle.paritylocker_c.proofs.pl_scrub.Goals as goal

pub said-requires : goal.said-requires
said-requires c = small _ _ _ _ c.scrub.result c.scrub.ensures

pub returns : goal.returns
returns c = record { said = c.scrub.result; number = c.said.ensures; holds = c.scrub.ensures }
