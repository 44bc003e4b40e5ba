-- By whether the slot is healthy. Assumes nothing.
use borrow.Author.Rules.{rules}
use Rattle.paritylocker_c.specs.Ended.{mark_reached}
use Rattle.paritylocker_c.proofs.ended.mark_reached.Goals as goal

pub returns-then-healed : goal.returns-then-healed
unfolding mark_reached
returns-then-healed c = search rules

pub returns-else-healed : goal.returns-else-healed
unfolding mark_reached
returns-else-healed c = search rules
