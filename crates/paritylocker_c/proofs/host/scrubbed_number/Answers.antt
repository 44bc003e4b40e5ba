-- By what was found. Assumes nothing.
use mathlib.Core.Path.{sym, ap, subst, ◌∙◌}
use Rattle.paritylocker_c.specs.Blocks.{SmallFound, number_of_scrubbed}
use Rattle.paritylocker_c.proofs.host.scrubbed_number.Goals as goal

pub verdict-requires : goal.verdict-requires
verdict-requires c = subst SmallFound c.in-Ok.is c.requires

pub returns-in-Ok : goal.returns-in-Ok
returns-in-Ok c = c.verdict.ensures ∙ ap number_of_scrubbed (sym c.in-Ok.is)

pub returns-in-Err : goal.returns-in-Err
returns-in-Err c = c.number.ensures ∙ ap number_of_scrubbed (sym c.in-Err.is)
