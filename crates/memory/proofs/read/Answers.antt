-- The numbers, then their state.
use mathlib.Core.Path.{ap, ◌∙◌}
use Rattle.memory.specs.Numbers.{state_of}
use Rattle.memory.specs.Bytes.{state_at}
use Rattle.memory.proofs.read.Goals as goal

pub returns : goal.returns
unfolding state_at
returns c = c.state_of.ensures ∙ ap state_of c.numbers_at.ensures
