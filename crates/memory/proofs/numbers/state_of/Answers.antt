-- What the calls give, among the numbers.
use Rattle.memory.specs.Numbers.{state_of}
use Rattle.memory.proofs.numbers.state_of.Goals as goal

pub returns : goal.returns
unfolding state_of
returns c = simp (c.kind_of.ensures, c.marks_of.ensures, c.label_of-2.ensures, c.label_of.ensures)
