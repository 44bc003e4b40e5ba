use Rattle.std.proofs.Common.{arith}
use Rattle.requests.proofs.Answers.{few_slots}
use Rattle.rebuilds.proofs.on.on_marks.Goals as goal

pub overflow_add-l : goal.overflow_add-l
overflow_add-l c = omega (arith, few_slots _ c.requires.fits)

pub only-requires : goal.only-requires
only-requires c = omega (arith, few_slots _ c.requires.fits, c.requires.there)
