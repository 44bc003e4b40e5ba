-- By the count.
use mathlib.Core.Path.{refl}
use Rattle.blocks.specs.Write.{stamp_left}
use Rattle.blocks.proofs.write.stamp_left.Goals as goal

pub returns : goal.returns
unfolding stamp_left
returns c = refl
