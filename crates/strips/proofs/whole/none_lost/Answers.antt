-- The count of the list.
use mathlib.Core.Path.{ap, ◌∙◌}
use Prim.Native.Nat.{ℕ}
use lib.Dec.{eqb}
use lib.ListN.{length}
use Rattle.strips.specs.Whole.{none_lost}
use Rattle.strips.proofs.whole.none_lost.Goals as goal

pub returns : goal.returns
unfolding none_lost
returns c = ap (λ (i : ℕ). eqb i 0) (c.len.ensures ∙ ap length c.among.ensures)
