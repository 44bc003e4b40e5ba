-- By the mask.
use Prim.Native.Nat.{ℕ}
use mathlib.Core.Path.{ap}
use Rattle.blocks.specs.Slots.{none_missing}
use lib.Dec.{eqb}
use Rattle.blocks.proofs.slots.none_missing.Goals as goal

pub returns : goal.returns
unfolding none_missing
returns c = ap (λ (x : ℕ). eqb x 0) c.missing_slots.ensures
