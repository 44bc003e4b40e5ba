-- By the count of the mask.
use Prim.Native.Nat.{ℕ}
use mathlib.Core.Path.{ap, ◌∙◌}
use Rattle.blocks.specs.Slots.{too_few}
use lib.Dec.{ltb}
use lib.Count.{ones}
use Rattle.blocks.proofs.slots.too_few.Goals as goal

pub returns : goal.returns
unfolding too_few
returns c = ap (λ (x : ℕ). ltb c.args.l.m x) (c.count.ensures ∙ ap ones c.missing_slots.ensures)
