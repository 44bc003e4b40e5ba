use borrow.Author.Rules.{rules}
use native.Mathlib.Omega.{arith}
use Rattle.disk.proofs.Masks.{mask_from_range}
use Rattle.blocks.specs.Slots.{all_slots}
use Rattle.blocks.proofs.slots.all_slots.Goals as goal

pub returns : goal.returns
unfolding all_slots
returns c = mask_from_range _ (omega (arith, c.requires)) c.fold.ensures.ran (λ m d w q k. search rules)
