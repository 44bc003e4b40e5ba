use borrow.Author.Rules.{rules}
use native.Mathlib.Omega.{arith}
use Rattle.disk.proofs.Masks.{mask_from_filter}
use Rattle.blocks.specs.Slots.{changed_slots}
use Rattle.blocks.proofs.slots.changed_slots.Goals as goal

pub returns : goal.returns
unfolding changed_slots
returns c =
    mask_from_filter _ _ (omega (arith, c.requires)) c.fold.ensures.ran c.filter.ensures.source c.filter.ensures.closure
    (λ d b q k. search rules) (λ m d w q k. search rules)
