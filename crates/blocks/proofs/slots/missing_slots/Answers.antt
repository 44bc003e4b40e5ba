use borrow.Author.Rules.{rules}
use native.Mathlib.Omega.{arith}
use Rattle.disk.proofs.Masks.{mask_from_filter}
use Rattle.blocks.specs.Slots.{missing_at, missing}
use Rattle.label.proofs.Fits.{fits_says}
use Rattle.blocks.proofs.slots.missing_slots.Goals as goal

pub overflow_add-l : goal.overflow_add-l
overflow_add-l c = let f = fits_says _ c.requires in omega (arith, f.few_data, f.few_parity)

pub returns : goal.returns
unfolding missing missing_at
returns c = let f = fits_says _ c.requires in
    mask_from_filter _ _ (omega (arith, f.few_data, f.few_parity)) c.fold.ensures.ran c.filter.ensures.source c.filter.ensures.closure
    (λ d b q k. search rules) (λ m d w q k. search rules)
