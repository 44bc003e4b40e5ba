-- A slot from 64 on is in no mask of 64 bits.
use mathlib.Core.Path.{sym, ◌∙◌}
use native.Mathlib.Omega.{arith}
use borrow.Author.Rules.{rules}
use borrow.Author.Tests.{le-ltb}
use Rattle.disk.specs.Mask.{in_mask, in_past}
use Rattle.disk.proofs.mask.has.Goals as goal

pub returns-then-d-lt-MASK_BITS : goal.returns-then-d-lt-MASK_BITS
unfolding in_mask
returns-then-d-lt-MASK_BITS c = search rules

pub returns-else-d-lt-MASK_BITS : goal.returns-else-d-lt-MASK_BITS
returns-else-d-lt-MASK_BITS c = le-ltb _ _ c.if-d-lt-MASK_BITS.false ∙ sym (in_past 64 _ _ (omega arith) c.if-d-lt-MASK_BITS.false)
