use mathlib.Core.Path.{◌∙◌}
use borrow.Author.Rules.{rules}
use borrow.Author.Tests.{tests}
use Prim.Native.Nat.{ℕ, ◌/◌}
use lib.Bits.{bit_xor}
use lib.ListN.{length}
use Rattle.std.proofs.lemmas.Iterator.{YieldsList-from_slice}
use Rattle.std.proofs.lemmas.Iterator.Consumers.{fold_from_yields_List}
use Rattle.crc32c.specs.Crc.{run, steps}
use Rattle.crc32c.proofs.Slices.{register_fold}
use Rattle.crc32c.proofs.Steps.register.Goals as goal

pub returns : goal.returns
returns c = register_fold 16 (length c.args.bytes.now / 16) _ _ _ _
    (fold_from_yields_List _ run _ _ c.fold-c.ensures.ran (YieldsList-from_slice _ (c.iter.ensures.rest ∙ c.as_chunks.ensures.front)) (λ a x b q k. search (rules, tests)))
    (fold_from_yields_List _ (λ (a x : ℕ). steps 8 (bit_xor a x)) _ _ c.fold.ensures.ran (YieldsList-from_slice _ (c.iter-2.ensures.rest ∙ c.as_chunks.ensures.back)) (λ a x b q k. search (rules, tests)))
