-- Each byte is tested, in its order.
use borrow.Author.Rules.{rules}
use borrow.Author.Tests.{tests}
use mathlib.Core.Path.{◌∙◌}
use lib.Dec.{eqb}
use native.Mathlib.Omega.{arith}
use Rattle.std.proofs.lemmas.Grind.{common_steps}
use Rattle.std.proofs.lemmas.Iterator.{YieldsList-from_slice}
use Rattle.std.proofs.lemmas.Iterator.Search.{all_from_yields_List}
use Rattle.label.proofs.Zeros.{zeros_are}
use Rattle.label.proofs.codec.is_zero.Goals as goal

pub returns : goal.returns
returns c = all_from_yields_List (λ x. eqb x 0) _ _ _ c.all.ensures.ran (YieldsList-from_slice c.args.bytes.now (grind (arith, common_steps))) (λ x b q k. search (rules, tests)) ∙ zeros_are c.args.bytes.now
