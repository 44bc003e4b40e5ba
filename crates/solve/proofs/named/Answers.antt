use borrow.Author.Rules.{rules}
use borrow.Author.Tests.{tests}
use mathlib.Core.Path.{◌∙◌}
use lib.Dec.{eqb}
use lib.ListN.{drop}
use Rattle.std.proofs.lemmas.Iterator.{YieldsList-from_slice}
use Rattle.std.proofs.lemmas.Iterator.Search.{any_from_yields_List}
use Rattle.std.proofs.lemmas.Iterator.Adapters.{YieldsList-from_skip}
use Rattle.solve.specs.Lists.{has_any}
use Rattle.solve.proofs.named.Goals as goal

pub returns : goal.returns
returns c = let a = c.args in
    any_from_yields_List (λ x. eqb x a.a) _ _ _ c.any.ensures.ran
    (YieldsList-from_skip a.from (YieldsList-from_slice a.list.now cc) cc) (λ x b q k. search (rules, tests))
    ∙ has_any (drop a.from a.list.now) a.a
