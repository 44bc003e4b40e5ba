use mathlib.Core.Path.{◌≡◌}
use mathlib.Core.Logic.{◌≢◌}
use borrow.Author.Rules.{rules}
use borrow.Author.Tests.{tests}
use Rattle.std.proofs.lemmas.Iterator.{first_from_Range}
use Rattle.codeword.specs.Table.{entry}
use Rattle.solve.specs.SolveTurns.{pivot_is}
use Rattle.solve.proofs.pivot.Goals as goal

pub returns : goal.returns
returns c = let a = c.args in
    pivot_is a.n a.m a.c a.a a.e.now c.find.result c.requires.c_le_m.0
    (first_from_Range _ _ _ c.find.result (λ j. entry a.n a.e.now j a.a ≢ 0) (λ j. entry a.n a.e.now j a.a ≡ 0) c.find.ensures.ran
    (λ x q k. search (rules, tests)) (λ x q k. search (rules, tests)))
