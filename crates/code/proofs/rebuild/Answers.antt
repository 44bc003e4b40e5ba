use borrow.Author.Rules.{rules}
use mathlib.Core.Path.{sym, ◌∙◌}
use Rattle.solve.specs.Lists.{shards_lost}
use Rattle.code.specs.Answering.{rebuilt_done}
use Rattle.code.proofs.rebuild.Goals as goal

pub fill_in-requires-clause-lost : goal.fill_in-requires-clause-lost
fill_in-requires-clause-lost c = let a = c.args in
    shards_lost a.k a.m a.missing.now c.if-m-missing.false (sym c.shards.ensures ∙ c.if-not-shards.false)

pub returns : goal.returns
returns c =
    rebuilt_done _ _ _ _ _ _ (sym c.shaped.ensures.value ∙ c.if-not-shaped.false) c.if-m-missing.false
    (sym c.shards.ensures ∙ c.if-not-shards.false) (λ i. search rules) (λ i. search rules) c.fill_in.ensures
