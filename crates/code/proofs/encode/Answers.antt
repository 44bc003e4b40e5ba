use borrow.Author.Rules.{rules}
use mathlib.Core.Path.{sym, ◌∙◌, ◌≡◌}
use mathlib.Core.Bool.{true}
use lib.ListN.{length}
use Rattle.code.specs.Lists.{shaped_means}
use Rattle.code.specs.Answering.{encoded_done}
use Rattle.code.specs.Shape.{shaped_of}
use Rattle.code.proofs.encode.Goals as goal

pub returns : goal.returns
returns c = let a = c.args in
    let fits : shaped_of a.k a.m a.len (length a.stripe.now) ≡ true = sym c.shaped.ensures.value ∙ c.if-not-shaped.false in
    encoded_done _ _ _ _ _ fits (shaped_means a.k a.m a.len (length a.stripe.now) fits).range (λ i. search rules) c.fill_in.ensures
