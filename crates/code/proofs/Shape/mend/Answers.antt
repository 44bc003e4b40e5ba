use borrow.Author.Rules.{rules}
use Rattle.code.specs.Filling.{filled_mends}
use Rattle.code.proofs.Shape.mend.Goals as goal

pub returns : goal.returns
returns c = let a = c.args in
    let s = a.self in
    filled_mends s.k s.m s.len a.r a.stripe.now _ s.in_range.m_least_lem (λ i. search rules) (λ i. search rules) c.requires.accused c.fill_in.ensures
