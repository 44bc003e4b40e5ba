use mathlib.Core.Path.{sym, ◌∙◌}
use Rattle.code.specs.Filling.{says}
use Rattle.code.proofs.scrub.Goals as goal

pub returns : goal.returns
returns c = let a = c.args in
    says a.k a.m a.len a.stripe.now c.scrub_with.result (sym c.shaped.ensures.value ∙ c.if-not-shaped.false) c.scrub_with.ensures
