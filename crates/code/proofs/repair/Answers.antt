use mathlib.Core.Path.{subst}
use Rattle.std.specs.Prelude.{Ok}
use Rattle.code.specs.declared.Verdict.{Verdict}
use Rattle.code.specs.Stripes.{Says}
use Rattle.code.specs.Lists.{shaped_means}
use Rattle.code.proofs.repair.Goals as goal

pub invariant_of-mend : goal.invariant_of-mend
invariant_of-mend c = let a = c.args in
    let shape = shaped_means a.k a.m a.len _ (subst (λ (v : Verdict). Says a.k a.m a.len a.stripe.now (Ok v)) c.in-Accused.is c.in_ok-found.ensures).0 in
    record { in_range = shape.range; len_least = shape.len_least; len_most_lem = shape.len_most_lem }

pub mend-requires-clause-stripe_len : goal.mend-requires-clause-stripe_len
mend-requires-clause-stripe_len c = let a = c.args in
    (shaped_means a.k a.m a.len _ (subst (λ (v : Verdict). Says a.k a.m a.len a.stripe.now (Ok v)) c.in-Accused.is c.in_ok-found.ensures).0).whole
