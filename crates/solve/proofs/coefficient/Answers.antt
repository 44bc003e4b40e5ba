use Rattle.codeword.specs.Stripe.{coef}
use Rattle.solve.proofs.coefficient.Goals as goal

pub returns : goal.returns
unfolding coef
returns c = c.power_of_g.ensures
