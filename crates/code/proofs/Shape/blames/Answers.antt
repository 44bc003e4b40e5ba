use mathlib.Core.List.{[], ◌∷◌}
use native.Mathlib.Omega.{arith}
use Rattle.solve.specs.Lists.{lost_one}
use Rattle.code.specs.Blame.{blames_is}
use Rattle.code.proofs.Calls.{solved}
use Rattle.code.proofs.Shape.blames.Goals as goal

pub returns : goal.returns
returns c = let a = c.args in let s = a.self in
    let w = solved s.k s.m (a.r ∷ []) a.table.now c.solve.new.e s.in_range (lost_one s.k s.m a.r s.in_range.m_least_lem c.requires.r_in_stripe) c.requires.table_len c.solve.ensures in (
      blames_is s.k s.m s.len a.r c.solve.new.e a.stripe.now c.rows_zero.result s.in_range.m_least_lem c.requires.r_in_stripe (λ i. omega (arith, c.type_inv.stripe i)) w.0 c.rows_zero.ensures,
      w.1,
    )
