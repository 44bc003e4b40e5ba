use native.Mathlib.Omega.{arith}
use mathlib.Core.Path.{sym, ◌∙◌}
use Rattle.shelf.specs.Says.{strip_low}
use Rattle.shelf.proofs.Results.{mapped_ok}
use Rattle.shelf.proofs.act.Turn.store.Goals as goal

pub overflow_add-first : goal.overflow_add-first
overflow_add-first c = let a = c.args in
    let n = mapped_ok c.map_err.result c.strip.result _ c.map_err.ensures.cases _ c.in_ok-first.was in
    omega (arith, strip_low a.self.shelf a.stripe _ (sym c.strip.ensures ∙ n))
