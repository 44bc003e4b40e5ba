use mathlib.Core.Path.{sym, ◌∙◌}
use Rattle.solve.specs.Lists.{solvable_means}
use Rattle.solve.proofs.solve.Goals as goal

pub invariant_of-eliminate : goal.invariant_of-eliminate
invariant_of-eliminate c = record { in_range = (solvable_means _ _ _ _ (sym c.solvable.ensures ∙ c.if-solvable.true)).range }

pub eliminate-requires : goal.eliminate-requires
eliminate-requires c = let w = solvable_means _ _ _ _ (sym c.solvable.ensures ∙ c.if-solvable.true) in record { lost = w.lost; e_len = w.whole }
