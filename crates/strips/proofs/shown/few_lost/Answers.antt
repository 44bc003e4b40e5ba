-- The count of the list.
use mathlib.Core.Path.{ap, ◌∙◌}
use Prim.Native.Nat.{ℕ, ◌-◌}
use lib.Dec.{leb}
use lib.ListN.{length}
use Rattle.strips.specs.Answers.{few_lost}
use Rattle.strips.proofs.shown.few_lost.Goals as goal

pub returns : goal.returns
unfolding few_lost
returns c = let a = c.args in ap (λ (i : ℕ). leb i (a.n - a.k)) (c.len.ensures ∙ ap length c.among.ensures)
