-- `has_spare` meets its contract. By the length of the list. Assumes nothing.
use Prim.Native.Nat.{ℕ, ◌-◌}
use mathlib.Core.Path.{ap, ◌∙◌}
use lib.Dec.{ltb}
use Rattle.disk.specs.Limits.{most_n}
use Rattle.rebuilds.specs.Survivors.{spare, lost_in_lem}
use native.Mathlib.Omega.{arith}
use lib.ListN.{length}
use Rattle.rebuilds.proofs.survivors.has_spare.Goals as goal

pub returns : goal.returns
unfolding spare
returns c = let a = c.args in
    ap (λ (i : ℕ). ltb i (a.g.n - a.k)) (c.len.ensures ∙ ap length (c.of.ensures ∙ lost_in_lem a.g a.t a.there most_n c.requires.0 c.requires.1 (omega arith)))
