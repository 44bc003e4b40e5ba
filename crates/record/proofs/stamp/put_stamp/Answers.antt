-- One number behind the other.
use mathlib.Core.Path.{ap, ◌∙◌}
use mathlib.Core.List.{List}
use Prim.Native.Nat.{ℕ}
use Rattle.record.specs.Stamp.{with_stamp}
use Rattle.disk.specs.Number.{with_number}
use Rattle.record.proofs.stamp.put_stamp.Goals as goal

pub returns : goal.returns
unfolding with_stamp
returns c = let a = c.args in
    c.put_u64-2.ensures ∙ ap (λ (x : List ℕ). with_number 8 x 8 a.stamp.count) c.put_u64.ensures
