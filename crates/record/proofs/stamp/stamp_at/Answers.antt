-- One number behind the other.
use mathlib.Core.Path.{ap₂}
use Prim.Native.Nat.{ℕ}
use Rattle.record.specs.Stamp.{stamp_at}
use Rattle.record.specs.declared.stamp.Stamp.{Stamp}
use Rattle.record.proofs.stamp.stamp_at.Goals as goal

pub returns : goal.returns
unfolding stamp_at
returns c = ap₂ {C = Stamp} (λ (e n : ℕ). record { epoch = e; count = n }) c.u64_at.ensures c.u64_at-2.ensures
