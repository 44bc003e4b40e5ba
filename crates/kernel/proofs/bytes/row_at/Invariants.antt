use Rattle.std.proofs.Common.{◌≡◌}
use Rattle.kernel.specs.Kernel.{row_at}
use Rattle.kernel.proofs.bytes.row_at.Given as goal

abbrev pub invariant-loop-r : goal.invariant-loop-r
invariant-loop-r l = let s = l.shards in l.sum ≡ row_at l.r s.len s.stripe.now s.row.now 0 l.p
