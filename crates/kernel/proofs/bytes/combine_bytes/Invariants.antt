use Rattle.std.proofs.Common.{◌*◌, List, ℕ}
use Rattle.kernel.specs.Kernel.{Cleared, Combined}
use Rattle.kernel.proofs.bytes.combine_bytes.Given as goal

abbrev pub invariant-loop-r : goal.invariant-loop-r
invariant-loop-r l = (b : List ℕ) → Cleared (l.a * l.len) l.len b l.initial.buf → Combined l.r l.len l.a l.row 0 b l.buf
