use Rattle.std.proofs.Common.{◌≤◌, ◌*◌, ◌-◌, ◌^◌, length, unwrap_or}
use Rattle.kernel.specs.StepsTurns.{Above}
use Rattle.kernel.proofs.blocks.Steps.plan.Given as goal

abbrev pub invariant-loop-bit : goal.invariant-loop-bit
invariant-loop-bit l = let n = length l.row in
    (l.self.len ≤ 65 * l.bit-index) × Above n l.row 0 (unwrap_or l.left_out n) (2 ^ (8 - l.bit-index)) l.self.list l.self.len
