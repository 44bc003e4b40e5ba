use Rattle.std.proofs.Common.{rules, ℕ, ◌/◌, ◌%◌, length, unwrap_or, ap}
use Rattle.kernel.specs.StepsTurns.{shard_none, shard_one, shards_none, shards_turn}
use Rattle.kernel.proofs.blocks.Steps.push_shards.Goals.{then-weight_of-bit-ne0, else-weight_of-bit-ne0}
use Rattle.kernel.proofs.blocks.Steps.push_shards.Goals as goal

pub loop-r-init : goal.loop-r-init
loop-r-init c = let a = c.args in
    let n = length a.row.now in
    shards_none n a.row.now 0 (unwrap_or a.left_out n) a.bit a.self.now.len a.self.now.list

pub loop-r-preserved : goal.loop-r-preserved
loop-r-preserved c = let a = c.args in
    let l = c.loop-r in
    let n = length a.row.now in
    let e = ap (λ (v : ℕ). v / a.bit % 2) c.weight_of.ensures in
    elim c.if-weight_of-bit-ne0.branch [
      | then-weight_of-bit-ne0 w ↦
          rw (w.self-is, w.len-is)
          (shards_turn n a.row.now 0 (unwrap_or a.left_out n) a.bit _ _ _ l.r _ _ _ _ e l.invariant
          (shard_one n l.len l.r _ l.self.list (search rules) c.loop-r-test.true w.if-weight_of-bit-ne0.true))
      | else-weight_of-bit-ne0 w ↦
          rw (w.self-is, w.len-is)
          (shards_turn n a.row.now 0 (unwrap_or a.left_out n) a.bit _ _ _ l.r _ _ _ _ e l.invariant
          (shard_none n l.len l.r _ l.self.list w.if-weight_of-bit-ne0.false))
    ]
