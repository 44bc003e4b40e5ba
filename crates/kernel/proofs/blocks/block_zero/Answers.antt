use Rattle.std.proofs.Common.{length}
use Rattle.kernel.specs.Kernel.{row_at}
use Rattle.kernel.specs.StepsTurns.{block_row, block_zero}
use Rattle.kernel.proofs.blocks.block_zero.Goals as goal

pub returns : goal.returns
returns c = let s = c.args.shards.now in
    let t = c.args.steps.now in
    let n = length s.row.now in
    let q = c.block_start.result in
    rw c.block_start.ensures at (block_zero c.all_zero.result q (row_at n s.len s.stripe.now s.row.now 0) c.block.result
    (block_row n s.len q t.len s.row.now 0 t.list c.block.result s.stripe.now s.bytes c.requires.2 c.block.ensures)
    c.all_zero.ensures)
