-- By what comes first.
use mathlib.Core.Path.{sym}
use Rattle.blocks.specs.Answers.{look_done}
use Rattle.blocks.proofs.read.read_answer.Goals as goal

pub block_answer-requires : goal.block_answer-requires
block_answer-requires c = let a = c.args in (look_done a.l a.kind a.len (sym c.in_ok-look_answer.ensures)).0
