-- By what comes first.
use mathlib.Core.Path.{sym}
use Rattle.blocks.specs.Answers.{look_done}
use Rattle.blocks.proofs.scrub.scrub_answer.Goals as goal

pub is_whole-whole-requires : goal.is_whole-whole-requires
is_whole-whole-requires c = let a = c.args in (look_done a.l a.kind a.len (sym c.in_ok-look_answer.ensures)).0

pub is_sized-requires : goal.is_sized-requires
is_sized-requires c = let a = c.args in (look_done a.l a.kind a.len (sym c.in_ok-look_answer.ensures)).0

pub stripe_answer-requires : goal.stripe_answer-requires
stripe_answer-requires c = let a = c.args in (look_done a.l a.kind a.len (sym c.in_ok-look_answer.ensures)).0
