-- By what was found.
use mathlib.Core.Path.{◌∙◌}
use Rattle.blocks.specs.Repair.{settling, mend_never, mended_by}
use Rattle.blocks.proofs.repair.mend_into.Goals as goal

pub settle-requires : goal.settle-requires
settle-requires c = let a = c.args in settling a.s a.image.now a.t c.mend_of.new.stripe c.mend_of.result c.requires.0 (c.mend_of.auto.stripe ∙ c.requires.1) c.mend_of.ensures _ c.in_ok-v.was

pub returns-in_err-v : goal.returns-in_err-v
returns-in_err-v c = let a = c.args in absurd (mend_never a.s a.image.now a.t c.mend_of.new.stripe c.mend_of.result c.requires.0 (c.mend_of.auto.stripe ∙ c.requires.1) c.mend_of.ensures _ c.in_err-v.was)

pub returns : goal.returns
returns c = let a = c.args in mended_by a.s a.image.now a.t c.mend_of.new.stripe c.mend_of.result c.requires.0 (c.mend_of.auto.stripe ∙ c.requires.1) c.mend_of.ensures _ c.in_ok-v.was a.work.now _ _ c.settle.ensures
