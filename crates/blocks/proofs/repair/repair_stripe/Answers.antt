-- By its answer.
use mathlib.Core.Path.{sym, ◌∙◌}
use Rattle.std.proofs.lemmas.Result.{err_from_is_err_and}
use Rattle.blocks.specs.Repair.{may_done, repairs_refused, repairs_mended}
use Rattle.blocks.proofs.repair.repair_stripe.Goals as goal

pub mend_stripe-requires : goal.mend_stripe-requires
mend_stripe-requires c = let a = c.args in may_done a.s a.image.now a.t (sym c.may_repair.ensures ∙ c.in_ok-may_repair.was)

pub returns-in_err-may_repair : goal.returns-in_err-may_repair
returns-in_err-may_repair c = let a = c.args in let p = err_from_is_err_and c.from_residual.result c.from_residual.ensures.1 in rw (p.1, p.2) (repairs_refused a.s a.t a.image.now a.work.now _ (sym c.may_repair.ensures ∙ c.in_err-may_repair.was))

pub returns : goal.returns
returns c = let a = c.args in repairs_mended a.s a.t a.image.now a.work.now _ _ (sym c.may_repair.ensures ∙ c.in_ok-may_repair.was) c.mend_stripe.ensures
