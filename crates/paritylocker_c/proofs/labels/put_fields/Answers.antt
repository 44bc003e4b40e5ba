use native.Mathlib.Omega.{arith}
use lib.ListN.{length-set}
use Rattle.paritylocker_c.specs.Labels.{nine}
use Rattle.paritylocker_c.proofs.labels.put_fields.Goals as goal

pub bounds-fields-4 : goal.bounds-fields-4
bounds-fields-4 c = simp length-set (omega arith)

pub bounds-fields-5 : goal.bounds-fields-5
bounds-fields-5 c = simp length-set (omega arith)

pub bounds-fields-6 : goal.bounds-fields-6
bounds-fields-6 c = simp length-set (omega arith)

pub bounds-fields-7 : goal.bounds-fields-7
bounds-fields-7 c = simp length-set (omega arith)

pub bounds-fields-8 : goal.bounds-fields-8
bounds-fields-8 c = simp length-set (omega arith)

pub returns : goal.returns
returns c = let a = c.args in nine a.fields.now _ _ _ _ _ _ _ _ _ c.requires
