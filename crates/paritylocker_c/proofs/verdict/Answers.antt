use mathlib.Core.Path.{subst, ap, sym}
use native.Mathlib.Omega.{arith}
use Rattle.paritylocker_c.specs.Answers.{Small, number_of_verdict}
use Rattle.paritylocker_c.proofs.verdict.Goals as goal

pub overflow_cast-result : goal.overflow_cast-result
overflow_cast-result c = let h = subst Small c.in-Accused.is c.requires in omega arith

pub overflow_add-result : goal.overflow_add-result
overflow_add-result c = let h = subst Small c.in-Accused.is c.requires in omega arith

pub returns-in-Sound : goal.returns-in-Sound
returns-in-Sound c = ap number_of_verdict (sym c.in-Sound.is)

pub returns-in-Accused : goal.returns-in-Accused
returns-in-Accused c = ap number_of_verdict (sym c.in-Accused.is)

pub returns-in-Unsound : goal.returns-in-Unsound
returns-in-Unsound c = ap number_of_verdict (sym c.in-Unsound.is)
