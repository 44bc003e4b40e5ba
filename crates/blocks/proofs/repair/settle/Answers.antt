-- By the verdict.
use Rattle.std.proofs.Common.{ap, length, ⊎_elim}
use Rattle.code.specs.declared.Verdict.{Verdict}
use Rattle.blocks.specs.Repair.{mend_answer, settles_not, settles_begins}
use Rattle.blocks.proofs.repair.settle.Goals as goal

pub take_mended-requires : goal.take_mended-requires
take_mended-requires c = let p = c.requires in (p.fits, p.below _ c.in-Accused.is, p.small, p.stamp, p.whole)

pub returns-in-Sound : goal.returns-in-Sound
returns-in-Sound c =
    let a = c.args in
    settles_not a.s a.t a.v a.stripe.now a.work.now
    (⊎_elim (ap (λ (x : Verdict). mend_answer x a.s.now (length a.work.now))) (ap (λ (x : Verdict). mend_answer x a.s.now (length a.work.now))) c.in-Sound.is)

pub returns-in-Accused : goal.returns-in-Accused
returns-in-Accused c = let a = c.args in settles_begins a.s a.t a.v _ a.stripe.now a.work.now _ _ c.in-Accused.is c.take_mended.ensures
