-- By the leader's tail.
use mathlib.Core.Path.{sym, ap, ◌∙◌}
use lib.Dec.{eqb}
use lib.ListN.{length}
use Rattle.disk.specs.Tests.{and_left}
use Rattle.disk.specs.Geometry.{in_range, image_bytes}
use Rattle.disk.specs.Image.{fits_image}
use Rattle.redo.specs.Decide.{tail_found, lead_of, redo_of}
use Rattle.redo.specs.Laws.{decided_some, decided_none}
use Rattle.redo.proofs.decide.Goals as goal

pub returns-then-not-fits_image : goal.returns-then-not-fits_image
unfolding redo_of
returns-then-not-fits_image c = rw (sym c.fits_image.ensures ∙ c.if-not-fits_image.true)

pub invariant_of-logs : goal.invariant_of-logs
unfolding fits_image
invariant_of-logs c =
    let a = c.args in
    record { in_range = and_left (in_range a.g) (eqb (length a.image.now) (image_bytes a.g)) (sym c.fits_image.ensures ∙ c.if-not-fits_image.false) }

pub returns-in_default : goal.returns-in_default
unfolding redo_of
returns-in_default c =
    let a = c.args in
    let none = sym (c.find_tail.ensures ∙ ap (tail_found a.g a.image.now a.l) c.leader.ensures) ∙ c.in_default.is in
    rw (sym c.fits_image.ensures ∙ c.if-not-fits_image.false) (sym (decided_none a.g a.image.now a.l (lead_of a.g a.image.now a.l) none))

pub returns : goal.returns
unfolding redo_of
returns c =
    let a = c.args in
    let some = sym (c.find_tail.ensures ∙ ap (tail_found a.g a.image.now a.l) c.leader.ensures) ∙ c.in-Some.is in
    rw (sym c.fits_image.ensures ∙ c.if-not-fits_image.false) (c.settle.ensures ∙ sym (decided_some a.g a.image.now a.l (lead_of a.g a.image.now a.l) c.in-Some.tail some))
