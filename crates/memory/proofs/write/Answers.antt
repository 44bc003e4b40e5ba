-- The test, then the three parts, whose numbers have 8 bytes each: what is written reads back.
use mathlib.Core.Path.{refl, ap, ◌∙◌, subst}
use borrow.Author.Tests.{ne_eqb, eq-eqb}
use Rattle.memory.specs.Words.{Fit}
use Rattle.memory.specs.Numbers.{parts_fit}
use Rattle.memory.specs.Bytes.{state_at, write_answer, whole, not_done, state_back}
use Rattle.memory.proofs.write.Goals as goal

pub returns-then-bytes-ne-STATE_BYTES : goal.returns-then-bytes-ne-STATE_BYTES
unfolding write_answer
returns-then-bytes-ne-STATE_BYTES c = (rw (ne_eqb _ _ c.if-bytes-ne-STATE_BYTES.true), refl, λ e. absurd (not_done e))

pub returns : goal.returns
unfolding write_answer
returns c = let a = c.args in
    let el = c.label_numbers.ensures in
    let em = c.label_numbers-2.ensures in
    let er = c.rest_numbers.ensures in
    let w = whole a.s a.bytes.now c.if-bytes-ne-STATE_BYTES.false el c.put_numbers.ensures.0 em c.put_numbers-2.ensures.0 er c.put_numbers-3.ensures.0 in
    let f = parts_fit a.s (subst Fit el c.put_numbers.ensures.1) (subst Fit em c.put_numbers-2.ensures.1) (subst Fit er c.put_numbers-3.ensures.1) in
    (rw (eq-eqb _ _ c.if-bytes-ne-STATE_BYTES.false), w, λ e. ap state_at w ∙ state_back a.s f)
