-- `begin` meets its contract. What is accepted names a slot, and a generation is left. Assumes nothing.
use Rattle.std.proofs.Common.{sym, ◌∙◌}
use Rattle.rebuilds.specs.Begin.{begin_done}
use Rattle.rebuilds.proofs.begin.begin.Goals as goal

pub begin_state-requires : goal.begin_state-requires
begin_state-requires c =
    let a = c.args in
    let p = begin_done a.s.now a.s.kind a.s.absent a.image.now a.slot a.room (sym c.begin_answer.ensures ∙ c.in_ok-begin_answer.was) in
    (p.fits, p.there, p.more)
