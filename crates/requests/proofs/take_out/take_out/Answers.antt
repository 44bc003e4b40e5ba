-- `take_out` meets its contract. What is accepted names a slot, and a generation is left. Assumes nothing.
use Rattle.std.proofs.Common.{sym, ◌∙◌}
use Rattle.requests.specs.Accepted.{take_done}
use Rattle.requests.proofs.take_out.take_out.Goals as goal

pub taken_out-requires : goal.taken_out-requires
taken_out-requires c =
    let a = c.args in
    let p = take_done a.s.now a.s.kind a.s.absent a.image.now a.slot a.room (sym c.take_answer.ensures ∙ c.in_ok-take_answer.was) in
    (p.0, p.1.there, p.1.more)
