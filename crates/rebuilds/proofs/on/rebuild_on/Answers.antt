-- `rebuild_on` meets its contract. What is accepted goes on, on an image of the shelf. Assumes nothing.
use Rattle.std.proofs.Common.{sym, ◌∙◌}
use Rattle.rebuilds.specs.On.{on_done, on_image}
use Rattle.rebuilds.proofs.on.rebuild_on.Goals as goal

pub on_state-requires : goal.on_state-requires
on_state-requires c =
    let a = c.args in
    let e = sym c.on_answer.ensures ∙ c.in_ok-on_answer.was in
    (on_done a.s.now a.s.kind a.s.absent a.image.now a.room e, on_image a.s.now a.s.kind a.s.absent a.image.now a.room e)
