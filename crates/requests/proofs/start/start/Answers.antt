-- `start` meets its contract. A plan has slots enough in range. Assumes nothing.
use Rattle.std.proofs.Common.{sym, ◌∙◌}
use Rattle.requests.specs.Start.{plan_slots}
use Rattle.requests.proofs.start.start.Goals as goal

pub begin-requires : goal.begin-requires
begin-requires c = let a = c.args in plan_slots a.g a.absent a.image.now a.room _ (sym c.survey.ensures ∙ c.in_ok-p.was)
