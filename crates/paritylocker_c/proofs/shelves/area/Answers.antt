-- By the state's length. Assumes nothing.
use mathlib.Core.Path.{sym, ◌∙◌}
use Rattle.paritylocker_c.specs.Shelf.{area_right, area_wrong}
use Rattle.paritylocker_c.proofs.shelves.area.Goals as goal

pub returns-then-state-state_bytes : goal.returns-then-state-state_bytes
returns-then-state-state_bytes c = let a = c.args in area_right a.work.now a.state (c.if-state-state_bytes.true ∙ c.state_bytes.ensures)

pub returns : goal.returns
returns c = let a = c.args in area_wrong a.work.now a.state (λ q. c.if-state-state_bytes.false (q ∙ sym c.state_bytes.ensures))
