-- By the sizes, then by the shelf's own answer. Assumes nothing.
use mathlib.Core.Path.{sym, ◌∙◌}
use Rattle.paritylocker_c.specs.Shelf.{status_short, status_told}
use Rattle.paritylocker_c.proofs.shelves.pl_status.Goals as goal

pub returns-then-state-state_bytes : goal.returns-then-state-state_bytes
returns-then-state-state_bytes c = let a = c.args in
    rw c.number.ensures (status_short a.state.now a.fields.now (λ q. c.if-state-state_bytes.true (q ∙ sym c.state_bytes.ensures)))

pub returns : goal.returns
returns c = let a = c.args in
    let r = c.status.ensures in
    let t = status_told a.state.now a.fields.now _ _ _ (c.if-state-state_bytes.false ∙ c.state_bytes.ensures) c.read.ensures r.0 r.1 in
    (c.outcome.ensures ∙ t.0, t.1)
