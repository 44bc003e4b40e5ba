-- By the state's size, then by the shelf's own answer. Assumes nothing.
use mathlib.Core.Path.{sym, ◌∙◌}
use Rattle.paritylocker_c.specs.Blocks.{read_short, read_told}
use Rattle.paritylocker_c.proofs.host.pl_read.Goals as goal

pub returns-then-state-state_bytes : goal.returns-then-state-state_bytes
returns-then-state-state_bytes c = let a = c.args in rw c.number.ensures (read_short a.state.now a.block a.image.now a.work.now a.bytes.now (λ q. c.if-state-state_bytes.true (q ∙ sym c.state_bytes.ensures)))

pub returns : goal.returns
returns c = let a = c.args in
    let r = c.read.ensures in
    let t = read_told a.state.now a.block a.image.now a.work.now a.bytes.now c.read-s.result c.read.result _ (c.if-state-state_bytes.false ∙ c.state_bytes.ensures) c.read-s.ensures r.0 r.1 in
    (c.outcome.ensures ∙ t.0, t.1)
