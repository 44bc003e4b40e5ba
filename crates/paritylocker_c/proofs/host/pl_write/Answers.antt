-- By the state's size; then what the write begins with is kept. Assumes nothing.
use mathlib.Core.Path.{refl, sym, ◌∙◌}
use Rattle.paritylocker_c.specs.Shelf.{after_begun_is}
use Rattle.paritylocker_c.specs.Blocks.{left_short, write_left}
use Rattle.paritylocker_c.proofs.host.pl_write.Goals as goal
use Rattle.requests.specs.Begun.{outcome_of, state_of}

pub returns-then-state-state_bytes : goal.returns-then-state-state_bytes
returns-then-state-state_bytes c = let a = c.args in
    let z = left_short a.state.now a.work.now _ _ (λ q. c.if-state-state_bytes.true (q ∙ sym c.state_bytes.ensures)) in
    (c.number.ensures ∙ z.0, z.1, refl)

pub returns : goal.returns
returns c = let a = c.args in
    let w = c.write-begun.ensures in
    let k = c.keep.ensures in
    let z = write_left a.block a.bytes.now a.image.now a.work.now _ a.state.now _ (outcome_of c.write-begun.result) c.read-s.result (state_of c.read-s.result c.write-begun.result) c.keep.result (c.if-state-state_bytes.false ∙ c.state_bytes.ensures) c.read-s.ensures w.0 w.1 k.0 (k.1 ∙ after_begun_is c.read-s.result c.write-begun.result a.state.now) in
    (z.0, z.1, refl)
