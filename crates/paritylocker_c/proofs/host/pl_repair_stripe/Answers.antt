-- By the state's size; then what the repair begins with is kept. Assumes nothing.
use mathlib.Core.Path.{refl, sym, ◌∙◌}
use Rattle.paritylocker_c.specs.Shelf.{after_begun_is}
use Rattle.paritylocker_c.specs.Blocks.{mends_short, mends}
use Rattle.paritylocker_c.proofs.host.pl_repair_stripe.Goals as goal

pub returns-then-state-state_bytes : goal.returns-then-state-state_bytes
returns-then-state-state_bytes c = let a = c.args in
    rw c.number.ensures (mends_short a.state.now a.stripe a.image.now a.work.now (λ q. c.if-state-state_bytes.true (q ∙ sym c.state_bytes.ensures)), refl)

pub returns : goal.returns
returns c = let a = c.args in
    let k = c.keep.ensures in
    (mends a.state.now a.stripe a.image.now a.work.now c.repair_stripe-begun.result c.read-s.result _ _ c.keep.result (c.if-state-state_bytes.false ∙ c.state_bytes.ensures) c.read-s.ensures c.repair_stripe-begun.ensures k.0 (k.1 ∙ after_begun_is c.read-s.result c.repair_stripe-begun.result a.state.now), refl)
