-- By the state's size, then by what the shelf's own scrub found. Assumes nothing.
use mathlib.Core.Path.{refl, sym, ◌∙◌}
use Rattle.paritylocker_c.specs.Blocks.{small_found, scrub_short, scrub_told}
use Rattle.paritylocker_c.proofs.host.pl_scrub_stripe.Goals as goal

pub returns-then-state-state_bytes : goal.returns-then-state-state_bytes
returns-then-state-state_bytes c = let a = c.args in
    rw c.number.ensures (scrub_short a.state.now a.stripe a.image.now a.work.now (λ q. c.if-state-state_bytes.true (q ∙ sym c.state_bytes.ensures)), refl, refl, refl)

pub scrubbed_number-requires : goal.scrubbed_number-requires
scrubbed_number-requires c = let a = c.args in small_found _ c.read-s.result a.stripe a.image.now a.work.now c.scrub_stripe-found.result c.scrub_stripe-found.ensures

pub returns : goal.returns
returns c = let a = c.args in (
  scrub_told a.state.now a.stripe a.image.now a.work.now c.read-s.result c.scrub_stripe-found.result _ (c.if-state-state_bytes.false ∙ c.state_bytes.ensures) c.read-s.ensures c.scrub_stripe-found.ensures c.scrubbed_number.ensures,
  refl,
  refl,
  refl,
)
