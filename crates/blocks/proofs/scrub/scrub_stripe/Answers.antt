-- By its answer.
use mathlib.Core.Path.{sym}
use Rattle.blocks.specs.Scrub.{scrub_done}
use Rattle.blocks.proofs.scrub.scrub_stripe.Goals as goal

pub scrub_of-requires : goal.scrub_of-requires
scrub_of-requires c = let a = c.args in scrub_done a.s.now a.s.kind a.s.absent a.t a.image.now a.work.now (sym c.in_ok-scrub_answer.ensures)
