-- What is not refused is written to the stripe.
use mathlib.Core.Path.{sym}
use lib.ListN.{length}
use Rattle.strips.specs.Whole.{prepare_done}
use Rattle.strips.proofs.seen.Source.prepare.Goals as goal

pub write_block-requires : goal.write_block-requires
write_block-requires c = let a = c.args in
    let h = prepare_done a.self.now.g a.k a.self.now.image.now a.t a.i a.self.now.there (length a.bytes.now) (length a.stripe.now) (sym c.in_ok-prepare_answer.ensures) in
    (h.0, h.1, h.2, h.4, h.5)
