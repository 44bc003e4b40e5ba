-- No mend is refused.
use native.Mathlib.Omega.{arith}
use lib.ListN.{length}
use Rattle.requests.proofs.Answers.{few_slots}
use Rattle.blocks.specs.Answers.{range_at}
use Rattle.blocks.specs.Repair.{mend_with}
use Rattle.blocks.proofs.repair.mend_of.Goals as goal

pub all_slots-requires : goal.all_slots-requires
all_slots-requires c = (range_at c.args.l _ c.requires.0.fits (c.geometry-g.ensures (omega (arith, few_slots _ c.requires.0.fits)))).few

pub returns : goal.returns
returns c = let a = c.args in
    mend_with a.l a.image.now a.t c.requires.0 c.geometry-g.result c.all_slots.result (c.geometry-g.ensures (omega (arith, few_slots _ c.requires.0.fits))) c.all_slots.ensures
    (length a.stripe.now) c.requires.1 _ _ c.mend.result c.mend.ensures
