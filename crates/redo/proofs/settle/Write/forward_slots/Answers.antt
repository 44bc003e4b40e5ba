use borrow.Author.Rules.{rules}
use native.Mathlib.Omega.{arith}
use Rattle.disk.proofs.Masks.{mask_from_filter}
use Rattle.disk.specs.Geometry.{in_range_lem}
use Rattle.redo.proofs.settle.Write.forward_slots.Goals as goal

pub returns : goal.returns
returns c =
    mask_from_filter _ _ (omega (arith, (in_range_lem c.args.self.now.logs.g c.args.self.now.logs.in_range).few)) c.fold.ensures.ran
    c.filter.ensures.source c.filter.ensures.closure (λ d b q k. search rules) (λ m d w q k. search rules)
