-- The test, then the mask.
use mathlib.Core.Path.{sym, ◌∙◌}
use mathlib.Core.Bool.{◌&&◌}
use borrow.Author.Rules.{rules}
use native.Mathlib.Omega.{arith}
use Rattle.disk.proofs.Masks.{mask_from_filter}
use Rattle.disk.specs.Geometry.{in_range, in_range_lem}
use Rattle.redo.specs.Decide.{believed}
use Rattle.strips.proofs.believed.believed_slots.Goals as goal

pub returns : goal.returns
returns c = let a = c.args in
    let e = sym c.in_range.ensures ∙ c.if-not-in_range.false in
    let m =
    mask_from_filter (λ d. in_range a.g && believed a.g a.l d a.t) _ (omega (arith, (in_range_lem a.g e).few)) c.fold.ensures.ran
    c.filter.ensures.source c.filter.ensures.closure (λ d b q k. search rules) (λ m d w q k. search rules) in
    rw e (rw e at m)
