-- The tests are handed on.
use mathlib.Core.Path.{ap, ◌∙◌}
use mathlib.Core.Bool.{Bool, ◌&&◌}
use lib.Dec.{ltb}
use Rattle.label.specs.Fields.{geometry_of}
use Rattle.disk.specs.Geometry.{in_range, stripes_of}
use Rattle.disk.specs.declared.geometry.Geometry.{Geometry}
use native.Mathlib.Omega.{arith}
use Rattle.requests.proofs.Answers.{few_slots}
use Rattle.blocks.specs.Answers.{answered, stripe_answer, range_of}
use Rattle.blocks.proofs.answers.stripe_answer.Goals as goal

pub returns : goal.returns
unfolding stripe_answer
returns c = let g = (c.geometry-g.ensures (omega (arith, few_slots _ c.requires))) in
    let a = c.args in
    let inside = c.has_stripe-inside.ensures ∙ ap (λ (x : Geometry). in_range x && ltb a.t (stripes_of x)) g
    ∙ ap (λ (b : Bool). b && ltb a.t (stripes_of (geometry_of a.l))) (range_of a.l c.requires) in
    c.by_tests.ensures ∙ (λ i. answered (c.too_few-few.ensures i) (inside i) a.idle a.sense a.sized)
