-- The test, then the list.
use mathlib.Core.Path.{ap, sym, ◌∙◌}
use mathlib.Core.Bool.{Bool, cond, ◌&&◌}
use mathlib.Core.List.{[]}
use native.Mathlib.Omega.{arith}
use lib.Dec.{ltb, leb}
use borrow.Author.Tests.{ltb-true, le-leb}
use Rattle.disk.specs.Limits.{most_n}
use Rattle.disk.specs.Tests.{and_left, and_right}
use Rattle.disk.specs.Geometry.{in_range, in_range_lem, stripes_of, stripes_le}
use Rattle.position.specs.Position.{ascending}
use Rattle.strips.specs.Seen.{lost_of}
use Rattle.strips.specs.Answers.{lost_in}
use Rattle.strips.specs.Turns.{and_none}
use Rattle.strips.proofs.lost.Lost.of.Goals as goal

pub among-requires : goal.among-requires
among-requires c = let a = c.args in
    let e = sym c.has_stripe.ensures ∙ c.if-has_stripe.true in
    let r = in_range_lem a.g (and_left (in_range a.g) (ltb a.t (stripes_of a.g)) e) in
    (r.few, omega (arith, ltb-true a.t (stripes_of a.g) (and_right (in_range a.g) (ltb a.t (stripes_of a.g)) e), stripes_le a.g, r.most))

pub returns-then-has_stripe : goal.returns-then-has_stripe
unfolding lost_in
returns-then-has_stripe c = let a = c.args in
    let e = sym c.has_stripe.ensures ∙ c.if-has_stripe.true in
    let p = and_left (in_range a.g) (ltb a.t (stripes_of a.g)) e in
    c.among.ensures ∙ sym (λ i. cond (p i && (and_right (in_range a.g) (ltb a.t (stripes_of a.g)) e i && le-leb a.g.n most_n (in_range_lem a.g p).few i)) (lost_of a.g.n a.t a.there) [])

pub returns-else-has_stripe : goal.returns-else-has_stripe
unfolding lost_in lost_of ascending
returns-else-has_stripe c = let a = c.args in
    let e = sym c.has_stripe.ensures ∙ c.if-has_stripe.false in
    c.among-else-has_stripe.ensures ∙ ap (λ (b : Bool). cond b (lost_of a.g.n a.t a.there) []) (and_none (in_range a.g) (ltb a.t (stripes_of a.g)) (leb a.g.n most_n) e)
