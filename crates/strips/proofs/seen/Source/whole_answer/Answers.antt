-- The tests, in a row.
use mathlib.Core.Path.{sym, ◌∙◌, ◌≡◌}
use mathlib.Core.Bool.{true}
use Prim.Native.Nat.{◌≤◌, ◌*◌}
use native.Mathlib.Omega.{arith}
use lib.ListN.{length}
use lib.Dec.{ltb, eqb}
use borrow.Author.Tests.{ltb-true, eq-eqb, ne_eqb}
use Rattle.disk.specs.Limits.{most_n, sector_bytes}
use Rattle.disk.specs.Tests.{and_left}
use Rattle.disk.specs.Geometry.{in_range, splits, stripes_of, image_bytes, InRange, in_range_lem, stripes_le, product_le}
use Rattle.disk.specs.Image.{fits_image}
use Rattle.disk.specs.declared.geometry.Geometry.{Geometry}
use Rattle.strips.specs.Answers.{stripe_told}
use Rattle.strips.specs.Whole.{whole_answer}
use Rattle.strips.proofs.seen.Source.whole_answer.Goals as goal

pub returns-then-not-fits_image : goal.returns-then-not-fits_image
unfolding whole_answer
returns-then-not-fits_image c = rw (sym c.fits_image.ensures ∙ c.if-not-fits_image.true)

stripe-bytes : (g : Geometry) → InRange g → g.n * (g.c * sector_bytes) ≤ most_n * 4096
stripe-bytes g r = product_le g.n (g.c * sector_bytes) most_n 4096 r.few (omega (arith, r.short))

pub returns-then-not-may_split : goal.returns-then-not-may_split
unfolding whole_answer
returns-then-not-may_split c =
    let whole : (let a = c.args in fits_image a.self.now.g (length a.self.now.image.now) ≡ true) = sym c.fits_image.ensures ∙ c.if-not-fits_image.false in
    rw (whole, sym c.may_split.ensures ∙ c.if-not-may_split.true)

pub returns-then-not-has_stripe : goal.returns-then-not-has_stripe
unfolding whole_answer
returns-then-not-has_stripe c =
    let whole : (let a = c.args in fits_image a.self.now.g (length a.self.now.image.now) ≡ true) = sym c.fits_image.ensures ∙ c.if-not-fits_image.false in
    let split : (let a = c.args in splits a.self.now.g.n a.k ≡ true) = sym c.may_split.ensures ∙ c.if-not-may_split.false in
    rw (whole, split, stripe_told c.args.self.now.g (length c.args.self.now.image.now) c.args.t _ (whole) (sym c.has_stripe.ensures ∙ c.if-not-has_stripe.true))

pub none_lost-requires : goal.none_lost-requires
unfolding fits_image
none_lost-requires c =
    let whole : (let a = c.args in fits_image a.self.now.g (length a.self.now.image.now) ≡ true) = sym c.fits_image.ensures ∙ c.if-not-fits_image.false in
    let in-shape : (in_range c.args.self.now.g ≡ true) = let a = c.args in and_left (in_range a.self.now.g) (eqb (length a.self.now.image.now) (image_bytes a.self.now.g)) (whole) in
    let there : (let a = c.args in ltb a.t (stripes_of a.self.now.g) ≡ true) = stripe_told c.args.self.now.g (length c.args.self.now.image.now) c.args.t _ (whole) (sym c.has_stripe.ensures ∙ c.if-not-has_stripe.false) in
    let range : (InRange c.args.self.now.g) = in_range_lem _ (in-shape) in
    let a = c.args in
    let r = range in
    (r.few, omega (arith, ltb-true a.t (stripes_of a.self.now.g) (there), stripes_le a.self.now.g, r.most))

pub returns-then-not-none_lost : goal.returns-then-not-none_lost
unfolding whole_answer
returns-then-not-none_lost c =
    let whole : (let a = c.args in fits_image a.self.now.g (length a.self.now.image.now) ≡ true) = sym c.fits_image.ensures ∙ c.if-not-fits_image.false in
    let split : (let a = c.args in splits a.self.now.g.n a.k ≡ true) = sym c.may_split.ensures ∙ c.if-not-may_split.false in
    let there : (let a = c.args in ltb a.t (stripes_of a.self.now.g) ≡ true) = stripe_told c.args.self.now.g (length c.args.self.now.image.now) c.args.t _ (whole) (sym c.has_stripe.ensures ∙ c.if-not-has_stripe.false) in
    rw (whole, split, there, sym c.none_lost.ensures ∙ c.if-not-none_lost.true)

pub overflow_mul-g : goal.overflow_mul-g
unfolding fits_image
overflow_mul-g c =
    let whole : (let a = c.args in fits_image a.self.now.g (length a.self.now.image.now) ≡ true) = sym c.fits_image.ensures ∙ c.if-not-fits_image.false in
    let in-shape : (in_range c.args.self.now.g ≡ true) = let a = c.args in and_left (in_range a.self.now.g) (eqb (length a.self.now.image.now) (image_bytes a.self.now.g)) (whole) in
    let range : (InRange c.args.self.now.g) = in_range_lem _ (in-shape) in
    omega (arith, (range).short)

pub overflow_mul-g-2 : goal.overflow_mul-g-2
unfolding fits_image
overflow_mul-g-2 c =
    let whole : (let a = c.args in fits_image a.self.now.g (length a.self.now.image.now) ≡ true) = sym c.fits_image.ensures ∙ c.if-not-fits_image.false in
    let in-shape : (in_range c.args.self.now.g ≡ true) = let a = c.args in and_left (in_range a.self.now.g) (eqb (length a.self.now.image.now) (image_bytes a.self.now.g)) (whole) in
    let range : (InRange c.args.self.now.g) = in_range_lem _ (in-shape) in
    omega (arith, stripe-bytes _ (range))

pub returns-then-kept-g : goal.returns-then-kept-g
unfolding whole_answer
returns-then-kept-g c =
    let whole : (let a = c.args in fits_image a.self.now.g (length a.self.now.image.now) ≡ true) = sym c.fits_image.ensures ∙ c.if-not-fits_image.false in
    let split : (let a = c.args in splits a.self.now.g.n a.k ≡ true) = sym c.may_split.ensures ∙ c.if-not-may_split.false in
    let there : (let a = c.args in ltb a.t (stripes_of a.self.now.g) ≡ true) = stripe_told c.args.self.now.g (length c.args.self.now.image.now) c.args.t _ (whole) (sym c.has_stripe.ensures ∙ c.if-not-has_stripe.false) in
    rw (whole, split, there, sym c.none_lost.ensures ∙ c.if-not-none_lost.false, ne_eqb _ _ c.if-kept-g.true)

pub overflow_mul-g-3 : goal.overflow_mul-g-3
unfolding fits_image
overflow_mul-g-3 c =
    let whole : (let a = c.args in fits_image a.self.now.g (length a.self.now.image.now) ≡ true) = sym c.fits_image.ensures ∙ c.if-not-fits_image.false in
    let in-shape : (in_range c.args.self.now.g ≡ true) = let a = c.args in and_left (in_range a.self.now.g) (eqb (length a.self.now.image.now) (image_bytes a.self.now.g)) (whole) in
    let range : (InRange c.args.self.now.g) = in_range_lem _ (in-shape) in
    omega (arith, (range).short)

pub overflow_mul-g-4 : goal.overflow_mul-g-4
unfolding fits_image
overflow_mul-g-4 c =
    let whole : (let a = c.args in fits_image a.self.now.g (length a.self.now.image.now) ≡ true) = sym c.fits_image.ensures ∙ c.if-not-fits_image.false in
    let in-shape : (in_range c.args.self.now.g ≡ true) = let a = c.args in and_left (in_range a.self.now.g) (eqb (length a.self.now.image.now) (image_bytes a.self.now.g)) (whole) in
    let range : (InRange c.args.self.now.g) = in_range_lem _ (in-shape) in
    omega (arith, stripe-bytes _ (range))

pub returns-then-room-g : goal.returns-then-room-g
unfolding whole_answer
returns-then-room-g c =
    let whole : (let a = c.args in fits_image a.self.now.g (length a.self.now.image.now) ≡ true) = sym c.fits_image.ensures ∙ c.if-not-fits_image.false in
    let split : (let a = c.args in splits a.self.now.g.n a.k ≡ true) = sym c.may_split.ensures ∙ c.if-not-may_split.false in
    let there : (let a = c.args in ltb a.t (stripes_of a.self.now.g) ≡ true) = stripe_told c.args.self.now.g (length c.args.self.now.image.now) c.args.t _ (whole) (sym c.has_stripe.ensures ∙ c.if-not-has_stripe.false) in
    rw (whole, split, there, sym c.none_lost.ensures ∙ c.if-not-none_lost.false, eq-eqb _ _ c.if-kept-g.false, ne_eqb _ _ c.if-room-g.true)

pub returns : goal.returns
unfolding whole_answer
returns c =
    let whole : (let a = c.args in fits_image a.self.now.g (length a.self.now.image.now) ≡ true) = sym c.fits_image.ensures ∙ c.if-not-fits_image.false in
    let split : (let a = c.args in splits a.self.now.g.n a.k ≡ true) = sym c.may_split.ensures ∙ c.if-not-may_split.false in
    let there : (let a = c.args in ltb a.t (stripes_of a.self.now.g) ≡ true) = stripe_told c.args.self.now.g (length c.args.self.now.image.now) c.args.t _ (whole) (sym c.has_stripe.ensures ∙ c.if-not-has_stripe.false) in
    rw (whole, split, there, sym c.none_lost.ensures ∙ c.if-not-none_lost.false, eq-eqb _ _ c.if-kept-g.false, eq-eqb _ _ c.if-room-g.false)
