-- The tests, in a row.
use mathlib.Core.Path.{sym, ◌∙◌, ◌≡◌}
use mathlib.Core.Bool.{true}
use native.Mathlib.Omega.{arith}
use lib.ListN.{length}
use lib.Dec.{eqb}
use borrow.Author.Tests.{lt-ltb, le-ltb}
use Rattle.disk.specs.Tests.{and_left}
use Rattle.disk.specs.Geometry.{in_range, splits, image_bytes, in_range_lem, may_split, stripes_le}
use Rattle.disk.specs.Image.{fits_image}
use Rattle.strips.specs.Answers.{part_of, part_means, shown_answer}
use Rattle.strips.proofs.seen.Source.shown_answer.Goals as goal

pub returns-then-not-fits_image : goal.returns-then-not-fits_image
unfolding shown_answer
returns-then-not-fits_image c = rw (sym c.fits_image.ensures ∙ c.if-not-fits_image.true)

pub returns-then-not-may_split : goal.returns-then-not-may_split
unfolding shown_answer
returns-then-not-may_split c =
    let whole : (let a = c.args in fits_image a.self.now.g (length a.self.now.image.now) ≡ true) = sym c.fits_image.ensures ∙ c.if-not-fits_image.false in
    rw (whole, sym c.may_split.ensures ∙ c.if-not-may_split.true)

pub has_part-requires : goal.has_part-requires
unfolding fits_image
has_part-requires c =
    let whole : (let a = c.args in fits_image a.self.now.g (length a.self.now.image.now) ≡ true) = sym c.fits_image.ensures ∙ c.if-not-fits_image.false in
    let in-shape : (in_range c.args.self.now.g ≡ true) = let a = c.args in and_left (in_range a.self.now.g) (eqb (length a.self.now.image.now) (image_bytes a.self.now.g)) (whole) in
    in-shape

pub returns-then-not-has_part : goal.returns-then-not-has_part
unfolding shown_answer
returns-then-not-has_part c =
    let whole : (let a = c.args in fits_image a.self.now.g (length a.self.now.image.now) ≡ true) = sym c.fits_image.ensures ∙ c.if-not-fits_image.false in
    let split : (let a = c.args in splits a.self.now.g.n a.k ≡ true) = sym c.may_split.ensures ∙ c.if-not-may_split.false in
    rw (whole, split, sym c.has_part.ensures ∙ c.if-not-has_part.true)

pub returns-then-g-r : goal.returns-then-g-r
unfolding shown_answer
returns-then-g-r c =
    let whole : (let a = c.args in fits_image a.self.now.g (length a.self.now.image.now) ≡ true) = sym c.fits_image.ensures ∙ c.if-not-fits_image.false in
    let split : (let a = c.args in splits a.self.now.g.n a.k ≡ true) = sym c.may_split.ensures ∙ c.if-not-may_split.false in
    let there : (let a = c.args in part_of a.self.now.g a.t a.first a.count ≡ true) = sym c.has_part.ensures ∙ c.if-not-has_part.false in
    rw (whole, split, there, le-ltb _ _ c.if-g-r.true)

pub few_lost-requires : goal.few_lost-requires
unfolding fits_image
few_lost-requires c =
    let whole : (let a = c.args in fits_image a.self.now.g (length a.self.now.image.now) ≡ true) = sym c.fits_image.ensures ∙ c.if-not-fits_image.false in
    let in-shape : (in_range c.args.self.now.g ≡ true) = let a = c.args in and_left (in_range a.self.now.g) (eqb (length a.self.now.image.now) (image_bytes a.self.now.g)) (whole) in
    let split : (let a = c.args in splits a.self.now.g.n a.k ≡ true) = sym c.may_split.ensures ∙ c.if-not-may_split.false in
    let there : (let a = c.args in part_of a.self.now.g a.t a.first a.count ≡ true) = sym c.has_part.ensures ∙ c.if-not-has_part.false in
    let a = c.args in
    let h = part_means a.self.now.g a.t a.first a.count (there) in
    let r = in_range_lem a.self.now.g (in-shape) in
    (r.few, omega (arith, (may_split a.self.now.g.n a.k (split)).parity), omega (arith, h.0, stripes_le a.self.now.g, r.most))

pub returns-then-not-few_lost : goal.returns-then-not-few_lost
unfolding shown_answer
returns-then-not-few_lost c =
    let whole : (let a = c.args in fits_image a.self.now.g (length a.self.now.image.now) ≡ true) = sym c.fits_image.ensures ∙ c.if-not-fits_image.false in
    let split : (let a = c.args in splits a.self.now.g.n a.k ≡ true) = sym c.may_split.ensures ∙ c.if-not-may_split.false in
    let there : (let a = c.args in part_of a.self.now.g a.t a.first a.count ≡ true) = sym c.has_part.ensures ∙ c.if-not-has_part.false in
    let a = c.args in
    rw (whole, split, there, lt-ltb a.r a.self.now.g.n (omega arith), sym c.few_lost.ensures ∙ c.if-not-few_lost.true)

pub sized-requires : goal.sized-requires
unfolding fits_image
sized-requires c =
    let whole : (let a = c.args in fits_image a.self.now.g (length a.self.now.image.now) ≡ true) = sym c.fits_image.ensures ∙ c.if-not-fits_image.false in
    let in-shape : (in_range c.args.self.now.g ≡ true) = let a = c.args in and_left (in_range a.self.now.g) (eqb (length a.self.now.image.now) (image_bytes a.self.now.g)) (whole) in
    let there : (let a = c.args in part_of a.self.now.g a.t a.first a.count ≡ true) = sym c.has_part.ensures ∙ c.if-not-has_part.false in
    let a = c.args in
    let h = part_means a.self.now.g a.t a.first a.count (there) in
    let r = in_range_lem a.self.now.g (in-shape) in
    (r.few, r.short, omega (arith, h.2, r.short))

pub returns-then-not-sized : goal.returns-then-not-sized
unfolding shown_answer
returns-then-not-sized c =
    let whole : (let a = c.args in fits_image a.self.now.g (length a.self.now.image.now) ≡ true) = sym c.fits_image.ensures ∙ c.if-not-fits_image.false in
    let split : (let a = c.args in splits a.self.now.g.n a.k ≡ true) = sym c.may_split.ensures ∙ c.if-not-may_split.false in
    let there : (let a = c.args in part_of a.self.now.g a.t a.first a.count ≡ true) = sym c.has_part.ensures ∙ c.if-not-has_part.false in
    let a = c.args in
    rw (whole, split, there, lt-ltb a.r a.self.now.g.n (omega arith), sym c.few_lost.ensures ∙ c.if-not-few_lost.false, sym c.sized.ensures ∙ c.if-not-sized.true)

pub returns : goal.returns
unfolding shown_answer
returns c =
    let whole : (let a = c.args in fits_image a.self.now.g (length a.self.now.image.now) ≡ true) = sym c.fits_image.ensures ∙ c.if-not-fits_image.false in
    let split : (let a = c.args in splits a.self.now.g.n a.k ≡ true) = sym c.may_split.ensures ∙ c.if-not-may_split.false in
    let there : (let a = c.args in part_of a.self.now.g a.t a.first a.count ≡ true) = sym c.has_part.ensures ∙ c.if-not-has_part.false in
    let a = c.args in
    rw (whole, split, there, lt-ltb a.r a.self.now.g.n (omega arith), sym c.few_lost.ensures ∙ c.if-not-few_lost.false, sym c.sized.ensures ∙ c.if-not-sized.false)
