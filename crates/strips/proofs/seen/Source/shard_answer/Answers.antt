-- The tests, in a row.
use mathlib.Core.Path.{sym, ◌∙◌, ◌≡◌}
use mathlib.Core.Bool.{true}
use Prim.Native.Nat.{◌*◌}
use native.Mathlib.Omega.{arith}
use lib.ListN.{length}
use lib.Dec.{eqb}
use borrow.Author.Tests.{lt-ltb, le-ltb, eq-eqb, ne_eqb}
use Rattle.disk.specs.Limits.{most_n, sector_bytes}
use Rattle.disk.specs.Tests.{and_left}
use Rattle.disk.specs.Geometry.{in_range, image_bytes, InRange, in_range_lem, product_le}
use Rattle.disk.specs.Image.{fits_image}
use Rattle.strips.specs.Answers.{part_of, shard_answer}
use Rattle.strips.proofs.seen.Source.shard_answer.Goals as goal

pub returns-then-not-fits_image : goal.returns-then-not-fits_image
unfolding shard_answer
returns-then-not-fits_image c = rw (sym c.fits_image.ensures ∙ c.if-not-fits_image.true)

pub has_part-requires : goal.has_part-requires
unfolding fits_image
has_part-requires c =
    let whole : (let a = c.args in fits_image a.self.now.g (length a.self.now.image.now) ≡ true) = sym c.fits_image.ensures ∙ c.if-not-fits_image.false in
    let in-shape : (in_range c.args.self.now.g ≡ true) = let a = c.args in and_left (in_range a.self.now.g) (eqb (length a.self.now.image.now) (image_bytes a.self.now.g)) (whole) in
    in-shape

pub returns-then-not-has_part : goal.returns-then-not-has_part
unfolding shard_answer
returns-then-not-has_part c =
    let whole : (let a = c.args in fits_image a.self.now.g (length a.self.now.image.now) ≡ true) = sym c.fits_image.ensures ∙ c.if-not-fits_image.false in
    rw (whole, sym c.has_part.ensures ∙ c.if-not-has_part.true)

pub returns-then-g-r : goal.returns-then-g-r
unfolding shard_answer
returns-then-g-r c =
    let whole : (let a = c.args in fits_image a.self.now.g (length a.self.now.image.now) ≡ true) = sym c.fits_image.ensures ∙ c.if-not-fits_image.false in
    let there : (let a = c.args in part_of a.self.now.g a.t 0 a.self.now.g.c ≡ true) = sym c.has_part.ensures ∙ c.if-not-has_part.false in
    rw (whole, there, le-ltb _ _ c.if-g-r.true)

pub overflow_mul-g : goal.overflow_mul-g
unfolding fits_image
overflow_mul-g c =
    let whole : (let a = c.args in fits_image a.self.now.g (length a.self.now.image.now) ≡ true) = sym c.fits_image.ensures ∙ c.if-not-fits_image.false in
    let in-shape : (in_range c.args.self.now.g ≡ true) = let a = c.args in and_left (in_range a.self.now.g) (eqb (length a.self.now.image.now) (image_bytes a.self.now.g)) (whole) in
    let few : (InRange c.args.self.now.g) = in_range_lem _ (in-shape) in
    omega (arith, (few).short)

pub overflow_mul-g-2 : goal.overflow_mul-g-2
unfolding fits_image
overflow_mul-g-2 c =
    let whole : (let a = c.args in fits_image a.self.now.g (length a.self.now.image.now) ≡ true) = sym c.fits_image.ensures ∙ c.if-not-fits_image.false in
    let in-shape : (in_range c.args.self.now.g ≡ true) = let a = c.args in and_left (in_range a.self.now.g) (eqb (length a.self.now.image.now) (image_bytes a.self.now.g)) (whole) in
    let few : (InRange c.args.self.now.g) = in_range_lem _ (in-shape) in
    let r = few in
    let g = c.args.self.now.g in
    omega (arith, product_le g.n (g.c * sector_bytes) most_n 4096 r.few (omega (arith, r.short)))

pub returns-then-self-g : goal.returns-then-self-g
unfolding shard_answer
returns-then-self-g c =
    let whole : (let a = c.args in fits_image a.self.now.g (length a.self.now.image.now) ≡ true) = sym c.fits_image.ensures ∙ c.if-not-fits_image.false in
    let there : (let a = c.args in part_of a.self.now.g a.t 0 a.self.now.g.c ≡ true) = sym c.has_part.ensures ∙ c.if-not-has_part.false in
    let a = c.args in
    rw (whole, there, lt-ltb a.r a.self.now.g.n (omega arith), ne_eqb _ _ c.if-self-g.true)

pub overflow_mul-g-3 : goal.overflow_mul-g-3
unfolding fits_image
overflow_mul-g-3 c =
    let whole : (let a = c.args in fits_image a.self.now.g (length a.self.now.image.now) ≡ true) = sym c.fits_image.ensures ∙ c.if-not-fits_image.false in
    let in-shape : (in_range c.args.self.now.g ≡ true) = let a = c.args in and_left (in_range a.self.now.g) (eqb (length a.self.now.image.now) (image_bytes a.self.now.g)) (whole) in
    let few : (InRange c.args.self.now.g) = in_range_lem _ (in-shape) in
    omega (arith, (few).short)

pub returns-then-room-g : goal.returns-then-room-g
unfolding shard_answer
returns-then-room-g c =
    let whole : (let a = c.args in fits_image a.self.now.g (length a.self.now.image.now) ≡ true) = sym c.fits_image.ensures ∙ c.if-not-fits_image.false in
    let there : (let a = c.args in part_of a.self.now.g a.t 0 a.self.now.g.c ≡ true) = sym c.has_part.ensures ∙ c.if-not-has_part.false in
    let a = c.args in
    rw (whole, there, lt-ltb a.r a.self.now.g.n (omega arith), eq-eqb _ _ c.if-self-g.false, ne_eqb _ _ c.if-room-g.true)

pub returns : goal.returns
unfolding shard_answer
returns c =
    let whole : (let a = c.args in fits_image a.self.now.g (length a.self.now.image.now) ≡ true) = sym c.fits_image.ensures ∙ c.if-not-fits_image.false in
    let there : (let a = c.args in part_of a.self.now.g a.t 0 a.self.now.g.c ≡ true) = sym c.has_part.ensures ∙ c.if-not-has_part.false in
    let a = c.args in
    rw (whole, there, lt-ltb a.r a.self.now.g.n (omega arith), eq-eqb _ _ c.if-self-g.false, eq-eqb _ _ c.if-room-g.false)
