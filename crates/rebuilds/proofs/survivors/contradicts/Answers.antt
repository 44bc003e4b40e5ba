-- `contradicts` meets its contract. Assumes nothing.
use Prim.Native.Nat.{◌*◌}
use mathlib.Core.Path.{refl, sym, ap, ◌∙◌}
use mathlib.Core.Bool.{not}
use Rattle.rebuilds.specs.Survivors.{range_fits, spare_few, stripe_within, no_spare, with_spare}
use Rattle.disk.specs.Limits.{sector_bytes, most_n}
use Rattle.disk.specs.Geometry.{product_le}
use Rattle.disk.specs.Image.{fits_image_lem}
use native.Mathlib.Omega.{arith}
use Rattle.code.specs.Lists.{length_part}
use borrow.Author.Rules.{rules}
use Rattle.rebuilds.proofs.survivors.contradicts.Goals as goal

pub has_spare-requires : goal.has_spare-requires
has_spare-requires c = (range_fits c.args.g _ c.requires.0, c.requires.2, omega (arith, c.requires.1.parity))

pub returns-then-not-has_spare : goal.returns-then-not-has_spare
returns-then-not-has_spare c = let a = c.args in
    no_spare a.g a.l.k a.image.now a.l a.absent a.t _ _ c.seen_slots-there.ensures c.has_spare.ensures (ap not c.if-not-has_spare.true)

pub overflow_mul-from : goal.overflow_mul-from
overflow_mul-from c = omega (arith, (fits_image_lem c.args.g c.args.image.now c.requires.0).0.short)

pub overflow_mul-from-2 : goal.overflow_mul-from-2
overflow_mul-from-2 c = let r = (fits_image_lem c.args.g c.args.image.now c.requires.0).0 in
    omega (arith, product_le c.args.g.n (c.args.g.c * sector_bytes) most_n 4096 r.few (omega (arith, r.short)))

pub slice_bounds-from-end : goal.slice_bounds-from-end
slice_bounds-from-end c = let a = c.args in
    sym (length_part (a.g.n * (a.g.c * sector_bytes)) a.image.now (stripe_within a.g a.image.now a.t c.requires.0 c.requires.2))

pub invariant_of-stripe_holds : goal.invariant_of-stripe_holds
invariant_of-stripe_holds c = let a = c.args in
    record {
      can = record { fits = c.requires.0; splits = c.requires.1; below = c.requires.2; few = spare_few a.g a.l.k _ a.t (sym c.has_spare.ensures ∙ c.if-not-has_spare.false) };
      plain = refl;
      keeps = length_part (a.g.n * (a.g.c * sector_bytes)) a.image.now (stripe_within a.g a.image.now a.t c.requires.0 c.requires.2);
    }

pub stripe_holds-requires : goal.stripe_holds-requires
stripe_holds-requires c = length_part _ _ (search rules)

pub returns : goal.returns
returns c = let a = c.args in
    with_spare a.g a.l.k a.image.now a.l a.absent a.t _ _ _ c.seen_slots-there.ensures c.has_spare.ensures (ap not c.if-not-has_spare.false) c.stripe_holds.ensures
