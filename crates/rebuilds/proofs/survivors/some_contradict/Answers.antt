use Prim.Native.Nat.{◌+◌, ◌<◌, ◌^◌}
use mathlib.Core.Path.{refl}
use native.Mathlib.Omega.{arith}
use Rattle.std.proofs.Common.{rules}
use Rattle.std.proofs.lemmas.Iterator.{serves_from_Range}
use Rattle.disk.proofs.Search.{any_below}
use Rattle.disk.specs.Geometry.{stripes_of, stripes_le}
use Rattle.disk.specs.Image.{fits_image_lem}
use Rattle.position.specs.Search.{some}
use Rattle.rebuilds.proofs.survivors.some_contradict.Goals as goal

pub any-requires-clause-callable : goal.any-requires-clause-callable
any-requires-clause-callable c = serves_from_Range (λ x q k. search rules) (λ x l h.
    let a = c.args in
    let m : a.first + x < stripes_of a.g = omega (arith, c.requires.2) in
    let w : a.first + x < 2 ^ 64 = omega (arith, m, stripes_le a.g, (fits_image_lem a.g a.image.now c.requires.0).0.most) in
    search rules)

pub returns : goal.returns
unfolding some
returns c = any_below (λ p n. some n p) refl (λ k. refl) c.any.ensures.ran (λ d r f l h. search rules)
