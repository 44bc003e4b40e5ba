-- The newest of the first slot on, one slot more at a time.
use borrow.Author.Rules.{rules}
use mathlib.Core.Path.{◌≡◌, refl, sym, ap, ◌∙◌}
use Prim.Native.Nat.{◌+◌}
use native.Mathlib.Omega.{arith}
use Rattle.std.specs.Prelude.{None}
use Rattle.std.proofs.lemmas.Iterator.{YieldsList-from_range}
use Rattle.std.proofs.lemmas.Iterator.Consumers.{fold_from_yields_List}
use Rattle.label.specs.Newest.{newer, newest_of, present_label, shelf_label}
use Rattle.label.proofs.Counts.{newest_on}
use Rattle.label.proofs.newest.shelf_label.Goals as goal

pub returns : goal.returns
unfolding newest_of shelf_label
returns c =
    let a = c.args in
    let f = present_label a.g a.image.now a.absent in
    rw (sym c.fits_image.ensures ∙ c.if-not-fits_image.false)
    (fold_from_yields_List _ (λ x d. newer x (f d)) None _ c.fold.ensures.ran (YieldsList-from_range 0 a.g.n a.g.n refl (omega arith)) (λ x d r q k. search rules)
    ∙ newest_on f 0 a.g.n ∙ ap (newest_of f) (let e : 0 + a.g.n ≡ a.g.n = omega arith in e))
