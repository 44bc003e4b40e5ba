-- The states with which requests begin are in order: their masks name present slots, and their labels can be told to each slot.
-- Assumes nothing.
use Rattle.std.specs.Prelude.{◌≡◌, ℕ, ◌+◌, ◌≤◌, ◌<◌, ltb, leb}
use Rattle.std.proofs.Common.{ap, arith}
use Rattle.std.proofs.Math.Bool.{true}
use borrow.Author.Tests.{lt-ltb, le-leb}
use Rattle.disk.specs.Limits.{most_k, most_m}
use Rattle.disk.specs.Tests.{and_left, and_right, both}
use Rattle.disk.specs.Geometry.{in_range_with}
use Rattle.label.specs.Fields.{most_generation, geometry_of, rebuild_fits, fits_of}
use Rattle.label.specs.Newest.{same_shelf}
use Rattle.label.specs.declared.fields.Label as bytes
use Rattle.label.proofs.Fits.{fits_says}
use Rattle.codecs.specs.Shelf.{Shelf, slots}
use Rattle.codecs.specs.Labels.{ours}
use Rattle.shelf.specs.Act.{named}
use Rattle.stages.specs.Stage.{again}
use Rattle.refine.specs.Steps.{Tells}
use Rattle.refine.specs.Given.{shelf_geometry}

-- ---- labels

-- a label that fits, with another slot and another generation
fits_again : (l : bytes.Label) (d g : ℕ) → fits_of l ≡ true → d < l.k + l.m → 1 ≤ g → g ≤ most_generation → fits_of (named (again l g) d) ≡ true
unfolding fits_of rebuild_fits
fits_again l d g e i a b =
    let e1 = and_right (leb l.k most_k) _ e in
    let e2 = and_right (leb l.m most_m) _ e1 in
    let e3 = and_right (in_range_with (geometry_of l) l.k) _ e2 in
    let e4 = and_right (ltb l.slot (l.k + l.m)) _ e3 in
    let e5 = and_right (leb 1 l.generation) _ e4 in
    let e6 = and_right (leb l.generation most_generation) _ e5 in
    both (leb l.k most_k) _ (and_left (leb l.k most_k) _ e)
    (both (leb l.m most_m) _ (and_left (leb l.m most_m) _ e1)
    (both (in_range_with (geometry_of l) l.k) _ (and_left (in_range_with (geometry_of l) l.k) _ e2)
    (both (ltb d (l.k + l.m)) _ (lt-ltb d (l.k + l.m) i) (both (leb 1 g) _ (le-leb 1 g a) (both (leb g most_generation) _ (le-leb g most_generation b) e6)))))

module _ (z : Shelf) (l : bytes.Label) (same : ours z l ≡ true) (fit : fits_of l ≡ true) where
  n_is : l.k + l.m ≡ slots z
  n_is = ap (λ (g : _). g.n) (shelf_geometry z l same)

  pub tells_again : (g : ℕ) → 1 ≤ g → g ≤ most_generation → Tells z (again l g)
  unfolding same_shelf
  tells_again g a b = record { same = same; fit = λ d i. fits_again l d g fit (omega (arith, n_is)) a b }

  pub tells : Tells z l
  tells = let f = fits_says l fit in tells_again l.generation f.from_one f.not_last
