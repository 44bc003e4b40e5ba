-- What the ranges of a label say. Assumes nothing.
use mathlib.Core.Path.{◌≡◌, refl}
use mathlib.Core.Bool.{Bool, true, false, ◌&&◌, cond}
use Prim.Native.Nat.{ℕ, ◌+◌, ◌≤◌, ◌<◌, ◌^◌}
use native.Mathlib.Omega.{arith}
use lib.Dec.{leb, ltb, eqb}
use borrow.Author.Tests.{leb-true, ltb-true, eqb-true}
use Rattle.disk.specs.Limits.{most_k, most_m}
use Rattle.disk.specs.Tests.{and_left, and_right}
use Rattle.disk.specs.Mask.{in_mask}
use Rattle.disk.specs.declared.geometry.Geometry.{Geometry}
use Rattle.disk.specs.Geometry.{in_range, splits, in_range_with, stripes_of, InRange, Splits, in_range_with_lem}
use Rattle.label.specs.Fields.{no_slot, most_generation, geometry_of, rebuild_fits, fits_of}
use Rattle.label.specs.declared.fields.Label.{Label}

pub record Fits (l : Label) : Type 0 where
  pub few_data : l.k ≤ most_k
  pub few_parity : l.m ≤ most_m
  pub range : InRange (geometry_of l)
  pub split : Splits (l.k + l.m) l.k
  pub on_shelf_lem : l.slot < l.k + l.m
  pub from_one : 1 ≤ l.generation
  pub not_last : l.generation ≤ most_generation
  pub out_below : l.out < 2 ^ (l.k + l.m)
  pub slot_small : l.rebuilding ≤ no_slot
  pub mark_below : l.mark ≤ stripes_of (geometry_of l)
  pub rebuild : rebuild_fits l ≡ true

pub range_of : (g : Geometry) (k : ℕ) → in_range_with g k ≡ true → in_range g ≡ true
unfolding in_range_with
range_of g k e = and_left (in_range g) (splits g.n k) e

rebuild_says : (l : Label) → l.k + l.m ≤ 255 → rebuild_fits l ≡ true → (l.rebuilding ≤ no_slot) × (l.mark ≤ stripes_of (geometry_of l))
unfolding rebuild_fits
rebuild_says l small = by (eqb l.rebuilding no_slot) refl
  where
    n : ℕ
    n = l.k + l.m

    T : ℕ
    T = stripes_of (geometry_of l)

    by : (b : Bool) → eqb l.rebuilding no_slot ≡ b
        → cond b (eqb l.mark 0) (ltb l.rebuilding n && (in_mask l.out l.rebuilding && leb l.mark T)) ≡ true
        → (l.rebuilding ≤ no_slot) × (l.mark ≤ T)
    by true e t = (omega (arith, eqb-true l.rebuilding no_slot e), omega (arith, eqb-true l.mark 0 t))
    by false e t =
        let u = and_right (ltb l.rebuilding n) (in_mask l.out l.rebuilding && leb l.mark T) t in (
          omega (arith, ltb-true l.rebuilding n (and_left (ltb l.rebuilding n) (in_mask l.out l.rebuilding && leb l.mark T) t)),
          leb-true l.mark T (and_right (in_mask l.out l.rebuilding) (leb l.mark T) u),
        )

pub fits_says : (l : Label) → fits_of l ≡ true → Fits l
unfolding fits_of
fits_says l e =
    let e1 = and_right (leb l.k most_k) _ e in
    let e2 = and_right (leb l.m most_m) _ e1 in
    let e3 = and_right (in_range_with (geometry_of l) l.k) _ e2 in
    let e4 = and_right (ltb l.slot (l.k + l.m)) _ e3 in
    let e5 = and_right (leb 1 l.generation) _ e4 in
    let e6 = and_right (leb l.generation most_generation) _ e5 in
    let k = leb-true l.k most_k (and_left (leb l.k most_k) _ e) in
    let m = leb-true l.m most_m (and_left (leb l.m most_m) _ e1) in
    let r = in_range_with_lem (geometry_of l) l.k (and_left (in_range_with (geometry_of l) l.k) _ e2) in
    let f = and_right (ltb l.out (2 ^ (l.k + l.m))) (rebuild_fits l) e6 in
    let b = rebuild_says l (omega (arith, k, m)) f in
    record {
      few_data = k;
      few_parity = m;
      range = r.0;
      split = r.1;
      on_shelf_lem = ltb-true _ _ (and_left (ltb l.slot (l.k + l.m)) _ e3);
      from_one = leb-true _ _ (and_left (leb 1 l.generation) _ e4);
      not_last = leb-true _ _ (and_left (leb l.generation most_generation) _ e5);
      out_below = ltb-true _ _ (and_left (ltb l.out (2 ^ (l.k + l.m))) (rebuild_fits l) e6);
      slot_small = b.0;
      mark_below = b.1;
      rebuild = f;
    }
