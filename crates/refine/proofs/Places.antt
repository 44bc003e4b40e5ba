-- Where the protocol's places lie on a disk (document 03, section 1; docs/LOG.md): the two labels in sectors 0 and 1, the log
-- record from sector 2 on, its tail last, and the strips behind the log area. The places that a shelf has lie within the disk,
-- and no two of them in one sector. Assumes nothing.
use Rattle.std.specs.Prelude.{◌≡◌, Bool, ◌&&◌, ℕ, ◌+◌, ◌*◌, ◌≤◌, ◌<◌, ◌/◌, ◌%◌, leb}
use Rattle.std.proofs.Math.Path.{refl, sym, ap, ap₂}
use Rattle.std.proofs.Common.{◌∙◌}
use Rattle.std.proofs.Math.Bool.{true, false}
use native.Mathlib.Omega.{arith}
use Rattle.std.proofs.Math.Arith.{digits_div, digits_mod}
use Rattle.std.proofs.Math.Dec.{ltb}
use borrow.Author.Tests.{ltb-true, leb-true}
use Rattle.disk.specs.Limits.{first_log}
use Rattle.disk.specs.Tests.{and_left, and_right}
use Rattle.disk.specs.Geometry.{stripes_of, strip_of}
use Rattle.disk.proofs.GeometryLaws.{strip_inside}
use Rattle.protocol.specs.World.{Place, label, log, strip, slot}
use Rattle.codecs.specs.Shelf.{Shelf, slots, geometry, limits}
use Rattle.refine.specs.Places.{copy_sector, sector_of, inside}

module _ (z : Shelf) where
  log_low : (d j : ℕ) → inside z (log d j) ≡ true → j ≤ z.c
  unfolding inside
  log_low d j e = leb-true j z.c (and_right (ltb d (slots z)) (leb j z.c) e)

  strip_low : (d t j : ℕ) → inside z (strip d t j) ≡ true → (t < stripes_of (geometry z)) × (j < z.c)
  unfolding inside
  strip_low d t j e =
      let f = and_right (ltb d (slots z)) (ltb t (stripes_of (geometry z)) && ltb j z.c) e in
      (ltb-true t (stripes_of (geometry z)) (and_left (ltb t (stripes_of (geometry z))) (ltb j z.c) f), ltb-true j z.c (and_right (ltb t (stripes_of (geometry z))) (ltb j z.c) f))

  copy_below : (b : Bool) → copy_sector b < first_log
  unfolding copy_sector
  copy_below true = omega arith
  copy_below false = omega arith

  pub sector_below : (k : Place) → inside z k ≡ true → sector_of z k < z.sectors
  unfolding sector_of
  sector_below (label d b) e = omega (arith, copy_below b, (limits z).0.room)
  sector_below (log d j) e = omega (arith, log_low d j e, (limits z).0.room, (limits z).0.short)
  sector_below (strip d t j) e = let p = strip_low d t j e in omega (arith, p.1, strip_inside (geometry z) (limits z).0 t p.0)

  -- ---- and apart

  copy_one : (b u : Bool) → copy_sector b ≡ copy_sector u → b ≡ u
  unfolding copy_sector
  copy_one true true e = refl
  copy_one true false e = absurd (omega arith)
  copy_one false true e = absurd (omega arith)
  copy_one false false e = refl

  strip_one : (t u j i : ℕ) → j < z.c → i < z.c → strip_of (geometry z) t + j ≡ strip_of (geometry z) u + i → (t ≡ u) × (j ≡ i)
  unfolding strip_of
  strip_one t u j i h g e =
      let q : t * z.c + j ≡ u * z.c + i = omega arith in
      (sym (digits_div t h) ∙ ap (λ (x : ℕ). x / z.c) q ∙ digits_div u g, sym (digits_mod t h) ∙ ap (λ (x : ℕ). x % z.c) q ∙ digits_mod u g)

  -- two places of a slot that lie in one sector are one
  pub place_one : (k l : Place) → inside z k ≡ true → inside z l ≡ true → slot k ≡ slot l → sector_of z k ≡ sector_of z l → k ≡ l
  unfolding sector_of strip_of
  place_one (label d b) (label e u) p q s t = ap₂ label s (copy_one b u t)
  place_one (label d b) (log e i) p q s t = absurd (omega (arith, copy_below b))
  place_one (label d b) (strip e u i) p q s t = absurd (omega (arith, copy_below b))
  place_one (log d j) (label e u) p q s t = absurd (omega (arith, copy_below u))
  place_one (log d j) (log e i) p q s t = ap₂ log s (omega arith)
  place_one (log d j) (strip e u i) p q s t = absurd (omega (arith, log_low d j p, (limits z).0.short))
  place_one (strip d t j) (label e u) p q s o = absurd (omega (arith, copy_below u))
  place_one (strip d t j) (log e i) p q s o = absurd (omega (arith, log_low e i q, (limits z).0.short))
  place_one (strip d t j) (strip e u i) p q s o =
      let r = strip_one t u j i (strip_low d t j p).1 (strip_low e u i q).1 o in
      λ x. strip (s x) (r.0 x) (r.1 x)
