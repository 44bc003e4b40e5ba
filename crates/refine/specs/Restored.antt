-- The strip's sector that the code takes from the record in the image is the piece that the protocol takes from its places.
-- Assumes nothing.
use Rattle.std.specs.Prelude.{◌≡◌, Bool, ℕ, ◌+◌, ◌*◌, ◌≤◌, ◌<◌, ltb, take, drop, Ok}
use Rattle.std.proofs.Math.Path.{ap}
use Rattle.std.proofs.Common.{◌∙◌, arith}
use Rattle.std.proofs.Math.Bool.{cond}
use mathlib.Core.List.{List, []}
use Rattle.std.proofs.Math.Nat.{mul-le-mul_right, suc-mul}
use Rattle.std.proofs.Math.ListN.{length, length-drop}
use Rattle.std.proofs.Math.Seq.{length-take-le}
use borrow.Author.Tests.{lt-ltb, eq-eqb}
use Rattle.disk.specs.Limits.{sector_bytes, first_log}
use Rattle.disk.specs.Tests.{both}
use Rattle.disk.specs.Image.{place, Shape, fits_image}
use Rattle.record.specs.Log.{area_of, restore_answer}
use Rattle.codecs.specs.Shelf.{Shelf, slots, geometry, limits, strips_fit}
use Rattle.refine.specs.Disks.{Disks, image_fits}

module _ (z : Shelf) (img : List ℕ) (disks : Disks z img) (d : ℕ) (below : d < slots z) where
  abbrev start : ℕ
  start = place z.sectors d first_log

  abbrev size : ℕ
  size = (z.c + 1) * sector_bytes

  pub room : start + size ≤ length img
  unfolding Shape
  room =
      omega (arith, disks.shape, mul-le-mul_right z.sectors below, suc-mul d z.sectors, (limits z).0.room, (limits z).0.short)

  pub area_is : area_of (geometry z) img d ≡ take size (drop start img)
  unfolding area_of
  area_is =
      ap (λ (b : Bool). cond b (take size (drop start img)) [])
      (both (fits_image (geometry z) (length img)) (ltb d (slots z)) (image_fits z img disks) (lt-ltb d (slots z) below))

  -- the record is there whole
  pub restores : (j : ℕ) → j < z.c → restore_answer z.c j (length (area_of (geometry z) img d)) sector_bytes ≡ Ok tt
  unfolding restore_answer
  restores j l =
      let e : length (area_of (geometry z) img d) ≡ size = ap length area_is ∙ length-take-le size (drop start img) (omega (arith, room, length-drop start img)) in
      rw (strips_fit z, lt-ltb j z.c l, eq-eqb (length (area_of (geometry z) img d)) size e)
