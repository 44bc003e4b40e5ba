-- The strip's sector that the code takes from the record in the image is the piece that the protocol takes from its places.
-- Assumes nothing.
use Rattle.std.specs.Prelude.{◌≡◌, ℕ, ◌≤◌, ◌<◌, replicate, Ok}
use Rattle.std.proofs.Math.Path.{sym, ap, ap₂}
use Rattle.std.proofs.Common.{◌∙◌, mod-eq_of_lt, arith}
use mathlib.Core.List.{List}
use Rattle.disk.specs.Limits.{sector_bytes}
use Rattle.record.specs.Log.{part, area_of, restore_of, after_restore, area_part}
use Rattle.protocol.specs.World.{log}
use Rattle.codecs.specs.Shelf.{Shelf, slots, geometry}
use Rattle.codecs.proofs.Written.{piece_of}
use Rattle.refine.specs.Places.{sector_of, log_inside}
use Rattle.refine.specs.Disks.{Disks, cur_of}
use Rattle.refine.proofs.Disks.{cur_bytes}
use Rattle.refine.specs.Restored.{room, area_is}

module _ (z : Shelf) (img : List ℕ) (disks : Disks z img) (d : ℕ) (below : d < slots z) where
  -- sector j of it is what its place holds
  part_is : (j : ℕ) → j ≤ z.c → part (area_of (geometry z) img d) j ≡ (cur_of z img (log d j)).bytes
  unfolding sector_of
  part_is j l = ap (λ (a : List ℕ). part a j) (area_is z img disks d below) ∙ area_part z.sectors d z.c j img (room z img disks d below) l ∙ sym (cur_bytes z img disks (log d j) (log_inside z d j below l))

  pub piece_is : (j : ℕ) → j < z.c
      → after_restore (Ok tt) (area_of (geometry z) img d) z.c j (replicate sector_bytes 0) ≡ (piece_of z (cur_of z img (log d z.c)) (cur_of z img (log d j)) j).bytes
  unfolding piece_of
  piece_is j l =
      ap₂ (λ (x y : List ℕ). restore_of x y j) (part_is j (omega arith)) (part_is z.c (omega arith))
      ∙ ap (restore_of (cur_of z img (log d j)).bytes (cur_of z img (log d z.c)).bytes) (sym (mod-eq_of_lt l))
