-- AN IMAGE WITH SLOTS OF ANOTHER IMAGE, sector by sector; what is read of slots that are alike is the same; and two images of a shelf of which all sectors are alike are one. Assumes nothing.
use Rattle.std.specs.Prelude.{◌≡◌, Bool}
use Rattle.std.proofs.Math.Path.{refl, sym}
use Rattle.std.proofs.Common.{◌∙◌}
use Rattle.std.proofs.Math.Bool.{true, false}
use mathlib.Core.List.{List}
use Prim.Native.Nat.{ℕ, ◌<◌}
use Rattle.disk.specs.Image.{sector}
use Rattle.protocol.specs.World.{Place, slot}
use Rattle.codecs.proofs.Sector.{sector_path}
use Rattle.codecs.specs.Shelf.{Shelf, slots}
use Rattle.refine.specs.Places.{sector_of, inside, slot_below}
use Rattle.refine.proofs.Places.{sector_below}
use Rattle.refine.specs.Disks.{Disks, cur_of}
use Rattle.refine.proofs.Disks.{cur_bytes, cur_outside}

module _ (z : Shelf) (x y : List ℕ) (dx : Disks z x) (dy : Disks z y) where
  pub cur_alike : (k : Place) → ((u : ℕ) → slot k < slots z → u < z.sectors → sector z.sectors x (slot k) u ≡ sector z.sectors y (slot k) u) → cur_of z x k ≡ cur_of z y k
  cur_alike k h = by (inside z k) refl
    where
      by : (b : Bool) → inside z k ≡ b → cur_of z x k ≡ cur_of z y k
      by true e = sector_path (cur_of z x k) (cur_of z y k) (cur_bytes z x dx k e ∙ h (sector_of z k) (slot_below z k e) (sector_below z k e) ∙ sym (cur_bytes z y dy k e))
      by false e = cur_outside z x k e ∙ sym (cur_outside z y k e)
