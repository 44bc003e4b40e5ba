-- Start-up's refusals that are made before there is a label to go by: a present disk without any label, and no disk at all. (The
-- other refusals: `start_is` in Rounds.) One refusal is the code's alone, and changes nothing: a disk whose newest label is of
-- another shelf, which the protocol, to which such a copy is no label, may take for the older copy beside it. Assumes nothing.
use Rattle.std.specs.Prelude.{◌≡◌, List, Some, None}
use Rattle.std.proofs.Math.Path.{refl, sym, ap}
use Rattle.std.proofs.Common.{◌∙◌}
use Rattle.std.proofs.Math.Bool.{Bool, false, cond}
use Prim.Native.Nat.{ℕ, ◌<◌}
use Rattle.disk.specs.Mask.{in_mask}
use Rattle.label.specs.Newest.{newest_of, disk_label, present_label, shelf_label}
use Rattle.label.specs.Fields.{Decoded}
use Rattle.label.proofs.Counts.{newest_none}
use Rattle.protocol.specs.World.{Image}
use Rattle.codecs.specs.Sector.{Sector}
use Rattle.codecs.specs.Shelf.{Shelf, slots, geometry}
use Rattle.refine.specs.Disks.{Disks, image_fits, seen_of}

module _ (z : Shelf) (img : List ℕ) (disks : Disks z img) (absent : ℕ) (A : ℕ → Bool) (are : (d : ℕ) → d < slots z → A d ≡ in_mask absent d) where
  abbrev pub f0 : Image Sector
  f0 = seen_of z A img

  -- where the shelf has no label, no present disk has one
  pub none_at_all : shelf_label (geometry z) img absent ≡ None → (d : ℕ) → d < slots z → in_mask absent d ≡ false → disk_label (geometry z) img d ≡ None
  unfolding shelf_label present_label
  none_at_all q d h e = by (disk_label (geometry z) img d) refl
    where
      none : newest_of (present_label (geometry z) img absent) (slots z) ≡ None
      none = sym (ap (λ (b : Bool). cond b (newest_of (present_label (geometry z) img absent) (slots z)) None) (image_fits z img disks)) ∙ q

      by : (x : Decoded) → disk_label (geometry z) img d ≡ x → x ≡ None
      by None p = refl
      by (Some a) p = absurd (newest_none (present_label (geometry z) img absent) (slots z) none d a h (ap (λ (b : Bool). cond b None (disk_label (geometry z) img d)) e ∙ p))
