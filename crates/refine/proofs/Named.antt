-- NO DISK EVER NAMES ANOTHER SHELF: where no sector of the disks is another shelf's label, whatever a cut leaves, none is after an
-- action of the protocol's program. Assumes nothing.
use Rattle.std.specs.Prelude.{◌≡◌, ℕ, ◌<◌, Some}
use Rattle.std.proofs.Math.Path.{ap}
use Rattle.std.proofs.Common.{◌∙◌}
use Rattle.std.proofs.Math.Bool.{true}
use mathlib.Core.List.{List}
use Rattle.disk.specs.Image.{read_of}
use Rattle.label.specs.Valid.{decode_of}
use Rattle.label.specs.Newest.{copy_of, shelf_label}
use Rattle.label.specs.declared.fields.Label as bytes
use Rattle.label.proofs.Counts.{shelf_says, present_says, disk_says}
use Rattle.protocol.specs.World.{label}
use Rattle.codecs.specs.Shelf.{Shelf, slots, geometry}
use Rattle.codecs.specs.Labels.{sector_of, ours}
use Rattle.refine.specs.Places.{label_inside}
use Rattle.refine.specs.Places as places
use Rattle.refine.specs.Disks.{Disks, cur_of}
use Rattle.refine.proofs.Disks.{cur_read}
use Rattle.refine.specs.Named.{Named, side}

module _ (z : Shelf) (img : List ℕ) (disks : Disks z img) (named : Named z (cur_of z img)) where
  pub copy_ours : (d s : ℕ) (a : bytes.Label) → d < slots z → s < 2 → copy_of (geometry z) img d s ≡ Some a → ours z a ≡ true
  unfolding Named copy_of places.sector_of places.copy_sector
  copy_ours d s a h l e =
      let b = side s l in
      named (label d b.0) a
      (ap (λ (x : List ℕ). decode_of x d (sector_of b.0)) (cur_read z img disks (label d b.0) (label_inside z d b.0 h))
      ∙ ap (λ (x : ℕ). decode_of (read_of (geometry z) img d x) d x) b.1 ∙ e)

  pub lead_ours : (absent : ℕ) (a : bytes.Label) → shelf_label (geometry z) img absent ≡ Some a → ours z a ≡ true
  lead_ours absent a e =
      let n = shelf_says (geometry z) img absent a e in
      let p = present_says (geometry z) img absent n.whose a n.is in
      let c = disk_says (geometry z) img n.whose a p.1 in
      copy_ours n.whose c.whose a n.among c.among c.is
