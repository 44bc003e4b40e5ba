-- A WRITE THAT IS ACCEPTED, at rest, is the protocol's: its program accepts it too, what the state and the work area then describe is
-- the write that it makes, and it can be carried out. In the words of write's contract. Assumes nothing.
use Rattle.std.specs.Prelude.{◌≡◌, length, Ok}
use Rattle.std.proofs.Common.{arith}
use Rattle.std.proofs.Math.Bool.{true}
use mathlib.Core.List.{List}
use Prim.Native.Nat.{ℕ, ◌+◌, ◌<◌, ◌/◌, ◌%◌}
use borrow.Author.Tests.{lt-ltb}
use Rattle.disk.specs.Tests.{both}
use Rattle.disk.specs.Geometry.{stripes_of, stripes_le}
use Rattle.disk.specs.Mask.{in_mask}
use Rattle.label.specs.Fields.{geometry_of, fits_of}
use Rattle.label.specs.declared.fields.Label as bytes
use Rattle.label.proofs.Counts.{same_says}
use Rattle.protocol.specs.World.{Image}
use Rattle.protocol.specs.Log.{Write}
use Rattle.protocol.specs.Label as Label
use Rattle.protocol.specs.Host.{Change, one_block}
use Rattle.protocol.specs.Program.{beyond}
use Rattle.codecs.specs.Sector.{Sector, Bytes}
use Rattle.codecs.specs.Shelf.{Shelf, slots, geometry, size}
use Rattle.codecs.specs.Labels.{fields_of, no_label, label_of, ours}
use Rattle.blocks.specs.Slots.{changed_shards}
use Rattle.blocks.specs.Read.{half_of}
use Rattle.blocks.specs.Write.{write_answer, stamped_with, changing, Written}
use Rattle.shelf.specs.Step.{sound}
use Rattle.stages.specs.declared.state.State.{State}
use Rattle.stages.specs.declared.state.Marks.{Marks}
use Rattle.refine.specs.Disks.{Disks, seen_of}
use Rattle.refine.specs.Writes.{write_asked}
use Rattle.refine.specs.Sees.{sectors_of, seen_slots}

-- a write at its beginning is in range
pub stamped_sound : (z : Shelf) (i : State) → ours z i.now ≡ true → fits_of i.now ≡ true → (t : ℕ) → t < stripes_of (geometry z) → (marks : Marks) → sound (stamped_with i marks) ≡ true
unfolding sound
stamped_sound z i own fits t h marks =
    let same = same_says (fields_of z 0 (no_label z)) i.now own in
    let some : 0 < z.sectors = omega (arith, h, stripes_le (geometry z)) in
    both (fits_of i.now) _ fits (lt-ltb 0 i.now.sectors (omega (arith, same.same_sectors, some)))

module _ (z : Shelf) (img : List ℕ) (disks : Disks z img) (i : State) (own : ours z i.now ≡ true)
    (dark : (d : ℕ) → d < slots z → in_mask i.absent d ≡ true → Label.looked (size z) (label_of z i.now) d ≡ true → ⊥)
    (b : ℕ) (given work : List ℕ) (small : Bytes given) (ok : write_answer i.now i.kind i.absent i.count img b (length given) (length work) ≡ Ok tt) where
  abbrev pub l : bytes.Label
  l = i.now

  abbrev pub n : ℕ
  n = slots z

  abbrev pub stripe : ℕ
  stripe = b / l.k

  abbrev pub in_stripe : ℕ
  in_stripe = b % l.k

  -- what is asked of the protocol's program
  abbrev pub asked_change : Change Sector
  asked_change = one_block in_stripe (sectors_of z.c given)

  abbrev pub f : Image Sector
  f = seen_of z (beyond n (in_mask i.absent)) img

  abbrev pub W : Write Sector
  W = write_asked z i f stripe asked_change

  abbrev pub th : ℕ
  th = seen_slots z l own i.absent stripe

  module _ (s : State) (after : List ℕ) (bytes_after : Bytes after) (h : Written i b given img work s after) where
    abbrev pub half : List ℕ
    half = half_of (geometry_of l) after

    abbrev pub parts : ℕ
    parts = changed_shards (l.k + l.m) l.k in_stripe h.all

    abbrev pub begun : State
    begun = changing i stripe parts
