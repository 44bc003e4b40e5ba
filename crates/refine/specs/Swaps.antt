-- ANOTHER DISK IN A SLOT while the program is at rest and its state calls the slot absent: a fresh one, one that held something else, or one that was in the slot before. It may hold anything but
-- a label of another shelf, or one of this shelf of the settled generation or newer. To the protocol's machine it is a disk that is exchanged, and what ties the two is kept. Assumes nothing.
use Rattle.std.specs.Prelude.{◌≡◌, ◌≢◌, true, ℕ, ◌<◌, Some}
use mathlib.Core.List.{List}
use Rattle.disk.specs.Mask.{in_mask}
use Rattle.disk.specs.Image.{sector}
use Rattle.label.specs.Newest.{copy_of}
use Rattle.label.specs.declared.fields.Label as bytes
use Rattle.protocol.specs.World.{World}
use Rattle.protocol.specs.Program.{Own}
use Rattle.protocol.specs.Exchange.{with_disk}
use Rattle.protocol.specs.Machine.{Machine, View}
use Rattle.codecs.specs.Sector.{Sector}
use Rattle.codecs.specs.Shelf.{Shelf, slots, geometry}
use Rattle.codecs.specs.Labels.{ours}
use Rattle.stages.specs.declared.state.State.{State}
use Rattle.stages.specs.declared.state.Kind.TheVariants.{Idle}
use Rattle.refine.specs.Family.{Family}
use Rattle.refine.specs.Disks.{Disks, cur_of}
use Rattle.refine.specs.Tied.{own_of}
use Rattle.refine.specs.Chain.{has, Tie}
use Rattle.refine.specs.Holds.{Follows}

-- at rest another disk is put into slot d, which the state calls absent: the image was img and is left then
pub record Exchanged (z : Shelf) (s : State) (d : ℕ) (img left : List ℕ) : Type 0 where
  pub at_rest : s.kind ≡ Idle
  pub there : d < slots z
  pub absent : in_mask s.absent d ≡ true
  pub disks : Disks z left
  -- every sector of every other slot stays
  pub others : (e i : ℕ) → e < slots z → i < z.sectors → e ≢ d → sector z.sectors left e i ≡ sector z.sectors img e i
  -- a valid copy of a label on the new disk is this shelf's and older than the settled one; where there is one, the labels have their shape
  pub older : (o : ℕ) (a : bytes.Label) → o < 2 → copy_of (geometry z) left d o ≡ Some a → (ours z a ≡ true) × (a.generation < s.now.generation)
  pub shape : Follows z left d

-- then slot d holds exactly what is read of it, with nothing cached; everything else is as it was
abbrev pub new_disk : Shelf → World Sector → ℕ → List ℕ → World Sector
new_disk z w d left = with_disk w d (cur_of z left)

module _ (z : Shelf) (F : Family z) (first : Machine Sector) (p : View Sector) (w : World Sector) (img : List ℕ) (s : State) (d : ℕ) (left : List ℕ) (x : Exchanged z s d img left) (t : Tie z F first p w img (has s)) where
  abbrev pub own : Own
  own = own_of z s s.now

  abbrev pub w' : World Sector
  w' = new_disk z w d left
