-- DISKS EXCHANGED WHILE NO PROGRAM RUNS: any disk of the shelf, of a slot that was healthy, out or absent, may be exchanged for one that holds no valid label; a fresh one, say. A start-up that does not
-- call such a slot absent is refused, and one that does never looks at it. So the disk may as well have been exchanged when that start-up came to rest (Swaps): until then the old disk is told to be
-- there still. And so it is at rest, with a slot that is out but not called absent: every request that would change something is refused then, until the shelf is started anew, and reads do not look at the slot.
-- So the host's view goes on as without the exchange, and every read shows it. Nothing else is asked of the caller than in Hosts, but that create is not called on an image of zeros any more; and of the sets
-- of slots that are left out the same is asked as without exchanges (Since): from one moment of rest to the next any two leave a slot out in common; for k > m nothing. Assumes nothing.
use Rattle.std.specs.Prelude.{Bool, ◌||◌, ℕ, eqb}
use mathlib.Core.List.{List}
use Rattle.protocol.specs.World.{Possible, World}
use Rattle.protocol.specs.Machine.{Machine, View}
use Rattle.codecs.specs.Sector.{Sector}
use Rattle.codecs.specs.Shelf.{Shelf}
use Rattle.stages.specs.declared.state.State.{State}
use Rattle.refine.specs.Family.{Family}
use Rattle.refine.specs.Disks.{Disks, cur_of}
use Rattle.refine.specs.Merged.{slot_from}
use Rattle.refine.specs.Swaps.{Exchanged}
use Rattle.refine.specs.Hosts.{has}
use Rattle.refine.specs.Late.{Pulled, Late}

-- one slot more
abbrev pub also : ℕ → (ℕ → Bool) → ℕ → Bool
also d A e = eqb e d || A e

-- the same disk put into the slot of another image
module _ (z : Shelf) (s : State) (d : ℕ) (img left : List ℕ) (x : Exchanged z s d img left) (base : List ℕ) (disks : Disks z base) where
  abbrev pub onto : List ℕ
  onto = slot_from z d left base z.sectors

module _ (z : Shelf) (F : Family z) (first : Machine Sector) where
  -- ---- AT REST, with slots behind that are out but not called absent

  module _ (p : View Sector) (w : World Sector) (img : List ℕ) (s : State) (work : List ℕ) (t : Late z F first p w img (has s work)) (lost : Pulled z t.away s) where
    -- a disk that is exchanged in a slot that is called absent is told at once
    module _ (d : ℕ) (left : List ℕ) (x : Exchanged z s d img left) where
      abbrev pub onto0 : List ℕ
      onto0 = onto z s d img left x t.img0 t.tie.disks

  -- an exchange while power is off is one before the cut
  module _ (w : World Sector) (img : List ℕ) (disks : Disks z img) (s : State) (d : ℕ) (left then : List ℕ) (y : Disks z left) (possible : Possible w (cur_of z left)) (x : Exchanged z s d left then) where
    abbrev pub first_left : List ℕ
    first_left = onto z s d left then x img disks
