-- WHAT IS TRUE OF THE DISKS, in the words of the bytes: what it means that no label on any disk lies, also while a write is under way, and that a label has its shape; each follows from the protocol's
-- words for it (`Truthful` and `OwnTrue` of its Kept, `Shape`). Assumes nothing.
use Rattle.std.specs.Prelude.{◌≡◌, ◌⊎◌, Bool, true, false, Some}
use Rattle.std.proofs.Math.Bool.{◌&&◌}
use mathlib.Core.List.{List}
use Prim.Native.Nat.{ℕ, suc, ◌+◌, ◌≤◌, ◌<◌}
use Rattle.std.proofs.Math.ListN.{replicate}
use borrow.Author.Tests.{lt-ltb}
use Rattle.disk.specs.Limits.{sector_bytes}
use Rattle.disk.specs.Geometry.{strip_of, stripes_of, shard_of}
use Rattle.disk.specs.Image.{sector}
use Rattle.disk.specs.Mask.{in_mask}
use Rattle.label.specs.Newest.{copy_of}
use Rattle.label.specs.declared.fields.Label as bytes
use Rattle.record.specs.Stamp.{stamp_at, zero_stamp, later_of}
use Rattle.record.specs.Tail.{tail_at, may_be}
use Rattle.record.specs.Log.{restore_of}
use Rattle.record.specs.declared.stamp.Stamp.{Stamp}
use Rattle.record.specs.declared.tail.Tail.{Tail}
use Rattle.redo.specs.Decide.{plainly_out, looked, believed, log_at, lead_of, complete_with, redo_of}
use Rattle.redo.specs.declared.Redo.TheVariants as redo
use Rattle.protocol.specs.World.{World, Possible}
use Rattle.protocol.specs.Host.{Host}
use Rattle.protocol.specs.Machine.{View, sure, open_write, kept_write}
use Rattle.codecs.specs.Sector.{Sector}
use Rattle.codecs.specs.Shelf.{Shelf, slots, geometry}
use Rattle.shards.specs.Quorum.{few_of}
use Rattle.shards.proofs.Even.{any_code}
use Rattle.refine.specs.Disks.{Disks, cur_of}

-- ---- STRIPS

-- strip t of slot d is what the host's list v asks for
abbrev pub Wanted : Shelf → Host Sector → List ℕ → ℕ → ℕ → Type 0
Wanted z v img d t = (j : ℕ) → j < z.c → sector z.sectors img d (strip_of (geometry z) t + j) ≡ ((any_code z).shard t (v t) d j).bytes

-- slot d's log holds strip t of the list v, whole: its record is complete with this stamp, tells the stripe t, and gives back each sector of the strip
pub record Logged (z : Shelf) (v : Host Sector) (stamp : Stamp) (img : List ℕ) (d t : ℕ) : Type 0 where
  pub complete : complete_with (geometry z) img stamp d ≡ true
  pub stripe : (tail_at (log_at (geometry z) img d z.c)).stripe ≡ t
  pub back : (j : ℕ) → j < z.c → restore_of (log_at (geometry z) img d j) (log_at (geometry z) img d z.c) j ≡ ((any_code z).shard t (v t) d j).bytes

-- THE LAST WRITE, WHOLE IN THE LOG under the label a: the write of this stripe and these slots has its record, complete with this stamp, in every slot that it changes and whose strip a believes; no
-- log sector of a slot that a looks at has a later stamp; and so, what start-up decides about the log under this label (`redo_of`) is to go
-- forward with that stripe: to write from it the strips of just these slots, as far as they are believed
pub record Carried (z : Shelf) (a : bytes.Label) (stripe : ℕ) (changes : ℕ → Bool) (stamp : Stamp) (img : List ℕ) : Type 0 where
  pub full : (e : ℕ) → believed (geometry z) a e stripe ≡ true → changes e ≡ true → complete_with (geometry z) img stamp e ≡ true
  pub last : (e j : ℕ) → looked (geometry z) a e ≡ true → j ≤ z.c → later_of (stamp_at (log_at (geometry z) img e j)) stamp ≡ false
  pub mask : ℕ
  pub forward : redo_of (geometry z) img a ≡ redo.Forward stripe mask
  pub those : (e : ℕ) → e < slots z → in_mask mask e ≡ (believed (geometry z) a e stripe && changes e)

-- it is one of the strips that the write under way changes (of its stripe, in these slots), the new one is whole in the slot's log, and under the label a that believes it the write is whole in the log and
-- the last one there
abbrev pub InLog : Shelf → bytes.Label → Host Sector → ℕ → (ℕ → Bool) → Stamp → List ℕ → ℕ → ℕ → Type 0
InLog z a v stripe changes stamp img d t = (t ≡ stripe) × (changes d ≡ true) × Logged z v stamp img d t × Carried z a stripe changes stamp img

-- A STRIP IS TRUE that the label a believes, with the host's view p: it is what the list asks for. While a write is under way that is the old list, and from the moment on at which nothing can undo the write
-- the new one; but a strip that the write changes may be half written, once the write is whole in the log, as far as a believes it, and nothing later is there: start-up under a then writes the new strip
abbrev pub StripTrue : Shelf → bytes.Label → View Sector → ℕ → (ℕ → Bool) → Stamp → List ℕ → ℕ → ℕ → Type 0
StripTrue z a (sure v) stripe changes stamp img d t = Wanted z v img d t
StripTrue z a (open_write v v') stripe changes stamp img d t = Wanted z v img d t ⊎ InLog z a v' stripe changes stamp img d t
StripTrue z a (kept_write v') stripe changes stamp img d t = Wanted z v' img d t ⊎ InLog z a v' stripe changes stamp img d t

-- the two lists ask for the same everywhere but in the strips that the write changes
abbrev pub Elsewhere : Shelf → View Sector → ℕ → (ℕ → Bool) → Type 0
Elsewhere z (sure v) stripe changes = Unit {0}
Elsewhere z (open_write v v') stripe changes = (t d j : ℕ) → d < slots z → ((t ≡ stripe) × (changes d ≡ true) → ⊥) → (any_code z).shard t (v t) d j ≡ (any_code z).shard t (v' t) d j
Elsewhere z (kept_write v') stripe changes = Unit {0}

-- ---- LABELS

-- every strip that the label believes is true: each one of a slot that it calls healthy, and each one below the mark of the slot that it calls being rebuilt
abbrev pub Truthful : Shelf → View Sector → ℕ → (ℕ → Bool) → Stamp → List ℕ → bytes.Label → Type 0
Truthful z p stripe changes stamp img a = (d t : ℕ) → believed (geometry z) a d t ≡ true → StripTrue z a p stripe changes stamp img d t

-- each strip of a slot that is not out is believed
pub healthy_believed : (z : Shelf) (a : bytes.Label) (d t : ℕ) → d < slots z → t < stripes_of (geometry z) → in_mask a.out d ≡ false → believed (geometry z) a d t ≡ true
unfolding believed looked plainly_out
healthy_believed z a d t i l e = rw (e, lt-ltb d (slots z) i, lt-ltb t (stripes_of (geometry z)) l)

-- NO LABEL LIES: there is a settled generation, which every disk has but few (at most m); and each label on any disk, of this
-- generation or a newer one, calls few slots out and is true, with one write under way at most, whose stripe, slots and stamp these are
pub record NoLies (z : Shelf) (p : View Sector) (img : List ℕ) : Type 0 where
  pub settled : ℕ
  pub out : ℕ → Bool
  pub few_out : few_of z out ≡ true
  pub everyone : (d : ℕ) → d < slots z → out d ≡ false → 0 < settled → (s : ℕ) × (a : bytes.Label) × (copy_of (geometry z) img d s ≡ Some a) × (settled ≤ a.generation)
  pub few : (d s : ℕ) (a : bytes.Label) → d < slots z → s < 2 → copy_of (geometry z) img d s ≡ Some a → settled ≤ a.generation → few_of z (in_mask a.out) ≡ true
  pub stripe : ℕ
  pub changes : ℕ → Bool
  pub stamp : Stamp
  pub elsewhere : Elsewhere z p stripe changes
  pub right : (d s : ℕ) (a : bytes.Label) → d < slots z → s < 2 → copy_of (geometry z) img d s ≡ Some a → settled ≤ a.generation → Truthful z p stripe changes stamp img a

-- A LABEL THAT A STATE HOLDS IS TRUE, whatever a cut leaves of the disks
pub record HeldTrue (z : Shelf) (p : View Sector) (w : World Sector) (a : bytes.Label) : Type 0 where
  pub stripe : ℕ
  pub changes : ℕ → Bool
  pub stamp : Stamp
  pub elsewhere : Elsewhere z p stripe changes
  pub right : (left : List ℕ) → Disks z left → Possible w (cur_of z left) → Truthful z p stripe changes stamp left a

-- THE SHAPE OF A LABEL (document 02, C6): where one of the two sectors is a valid copy, each is zeros or a valid copy, and two copies follow each other. (A disk without a valid copy may hold anything.)
pub record Follows (z : Shelf) (img : List ℕ) (d : ℕ) : Type 0 where
  pub calm : (s o : ℕ) (b : bytes.Label) → s < 2 → o < 2 → copy_of (geometry z) img d o ≡ Some b → (sector z.sectors img d s ≡ replicate sector_bytes 0) ⊎ ((a : bytes.Label) × (copy_of (geometry z) img d s ≡ Some a))
  pub follow : (a b : bytes.Label) → copy_of (geometry z) img d 0 ≡ Some a → copy_of (geometry z) img d 1 ≡ Some b → (a.generation ≡ suc b.generation) ⊎ (b.generation ≡ suc a.generation)

-- ---- WHAT START-UP DECIDES where the last write is whole in the log

-- a tail tells this stripe and these slots, and a write can have it
abbrev pub Tells : (z : Shelf) → bytes.Label → ℕ → (ℕ → Bool) → Tail → Type 0
Tells z a stripe changes x =
    (may_be x (stripes_of (geometry z)) (slots z) a.generation ≡ true) × (x.stripe ≡ stripe) × ((e : ℕ) → e < slots z → in_mask x.shards (shard_of (slots z) x.stripe e) ≡ changes e)

module _ (z : Shelf) (img : List ℕ) (disks : Disks z img) (a : bytes.Label) (stripe : ℕ) (changes : ℕ → Bool) (stamp : Stamp) (some : zero_stamp stamp ≡ false)
    (full : (e : ℕ) → believed (geometry z) a e stripe ≡ true → changes e ≡ true → complete_with (geometry z) img stamp e ≡ true)
    (last : (e j : ℕ) → looked (geometry z) a e ≡ true → j ≤ z.c → later_of (stamp_at (log_at (geometry z) img e j)) stamp ≡ false)
    (told : (e : ℕ) → looked (geometry z) a e ≡ true → stamp_at (log_at (geometry z) img e z.c) ≡ stamp → Tells z a stripe changes (tail_at (log_at (geometry z) img e z.c)))
    (d : ℕ) (own : believed (geometry z) a d stripe ≡ true) (changed : changes d ≡ true) where
  abbrev pub top : ℕ
  top = lead_of (geometry z) img a
