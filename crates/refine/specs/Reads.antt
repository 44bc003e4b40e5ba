-- WHAT A READ SHOWS, at any moment of a chain of calls with writes, is the entry of the host's view. In the words of read's contract.
-- Assumes nothing.
use Rattle.std.specs.Prelude.{◌≡◌, ◌&&◌, ltb, Ok}
use Rattle.std.proofs.Math.Path.{sym, subst}
use Rattle.std.proofs.Common.{lt-ltb}
use Rattle.std.proofs.Math.Bool.{Bool, true}
use mathlib.Core.List.{List}
use Prim.Native.Nat.{ℕ, ◌<◌, ◌/◌, ◌%◌}
use native.Mathlib.Omega.{arith}
use Rattle.std.proofs.Math.ListN.{length}
use Rattle.disk.specs.Tests.{both}
use Rattle.disk.specs.Geometry.{stripes_of, block_inside}
use Rattle.disk.specs.Mask.{in_mask}
use Rattle.disk.specs.declared.geometry.Geometry.{Geometry}
use Rattle.label.specs.Fields.{geometry_of}
use Rattle.label.specs.declared.fields.Label as bytes
use Rattle.label.proofs.Fits.{fits_says}
use Rattle.label.proofs.Counts.{same_says}
use Rattle.protocol.specs.World.{strip, Image, World}
use Rattle.protocol.specs.Label as Label
use Rattle.protocol.specs.Log.{Write}
use Rattle.protocol.specs.Program.{Own, Memory, Reply, accepted, refused, did, safe, done, block, found, read_block, beyond}
use Rattle.protocol.specs.Machine.{Machine, View, list_of}
use Rattle.codecs.specs.Sector.{Sector}
use Rattle.codecs.specs.Shelf.{Shelf, slots, geometry, size}
use Rattle.codecs.specs.Labels.{fields_of, no_label, label_of, ours}
use Rattle.codecs.specs.Records.{strip_bytes}
use Rattle.blocks.specs.Read.{laid_by, shown_of, read_answer, Shows}
use Rattle.stages.specs.declared.state.State.{State}
use Rattle.stages.specs.declared.state.Kind.{Kind}
use Rattle.stages.specs.declared.state.Kind.TheVariants.{Writing}
use Rattle.refine.specs.Given.{shelf_geometry}
use Rattle.refine.specs.Family.{Family}
use Rattle.refine.specs.Disks.{Disks, cur_of, seen_of}
use Rattle.refine.specs.Steps.{Fair}
use Rattle.refine.specs.Tied.{own_before, memory_with, program_of}
use Rattle.refine.specs.WriteList.{Writes}
use Rattle.refine.specs.Sees.{seen_slots}

-- no refusal, and nothing accepted
abbrev pub NoBlock : Reply Sector → Type 0
NoBlock accepted = Unit {0}
NoBlock (refused why) = Unit {0}
NoBlock (did a) = Unit {0}
NoBlock safe = Unit {0}
NoBlock (done k) = Unit {0}
NoBlock (block b) = ⊥
NoBlock (found x) = Unit {0}

module _ (z : Shelf) (img : List ℕ) (disks : Disks z img) (l : bytes.Label) (own : ours z l ≡ true) (absent b : ℕ) (work buf : List ℕ) (shows : Shows l absent img work b buf) where
  abbrev pub stripe : ℕ
  stripe = b / l.k

  abbrev pub in_stripe : ℕ
  in_stripe = b % l.k

  abbrev pub th : ℕ
  th = seen_slots z l own absent stripe

  abbrev pub A : ℕ → Bool
  A = beyond (slots z) (in_mask absent)

  abbrev pub f : Image Sector
  f = seen_of z A img

  abbrev pub g : ℕ → ℕ → Sector
  g d j = f (strip d stripe j)

  pub k_is : l.k ≡ z.k
  k_is = sym (same_says (fields_of z 0 (no_label z)) l own).same_k

  pub geo : geometry_of l ≡ geometry z
  geo = shelf_geometry z l own

  inside : (stripe < stripes_of (geometry_of l)) × (in_stripe < l.k)
  inside = block_inside (geometry_of l) l.k b (omega (arith, (fits_says l shows.fits).split.least)) shows.inside

  pub in_T : stripe < stripes_of (geometry z)
  in_T = subst (λ (x : Geometry). stripe < stripes_of x) geo inside.0

  pub in_k : in_stripe < z.k
  in_k = subst (λ (k : ℕ). in_stripe < k) k_is inside.1

  -- the program may read this block
  pub may_read : (ltb stripe (stripes_of (geometry z)) && ltb in_stripe z.k) ≡ true
  may_read = both (ltb stripe (stripes_of (geometry z))) (ltb in_stripe z.k) (lt-ltb stripe (stripes_of (geometry z)) in_T) (lt-ltb in_stripe z.k in_k)

-- ---- while a write is under way

module _ (z : Shelf) (img : List ℕ) (s : State) (b : ℕ) (work buf : List ℕ) (shows : Shows s.now s.absent img work b buf) (u : Write Sector) (writes : Writes z s work u) (fair : Fair z s work img)
    (dark : (d : ℕ) → d < slots z → in_mask s.absent d ≡ true → Label.looked (size z) (label_of z s.now) d ≡ true → ⊥) where
  pub own : ours z s.now ≡ true
  own = fair.ours_now

  abbrev pub T : ℕ
  T = b / s.now.k

  abbrev pub I : ℕ
  I = b % s.now.k

  abbrev pub o : Own
  o = own_before z s

  abbrev pub seen : Image Sector
  seen = seen_of z (beyond (slots z) (in_mask s.absent)) img

  abbrev pub M : Memory Sector
  M = memory_with z u s work img

  -- what the program gives, and the code shows
  abbrev pub Shown : Type 0
  Shown = (x : ℕ → Sector) × (program_of z M (cur_of z img) (read_block T I) ≡ (M, block x)) × (shown_of s.now s.absent (laid_by Writing s.cursor.stage s.marks.redo s.marks.stripe T) img work b ≡ strip_bytes x z.c)

module _ (z : Shelf) (F : Family z) (first_one : Machine Sector) (p : View Sector) (w : World Sector) (img : List ℕ) (s : State) (b : ℕ) (work buf : List ℕ)
    (ok : read_answer s.now s.kind s.absent b (length img) (length buf) (length work) ≡ Ok tt) where
  abbrev pub Right : Kind → Type 0
  Right k = shown_of s.now s.absent (laid_by k s.cursor.stage s.marks.redo s.marks.stripe (b / s.now.k)) img work b ≡ strip_bytes (list_of p (b / s.now.k) (b % s.now.k)) z.c
