-- What `Rattle.redo` decides about the log is what the protocol's start-up decides: the tails that are looked at, the greatest
-- stamp, whether its write is whole, and who is written or wiped; where no tail that is looked at is garbage. In a world that the
-- protocol keeps none is (`logs_fair`). Assumes nothing.
use Rattle.std.specs.Prelude.{◌≡◌, ◌&&◌, ◌||◌}
use Rattle.std.proofs.Math.Path.{ap, fun_ext}
use Rattle.std.proofs.Math.Logic.{⊎_elim}
use Rattle.std.proofs.Math.Bool.{Bool, true, false, not}
use mathlib.Core.List.{List}
use Prim.Native.Nat.{ℕ, ◌≤◌, ◌<◌}
use Rattle.std.proofs.Math.Dec.{ltb}
use borrow.Author.Tests.{le-ltb}
use Rattle.disk.specs.Image.{lt_or_ge}
use Rattle.disk.specs.Mask.{in_mask}
use Rattle.disk.specs.Geometry.{stripes_of}
use Rattle.label.specs.declared.fields.Label as bytes
use Rattle.record.specs.Stamp.{stamp_at, zero_stamp}
use Rattle.record.specs.Tail.{tail_at, may_be}
use Rattle.record.specs.declared.stamp.Stamp.{Stamp}
use Rattle.record.specs.declared.tail.Tail.{Tail}
use Rattle.redo.specs.Decide.{plainly_out, looked, believed, log_at, key_of, lead_of}
use Rattle.protocol.specs.World.{label, log, strip, Image}
use Rattle.protocol.specs.Log.{RecordCodec, Belief}
use Rattle.protocol.specs.Label.{belief}
use Rattle.protocol.specs.Label as Label
use Rattle.protocol.specs.Redo as Redo
use Rattle.codecs.specs.Sector.{Sector}
use Rattle.codecs.specs.Shelf.{Shelf, slots, geometry, size}
use Rattle.codecs.specs.Labels.{label_of}
use Rattle.refine.specs.Disks.{Disks, seen_of}
use Rattle.refine.specs.Rounds.{slot_test}

module _ (z : Shelf) (l : bytes.Label) where
  abbrev pub B : Belief
  B = belief (size z) (label_of z l)

  -- ---- who is looked at, and what is believed

  pub look_is : (d : ℕ) → Label.looked (size z) (label_of z l) d ≡ looked (geometry z) l d
  unfolding looked plainly_out
  look_is d = ⊎_elim (λ (h : d < slots z). ap (λ (b : Bool). ltb d (slots z) && not (in_mask l.out d && not b)) (slot_test z l.rebuilding d h)) (λ (h : slots z ≤ d). rw (le-ltb d (slots z) h)) (lt_or_ge d (slots z))

  pub believe_is : (d t : ℕ) → Label.believed (size z) (label_of z l) d t ≡ believed (geometry z) l d t
  unfolding believed
  believe_is d t = ap (λ (b : Bool). b && (ltb t (stripes_of (geometry z)) && (not (in_mask l.out d) || ltb t l.mark))) (look_is d)

  module _ (img : List ℕ) (disks : Disks z img) (A : ℕ → Bool) (dark : (d : ℕ) → looked (geometry z) l d ≡ true → A d ≡ false) where
    abbrev pub f0 : Image Sector
    f0 = seen_of z A img

    -- no tail that is looked at and has a stamp is garbage
    abbrev pub Fair : Type 0
    Fair = (d : ℕ) → looked (geometry z) l d ≡ true → zero_stamp (stamp_at (log_at (geometry z) img d z.c)) ≡ false
        → may_be (tail_at (log_at (geometry z) img d z.c)) (stripes_of (geometry z)) (slots z) l.generation ≡ true

    module _ (fair : Fair) where
      abbrev pub keys : ℕ → Stamp
      keys = key_of (geometry z) img l

      -- the leader, and its tail
      abbrev pub top : ℕ
      top = lead_of (geometry z) img l

      abbrev pub tail_read : Tail
      tail_read = tail_at (log_at (geometry z) img top z.c)

-- ---- what the log decides goes by the log alone: labels that are put meanwhile make no difference

-- the log of an image, and nothing else
abbrev logged : {X : Type 0} → X → (ℕ → ℕ → X) → Image X
logged x h (label d b) = x
logged x h (log d j) = h d j
logged x h (strip d t j) = x

pub redo_same : {X : Type 0} (K : RecordCodec X) (B : Belief) (f g : Image X) → ((d j : ℕ) → f (log d j) ≡ g (log d j)) → Redo.redo K B f ≡ Redo.redo K B g
unfolding Redo.redo Redo.whole Redo.complete_b Redo.forward Redo.marked Redo.kill_batch
redo_same K B f g e =
    let h : ◌≡◌ {A = ℕ → ℕ → _} (λ d j. f (log d j)) (λ d j. g (log d j)) = fun_ext (λ d. fun_ext (λ j. e d j)) in
    ap (λ h. Redo.redo K B (logged K.zeros h)) h
