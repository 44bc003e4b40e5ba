-- What start-up owes: it flushes each present slot first, each that takes part is told in each of the three rounds, and the logs are acted on behind the labels. A proof
-- that opens these definitions takes these facts first, so that a wrong round or order is noticed here, and soon. Assumes nothing.
use Rattle.std.specs.Prelude.{◌≡◌, Bool, ◌<◌}
use Rattle.std.proofs.Math.Bool.{false, not}
use mathlib.Core.List.{List, Memᴰ}
use Prim.Native.Nat.{ℕ}
use Rattle.protocol.specs.World.{Image, World, Action, run, run_append}
use Rattle.protocol.specs.Slots.{slots, in_slots}
use Rattle.protocol.specs.Log.{RecordCodec}
use Rattle.protocol.specs.Label.{Size, Quorum, LabelCodec}
use Rattle.protocol.specs.Host.{Code}
use Rattle.protocol.specs.Program.{Stamps, Medium, flushed_first}
use Rattle.protocol.specs.Startup.{gone, level_to, again_to, last_to}
use Rattle.protocol.specs.Decide.{in_turn}

pub rounds_told : (X : Type 0) (z : Size) (C : LabelCodec X z.n) (absent : ℕ → Bool) (f : Image X) (d : ℕ) → d < z.n → gone z C absent f d ≡ false
    → Memᴰ d (level_to z C absent f) × Memᴰ d (again_to z C absent f) × Memᴰ d (last_to z C absent f)
unfolding level_to again_to last_to
rounds_told X z C absent f d i e = (at, at, at)
  where
    at : Memᴰ d (slots z.n (λ x. not (gone z C absent f x)))
    at = in_slots (λ x. not (gone z C absent f x)) z.n d i (rw e)

pub turn_told : (X : Type 0) (w : World X) (labels logs : List (Action X)) → run w (in_turn labels logs) ≡ run (run w labels) logs
unfolding in_turn
turn_told X w labels logs = run_append w labels logs

pub flushed_told : (X : Type 0) (z : Size) (W : Quorum z.n) (C : LabelCodec X z.n) (K : RecordCodec X) (E : Code X z.n K.c W) (S : Stamps) (R : Medium z W C K E S)
    → (absent : ℕ → Bool) (d : ℕ) → d < z.n → absent d ≡ false → Memᴰ d (flushed_first z W C K E S R absent)
unfolding flushed_first
flushed_told X z W C K E S R absent d i e = in_slots (λ x. not (absent x)) z.n d i (rw e)
