-- The write request: log, flush (`log_safe`), strips, flush (`strips_safe`). Whatever a cut leaves at any moment, the shelf is in the old state or in the new one;
-- at the end it is quiet, with the new table.
use Prim.Native.Nat.{ℕ, suc, ◌<◌}
use Rattle.std.specs.Prelude.{◌≡◌, Bool, true, false, ◌&&◌, ◌⊎◌}
use Rattle.std.proofs.Math.Path.{refl}
use Rattle.std.proofs.Common.{arith}
use Rattle.std.proofs.lemmas.Bool.{false≢true}
use mathlib.Core.List.{List, Memᴰ}
use Rattle.protocol.specs.World.{Place, label, log, strip, Image, Action}
use Rattle.protocol.specs.Batch.{Batch, actions}
use Rattle.protocol.specs.Slots.{from, slots, rows, in_from, of_from}
use Rattle.protocol.specs.Log.{Write, RecordCodec, Belief, Table, Old, New}

pub both : (a b : Bool) → (a && b) ≡ true → (a ≡ true) × (b ≡ true)
both true true e = (refl, refl)
both true false e = absurd (false≢true e)
both false true e = absurd (false≢true e)
both false false e = absurd (false≢true e)

-- the slots that the write changes, as far as they are believed
unfoldable pub involved : Belief → ℕ → (ℕ → Bool) → List ℕ
involved B t ch = slots B.n (λ d. B.believe d t && ch d)

module _ {X : Type 0} (K : RecordCodec X) where
  abbrev pub logged : ℕ → Write X → Place → X
  logged σ w (label d b) = K.zeros
  logged σ w (log d j) = K.sector σ w d j
  logged σ w (strip d t j) = K.zeros

  abbrev pub stored : (ℕ → ℕ → X) → Place → X
  stored v (label d b) = K.zeros
  stored v (log d j) = K.zeros
  stored v (strip d t j) = v d j

  -- the sectors of a record, the tail last; and those of a strip
  unfoldable pub logged_sectors : List ℕ
  logged_sectors = from 0 (suc K.c)

  unfoldable pub stored_sectors : List ℕ
  stored_sectors = from 0 K.c

  pub stored_in : (j : ℕ) → j < K.c → Memᴰ j stored_sectors
  unfolding stored_sectors
  stored_in j h = in_from K.c 0 j (omega arith) (omega arith)

  pub stored_of : (j : ℕ) → Memᴰ j stored_sectors → j < K.c
  unfolding stored_sectors
  stored_of j m = omega (arith, of_from K.c 0 j m)

  -- steps 2 and 3: the record on each involved slot, then a flush of each
  unfoldable pub log_batch : Belief → ℕ → Write X → Batch X
  log_batch B σ w =
      record {
        value = logged σ w;
        places = rows log logged_sectors (involved B w.stripe w.changes);
        flushed = involved B w.stripe w.changes;
      }

  -- steps 4 and 5: the strip on each involved slot, then a flush of each
  unfoldable pub store_batch : Belief → ℕ → (ℕ → Bool) → (ℕ → ℕ → X) → Batch X
  store_batch B t changes v =
      record {
        value = stored v;
        places = rows (λ d j. strip d t j) stored_sectors (involved B t changes);
        flushed = involved B t changes;
      }

  abbrev pub log_write : Belief → ℕ → Write X → List (Action X)
  log_write B σ w = actions (log_batch B σ w)

  abbrev pub store : Belief → ℕ → (ℕ → Bool) → (ℕ → ℕ → X) → List (Action X)
  store B t changes v = actions (store_batch B t changes v)

  -- the write under way (stamp u) is either not yet in the strips, or safe in the log
  unfoldable pub Mid : Belief → (ℕ → Write X) → ℕ → Table X → Table X → Image X → Type 0
  Mid B history u s s' f = Old K B history u u s f ⊎ New K B history u s' f
