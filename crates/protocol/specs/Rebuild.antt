-- Rebuild: begin, on, healthy. A rebuild never changes the table; what a label calls rebuilt or healthy is right on disk, flushed, before any disk may hold that label.
use Prim.Native.Nat.{ℕ, suc}
use Rattle.std.specs.Prelude.{not, ◌&&◌, eqb}
use mathlib.Core.List.{List, [], ◌∷◌, ◌++◌}
use Rattle.protocol.specs.World.{Place, label, log, strip, Image, Action}
use Rattle.protocol.specs.Batch.{Batch, actions, flushes}
use Rattle.protocol.specs.Slots.{from, rows}
use Rattle.protocol.specs.Startup.{Shelf}
use Rattle.protocol.specs.Log.{Write, RecordCodec, Belief, Table, Quiet}
use Rattle.protocol.specs.Label.{Label, Size, belief, Quorum, LabelCodec, round, expelled, prep}

-- the labels of a rebuild
-- begin: d, plainly out until now, is being rebuilt, mark 0
abbrev pub begun : Label → ℕ → Label
begun Q d = record { generation = suc Q.generation; out = Q.out; rebuilding = d; mark = 0 }

-- on: the mark is raised
abbrev pub raised : Label → ℕ → Label
raised Q m = record { generation = suc Q.generation; out = Q.out; rebuilding = Q.rebuilding; mark = m }

-- the last strip: healthy (n is no slot)
abbrev pub healed : ℕ → Label → Label
healed n Q = record { generation = suc Q.generation; out = λ e. Q.out e && not (eqb e Q.rebuilding); rebuilding = n; mark = 0 }

module _ {X : Type 0} (K : RecordCodec X) where
  -- all sectors of a record are wiped, and all sectors of a strip are filled
  unfoldable pub wiped_sectors : List ℕ
  wiped_sectors = from 0 (suc K.c)

  unfoldable pub filled_sectors : List ℕ
  filled_sectors = from 0 K.c

  -- BEGIN: flush d; zeros over copies of another shelf or slot; zeros over the log of d, flush; prep; then the round
  unfoldable pub wipe_batch : ℕ → Batch X
  wipe_batch d =
      record {
        value = λ k. K.zeros;
        places = rows log wiped_sectors (d ∷ []);
        flushed = d ∷ [];
      }

  abbrev pub wipe : ℕ → List (Action X)
  wipe d = actions (wipe_batch d)

  -- d is flushed before it is looked at: what was read there is then certain
  unfoldable pub flushed_at_begin : ℕ → List ℕ
  flushed_at_begin d = d ∷ []

  -- copies of another shelf or slot go before anything else of the disk changes: for its old shelf it is untouched, or has no label
  unfoldable pub expel_first : List (Action X) → List (Action X) → List (Action X)
  expel_first labels others = labels ++ others

  abbrev pub beginning : {n : ℕ} → LabelCodec X n → Image X → Label → ℕ → List ℕ → List (Action X)
  beginning C f0 Q d ds = flushes (flushed_at_begin d) ++ expel_first (expelled C f0 d) (wipe d ++ (prep C f0 Q.generation Q (d ∷ []) ++ round C (begun Q d) ds))

  -- ON: the strips from the mark on, flush; then the round
  abbrev pub filled : (ℕ → ℕ → X) → Place → X
  filled v (label d b) = K.zeros
  filled v (log d j) = K.zeros
  filled v (strip d t j) = v t j

  unfoldable pub fill_batch : Label → ℕ → (ℕ → ℕ → X) → Batch X
  fill_batch Q more v =
      record {
        value = filled v;
        places = rows (λ t j. strip Q.rebuilding t j) filled_sectors (from Q.mark more);
        flushed = Q.rebuilding ∷ [];
      }

  abbrev pub fill : Label → ℕ → (ℕ → ℕ → X) → List (Action X)
  fill Q more v = actions (fill_batch Q more v)

module _ {X : Type 0} (z : Size) (W : Quorum z.n) (C : LabelCodec X z.n) (K : RecordCodec X) (history : ℕ → Write X) (u : ℕ) (s : Table X) where
  abbrev pub QuietB : Belief → Image X → Type 0
  QuietB B f = Quiet K B history u s f

  -- what holds all the while: the invariant with nothing undecided, and what reads need
  abbrev pub Keeps : Label → Image X → Type 0
  Keeps Q f = Shelf z W C Q QuietB f × QuietB (belief z Q) f
