-- The stages of each request. Assumes nothing.
use Rattle.std.specs.Prelude.{cond, not, ℕ, ◌+◌, ◌-◌, eqb, leb}
use Rattle.label.specs.Fields.{most_generation}
use Rattle.label.specs.declared.fields.Label.{Label}
use Rattle.stages.specs.declared.state.State.{State}
use Rattle.stages.specs.declared.state.Marks.{Marks}
use Rattle.stages.specs.declared.state.Kind.{Kind}
use Rattle.stages.specs.declared.state.Kind.TheVariants.{Nothing, Idle, Creating, Starting, Labelling, Writing, Beginning, Filling}
use Rattle.stages.specs.declared.stage.Stage.{Stage}
use Rattle.stages.specs.declared.stage.Stage.TheVariants.{Flush, Give, Wipe, Restore, Log, Store, Clear, Erase, Fill, End}

-- the label with another generation
abbrev pub again : Label → ℕ → Label
again l g =
    record {
      k = l.k;
      m = l.m;
      slot = l.slot;
      c = l.c;
      sectors = l.sectors;
      shelf = l.shelf;
      generation = g;
      out = l.out;
      rebuilding = l.rebuilding;
      mark = l.mark;
    }

-- the slots that a stage goes over
abbrev pub slots_of : Stage → ℕ
slots_of (Flush slots) = slots
slots_of (Give slots zeroed l) = slots
slots_of (Wipe slots) = slots
slots_of (Restore slots stripe) = slots
slots_of (Log slots stripe shards) = slots
slots_of (Store slots stripe) = slots
slots_of (Clear slots) = slots
slots_of (Erase slots odd) = slots
slots_of (Fill slots first count) = slots
slots_of End = 0

-- a round: the label to each slot, then a flush of each
unfoldable pub round_stage : ℕ → ℕ → Label → Stage
round_stage i slots l = cond (eqb i 0) (Give slots 0 l) (cond (eqb i 1) (Flush slots) End)

-- start-up behind its rounds: the stale slots are prepared and adopt the settled label; then the log
unfoldable pub late_stage : State → ℕ → Stage
late_stage s i =
    cond (eqb i 0) (Give s.marks.prep s.marks.zeroed (again s.next (s.now.generation + 1)))
    (cond (eqb i 1) (Flush s.marks.prep)
    (cond (leb i 3) (round_stage (i - 2) s.marks.late s.next)
    (cond (eqb i 4) (cond s.marks.forward (Restore s.marks.redo s.marks.stripe) (Wipe s.marks.redo))
    (cond (eqb i 5) (Flush s.marks.redo) End))))

-- start-up: a flush of all, then three rounds: the label as it stands, once more with the next generation, and the one
-- that it settles
unfoldable pub start_stage : State → ℕ → Stage
start_stage s i =
    cond (eqb i 0) (Flush s.marks.present)
    (cond (leb i 2) (round_stage (i - 1) s.marks.parts s.now)
    (cond (leb i 4) (round_stage (i - 3) s.marks.parts (again s.now (s.now.generation + 1)))
    (cond (leb i 6) (round_stage (i - 5) s.marks.parts s.next) (late_stage s (i - 7)))))

-- create: a flush of all, then the first label to all
unfoldable pub create_stage : State → ℕ → Stage
create_stage s i = cond (eqb i 0) (Flush s.marks.present) (round_stage (i - 1) s.marks.present s.next)

-- a write: the records, flushed, and then the strips, flushed
unfoldable pub write_stage : Marks → ℕ → Stage
write_stage x i =
    cond (eqb i 0) (Log x.redo x.stripe x.parts) (cond (eqb i 2) (Store x.redo x.stripe) (cond (leb i 3) (Flush x.redo) End))

-- begin from its record on: the record is cleared, the disk prepared, and the label told to all
unfoldable pub last_stage : State → ℕ → Stage
last_stage s i =
    cond (eqb i 0) (Clear s.marks.redo)
    (cond (eqb i 1) (Flush s.marks.redo)
    (cond (eqb i 2) (Give s.marks.prep s.marks.zeroed s.now)
    (cond (eqb i 3) (Flush s.marks.prep) (round_stage (i - 4) s.marks.present s.next))))

-- begin: a flush of the slot, then zeros over labels of another shelf, one at a time, each flushed
unfoldable pub begin_stage : State → ℕ → Stage
begin_stage s i =
    cond (eqb i 0) (Flush s.marks.redo)
    (cond (eqb i 1) (Erase s.marks.parts s.marks.forward)
    (cond (eqb i 2) (Flush s.marks.parts)
    (cond (eqb i 3) (Erase s.marks.late (not s.marks.forward))
    (cond (eqb i 4) (Flush s.marks.late) (last_stage s (i - 5))))))

-- a rebuild: the strips from the mark on, flushed, and then the label with the mark behind them, told to all
unfoldable pub fill_stage : State → ℕ → Stage
fill_stage s i =
    cond (eqb i 0) (Fill s.marks.redo s.now.mark s.marks.stripe)
    (cond (eqb i 1) (Flush s.marks.redo) (round_stage (i - 2) s.marks.present s.next))

-- stage i of a request
abbrev pub stage_at : Kind → State → ℕ → Stage
stage_at Nothing s i = End
stage_at Idle s i = End
stage_at Creating s i = create_stage s i
stage_at Starting s i = start_stage s i
stage_at Labelling s i = round_stage i s.marks.present s.next
stage_at Writing s i = write_stage s.marks i
stage_at Beginning s i = begin_stage s i
stage_at Filling s i = fill_stage s i

-- the stage at which the request is
abbrev pub stage_of : State → Stage
stage_of s = stage_at s.kind s s.cursor.stage

-- what the code takes for it: none where the label's generation is out of range
abbrev pub stage_for : State → Stage
stage_for s = cond (leb s.now.generation most_generation) (stage_of s) End
