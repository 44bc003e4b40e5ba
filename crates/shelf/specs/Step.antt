-- The next step: the answer, the state and the image that it leaves. Assumes nothing.
use Rattle.std.specs.Prelude.{Bool, true, false, cond, ◌&&◌, List, ℕ, zero, suc, ◌+◌, ◌-◌, ltb, leb, length}
use Rattle.disk.specs.Image.{fits_image}
use Rattle.disk.specs.Mask.{in_mask}
use Rattle.disk.specs.declared.geometry.Geometry.{Geometry}
use Rattle.disk.specs.declared.refusal.Refusal.TheVariants.{BadImage, NotNow}
use Rattle.label.specs.Fields.{geometry_of, fits_of}
use Rattle.stages.specs.Limits.{most_stages}
use Rattle.stages.specs.State.{moved, rested}
use Rattle.stages.specs.Stage.{slots_of, stage_of}
use Rattle.shelf.specs.Act.{Move, refusal, refuses, act_move}
use Rattle.stages.specs.declared.state.State.{State}
use Rattle.stages.specs.Told.{Told}
use Rattle.stages.specs.declared.state.Kind.{Kind}
use Rattle.stages.specs.declared.state.Kind.TheVariants.{Nothing, Idle, Creating, Starting, Labelling, Writing, Beginning, Filling}
use Rattle.stages.specs.Told.{Answer}
use Rattle.stages.specs.Told.{Put, Flush, Done, Refused}
use Rattle.stages.specs.declared.stage.Stage.{Stage}
use Rattle.stages.specs.declared.stage.Stage.TheVariants as stage

-- the first of k slots from d on that is in the mask, or the one behind them
unfoldable pub seek : ℕ → ℕ → ℕ → ℕ
seek mask zero d = d
seek mask (suc k) d = cond (in_mask mask d) d (seek mask k (suc d))

abbrev pub is_end : Stage → Bool
is_end (stage.Flush slots) = false
is_end (stage.Give slots zeroed l) = false
is_end (stage.Wipe slots) = false
is_end (stage.Restore slots t) = false
is_end (stage.Log slots t shards) = false
is_end (stage.Store slots t) = false
is_end (stage.Clear slots) = false
is_end (stage.Erase slots odd) = false
is_end (stage.Fill slots first count) = false
is_end stage.End = true

-- the request has succeeded
abbrev pub done : State → Told
done s = record { state = rested s; answer = Done }

abbrev pub finished : State → List ℕ → Move
finished s img = record { stepped = done s; image = img }

-- the next stage
abbrev pub on_stage : State → State
on_stage s = moved s (s.cursor.stage + 1) 0 0

-- the slot that comes next in this stage
abbrev pub next_slot : State → Geometry → ℕ
next_slot s g = seek (slots_of (stage_of s)) (g.n - s.cursor.slot) s.cursor.slot

-- the first stage that has an action left does it; or the request is done. (Fewer than `left` stages have none.)
unfoldable pub walk : ℕ → State → Geometry → List ℕ → List ℕ → Move
walk zero s g work img = finished s img
walk (suc left) s g work img =
    cond (is_end (stage_of s)) (finished s img)
    (cond (ltb (next_slot s g) g.n) (act_move s g (stage_of s) (next_slot s g) work img) (walk left (on_stage s) g work img))

-- where the step was refused, the state is as it was
abbrev pub by_answer : Answer → State → Told → Told
by_answer (Put d to) s r = r
by_answer (Flush d) s r = r
by_answer Done s r = r
by_answer (Refused why) s r = refusal s why

abbrev pub kept : State → Told → Told
kept s r = by_answer r.answer s r

abbrev pub keeps : State → Move → Move
keeps s m = record { stepped = kept s m.stepped; image = m.image }

abbrev pub under_way : Kind → Bool
under_way Nothing = false
under_way Idle = false
under_way Creating = true
under_way Starting = true
under_way Labelling = true
under_way Writing = true
under_way Beginning = true
under_way Filling = true

-- a state with a request under way, its fields in range
unfoldable pub sound : State → Bool
sound s = fits_of s.now && (under_way s.kind && (leb s.cursor.stage most_stages && ltb s.cursor.sector s.now.sectors))

unfoldable pub step_move : State → List ℕ → List ℕ → Move
step_move s work img =
    cond (sound s)
    (cond (fits_image (geometry_of s.now) (length img)) (keeps s (walk most_stages s (geometry_of s.now) work img)) (refuses s BadImage img))
    (refuses s NotNow img)
