-- What a request answers at once: its first state, or a refusal, by which the state stays as it was. Assumes nothing.
use Rattle.std.specs.Prelude.{◌≡◌, refl, false, cond, ◌&&◌, ℕ, zero, suc, ◌*◌, leb, Result, Ok, Err}
use Rattle.disk.specs.Limits.{least_n, most_n, sector_bytes}
use Rattle.disk.specs.Geometry.{strip_length}
use Rattle.disk.specs.Mask.{in_mask, with_slot}
use Rattle.disk.specs.declared.refusal.Refusal.{Refusal}
use Rattle.disk.specs.Refusal.{Outcome}
use Rattle.stages.specs.declared.state.State.{State}
use Rattle.stages.specs.declared.state.Marks.{Marks}

-- the work area: each slot's strip twice
unfoldable pub work_bytes : ℕ → ℕ → ℕ
work_bytes n c = cond (leb least_n n && (leb n most_n && strip_length c)) (2 * n * c * sector_bytes) 0

abbrev pub Begun : Type 0
Begun = Result State Refusal

-- t, unless the request is refused
abbrev pub begun : Outcome → State → Begun
begun (Ok tt) t = Ok t
begun (Err why) t = Err why

-- whether the request goes on
abbrev pub outcome_of : Begun → Outcome
outcome_of (Ok t) = Ok tt
outcome_of (Err why) = Err why

-- the state that is held after a request on s: a refusal leaves s
abbrev pub state_of : State → Begun → State
state_of s (Ok t) = t
state_of s (Err why) = s

pub begun_says : (o : Outcome) (t : State) → outcome_of (begun o t) ≡ o
begun_says (Ok tt) t = refl
begun_says (Err why) t = refl

-- its outcome and its state say it whole
pub begun_whole : (s : State) (b : Begun) → begun (outcome_of b) (state_of s b) ≡ b
begun_whole s (Ok t) = refl
begun_whole s (Err why) = refl

-- the first refusal of two
abbrev pub first : Outcome → Outcome → Outcome
first (Ok tt) o = o
first (Err why) o = Err why

-- slot d is put in, unless it is absent
unfoldable pub joined : ℕ → ℕ → ℕ → ℕ
joined absent mask d = cond (in_mask absent d) mask (with_slot mask d)

-- the slots below n that are not absent: see `slots_are`
unfoldable pub slots_but : ℕ → ℕ → ℕ
slots_but absent zero = 0
slots_but absent (suc n) = joined absent (slots_but absent n) n

abbrev pub marks_of : ℕ → Marks
marks_of present =
    record {
      present = present;
      parts = 0;
      late = 0;
      prep = 0;
      zeroed = 0;
      redo = 0;
      stripe = 0;
      forward = false;
    }
