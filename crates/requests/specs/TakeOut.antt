-- Take a slot out: when it is refused, and the label change that it begins. Assumes nothing.
use Rattle.std.specs.Prelude.{Bool, cond, not, ◌&&◌, ◌||◌, List, ℕ, ◌+◌, leb, ltb, eqb, Ok, Err}
use Rattle.std.specs.Int.Count.{ones}
use Rattle.disk.specs.Mask.{in_mask, with_slot}
use Rattle.disk.specs.declared.refusal.Refusal.TheVariants.{TooFew, BadBlock, Busy, NotNow, BadBuffer}
use Rattle.disk.specs.Refusal.{Outcome}
use Rattle.label.specs.Fields.{no_slot, most_generation}
use Rattle.label.specs.declared.fields.Label.{Label}
use Rattle.requests.specs.Begun.{work_bytes, begun, first, slots_but, marks_of}
use Rattle.requests.specs.Ready.{is_idle, ready_of}
use Rattle.stages.specs.declared.state.State.{State}
use Rattle.stages.specs.declared.state.Marks.{Marks}
use Rattle.stages.specs.declared.state.Kind.{Kind}
use Rattle.stages.specs.declared.state.Kind.TheVariants.{Labelling}
use Rattle.requests.specs.Begun.{Begun}

-- the slots that are out once slot d is; a number that no slot has changes nothing
unfoldable pub out_with : Label → ℕ → ℕ
out_with l d = cond (ltb d (l.k + l.m)) (with_slot l.out d) l.out

-- slot d is out and not being rebuilt
unfoldable pub plainly_out : Label → ℕ → Bool
plainly_out l d = not (eqb l.rebuilding d) && in_mask l.out d

-- there is nothing to take out of slot d: it is absent, or plainly out
unfoldable pub out_now : Label → ℕ → ℕ → Bool
out_now l absent d = in_mask absent d || plainly_out l d

-- more than m slots out after the change: TOO_FEW; no such slot: BAD_BLOCK; a request under way: BUSY; absent or plainly out already,
-- or no generation left: NOT_NOW; another work area: BAD_BUFFER
unfoldable pub out_answer : Label → Bool → ℕ → ℕ → ℕ → Outcome
out_answer l idle absent d room =
    cond (ltb l.m (ones (out_with l d))) (Err TooFew)
    (cond (leb (l.k + l.m) d) (Err BadBlock)
    (cond idle
    (cond (out_now l absent d) (Err NotNow)
    (cond (ltb most_generation (l.generation + 1)) (Err NotNow) (cond (eqb room (work_bytes (l.k + l.m) l.c)) (Ok tt) (Err BadBuffer)))) (Err Busy)))

-- what every changing request is refused for comes first
abbrev pub take_answer : Label → Kind → ℕ → List ℕ → ℕ → ℕ → Outcome
take_answer l kind absent img d room = first (ready_of l kind absent img) (out_answer l (is_idle kind) absent d room)

-- the label of the next generation, with these changes
abbrev pub next_label : Label → ℕ → ℕ → ℕ → Label
next_label l out rebuilding mark =
    record {
      k = l.k;
      m = l.m;
      slot = l.slot;
      c = l.c;
      sectors = l.sectors;
      shelf = l.shelf;
      generation = l.generation + 1;
      out = out;
      rebuilding = rebuilding;
      mark = mark;
    }

-- the label that takes slot d out; if d was being rebuilt it no longer is
unfoldable pub outed : Label → ℕ → Label
outed l d =
    cond (eqb l.rebuilding d) (next_label l (with_slot l.out d) no_slot 0) (next_label l (with_slot l.out d) l.rebuilding l.mark)

-- a label change at its beginning
abbrev pub changed : State → Label → Marks → State
changed s l marks =
    record {
      now = s.now;
      next = l;
      absent = s.absent;
      epoch = s.epoch;
      count = s.count;
      marks = marks;
      kind = Labelling;
      cursor = record { stage = 0; slot = 0; sector = 0 };
    }

-- every present slot is to get the label that takes slot d out
abbrev pub took_out : State → ℕ → State
took_out s d = changed s (outed s.now d) (marks_of (slots_but s.absent (s.now.k + s.now.m)))

abbrev pub take_out_of : State → ℕ → List ℕ → ℕ → Begun
take_out_of s d img room = begun (take_answer s.now s.kind s.absent img d room) (took_out s d)
