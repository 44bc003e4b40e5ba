-- Begin: when it is refused, and the state with which it begins. Assumes nothing.
use Rattle.std.specs.Prelude.{◌≡◌, Bool, true, false, cond, not, ◌&&◌, ◌||◌, List, ℕ, ◌+◌, ◌<◌, leb, eqb, Ok}
use Rattle.std.proofs.Common.{true≢false, leb-false}
use Rattle.disk.specs.Limits.{most_n}
use Rattle.disk.specs.Mask.{in_mask, with_slot, without_slot}
use Rattle.disk.specs.declared.geometry.Geometry.{Geometry}
use Rattle.disk.specs.Refusal.{Outcome}
use Rattle.label.specs.Fields.{no_slot, geometry_of, fits_of}
use Rattle.label.specs.declared.fields.Label.{Label}
use Rattle.requests.specs.Begun.{begun, first, slots_but}
use Rattle.requests.specs.Ready.{is_idle, ready_of}
use Rattle.requests.specs.Accepted.{ready_done}
use Rattle.requests.specs.TakeOut.{next_label}
use Rattle.requests.specs.Begun.{Begun}
use Rattle.stages.specs.declared.state.State.{State}
use Rattle.stages.specs.declared.state.Marks.{Marks}
use Rattle.stages.specs.declared.state.Kind.{Kind}
use Rattle.stages.specs.declared.state.Kind.TheVariants.{Beginning}
use Rattle.rebuilds.specs.Judge.{too_few, last_one, sized, judged, judged_done, first_done}
use Rattle.rebuilds.specs.Readied.{odd_first, alien, prepared, gets_zeros}

-- slot d is out or absent
unfoldable pub lacks : Label → ℕ → ℕ → Bool
lacks l absent d = in_mask l.out d || in_mask absent d

-- another slot than d is being rebuilt
unfoldable pub other_rebuilt : Label → ℕ → Bool
other_rebuilt l d = not (eqb l.rebuilding no_slot) && not (eqb l.rebuilding d)

-- slot d is neither, another slot is being rebuilt, or no generation is left
unfoldable pub cannot_begin : Label → ℕ → ℕ → Bool
cannot_begin l absent d = not (lacks l absent d) || (other_rebuilt l d || last_one l)

unfoldable pub asked_begin : Label → Bool → ℕ → ℕ → ℕ → Outcome
asked_begin l idle absent d room = judged (too_few l absent) (leb (l.k + l.m) d) idle (cannot_begin l absent d) (sized l room)

-- what every changing request is refused for comes first
abbrev pub begin_answer : Label → Kind → ℕ → List ℕ → ℕ → ℕ → Outcome
begin_answer l kind absent img d room = first (ready_of l kind absent img) (asked_begin l (is_idle kind) absent d room)

-- the mask of slot d alone, or of none
abbrev pub only : ℕ → Bool → ℕ
only d b = cond b (with_slot 0 d) 0

-- all slots that are present then; the slot; and what is done on its disk: a copy of another shelf or slot is zeroed in sector 1
-- (forward) or 0, then in the other; the disk is prepared, with zeros or with the label
abbrev pub begin_marks : Geometry → List ℕ → Label → ℕ → ℕ → Marks
begin_marks g img l absent d =
    record {
      present = cond (leb g.n most_n) (slots_but absent g.n) 0;
      parts = only d (alien g img l d (odd_first g img l d));
      late = only d (alien g img l d (not (odd_first g img l d)));
      prep = only d (not (prepared g img l d));
      zeroed = only d (gets_zeros g img l d);
      redo = only d true;
      stripe = 0;
      forward = odd_first g img l d;
    }

-- the label that says that slot d is being rebuilt, from its first strip on
abbrev pub begun_label : Label → ℕ → Label
begun_label l d = next_label l (with_slot l.out d) d 0

-- begin at its beginning: from here on the slot counts as present
abbrev pub began_with : State → Label → ℕ → Marks → State
began_with s next absent marks =
    record {
      now = s.now;
      next = next;
      absent = absent;
      epoch = s.epoch;
      count = s.count;
      marks = marks;
      kind = Beginning;
      cursor = record { stage = 0; slot = 0; sector = 0 };
    }

abbrev pub began : State → ℕ → List ℕ → State
began s d img =
    began_with s (begun_label s.now d) (without_slot s.absent d)
    (begin_marks (geometry_of s.now) img s.now (without_slot s.absent d) d)

abbrev pub begin_of : State → ℕ → List ℕ → ℕ → Begun
begin_of s d img room = begun (begin_answer s.now s.kind s.absent img d room) (began s d img)

-- ---- what is accepted

last_of : (a b c : Bool) → (not a || (b || c)) ≡ false → c ≡ false
last_of true true c e = absurd (true≢false e)
last_of true false c e = e
last_of false b c e = absurd (true≢false e)

-- a slot of a shelf in range, and a generation is left
pub record Begins (l : Label) (d : ℕ) : Type 0 where
  pub fits : fits_of l ≡ true
  pub there : d < l.k + l.m
  pub more : last_one l ≡ false

pub begin_done : (l : Label) (kind : Kind) (absent : ℕ) (img : List ℕ) (d room : ℕ) → begin_answer l kind absent img d room ≡ Ok tt → Begins l d
unfolding asked_begin cannot_begin
begin_done l kind absent img d room e =
    let f = first_done (ready_of l kind absent img) (asked_begin l (is_idle kind) absent d room) e in
    let p = judged_done (too_few l absent) (leb (l.k + l.m) d) (is_idle kind) (cannot_begin l absent d) (sized l room) f.1 in
    record {
      fits = ready_done l kind absent img f.0;
      there = leb-false (l.k + l.m) d p.there;
      more = last_of (lacks l absent d) (other_rebuilt l d) (last_one l) p.time;
    }
