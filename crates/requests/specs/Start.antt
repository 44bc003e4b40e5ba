-- Start-up: the refusals of the survey, or the state with which it begins. Assumes nothing.
use Rattle.std.specs.Prelude.{◌≡◌, Bool, true, false, cond, List, ℕ, ◌≤◌, eqb, Ok, Err}
use Rattle.std.proofs.Common.{sym, ap, ◌∙◌, eq-eqb, ne_eqb}
use Rattle.disk.specs.Limits.{most_n}
use Rattle.disk.specs.Image.{fits_image_lem}
use Rattle.disk.specs.declared.geometry.Geometry.{Geometry}
use Rattle.disk.specs.declared.refusal.Refusal.{Refusal}
use Rattle.disk.specs.declared.refusal.Refusal.TheVariants.{BadBuffer}
use Rattle.rounds.specs.Survey.{survey_of}
use Rattle.rounds.specs.declared.plan.Plan.{Plan}
use Rattle.rounds.specs.Survey.{Survey}
use Rattle.rounds.proofs.Plans.{survey_grounds}
use Rattle.redo.specs.Decide.{redo_of}
use Rattle.redo.specs.declared.Redo.{Redo}
use Rattle.redo.specs.declared.Redo.TheVariants.{Nothing, Forward, Kill}
use Rattle.stages.specs.declared.state.State.{State}
use Rattle.stages.specs.declared.state.Marks.{Marks}
use Rattle.stages.specs.declared.state.Kind.TheVariants.{Starting}
use Rattle.requests.specs.Begun.{work_bytes, slots_but}
use Rattle.requests.specs.Begun.{Begun}

-- who takes part, who adopts (and is prepared first), and what is done about the log
abbrev pub marks_with : ℕ → Plan → ℕ → ℕ → Bool → Marks
marks_with present p redo stripe forward =
    record {
      present = present;
      parts = p.parts;
      late = p.late;
      prep = p.late;
      zeroed = p.zeroed;
      redo = redo;
      stripe = stripe;
      forward = forward;
    }

abbrev pub marks_by : ℕ → Plan → Redo → Marks
marks_by present p Nothing = marks_with present p 0 0 false
marks_by present p (Forward stripe slots) = marks_with present p slots stripe true
marks_by present p (Kill slots) = marks_with present p slots 0 false

abbrev pub started : Geometry → ℕ → Plan → List ℕ → State
started g absent p img =
    record {
      now = p.lead;
      next = p.next;
      absent = absent;
      epoch = p.next.generation;
      count = 0;
      marks = marks_by (slots_but absent g.n) p (redo_of g img p.next);
      kind = Starting;
      cursor = record { stage = 0; slot = 0; sector = 0 };
    }

abbrev pub by_survey : Survey → Geometry → ℕ → List ℕ → ℕ → Begun
by_survey (Err why) g absent img room = Err why
by_survey (Ok p) g absent img room =
    cond (eqb room (work_bytes g.n g.c)) (Ok (started g absent p img)) (Err BadBuffer)

abbrev pub start_of : Geometry → ℕ → List ℕ → ℕ → Begun
start_of g absent img room = by_survey (survey_of g img absent) g absent img room

-- ---- by what the survey found

module _ (g : Geometry) (absent : ℕ) (img : List ℕ) (room : ℕ) where
  pub start_refused : (why : Refusal) → survey_of g img absent ≡ Err why → Err why ≡ start_of g absent img room
  start_refused why e = sym (ap (λ (x : Survey). by_survey x g absent img room) e)

  module _ (p : Plan) (e : survey_of g img absent ≡ Ok p) where
    by_room : by_survey (Ok p) g absent img room ≡ start_of g absent img room
    by_room = sym (ap (λ (x : Survey). by_survey x g absent img room) e)

    pub start_short : (room ≡ work_bytes g.n g.c → ⊥) → Err BadBuffer ≡ start_of g absent img room
    start_short h =
        sym (ap (λ (b : Bool). cond b (Ok (started g absent p img)) (Err BadBuffer)) (ne_eqb room (work_bytes g.n g.c) h)) ∙ by_room

    pub start_goes : room ≡ work_bytes g.n g.c → Ok (started g absent p img) ≡ start_of g absent img room
    start_goes h =
        sym (ap (λ (b : Bool). cond b (Ok (started g absent p img)) (Err BadBuffer)) (eq-eqb room (work_bytes g.n g.c) h)) ∙ by_room

    pub plan_slots : g.n ≤ most_n
    plan_slots = (fits_image_lem g img (survey_grounds g img absent p e).image_fits).0.few
