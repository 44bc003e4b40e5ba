-- START-UP, as the code begins it: by the plan of the survey and the decision about the log it begins with a state in order,
-- beside which the protocol's program remembers that same start-up. Assumes nothing.
use Rattle.std.specs.Prelude.{Bool, List, ℕ}
use Rattle.disk.specs.Mask.{in_mask}
use Rattle.label.specs.declared.fields.Label as bytes
use Rattle.rounds.specs.Survey.{next_of, plan_of}
use Rattle.rounds.specs.declared.plan.Plan.{Plan}
use Rattle.protocol.specs.Program.{beyond}
use Rattle.codecs.specs.Shelf.{Shelf, slots, geometry}
use Rattle.stages.specs.declared.state.State.{State}
use Rattle.stages.specs.declared.state.Kind.TheVariants.{Starting}
use Rattle.requests.specs.Begun.{slots_but}
use Rattle.requests.specs.Start.{marks_with}

module _ (z : Shelf) (img : List ℕ) (absent : ℕ) (l : bytes.Label) where
  -- the absent slots, and those beyond the shelf
  abbrev pub A : ℕ → Bool
  A = beyond (slots z) (in_mask absent)

  abbrev pub p : Plan
  p = plan_of (geometry z) img absent l

  abbrev pub new : bytes.Label
  new = next_of (geometry z) img absent l

  -- the state with which it begins, with this to be done about the log
  abbrev pub begins : ℕ → ℕ → Bool → State
  begins redo stripe forward =
      record {
        now = p.lead;
        next = p.next;
        absent = absent;
        epoch = p.next.generation;
        count = 0;
        marks = marks_with (slots_but absent (slots z)) p redo stripe forward;
        kind = Starting;
        cursor = record { stage = 0; slot = 0; sector = 0 };
      }
