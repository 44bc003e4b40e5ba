-- A state with another cursor, and at rest. Assumes nothing.
use Rattle.std.specs.Prelude.{ℕ}
use Rattle.stages.specs.declared.state.State.{State}
use Rattle.stages.specs.declared.state.Kind.TheVariants.{Idle}

abbrev pub moved : State → ℕ → ℕ → ℕ → State
moved s stage slot sector =
    record {
      now = s.now;
      next = s.next;
      absent = s.absent;
      epoch = s.epoch;
      count = s.count;
      marks = s.marks;
      kind = s.kind;
      cursor = record { stage = stage; slot = slot; sector = sector };
    }

-- the request is done: its label is settled
abbrev pub rested : State → State
rested s =
    record {
      now = s.next;
      next = s.next;
      absent = s.absent;
      epoch = s.epoch;
      count = s.count;
      marks = s.marks;
      kind = Idle;
      cursor = record { stage = 0; slot = 0; sector = 0 };
    }
