-- What a step tells: the state that it leaves, and what it did, or why it was refused. Assumes nothing.
use Rattle.std.specs.Prelude.{ℕ, Result, Ok, Err}
use Rattle.disk.specs.declared.refusal.Refusal.{Refusal}
use Rattle.stages.specs.declared.state.State.{State}
use Rattle.stages.specs.declared.state.Did.{Did}
use Rattle.stages.specs.declared.state.Did.TheVariants as did
use Rattle.stages.specs.declared.state.Stepped.{Stepped}

pub data Answer : Type 0 where
  Put : (slot sector : ℕ) → Answer
  Flush : (slot : ℕ) → Answer
  Done : Answer
  Refused : (why : Refusal) → Answer

pub record Told : Type 0 where
  pub state : State
  pub answer : Answer

abbrev pub answer_of : Did → Answer
answer_of (did.Put slot sector) = Put slot sector
answer_of (did.Flush slot) = Flush slot
answer_of did.Done = Done

-- what the result of a step on that state tells: where the step was refused, the state is as it was
abbrev pub told : State → Result Stepped Refusal → Told
told s (Ok x) = record { state = x.state; answer = answer_of x.did }
told s (Err why) = record { state = s; answer = Refused why }
