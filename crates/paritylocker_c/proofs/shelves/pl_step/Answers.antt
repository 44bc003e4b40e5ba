-- The shelf's step on the state that was lent; what it hands back is kept unless it was refused. Assumes nothing.
use Prim.Native.Nat.{ℕ, ◌*◌}
use mathlib.Core.Path.{◌≡◌, refl, sym, ap, ap₂, ◌∙◌}
use mathlib.Core.Bool.{true, false}
use mathlib.Core.List.{List}
use Rattle.disk.specs.Refusal.{Outcome}
use Rattle.memory.specs.Bytes.{state_at, after_write}
use Rattle.shelf.specs.Act.{Move}
use Rattle.stages.specs.declared.state.State.{State}
use Rattle.stages.specs.declared.state.Did.{Did}
use Rattle.stages.specs.declared.state.Did.TheVariants.{Put, Flush, Done}
use Rattle.stages.specs.Told.{Told, answer_of, told}
use Rattle.requests.specs.Step.{step_with}
use Rattle.paritylocker_c.specs.Ended.{done_number}
use Rattle.paritylocker_c.specs.Shelf.{answer_number, is_refused, after_answer, kept_not, kept_is}
use Rattle.paritylocker_c.proofs.shelves.pl_step.Goals as goal

not_refused : (did : Did) → is_refused (answer_of did) ≡ false
not_refused (Put slot sector) = refl
not_refused (Flush slot) = refl
not_refused Done = refl

pub returns-in-Err : goal.returns-in-Err
returns-in-Err c = let a = c.args in
    let q = ap₂ (λ (s : State) (w : List ℕ). step_with s a.image.now w) c.read-s.ensures c.area.ensures in
    let e = sym (ap (told c.read-s.result) c.in-Err.is) ∙ c.step.ensures.0 ∙ ap (λ (m : Move). m.stepped) q in (
      ap (λ (n : ℕ). 256 * n) (c.from.ensures ∙ c.number.ensures) ∙ ap (λ (x : Told). answer_number (done_number (state_at a.state.now)) x.answer) e,
      c.step.ensures.1 ∙ ap (λ (m : Move). m.image) q,
      kept_not true c.read-s.result a.state.now refl ∙ ap (λ (x : Told). after_answer x.answer x.state a.state.now) e,
      refl,
    )

pub returns-in-Ok : goal.returns-in-Ok
returns-in-Ok c = let a = c.args in
    let q = ap₂ (λ (s : State) (w : List ℕ). step_with s a.image.now w) c.read-s.ensures c.area.ensures in
    let e = sym (ap (told c.read-s.result) c.in-Ok.is) ∙ c.step.ensures.0 ∙ ap (λ (m : Move). m.stepped) q in
    let w = c.write.ensures in
    let x = c.in-Ok.done in (
      c.did_number.ensures ∙ ap₂ (λ (n : ℕ) (y : Told). answer_number n y.answer) (c.done_number-end.ensures ∙ ap (λ (s : State). done_number s) c.read-s.ensures) e,
      c.step.ensures.1 ∙ ap (λ (m : Move). m.image) q,
      w.1 ∙ ap (λ (r : Outcome). after_write r x.state a.state.now) w.0 ∙ kept_is (is_refused (answer_of x.did)) x.state a.state.now (not_refused x.did)
          ∙ ap (λ (y : Told). after_answer y.answer y.state a.state.now) e,
      refl,
    )
