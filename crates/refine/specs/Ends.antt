-- EACH ACCEPTED REQUEST ENDS IN ITS OWN SUCCESS: with a work area of the right size its steps are what is left to do, an action each,
-- and the next one is done; none is refused. A step that answers Done ends its request. Assumes nothing.
use Rattle.std.specs.Prelude.{◌≡◌, refl, Bool, true, false, cond, ◌&&◌, List, ℕ, zero, suc, ◌<◌, length}
use Rattle.std.proofs.Common.{sym, ap, ◌∙◌, arith}
use Rattle.std.proofs.lemmas.Bool.{false≢true}
use Rattle.disk.specs.declared.refusal.Refusal.TheVariants.{BadBuffer}
use Rattle.shelf.specs.Act.{Move, refuses}
use Rattle.shelf.specs.Step.{done, finished, sound, step_move}
use Rattle.shelf.specs.Laws.{step_done}
use Rattle.shelf.specs.Bound.{acted}
use Rattle.stages.specs.declared.state.State.{State}
use Rattle.stages.specs.Told as answer
use Rattle.requests.specs.Step.{other_work, step_with}

-- one step after the other, each with the state and the image that the one before left: the last of i + 1
abbrev pub nth : List ℕ → ℕ → State → List ℕ → Move
nth work zero s img = step_with s img work
nth work (suc i) s img = nth work i (step_with s img work).stepped.state (step_with s img work).image

-- the steps before number n are actions, and this one is done
pub record EndsAfter (n : ℕ) (work : List ℕ) (s : State) (img : List ℕ) : Type 0 where
  pub acts : (i : ℕ) → i < n → acted (nth work i s img).stepped.answer ≡ true
  pub ends : (nth work n s img).stepped ≡ done s

-- A STEP THAT ANSWERS DONE leaves the image as it was
done_image : (s : State) (img work : List ℕ) → (step_with s img work).stepped.answer ≡ answer.Done → (step_with s img work).image ≡ img
unfolding step_with
done_image s img work = by (sound s && other_work s.now (length img) (length work))
  where
    by : (b : Bool) → (cond {A = Move} b (refuses s BadBuffer img) (step_move s work img)).stepped.answer ≡ answer.Done → (cond {A = Move} b (refuses s BadBuffer img) (step_move s work img)).image ≡ img
    by true e = refl
    by false e = step_done s work img e

-- and is the last one of its request: all is at rest then
pub done_ends : (n : ℕ) (work : List ℕ) (s : State) (img : List ℕ) → EndsAfter n work s img → (step_with s img work).stepped.answer ≡ answer.Done → step_with s img work ≡ finished s img
done_ends zero work s img h e = let q = done_image s img work e in λ i. record { stepped = h.ends i; image = q i }
done_ends (suc n) work s img h e = absurd (false≢true (sym (ap acted e) ∙ h.acts 0 (omega arith)))
