-- WHICH SLOT A STEP TOUCHES: never an absent one. Assumes nothing.
use Rattle.std.specs.Prelude.{◌≡◌, Bool, true, false, cond, ◌&&◌, List, ℕ, length}
use Rattle.std.proofs.Common.{subst}
use Rattle.disk.specs.Mask.{in_mask}
use Rattle.disk.specs.declared.geometry.Geometry.{Geometry}
use Rattle.disk.specs.declared.refusal.Refusal.TheVariants.{BadBuffer}
use Rattle.label.specs.Fields.{geometry_of}
use Rattle.shelf.specs.Laws.{Legal, step_one}
use Rattle.shelf.specs.Act.{refuses}
use Rattle.shelf.specs.Step.{sound, step_move}
use Rattle.stages.specs.declared.state.State.{State}
use Rattle.stages.specs.Told.{Answer}
use Rattle.stages.specs.Told as answer
use Rattle.requests.specs.Step.{other_work, step_with}

-- the slot that a step's answer names
abbrev pub Touches : Answer → ℕ → Type 0
Touches (answer.Put d to) e = d ≡ e
Touches (answer.Flush d) e = d ≡ e
Touches answer.Done e = ⊥
Touches (answer.Refused why) e = ⊥

-- what a step changes: nothing of an absent slot
pub touch_present : (s : State) (g : Geometry) (img next : List ℕ) (a : Answer) → Legal a s.absent g img next → (e : ℕ) → Touches a e → in_mask s.absent e ≡ false
touch_present s g img next (answer.Put d to) h e q = subst (λ (x : ℕ). in_mask s.absent x ≡ false) q h.present
touch_present s g img next (answer.Flush d) h e q = subst (λ (x : ℕ). in_mask s.absent x ≡ false) q h.present
touch_present s g img next answer.Done h e q = absurd q
touch_present s g img next (answer.Refused why) h e q = absurd q

-- NO STEP TOUCHES AN ABSENT SLOT, in any state, whatever the image and the work area hold
pub absent_untouched : (s : State) (img work : List ℕ) (e : ℕ) → Touches (step_with s img work).stepped.answer e → in_mask s.absent e ≡ false
unfolding step_with
absent_untouched s img work e = by (sound s && other_work s.now (length img) (length work))
  where
    by : (b : Bool) → Touches (cond b (refuses s BadBuffer img) (step_move s work img)).stepped.answer e → in_mask s.absent e ≡ false
    by true t = absurd t
    by false t = touch_present s (geometry_of s.now) img (step_move s work img).image (step_move s work img).stepped.answer (step_one s work img) e t
