-- EACH ACCEPTED REQUEST ENDS IN ITS OWN SUCCESS: with a work area of the right size its steps are what is left to do, an action each,
-- and the next one is done; none is refused. A step that answers Done ends its request. Assumes nothing.
use Rattle.std.specs.Prelude.{◌≡◌, refl, true, List, [], ◌∷◌, ℕ, zero, suc, ◌<◌, length}
use Rattle.std.proofs.Common.{ap, subst, ◌∙◌, arith}
use Rattle.protocol.specs.World.{Action, put, flush}
use Rattle.codecs.specs.Sector.{Sector}
use Rattle.codecs.specs.Shelf.{Shelf, slots}
use Rattle.shelf.specs.Act.{Move}
use Rattle.shelf.specs.Step.{done}
use Rattle.shelf.specs.Bound.{acted}
use Rattle.stages.specs.declared.state.State.{State}
use Rattle.requests.specs.Begun.{work_bytes}
use Rattle.requests.specs.Step.{step_with}
use Rattle.refine.specs.ToDo.{to_do}
use Rattle.refine.specs.Steps.{Fair, Does}
use Rattle.refine.proofs.Steps.{step_does}
use Rattle.refine.proofs.Requests.{room_fits}
use Rattle.refine.specs.Ends.{nth, EndsAfter}

module _ (z : Shelf) (work : List ℕ) (fits : length work ≡ work_bytes (slots z) z.c) where
  -- after a step that leaves this
  ends_on : (n : ℕ) (s t : State) (img to : List ℕ) → (step_with s img work).stepped.state ≡ t → (step_with s img work).image ≡ to → acted (step_with s img work).stepped.answer ≡ true → done t ≡ done s
      → EndsAfter n work t to → EndsAfter (suc n) work s img
  ends_on n s t img to p q act same h =
      let move : (i : ℕ) → nth work (suc i) s img ≡ nth work i t to = λ i. λ j. nth work i (p j) (q j) in
      record { acts = acts move; ends = ap (λ (m : Move). m.stepped) (move n) ∙ h.ends ∙ same }
    where
      acts : ((i : ℕ) → nth work (suc i) s img ≡ nth work i t to) → (i : ℕ) → i < suc n → acted (nth work i s img).stepped.answer ≡ true
      acts move zero l = act
      acts move (suc i) l = ap (λ (m : Move). acted m.stepped.answer) (move i) ∙ h.acts i (omega arith)

  ends_by : (l : List (Action Sector)) (s : State) (img : List ℕ) → Fair z s work img → to_do z s work img ≡ l → EndsAfter (length l) work s img
  ends_by [] s img fair e =
      let h : Does z work img s (step_with s img work) [] = room_fits z s work work img fair fits ∙ subst (Does z work img s _) e (step_does z work img s fair) in
      record { acts = λ i l. absurd (omega arith); ends = ap (λ (m : Move). m.stepped) h }
  ends_by (put k v ∷ l) s img fair e =
      let h = subst (Does z work img s _) e (step_does z work img s fair) in
      let q = room_fits z s work work img fair fits ∙ h.is in
      ends_on (length l) s h.state img _ (ap (λ (m : Move). m.stepped.state) q) (ap (λ (m : Move). m.image) q) (ap (λ (m : Move). acted m.stepped.answer) q) (ap done h.kept) (ends_by l h.state _ h.fair h.rest)
  ends_by (flush d ∷ l) s img fair e =
      let h = subst (Does z work img s _) e (step_does z work img s fair) in
      let q = room_fits z s work work img fair fits ∙ h.is in
      ends_on (length l) s h.state img img (ap (λ (m : Move). m.stepped.state) q) (ap (λ (m : Move). m.image) q) (ap (λ (m : Move). acted m.stepped.answer) q) (ap done h.kept) (ends_by l h.state img h.fair h.rest)

  -- a request under way ends after as many actions as are left
  pub request_ends : (s : State) (img : List ℕ) → Fair z s work img → EndsAfter (length (to_do z s work img)) work s img
  request_ends s img fair = ends_by (to_do z s work img) s img fair refl
