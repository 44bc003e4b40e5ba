-- A step, where the work area has its size. Assumes nothing.
use Rattle.std.specs.Prelude.{◌≡◌, Bool, true, false, ◌&&◌, List, ℕ, ◌+◌, eqb, length}
use Rattle.std.proofs.Math.Path.{sym, ap, ap₂}
use Rattle.std.proofs.Math.Bool.{cond, not}
use Rattle.disk.specs.Image.{fits_image}
use Rattle.disk.specs.Tests.{and_left}
use Rattle.disk.specs.declared.refusal.Refusal.TheVariants.{BadBuffer}
use Rattle.label.specs.Fields.{geometry_of, fits_of}
use Rattle.label.specs.declared.fields.Label.{Label}
use Rattle.shelf.specs.Act.{Move, refuses}
use Rattle.shelf.specs.Step.{sound, step_move}
use Rattle.stages.specs.declared.state.State.{State}
use Rattle.requests.specs.Begun.{work_bytes}

-- the image is that of the label's shelf, and the work area is not
unfoldable pub other_work : Label → ℕ → ℕ → Bool
other_work l len room = fits_image (geometry_of l) len && not (eqb room (work_bytes (l.k + l.m) l.c))

-- the shelf's step, or BAD_BUFFER where that would not be refused for its state or its image, and the work area has another size
unfoldable pub step_with : State → List ℕ → List ℕ → Move
step_with s img work = cond (sound s && other_work s.now (length img) (length work)) (refuses s BadBuffer img) (step_move s work img)

-- a state in range has a label in range
pub sound_fits : (s : State) → sound s ≡ true → fits_of s.now ≡ true
unfolding sound
sound_fits s e = and_left (fits_of s.now) _ e

module _ (s : State) (img work : List ℕ) where
  pub step_short : sound s ≡ true → other_work s.now (length img) (length work) ≡ true → step_with s img work ≡ refuses s BadBuffer img
  unfolding step_with
  step_short e f = ap₂ (λ (a b : Bool). cond (a && b) (refuses s BadBuffer img) (step_move s work img)) e f

  pub step_goes : sound s ≡ true → other_work s.now (length img) (length work) ≡ false → step_with s img work ≡ step_move s work img
  unfolding step_with
  step_goes e f = ap₂ (λ (a b : Bool). cond (a && b) (refuses s BadBuffer img) (step_move s work img)) e f

  pub step_unsound : sound s ≡ false → step_with s img work ≡ step_move s work img
  unfolding step_with
  step_unsound e = ap (λ (a : Bool). cond (a && other_work s.now (length img) (length work)) (refuses s BadBuffer img) (step_move s work img)) e

module _ (l : Label) (len room : ℕ) where
  pub other_no : fits_image (geometry_of l) len ≡ false → false ≡ other_work l len room
  unfolding other_work
  other_no e = sym (ap (λ (b : Bool). b && not (eqb room (work_bytes (l.k + l.m) l.c))) e)

  pub other_is : fits_image (geometry_of l) len ≡ true → not (eqb room (work_bytes (l.k + l.m) l.c)) ≡ other_work l len room
  unfolding other_work
  other_is e = sym (ap (λ (b : Bool). b && not (eqb room (work_bytes (l.k + l.m) l.c))) e)
