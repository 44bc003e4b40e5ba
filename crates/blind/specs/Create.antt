-- CREATE AND A STEP on images that are alike. Create has no absent slots: it looks at every byte. Assumes nothing.
use Rattle.std.specs.Prelude.{◌≡◌, Bool, cond, ◌&&◌, List, ℕ, ◌+◌, eqb, length, Ok, Err}
use Rattle.std.proofs.Math.Path.{refl, sym, ap}
use Rattle.std.proofs.Common.{subst, ◌∙◌}
use Rattle.std.proofs.Math.Bool.{true, false}
use Rattle.disk.specs.Tests.{and_right}
use Rattle.disk.specs.Image.{fits_image}
use Rattle.disk.specs.declared.geometry.Geometry.{Geometry}
use Rattle.disk.specs.declared.refusal.Refusal.TheVariants.{BadImage, NotNow, BadBuffer}
use Rattle.disk.specs.Refusal.{Outcome}
use Rattle.label.specs.Fields.{geometry_of}
use Rattle.label.specs.Bytes.{all_zero}
use Rattle.shelf.specs.Act.{Move, refuses}
use Rattle.shelf.specs.Step.{sound, step_move}
use Rattle.shelf.specs.Laws.{step_blind, step_agrees, step_length}
use Rattle.stages.specs.declared.state.State.{State}
use Rattle.requests.specs.Begun.{work_bytes, begun}
use Rattle.requests.specs.Create.{shards_fit, shelf_fits, create_answer, created, create_of}
use Rattle.requests.specs.Step.{other_work, step_with}
use Rattle.blind.specs.Alike.{Alike, in_none, alike_same}

-- the geometry that create is given
abbrev pub new_shelf : ℕ → ℕ → ℕ → ℕ → Geometry
new_shelf k m c S = record { n = k + m; c = c; sectors = S }

pub create_blind : (k m c S shelf room : ℕ) (x y : List ℕ) → Alike (new_shelf k m c S) 0 x y → create_of k m c S shelf x room ≡ create_of k m c S shelf y room
unfolding create_answer shelf_fits
create_blind k m c S shelf room x y h =
    ap (λ (o : Outcome). begun o (created k m c S shelf))
    (by (shelf_fits k m c S (length x)) refl ∙ ap (λ (n : ℕ). answer (shelf_fits k m c S n) y) h.lengths)
  where
    answer : Bool → List ℕ → Outcome
    answer b img = cond b (cond (all_zero img) (cond (eqb room (work_bytes (k + m) c)) (Ok tt) (Err BadBuffer)) (Err NotNow)) (Err BadImage)

    fits : shelf_fits k m c S (length x) ≡ true → fits_image (new_shelf k m c S) (length x) ≡ true
    fits e = and_right (shards_fit k m) (fits_image (new_shelf k m c S) (length x)) (opened e)
      where
        opened : shelf_fits k m c S (length x) ≡ true → (shards_fit k m && fits_image (new_shelf k m c S) (length x)) ≡ true
        opened q = q

    by : (b : Bool) → shelf_fits k m c S (length x) ≡ b → answer b x ≡ answer b y
    by true e = ap (answer true) (alike_same (new_shelf k m c S) 0 x y h (fits e) in_none)
    by false e = refl

-- A STEP answers the same, hands out the same state, and leaves the images alike
module _ (s : State) (work x y : List ℕ) (h : Alike (geometry_of s.now) s.absent x y) where
  move : Bool → List ℕ → Move
  move b img = cond b (refuses s BadBuffer img) (step_move s work img)

  test : ℕ → Bool
  test n = sound s && other_work s.now n (length work)

  pub step_same : (step_with s x work).stepped ≡ (step_with s y work).stepped
  unfolding step_with move test
  step_same = by (test (length x)) ∙ ap (λ (n : ℕ). (move (test n) y).stepped) h.lengths
    where
      by : (b : Bool) → (move b x).stepped ≡ (move b y).stepped
      by true = refl
      by false = step_blind s work x y h.lengths

  pub step_alike : Alike (geometry_of s.now) s.absent (step_with s x work).image (step_with s y work).image
  unfolding step_with move test
  step_alike = moved (test (length x)) (test (length y)) (ap test h.lengths)
    where
      on : (b : Bool) → Alike (geometry_of s.now) s.absent (move b x).image (move b y).image
      on true = h
      on false =
          record {
            lengths = step_length s work x ∙ h.lengths ∙ sym (step_length s work y);
            sectors = step_agrees s work x y h.lengths h.sectors;
          }

      moved : (b c : Bool) → b ≡ c → Alike (geometry_of s.now) s.absent (move b x).image (move c y).image
      moved b c e = subst (λ (z : Bool). Alike (geometry_of s.now) s.absent (move b x).image (move z y).image) e (on b)
