-- Start-up's answer to the labels: document 03's table of refusals, and the plan where none of them applies. Assumes nothing.
use Rattle.std.specs.Prelude.{Bool, true, false, ◌&&◌, cond, List, ℕ, ◌+◌, ◌^◌, leb, ltb, eqb, length, Ok, Err, Some, None, Result}
use Rattle.std.specs.Int.Count.{ones}
use Rattle.disk.specs.Image.{fits_image}
use Rattle.disk.specs.Mask.{in_mask, mask_of}
use Rattle.disk.specs.declared.geometry.Geometry.{Geometry}
use Rattle.disk.specs.declared.refusal.Refusal.{Refusal}
use Rattle.disk.specs.declared.refusal.Refusal.TheVariants.{BadImage, NoLabel, TooFew, BadBlock, NotNow}
use Rattle.label.specs.Fields.{no_slot, most_generation}
use Rattle.label.specs.Newest.{shelf_label, all_of, agreed}
use Rattle.label.specs.declared.fields.Label.{Label}
use Rattle.label.specs.Fields.{Decoded}
use Rattle.rounds.specs.Slot.{gone, takes_part, goes_out, adopts, gets_zeros, gets_label, Question}
use Rattle.rounds.specs.declared.plan.Plan as plan

-- what start-up will write, or why it refuses
abbrev pub Survey : Type 0
Survey = Result plan.Plan Refusal

-- the label is of a shelf of n slots, strips of c sectors and disks of S
unfoldable pub fits_shelf : Geometry → Label → Bool
fits_shelf g lead = eqb (lead.k + lead.m) g.n && (eqb lead.c g.c && eqb lead.sectors g.sectors)

-- there are two generations left
abbrev pub later : Decoded → Bool
later None = true
later (Some lead) = leb (lead.generation + 2) most_generation

module _ (g : Geometry) (img : List ℕ) (absent : ℕ) where
  -- the slots below n that answer a question with yes
  unfoldable pub slots_that : Question → Label → ℕ
  slots_that q lead = mask_of (q g img absent lead) g.n

  -- L': the shelf's label two generations on, with Out'; the rebuild has ended if its slot is gone
  unfoldable pub next_of : Label → Label
  next_of lead =
      record {
        k = lead.k;
        m = lead.m;
        slot = lead.slot;
        c = lead.c;
        sectors = lead.sectors;
        shelf = lead.shelf;
        generation = lead.generation + 2;
        out = slots_that goes_out lead;
        rebuilding = cond (gone g img absent lead lead.rebuilding) no_slot lead.rebuilding;
        mark = cond (gone g img absent lead lead.rebuilding) 0 lead.mark;
      }

  unfoldable pub plan_of : Label → plan.Plan
  plan_of lead =
      record {
        lead = lead;
        next = next_of lead;
        parts = slots_that takes_part lead;
        late = slots_that adopts lead;
        zeroed = slots_that gets_zeros lead;
        kept = slots_that gets_label lead;
      }

  -- ---- the tests of the table, with the shelf's label in hand, or none

  -- every present disk has a valid label, and they agree with each other and with the caller
  abbrev pub labelled : Decoded → Bool
  labelled None = all_of (in_mask absent) g.n
  labelled (Some lead) = agreed g img absent lead && fits_shelf g lead

  -- at most m slots are absent, stale or out; with all of them absent there is no label, and too few
  abbrev pub enough : Decoded → Bool
  enough None = false
  enough (Some lead) = leb (ones (slots_that goes_out lead)) lead.m

  -- what none of them refuses (no label at all is refused above)
  abbrev pub planned : Decoded → Survey
  planned None = Err TooFew
  planned (Some lead) = Ok (plan_of lead)

-- the refusal where the test fails
abbrev pub unless : Bool → Refusal → Survey → Survey
unless ok why s = cond ok s (Err why)

-- THE TABLE, in the document's order; x: the shelf's label
abbrev pub table : Geometry → List ℕ → ℕ → Decoded → Survey
table g img absent x =
    unless (labelled g img absent x) NoLabel
    (unless (enough g img absent x) TooFew
    (unless (ltb absent (2 ^ g.n)) BadBlock
    (unless (later x) NotNow (planned g img absent x))))

unfoldable pub survey_of : Geometry → List ℕ → ℕ → Survey
survey_of g img absent = unless (fits_image g (length img)) BadImage (table g img absent (shelf_label g img absent))
