-- What holds of every survey. Proved in proofs/Plans.antt: `survey_grounds`, on what grounds a plan is made; `plan_sound`,
-- who takes part and who adopts, and that its labels can be written. In proofs/Same.antt: `survey_same`, no survey depends on
-- the bytes of an absent slot. Assumes nothing.
use Rattle.std.specs.Prelude.{◌≡◌, true, false, not, ◌&&◌, ◌||◌, List, ℕ, ◌+◌, ◌≤◌, ◌<◌, ◌^◌, ltb, length, Some}
use Rattle.std.specs.Int.Count.{ones}
use Rattle.disk.specs.Image.{fits_image, read_of}
use Rattle.disk.specs.Mask.{in_mask}
use Rattle.disk.specs.declared.geometry.Geometry.{Geometry}
use Rattle.label.specs.Fields.{most_generation, fits_of}
use Rattle.label.specs.Newest.{shelf_label, agreed}
use Rattle.label.specs.declared.fields.Label.{Label}
use Rattle.rounds.specs.Survey.{plan_of, fits_shelf}
use Rattle.rounds.specs.declared.plan.Plan as plan

-- the label l as slot d gets it, with generation q
abbrev pub for_slot : Label → ℕ → ℕ → Label
for_slot l d q =
    record {
      k = l.k;
      m = l.m;
      slot = d;
      c = l.c;
      sectors = l.sectors;
      shelf = l.shelf;
      generation = q;
      out = l.out;
      rebuilding = l.rebuilding;
      mark = l.mark;
    }

-- on what grounds the plan p was made: no refusal of the table applied, and p is the plan under the shelf's label
pub record Grounds (g : Geometry) (img : List ℕ) (absent : ℕ) (p : plan.Plan) : Type 0 where
  pub image_fits : fits_image g (length img) ≡ true
  pub leads : shelf_label g img absent ≡ Some p.lead
  pub agree : agreed g img absent p.lead ≡ true
  pub shelf : fits_shelf g p.lead ≡ true
  pub few_out : ones p.next.out ≤ p.lead.m
  pub on_shelf_lem : absent < 2 ^ g.n
  pub left : p.lead.generation + 2 ≤ most_generation
  pub is : p ≡ plan_of g img absent p.lead

-- what every plan is good for
pub record Sound (g : Geometry) (absent : ℕ) (p : plan.Plan) : Type 0 where
  -- who takes part and who adopts: together the present slots below n, and nobody is both
  pub present : (d : ℕ) → (in_mask p.parts d || in_mask p.late d) ≡ (ltb d g.n && not (in_mask absent d))
  pub apart : (d : ℕ) → (in_mask p.parts d && in_mask p.late d) ≡ false
  -- who adopts is given zeros or a label first, and nobody both (at start-up no slot is prepared already)
  pub given : (d : ℕ) → (in_mask p.zeroed d || in_mask p.kept d) ≡ in_mask p.late d
  pub one_way : (d : ℕ) → (in_mask p.zeroed d && in_mask p.kept d) ≡ false
  -- the settled label calls every absent slot out, and every one that adopts, and is two generations on
  pub absent_out : (d : ℕ) → in_mask absent d ≡ true → in_mask p.next.out d ≡ true
  pub late_out : (d : ℕ) → in_mask p.late d ≡ true → in_mask p.next.out d ≡ true
  pub two_on : p.next.generation ≡ p.lead.generation + 2
  -- both labels can be written to every slot, with every generation up to the last of the three
  pub from_one : 1 ≤ p.lead.generation
  pub lead_fits : (d q : ℕ) → d < g.n → 1 ≤ q → q ≤ p.lead.generation + 2 → fits_of (for_slot p.lead d q) ≡ true
  pub next_fits : (d q : ℕ) → d < g.n → 1 ≤ q → q ≤ p.lead.generation + 2 → fits_of (for_slot p.next d q) ≡ true

-- two images that a survey cannot tell apart, x with the slots of a absent, y with those of b: of one length, with the same
-- label sectors on present slots, and the same slots absent below n; from n on it matters only whether there is any
pub record Alike (g : Geometry) (x y : List ℕ) (a b : ℕ) : Type 0 where
  pub lengths : length x ≡ length y
  pub absents : (d : ℕ) → d < g.n → in_mask a d ≡ in_mask b d
  pub beyond : ltb a (2 ^ g.n) ≡ ltb b (2 ^ g.n)
  pub sectors : (d s : ℕ) → d < g.n → s < 2 → in_mask a d ≡ false → read_of g x d s ≡ read_of g y d s
