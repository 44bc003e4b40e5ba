-- On: when it is refused, and the state with which it begins. Assumes nothing.
use Rattle.std.specs.Prelude.{◌≡◌, refl, Bool, true, false, cond, ◌&&◌, ◌||◌, List, ℕ, zero, suc, ◌+◌, ◌-◌, ◌≤◌, ◌<◌, leb, ltb, eqb, length, Ok}
use Rattle.std.proofs.Common.{sym, ap, ◌∙◌, true≢false, arith, leb-true, leb-false, le-leb, ltb-true}
use Rattle.std.proofs.lemmas.Bool.{lt-leb}
use Rattle.disk.specs.Limits.{most_n, most_k, most_m, most_sectors}
use Rattle.disk.specs.Tests.{and_left, and_right}
use Rattle.disk.specs.Geometry.{in_range, in_range_with, splits, stripes_of, stripes_le}
use Rattle.disk.specs.Image.{fits_image}
use Rattle.disk.specs.Mask.{in_mask, without_slot}
use Rattle.disk.specs.declared.refusal.Refusal.TheVariants.{BadImage, NotNow}
use Rattle.disk.specs.Refusal.{Outcome}
use Rattle.label.specs.Fields.{no_slot, geometry_of, rebuild_fits, fits_of}
use Rattle.label.specs.declared.fields.Label.{Label}
use Rattle.label.proofs.Fits.{fits_says}
use Rattle.requests.specs.Begun.{begun, first, slots_but}
use Rattle.position.specs.Search.{some}
use Rattle.requests.specs.Ready.{is_idle, has_shelf, ready_of}
use Rattle.requests.specs.Accepted.{passed, ready_done}
use Rattle.requests.specs.TakeOut.{next_label}
use Rattle.requests.specs.Begun.{Begun}
use Rattle.stages.specs.declared.state.State.{State}
use Rattle.stages.specs.declared.state.Marks.{Marks}
use Rattle.stages.specs.declared.state.Kind.{Kind}
use Rattle.stages.specs.declared.state.Kind.TheVariants.{Filling}
use Rattle.rebuilds.specs.Judge.{too_few, last_one, sized, judged, judged_done, first_done}
use Rattle.rebuilds.specs.Begin.{only}
use Rattle.rebuilds.specs.Survivors.{contradicted}

-- no slot is being rebuilt, or it is absent, or no generation is left
unfoldable pub cannot_go_on : Label → ℕ → Bool
cannot_go_on l absent = eqb l.rebuilding no_slot || (in_mask absent l.rebuilding || last_one l)

unfoldable pub asked_on : Label → Bool → ℕ → ℕ → Outcome
asked_on l idle absent room = judged (too_few l absent) false idle (cannot_go_on l absent) (sized l room)

-- what every changing request is refused for comes first
abbrev pub on_answer : Label → Kind → ℕ → List ℕ → ℕ → Outcome
on_answer l kind absent img room = first (ready_of l kind absent img) (asked_on l (is_idle kind) absent room)

-- a batch of 0 means 1
abbrev pub at_least_one : ℕ → ℕ
at_least_one zero = 1
at_least_one (suc b) = suc b

-- the batch reaches the end
unfoldable pub last_batch : Label → ℕ → Bool
last_batch l b = leb (stripes_of (geometry_of l)) (l.mark + at_least_one b)

-- how many strips are rebuilt
unfoldable pub strips_on : Label → ℕ → ℕ
strips_on l b = cond (last_batch l b) (stripes_of (geometry_of l) - l.mark) (at_least_one b)

-- the label afterwards: the slot is healthy, or the mark is behind these strips
unfoldable pub on_label : Label → ℕ → Label
on_label l b =
    cond (last_batch l b) (next_label l (without_slot l.out l.rebuilding) no_slot 0)
    (next_label l l.out l.rebuilding (l.mark + at_least_one b))

-- in a stripe of these strips, what is there and believed contradicts itself
unfoldable pub some_contradict : Label → ℕ → List ℕ → ℕ → Bool
some_contradict l absent img b = some (strips_on l b) (λ i. contradicted (geometry_of l) l.k img l absent (l.mark + i))

-- x: whether survivors contradict each other
abbrev pub on_marks : Label → ℕ → ℕ → Bool → Marks
on_marks l absent b x =
    record {
      present = cond (leb (l.k + l.m) most_n) (slots_but absent (l.k + l.m)) 0;
      parts = 0;
      late = 0;
      prep = 0;
      zeroed = 0;
      redo = only l.rebuilding true;
      stripe = strips_on l b;
      forward = x;
    }

-- the stage with which it begins: its strips; where it has none, the flush behind them
abbrev pub first_stage : ℕ → ℕ
first_stage zero = 1
first_stage (suc n) = 0

abbrev pub went_on_with : State → Label → Marks → State
went_on_with s next marks =
    record {
      now = s.now;
      next = next;
      absent = s.absent;
      epoch = s.epoch;
      count = s.count;
      marks = marks;
      kind = Filling;
      cursor = record { stage = first_stage marks.stripe; slot = 0; sector = 0 };
    }

abbrev pub went_on : State → ℕ → List ℕ → State
went_on s b img = went_on_with s (on_label s.now b) (on_marks s.now s.absent b (some_contradict s.now s.absent img b))

abbrev pub on_of : State → ℕ → List ℕ → ℕ → Begun
on_of s b img room = begun (on_answer s.now s.kind s.absent img room) (went_on s b img)

-- ---- what is accepted

-- a slot of a shelf in range is being rebuilt, and a generation is left
pub record GoesOn (l : Label) : Type 0 where
  pub fits : fits_of l ≡ true
  pub there : l.rebuilding < l.k + l.m
  pub more : last_one l ≡ false

pub range_of : (l : Label) → fits_of l ≡ true → in_range (geometry_of l) ≡ true
unfolding fits_of in_range_with
range_of l e =
    let e1 = and_right (leb l.k most_k) _ e in
    let e2 = and_right (leb l.m most_m) _ e1 in
    and_left (in_range (geometry_of l)) (splits (l.k + l.m) l.k) (and_left (in_range (geometry_of l) && splits (l.k + l.m) l.k) _ e2)

slot_of : (l : Label) → rebuild_fits l ≡ true → eqb l.rebuilding no_slot ≡ false → l.rebuilding < l.k + l.m
unfolding rebuild_fits
slot_of l e n = ltb-true l.rebuilding (l.k + l.m) (and_left (ltb l.rebuilding (l.k + l.m)) _ (by n e))
  where
    A : Bool
    A = eqb l.mark 0

    B : Bool
    B = ltb l.rebuilding (l.k + l.m) && (in_mask l.out l.rebuilding && leb l.mark (stripes_of (geometry_of l)))

    by : eqb l.rebuilding no_slot ≡ false → cond (eqb l.rebuilding no_slot) A B ≡ true → B ≡ true
    by q h = ap (λ (b : Bool). cond b A B) (sym q) ∙ h

neither : (a b c : Bool) → (a || (b || c)) ≡ false → (a ≡ false) × (c ≡ false)
neither true b c e = absurd (true≢false e)
neither false true c e = absurd (true≢false e)
neither false false c e = (refl, e)

pub on_done : (l : Label) (kind : Kind) (absent : ℕ) (img : List ℕ) (room : ℕ) → on_answer l kind absent img room ≡ Ok tt → GoesOn l
unfolding asked_on cannot_go_on
on_done l kind absent img room e =
    let f = first_done (ready_of l kind absent img) (asked_on l (is_idle kind) absent room) e in
    let p = judged_done (too_few l absent) false (is_idle kind) (cannot_go_on l absent) (sized l room) f.1 in
    let q = neither (eqb l.rebuilding no_slot) (in_mask absent l.rebuilding) (last_one l) p.time in
    let t : fits_of l ≡ true = ready_done l kind absent img f.0 in
    record { fits = t; there = slot_of l (fits_says l t).rebuild q.0; more = q.1 }

-- and the image is the shelf's
pub on_image : (l : Label) (kind : Kind) (absent : ℕ) (img : List ℕ) (room : ℕ) → on_answer l kind absent img room ≡ Ok tt → fits_image (geometry_of l) (length img) ≡ true
unfolding ready_of
on_image l kind absent img room e =
    let f = first_done (ready_of l kind absent img) (asked_on l (is_idle kind) absent room) e in
    let p = passed (has_shelf l kind) _ NotNow f.0 in
    (passed (fits_image (geometry_of l) (length img)) _ BadImage p.1).0

-- ---- the code beside the definitions

pub at_least : (b : ℕ) → 1 ≤ b → b ≡ at_least_one b
at_least zero h = absurd (omega arith)
at_least (suc b) h = refl

pub at_none : (b : ℕ) → b < 1 → 1 ≡ at_least_one b
at_none zero h = refl
at_none (suc b) h = absurd (omega arith)

pub first_none : (n : ℕ) → n ≡ 0 → first_stage n ≡ 1
first_none n e = ap first_stage e

pub first_some : (n : ℕ) → (n ≡ 0 → ⊥) → first_stage n ≡ 0
first_some zero h = absurd (h refl)
first_some (suc n) h = refl

pub left_is : (t m b : ℕ) → m ≤ t → leb (t - m) b ≡ leb t (m + b)
left_is t m b h = by (leb t (m + b)) refl
  where
    by : (x : Bool) → leb t (m + b) ≡ x → leb (t - m) b ≡ x
    by true e = le-leb (t - m) b (omega (arith, leb-true t (m + b) e))
    by false e = lt-leb (t - m) b (omega (arith, leb-false t (m + b) e))

-- before the end the mark stays below T
pub mark_within : (l : Label) → fits_of l ≡ true → l.mark ≤ stripes_of (geometry_of l)
mark_within l e = (fits_says l e).mark_below

pub stripes_few : (l : Label) → fits_of l ≡ true → stripes_of (geometry_of l) ≤ most_sectors
stripes_few l e = omega (arith, stripes_le (geometry_of l), (fits_says l e).range.most)

pub mark_fits : (l : Label) (b : ℕ) → last_batch l b ≡ false → l.mark + at_least_one b < stripes_of (geometry_of l)
unfolding last_batch
mark_fits l b e = leb-false (stripes_of (geometry_of l)) (l.mark + at_least_one b) e

-- the strips lie before the end
pub strips_within : (l : Label) (b : ℕ) → l.mark ≤ stripes_of (geometry_of l) → l.mark + strips_on l b ≤ stripes_of (geometry_of l)
unfolding strips_on
strips_within l b h = by (last_batch l b) refl
  where
    T : ℕ
    T = stripes_of (geometry_of l)

    by : (x : Bool) → last_batch l b ≡ x → l.mark + cond x (T - l.mark) (at_least_one b) ≤ T
    by true e = omega arith
    by false e = omega (arith, mark_fits l b e)
