-- What the survey depends on: the absent slots below n, whether a bit from n on is set, the image's length, and the label
-- sectors of the present slots. So no answer depends on the bytes of an absent slot, and a bit from n on matters to the
-- row BAD_BLOCK alone. Assumes nothing.
use mathlib.Core.Path.{◌≡◌, refl, sym, ap, ap₂, ◌∙◌}
use mathlib.Core.Logic.{⊎_elim}
use mathlib.Core.Bool.{Bool, true, false, not, ◌&&◌, ◌||◌, cond}
use mathlib.Core.List.{List}
use Prim.Native.Nat.{ℕ, zero, suc, ◌+◌, ◌≤◌, ◌<◌, ◌%◌}
use native.Mathlib.Nat.{mod-lt}
use native.Mathlib.Omega.{arith}
use lib.Count.{ones}
use lib.Dec.{lit<, leb, ltb, eqb}
use lib.ListN.{length}
use borrow.Author.Tests.{le-ltb}
use Rattle.std.specs.Prelude.{Ok, Some, None}
use Rattle.disk.specs.Image.{lt_or_ge, fits_image}
use Rattle.disk.specs.Mask.{in_mask}
use Rattle.disk.proofs.Masks.{mask_same}
use Rattle.disk.specs.declared.geometry.Geometry.{Geometry}
use Rattle.disk.specs.declared.refusal.Refusal.TheVariants.{BadImage, NoLabel, TooFew, BadBlock, NotNow}
use Rattle.label.specs.Fields.{no_slot}
use Rattle.label.specs.Valid.{decode_of}
use Rattle.label.specs.Newest.{newer, newest_of, copy_of, disk_label, present_label, shelf_label, agreeing, standing, all_of, agreed}
use Rattle.label.specs.declared.fields.Label.{Label}
use Rattle.label.specs.Fields.{Decoded}
use Rattle.rounds.specs.Slot.{age_of, behind, disowned, stale, gone, goes_out, adopts, age_under, sector_for, copy_age, prepared, wiped, gets_zeros, gets_label, takes_part, Question}
use Rattle.rounds.specs.Survey.{slots_that, next_of, plan_of, fits_shelf, labelled, enough, later, planned, unless, table, survey_of}
use Rattle.rounds.specs.Plans.{Alike}
use Rattle.rounds.specs.Survey.{Survey}

-- ---- the first n alone matter

newest_same : (f h : ℕ → Decoded) (n : ℕ) → ((d : ℕ) → d < n → f d ≡ h d) → newest_of f n ≡ newest_of h n
unfolding newest_of
newest_same f h zero e = refl
newest_same f h (suc n) e = ap₂ newer (newest_same f h n (λ d l. e d (omega arith))) (e n (omega arith))

all_same : (p q : ℕ → Bool) (n : ℕ) → ((d : ℕ) → d < n → p d ≡ q d) → all_of p n ≡ all_of q n
unfolding all_of
all_same p q zero e = refl
all_same p q (suc n) e = ap₂ (λ (x y : Bool). x && y) (all_same p q n (λ d l. e d (omega arith))) (e n (omega arith))

module _ (g : Geometry) (x y : List ℕ) (a b : ℕ) (h : Alike g x y a b) where
  -- ---- one slot

  copy_same : (d s : ℕ) → d < g.n → s < 2 → in_mask a d ≡ false → copy_of g x d s ≡ copy_of g y d s
  unfolding copy_of
  copy_same d s hd hs e = ap (λ (v : List ℕ). decode_of v d s) (h.sectors d s hd hs e)

  disk_same : (d : ℕ) → d < g.n → in_mask a d ≡ false → disk_label g x d ≡ disk_label g y d
  unfolding disk_label
  disk_same d hd e = newest_same (copy_of g x d) (copy_of g y d) 2 (λ s hs. copy_same d s hd hs e)

  present_same : (d : ℕ) → d < g.n → present_label g x a d ≡ present_label g y b d
  unfolding present_label
  present_same d hd = ap (λ (t : Bool). cond t None (disk_label g x d)) (h.absents d hd) ∙ by (in_mask b d) (h.absents d hd)
    where
      by : (t : Bool) → in_mask a d ≡ t → cond t None (disk_label g x d) ≡ cond t None (disk_label g y d)
      by true e = refl
      by false e = disk_same d hd e

  standing_same : (l : Label) (d : ℕ) → d < g.n → standing g x a l d ≡ standing g y b l d
  unfolding standing
  standing_same l d hd = ap (λ (t : Bool). t || agreeing l (disk_label g x d)) (h.absents d hd) ∙ by (in_mask b d) (h.absents d hd)
    where
      by : (t : Bool) → in_mask a d ≡ t → (t || agreeing l (disk_label g x d)) ≡ (t || agreeing l (disk_label g y d))
      by true e = refl
      by false e = ap (agreeing l) (disk_same d hd e)

  module _ (l : Label) where
    stale_same : (d : ℕ) → d < g.n → stale g x a l d ≡ stale g y b l d
    unfolding stale
    stale_same d hd = ap (λ (u : Decoded). behind (age_of u) l.generation || disowned u l d) (present_same d hd)

    gone_same : (d : ℕ) → gone g x a l d ≡ gone g y b l d
    unfolding gone
    gone_same d = ⊎_elim
        (λ (hd : d < g.n). ap₂ (λ (t s : Bool). ltb d g.n && (t || s)) (h.absents d hd) (stale_same d hd))
        (λ (hd : g.n ≤ d). ap (λ (t : Bool). t && (in_mask a d || stale g x a l d)) (le-ltb d g.n hd) ∙ sym (ap (λ (t : Bool). t && (in_mask b d || stale g y b l d)) (le-ltb d g.n hd)))
        (lt_or_ge d g.n)

    adopts_same : (d : ℕ) → d < g.n → adopts g x a l d ≡ adopts g y b l d
    unfolding adopts
    adopts_same d hd = ap₂ (λ (t s : Bool). not t && s) (h.absents d hd) (stale_same d hd)

    age_same : (d q : ℕ) → d < g.n → in_mask a d ≡ false → copy_age g x l d (sector_for q) ≡ copy_age g y l d (sector_for q)
    unfolding copy_age
    age_same d q hd e = ap (age_under l) (copy_same d (q % 2) hd (mod-lt q (lit< tt)) e)

    prepared_same : (d : ℕ) → d < g.n → in_mask a d ≡ false → prepared g x l d ≡ prepared g y l d
    unfolding prepared
    prepared_same d hd e = ap (λ (u : ℕ). eqb u (l.generation + 1)) (age_same d (l.generation + 1) hd e)

    wiped_same : (d : ℕ) → d < g.n → in_mask a d ≡ false → wiped g x l d ≡ wiped g y l d
    unfolding wiped
    wiped_same d hd e = ap₂ (λ (u v : ℕ). ltb 0 u || eqb v 0) (age_same d (l.generation + 2) hd e) (age_same d (l.generation + 1) hd e)

    -- of an absent slot nothing more is asked
    adopting : (d : ℕ) (p q : Bool) → d < g.n → (in_mask a d ≡ false → p ≡ q) → (adopts g x a l d && p) ≡ (adopts g y b l d && q)
    unfolding adopts
    adopting d p q hd e = ap (λ (t : Bool). t && p) (adopts_same d hd) ∙ by (in_mask b d) (h.absents d hd)
      where
        by : (t : Bool) → in_mask a d ≡ t → ((not t && stale g y b l d) && p) ≡ ((not t && stale g y b l d) && q)
        by true f = refl
        by false f = ap (λ (u : Bool). stale g y b l d && u) (e f)

    -- the slots of which a test holds that it answers alike
    that_same : (q : Question) → ((d : ℕ) → d < g.n → q g x a l d ≡ q g y b l d) → slots_that g x a q l ≡ slots_that g y b q l
    unfolding slots_that
    that_same q e = mask_same (q g x a l) (q g y b l) g.n e

    out_same : slots_that g x a goes_out l ≡ slots_that g y b goes_out l
    unfolding goes_out
    out_same = that_same goes_out (λ d hd. ap (λ (t : Bool). in_mask l.out d || t) (gone_same d))

    parts_same : slots_that g x a takes_part l ≡ slots_that g y b takes_part l
    parts_same = that_same takes_part (λ d hd. ap not (gone_same d))

    late_same : slots_that g x a adopts l ≡ slots_that g y b adopts l
    late_same = that_same adopts adopts_same

    zeroed_same : slots_that g x a gets_zeros l ≡ slots_that g y b gets_zeros l
    unfolding gets_zeros
    zeroed_same =
        that_same gets_zeros
        (λ d hd. adopting d (not (prepared g x l d) && wiped g x l d) (not (prepared g y l d) && wiped g y l d) hd (λ e. ap₂ (λ (u v : Bool). not u && v) (prepared_same d hd e) (wiped_same d hd e)))

    kept_same : slots_that g x a gets_label l ≡ slots_that g y b gets_label l
    unfolding gets_label
    kept_same =
        that_same gets_label
        (λ d hd. adopting d (not (prepared g x l d) && not (wiped g x l d)) (not (prepared g y l d) && not (wiped g y l d)) hd (λ e. ap₂ (λ (u v : Bool). not u && not v) (prepared_same d hd e) (wiped_same d hd e)))

    next_same : next_of g x a l ≡ next_of g y b l
    unfolding next_of
    next_same =
        let o = out_same in
        let e = gone_same l.rebuilding in
        λ i. record l { generation = l.generation + 2; out = o i; rebuilding = cond (e i) no_slot l.rebuilding; mark = cond (e i) 0 l.mark }

    plan_same : plan_of g x a l ≡ plan_of g y b l
    unfolding plan_of
    plan_same =
        λ i. record { lead = l; next = next_same i; parts = parts_same i; late = late_same i; zeroed = zeroed_same i; kept = kept_same i }

  -- ---- the table

  fits_same : fits_image g (length x) ≡ fits_image g (length y)
  fits_same = ap (fits_image g) h.lengths

  shelf_same : shelf_label g x a ≡ shelf_label g y b
  unfolding shelf_label
  shelf_same = ap₂ (λ (t : Bool) (u : Decoded). cond t u None) fits_same (newest_same (present_label g x a) (present_label g y b) g.n present_same)

  labelled_same : (u : Decoded) → labelled g x a u ≡ labelled g y b u
  unfolding agreed
  labelled_same None = all_same (in_mask a) (in_mask b) g.n h.absents
  labelled_same (Some l) =
      ap₂ (λ (s t : Bool). (s && t) && fits_shelf g l) fits_same (all_same (standing g x a l) (standing g y b l) g.n (standing_same l))

  enough_same : (u : Decoded) → enough g x a u ≡ enough g y b u
  enough_same None = refl
  enough_same (Some l) = ap (λ (m : ℕ). leb (ones m) l.m) (out_same l)

  planned_same : (u : Decoded) → planned g x a u ≡ planned g y b u
  planned_same None = refl
  planned_same (Some l) = ap Ok (plan_same l)

  table_same : (u : Decoded) → table g x a u ≡ table g y b u
  table_same u =
      let e1 = labelled_same u in
      let e2 = enough_same u in
      let e3 = h.beyond in
      let e4 = planned_same u in
      λ i. unless (e1 i) NoLabel (unless (e2 i) TooFew (unless (e3 i) BadBlock (unless (later u) NotNow (e4 i))))

  pub survey_same : survey_of g x a ≡ survey_of g y b
  unfolding survey_of
  survey_same = ap₂ (λ (t : Bool) (s : Survey). unless t BadImage s) fits_same (ap (table g x a) shelf_same ∙ table_same (shelf_label g y b))
