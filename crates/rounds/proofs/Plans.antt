-- Every plan is made on the grounds of the table, and is sound. Assumes nothing.
use mathlib.Core.Path.{◌≡◌, refl, sym, ap, ap₂, ◌∙◌, subst}
use mathlib.Core.Logic.{⊎_elim}
use mathlib.Core.Bool.{Bool, true, false, not, ◌&&◌, ◌||◌, cond}
use mathlib.Core.List.{List}
use Prim.Native.Nat.{ℕ, ◌+◌, ◌≤◌, ◌<◌, ◌^◌}
use native.Mathlib.Nat.{mod-lt}
use native.Mathlib.Omega.{arith}
use lib.Count.{ones}
use lib.Dec.{lit<, leb, ltb, eqb}
use lib.ListN.{length}
use borrow.Author.Tests.{eqb-true, ne_eqb, leb-true, le-leb, ltb-true, lt-ltb, le-ltb, not-true}
use Rattle.std.specs.Prelude.{Ok, Err, Some, None}
use Rattle.disk.specs.Limits.{most_k, most_m}
use Rattle.disk.specs.Tests.{and_left, and_right, both}
use Rattle.disk.specs.Image.{lt_or_ge, fits_image}
use Rattle.disk.specs.Mask.{in_mask, mask_of, mask_lt, mask_below, mask_past, in_past}
use Rattle.disk.specs.Geometry.{in_range_with, stripes_of}
use Rattle.disk.specs.declared.geometry.Geometry.{Geometry}
use Rattle.disk.specs.declared.refusal.Refusal.{Refusal}
use Rattle.disk.specs.declared.refusal.Refusal.TheVariants.{BadImage, NoLabel, TooFew, BadBlock, NotNow}
use Rattle.label.specs.Fields.{no_slot, most_generation, geometry_of, rebuild_fits, fits_of}
use Rattle.label.specs.Newest.{copy_of, disk_label, present_label, shelf_label, same_shelf, agreed}
use Rattle.label.specs.declared.fields.Label.{Label}
use Rattle.label.specs.Fields.{Decoded}
use Rattle.label.proofs.Fits.{fits_says}
use Rattle.label.proofs.Counts.{newest_none, disk_says, shelf_says, present_says, disk_own}
use Rattle.rounds.specs.Slot.{stale, gone, goes_out, adopts, age_under, sector_for, copy_age, prepared, wiped, gets_zeros, gets_label, takes_part, Question}
use Rattle.rounds.specs.Survey.{slots_that, next_of, plan_of, fits_shelf, labelled, enough, later, unless, table, survey_of}
use Rattle.rounds.specs.declared.plan.Plan as plan
use Rattle.rounds.specs.Survey.{Survey}
use Rattle.rounds.specs.Plans.{for_slot, Grounds, Sound}

-- ---- the grounds

unless_plan : (ok : Bool) (why : Refusal) (s : Survey) (p : plan.Plan) → unless ok why s ≡ Ok p → (ok ≡ true) × (s ≡ Ok p)
unless_plan true why s p e = (refl, e)
unless_plan false why s p e = absurd (let z : ◌≡◌ {A = ℕ} 0 1 = cc in omega arith)

module _ (g : Geometry) (img : List ℕ) (absent : ℕ) where
  led_by : (lead : Label) → fits_image g (length img) ≡ true → shelf_label g img absent ≡ Some lead
      → (p : plan.Plan) → table g img absent (Some lead) ≡ Ok p → Grounds g img absent p
  unfolding next_of plan_of
  led_by lead f x p e =
      let e1 = unless_plan (labelled g img absent (Some lead)) NoLabel _ p e in
      let e2 = unless_plan (enough g img absent (Some lead)) TooFew _ p e1.1 in
      let e3 = unless_plan (ltb absent (2 ^ g.n)) BadBlock _ p e2.1 in
      let e4 = unless_plan (later (Some lead)) NotNow (Ok (plan_of g img absent lead)) p e3.1 in
      let q : plan_of g img absent lead ≡ p = cc in
      subst (Grounds g img absent) q (record {
        image_fits = f;
        leads = x;
        agree = and_left (agreed g img absent lead) (fits_shelf g lead) e1.0;
        shelf = and_right (agreed g img absent lead) (fits_shelf g lead) e1.0;
        few_out = leb-true (ones (slots_that g img absent goes_out lead)) lead.m e2.0;
        on_shelf_lem = ltb-true absent (2 ^ g.n) e3.0;
        left = leb-true (lead.generation + 2) most_generation e4.0;
        is = refl;
      })

  pub survey_grounds : (p : plan.Plan) → survey_of g img absent ≡ Ok p → Grounds g img absent p
  unfolding survey_of
  survey_grounds p e =
      let u = unless_plan (fits_image g (length img)) BadImage (table g img absent (shelf_label g img absent)) p e in
      by (shelf_label g img absent) refl u.0 u.1
    where
      by : (x : Decoded) → shelf_label g img absent ≡ x → fits_image g (length img) ≡ true → table g img absent x ≡ Ok p → Grounds g img absent p
      by None q f t =
          let e1 = unless_plan (labelled g img absent None) NoLabel (Err TooFew) p t in
          absurd (let z : ◌≡◌ {A = ℕ} 0 1 = cc e1.1 in omega arith)
      by (Some lead) q f t = led_by lead f q p t

-- ---- who takes part, who adopts, who is given what

-- of a slot that is there, absent or not, stale or not, prepared or not, to be wiped or not
present_raw : (t a s : Bool) → t ≡ true → (not (t && (a || s)) || (not a && s)) ≡ (t && not a)
present_raw true true s e = refl
present_raw true false true e = refl
present_raw true false false e = refl
present_raw false a s e = absurd (let z : ◌≡◌ {A = ℕ} 0 1 = cc in omega arith)

apart_raw : (t a s : Bool) → t ≡ true → (not (t && (a || s)) && (not a && s)) ≡ false
apart_raw true true s e = refl
apart_raw true false true e = refl
apart_raw true false false e = refl
apart_raw false a s e = absurd (let z : ◌≡◌ {A = ℕ} 0 1 = cc in omega arith)

one_way_raw : (a r w : Bool) → ((a && (not r && w)) && (a && (not r && not w))) ≡ false
one_way_raw true true w = refl
one_way_raw true false true = refl
one_way_raw true false false = refl
one_way_raw false r w = refl

given_raw : (a r w : Bool) → (a ≡ true → r ≡ false) → ((a && (not r && w)) || (a && (not r && not w))) ≡ a
given_raw true true w h = absurd (let e = h refl in let z : ◌≡◌ {A = ℕ} 0 1 = cc in omega arith)
given_raw true false true h = refl
given_raw true false false h = refl
given_raw false r w h = refl

late_raw : (o t a s : Bool) → t ≡ true → (not a && s) ≡ true → (o || (t && (a || s))) ≡ true
late_raw true t a s e h = refl
late_raw false true true s e h = refl
late_raw false true false s e h = h
late_raw false false a s e h = e

absent_raw : (o t a s : Bool) → t ≡ true → a ≡ true → (o || (t && (a || s))) ≡ true
absent_raw true t a s e h = refl
absent_raw false true true s e h = refl
absent_raw false true false s e h = absurd (let z : ◌≡◌ {A = ℕ} 0 1 = cc in omega arith)
absent_raw false false a s e h = e

module _ (g : Geometry) (img : List ℕ) (absent : ℕ) (lead : Label) where
  that_below : (q : Question) (d : ℕ) → d < g.n → in_mask (slots_that g img absent q lead) d ≡ q g img absent lead d
  unfolding slots_that
  that_below q d l = mask_below (q g img absent lead) g.n d l

  that_past : (q : Question) (d : ℕ) → g.n ≤ d → in_mask (slots_that g img absent q lead) d ≡ false
  unfolding slots_that
  that_past q d h = mask_past (q g img absent lead) g.n d h

  -- what is in a mask is a slot of the shelf that answers with yes
  that_in : (q : Question) (d : ℕ) → in_mask (slots_that g img absent q lead) d ≡ true → (d < g.n) × (q g img absent lead d ≡ true)
  that_in q d e = ⊎_elim (λ (l : d < g.n). (l, sym (that_below q d l) ∙ e)) (λ (h : g.n ≤ d). absurd (let f = that_past q d h in let z : ◌≡◌ {A = ℕ} 0 1 = cc in omega arith)) (lt_or_ge d g.n)

  present_slots : (d : ℕ) → (in_mask (slots_that g img absent takes_part lead) d || in_mask (slots_that g img absent adopts lead) d) ≡ (ltb d g.n && not (in_mask absent d))
  unfolding gone adopts
  present_slots d = ⊎_elim
      (λ (l : d < g.n). ap₂ (λ (x y : Bool). x || y) (that_below takes_part d l) (that_below adopts d l) ∙ present_raw (ltb d g.n) (in_mask absent d) (stale g img absent lead d) (lt-ltb d g.n l))
      (λ (h : g.n ≤ d). ap₂ (λ (x y : Bool). x || y) (that_past takes_part d h) (that_past adopts d h) ∙ sym (ap (λ (t : Bool). t && not (in_mask absent d)) (le-ltb d g.n h)))
      (lt_or_ge d g.n)

  apart_slots : (d : ℕ) → (in_mask (slots_that g img absent takes_part lead) d && in_mask (slots_that g img absent adopts lead) d) ≡ false
  unfolding gone adopts
  apart_slots d = ⊎_elim
      (λ (l : d < g.n). ap₂ (λ (x y : Bool). x && y) (that_below takes_part d l) (that_below adopts d l) ∙ apart_raw (ltb d g.n) (in_mask absent d) (stale g img absent lead d) (lt-ltb d g.n l))
      (λ (h : g.n ≤ d). ap₂ (λ (x y : Bool). x && y) (that_past takes_part d h) (that_past adopts d h))
      (lt_or_ge d g.n)

  one_way_slots : (d : ℕ) → (in_mask (slots_that g img absent gets_zeros lead) d && in_mask (slots_that g img absent gets_label lead) d) ≡ false
  unfolding gets_zeros gets_label
  one_way_slots d = ⊎_elim
      (λ (l : d < g.n). ap₂ (λ (x y : Bool). x && y) (that_below gets_zeros d l) (that_below gets_label d l) ∙ one_way_raw (adopts g img absent lead d) (prepared g img lead d) (wiped g img lead d))
      (λ (h : g.n ≤ d). ap₂ (λ (x y : Bool). x && y) (that_past gets_zeros d h) (that_past gets_label d h))
      (lt_or_ge d g.n)

  -- no copy on a present disk is ahead of the shelf's label, so no slot is prepared
  module _ (leads : shelf_label g img absent ≡ Some lead) where
    copy_top : (d s : ℕ) (x : Label) → d < g.n → s < 2 → in_mask absent d ≡ false → copy_of g img d s ≡ Some x → x.generation ≤ lead.generation
    unfolding disk_label present_label
    copy_top d s x hd hs e q = by (disk_label g img d) refl
      where
        by : (u : Decoded) → disk_label g img d ≡ u → x.generation ≤ lead.generation
        by None f = absurd (newest_none (copy_of g img d) 2 f s x hs q)
        by (Some l) f =
            omega (arith, (disk_says g img d l f).greatest s x hs q, (shelf_says g img absent lead leads).greatest d l hd (ap (λ (t : Bool). cond t None (disk_label g img d)) e ∙ f))

    age_top : (d s : ℕ) → d < g.n → s < 2 → in_mask absent d ≡ false → copy_age g img lead d s ≤ lead.generation
    unfolding copy_age
    age_top d s hd hs e = by (copy_of g img d s) refl
      where
        by : (u : Decoded) → copy_of g img d s ≡ u → age_under lead u ≤ lead.generation
        by None q = omega arith
        by (Some x) q = go (same_shelf lead x)
          where
            go : (t : Bool) → cond t x.generation 0 ≤ lead.generation
            go true = copy_top d s x hd hs e q
            go false = omega arith

    unprepared : (d : ℕ) → d < g.n → in_mask absent d ≡ false → prepared g img lead d ≡ false
    unfolding prepared
    unprepared d hd e =
        ne_eqb (copy_age g img lead d (sector_for (lead.generation + 1))) (lead.generation + 1)
        (λ q. omega (arith, age_top d (sector_for (lead.generation + 1)) hd (mod-lt (lead.generation + 1) (lit< tt)) e))

    given_slots : (d : ℕ) → (in_mask (slots_that g img absent gets_zeros lead) d || in_mask (slots_that g img absent gets_label lead) d) ≡ in_mask (slots_that g img absent adopts lead) d
    unfolding adopts gets_zeros gets_label
    given_slots d = ⊎_elim
        (λ (l : d < g.n).
        ap₂ (λ (x y : Bool). x || y) (that_below gets_zeros d l) (that_below gets_label d l)
        ∙ given_raw (adopts g img absent lead d) (prepared g img lead d) (wiped g img lead d)
        (λ e. unprepared d l (not-true (in_mask absent d) (and_left (not (in_mask absent d)) (stale g img absent lead d) e)))
        ∙ sym (that_below adopts d l))
        (λ (h : g.n ≤ d). ap₂ (λ (x y : Bool). x || y) (that_past gets_zeros d h) (that_past gets_label d h) ∙ sym (that_past adopts d h))
        (lt_or_ge d g.n)

  late_slots : (d : ℕ) → in_mask (slots_that g img absent adopts lead) d ≡ true → in_mask (slots_that g img absent goes_out lead) d ≡ true
  unfolding gone goes_out adopts
  late_slots d e =
      let u = that_in adopts d e in
      that_below goes_out d u.0 ∙ late_raw (in_mask lead.out d) (ltb d g.n) (in_mask absent d) (stale g img absent lead d) (lt-ltb d g.n u.0) u.1

  absent_slots : absent < 2 ^ g.n → (d : ℕ) → in_mask absent d ≡ true → in_mask (slots_that g img absent goes_out lead) d ≡ true
  unfolding gone goes_out
  absent_slots a d e = ⊎_elim
      (λ (l : d < g.n). that_below goes_out d l ∙ absent_raw (in_mask lead.out d) (ltb d g.n) (in_mask absent d) (stale g img absent lead d) (lt-ltb d g.n l) e)
      (λ (h : g.n ≤ d). absurd (let f = in_past g.n absent d a h in let z : ◌≡◌ {A = ℕ} 0 1 = cc in omega arith))
      (lt_or_ge d g.n)

-- ---- the labels can be written

-- the label l with another slot, generation, Out, rebuild and mark
abbrev changed : Label → (d q o r t : ℕ) → Label
changed l d q o r t = record l { slot = d; generation = q; out = o; rebuilding = r; mark = t }

fits_changed : (l : Label) (d q o r t : ℕ) → fits_of l ≡ true → d < l.k + l.m → 1 ≤ q → q ≤ most_generation → o < 2 ^ (l.k + l.m)
    → rebuild_fits (changed l d q o r t) ≡ true → fits_of (changed l d q o r t) ≡ true
unfolding fits_of
fits_changed l d q o r t e hd h1 hq ho hr =
    let e1 = and_right (leb l.k most_k) _ e in
    let e2 = and_right (leb l.m most_m) _ e1 in
    both (leb l.k most_k) _ (and_left (leb l.k most_k) _ e)
    (both (leb l.m most_m) _ (and_left (leb l.m most_m) _ e1)
    (both (in_range_with (geometry_of l) l.k) _ (and_left (in_range_with (geometry_of l) l.k) _ e2)
    (both (ltb d (l.k + l.m)) _ (lt-ltb d (l.k + l.m) hd)
    (both (leb 1 q) _ (le-leb 1 q h1)
    (both (leb q most_generation) _ (le-leb q most_generation hq) (both (ltb o (2 ^ (l.k + l.m))) _ (lt-ltb o (2 ^ (l.k + l.m)) ho) hr))))))

-- the shelf's label is a valid one
shelf_fits : (g : Geometry) (img : List ℕ) (absent : ℕ) (l : Label) → shelf_label g img absent ≡ Some l → fits_of l ≡ true
shelf_fits g img absent l e =
    let s = shelf_says g img absent l e in
    (disk_own g img s.whose l (present_says g img absent s.whose l s.is).1).1

slots_same : (g : Geometry) (l : Label) → fits_shelf g l ≡ true → l.k + l.m ≡ g.n
unfolding fits_shelf
slots_same g l e = eqb-true (l.k + l.m) g.n (and_left (eqb (l.k + l.m) g.n) _ e)

-- a rebuild goes on with a larger Out'
rebuild_on : (l : Label) (d q o : ℕ) → (l.rebuilding < l.k + l.m → in_mask l.out l.rebuilding ≡ true → in_mask o l.rebuilding ≡ true)
    → rebuild_fits l ≡ true → rebuild_fits (changed l d q o l.rebuilding l.mark) ≡ true
unfolding rebuild_fits
rebuild_on l d q o h = by (eqb l.rebuilding no_slot)
  where
    r : ℕ
    r = l.rebuilding

    rest : Bool
    rest = leb l.mark (stripes_of (geometry_of l))

    by : (b : Bool) → cond b (eqb l.mark 0) (ltb r (l.k + l.m) && (in_mask l.out r && rest)) ≡ true
        → cond b (eqb l.mark 0) (ltb r (l.k + l.m) && (in_mask o r && rest)) ≡ true
    by true e = e
    by false e =
        let below = and_left (ltb r (l.k + l.m)) (in_mask l.out r && rest) e in
        let e1 = and_right (ltb r (l.k + l.m)) (in_mask l.out r && rest) e in
        both (ltb r (l.k + l.m)) (in_mask o r && rest) below
        (both (in_mask o r) rest (h (ltb-true r (l.k + l.m) below) (and_left (in_mask l.out r) rest e1)) (and_right (in_mask l.out r) rest e1))

or_left : (a b : Bool) → a ≡ true → (a || b) ≡ true
or_left true b e = refl
or_left false b e = absurd (let z : ◌≡◌ {A = ℕ} 0 1 = cc in omega arith)

-- who is out stays out
out_stays : (g : Geometry) (img : List ℕ) (absent : ℕ) (lead : Label) (d : ℕ) → in_mask lead.out d ≡ true → goes_out g img absent lead d ≡ true
unfolding goes_out
out_stays g img absent lead d e = or_left (in_mask lead.out d) (gone g img absent lead d) e

-- a rebuild that has ended has no mark
ended : (l : Label) (d q o : ℕ) → rebuild_fits (changed l d q o no_slot 0) ≡ true
unfolding rebuild_fits
ended l d q o = refl

module _ (g : Geometry) (img : List ℕ) (absent : ℕ) (lead : Label) (fit : fits_of lead ≡ true) (own : fits_shelf g lead ≡ true) (left : lead.generation + 2 ≤ most_generation) where
  lead_writes : (d q : ℕ) → d < g.n → 1 ≤ q → q ≤ lead.generation + 2 → fits_of (for_slot lead d q) ≡ true
  lead_writes d q hd h1 hq =
      fits_changed lead d q lead.out lead.rebuilding lead.mark fit (omega (arith, slots_same g lead own)) h1 (omega arith) (fits_says lead fit).out_below
      (rebuild_on lead d q lead.out (λ l e. e) (fits_says lead fit).rebuild)

  next_writes : (d q : ℕ) → d < g.n → 1 ≤ q → q ≤ lead.generation + 2 → fits_of (for_slot (next_of g img absent lead) d q) ≡ true
  unfolding next_of slots_that
  next_writes d q hd h1 hq =
      by (gone g img absent lead lead.rebuilding)
    where
      o : ℕ
      o = mask_of (goes_out g img absent lead) g.n

      n_is : lead.k + lead.m ≡ g.n
      n_is = slots_same g lead own

      o_below : o < 2 ^ (lead.k + lead.m)
      o_below = subst (λ (x : ℕ). o < 2 ^ x) (sym n_is) (mask_lt (goes_out g img absent lead) g.n)

      by : (b : Bool) → fits_of (changed lead d q o (cond b no_slot lead.rebuilding) (cond b 0 lead.mark)) ≡ true
      by true = fits_changed lead d q o no_slot 0 fit (omega (arith, n_is)) h1 (omega arith) o_below (ended lead d q o)
      by false =
          fits_changed lead d q o lead.rebuilding lead.mark fit (omega (arith, n_is)) h1 (omega arith) o_below
          (rebuild_on lead d q o (λ l e. goes (omega (arith, n_is)) e) (fits_says lead fit).rebuild)
        where
          goes : lead.rebuilding < g.n → in_mask lead.out lead.rebuilding ≡ true → in_mask o lead.rebuilding ≡ true
          goes l e = mask_below (goes_out g img absent lead) g.n lead.rebuilding l ∙ out_stays g img absent lead lead.rebuilding e

-- ---- every plan is sound

pub plan_sound : (g : Geometry) (img : List ℕ) (absent : ℕ) (p : plan.Plan) → survey_of g img absent ≡ Ok p → Sound g absent p
unfolding next_of plan_of
plan_sound g img absent p e =
    let w = survey_grounds g img absent p e in
    let l = p.lead in
    let fit = shelf_fits g img absent l w.leads in
    subst (Sound g absent) (sym w.is) (record {
      present = present_slots g img absent l;
      apart = apart_slots g img absent l;
      given = given_slots g img absent l w.leads;
      one_way = one_way_slots g img absent l;
      absent_out = absent_slots g img absent l w.on_shelf_lem;
      late_out = late_slots g img absent l;
      two_on = refl;
      from_one = (fits_says l fit).from_one;
      lead_fits = lead_writes g img absent l fit w.shelf w.left;
      next_fits = next_writes g img absent l fit w.shelf w.left;
    })
