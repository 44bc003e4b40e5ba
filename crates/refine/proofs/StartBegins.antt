-- START-UP, as the code begins it: by the plan of the survey and the decision about the log it begins with a state in order,
-- beside which the protocol's program remembers that same start-up. Assumes nothing.
use Rattle.std.specs.Prelude.{◌≡◌, Bool, cond, ◌&&◌, ◌||◌, List, [], ℕ, suc, ◌+◌, ◌≤◌, ◌<◌, Ok, Err}
use Rattle.std.proofs.Math.Path.{refl, sym, ap, ap₂}
use Rattle.std.proofs.Common.{subst, ◌∙◌, inl, inr, arith, lt-ltb}
use Rattle.std.proofs.Math.Bool.{true, false, not}
use Rattle.std.proofs.Math.Dec.{eqb}
use Rattle.disk.specs.Tests.{and_left, and_right, both}
use Rattle.disk.specs.Mask.{in_mask, in_past}
use Rattle.disk.specs.declared.geometry.Geometry.{Geometry}
use Rattle.disk.specs.declared.refusal.Refusal.TheVariants.{BadBuffer}
use Rattle.label.specs.Fields.{most_generation, fits_of}
use Rattle.label.specs.Newest.{same_shelf}
use Rattle.label.specs.declared.fields.Label as bytes
use Rattle.label.proofs.Fits.{fits_says}
use Rattle.redo.specs.Decide.{redo_of}
use Rattle.redo.specs.declared.Redo.{Redo}
use Rattle.redo.specs.declared.Redo.TheVariants as redo
use Rattle.rounds.specs.Slot as Slot
use Rattle.rounds.specs.Survey.{slots_that, next_of, plan_of, survey_of}
use Rattle.rounds.specs.Plans.{Sound}
use Rattle.rounds.specs.declared.plan.Plan.{Plan}
use Rattle.rounds.specs.Survey.{Survey}
use Rattle.rounds.proofs.Plans.{survey_grounds, plan_sound}
use Rattle.protocol.specs.World.{log}
use Rattle.protocol.specs.Label.{Label, belief, prepared}
use Rattle.protocol.specs.Redo as protocol
use Rattle.protocol.specs.Program.{beyond, mask, asked_start}
use Rattle.protocol.specs.Pairs.{no_sets}
use Rattle.codecs.specs.Shelf.{Shelf, slots, geometry, size}
use Rattle.codecs.specs.Labels.{ours, label_of}
use Rattle.codecs.proofs.Labels.{labels}
use Rattle.codecs.proofs.Records.{records}
use Rattle.codecs.specs.Media.{stamps}
use Rattle.shards.proofs.Even.{any_code, any_sectors}
use Rattle.shelf.specs.Step.{sound}
use Rattle.stages.specs.declared.state.State.{State}
use Rattle.stages.specs.declared.state.Kind.TheVariants.{Starting}
use Rattle.requests.specs.Begun.{slots_but, work_bytes}
use Rattle.requests.specs.Start.{marks_by, started, by_survey, start_of}
use Rattle.requests.specs.Begun.{Begun}
use Rattle.refine.specs.Disks.{cur_of}
use Rattle.refine.specs.Labels.{Led}
use Rattle.refine.proofs.Labels.{L_is}
use Rattle.refine.specs.Labels as Labels
use Rattle.refine.specs.Rounds.{beyond_below}
use Rattle.refine.proofs.Rounds.{next_is, parts_is, late_is, after_is, zeroed_is, kept_is}
use Rattle.refine.proofs.Redo.{redo_none, redo_forward, redo_kill, settled_dark}
use Rattle.refine.specs.Redo as Redo
use Rattle.refine.specs.Given.{shelf_geometry}
use Rattle.refine.specs.Steps.{Fair}
use Rattle.refine.specs.Lists.{Says}
use Rattle.refine.specs.StartList.{sight, settles, top, readies, adopts, blanked, LogPart, Starts}
use Rattle.refine.proofs.Begins.{start_fair}
use Rattle.refine.specs.Tied.{memory_of}
use Rattle.refine.proofs.Asked.{start_asked}
use Rattle.refine.specs.Requests.{slots_say}
use Rattle.refine.specs.StartBegins.{A, p, new, begins}
use Rattle.requests.specs.Begun.{outcome_of, state_of}

-- those that get zeros, and those that get the label: all that are not prepared
cover : (a b w : Bool) → ((a && (b && w)) || (a && (b && not w))) ≡ (a && b)
cover true true true = refl
cover true true false = refl
cover true false w = refl
cover false b w = refl

module _ (z : Shelf) (img : List ℕ) (absent : ℕ) (l : bytes.Label) where
  module _ (led : Led z img absent (A z img absent l) l) (plan_is : Sound (geometry z) absent (p z img absent l)) where
    late_says : Says z (slots_that (geometry z) img absent Slot.adopts l) (adopts z (A z img absent l) img)
    late_says = late_is z img absent (A z img absent l) l led

    -- every slot that adopts is given something first
    prep_says : Says z (slots_that (geometry z) img absent Slot.adopts l) (readies z (A z img absent l) img)
    unfolding plan_of
    prep_says d i =
        let late = in_mask (slots_that (geometry z) img absent Slot.adopts l) d in
        let b = not (prepared (labels z) (sight z (A z img absent l) img) (suc (top z (A z img absent l) img)) d) in
        sym (plan_is.given d) ∙ ap₂ (λ (x y : Bool). x || y) (zeroed_is z img absent (A z img absent l) l led d i) (kept_is z img absent (A z img absent l) l led d i) ∙ cover late b (blanked z (A z img absent l) img d)
        ∙ ap (λ (x : Bool). x && b) (late_says d i)

    zeroed_says : (d : ℕ) → d < slots z → readies z (A z img absent l) img d ≡ true → in_mask (slots_that (geometry z) img absent Slot.gets_zeros l) d ≡ blanked z (A z img absent l) img d
    zeroed_says d i e =
        let b = not (prepared (labels z) (sight z (A z img absent l) img) (suc (top z (A z img absent l) img)) d) in
        zeroed_is z img absent (A z img absent l) l led d i
        ∙ ap₂ (λ (x y : Bool). x && (y && blanked z (A z img absent l) img d)) (late_says d i ∙ and_left (adopts z (A z img absent l) img d) b e) (and_right (adopts z (A z img absent l) img d) b e)

    starts_with : (redo stripe : ℕ) (forward : Bool) → LogPart z (A z img absent l) img ((begins z img absent l) redo stripe forward) → Starts z (A z img absent l) img ((begins z img absent l) redo stripe forward)
    unfolding plan_of
    starts_with redo stripe forward part =
        record {
          kind = refl;
          at_first = refl;
          now = sym (L_is z img absent (A z img absent l) l led);
          level = omega (arith, after_is z img absent (A z img absent l) l led);
          next = sym (next_is z img absent (A z img absent l) l led);
          present = λ d i. slots_say z absent d i ∙ sym (ap not (beyond_below (slots z) absent d i));
          parts = parts_is z img absent (A z img absent l) l led;
          late = late_says;
          prep = prep_says;
          zeroed = zeroed_says;
          log_part = part;
        }

    -- WHAT IS DONE ABOUT THE LOG, where no tail that is looked at is garbage
    module _ (real : Redo.Fair z (new z img absent l) img led.disks (A z img absent l) (settled_dark z img absent (A z img absent l) l led)) where
      settles_is : label_of z (new z img absent l) ≡ settles z (A z img absent l) img
      settles_is = sym (next_is z img absent (A z img absent l) l led)

      starts_by : (r : Redo) → redo_of (geometry z) img (new z img absent l) ≡ r → Starts z (A z img absent l) img (record { now = (p z img absent l).lead; next = (p z img absent l).next; absent = absent; epoch = (p z img absent l).next.generation; count = 0; marks = marks_by (slots_but absent (slots z)) (p z img absent l) r; kind = Starting; cursor = record { stage = 0; slot = 0; sector = 0 } })
      unfolding belief
      starts_by redo.Nothing e =
          starts_with 0 0 false (inl (subst (λ (N : Label). protocol.redo (records z) (belief (size z) N) (sight z (A z img absent l) img) ≡ []) settles_is (redo_none z (new z img absent l) img led.disks (A z img absent l) (settled_dark z img absent (A z img absent l) l led) real e), λ d i. in_past 0 0 d (omega arith) (omega arith)))
      starts_by (redo.Forward t m) e =
          let w = redo_forward z (new z img absent l) img led.disks (A z img absent l) (settled_dark z img absent (A z img absent l) l led) real t m e in
          starts_with m t true
          (inr (inl (subst
          (λ (N : Label). let B = belief (size z) N in
          (protocol.redo (records z) B (sight z (A z img absent l) img) ≡ protocol.forward (records z) B (sight z (A z img absent l) img)) × (◌≡◌ {A = Bool} true true) × (t ≡ (records z).stripe_of (protocol.tail (records z) B (sight z (A z img absent l) img)))
          × Says z m (λ d. B.believe d ((records z).stripe_of (protocol.tail (records z) B (sight z (A z img absent l) img))) && (records z).changes_of (protocol.tail (records z) B (sight z (A z img absent l) img)) d)) settles_is
          (w.0, refl, sym w.1, w.2))))
      starts_by (redo.Kill m) e =
          let w = redo_kill z (new z img absent l) img led.disks (A z img absent l) (settled_dark z img absent (A z img absent l) l led) real m e in
          starts_with m 0 false
          (inr (inr (subst
          (λ (N : Label). let B = belief (size z) N in
          (protocol.redo (records z) B (sight z (A z img absent l) img) ≡ protocol.kill (records z) B (sight z (A z img absent l) img)) × (◌≡◌ {A = Bool} false false)
          × Says z m (λ d. B.look d && eqb ((records z).stamp (sight z (A z img absent l) img (log d z.c))) (protocol.key (records z) B (sight z (A z img absent l) img) (protocol.lead (records z) B (sight z (A z img absent l) img))))) settles_is
          (w.0, refl, w.1))))

      pub starts : Starts z (A z img absent l) img (started (geometry z) absent (p z img absent l) img)
      unfolding plan_of
      starts = starts_by (redo_of (geometry z) img (new z img absent l)) refl

      -- ---- in order, and remembered

      fit_lead : fits_of l ≡ true
      fit_lead = (Labels.named (geometry z) img absent l led.disks.small led.leads).0

      own_next : ours z (new z img absent l) ≡ true
      unfolding next_of same_shelf
      own_next = led.own

      fit_next : fits_of (new z img absent l) ≡ true
      unfolding plan_of next_of
      fit_next =
          let n : l.k + l.m ≡ slots z = ap (λ (g : Geometry). g.n) (shelf_geometry z l led.own) in
          plan_is.next_fits l.slot (l.generation + 2) (omega (arith, n, (fits_says l fit_lead).on_shelf_lem)) (omega arith) (omega arith)

      taken : sound (started (geometry z) absent (p z img absent l) img) ≡ true
      unfolding sound plan_of
      taken = both (fits_of l) _ fit_lead (lt-ltb 0 l.sectors (omega (arith, (fits_says l fit_lead).range.room)))

      pub start_state : l.generation + 1 ≤ most_generation
          → Fair z (started (geometry z) absent (p z img absent l) img) [] img
          × (memory_of z (started (geometry z) absent (p z img absent l) img) [] img
          ≡ asked_start (size z) (no_sets (slots z)) (labels z) (records z) (any_code z) stamps (any_sectors z) (A z img absent l) (mask (size z) (no_sets (slots z)) (labels z) (records z) (any_code z) stamps (any_sectors z) (A z img absent l) (cur_of z img)))
      unfolding plan_of
      start_state high = (
        start_fair z (started (geometry z) absent (p z img absent l) img) img taken led.own led.disks refl (A z img absent l) starts (λ d i. sym (beyond_below (slots z) absent d i)) own_next fit_next high,
        start_asked z (started (geometry z) absent (p z img absent l) img) img starts (ap (λ (N : Label). N.generation) settles_is) refl,
      )

-- an accepted start-up begins with the plan's state
goes : (b : Bool) (s t : State) → outcome_of (cond {A = Begun} b (Ok t) (Err BadBuffer)) ≡ Ok tt → state_of s (cond {A = Begun} b (Ok t) (Err BadBuffer)) ≡ t
goes true s t e = refl
goes false s t e = absurd (let z : ◌≡◌ {A = ℕ} 0 1 = cc in omega arith)

-- START-UP, accepted, where no tail that is looked at under the settled label is garbage
pub start_begins : (z : Shelf) (img : List ℕ) (absent : ℕ) (p : Plan) (led : Led z img absent (beyond (slots z) (in_mask absent)) p.lead)
    → survey_of (geometry z) img absent ≡ Ok p
    → Redo.Fair z (next_of (geometry z) img absent p.lead) img led.disks (beyond (slots z) (in_mask absent)) (settled_dark z img absent (beyond (slots z) (in_mask absent)) p.lead led)
    → (s : State) (room : ℕ) → outcome_of (start_of (geometry z) absent img room) ≡ Ok tt
    → Fair z (state_of s (start_of (geometry z) absent img room)) [] img
    × (memory_of z (state_of s (start_of (geometry z) absent img room)) [] img
    ≡ asked_start (size z) (no_sets (slots z)) (labels z) (records z) (any_code z) stamps (any_sectors z) (beyond (slots z) (in_mask absent)) (mask (size z) (no_sets (slots z)) (labels z) (records z) (any_code z) stamps (any_sectors z) (beyond (slots z) (in_mask absent)) (cur_of z img)))
start_begins z img absent p led e real s room d =
    let g = geometry z in
    let r = survey_grounds g img absent p e in
    let P : State → Type 0 = λ x. Fair z x [] img × (memory_of z x [] img ≡ asked_start (size z) (no_sets (slots z)) (labels z) (records z) (any_code z) stamps (any_sectors z) (beyond (slots z) (in_mask absent)) (mask (size z) (no_sets (slots z)) (labels z) (records z) (any_code z) stamps (any_sectors z) (beyond (slots z) (in_mask absent)) (cur_of z img))) in
    let by : start_of g absent img room ≡ cond (eqb room (work_bytes (slots z) z.c)) (Ok (started g absent p img)) (Err BadBuffer) = ap (λ (x : Survey). by_survey x g absent img room) e in
    let q : state_of s (start_of g absent img room) ≡ started g absent p img = ap (state_of s) by ∙ goes (eqb room (work_bytes (slots z) z.c)) s (started g absent p img) (sym (ap (λ (x : Begun). outcome_of x) by) ∙ d) in
    subst P (sym q)
    (subst (λ (x : Plan). P (started g absent x img)) (sym r.is) (start_state z img absent p.lead led (subst (Sound g absent) r.is (plan_sound g img absent p e)) real (omega (arith, r.left))))
