-- EVERY BLOCK CAN BE READ. Along every chain of calls from an image of zeros on, whatever was cut, taken out or exchanged on it, a read at rest of any block of the shelf, with a block's buffer and the chain's
-- work area, is answered Done: at most m slots are out or absent, and the state's label is in range. With Serves: at rest every block reads as its entry of the host's list. And a write of
-- any block is accepted where each present disk holds the state's label. What is asked is what Promise asks. Assumes nothing.
use Rattle.std.specs.Prelude.{◌≡◌, not, ◌&&◌, List, [], ◌∷◌, length, Ok, Err}
use Rattle.std.proofs.Math.Path.{refl, ap, ap₂}
use Rattle.std.proofs.Common.{sym, subst, ◌∙◌, ⊎_elim, inl, inr, arith}
use Rattle.std.proofs.Math.Bool.{Bool, true, false, cond}
use Rattle.std.proofs.lemmas.Bool.{false≢true}
use Prim.Native.Nat.{ℕ, zero, suc, ◌+◌, ◌*◌, ◌≤◌, ◌<◌, ◌/◌, ◌%◌}
use Rattle.std.proofs.Math.Dec.{eqb}
use borrow.Author.Tests.{lt-ltb}
use Rattle.disk.specs.Limits.{sector_bytes}
use Rattle.disk.specs.Mask.{in_mask, with_slot, without_slot}
use Rattle.disk.specs.Tests.{and_right}
use Rattle.disk.specs.Geometry.{blocks_of}
use Rattle.disk.specs.Image.{fits_image}
use Rattle.disk.specs.declared.geometry.Geometry.{Geometry}
use Rattle.disk.specs.declared.refusal.Refusal.TheVariants.{BadImage, NoLabel, NotNow, BadBuffer}
use Rattle.disk.specs.Refusal.{Outcome}
use Rattle.label.specs.Bytes.{all_zero}
use Rattle.label.specs.Fields.{geometry_of, fits_of, no_slot}
use Rattle.label.specs.Newest.{all_of}
use Rattle.label.proofs.Fits.{fits_says}
use Rattle.label.specs.declared.fields.Label as bytes
use Rattle.rounds.specs.Survey.{survey_of, next_of, plan_of}
use Rattle.rounds.specs.declared.plan.Plan.{Plan}
use Rattle.rounds.specs.Survey.{Survey}
use Rattle.rounds.proofs.Plans.{survey_grounds}
use Rattle.protocol.specs.World.{World, Action, put, flush}
use Rattle.protocol.specs.Host.{Host}
use Rattle.protocol.specs.Machine.{Machine, View, sure, list_of}
use Rattle.protocol.specs.Count.{count}
use Rattle.codecs.specs.Sector.{Sector}
use Rattle.codecs.specs.Shelf.{Shelf, slots, geometry}
use Rattle.codecs.specs.Labels.{ours}
use Rattle.codecs.specs.Records.{strip_bytes}
use Rattle.shelf.specs.Act.{Move}
use Rattle.shelf.specs.Step.{step_move}
use Rattle.stages.specs.Stage.{round_stage, create_stage, start_stage, last_stage, begin_stage, fill_stage, stage_at}
use Rattle.stages.specs.declared.state.State.{State}
use Rattle.stages.specs.declared.state.Kind.{Kind}
use Rattle.stages.specs.declared.state.Kind.TheVariants.{Idle}
use Rattle.requests.specs.Begun.{work_bytes, begun, first, state_of}
use Rattle.requests.specs.Create.{create_answer, created}
use Rattle.requests.specs.Start.{started, by_survey, start_of}
use Rattle.requests.specs.Step.{other_work, step_with, sound_fits, step_short, step_goes}
use Rattle.requests.specs.TakeOut.{plainly_out, next_label, outed, take_answer, took_out}
use Rattle.requests.specs.Ready.{is_nothing, is_idle, has_shelf, holding, ready_of}
use Rattle.rebuilds.specs.Begin.{begin_answer, began}
use Rattle.rebuilds.specs.On.{first_stage, at_least_one, last_batch, on_label, on_answer, went_on}
use Rattle.blocks.specs.Slots.{too_few}
use Rattle.blocks.specs.Read.{read_answer, after_read}
use Rattle.blocks.specs.Repair.{repair_accuses, repair_refused}
use Rattle.blocks.specs.Write.{most_count, stamp_left, write_answer, AfterWrite}
use Rattle.refine.specs.Family.{Family}
use Rattle.refine.specs.Disks.{Disks, image_fits}
use Rattle.refine.specs.Given.{shelf_geometry}
use Rattle.refine.specs.ToDo.{under_of, to_do}
use Rattle.refine.specs.Steps.{Tells, Can, Fair, Moved, Does}
use Rattle.refine.proofs.Steps.{step_does}
use Rattle.refine.specs.Tied.{plain}
use Rattle.refine.proofs.Tied.{fair_work}
use Rattle.refine.specs.Other.{create_late}
use Rattle.refine.specs.Chain.{blocks, fresh, step_rests, idle_is}
use Rattle.refine.specs.Hosts.{Held, none, has, Time, at, held, HostCalls, creates, starts, creates_late, takes_out, begins, ons, writes, repairs, steps, swaps, cut, dies, HostChain, stays, goes_on, Bound}
use Rattle.refine.proofs.Hosts.{loose, not_rest}
use Rattle.refine.specs.HostTrue.{SomeBound, Along}
use Rattle.refine.proofs.HostTrue.{along_end}
use Rattle.refine.specs.Since.{AnyTwoSince}
use Rattle.refine.proofs.Since.{rests_out}
use Rattle.refine.specs.Serves.{ReadsAs, Served}
use Rattle.refine.proofs.Serves.{bound_since}
use Rattle.refine.specs.Promise.{ComesTo}
use Rattle.refine.proofs.Promise.{along, view, view_served, rests_true, absent_out, room_kept}
use Rattle.refine.specs.Answered.{InRange, InRangeAt, Fairly, n_is, enough, block_goes, read_goes}
use Rattle.requests.specs.Begun.{outcome_of}

-- no request changes the slot that is named in the state's label
either_slot : (b : Bool) (x y : bytes.Label) (n : ℕ) → x.slot ≡ n → y.slot ≡ n → (cond {A = bytes.Label} b x y).slot ≡ n
either_slot true x y n p q = p
either_slot false x y n p q = q

outed_slot : (l : bytes.Label) (d : ℕ) → (outed l d).slot ≡ l.slot
unfolding outed
outed_slot l d = either_slot (eqb l.rebuilding d) (next_label l (with_slot l.out d) no_slot 0) (next_label l (with_slot l.out d) l.rebuilding l.mark) l.slot refl refl

on_slot : (l : bytes.Label) (b : ℕ) → (on_label l b).slot ≡ l.slot
unfolding on_label
on_slot l b = either_slot (last_batch l b) (next_label l (without_slot l.out l.rebuilding) no_slot 0) (next_label l l.out l.rebuilding (l.mark + at_least_one b)) l.slot refl refl

-- the rebuild gives its label in its third stage
first_low : (n : ℕ) → first_stage n ≤ 2
first_low zero = omega arith
first_low (suc n) = omega arith

module _ (z : Shelf) (first : Machine Sector) where
  module _ (w : World Sector) (img : List ℕ) where
    -- the tie says so
    pub busy_fair : (F : Family z) (p : View Sector) (s : State) (work : List ℕ) → is_idle s.kind ≡ false → Bound z F first p w img (has s work) → Fair z s work img
    busy_fair F p s work busy (inl t) =
        ⊎_elim (λ (f : Fair z s [] img × (plain s.kind ≡ true)). fair_work z [] work s img f.1 f.0) (λ (q : (s.kind ≡ Idle) × (ours z s.now ≡ true)). absurd (false≢true (sym busy ∙ ap is_idle q.0))) t.order.1
    busy_fair F p s work busy (inr (inl t)) = t.fair
    busy_fair F p s work busy (inr (inr (inl t))) = t.fair
    busy_fair F p s work busy (inr (inr (inr t))) = t.refills.fair

    -- one of its stages, not yet passed, gives the label that it settles: so that label can be told to each slot
    begun_fits : (x : State) (work : List ℕ) → is_idle x.kind ≡ false → (give : ℕ) → x.cursor.stage ≤ give → (Can z x.absent (under_of x) work (stage_at x.kind x give) → Tells z x.next) → x.next.slot ≡ x.now.slot
        → Fairly z (at w img (has x work)) → InRange (has x work)
    begun_fits x work busy give low tells same n =
        let f = n.2 busy in
        let a = sound_fits x f.in_range_lem in
        let wide : x.now.k + x.now.m ≡ slots z = ap (λ (g : Geometry). g.n) (shelf_geometry z x.now f.ours_now) in
        (a, (tells (f.stages give low)).fit x.next.slot (omega (arith, same, wide, (fits_says x.now a).on_shelf_lem)))

    taken : (h : Held) (o : Outcome) (s x : State) (work : List ℕ) → Fairly z (at w img (held h (begun o x) work)) → (Fairly z (at w img (has x work)) → InRange (has x work)) → InRange h
        → InRange (held h (begun o x) work)
    taken h (Ok tt) s x work n is t = is n
    taken h (Err why) s x work n is t = t

    start_fits : (h : Held) (s : State) (g : Geometry) (absent : ℕ) (work : List ℕ) → Fairly z (at w img (held h (start_of g absent img (length work)) work)) → InRange h
        → InRange (held h (start_of g absent img (length work)) work)
    unfolding start_stage round_stage plan_of next_of
    start_fits h s g absent work = by (survey_of g img absent) refl
      where
        by : (x : Survey) → survey_of g img absent ≡ x → Fairly z (at w img (held h (by_survey x g absent img (length work)) work)) → InRange h
            → InRange (held h (by_survey x g absent img (length work)) work)
        by (Err why) e n t = t
        by (Ok p) e n t = room (eqb (length work) (work_bytes g.n g.c)) n t
          where
            room : (b : Bool) → Fairly z (at w img (held h (cond b (Ok (started g absent p img)) (Err BadBuffer)) work)) → InRange h
                → InRange (held h (cond b (Ok (started g absent p img)) (Err BadBuffer)) work)
            room true n t = begun_fits (started g absent p img) work refl 5 (omega arith) (λ c. c.1) (ap (λ (x : Plan). x.next.slot) (survey_grounds g img absent p e).is) n
            room false n t = t

    create_fits : (work : List ℕ) → Fairly z (at w img (has (created z.k z.m z.c z.sectors z.number) work)) → InRange (has (created z.k z.m z.c z.sectors z.number) work)
    unfolding create_stage round_stage
    create_fits work = begun_fits (created z.k z.m z.c z.sectors z.number) work refl 1 (omega arith) (λ c. c.1) refl

    out_fits : (s : State) (work : List ℕ) (d : ℕ) → Fairly z (at w img (has (took_out s d) work)) → InRange (has (took_out s d) work)
    unfolding round_stage
    out_fits s work d = begun_fits (took_out s d) work refl 0 (omega arith) (λ c. c.1) (outed_slot s.now d)

    begin_fits : (s : State) (work : List ℕ) (d : ℕ) → Fairly z (at w img (has (began s d img) work)) → InRange (has (began s d img) work)
    unfolding begin_stage last_stage round_stage
    begin_fits s work d = begun_fits (began s d img) work refl 9 (omega arith) (λ c. c.1) refl

    on_fits : (s : State) (work : List ℕ) (b : ℕ) → Fairly z (at w img (has (went_on s b img) work)) → InRange (has (went_on s b img) work)
    unfolding fill_stage round_stage
    on_fits s work b = begun_fits (went_on s b img) work refl 2 (first_low (went_on s b img).marks.stripe) (λ c. c.1) (on_slot s.now b)

    -- a step keeps both labels, or settles the second
    moves_fit : (s x : State) (work : List ℕ) → Moved s x → InRange (has s work) → InRange (has x work)
    moves_fit s x work e t = (ap (λ (y : State). fits_of y.now) e ∙ t.0, ap (λ (y : State). fits_of y.next) e ∙ t.1)

    does_fit : (s : State) (work : List ℕ) (m : Move) (l : List (Action Sector)) → Does z work img s m l → InRange (has s work) → InRange (has m.stepped.state work)
    does_fit s work m [] h t = subst (λ (x : Move). InRange (has x.stepped.state work)) (sym h) (t.1, t.1)
    does_fit s work m (put k v ∷ l) h t = subst (λ (x : Move). InRange (has x.stepped.state work)) (sym h.is) (moves_fit s h.state work h.kept t)
    does_fit s work m (flush d ∷ l) h t = subst (λ (x : Move). InRange (has x.stepped.state work)) (sym h.is) (moves_fit s h.state work h.kept t)

    step_fits : (s : State) (work : List ℕ) → Fairly z (at w img (has s work)) → InRange (has s work) → InRange (has (step_with s img work).stepped.state work)
    step_fits s work n t = by (is_idle s.kind) refl
      where
        by : (b : Bool) → is_idle s.kind ≡ b → InRange (has (step_with s img work).stepped.state work)
        by true e = subst (λ (x : Move). InRange (has x.stepped.state work)) (sym (step_rests z n.0 first n.1 s img work (idle_is z n.0 first n.1 s.kind e))) t
        by false e = go (other_work s.now (length img) (length work)) refl
          where
            f : Fair z s work img
            f = n.2 e

            go : (b : Bool) → other_work s.now (length img) (length work) ≡ b → InRange (has (step_with s img work).stepped.state work)
            go true q = subst (λ (x : Move). InRange (has x.stepped.state work)) (sym (step_short s img work f.in_range_lem q)) t
            go false q = subst (λ (x : Move). InRange (has x.stepped.state work)) (sym (step_goes s img work f.in_range_lem q)) (does_fit s work (step_move s work img) (to_do z s work img) (step_does z work img s f) t)

  pub call_fits : {a b : Time} (x : HostCalls z a b) → Fairly z a → Fairly z b → InRangeAt a → InRangeAt b
  call_fits (creates {w} {img} {h} s work) n n' t = taken w img h (create_answer z.k z.m z.c z.sectors img (length work)) s (created z.k z.m z.c z.sectors z.number) work n' (create_fits w img work) t
  call_fits (creates_late {w} {img} {h} s k m c S number work e) n n' t =
      subst (λ (o : Outcome). InRange (held h (begun o (created k m c S number)) work)) (sym (create_late k m c S img (length work) e)) t
  call_fits (starts {w} {img} {h} s g absent work sits) n n' t = start_fits w img h s g absent work n' t
  call_fits (takes_out {w} {img} {s} {work} d) n n' t = taken w img (has s work) (take_answer s.now s.kind s.absent img d (length work)) s (took_out s d) work n' (out_fits w img s work d) t
  call_fits (begins {w} {img} {s} {work} d) n n' t = taken w img (has s work) (begin_answer s.now s.kind s.absent img d (length work)) s (began s d img) work n' (begin_fits w img s work d) t
  call_fits (ons {w} {img} {s} {work} b) n n' t = taken w img (has s work) (on_answer s.now s.kind s.absent img (length work)) s (went_on s b img) work n' (on_fits w img s work b) t
  call_fits (writes {w} {img} {s} {work} b given s' then x y e) n n' t = by (write_answer s.now s.kind s.absent s.count img b (length given) (length work)) e
    where
      by : (o : Outcome) → AfterWrite o s b given img work s' then → InRange (has s' then)
      by (Ok tt) a = subst (λ (q : State). InRange (has q then)) (sym a.becomes) (t.0, t.0)
      by (Err why) a = subst (λ (q : State). InRange (has q then)) (sym a.0) t
  call_fits (repairs {w} {img} {s} {work} u b then r) n n' t = by (outcome_of b) refl
    where
      by : (o : Outcome) → outcome_of b ≡ o → InRange (has (state_of s b) then)
      by (Ok tt) e = subst (λ (q : State). InRange (has q then)) (sym (repair_accuses s u img work b then r e).2) (t.0, t.0)
      by (Err why) e = subst (λ (q : State). InRange (has q then)) (sym (repair_refused s u img work b then r why e).0) t
  call_fits (steps {w} {w'} {img} {s} {work} heard) n n' t = step_fits w img s work n t
  call_fits (swaps d left x) n n' t = t
  call_fits (cut left d p) n n' t = tt
  call_fits dies n n' t = tt

  bound_fairly : (t : Time) → SomeBound z first t → Fairly z t
  bound_fairly (at w img none) n = (n.0, n.1, tt)
  bound_fairly (at w img (has s work)) n = (n.0, n.1, λ busy. busy_fair w img n.0 n.1 s work busy n.2)

  pub chain_fits : {a b : Time} (c : HostChain z a b) → Along z first c → InRangeAt a → InRangeAt b
  chain_fits stays n t = t
  chain_fits (goes_on {b = b} {c = e} c x) n t = call_fits x (bound_fairly b (along_end z first c n.0)) (bound_fairly e n.1) (chain_fits c n.0 t)

-- ---- WHAT IS ASKED OF A READ

-- at rest the label is this shelf's
module _ (z : Shelf) (F : Family z) (first : Machine Sector) (p : View Sector) (w : World Sector) (img : List ℕ) (s : State) (work : List ℕ) (rests : s.kind ≡ Idle) where
  pub rest_ours : Bound z F first p w img (has s work) → ours z s.now ≡ true
  rest_ours (inl t) = ⊎_elim (λ (f : Fair z s [] img × (plain s.kind ≡ true)). f.0.ours_now) (λ (q : (s.kind ≡ Idle) × (ours z s.now ≡ true)). q.1) t.order.1
  rest_ours (inr t) = absurd (not_rest z F first p w img s work t (ap is_idle rests))

-- a label of this shelf that is in range
module _ (z : Shelf) (l : bytes.Label) (own : ours z l ≡ true) (fit : fits_of l ≡ true) (absent : ℕ) where
  module _ (few : too_few l absent ≡ false) (b : ℕ) (buf work : List ℕ) (inner : b < blocks_of (geometry z) z.k) (whole : length buf ≡ z.c * sector_bytes) (room : length work ≡ work_bytes (slots z) z.c) where
    -- and is written at rest, where the present disks hold the label
    write_goes : (kind : Kind) → kind ≡ Idle → (count : ℕ) → count < most_count → (img : List ℕ) → Disks z img
        → write_answer l kind absent count img b (length buf) (length work) ≡ cond (all_of (holding (geometry z) img absent l) (slots z)) (Ok tt) (Err NoLabel)
    unfolding ready_of has_shelf stamp_left
    write_goes kind e count small img disks =
        let fits : fits_image (geometry_of l) (length img) ≡ true = ap (λ (g : Geometry). fits_image g (length img)) (shelf_geometry z l own) ∙ image_fits z img disks in
        let ready : ready_of l kind absent img ≡ cond (all_of (holding (geometry z) img absent l) (slots z)) (Ok tt) (Err NoLabel) = λ i.
        cond (not (is_nothing (e i)) && fit i)
        (cond (fits i) (cond (is_idle (e i)) (cond (all_of (holding (shelf_geometry z l own i) img absent l) ((n_is z l own fit absent) i)) (Ok tt) (Err NoLabel)) (Ok tt)) (Err BadImage)) (Err NotNow) in
        ap₂ first ready ((block_goes z l own fit absent few b buf work inner whole room) (is_idle kind) (stamp_left count) (ap is_idle e) (lt-ltb count most_count small)) ∙ by (all_of (holding (geometry z) img absent l) (slots z))
      where
        by : (x : Bool) → first (cond x (Ok tt) (Err NoLabel)) (Ok tt) ≡ cond x (Ok tt) (Err NoLabel)
        by true = refl
        by false = refl

-- the views at the end of a chain
served_now : {z : Shelf} {a b : Time} (c : HostChain z a b) (p q : View Sector) → Served c p q → ReadsAs z b q
served_now stays p q s = s.1
served_now (goes_on c x) p q s = s.3

-- ---- FROM ZEROS ON

module _ (z : Shelf) (first : List ℕ) (disks : Disks z first) (blank : all_zero first ≡ true) {w : World Sector} {img : List ℕ} {s : State} {work : List ℕ} (chain : ComesTo z first disks blank (at w img (has s work))) (two : AnyTwoSince chain) where
  -- THE STATE'S LABEL IS IN RANGE, and so is the one that the request under way is to settle
  pub labels_in_range : (fits_of s.now ≡ true) × (fits_of s.next ≡ true)
  labels_in_range = chain_fits z (fresh z first disks blank) chain (along z first disks blank chain two) tt

  module _ (rests : s.kind ≡ Idle) where
    -- AT REST AT MOST m SLOTS ARE OUT OR ABSENT
    pub rests_enough : too_few s.now s.absent ≡ false
    unfolding plainly_out
    rests_enough =
        let y = bound_since z first disks blank chain two in
        let few = y.0.few (in_mask s.now.out) (rests_out z (fresh z first disks blank) y.0 y.1 (at w img (has s work)) y.3 (ap is_idle rests)) in
        enough z s.now (rest_ours z y.0 (fresh z first disks blank) y.1 w img s work rests y.3) labels_in_range.0 s.absent few (λ d i a. and_right (not (eqb s.now.rebuilding d)) (in_mask s.now.out d) (absent_out z first disks blank chain two rests d i a))

    module _ (b : ℕ) (buf : List ℕ) (inner : b < blocks_of (geometry z) z.k) (whole : length buf ≡ z.c * sector_bytes) where
      -- EVERY BLOCK CAN BE READ at rest
      pub reads_answered : read_answer s.now s.kind s.absent b (length img) (length buf) (length work) ≡ Ok tt
      reads_answered =
          let y = bound_since z first disks blank chain two in
          read_goes z s.now (rest_ours z y.0 (fresh z first disks blank) y.1 w img s work rests y.3) labels_in_range.0 s.absent rests_enough b buf work inner whole (room_kept z first disks blank chain two) s.kind rests img
          (loose z y.0 (fresh z first disks blank) y.1 w img (has s work) y.3).disks

      -- AND READS AS ITS ENTRY of the list that is the host's view
      pub reads_entry : (v : Host Sector) × (view z first disks blank chain two ≡ sure v)
          × (after_read (read_answer s.now s.kind s.absent b (length img) (length buf) (length work)) s b img work buf ≡ strip_bytes (v (b / z.k) (b % z.k)) z.c)
      reads_entry =
          let r = rests_true z first disks blank chain two rests in
          let shown = served_now chain (sure blocks) (view z first disks blank chain two) (view_served z first disks blank chain two) b buf reads_answered in (
            r.0,
            r.1,
            ap (λ (o : Outcome). after_read o s b img work buf) reads_answered ∙ shown ∙ ap (λ (p : View Sector). strip_bytes (list_of p (b / z.k) (b % z.k)) z.c) r.1,
          )

      -- A WRITE OF EVERY BLOCK IS ACCEPTED at rest, as long as a stamp is left, if every present disk holds the state's label with its own slot; if one does not, it is refused for that
      pub writes_answered : s.count < most_count
          → write_answer s.now s.kind s.absent s.count img b (length buf) (length work) ≡ cond (all_of (holding (geometry z) img s.absent s.now) (slots z)) (Ok tt) (Err NoLabel)
      writes_answered small =
          let y = bound_since z first disks blank chain two in
          write_goes z s.now (rest_ours z y.0 (fresh z first disks blank) y.1 w img s work rests y.3) labels_in_range.0 s.absent rests_enough b buf work inner whole (room_kept z first disks blank chain two) s.kind rests s.count small img
          (loose z y.0 (fresh z first disks blank) y.1 w img (has s work) y.3).disks
