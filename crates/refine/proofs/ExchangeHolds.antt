-- WHAT CHAINS WITH EXCHANGED DISKS KEEP beside the host's view: no disk names another shelf, and every label has its shape, whatever a cut leaves; a step can be followed; a start-up under way is carried
-- out by its steps; which start-ups are refused; and at rest every strip that the state's label believes is what the host's list asks for, so
-- a rebuild that answers Done has healed its slot, and every block can be read. Assumes nothing.
use Rattle.std.specs.Prelude.{◌≡◌, Bool, false, not, List, [], ℕ, ◌+◌, ◌*◌, ◌<◌, ◌/◌, ◌%◌, eqb, ltb, length, Ok, Some}
use Rattle.std.proofs.Math.Path.{refl}
use Rattle.std.proofs.Common.{sym, ap, subst, ◌∙◌, inl, inr, true≢false, arith, ltb-true}
use Rattle.std.proofs.Math.Logic.{⊎_elim}
use Rattle.std.proofs.Math.Bool.{true}
use Rattle.std.proofs.lemmas.Bool.{false≢true}
use Rattle.disk.specs.Mask.{in_mask}
use Rattle.disk.specs.Tests.{and_left, and_right}
use Rattle.disk.specs.Limits.{sector_bytes}
use Rattle.disk.specs.Geometry.{blocks_of, stripes_of, strip_of}
use Rattle.disk.proofs.GeometryLaws.{strip_inside}
use Rattle.label.specs.Fields.{no_slot, fits_of}
use Rattle.label.specs.Bytes.{all_zero}
use Rattle.label.specs.Newest.{copy_of}
use Rattle.label.specs.declared.fields.Label as bytes
use Rattle.redo.specs.Decide.{looked, believed}
use Rattle.protocol.specs.World.{World, put, flush, act, after, Possible, Sane}
use Rattle.protocol.specs.Host.{Host}
use Rattle.protocol.specs.Machine.{Machine, View, sure}
use Rattle.codecs.specs.Sector.{Sector}
use Rattle.codecs.specs.Shelf.{Shelf, slots, geometry, limits}
use Rattle.codecs.specs.Labels.{ours}
use Rattle.codecs.specs.Records.{strip_bytes}
use Rattle.shelf.specs.Act.{Move}
use Rattle.shelf.specs.Step.{finished, step_move}
use Rattle.stages.specs.declared.state.State.{State}
use Rattle.stages.specs.declared.state.Kind.TheVariants.{Idle, Filling}
use Rattle.stages.specs.Told.{Answer}
use Rattle.stages.specs.Told as answer
use Rattle.stages.specs.State.{rested}
use Rattle.requests.specs.Begun.{work_bytes}
use Rattle.requests.specs.Step.{other_work, step_with, step_short, step_goes}
use Rattle.requests.specs.Ready.{is_idle}
use Rattle.requests.specs.TakeOut.{plainly_out}
use Rattle.blocks.specs.Read.{read_answer, after_read}
use Rattle.refine.specs.Family.{Family}
use Rattle.refine.specs.Disks.{Disks, cur_of}
use Rattle.refine.specs.ToDo.{to_do}
use Rattle.refine.specs.Steps.{Fair}
use Rattle.refine.specs.Tied.{plain}
use Rattle.refine.proofs.Tied.{fair_work, step_tied}
use Rattle.refine.specs.Ends.{EndsAfter, done_ends}
use Rattle.refine.proofs.Ends.{request_ends}
use Rattle.refine.specs.Chain.{Heard, blocks, fresh, off, step_rests}
use Rattle.refine.proofs.Chain.{heard_by}
use Rattle.refine.specs.Holds.{Wanted, Follows, healthy_believed}
use Rattle.refine.specs.Lags.{not_valid, few_low, follows_alike}
use Rattle.refine.specs.Hosts.{Held, none, has, Time, at, steps, HostChain, Bound}
use Rattle.refine.proofs.Hosts.{loose}
use Rattle.refine.proofs.HostHolds.{bound_labels, bound_shaped, bound_followed, write_carried_out, begin_carried_out, rebuild_carried_out}
use Rattle.refine.proofs.HostTrue.{bound_rests_true, bound_absent_out, bound_heals}
use Rattle.refine.specs.Since.{AnyTwoSince, since}
use Rattle.refine.specs.Serves.{ReadsAs, Served}
use Rattle.refine.proofs.Promise.{along}
use Rattle.refine.specs.Answered.{InRangeAt, Fairly, enough, read_goes}
use Rattle.refine.proofs.Answered.{busy_fair, call_fits, chain_fits, rest_ours}
use Rattle.refine.specs.Exchanges.{Exchanges, calls, replaced, pulled, swapped_off, ExchangeChain, stays, goes_on, AnyTwoThen, AllServed}
use Rattle.refine.specs.Late.{Starts, Pulled, Late, StandsAt, told_left, told_disks, told_alike, plainly}
use Rattle.refine.proofs.Late.{told_possible, late_cut, late_own, fair}
use Rattle.refine.proofs.Replaced.{stands_out, any_exchanged_stands}

-- what can be followed in one world can be in another
heard_any : (z : Shelf) (w w0 : World Sector) (a : Answer) (img : List ℕ) (v : World Sector) → Heard z w0 a img v → (w' : World Sector) × Heard z w a img w'
heard_any z w w0 (answer.Put d to) img v (k, i, s, t, e) = (act w (put k (cur_of z img k)), (k, i, s, t, refl))
heard_any z w w0 (answer.Flush d) img v e = (act w (flush d), refl)
heard_any z w w0 answer.Done img v e = (w, refl)
heard_any z w w0 (answer.Refused why) img v e = (w, refl)

module _ (z : Shelf) (F : Family z) (first : Machine Sector) (p : View Sector) (w : World Sector) (img : List ℕ) where
  module _ (h : Held) (left : List ℕ) (here : Disks z left) (possible : Possible w (cur_of z left)) where
    -- NO DISK NAMES ANOTHER SHELF, whatever a cut leaves
    pub stands_labels : StandsAt z F first p (at w img h) → (d s : ℕ) (a : bytes.Label) → d < slots z → s < 2 → copy_of (geometry z) left d s ≡ Some a → ours z a ≡ true
    unfolding Possible
    stands_labels (inl t) = bound_labels z F first p t.0 img h t.2 left here (λ k. t.1.fewer k (cur_of z left k) refl (possible k))
    stands_labels (inr t) = late_own z F first p (after (cur_of z left)) left none (late_cut z F first p w img h t left here possible)

    -- EVERY DISK'S LABEL HAS ITS SHAPE
    pub stands_shaped : StandsAt z F first p (at w img h) → (d : ℕ) → d < slots z → Follows z left d
    unfolding Possible Sane
    stands_shaped (inl t) d i = bound_shaped z F first p t.0 img h t.2 left here (λ k. t.1.fewer k (cur_of z left k) refl (possible k)) d i
    stands_shaped (inr t) d i = by (c.away d) refl
      where
        c : Late z F first p (after (cur_of z left)) left none
        c = late_cut z F first p w img h t left here possible

        read : Possible c.w0 (cur_of z c.img0)
        read = subst (Possible c.w0) c.tie.reads (off z F first p c.tie.reached).keeps.sane

        by : (b : Bool) → c.away d ≡ b → Follows z left d
        by true q =
            record {
              calm = λ s o a k l e. absurd (not_valid z a (sym (c.behind.blank d o q l) ∙ e));
              follow = λ a b e r. absurd (not_valid z a (sym (c.behind.blank d 0 q (omega arith)) ∙ e));
            }
        by false q =
            follows_alike z left c.img0 here c.tie.disks d i (λ o l. c.behind.alike d o i (few_low z o l) q) (bound_shaped z F first p c.w0 c.img0 none c.tie c.img0 c.tie.disks read d i)

  module _ (s : State) (work : List ℕ) where
    -- A STEP CAN BE FOLLOWED
    pub stands_followed : StandsAt z F first p (at w img (has s work)) → (w' : World Sector) × Heard z w (step_with s img work).stepped.answer (step_with s img work).image w'
    stands_followed (inl t) =
        let y = bound_followed z F first p t.0 img s work t.2 in
        heard_any z w t.0 (step_with s img work).stepped.answer (step_with s img work).image y.0 y.1
    stands_followed (inr t) = ⊎_elim (λ (up : Starts z t.away s). begun up (other_work s.now (length img) (length work)) refl) (λ (lost : Pulled z t.away s). none_taken lost.rests) t.waits
      where
        none_taken : s.kind ≡ Idle → (w' : World Sector) × Heard z w (step_with s img work).stepped.answer (step_with s img work).image w'
        none_taken e = subst (λ (m : Move). (w' : World Sector) × Heard z w m.stepped.answer m.image w') (sym (step_rests z F first p s img work e)) (w, refl)

        begun : Starts z t.away s → (b : Bool) → other_work s.now (length img) (length work) ≡ b → (w' : World Sector) × Heard z w (step_with s img work).stepped.answer (step_with s img work).image w'
        begun up true e = subst (λ (m : Move). (w' : World Sector) × Heard z w m.stepped.answer m.image w') (sym (step_short s img work (fair z F first p w img s work t up).in_range_lem e)) (w, refl)
        begun up false e =
            let d = step_tied z s [] work img (plainly z F first p w img s work t up) (fair z F first p w img s work t up) in
            subst (λ (m : Move). (w' : World Sector) × Heard z w m.stepped.answer m.image w') (sym (step_goes s img work (fair z F first p w img s work t up).in_range_lem e))
            (heard_by z F first w (step_move s work img).image d.reply (step_move s work img).stepped.answer d.answers (d.acts w t.behind.reads))

    -- A START-UP UNDER WAY, while disks that were exchanged are not told of yet, IS CARRIED OUT by its steps: some actions, and then it is done; none of them is refused
    pub late_carried_out : (t : Late z F first p w img (has s work)) → Starts z t.away s → length work ≡ work_bytes (slots z) z.c → (n : ℕ) × EndsAfter n work s img
    late_carried_out t up fits = (length (to_do z s work img), request_ends z work fits s img (fair_work z [] work s img (plainly z F first p w img s work t up) (fair z F first p w img s work t up)))

    -- ---- AT REST

    -- THE VIEW IS A LIST, and every strip that the state's label believes is what it asks for, whatever a cut leaves. (A disk that was pulled at rest lies in a slot that is out: the label believes no strip of it.)
    pub stands_rests_true : s.kind ≡ Idle → StandsAt z F first p (at w img (has s work))
        → (v : Host Sector) × (p ≡ sure v) × ((left : List ℕ) → Disks z left → Possible w (cur_of z left) → (d t : ℕ) → believed (geometry z) s.now d t ≡ true → Wanted z v left d t)
    unfolding Possible believed looked
    stands_rests_true e (inl y) =
        let r = bound_rests_true z F first p y.0 img s work e y.2 in
        (r.0, r.1, λ left here possible d t b. r.2 left here (λ k. y.1.fewer k (cur_of z left k) refl (possible k)) d t b)
    stands_rests_true e (inr y) =
        let r = bound_rests_true z F first p y.w0 y.img0 s work e (inl y.tie) in (
          r.0,
          r.1,
          λ left here possible d t b j l.
              told_alike z F first p w img (has s work) y left here possible d (strip_of (geometry z) t + j) (there d t b) (low d t b j l) (stays_here d t b)
              ∙ r.2 (told_left z F first p w img (has s work) y left here possible) (told_disks z F first p w img (has s work) y left here possible) (told_possible z F first p w img (has s work) y left here possible) d t b j l,
        )
      where
        lost : Pulled z y.away s
        lost = ⊎_elim (λ (up : Starts z y.away s). absurd (false≢true (ap is_idle (sym up.0 ∙ e)))) (λ (q : Pulled z y.away s). q) y.waits

        there : (d t : ℕ) → believed (geometry z) s.now d t ≡ true → d < slots z
        there d t b = ltb-true d (slots z) (and_left (ltb d (slots z)) _ (and_left (looked (geometry z) s.now d) _ b))

        low : (d t : ℕ) → believed (geometry z) s.now d t ≡ true → (j : ℕ) → j < z.c → strip_of (geometry z) t + j < z.sectors
        low d t b j l = omega (arith, strip_inside (geometry z) (limits z).0 t (ltb-true t (stripes_of (geometry z)) (and_left (ltb t (stripes_of (geometry z))) _ (and_right (looked (geometry z) s.now d) _ b))))

        stays_here : (d t : ℕ) → believed (geometry z) s.now d t ≡ true → y.away d ≡ false
        stays_here d t b = by (y.away d) refl
          where
            by : (x : Bool) → y.away d ≡ x → x ≡ false
            by true q = absurd (true≢false (sym (and_left (looked (geometry z) s.now d) _ b) ∙ lost.out d q))
            by false q = refl

    -- A REBUILD THAT ANSWERS DONE comes to rest, and where no slot is being rebuilt any more, the slot that was is not out
    pub stands_healed : s.kind ≡ Filling → (step_with s img work).stepped.answer ≡ answer.Done → s.next.rebuilding ≡ no_slot → StandsAt z F first p (at w img (has s work))
        → (step_with s img work ≡ finished s img) × (s.now.rebuilding < slots z) × (in_mask s.next.out s.now.rebuilding ≡ false)
    stands_healed k done healed (inl y) =
        let h = bound_heals z F first p y.0 img s work k y.2 healed in
        let n = ends y.2 in
        (done_ends n.0 work s img n.1 done, h.0, h.1)
      where
        ends : Bound z F first p y.0 img (has s work) → (n : ℕ) × EndsAfter n work s img
        ends (inl t) = absurd (true≢false (sym (⊎_elim (λ (f : Fair z s [] img × (plain s.kind ≡ true)). f.1) (λ (q : (s.kind ≡ Idle) × (ours z s.now ≡ true)). ap plain q.0) t.order.1) ∙ ap plain k))
        ends (inr (inl t)) = write_carried_out z F first p y.0 img s work t
        ends (inr (inr (inl t))) = begin_carried_out z F first p y.0 img s work t
        ends (inr (inr (inr t))) = rebuild_carried_out z F first p y.0 img s work t
    stands_healed k done healed (inr y) =
        absurd (true≢false (⊎_elim (λ (up : Starts z y.away s). ap plain (sym up.0 ∙ k)) (λ (q : Pulled z y.away s). ap plain (sym q.rests ∙ k)) y.waits))

    -- AT MOST m SLOTS ARE OUT OR ABSENT, so a block of the shelf is read, with a label in range and a work area of its size
    pub stands_read : (e : s.kind ≡ Idle) → StandsAt z F first p (at w img (has s work)) → fits_of s.now ≡ true → (b : ℕ) (buf : List ℕ) → b < blocks_of (geometry z) z.k → length buf ≡ z.c * sector_bytes
        → length work ≡ work_bytes (slots z) z.c → read_answer s.now s.kind s.absent b (length img) (length buf) (length work) ≡ Ok tt
    unfolding plainly_out
    stands_read e y fit b buf inner whole room =
        let few = F.few (in_mask s.now.out) (stands_out z first F p (at w img (has s work)) y (ap is_idle e)) in
        let h = told y in
        read_goes z s.now h.0 fit s.absent (enough z s.now h.0 fit s.absent few (λ d i a. and_right (not (eqb s.now.rebuilding d)) (in_mask s.now.out d) (h.1 d i a))) b buf work inner whole room s.kind e img h.2
      where
        told : StandsAt z F first p (at w img (has s work)) → (ours z s.now ≡ true) × ((d : ℕ) → d < slots z → in_mask s.absent d ≡ true → plainly_out s.now d ≡ true) × Disks z img
        told (inl y) = (rest_ours z F first p y.0 img s work e y.2, bound_absent_out z F first p y.0 img s work e y.2, (loose z F first p y.0 img (has s work) y.2).disks)
        told (inr y) = (rest_ours z F first p y.w0 y.img0 s work e (inl y.tie), bound_absent_out z F first p y.w0 y.img0 s work e (inl y.tie), y.behind.disks)

-- ---- THE STATE'S LABELS ARE IN RANGE

module _ (z : Shelf) (first : Machine Sector) where
  stands_fairly : (F : Family z) (p : View Sector) (t : Time) → StandsAt z F first p t → Fairly z t
  stands_fairly F p (at w img none) y = (F, p, tt)
  stands_fairly F p (at w img (has s work)) (inl y) = (F, p, λ busy. busy_fair z first y.0 img F p s work busy y.2)
  stands_fairly F p (at w img (has s work)) (inr y) = (
    F,
    p,
    λ busy. ⊎_elim (λ (up : Starts z y.away s). fair_work z [] work s img (plainly z F first p w img s work y up) (fair z F first p w img s work y up))
        (λ (q : Pulled z y.away s). absurd (false≢true (sym busy ∙ ap is_idle q.rests))) y.waits,
  )

  exchange_fits : {a b : Time} → Exchanges z a b → Fairly z a → Fairly z b → InRangeAt a → InRangeAt b
  exchange_fits (calls x n) h h' t = call_fits z first x h h' t
  exchange_fits (replaced d left x) h h' t = tt
  exchange_fits (pulled d left e l n x) h h' t = t
  exchange_fits (swapped_off d left then y q x) h h' t = tt

-- the views at the end of a chain
all_served_now : {z : Shelf} {a b : Time} (c : ExchangeChain z a b) (p q : View Sector) → AllServed c p q → ReadsAs z b q
all_served_now stays p q s = s.1
all_served_now (goes_on c x) p q s = s.3

-- ---- FROM ZEROS ON: any chain of calls, and then any chain in which disks are exchanged while no program runs too

module _ (z : Shelf) (first : List ℕ) (disks : Disks z first) (blank : all_zero first ≡ true) {a : Time} (c : HostChain z (at (after (cur_of z first)) first none) a) (two : AnyTwoSince c) where
  exchanged_fits : {b : Time} (r : ExchangeChain z a b) → AnyTwoThen (since c) r → InRangeAt b
  exchanged_fits stays then = chain_fits z (fresh z first disks blank) c (along z first disks blank c two) tt
  exchanged_fits (goes_on {b = b} {c = e} r x) then =
      let y = any_exchanged_stands z first disks blank c r two then.0 in
      let y' = any_exchanged_stands z first disks blank c (goes_on r x) two then in
      exchange_fits z (fresh z first disks blank) x (stands_fairly z (fresh z first disks blank) y.0 y.2 b y.5) (stands_fairly z (fresh z first disks blank) y'.0 y'.2 e y'.5) (exchanged_fits r then.0)

module _ (z : Shelf) (first : List ℕ) (disks : Disks z first) (blank : all_zero first ≡ true) {a : Time} (c : HostChain z (at (after (cur_of z first)) first none) a) (two : AnyTwoSince c) {w : World Sector} {img : List ℕ} {s : State} {work : List ℕ}
    (r : ExchangeChain z a (at w img (has s work))) where
  -- AT REST the view is a list, which every read shows, and every strip that the state's label believes is what it asks for, whatever a cut leaves
  pub exchanged_rests_true : AnyTwoThen (since c) r → s.kind ≡ Idle
      → (p : View Sector) × (v : Host Sector) × Served c (sure blocks) p × AllServed r p (sure v)
      × ((left : List ℕ) → Disks z left → Possible w (cur_of z left) → (d t : ℕ) → believed (geometry z) s.now d t ≡ true → Wanted z v left d t)
  exchanged_rests_true then e =
      let y = any_exchanged_stands z first disks blank c r two then in
      let x = stands_rests_true z y.0 (fresh z first disks blank) y.2 w img s work e y.5 in
      (y.1, x.0, y.3, subst (λ (q : View Sector). AllServed r y.1 q) x.1 y.4, x.2)

  -- EVERY BLOCK CAN BE READ at rest, with a work area of its size, and reads as its entry of that list
  pub exchanged_reads_entry : AnyTwoThen (since c) r → s.kind ≡ Idle → length work ≡ work_bytes (slots z) z.c
      → (p : View Sector) × (v : Host Sector) × Served c (sure blocks) p × AllServed r p (sure v)
      × ((b : ℕ) (buf : List ℕ) → b < blocks_of (geometry z) z.k → length buf ≡ z.c * sector_bytes
      → (read_answer s.now s.kind s.absent b (length img) (length buf) (length work) ≡ Ok tt) × (after_read (Ok tt) s b img work buf ≡ strip_bytes (v (b / z.k) (b % z.k)) z.c))
  exchanged_reads_entry then e room =
      let y = any_exchanged_stands z first disks blank c r two then in
      let x = exchanged_rests_true then e in (
        x.0,
        x.1,
        x.2,
        x.3,
        λ b buf inner whole.
            let ok = stands_read z y.0 (fresh z first disks blank) y.2 w img s work e y.5 (exchanged_fits z first disks blank c two r then).0 b buf inner whole room in
            (ok, all_served_now r x.0 (sure x.1) x.3 b buf ok),
      )

-- SO NO ANSWER CALLS A SLOT HEALTHY BEFORE EACH OF ITS STRIPS IS: where the step of a rebuild answers Done and no slot is being rebuilt any more, the slot that was is not out any more, and each of its strips is
-- what the list asks for, whatever a cut leaves
module _ (z : Shelf) (first : List ℕ) (disks : Disks z first) (blank : all_zero first ≡ true) {a : Time} (c : HostChain z (at (after (cur_of z first)) first none) a) (two : AnyTwoSince c) {w : World Sector} {img : List ℕ} {s : State} {work : List ℕ}
    (r : ExchangeChain z a (at w img (has s work))) (w' : World Sector) (heard : Heard z w (step_with s img work).stepped.answer (step_with s img work).image w') where
  pub exchanged_healthy : AnyTwoThen (since c) (goes_on r (calls (steps heard) tt)) → s.kind ≡ Filling → (step_with s img work).stepped.answer ≡ answer.Done → s.next.rebuilding ≡ no_slot
      → (p : View Sector) × (v : Host Sector) × Served c (sure blocks) p × AllServed (goes_on r (calls (steps heard) tt)) p (sure v)
      × (s.now.rebuilding < slots z) × (in_mask s.next.out s.now.rebuilding ≡ false)
      × ((left : List ℕ) → Disks z left → Possible w' (cur_of z left) → (t : ℕ) → t < stripes_of (geometry z) → Wanted z v left s.now.rebuilding t)
  exchanged_healthy then k done healed =
      let y = any_exchanged_stands z first disks blank c r two then.0 in
      let h = stands_healed z y.0 (fresh z first disks blank) y.2 w img s work k done healed y.5 in
      let is : (step_with s img work).stepped.state ≡ rested s = ap (λ (m : Move). m.stepped.state) h.0 in
      let x = exchanged_rests_true z first disks blank c two (goes_on r (calls (steps heard) tt)) then (ap (λ (q : State). q.kind) is) in (
        x.0,
        x.1,
        x.2,
        x.3,
        h.1,
        h.2,
        λ left here possible t l. x.4 left here possible s.now.rebuilding t
            (ap (λ (q : State). believed (geometry z) q.now s.now.rebuilding t) is ∙ healthy_believed z s.next s.now.rebuilding t h.1 l h.2),
      )
