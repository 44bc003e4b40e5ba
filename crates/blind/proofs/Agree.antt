-- ONE CALL ON TWO IMAGES that are alike: what it may make of the one it may make of the other, with the same answer, state and work area;
-- and the images are alike again, on the shelf and with the absent slots of the new state. Assumes nothing.
use Rattle.std.specs.Prelude.{◌≡◌, refl, Bool, true, false, cond, ◌&&◌, List, ℕ, ◌+◌, eqb, length, Ok, Err}
use Rattle.std.proofs.Common.{sym, ap, subst, ◌∙◌, inl, inr, eqb-true}
use Rattle.disk.specs.Tests.{and_left, and_right}
use Rattle.disk.specs.Mask.{with_slot, without_slot}
use Rattle.disk.specs.declared.geometry.Geometry.{Geometry}
use Rattle.disk.specs.declared.refusal.Refusal.TheVariants.{BadBuffer}
use Rattle.disk.specs.Refusal.{Outcome}
use Rattle.label.specs.Fields.{no_slot, geometry_of}
use Rattle.label.specs.declared.fields.Label.{Label}
use Rattle.code.specs.declared.Verdict.{Verdict}
use Rattle.code.specs.declared.Verdict.TheVariants as verdict
use Rattle.rounds.specs.Survey.{fits_shelf, next_of, plan_of, survey_of}
use Rattle.rounds.specs.declared.plan.Plan.{Plan}
use Rattle.rounds.specs.Survey.{Survey}
use Rattle.rounds.proofs.Plans.{survey_grounds}
use Rattle.shelf.specs.Act.{Move}
use Rattle.stages.specs.declared.state.State.{State}
use Rattle.stages.specs.Told.{Told}
use Rattle.requests.specs.Begun.{Begun, begun, outcome_of, state_of, work_bytes, first}
use Rattle.requests.specs.Create.{create_answer, created, create_of}
use Rattle.requests.specs.Start.{started, by_survey, start_of}
use Rattle.requests.specs.TakeOut.{take_answer, next_label, outed, took_out, take_out_of}
use Rattle.requests.specs.Step.{step_with}
use Rattle.rebuilds.specs.Begin as Begin
use Rattle.rebuilds.specs.Begin.{begin_answer, begin_of}
use Rattle.rebuilds.specs.On.{on_answer, at_least_one, last_batch, on_label, went_on, on_of}
use Rattle.blocks.specs.Read.{read_answer, after_read}
use Rattle.blocks.specs.Write.{write_answer, AfterWrite}
use Rattle.blocks.specs.Repair.{may_repair, mend_answer, mended, Repairs}
use Rattle.blind.specs.Alike.{Alike}
use Rattle.blind.specs.Start.{start_blind, out_blind}
use Rattle.blind.specs.Create.{new_shelf, create_blind, step_same, step_alike}
use Rattle.blind.specs.Rebuild.{begin_blind, on_blind}
use Rattle.blind.specs.Blocks.{read_same, read_blind, write_same, write_blind, scrub_blind}
use Rattle.blind.specs.Repair.{repair_blind}
use Rattle.blind.specs.Own.{Own, step_own}
use Rattle.blind.specs.Calls.{Call, create, start, take_out, begin, rebuild_on, step, status, read, write, scrub, repair, began, did, gave, Reply, reply, Begins, Makes, shelf_of, hidden}
use Rattle.blind.specs.Agree.{Handed, Both, Follows}

begun_handed : (o : Outcome) (s t : State) (g : Geometry) (absent : ℕ) → Own g absent t → Handed s g absent (state_of s (begun o t))
begun_handed (Ok tt) s t g absent h = inr h
begun_handed (Err why) s t g absent h = inl refl

outed_numbers : (l : Label) (d : ℕ) → geometry_of (outed l d) ≡ geometry_of l
unfolding outed
outed_numbers l d = by (eqb l.rebuilding d)
  where
    by : (b : Bool) → geometry_of (cond b (next_label l (with_slot l.out d) no_slot 0) (next_label l (with_slot l.out d) l.rebuilding l.mark)) ≡ geometry_of l
    by true = refl
    by false = refl

on_numbers : (l : Label) (b : ℕ) → geometry_of (on_label l b) ≡ geometry_of l
unfolding on_label
on_numbers l b = by (last_batch l b)
  where
    by : (x : Bool) → geometry_of (cond x (next_label l (without_slot l.out l.rebuilding) no_slot 0) (next_label l l.out l.rebuilding (l.mark + at_least_one b))) ≡ geometry_of l
    by true = refl
    by false = refl

-- a label of the shelf that start-up is told has its numbers
lead_numbers : (g : Geometry) (l : Label) → fits_shelf g l ≡ true → geometry_of l ≡ g
unfolding fits_shelf
lead_numbers g l e =
    let a : Bool = eqb (l.k + l.m) g.n in
    let b : Bool = eqb l.c g.c in
    let c : Bool = eqb l.sectors g.sectors in
    let f = and_right a (b && c) e in
    let n : l.k + l.m ≡ g.n = eqb-true (l.k + l.m) g.n (and_left a (b && c) e) in
    let p : l.c ≡ g.c = eqb-true l.c g.c (and_left b c f) in
    let q : l.sectors ≡ g.sectors = eqb-true l.sectors g.sectors (and_right b c f) in
    λ i. record { n = n i; c = p i; sectors = q i }

next_numbers : (g : Geometry) (img : List ℕ) (absent : ℕ) (l : Label) → geometry_of (plan_of g img absent l).next ≡ geometry_of l
unfolding plan_of next_of
next_numbers g img absent l = refl

start_handed : (s : State) (g : Geometry) (absent room : ℕ) (img : List ℕ) → Handed s g absent (state_of s (start_of g absent img room))
start_handed s g absent room img = by (survey_of g img absent) refl
  where
    own : (p : Plan) → survey_of g img absent ≡ Ok p → Own g absent (started g absent p img)
    own p e =
        let r = survey_grounds g img absent p e in
        let l : geometry_of p.lead ≡ g = lead_numbers g p.lead r.shelf in
        record { settled = l; coming = ap (λ (x : Plan). geometry_of x.next) r.is ∙ next_numbers g img absent p.lead ∙ l; lacks = refl }

    sized : (b : Bool) (t : State) → Own g absent t → Handed s g absent (state_of s (cond {A = Begun} b (Ok t) (Err BadBuffer)))
    sized true t o = inr o
    sized false t o = inl refl

    by : (v : Survey) → survey_of g img absent ≡ v → Handed s g absent (state_of s (by_survey v g absent img room))
    by (Err why) e = inl refl
    by (Ok p) e = sized (eqb room (work_bytes g.n g.c)) (started g absent p img) (own p e)

write_handed : (o : Outcome) (s : State) (block : ℕ) (bytes img work : List ℕ) (t : State) (after : List ℕ) → AfterWrite o s block bytes img work t after
    → Handed s (geometry_of s.now) s.absent t
write_handed (Ok tt) s block bytes img work t after w =
    inr (subst (Own (geometry_of s.now) s.absent) (sym w.becomes) (record { settled = refl; coming = refl; lacks = refl }))
write_handed (Err why) s block bytes img work t after w = inl w.0

mended_handed : (s : State) (t : ℕ) (v : Verdict) → Handed s (geometry_of s.now) s.absent (mended s t v)
mended_handed s t (verdict.Accused r) = inr (record { settled = refl; coming = refl; lacks = refl })
mended_handed s t verdict.Sound = inl refl
mended_handed s t verdict.Unsound = inl refl

repair_handed : (s : State) (t : ℕ) (img work : List ℕ) (b : Begun) (after : List ℕ) → Repairs s t img work b after → Handed s (geometry_of s.now) s.absent (state_of s b)
repair_handed s t img work b after r =
    subst (λ (x : Begun). Handed s (geometry_of s.now) s.absent (state_of s x)) (sym r.answers)
    (by (first (may_repair s.now s.kind s.absent s.count t img) (mend_answer r.found s.now (length work))))
  where
    by : (o : Outcome) → Handed s (geometry_of s.now) s.absent (state_of s (begun o (mended s t r.found)))
    by (Ok tt) = mended_handed s t r.found
    by (Err why) = inl refl

both_of : (g : Geometry) (absent : ℕ) (t : State) (a b : List ℕ) → Own g absent t → Alike g absent a b → Both t a b
both_of g absent t a b o h =
    record {
      own = record { settled = refl; coming = o.coming ∙ sym o.settled; lacks = refl };
      alike =
          subst (λ (x : Geometry). Alike x t.absent a b) (sym o.settled)
          (subst (λ (m : ℕ). Alike g m a b) (sym o.lacks) h);
    }

both_handed : (s : State) (g : Geometry) (absent : ℕ) (t : State) (a b : List ℕ) → Handed s g absent t → Both s a b → Alike g absent a b → Both t a b
both_handed s g absent t a b (inl e) w h = subst (λ (x : State). Both x a b) (sym e) w
both_handed s g absent t a b (inr o) w h = both_of g absent t a b o h

-- a request that leaves the images
begins_follow : (c : Call) (s : State) (work a b : List ℕ) (x y : Begun) (r : Reply) (left : List ℕ) → x ≡ y → Handed s (shelf_of c s) (hidden c s) (state_of s x) → Both s a b
    → Alike (shelf_of c s) (hidden c s) a b → Begins x s work a r left → (Begins y s work b r b → Makes c s work b r b) → Follows c s work b r left
begins_follow c s work a b x y r left e handed w h m told =
    record {
      after = b;
      makes = told (m.0 ∙ ap (λ (z : Begun). reply (began (outcome_of z)) (state_of s z) work) e, refl);
      both =
          subst (λ (z : List ℕ). Both r.state z b) (sym m.1)
          (subst (λ (z : State). Both z a b) (sym (ap (λ (z : Reply). z.state) m.0)) (both_handed s (shelf_of c s) (hidden c s) (state_of s x) a b handed w h));
    }

-- a call that leaves state and images
stays : (s : State) (work a b : List ℕ) (r : Reply) (left : List ℕ) → r.state ≡ s → left ≡ a → Both s a b → Both r.state left b
stays s work a b r left e f w = subst (λ (z : List ℕ). Both r.state z b) (sym f) (subst (λ (z : State). Both z a b) (sym e) w)

-- THE THEOREM OF ONE CALL
pub call_blind : (c : Call) (s : State) (work a b : List ℕ) → Both s a b → Alike (shelf_of c s) (hidden c s) a b → (r : Reply) (left : List ℕ) → Makes c s work a r left
    → Follows c s work b r left
call_blind (create k m c S shelf room) s work a b w h r left p =
    begins_follow (create k m c S shelf room) s work a b (create_of k m c S shelf a room) (create_of k m c S shelf b room) r left (create_blind k m c S shelf room a b h)
    (begun_handed (create_answer k m c S a room) s (created k m c S shelf) (new_shelf k m c S) 0 (record { settled = refl; coming = refl; lacks = refl })) w h p (λ q. q)
call_blind (start g absent room) s work a b w h r left p =
    begins_follow (start g absent room) s work a b (start_of g absent a room) (start_of g absent b room) r left (start_blind g absent room a b h)
    (start_handed s g absent room a) w h p (λ q. q)
call_blind (take_out d room) s work a b w h r left p =
    begins_follow (take_out d room) s work a b (take_out_of s d a room) (take_out_of s d b room) r left (out_blind s d room a b h)
    (begun_handed (take_answer s.now s.kind s.absent a d room) s (took_out s d) (geometry_of s.now) s.absent
    (record { settled = refl; coming = outed_numbers s.now d; lacks = refl })) w h p (λ q. q)
call_blind (begin d room) s work a b w h r left p =
    begins_follow (begin d room) s work a b (begin_of s d a room) (begin_of s d b room) r left (begin_blind s d room a b h)
    (begun_handed (begin_answer s.now s.kind s.absent a d room) s (Begin.began s d a) (geometry_of s.now) (without_slot s.absent d)
    (record { settled = refl; coming = refl; lacks = refl })) w h p (λ q. q)
call_blind (rebuild_on batch room) s work a b w h r left p =
    begins_follow (rebuild_on batch room) s work a b (on_of s batch a room) (on_of s batch b room) r left (on_blind s batch room a b h)
    (begun_handed (on_answer s.now s.kind s.absent a room) s (went_on s batch a) (geometry_of s.now) s.absent
    (record { settled = refl; coming = on_numbers s.now batch; lacks = refl })) w h p (λ q. q)
call_blind step s work a b w h r left p =
    let m : Move = step_with s a work in
    record {
      after = (step_with s b work).image;
      makes = (p.0 ∙ ap (λ (x : Told). reply (did x.answer) x.state work) (step_same s work a b h), refl);
      both =
          subst (λ (z : List ℕ). Both r.state z (step_with s b work).image) (sym p.1)
          (subst (λ (z : State). Both z m.image (step_with s b work).image) (sym (ap (λ (z : Reply). z.state) p.0))
          (both_of (geometry_of s.now) s.absent m.stepped.state m.image (step_with s b work).image
          (step_own (geometry_of s.now) s.absent s work a w.own) (step_alike s work a b h)));
    }
call_blind (status fields) s work a b w h r left p =
    record { after = b; makes = (p.0, refl); both = stays s work a b r left (ap (λ (z : Reply). z.state) p.0) p.1 w }
call_blind (read block buf) s work a b w h r left p =
    let o : Outcome = read_answer s.now s.kind s.absent block (length a) (length buf) (length work) in
    record {
      after = b;
      makes = (
        p.0 ∙ ap (λ (v : List ℕ). reply (gave o v) s work) (read_blind s block buf work a b h o refl)
            ∙ ap (λ (q : Outcome). reply (gave q (after_read q s block b work buf)) s work) (read_same s block buf work a b h),
        refl,
      );
      both = stays s work a b r left (ap (λ (z : Reply). z.state) p.0) p.1 w;
    }
call_blind (write block bytes) s work a b w h r left p =
    let o : Outcome = write_answer s.now s.kind s.absent s.count a block (length bytes) (length work) in
    let e = write_same s block bytes work a b h in
    record {
      after = b;
      makes = (
        p.0 ∙ ap (λ (q : Outcome). began q) e,
        subst (λ (q : Outcome). AfterWrite q s block bytes b work r.state r.work) e (write_blind s block bytes work a b h o refl r.state r.work p.1),
        refl,
      );
      both =
          subst (λ (z : List ℕ). Both r.state z b) (sym p.2)
          (both_handed s (geometry_of s.now) s.absent r.state a b (write_handed o s block bytes a work r.state r.work p.1) w h);
    }
call_blind (scrub t) s work a b w h r left p =
    let v = p.0.0 in
    record {
      after = b;
      makes = ((v, p.0.1, scrub_blind s t work a b h v p.0.2), refl);
      both = stays s work a b r left (ap (λ (z : Reply). z.state) p.0.1) p.1 w;
    }
call_blind (repair t) s work a b w h r left p =
    let x = p.0.0 in
    record {
      after = b;
      makes = ((x, p.0.1, p.0.2, repair_blind s t work a b h x r.work p.0.3), refl);
      both =
          subst (λ (z : List ℕ). Both r.state z b) (sym p.1)
          (subst (λ (z : State). Both z a b) (sym p.0.2)
          (both_handed s (geometry_of s.now) s.absent (state_of s x) a b (repair_handed s t a work x r.work p.0.3) w h));
    }
