-- THE TIE BETWEEN THE CALLS AND THE PROTOCOL'S MACHINE, of the public functions create, start, take_out and step, on disks with caches, with
-- power cuts and deaths of the caller in between. What the functions return and leave is said in the words of their contracts
-- (`create_of`, `start_of`, `take_out_of`, `step_with`). Each call is an event of the protocol's machine or changes nothing, and the disks are
-- that machine's. (Hosts has the chains of calls, with those that need the work area too.) Assumes nothing.
--
-- A refusal is an answer that leaves everything as it was, and needs no event. The code may refuse more than the protocol's program:
-- a disk whose newest label is another shelf's.
use Rattle.std.specs.Prelude.{◌≡◌, ◌⊎◌, Bool, true, ℕ, ◌<◌, eqb, length, Ok, Err, Some}
use Rattle.std.proofs.Math.Path.{refl, ap, subst}
use Rattle.std.proofs.Common.{sym, ap₂, ◌∙◌, ⊎_elim, inl, inr}
use Rattle.std.proofs.Math.Bool.{false, cond}
use mathlib.Core.List.Memᴰ
use mathlib.Core.List.{List, [], ◌∷◌, Memᴰ}
use Rattle.disk.specs.Mask.{in_mask}
use Rattle.disk.specs.declared.geometry.Geometry.{Geometry}
use Rattle.disk.specs.declared.refusal.Refusal.{Refusal}
use Rattle.disk.specs.declared.refusal.Refusal.TheVariants.{BadBuffer, NotNow}
use Rattle.disk.specs.Refusal.{Outcome}
use Rattle.label.specs.Bytes.{all_zero}
use Rattle.label.specs.Newest.{same_shelf, copy_of}
use Rattle.label.specs.declared.fields.Label as bytes
use Rattle.rounds.specs.Survey.{next_of, plan_of, survey_of}
use Rattle.rounds.specs.declared.plan.Plan.{Plan}
use Rattle.rounds.specs.Survey.{Survey}
use Rattle.rounds.proofs.Plans.{survey_grounds}
use Rattle.protocol.specs.World.{Place, Image, update_here, World, put, flush, act, after, Possible, Always, sane_after, always_after, always_cur}
use Rattle.protocol.specs.Program.{Memory, nothing, idle, Input, create, start, take_out, step, Reply, accepted, refused, did, safe, done, block, found, beyond}
use Rattle.protocol.specs.Program as program
use Rattle.protocol.specs.Machine.{Machine, ask, effect, from_outside, from_host, power_cut, View, sure, Answered}
use Rattle.protocol.specs.Machine as machine
use Rattle.protocol.specs.Shape.{ShapesBy}
use Rattle.protocol.specs.Formed.{AllShaped, zeros_shaped}
use Rattle.protocol.proofs.Promise.{zeros_off}
use Rattle.protocol.specs.Even as even
use Rattle.codecs.specs.Sector.{Sector}
use Rattle.codecs.specs.Shelf.{Shelf, slots, geometry, size}
use Rattle.codecs.specs.Labels.{ours}
use Rattle.codecs.proofs.Labels.{labels}
use Rattle.codecs.proofs.Records.{records}
use Rattle.codecs.specs.Media.{stamps}
use Rattle.shards.specs.Quorum.{few_of}
use Rattle.shelf.specs.Act.{Move, refuses}
use Rattle.shelf.specs.Step.{finished}
use Rattle.stages.specs.declared.state.State.{State}
use Rattle.stages.specs.declared.state.Kind.{Kind}
use Rattle.stages.specs.declared.state.Kind.TheVariants.{Idle}
use Rattle.stages.specs.Told.{Answer}
use Rattle.requests.specs.Begun.{work_bytes, begun, state_of}
use Rattle.requests.specs.Create.{create_answer, created, create_of}
use Rattle.requests.specs.Start.{started, by_survey, start_of}
use Rattle.requests.specs.TakeOut.{outed, take_answer, took_out, take_out_of}
use Rattle.requests.specs.Step.{other_work, step_with, step_short, step_goes}
use Rattle.requests.specs.Accepted.{create_done, take_done}
use Rattle.requests.specs.Begun.{Begun}
use Rattle.refine.specs.Family.{Family, code_in, sectors_in, ZerosIn, HappensIn, leaves_of, program_in_lem}
use Rattle.refine.proofs.Places.{place_one}
use Rattle.refine.specs.Disks.{Disks, cur_of}
use Rattle.refine.specs.Labels.{Led}
use Rattle.refine.specs.Rounds.{beyond_below}
use Rattle.refine.specs.ToDo.{to_do}
use Rattle.refine.specs.Steps.{Fair}
use Rattle.refine.specs.Tied.{own_of, write_in, write_memory, memory_of, memory_by, plain, Same, program_of, Tied}
use Rattle.refine.proofs.Tied.{step_tied}
use Rattle.refine.specs.Requests.{goes, first_ours, out_ours}
use Rattle.refine.proofs.Requests.{create_begins, out_begins}
use Rattle.refine.proofs.StartBegins.{start_begins}
use Rattle.refine.specs.Accepts.{out_few}
use Rattle.refine.proofs.Accepts.{all_zeros, create_accepted, start_leaves, start_few, start_accepted, start_real, out_leaves, out_accepted}
use Rattle.refine.specs.Other.{Sits, same_numbers, create_late}
use Rattle.refine.proofs.Other.{start_other}
use Rattle.refine.specs.Named.{Named, zeros_named, Names, left_in, create_names, start_names, out_names, step_names}
use Rattle.refine.proofs.Named.{copy_ours, lead_ours}
use Rattle.refine.specs.Chain.{Hand, handed, Heard, outs, blocks, Allowed, HappensTo, Reached, Tie, happens_to, happens, off, accepted_none, idle_is, step_rests, fresh, none, has}
use Rattle.requests.specs.Begun.{outcome_of}

module _ (z : Shelf) where
  -- at rest the program remembers its own
  pub rests : (s : State) (img : List ℕ) → s.kind ≡ Idle → memory_of z s [] img ≡ idle (own_of z s s.now)
  unfolding memory_of
  rests s img e = ap (λ (k : Kind). memory_by k z s (write_memory z (write_in z s []) s [] (cur_of z img)) (to_do z s [] img)) e

module _ (z : Shelf) (F : Family z) (first : Machine Sector) where
  -- something is asked, and answered by no refusal; the set that is left out is in the family
  pub asks_to : {p : View Sector} {w : World Sector} {m : Memory Sector} (img : List ℕ) → w.cur ≡ cur_of z img → (Reached z F first) p w m → (m' : Memory Sector) (i : Input Sector) (r : Reply Sector)
      → program_of z m (cur_of z img) i ≡ (m', r) → ((why : program.Refusal) → r ≡ refused why → ⊥) → (r ≡ accepted → (s : ℕ → Bool) → Memᴰ s (leaves_of z m (cur_of z img) i) → F.sets.few s ≡ true)
      → (q : View Sector) × Answered z.c i r p q × (Reached z F first) q (effect w r) m'
  asks_to {p} {w} {m} img reads t m' i r e some shared =
      let y : program_of z m w.cur i ≡ (m', r) = ap (λ (f : Image Sector). program_of z m f i) reads ∙ e in
      let x = program_in_lem z F m w.cur i m' r y some (λ a s j. shared a s (subst (λ (f : Image Sector). Memᴰ s (leaves_of z m f i)) reads j)) in
      let h = subst (λ (b : Memory Sector × Reply Sector). (h : HappensIn z F (machine.at w m) (ask i b.1) (machine.at (effect w b.1) b.0)) × AllShaped (size z) F.sets (labels z) (records z) (code_in z F) stamps (sectors_in z F) false h) x (from_host i, tt) in
      (happens_to z F first) t (subst (λ (b : Memory Sector × Reply Sector). HappensTo z (machine.at w m) (ask i b.1) (machine.at (effect w b.1) b.0)) y (even.from_host i)) h.0 h.1

module _ (z : Shelf) (F : Family z) (first : Machine Sector) (view : View Sector) where
  -- something is asked, and answered by no refusal, which leaves the view; the set that is left out is in the family
  asks : {w : World Sector} {m : Memory Sector} (img : List ℕ) → w.cur ≡ cur_of z img → Reached z F first view w m → (m' : Memory Sector) (i : Input Sector) (r : Reply Sector)
      → program_of z m (cur_of z img) i ≡ (m', r) → ((why : program.Refusal) → r ≡ refused why → ⊥) → (r ≡ accepted → (s : ℕ → Bool) → Memᴰ s (leaves_of z m (cur_of z img) i) → F.sets.few s ≡ true)
      → ((q : View Sector) → Answered z.c i r view q → q ≡ view) → Reached z F first view (effect w r) m'
  asks {w} img reads t m' i r e some shared same = let y = asks_to z F first img reads t m' i r e some shared in subst (λ (q : View Sector). Reached z F first q (effect w r) m') (same y.0 y.1) y.2

  one_allowed : (s : ℕ → Bool) (l : List (ℕ → Bool)) → l ≡ s ∷ [] → F.sets.few s ≡ true → (t : ℕ → Bool) → Memᴰ t l → F.sets.few t ≡ true
  one_allowed s l e ok t m = ⊎_elim (λ q. ap F.sets.few q ∙ ok) (λ n. absurd (Memᴰ.not-nil n)) (Memᴰ.cases_cons (subst (λ (l : List (ℕ → Bool)). Memᴰ t l) e m))

  -- ---- each call

  -- create
  pub create_kept : (w : World Sector) (img : List ℕ) (h : Hand) (s : State) (room : ℕ) → Tie z F first view w img h → Tie z F first view w img (handed h (create_of z.k z.m z.c z.sectors z.number img room))
  create_kept w img h s room t = by (create_answer z.k z.m z.c z.sectors img room) refl
    where
      fresh : State
      fresh = created z.k z.m z.c z.sectors z.number

      by : (o : Outcome) → create_answer z.k z.m z.c z.sectors img room ≡ o → Tie z F first view w img (handed h (begun o fresh))
      by (Ok tt) e =
          let y : outcome_of (create_of z.k z.m z.c z.sectors z.number img room) ≡ (Ok tt) = ap (λ (o : Outcome). outcome_of (begun o fresh)) e in
          let b = create_begins z img t.disks s room y in
          let q = (goes (create_answer z.k z.m z.c z.sectors img room) s fresh y).1 in
          let m = ap (λ (x : State). memory_of z x [] img) (sym q) ∙ b.1 in
          record {
            disks = t.disks;
            reads = t.reads;
            reached =
                subst (Reached z F first view w) (sym m)
                (asks img t.reads ((off z F first view) t.reached) _ create accepted (create_accepted z img (create_done z.k z.m z.c z.sectors img room e).1) (accepted_none z F first view) (λ q x n. absurd (Memᴰ.not-nil n)) (λ p a. a));
            named = t.named;
            names = subst (λ (x : Memory Sector). Names z (left_in z x)) (sym m) (create_names z);
            order = (first_ours z img t.disks, inl (subst (λ (x : State). Fair z x [] img) q b.0, refl));
          }
      by (Err why) e = t

  -- start-up
  settled_ours : (img : List ℕ) (absent : ℕ) (l : bytes.Label) → ours z l ≡ true → ours z (plan_of (geometry z) img absent l).next ≡ true
  unfolding plan_of next_of same_shelf
  settled_ours img absent l e = e

  -- the survey goes by a label of this shelf
  pub led_by : (w : World Sector) (img : List ℕ) (h : Hand) (absent : ℕ) → Tie z F first view w img h → (p : Plan) → survey_of (geometry z) img absent ≡ Ok p → Led z img absent (beyond (slots z) (in_mask absent)) p.lead
  led_by w img h absent t p e =
      let r = survey_grounds (geometry z) img absent p e in
      record {
        disks = t.disks;
        are = beyond_below (slots z) absent;
        own = lead_ours z img t.disks (subst (Named z) t.reads (always_cur (Named z) w ((off z F first view) t.reached).keeps.sane t.named)) absent p.lead r.leads;
        leads = r.leads;
        agree = r.agree;
      }

  start_kept : (w : World Sector) (img : List ℕ) (h : Hand) (s : State) (absent room : ℕ) → Allowed z F (outs (start_of (geometry z) absent img room)) → Tie z F first view w img h → Tie z F first view w img (handed h (start_of (geometry z) absent img room))
  start_kept w img h s absent room ok t = by (survey_of (geometry z) img absent) refl
    where
      A : ℕ → Bool
      A = beyond (slots z) (in_mask absent)

      off_w : Reached z F first view w nothing
      off_w = (off z F first view) t.reached

      begins : (p : Plan) → survey_of (geometry z) img absent ≡ Ok p → eqb room (work_bytes (slots z) z.c) ≡ true → Tie z F first view w img (has (started (geometry z) absent p img))
      begins p e q =
          let led = led_by w img h absent t p e in
          let is : start_of (geometry z) absent img room ≡ Ok (started (geometry z) absent p img) =
          ap (λ (x : Survey). by_survey x (geometry z) absent img room) e ∙ ap (λ (b : Bool). cond b (Ok (started (geometry z) absent p img)) (Err BadBuffer)) q in
          let in_family = subst (λ (x : Begun). Allowed z F (outs x)) is ok (in_mask p.next.out) (Memᴰ.head refl) (start_few z img absent p e led) in
          let b = start_begins z img absent p led e (start_real z img absent p e led F in_family w t.reads view off_w.keeps) s room (ap (λ (x : Begun). outcome_of x) is) in
          let m = ap (λ (x : Begun). memory_of z (state_of s x) [] img) (sym is) ∙ b.1 in
          record {
            disks = t.disks;
            reads = t.reads;
            reached = subst (Reached z F first view w) (sym m) (asks img t.reads off_w _ (start (in_mask absent)) accepted (start_accepted z img absent p e led) (accepted_none z F first view) (λ y. one_allowed (in_mask p.next.out) _ (start_leaves z img absent p e led) in_family) (λ y a. a));
            named = t.named;
            names = subst (λ (x : Memory Sector). Names z (left_in z x)) (sym m) (start_names z A _);
            order = (ap (λ (x : Plan). ours z x.next) (survey_grounds (geometry z) img absent p e).is ∙ settled_ours img absent p.lead led.own, inl (subst (λ (x : Begun). Fair z (state_of s x) [] img) is b.0, refl));
          }

      by : (x : Survey) → survey_of (geometry z) img absent ≡ x → Tie z F first view w img (handed h (by_survey x (geometry z) absent img room))
      by (Err why) e = t
      by (Ok p) e = fits (eqb room (work_bytes (slots z) z.c)) refl
        where
          fits : (b : Bool) → eqb room (work_bytes (slots z) z.c) ≡ b → Tie z F first view w img (handed h (cond b (Ok (started (geometry z) absent p img)) (Err BadBuffer)))
          fits true q = begins p e q
          fits false q = t

  -- with any numbers
  pub late_kept : (w : World Sector) (img : List ℕ) (h : Hand) (s : State) (k m c S number room : ℕ) → all_zero img ≡ false → Tie z F first view w img h → Tie z F first view w img (handed h (create_of k m c S number img room))
  late_kept w img h s k m c S number room e t = subst (λ (o : Outcome). Tie z F first view w img (handed h (begun o (created k m c S number)))) (sym (create_late k m c S img room e)) t

  pub ours_in : (w : World Sector) (img : List ℕ) (h : Hand) → Tie z F first view w img h → (d s : ℕ) (a : bytes.Label) → d < slots z → s < 2 → copy_of (geometry z) img d s ≡ Some a → ours z a ≡ true
  ours_in w img h t = copy_ours z img t.disks (subst (Named z) t.reads (always_cur (Named z) w ((off z F first view) t.reached).keeps.sane t.named))

  pub start_any : (w : World Sector) (img : List ℕ) (h : Hand) (s : State) (g : Geometry) (absent room : ℕ) → Sits z g absent → Allowed z F (outs (start_of g absent img room))
      → Tie z F first view w img h → Tie z F first view w img (handed h (start_of g absent img room))
  start_any w img h s g absent room sits ok t =
      ⊎_elim
      (λ (e : g ≡ geometry z). subst (λ (x : Geometry). Allowed z F (outs (start_of x absent img room)) → Tie z F first view w img (handed h (start_of x absent img room))) (sym e) (λ y. start_kept w img h s absent room y t) ok)
      (λ (other : g ≡ geometry z → ⊥). subst (λ (x : Survey). Tie z F first view w img (handed h (by_survey x g absent img room))) (sym (start_other z img t.disks (ours_in w img h t) g absent other sits)) t) (same_numbers z g)

  pub out_kept : (w : World Sector) (img : List ℕ) (s : State) (d room : ℕ) → Allowed z F (outs (take_out_of s d img room)) → Tie z F first view w img (has s) → Tie z F first view w img (handed (has s) (take_out_of s d img room))
  out_kept w img s d room ok t = by (take_answer s.now s.kind s.absent img d room) refl
    where
      own : ours z s.now ≡ true
      own = ⊎_elim (λ (f : Fair z s [] img × (plain s.kind ≡ true)). f.0.ours_now) (λ (q : (s.kind ≡ Idle) × (ours z s.now ≡ true)). q.1) t.order.1

      by : (o : Outcome) → take_answer s.now s.kind s.absent img d room ≡ o → Tie z F first view w img (handed (has s) (begun o (took_out s d)))
      by (Ok tt) e =
          let y : outcome_of (take_out_of s d img room) ≡ (Ok tt) = ap (λ (o : Outcome). outcome_of (begun o (took_out s d))) e in
          let in_family = subst (λ (o : Outcome). Allowed z F (outs (begun o (took_out s d)))) e ok (in_mask (outed s.now d).out) (Memᴰ.head refl) (out_few z img t.disks s own d room e) in
          let b = out_begins z img t.disks s own d room y in
          let q = (goes (take_answer s.now s.kind s.absent img d room) s (took_out s d) y).1 in
          let m = ap (λ (x : State). memory_of z x [] img) (sym q) ∙ b.1 in
          let r = rests z s img ((idle_is z F first view) s.kind (take_done s.now s.kind s.absent img d room e).1.at_rest) in
          record {
            disks = t.disks;
            reads = t.reads;
            reached = subst (Reached z F first view w) (sym m) (asks img t.reads (subst (Reached z F first view w) r t.reached) _ (take_out d) accepted (out_accepted z img t.disks s own d room e) (accepted_none z F first view) (λ p. one_allowed (in_mask (outed s.now d).out) _ (out_leaves z img t.disks s own d room e) in_family) (λ p a. a));
            named = t.named;
            names = subst (λ (x : Memory Sector). Names z (left_in z x)) (sym m) (out_names z (own_of z s s.now) d);
            order = (out_ours z img t.disks s own d, inl (subst (λ (x : State). Fair z x [] img) q b.0, refl));
          }
      by (Err why) e = t

  pub cut_kept : (w : World Sector) (img : List ℕ) (h : Hand) (left : List ℕ) → Disks z left → Possible w (cur_of z left) → Tie z F first view w img h → Tie z F first view (after (cur_of z left)) left none
  unfolding after Always
  cut_kept w img h left d p t =
      record {
        disks = d;
        reads = refl;
        reached = (happens z F first view) t.reached (even.from_outside (power_cut (cur_of z left) p)) (from_outside (power_cut (cur_of z left) p)) tt (λ q e. e);
        named = always_after (Named z) (cur_of z left) (t.named (cur_of z left) p);
        names = tt;
        order = tt;
      }

  -- ---- a step

  pub step_some : (r : Reply Sector) (a : Answer) → Same z a r → (why : program.Refusal) → r ≡ refused why → ⊥
  step_some r a s why e = subst (Same z a) e s

  pub step_leaves : (r : Reply Sector) (a : Answer) → Same z a r → r ≡ accepted → (s : ℕ → Bool) (l : List (ℕ → Bool)) → Memᴰ s l → F.sets.few s ≡ true
  step_leaves r a s e t l m = absurd (subst (Same z a) e s)

  -- what the caller does with the disks is what the protocol's program did
  pub heard_is : (w w' : World Sector) (img : List ℕ) (r : Reply Sector) (a : Answer) → Same z a r → (effect w r).cur ≡ cur_of z img → Heard z w a img w' → effect w r ≡ w'
  heard_is w w' img accepted a s c h = absurd s
  heard_is w w' img (refused why) a s c h = absurd s
  heard_is w w' img (did (put k v)) a s c h =
      let y = subst (λ (x : Answer). Heard z w x img w') s.1 h in
      let same : k ≡ y.0 = sym (place_one z y.0 k y.1 s.0 y.2 y.3) in
      let is : v ≡ cur_of z img y.0 = sym (update_here w.cur k v) ∙ ap (λ (f : Image Sector). f k) c ∙ ap (cur_of z img) same in
      ap₂ (λ (x : Place) (u : Sector). act w (put x u)) same is ∙ sym y.4
  heard_is w w' img (did (flush d)) a s c h = sym (subst (λ (x : Answer). Heard z w x img w') s h)
  heard_is w w' img safe a s c h = absurd s
  heard_is w w' img (done k) a s c h = sym (subst (λ (x : Answer). Heard z w x img w') s h)
  heard_is w w' img (block b) a s c h = absurd s
  heard_is w w' img (found x) a s c h = absurd s

  -- a step of a request under way
  pub goes_to : (w : World Sector) (img : List ℕ) (s : State) (m : Move) (w' : World Sector) (tied : Tied z s [] img m) → Tie z F first view w img (has s) → Heard z w m.stepped.answer m.image w'
      → (q : View Sector) × Answered z.c step tied.reply view q × Tie z F first q w' m.image (has m.stepped.state)
  goes_to w img s m w' tied t h =
      let r = tied.reply in
      let o = ((off z F first view) t.reached).keeps in
      let n = subst (λ (y : Memory Sector × Reply Sector). Always (effect w y.1) (Named z) × Names z (left_in z y.0)) tied.steps (step_names z (memory_of z s [] img) (cur_of z img) w o.sane t.named t.names) in
      let next_ours = ap (ours z) tied.settles ∙ t.order.0 in
      let y = asks_to z F first img t.reads t.reached (memory_of z m.stepped.state [] m.image) step r tied.steps (step_some r m.stepped.answer tied.answers) (λ e x n. step_leaves r m.stepped.answer tied.answers e x _ n) in (
        y.0,
        y.1,
        subst (λ (x : World Sector). Tie z F first y.0 x m.image (has m.stepped.state)) (heard_is w w' m.image r m.stepped.answer tied.answers (tied.acts w t.reads) h)
            (record {
              disks = ⊎_elim (λ (f : Fair z m.stepped.state [] m.image). f.disks) (λ (q : m ≡ finished s img). subst (λ (x : Move). Disks z x.image) (sym q) t.disks) tied.goes_on;
              reads = tied.acts w t.reads;
              reached = y.2;
              named = n.0;
              names = n.1;
              order = (
                next_ours,
                ⊎_elim (λ (f : Fair z m.stepped.state [] m.image). inl (f, tied.keeps_plain))
                    (λ (q : m ≡ finished s img). inr (ap (λ (x : Move). x.stepped.state.kind) q, ap (λ (x : Move). ours z x.stepped.state.now) q ∙ t.order.0)) tied.goes_on,
              );
            }),
      )

  -- a step that is refused
  pub refused_kept : (w : World Sector) (img : List ℕ) (s : State) (why : Refusal) (m : Move) (w' : World Sector) → m ≡ refuses s why img → Tie z F first view w img (has s) → Heard z w m.stepped.answer m.image w' → Tie z F first view w' m.image (has m.stepped.state)
  refused_kept w img s why m w' e t =
      subst (λ (x : Move). Heard z w x.stepped.answer x.image w' → Tie z F first view w' x.image (has x.stepped.state)) (sym e) (λ h. subst (λ (x : World Sector). Tie z F first view x img (has s)) (sym h) t)

  -- A STEP is the program's, or it is refused and nothing changes
  pub step_is : (w : World Sector) (img : List ℕ) (s : State) (work : List ℕ) → Tie z F first view w img (has s) → Tied z s [] img (step_with s img work) ⊎ ((why : Refusal) × (step_with s img work ≡ refuses s why img))
  step_is w img s work t =
      ⊎_elim (λ (f : Fair z s [] img × (plain s.kind ≡ true)). busy f.0 f.1 (other_work s.now (length img) (length work)) refl) (λ (q : (s.kind ≡ Idle) × (ours z s.now ≡ true)). inr (NotNow, (step_rests z F first view) s img work q.0)) t.order.1
    where
      busy : Fair z s [] img → plain s.kind ≡ true → (b : Bool) → other_work s.now (length img) (length work) ≡ b → Tied z s [] img (step_with s img work) ⊎ ((why : Refusal) × (step_with s img work ≡ refuses s why img))
      busy f p true e = inr (BadBuffer, step_short s img work f.in_range_lem e)
      busy f p false e = inl (subst (Tied z s [] img) (sym (step_goes s img work f.in_range_lem e)) (step_tied z s [] work img p f))

  -- THE SETS THAT ARE LEFT OUT are of at most m slots each
  start_passed : (w : World Sector) (img : List ℕ) (h : Hand) (s : State) (absent room : ℕ) → Tie z F first view w img h → (a : ℕ → Bool) → Memᴰ a (outs (start_of (geometry z) absent img room)) → few_of z a ≡ true
  start_passed w img h s absent room t a = by (survey_of (geometry z) img absent) refl
    where
      by : (x : Survey) → survey_of (geometry z) img absent ≡ x → Memᴰ a (outs (by_survey x (geometry z) absent img room)) → few_of z a ≡ true
      by (Err why) e m = absurd (Memᴰ.not-nil m)
      by (Ok p) e m = fits (eqb room (work_bytes (slots z) z.c)) m
        where
          fits : (b : Bool) → Memᴰ a (outs (cond b (Ok (started (geometry z) absent p img)) (Err BadBuffer))) → few_of z a ≡ true
          fits true m = ⊎_elim (λ q. ap (few_of z) q ∙ start_few z img absent p e (led_by w img h absent t p e)) (λ n. absurd (Memᴰ.not-nil n)) (Memᴰ.cases_cons m)
          fits false m = absurd (Memᴰ.not-nil m)

  pub start_any_passed : (w : World Sector) (img : List ℕ) (h : Hand) (s : State) (g : Geometry) (absent room : ℕ) → Sits z g absent → Tie z F first view w img h
      → (a : ℕ → Bool) → Memᴰ a (outs (start_of g absent img room)) → few_of z a ≡ true
  start_any_passed w img h s g absent room sits t a =
      ⊎_elim (λ (e : g ≡ geometry z). subst (λ (x : Geometry). Memᴰ a (outs (start_of x absent img room)) → few_of z a ≡ true) (sym e) (start_passed w img h s absent room t a))
      (λ (other : g ≡ geometry z → ⊥). subst (λ (x : Survey). Memᴰ a (outs (by_survey x g absent img room)) → few_of z a ≡ true) (sym (start_other z img t.disks (ours_in w img h t) g absent other sits)) (λ n. absurd (Memᴰ.not-nil n))) (same_numbers z g)

  pub out_passed : (w : World Sector) (img : List ℕ) (s : State) (d room : ℕ) → Tie z F first view w img (has s) → (a : ℕ → Bool) → Memᴰ a (outs (take_out_of s d img room)) → few_of z a ≡ true
  out_passed w img s d room t a = by (take_answer s.now s.kind s.absent img d room) refl
    where
      own : ours z s.now ≡ true
      own = ⊎_elim (λ (f : Fair z s [] img × (plain s.kind ≡ true)). f.0.ours_now) (λ (q : (s.kind ≡ Idle) × (ours z s.now ≡ true)). q.1) t.order.1

      by : (o : Outcome) → take_answer s.now s.kind s.absent img d room ≡ o → Memᴰ a (outs (begun o (took_out s d))) → few_of z a ≡ true
      by (Ok tt) e m = ⊎_elim (λ q. ap (few_of z) q ∙ out_few z img t.disks s own d room e) (λ n. absurd (Memᴰ.not-nil n)) (Memᴰ.cases_cons m)
      by (Err why) e m = absurd (Memᴰ.not-nil m)

module _ (z : Shelf) (F : Family z) (first : Machine Sector) where
  -- each step can be followed: its answer names a sector of the shelf
  pub heard_by : (w : World Sector) (img : List ℕ) (r : Reply Sector) (a : Answer) → Same z a r → (effect w r).cur ≡ cur_of z img → (w' : World Sector) × Heard z w a img w'
  heard_by w img accepted a s c = absurd s
  heard_by w img (refused why) a s c = absurd s
  heard_by w img (did (put k v)) a s c = (act w (put k (cur_of z img k)), subst (λ (x : Answer). Heard z w x img (act w (put k (cur_of z img k)))) (sym s.1) (k, s.0, refl, refl, refl))
  heard_by w img (did (flush d)) a s c = (act w (flush d), subst (λ (x : Answer). Heard z w x img (act w (flush d))) (sym s) refl)
  heard_by w img safe a s c = absurd s
  heard_by w img (done k) a s c = (w, subst (λ (x : Answer). Heard z w x img w) (sym s) refl)
  heard_by w img (block b) a s c = absurd s
  heard_by w img (found x) a s c = absurd s

-- ---- THE BEGINNING

module _ (z : Shelf) (img : List ℕ) (disks : Disks z img) (blank : all_zero img ≡ true) where
  -- no state is held
  pub fresh_tie : (F : Family z) → Tie z F (fresh z img disks blank) (sure blocks) (after (cur_of z img)) img none
  unfolding after Named
  fresh_tie F =
      let c = all_zeros z img blank in
      let bare : ZerosIn z F (cur_of z img) = subst (ZerosIn z F) (sym c) (record { labels = λ x b i. refl; logs = λ x j i l. refl; strips = λ x t j i h l. refl }) in
      record {
        disks = disks;
        reads = refl;
        reached =
            record {
              events = [];
              runs = even.stays;
              keeps = zeros_off (size z) F.sets (labels z) (records z) (code_in z F) stamps (sectors_in z F) (after (cur_of z img)) (sane_after (cur_of z img)) F.none (always_after (ZerosIn z F) (cur_of z img) bare);
              tidy = always_after (ShapesBy (labels z) false) (cur_of z img) (zeros_shaped (size z) F.sets (labels z) (records z) (code_in z F) stamps (sectors_in z F) false (cur_of z img) bare);
            };
        named = always_after (Named z) (cur_of z img) (subst (Named z) (sym c) (zeros_named z));
        names = tt;
        order = tt;
      }
