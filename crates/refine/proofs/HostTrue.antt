-- WHAT IS TRUE AT EVERY MOMENT OF A CHAIN OF CALLS, whatever is under way, in the words of the bytes: no label on any disk lies, nor does the state's own; at rest every absent slot is plainly out and
-- create is refused; start with other numbers is refused; what was accepted is carried out, and its steps lead to rest. All from the tie with the protocol's machine (`Bound`), for any family. Assumes nothing.
use Rattle.std.specs.Prelude.{◌≡◌, Bool, cond, not, ◌&&◌, ◌||◌, ℕ, zero, suc, ◌-◌, ◌≤◌, ◌<◌, eqb, ltb, length, Ok, Err}
use Rattle.std.proofs.Math.Path.{refl, sym, ap, subst}
use Rattle.std.proofs.Common.{ap₂, ◌∙◌, inl, inr, arith}
use Rattle.std.proofs.Math.Logic.{⊎_elim}
use Rattle.std.proofs.Math.Bool.{true, false}
use Rattle.std.proofs.lemmas.Bool.{false≢true}
use mathlib.Core.List.Memᴰ
use mathlib.Core.List.{List, [], ◌++◌, append_assoc, Memᴰ}
use borrow.Author.Tests.{eqb-true, lt-ltb}
use Rattle.disk.specs.Mask.{in_mask}
use Rattle.disk.specs.declared.geometry.Geometry.{Geometry}
use Rattle.disk.specs.declared.refusal.Refusal.TheVariants.{BadImage, BadBuffer, NotNow}
use Rattle.disk.specs.Refusal.{Outcome}
use Rattle.label.specs.Bytes.{all_zero}
use Rattle.redo.specs.Decide.{believed}
use Rattle.rounds.specs.Survey.{survey_of}
use Rattle.rounds.specs.Survey.{Survey}
use Rattle.protocol.specs.World.{Action, World, Possible, Sane, Always, always_cur}
use Rattle.protocol.specs.Label.{copy, Aged, plainly_out as plainly_out'}
use Rattle.protocol.specs.Decide.{Rest}
use Rattle.protocol.specs.Host.{Host, table}
use Rattle.protocol.specs.Program.{Own, Memory, idle, doing, logging, storing, labelling}
use Rattle.protocol.specs.Machine.{Machine, View, sure, open_write, kept_write}
use Rattle.protocol.specs.Machine as machine
use Rattle.protocol.proofs.Kept.{truthful, own_rests, own_true}
use Rattle.codecs.specs.Sector.{Sector}
use Rattle.codecs.proofs.Sector.{zeros}
use Rattle.codecs.specs.Shelf.{Shelf, slots, geometry, size}
use Rattle.codecs.specs.Labels.{ours, label_of}
use Rattle.codecs.proofs.Labels.{labels}
use Rattle.codecs.proofs.Records.{records}
use Rattle.codecs.specs.Media.{stamps}
use Rattle.shards.specs.Quorum.{few_of}
use Rattle.stages.specs.declared.state.State.{State}
use Rattle.stages.specs.Told.{Told}
use Rattle.stages.specs.declared.state.Kind.{Kind}
use Rattle.stages.specs.declared.state.Kind.TheVariants.{Nothing, Idle, Creating, Starting, Labelling, Writing, Beginning, Filling}
use Rattle.stages.specs.State.{rested}
use Rattle.stages.specs.Limits.{most_stages}
use Rattle.requests.specs.Begun.{work_bytes, begun}
use Rattle.requests.specs.Create.{shelf_fits, create_answer, created, create_of}
use Rattle.requests.specs.Start.{started, by_survey, start_of}
use Rattle.requests.specs.Step.{step_with}
use Rattle.requests.specs.TakeOut.{plainly_out, out_now, take_answer, took_out}
use Rattle.requests.specs.Accepted.{passed, take_done}
use Rattle.requests.specs.Begun.{Begun}
use Rattle.rebuilds.specs.Begin.{begin_answer, began}
use Rattle.rebuilds.specs.On.{on_answer, went_on}
use Rattle.blocks.specs.Write.{write_answer, AfterWrite}
use Rattle.requests.specs.Ready.{is_idle}
use Rattle.refine.specs.Family.{Family, code_in, sectors_in, KeepsIn}
use Rattle.refine.specs.Disks.{Disks, cur_of}
use Rattle.refine.specs.ToDo.{left_of, to_do}
use Rattle.refine.specs.Tied.{own_of, own_before, write_in, write_memory, memory_of, memory_by, plain}
use Rattle.refine.proofs.Tied.{fair_work}
use Rattle.refine.specs.Steps.{Fair}
use Rattle.refine.specs.Rounds.{beyond_below}
use Rattle.refine.specs.Accepts.{plain_is}
use Rattle.refine.proofs.Accepts.{all_zeros}
use Rattle.refine.specs.Ends.{nth, EndsAfter}
use Rattle.refine.proofs.Ends.{request_ends}
use Rattle.refine.specs.Other.{Sits, other_code, same_numbers, create_late}
use Rattle.refine.proofs.Other.{start_other}
use Rattle.refine.proofs.Named.{copy_ours}
use Rattle.refine.specs.Holds.{Wanted, NoLies, HeldTrue}
use Rattle.refine.proofs.Holds.{no_lies, held_true}
use Rattle.refine.specs.Chain.{Allowed, outs, Tie}
use Rattle.refine.proofs.Chain.{rests, start_any_passed, out_passed}
use Rattle.refine.specs.Chain as chain
use Rattle.refine.specs.Refills.{Heals, rest_dark}
use Rattle.refine.specs.Hosts.{Held, has, Time, at, held, HostCalls, creates, starts, creates_late, takes_out, begins, ons, writes, repairs, steps, swaps, cut, dies, HostChain, stays, goes_on, sets_call, sets, Bound, BoundAt}
use Rattle.refine.proofs.Hosts.{loose, not_rest, repair_changes_nothing, call_bound, chain_bound}
use Rattle.refine.proofs.HostHolds.{bound_followed, write_carried_out, begin_carried_out, rebuild_carried_out, bound_rests}
use Rattle.refine.specs.HostTrue.{from_rest, chained_on, Room, Sized, SomeBound, Along}

module _ (z : Shelf) (F : Family z) (first : Machine Sector) (p : View Sector) (w : World Sector) (img : List ℕ) where
  module _ (h : Held) (t : Bound z F first p w img h) where
    off : Tie z F first p w img chain.none
    off = loose z F first p w img h t

    -- what is read is one of the things that a cut may leave
    pub bound_possible : Possible w (cur_of z img)
    unfolding Sane
    bound_possible = subst (Possible w) off.reads off.reached.keeps.sane

    -- START WITH ANOTHER n, c OR S is refused, with this code, and changes nothing
    pub bound_elsewhere : (s : State) (g : Geometry) (absent room : ℕ) → (g ≡ geometry z → ⊥) → Sits z g absent
        → start_of g absent img room ≡ Err (other_code g (length img) absent)
    unfolding Always
    bound_elsewhere s g absent room other sits =
        ap (λ (x : Survey). by_survey x g absent img room) (start_other z img off.disks (copy_ours z img off.disks (off.named (cur_of z img) bound_possible)) g absent other sits)

    -- NO LABEL ON ANY DISK LIES, whatever a cut leaves and whatever is under way
    pub bound_honest : (left : List ℕ) → Disks z left → Possible w (cur_of z left) → NoLies z p left
    unfolding Always
    bound_honest left here possible =
        no_lies z F left here (off.named (cur_of z left) possible) p
        (truthful (size z) F.sets (labels z) (records z) (code_in z F) stamps (sectors_in z F) p w off.reached.keeps (cur_of z left) possible)

  module _ (s : State) (work : List ℕ) where
    -- ---- THE STATE'S OWN LABEL

    rest_held : (p : View Sector) (o : Own) → o.now ≡ label_of z s.now → KeepsIn z F (machine.at w (idle o)) p → HeldTrue z p w s.now
    rest_held (sure v) o e k = held_true z F (sure v) w o s.now e (own_rests (size z) F.sets (labels z) (records z) (code_in z F) stamps (sectors_in z F) v w o k)
    rest_held (open_write v v') o e k = absurd k
    rest_held (kept_write v') o e k = absurd k

    -- IT IS TRUE at rest, and while a request is under way that began at rest, whatever a cut leaves
    pub bound_own : from_rest s.kind ≡ true → Bound z F first p w img (has s work) → HeldTrue z p w s.now
    unfolding memory_of write_memory
    bound_own f (inl t) = by s.kind (write_memory z (write_in z s []) s [] (cur_of z img)) f plainly t.reached.keeps
      where
        plainly : plain s.kind ≡ true
        plainly = ⊎_elim (λ (f : Fair z s [] img × (plain s.kind ≡ true)). f.1) (λ (q : (s.kind ≡ Idle) × (ours z s.now ≡ true)). ap plain q.0) t.order.1

        by : (k : Kind) (v : Memory Sector) → from_rest k ≡ true → plain k ≡ true → KeepsIn z F (machine.at w (memory_by k z s v (to_do z s [] img))) p → HeldTrue z p w s.now
        by Nothing v f e k = absurd (false≢true f)
        by Idle v f e k = rest_held p (own_of z s s.now) refl k
        by Creating v f e k = absurd (false≢true f)
        by Starting v f e k = absurd (false≢true f)
        by Labelling v f e k =
            held_true z F p w (own_of z s s.now) s.now refl
            (own_true (size z) F.sets (labels z) (records z) (code_in z F) stamps (sectors_in z F) labelling p w (to_do z s [] img) (own_of z s s.now) (own_of z s s.next) tt k)
        by Writing v f e k = absurd (false≢true e)
        by Beginning v f e k =
            held_true z F p w (own_of z s s.now) s.now refl
            (own_true (size z) F.sets (labels z) (records z) (code_in z F) stamps (sectors_in z F) labelling p w (to_do z s [] img) (own_of z s s.now) (own_of z s s.next) tt k)
        by Filling v f e k = absurd (false≢true e)
    bound_own f (inr (inl t)) =
        by (ltb s.cursor.stage 2) (left_of z work (cur_of z img) (2 - s.cursor.stage) s) (left_of z work (cur_of z img) most_stages s)
        (subst (λ (k : Kind). KeepsIn z F (machine.at w (memory_by k z s (write_memory z t.written s work (cur_of z img)) (to_do z s work img))) p) t.writes.kind t.reached.keeps)
      where
        by : (b : Bool) (l l' : List (Action Sector)) → KeepsIn z F (machine.at w (cond b (doing (logging t.written) l (own_before z s) (own_of z s s.next)) (doing (storing t.written) l' (own_before z s) (own_of z s s.next)))) p
            → HeldTrue z p w s.now
        by true l l' k =
            held_true z F p w (own_before z s) s.now refl
            (own_true (size z) F.sets (labels z) (records z) (code_in z F) stamps (sectors_in z F) (logging t.written) p w l (own_before z s) (own_of z s s.next) tt k)
        by false l l' k =
            held_true z F p w (own_before z s) s.now refl
            (own_true (size z) F.sets (labels z) (records z) (code_in z F) stamps (sectors_in z F) (storing t.written) p w l' (own_before z s) (own_of z s s.next) tt k)
    bound_own f (inr (inr (inl t))) =
        held_true z F p w t.before s.now t.same_label_lem
        (own_true (size z) F.sets (labels z) (records z) (code_in z F) stamps (sectors_in z F) labelling p w (to_do z s work img) t.before (own_of z s s.next) tt t.reached.keeps)
    bound_own f (inr (inr (inr g))) =
        let t = g.refills in
        held_true z F p w t.before s.now t.same_label_lem
        (own_true (size z) F.sets (labels z) (records z) (code_in z F) stamps (sectors_in z F) labelling p w (to_do z s work img) t.before (own_of z s s.next) tt t.reached.keeps)

    -- ---- AT REST

    module _ (e : s.kind ≡ Idle) (t : Bound z F first p w img (has s work)) where
      -- the view is a list, and every strip that the state's label believes is what it asks for, whatever a cut leaves
      pub bound_rests_true : (v : Host Sector) × (p ≡ sure v) × ((left : List ℕ) → Disks z left → Possible w (cur_of z left) → (d t : ℕ) → believed (geometry z) s.now d t ≡ true → Wanted z v left d t)
      bound_rests_true =
          let r = bound_rests z F first p w img s work e t in
          let h = subst (λ (q : View Sector). HeldTrue z q w s.now) r.1 (bound_own (ap from_rest e) t) in
          (r.0, r.1, h.right)

      resting : Tie z F first p w img (chain.has s)
      resting = by t
        where
          by : Bound z F first p w img (has s work) → Tie z F first p w img (chain.has s)
          by (inl n) = n
          by (inr (inl n)) = absurd (false≢true (sym (ap is_idle n.writes.kind) ∙ ap is_idle e))
          by (inr (inr (inl n))) = absurd (false≢true (sym (ap is_idle n.kind) ∙ ap is_idle e))
          by (inr (inr (inr n))) = absurd (false≢true (sym (ap is_idle n.refills.kind) ∙ ap is_idle e))

      -- every absent slot is plainly out, so what take out asks of a slot is what the protocol's program asks
      pub bound_absent_out : (d : ℕ) → d < slots z → in_mask s.absent d ≡ true → plainly_out s.now d ≡ true
      bound_absent_out d i a = sym (plain_is z s.now d i) ∙ by (plainly_out' (label_of z s.now) d) refl
        where
          by : (b : Bool) → plainly_out' (label_of z s.now) d ≡ b → plainly_out' (label_of z s.now) d ≡ true
          by true q = q
          by false q =
              absurd (rest_dark z F first p w (own_of z s s.now) (subst (chain.Reached z F first p w) (rests z s img e) resting.reached) d (beyond_below (slots z) s.absent d i ∙ a) (ap₂ (λ (x y : Bool). x && not y) (lt-ltb d (slots z) i) q))

      pub bound_same_out : (d : ℕ) → d < slots z → out_now s.now s.absent d ≡ plainly_out' (label_of z s.now) d
      unfolding out_now
      bound_same_out d i = by (in_mask s.absent d) refl ∙ sym (plain_is z s.now d i)
        where
          by : (b : Bool) → in_mask s.absent d ≡ b → (b || plainly_out s.now d) ≡ plainly_out s.now d
          by true q = sym (bound_absent_out d i q)
          by false q = refl

      -- the image is not zeros, so create is refused, whatever its numbers, and changes nothing
      pub bound_labelled : all_zero img ≡ false
      unfolding Aged copy
      bound_labelled = by p (subst (λ (x : Memory Sector). KeepsIn z F (machine.at w x) p) (rests z s img e) resting.reached.keeps) (all_zero img) refl
        where
          by : (p : View Sector) → KeepsIn z F (machine.at w (idle (own_of z s s.now))) p → (b : Bool) → all_zero img ≡ b → b ≡ false
          by (open_write v v') k b q = absurd k
          by (kept_write v') k b q = absurd k
          by (sure v) k true q =
              let P = Rest (size z) F.sets (labels z) (records z) k.1.history k.1.u (label_of z s.now) (table (size z) F.sets (records z) (code_in z F) v) in
              let r = subst P (resting.reads ∙ all_zeros z img q) (always_cur P w k.0 k.1.rest) in
              let d = F.sets.meet (label_of z s.now).out (label_of z s.now).out r.labels.few_Q r.labels.few_Q in
              let a = r.labels.low d.0 d.1 d.2 in
              let none : (copy (labels z) (λ k. zeros) d.0 a.0).generation ≡ 0 = (labels z).decode_zeros d.0 a.0 in
              let some : s.now.generation ≤ (copy (labels z) (λ k. zeros) d.0 a.0).generation = a.1 in
              let born : 0 < s.epoch = k.1.born in
              let since : s.epoch ≤ s.now.generation = k.1.epoch_now in
              absurd (omega (arith, none, some, born, since))
          by (sure v) k false q = refl

      pub bound_create_again : (t : State) (k m c S number room : ℕ)
          → create_of k m c S number img room ≡ Err (cond (shelf_fits k m c S (length img)) NotNow BadImage)
      bound_create_again t k m c S number room = ap (λ (o : Outcome). begun o (created k m c S number)) (create_late k m c S img room bound_labelled)

    -- ---- WHAT IS UNDER WAY

    -- while a rebuild goes on: where the label that it is to settle has no slot that is being rebuilt, the one of the label before is not out any more
    pub bound_heals : s.kind ≡ Filling → Bound z F first p w img (has s work) → Heals z s.now s.next
    bound_heals k (inl t) =
        ⊎_elim (λ (f : Fair z s [] img × (plain s.kind ≡ true)). absurd (false≢true (sym (ap plain k) ∙ f.1))) (λ (q : (s.kind ≡ Idle) × (ours z s.now ≡ true)). absurd (false≢true (sym (ap is_idle k) ∙ ap is_idle q.0))) t.order.1
    bound_heals k (inr (inl t)) = let q = t.writes.kind in absurd (let i : ◌≡◌ {A = ℕ} 0 1 = cc in omega arith)
    bound_heals k (inr (inr (inl t))) = absurd (false≢true (sym (ap plain k) ∙ ap plain t.kind))
    bound_heals k (inr (inr (inr t))) = t.refills.heals

    -- A REQUEST UNDER WAY IS CARRIED OUT by its steps, whichever it is: some actions, and then it is done; none of them is refused
    pub bound_carried_out : length work ≡ work_bytes (slots z) z.c → (s.kind ≡ Idle → ⊥) → Bound z F first p w img (has s work) → (n : ℕ) × EndsAfter n work s img
    bound_carried_out fits busy (inl t) =
        ⊎_elim (λ (f : Fair z s [] img × (plain s.kind ≡ true)). (length (to_do z s work img), request_ends z work fits s img (fair_work z [] work s img f.1 f.0))) (λ (q : (s.kind ≡ Idle) × (ours z s.now ≡ true)). absurd (busy q.0)) t.order.1
    bound_carried_out fits busy (inr (inl t)) = write_carried_out z F first p w img s work t
    bound_carried_out fits busy (inr (inr (inl t))) = begin_carried_out z F first p w img s work t
    bound_carried_out fits busy (inr (inr (inr t))) = rebuild_carried_out z F first p w img s work t

pub sets_on : {z : Shelf} {a b c : Time} (p : HostChain z a b) (q : HostChain z b c) → sets (chained_on p q) ≡ sets q ++ sets p
unfolding chained_on
sets_on p stays = refl
sets_on p (goes_on q x) = ap (λ (l : List (ℕ → Bool)). sets_call x ++ l) (sets_on p q) ∙ sym (append_assoc (sets_call x) (sets q) (sets p))

module _ (z : Shelf) (F : Family z) (first : Machine Sector) where
  -- step after step; they leave nothing out
  steps_on : (n : ℕ) (p : View Sector) (w : World Sector) (img : List ℕ) (s : State) (work : List ℕ) → Bound z F first p w img (has s work)
      → (w' : World Sector) × (c : HostChain z (at w img (has s work)) (at w' (nth work n s img).image (has (nth work n s img).stepped.state work))) × (sets c ≡ [])
  steps_on zero p w img s work t = let y = bound_followed z F first p w img s work t in (y.0, goes_on stays (steps y.1), refl)
  steps_on (suc n) p w img s work t =
      let y = bound_followed z F first p w img s work t in
      let b = call_bound z F first (steps {w = w} {w' = y.0} {img = img} {s = s} {work = work} y.1) (λ a m. absurd (Memᴰ.not-nil m)) p t in
      let r = steps_on n b.0 y.0 (step_with s img work).image (step_with s img work).stepped.state work b.2 in
      (r.0, chained_on (goes_on stays (steps y.1)) r.1, sets_on (goes_on stays (steps {w = w} {w' = y.0} {img = img} {s = s} {work = work} y.1)) r.1 ∙ ap (λ (l : List (ℕ → Bool)). l ++ []) r.2)

  -- SO THE STEPS LEAD TO REST, under the label that the request was to settle; they leave no further set out
  pub bound_comes_to_rest : (p : View Sector) (w : World Sector) (img : List ℕ) (s : State) (work : List ℕ) → length work ≡ work_bytes (slots z) z.c → (s.kind ≡ Idle → ⊥) → Bound z F first p w img (has s work)
      → (w' : World Sector) × (left : List ℕ) × (c : HostChain z (at w img (has s work)) (at w' left (has (rested s) work))) × (sets c ≡ [])
  bound_comes_to_rest p w img s work fits busy t =
      let e = bound_carried_out z F first p w img s work fits busy t in
      let r = steps_on e.0 p w img s work t in
      let y = subst (λ (x : Told). (c : HostChain z (at w img (has s work)) (at r.0 (nth work e.0 s img).image (has x.state work))) × (sets c ≡ [])) e.1.ends (r.1, r.2) in
      (r.0, (nth work e.0 s img).image, y.0, y.1)

module _ (z : Shelf) (first : Machine Sector) where
  pub along_in : (F : Family z) {a b : Time} (c : HostChain z a b) → Allowed z F (sets c) → (p : View Sector) → BoundAt z F first p a → (Along z first) c
  along_in F stays ok p t = (F, p, t)
  along_in F (goes_on c x) ok p t = (along_in F c (λ s m. ok s (Memᴰ.append_right (sets_call x) m)) p t, let y = chain_bound z F first (goes_on c x) ok p t in (F, y.0, y.2))

  pub along_end : {a b : Time} (c : HostChain z a b) → (Along z first) c → (SomeBound z first) b
  along_end stays t = t
  along_end (goes_on c x) t = t.1

  -- ---- the work area

  -- a request that was accepted with it
  taken : (h : Held) (o : Outcome) (s x : State) (work : List ℕ) → (o ≡ Ok tt → length work ≡ work_bytes (slots z) z.c) → Room z h → Room z (held h (begun o x) work)
  taken h (Ok tt) s x work is t = is refl
  taken h (Err why) s x work is t = t

  create_sized : (img work : List ℕ) → create_answer z.k z.m z.c z.sectors img (length work) ≡ Ok tt → length work ≡ work_bytes (slots z) z.c
  unfolding create_answer
  create_sized img work e =
      let p = passed (shelf_fits z.k z.m z.c z.sectors (length img)) _ BadImage e in
      eqb-true (length work) (work_bytes (slots z) z.c) (passed (eqb (length work) (work_bytes (slots z) z.c)) (Ok tt) BadBuffer (passed (all_zero img) _ NotNow p.1).1).0

  start_sized : (img : List ℕ) (h : Held) (s : State) (absent : ℕ) (work : List ℕ) → Room z h → Room z (held h (start_of (geometry z) absent img (length work)) work)
  start_sized img h s absent work t = by (survey_of (geometry z) img absent)
    where
      by : (x : Survey) → Room z (held h (by_survey x (geometry z) absent img (length work)) work)
      by (Err why) = t
      by (Ok p) = room (eqb (length work) (work_bytes (slots z) z.c)) refl
        where
          room : (b : Bool) → eqb (length work) (work_bytes (slots z) z.c) ≡ b
              → Room z (held h (cond b (Ok (started (geometry z) absent p img)) (Err BadBuffer)) work)
          room true e = eqb-true (length work) (work_bytes (slots z) z.c) e
          room false e = t

  -- while a write is under way
  write_sized : (F : Family z) (p : View Sector) (w : World Sector) (img : List ℕ) (s : State) (work : List ℕ) → s.kind ≡ Writing → Bound z F first p w img (has s work) → length work ≡ work_bytes (slots z) z.c
  write_sized F p w img s work k (inl t) =
      ⊎_elim (λ (f : Fair z s [] img × (plain s.kind ≡ true)). absurd (false≢true (sym (ap plain k) ∙ f.1))) (λ (q : (s.kind ≡ Idle) × (ours z s.now ≡ true)). absurd (false≢true (sym (ap is_idle k) ∙ ap is_idle q.0))) t.order.1
  write_sized F p w img s work k (inr (inl t)) = t.sized
  write_sized F p w img s work k (inr (inr (inl t))) = t.sized
  write_sized F p w img s work k (inr (inr (inr t))) = t.sized

  call_sized : {a b : Time} (x : HostCalls z a b) → (SomeBound z first) a → (SomeBound z first) b → Sized z a → Sized z b
  call_sized (creates {w} {img} {h} s work) n n' t = taken h (create_answer z.k z.m z.c z.sectors img (length work)) s _ work (create_sized img work) t
  call_sized (creates_late {w} {img} {h} s k m c S number work e) n n' t =
      subst (λ (o : Outcome). Room z (held h (begun o (created k m c S number)) work)) (sym (create_late k m c S img (length work) e)) t
  call_sized (starts {w} {img} {h} s g absent work sits) n n' t =
      ⊎_elim (λ (e : g ≡ geometry z). subst (λ (x : Geometry). Room z (held h (start_of x absent img (length work)) work)) (sym e) (start_sized img h s absent work t))
      (λ (other : g ≡ geometry z → ⊥). subst (λ (x : Begun). Room z (held h x work)) (sym (bound_elsewhere z n.0 first n.1 w img h n.2 s g absent (length work) other sits)) t) (same_numbers z g)
  call_sized (takes_out {w} {img} {s} {work} d) n n' t = taken (has s work) (take_answer s.now s.kind s.absent img d (length work)) s (took_out s d) work (λ e. t) t
  call_sized (begins {w} {img} {s} {work} d) n n' t = taken (has s work) (begin_answer s.now s.kind s.absent img d (length work)) s (began s d img) work (λ e. t) t
  call_sized (ons {w} {img} {s} {work} b) n n' t = taken (has s work) (on_answer s.now s.kind s.absent img (length work)) s (went_on s b img) work (λ e. t) t
  call_sized (writes {w} {img} {s} {work} b given s' then x y e) n n' t = by (write_answer s.now s.kind s.absent s.count img b (length given) (length work)) e
    where
      by : (o : Outcome) → AfterWrite o s b given img work s' then → length then ≡ work_bytes (slots z) z.c
      by (Ok tt) a = write_sized n'.0 n'.1 w img s' then (ap (λ (x : State). x.kind) a.becomes) n'.2
      by (Err why) a = ap length a.1 ∙ t
  call_sized (repairs {w} {img} {s} {work} u b then r) n n' t = ap length (repair_changes_nothing z n.0 first n.1 w img s work u b then r n.2).1 ∙ t
  call_sized (steps heard) n n' t = t
  call_sized (swaps d left x) n n' t = t
  call_sized (cut left d p) n n' t = tt
  call_sized dies n n' t = tt

  -- THE WORK AREA THAT THE CALLER HOLDS has the size that the requests ask for
  pub chain_sized : {a b : Time} (c : HostChain z a b) → (Along z first) c → Sized z a → Sized z b
  chain_sized stays n t = t
  chain_sized (goes_on c x) n t = call_sized x (along_end c n.0) n.1 (chain_sized c n.0 t)

  -- ---- THE SETS THAT A CHAIN LEAVES OUT are of at most m slots each

  call_passed : {a b : Time} (x : HostCalls z a b) → (SomeBound z first) a → (s : ℕ → Bool) → Memᴰ s (sets_call x) → few_of z s ≡ true
  call_passed (creates s work) n a m = absurd (Memᴰ.not-nil m)
  call_passed (creates_late s k m c S number work e) n a i = absurd (Memᴰ.not-nil i)
  call_passed (starts {w} {img} {h} s g absent work sits) n a m =
      start_any_passed z n.0 first n.1 w img chain.none s g absent (length work) sits (loose z n.0 first n.1 w img h n.2) a m
  call_passed (takes_out {w} {img} {s} {work} d) n a m = by n.2
    where
      by : Bound z n.0 first n.1 w img (has s work) → few_of z a ≡ true
      by (inl t) = out_passed z n.0 first n.1 w img s d (length work) t a m
      by (inr t) = refused (take_answer s.now s.kind s.absent img d (length work)) refl m
        where
          refused : (o : Outcome) → take_answer s.now s.kind s.absent img d (length work) ≡ o → Memᴰ a (outs (begun o (took_out s d))) → few_of z a ≡ true
          refused (Ok tt) e i = absurd (not_rest z n.0 first n.1 w img s work t (take_done s.now s.kind s.absent img d (length work) e).1.at_rest)
          refused (Err why) e i = absurd (Memᴰ.not-nil i)
  call_passed (begins d) n a m = absurd (Memᴰ.not-nil m)
  call_passed (ons b) n a m = absurd (Memᴰ.not-nil m)
  call_passed (writes b given s' then x y e) n a m = absurd (Memᴰ.not-nil m)
  call_passed (repairs t b then r) n a m = absurd (Memᴰ.not-nil m)
  call_passed (steps heard) n a m = absurd (Memᴰ.not-nil m)
  call_passed (swaps d left x) n a m = absurd (Memᴰ.not-nil m)
  call_passed (cut left d p) n a m = absurd (Memᴰ.not-nil m)
  call_passed dies n a m = absurd (Memᴰ.not-nil m)

  pub chain_passed : {a b : Time} (c : HostChain z a b) → (Along z first) c → (s : ℕ → Bool) → Memᴰ s (sets c) → few_of z s ≡ true
  chain_passed stays n s m = absurd (Memᴰ.not-nil m)
  chain_passed (goes_on c x) n s m = ⊎_elim (λ i. call_passed x (along_end c n.0) s i) (λ i. chain_passed c n.0 s i) (Memᴰ.append_cases (sets_call x) m)
