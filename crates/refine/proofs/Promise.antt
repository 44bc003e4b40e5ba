-- WHAT EVERY CHAIN OF CALLS KEEPS, in the words of the bytes, from an image of zeros on, whatever is called: create, start, take out, begin, rebuild on, write, repair and step, with power cuts and deaths of
-- the caller in between. No label on any disk lies, names another shelf or loses its shape; the state's own label is true, whatever a cut leaves, and so is the answer Done of a step; no step touches an absent
-- slot; what was accepted is carried out. For every shelf, where any two of the sets of slots that accepted start-ups and take-outs leave out from one moment of rest to the next leave a slot out in common (Since); for k > m nothing is asked
-- (`nothing_asked`). (Where they leave none, no start-up can tell what was written: the protocol's Limits.) What reads show meanwhile is in Serves. Assumes nothing.
use Rattle.std.specs.Prelude.{◌≡◌, refl, Bool, false, ℕ, ◌≤◌, ◌<◌, length, Err, Some}
use Rattle.std.proofs.Common.{sym, subst, ◌∙◌, ⊎_elim, arith}
use Rattle.std.proofs.Math.Path.{ap}
use Rattle.std.proofs.Math.Bool.{true, cond}
use mathlib.Core.List.Memᴰ
use mathlib.Core.List.{List, [], ◌++◌, Memᴰ}
use Rattle.disk.specs.Mask.{in_mask}
use Rattle.disk.specs.Geometry.{stripes_of}
use Rattle.disk.specs.declared.geometry.Geometry.{Geometry}
use Rattle.disk.specs.declared.refusal.Refusal.TheVariants.{BadImage, NotNow}
use Rattle.label.specs.Fields.{no_slot}
use Rattle.label.specs.Newest.{copy_of}
use Rattle.label.specs.Bytes.{all_zero}
use Rattle.label.specs.declared.fields.Label as bytes
use Rattle.redo.specs.Decide.{believed}
use Rattle.protocol.specs.World.{World, after, Possible}
use Rattle.protocol.specs.Label.{plainly_out as plainly_out'}
use Rattle.protocol.specs.Host.{Host}
use Rattle.protocol.specs.Machine.{View, sure}
use Rattle.protocol.specs.Pairs.{AnyTwo}
use Rattle.codecs.specs.Sector.{Sector}
use Rattle.codecs.specs.Shelf.{Shelf, slots, geometry}
use Rattle.codecs.specs.Labels.{ours, label_of}
use Rattle.shards.proofs.Quorum.{quorum}
use Rattle.shelf.specs.Act.{Move}
use Rattle.shelf.specs.Step.{finished}
use Rattle.stages.specs.declared.state.State.{State}
use Rattle.stages.specs.Told.{Answer}
use Rattle.stages.specs.Told as answer
use Rattle.stages.specs.declared.state.Kind.TheVariants.{Idle, Filling}
use Rattle.stages.specs.State.{rested}
use Rattle.requests.specs.Begun.{work_bytes}
use Rattle.requests.specs.Create.{shelf_fits, created, create_of}
use Rattle.requests.specs.Start.{start_of}
use Rattle.requests.specs.Step.{step_with}
use Rattle.requests.specs.TakeOut.{plainly_out, out_now}
use Rattle.refine.specs.Family.{Family, every_few}
use Rattle.refine.specs.Disks.{Disks, cur_of}
use Rattle.refine.specs.Ends.{EndsAfter, done_ends}
use Rattle.refine.specs.Other.{Sits, other_code}
use Rattle.refine.specs.Chain.{Heard, blocks, step_rests, fresh}
use Rattle.refine.proofs.Chain.{fresh_tie}
use Rattle.refine.specs.Holds.{Wanted, StripTrue, NoLies, HeldTrue, Follows, healthy_believed}
use Rattle.refine.specs.Hosts.{Held, none, has, Time, at, HostCalls, creates, steps, HostChain, stays, goes_on, sets_call, sets, BoundAt}
use Rattle.refine.proofs.HostHolds.{bound_labels, bound_shaped, bound_followed}
use Rattle.refine.specs.HostTrue.{from_rest, chained_on, Along}
use Rattle.refine.proofs.HostTrue.{bound_possible, bound_elsewhere, bound_honest, bound_own, bound_rests_true, bound_absent_out, bound_same_out, bound_labelled, bound_create_again, bound_heals, bound_carried_out, bound_comes_to_rest, sets_on, along_in, chain_sized, chain_passed}
use Rattle.refine.specs.Since.{AnyTwoSince, since}
use Rattle.refine.proofs.Since.{since_two}
use Rattle.refine.specs.Serves.{Served}
use Rattle.refine.proofs.Serves.{bound_since, pairs_since}
use Rattle.refine.specs.Promise.{ComesTo, new_image, new_disks, create_goes}

-- ---- CHAINS OF CALLS, from an image of zeros on

module _ (z : Shelf) (first : List ℕ) (disks : Disks z first) (blank : all_zero first ≡ true) where
  -- FOR k > m NOTHING IS ASKED: any two sets of at most m slots leave a slot out
  pub nothing_asked : z.m < z.k → {b : Time} (c : (ComesTo z first disks blank) b) → AnyTwoSince c
  nothing_asked more c =
      let F = every_few z more in
      let n = along_in z (fresh z first disks blank) F c (λ a m e. e) (sure blocks) (fresh_tie z first disks blank F) in
      pairs_since z first disks blank c (λ s t i j. (quorum z more).meet s t (chain_passed z (fresh z first disks blank) c n s i) (chain_passed z (fresh z first disks blank) c n t j))

  -- the tie holds at every moment before
  pub along : {b : Time} (c : (ComesTo z first disks blank) b) → AnyTwoSince c → Along z (fresh z first disks blank) c
  along stays two = let y = bound_since z first disks blank stays two in (y.0, y.1, y.3)
  along (goes_on c x) two = (along c two.0, let y = bound_since z first disks blank (goes_on c x) two in (y.0, y.1, y.3))

  -- CALLS THAT LEAVE NOTHING OUT ASK FOR NOTHING MORE
  one_more : {b d : Time} (c : (ComesTo z first disks blank) b) → AnyTwoSince c → (x : HostCalls z b d) → ((s : ℕ → Bool) → Memᴰ s (sets_call x) → ⊥) → AnyTwoSince (goes_on c x)
  one_more c two x empty =
      let y = bound_since z first disks blank c two in
      let r = since_two z (fresh z first disks blank) c two y.0 y.1 y.3 in
      (two, λ a b i j. r a b (old a i) (old b j))
    where
      old : (s : ℕ → Bool) → Memᴰ s (sets_call x ++ since c) → Memᴰ s (since c)
      old s m = ⊎_elim (λ n. absurd (empty s n)) (λ n. n) (Memᴰ.append_cases (sets_call x) m)

  more : {b d : Time} (c : (ComesTo z first disks blank) b) → AnyTwoSince c → (q : HostChain z b d) → ((s : ℕ → Bool) → Memᴰ s (sets q) → ⊥) → AnyTwoSince (chained_on c q)
  unfolding chained_on
  more c two stays empty = two
  more c two (goes_on q x) empty = one_more (chained_on c q) (more c two q (λ s m. empty s (Memᴰ.append_right (sets_call x) m))) x (λ s m. empty s (Memᴰ.append_left (sets q) m))

  module _ {w : World Sector} {img : List ℕ} {h : Held} (chain : (ComesTo z first disks blank) (at w img h)) (two : AnyTwoSince chain) where
    -- the tie with the protocol's machine
    tie : (F : Family z) × (p : View Sector) × Served chain (sure blocks) p × BoundAt z F (fresh z first disks blank) p (at w img h)
    tie = bound_since z first disks blank chain two

    -- THE HOST'S VIEW at this moment: one of those that Serves speaks of
    pub view : View Sector
    view = tie.1

    pub view_served : Served chain (sure blocks) view
    unfolding view
    view_served = tie.2

    -- what is read is one of the things that a cut may leave
    pub read_possible : Possible w (cur_of z img)
    read_possible = bound_possible z tie.0 (fresh z first disks blank) tie.1 w img h tie.3

    -- START WITH ANOTHER n, c OR S is refused, with this code, and changes nothing
    pub start_elsewhere : (s : State) (g : Geometry) (absent room : ℕ) → (g ≡ geometry z → ⊥) → Sits z g absent
        → start_of g absent img room ≡ Err (other_code g (length img) absent)
    start_elsewhere = bound_elsewhere z tie.0 (fresh z first disks blank) tie.1 w img h tie.3

    -- NO LABEL ON ANY DISK LIES, whatever a cut leaves, while nothing is under way or anything is
    pub honest_labels : (left : List ℕ) → Disks z left → Possible w (cur_of z left) → NoLies z view left
    unfolding view
    honest_labels = bound_honest z tie.0 (fresh z first disks blank) tie.1 w img h tie.3

    -- so no slot is called healthy before each of its strips is: whatever a cut leaves, of a slot that such a label does not call out each strip is what the list asks for, or it is one that the write
    -- under way changes, and the log holds the write whole, as the last one, as far as that label believes it (`Carried`): start-up under it writes the new strip
    pub healthy_labels : (left : List ℕ) (here : Disks z left) (possible : Possible w (cur_of z left)) (d s : ℕ) (a : bytes.Label) → d < slots z → s < 2 → copy_of (geometry z) left d s ≡ Some a
        → (honest_labels left here possible).settled ≤ a.generation → (e t : ℕ) → e < slots z → t < stripes_of (geometry z) → in_mask a.out e ≡ false
        → StripTrue z a view (honest_labels left here possible).stripe (honest_labels left here possible).changes (honest_labels left here possible).stamp left e t
    healthy_labels left here possible d s a i l c g e t j u o = (honest_labels left here possible).right d s a i l c g e t (healthy_believed z a e t j u o)

    -- NO DISK NAMES ANOTHER SHELF
    pub own_labels : (left : List ℕ) → Disks z left → Possible w (cur_of z left) → (d s : ℕ) (a : bytes.Label) → d < slots z → s < 2 → copy_of (geometry z) left d s ≡ Some a → ours z a ≡ true
    own_labels = bound_labels z tie.0 (fresh z first disks blank) tie.1 w img h tie.3

    -- EVERY DISK'S LABEL HAS ITS SHAPE
    pub shaped_labels : (left : List ℕ) → Disks z left → Possible w (cur_of z left) → (d : ℕ) → d < slots z → Follows z left d
    shaped_labels = bound_shaped z tie.0 (fresh z first disks blank) tie.1 w img h tie.3

  module _ {w : World Sector} {img : List ℕ} {s : State} {work : List ℕ} (chain : (ComesTo z first disks blank) (at w img (has s work))) (two : AnyTwoSince chain) where
    -- THE STATE'S OWN LABEL IS TRUE at rest, and while a request is under way that began at rest, whatever a cut leaves
    pub state_true : from_rest s.kind ≡ true → HeldTrue z (view chain two) w s.now
    unfolding view
    state_true f = let t = tie chain two in bound_own z t.0 (fresh z first disks blank) t.1 w img s work f t.3

    -- AT REST the view is a list, and every strip that the state's label believes is what it asks for, whatever a cut leaves
    pub rests_true : s.kind ≡ Idle
        → (v : Host Sector) × (view chain two ≡ sure v) × ((left : List ℕ) → Disks z left → Possible w (cur_of z left) → (d t : ℕ) → believed (geometry z) s.now d t ≡ true → Wanted z v left d t)
    unfolding view
    rests_true e = let t = tie chain two in bound_rests_true z t.0 (fresh z first disks blank) t.1 w img s work e t.3

    -- AT REST every absent slot is plainly out, so what take out asks of a slot is what the protocol's program asks
    pub absent_out : s.kind ≡ Idle → (d : ℕ) → d < slots z → in_mask s.absent d ≡ true → plainly_out s.now d ≡ true
    absent_out e = let t = tie chain two in bound_absent_out z t.0 (fresh z first disks blank) t.1 w img s work e t.3

    pub same_out : s.kind ≡ Idle → (d : ℕ) → d < slots z → out_now s.now s.absent d ≡ plainly_out' (label_of z s.now) d
    same_out e = let t = tie chain two in bound_same_out z t.0 (fresh z first disks blank) t.1 w img s work e t.3

    -- AT REST the image is not zeros, so create is refused, whatever its numbers, and changes nothing
    pub rests_labelled : s.kind ≡ Idle → all_zero img ≡ false
    rests_labelled e = let t = tie chain two in bound_labelled z t.0 (fresh z first disks blank) t.1 w img s work e t.3

    pub create_again : s.kind ≡ Idle → (t : State) (k m c S number room : ℕ)
        → create_of k m c S number img room ≡ Err (cond (shelf_fits k m c S (length img)) NotNow BadImage)
    create_again e = let t = tie chain two in bound_create_again z t.0 (fresh z first disks blank) t.1 w img s work e t.3

    -- A STEP CAN BE FOLLOWED
    pub step_followed : (w' : World Sector) × Heard z w (step_with s img work).stepped.answer (step_with s img work).image w'
    step_followed = let t = tie chain two in bound_followed z t.0 (fresh z first disks blank) t.1 w img s work t.3

    -- THE WORK AREA has the size that the requests ask for
    pub room_kept : length work ≡ work_bytes (slots z) z.c
    room_kept = chain_sized z (fresh z first disks blank) chain (along chain two) tt

    -- A REQUEST UNDER WAY IS CARRIED OUT by its steps, whichever it is: some actions, and then it is done; none of them is refused
    pub carried_out : (s.kind ≡ Idle → ⊥) → (n : ℕ) × EndsAfter n work s img
    carried_out busy = let t = tie chain two in bound_carried_out z t.0 (fresh z first disks blank) t.1 w img s work room_kept busy t.3

    -- so the steps lead to rest, under the label that the request was to settle: the chain goes on by them; they leave no further set out, and ask for nothing more
    pub comes_to_rest : (s.kind ≡ Idle → ⊥)
        → (w' : World Sector) × (left : List ℕ) × (q : HostChain z (at w img (has s work)) (at w' left (has (rested s) work))) × (sets q ≡ []) × AnyTwoSince (chained_on chain q)
    comes_to_rest busy =
        let t = tie chain two in
        let r = bound_comes_to_rest z t.0 (fresh z first disks blank) t.1 w img s work room_kept busy t.3 in
        (r.0, r.1, r.2, r.3, more chain two r.2 (λ a m. Memᴰ.not-nil (subst (λ (l : List (ℕ → Bool)). Memᴰ a l) r.3 m)))

  -- A STEP THAT ANSWERS DONE: nothing is done with the disks, and the request's label is settled
  module _ {w : World Sector} {img : List ℕ} {s : State} {work : List ℕ} (chain : (ComesTo z first disks blank) (at w img (has s work))) (two : AnyTwoSince chain) (done : (step_with s img work).stepped.answer ≡ answer.Done) where
    ended : step_with s img work ≡ finished s img
    ended =
        let n = carried_out chain two (λ k. let t = tie chain two in let q : answer.Done ≡ answer.Refused NotNow = sym done ∙ ap (λ (m : Move). m.stepped.answer) (step_rests z t.0 (fresh z first disks blank) t.1 s img work k) in let i : ◌≡◌ {A = ℕ} 0 1 = cc in omega arith) in
        done_ends n.0 work s img n.1 done

    -- it is followed by doing nothing
    pub done_heard : Heard z w (step_with s img work).stepped.answer (step_with s img work).image w
    done_heard = subst (λ (a : Answer). Heard z w a (step_with s img work).image w) (sym done) refl

    -- the chain with this step
    abbrev pub done_chain : (ComesTo z first disks blank) (at w (step_with s img work).image (has (step_with s img work).stepped.state work))
    done_chain = goes_on chain (steps done_heard)

    -- it asks for nothing more
    pub done_two : AnyTwoSince done_chain
    done_two = one_more chain two (steps {w = w} {w' = w} {img = img} {s = s} {work = work} done_heard) (λ a m. Memᴰ.not-nil m)

    -- THE ANSWER DONE IS TRUE: the state that is handed out is at rest under the label that the request was to settle, the image is as it was, the view is a list, and every strip that the label believes is
    -- what the list asks for, whatever a cut leaves
    pub done_true : ((step_with s img work).stepped.state ≡ rested s) × ((step_with s img work).image ≡ img)
        × (v : Host Sector) × (view done_chain done_two ≡ sure v) × ((left : List ℕ) → Disks z left → Possible w (cur_of z left) → (d t : ℕ) → believed (geometry z) s.next d t ≡ true → Wanted z v left d t)
    done_true =
        let is : (step_with s img work).stepped.state ≡ rested s = ap (λ (m : Move). m.stepped.state) ended in
        let r = rests_true done_chain done_two (ap (λ (x : State). x.kind) is) in
        (is, ap (λ (m : Move). m.image) ended, r.0, r.1, λ left here possible d t b. r.2 left here possible d t (ap (λ (x : State). believed (geometry z) x.now d t) is ∙ b))

    -- SO NO ANSWER CALLS A SLOT HEALTHY BEFORE EACH OF ITS STRIPS IS: where a rebuild is done and no slot is being rebuilt any more (the answer 4), the slot that was is not out any more, and each of its
    -- strips is what the list asks for, whatever a cut leaves
    pub healthy_answer : s.kind ≡ Filling → s.next.rebuilding ≡ no_slot
        → (v : Host Sector) × (view done_chain done_two ≡ sure v) × (s.now.rebuilding < slots z) × (in_mask s.next.out s.now.rebuilding ≡ false)
        × ((left : List ℕ) → Disks z left → Possible w (cur_of z left) → (t : ℕ) → t < stripes_of (geometry z) → Wanted z v left s.now.rebuilding t)
    healthy_answer k healed =
        let y = tie chain two in
        let h = bound_heals z y.0 (fresh z first disks blank) y.1 w img s work k y.3 healed in
        let r = done_true in
        (r.2, r.3, h.0, h.1, λ left here possible t l. r.4 left here possible s.now.rebuilding t (healthy_believed z s.next s.now.rebuilding t h.0 l h.1))

module _ (z : Shelf) where
  module _ (s : State) (work : List ℕ) (room : length work ≡ work_bytes (slots z) z.c) where
    -- a new shelf, at rest
    pub new_shelf : (w : World Sector) × (img : List ℕ) × (c : ComesTo z (new_image z) (new_disks z).0 (new_disks z).1 (at w img (has (rested (created z.k z.m z.c z.sectors z.number)) work))) × (sets c ≡ [])
    new_shelf =
        let d = (new_disks z) in
        let begun : (c : HostChain z (at (after (cur_of z (new_image z))) (new_image z) none) (at (after (cur_of z (new_image z))) (new_image z) (has (created z.k z.m z.c z.sectors z.number) work))) × (sets c ≡ []) =
        subst (λ (h : Held). (c : HostChain z (at (after (cur_of z (new_image z))) (new_image z) none) (at (after (cur_of z (new_image z))) (new_image z) h)) × (sets c ≡ [])) (create_goes z s work room) (goes_on stays (creates s work), refl) in
        let none_out : AnyTwo (slots z) (sets begun.0) = λ a b i j. absurd (Memᴰ.not-nil (subst (λ (l : List (ℕ → Bool)). Memᴰ a l) begun.1 i)) in
        let y = comes_to_rest z (new_image z) d.0 d.1 begun.0 (pairs_since z (new_image z) d.0 d.1 begun.0 none_out) (λ e. let i : ◌≡◌ {A = ℕ} 0 1 = cc in omega arith) in
        (y.0, y.1, chained_on begun.0 y.2, sets_on begun.0 y.2 ∙ ap (λ (l : List (ℕ → Bool)). l ++ sets begun.0) y.3 ∙ begun.1)
