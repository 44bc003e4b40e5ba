-- FROM CALLS TO ROT AND BACK, for k > m: every chain of calls that comes to rest comes to where a repair can begin (RepairRot), with nothing
-- rotten. If sectors of one strip of a stripe then change by themselves, into anything, the host's list is still what it was; and an accepted
-- repair of the stripe, stepped to Done, ends with that list and with nothing of the stripe rotten. So it goes on, strip after strip and repair
-- after repair; meanwhile every strip that is not rotten is what the list asks for, and blocks that are fine are read right, also while a repair
-- is under way. Assumes nothing.
use Rattle.std.specs.Prelude.{◌≡◌, ◌≢◌, Bool, ◌&&◌, List, [], ◌∷◌, ℕ, ◌-◌, ◌<◌, ◌/◌, ◌%◌, eqb, length, Ok}
use Rattle.std.proofs.Math.Path.{refl, sym, ap, fun_ext}
use Rattle.std.proofs.Common.{subst, ◌∙◌, ⊎_elim, inl, inr}
use Rattle.std.proofs.Math.Bool.{true, false, cond, not, false≢true}
use Rattle.std.proofs.Math.Dec.{ltb}
use borrow.Author.Tests.{eq-eqb, eqb-true, ltb-true, lt-ltb}
use Rattle.disk.specs.Geometry.{slot_of}
use Rattle.disk.specs.Mask.{in_mask}
use Rattle.label.specs.Bytes.{all_zero}
use Rattle.label.proofs.Counts.{same_says}
use Rattle.redo.specs.Decide.{believed}
use Rattle.redo.specs.Laws.{looked_below, believed_looked, believed_below}
use Rattle.protocol.specs.World.{Place, label, log, strip, slot, Image, World, Action, after, Possible, Sane, Always}
use Rattle.protocol.specs.Log.{Write}
use Rattle.protocol.specs.Label.{Label, looked}
use Rattle.protocol.specs.Host.{Host, table, read}
use Rattle.protocol.specs.Program.{BAD_BLOCK, first, Own, Memory, nothing, idle, doing, logging, storing, read_block, block, beyond, mask}
use Rattle.protocol.specs.Program as program
use Rattle.protocol.specs.Even.{program_by}
use Rattle.protocol.proofs.Kept as Kept
use Rattle.protocol.specs.Pairs.{no_sets}
use Rattle.protocol.specs.Machine.{Machine, effect, View, sure, open_write, kept_write}
use Rattle.protocol.specs.Machine as machine
use Rattle.protocol.specs.Invariant.{Ready}
use Rattle.protocol.specs.Veil.{Rot, rotten, OneEach, spread, two, cleaned, cleaned_agrees, cleaned_possible, Decayed}
use Rattle.protocol.specs.Rot.{Fine, label_of as label_of', Allowed, stays, decays as decayed}
use Rattle.protocol.proofs.Rot.{rot_promise, rot_ready}
use Rattle.codecs.specs.Sector.{Sector, Bytes}
use Rattle.codecs.proofs.Sector.{sector_path}
use Rattle.codecs.specs.Shelf.{Shelf, slots, geometry, size}
use Rattle.codecs.specs.Labels.{fields_of, no_label, label_of, ours}
use Rattle.codecs.proofs.Labels.{labels}
use Rattle.codecs.specs.Records.{strip_bytes}
use Rattle.codecs.proofs.Records.{records}
use Rattle.codecs.specs.Media.{stamps}
use Rattle.codecs.proofs.Media.{medium}
use Rattle.shards.proofs.Quorum.{quorum}
use Rattle.shards.proofs.CodeLaws.{code}
use Rattle.shards.proofs.Promise.{sectors}
use Rattle.shards.proofs.Even.{any_code, any_sectors}
use Rattle.requests.specs.Ready.{is_idle}
use Rattle.requests.specs.Begun.{Begun, state_of}
use Rattle.shelf.specs.Act.{Move}
use Rattle.shelf.specs.Step.{finished, step_move}
use Rattle.blocks.specs.Read.{laid_by, shown_of, read_answer, after_read, read_done}
use Rattle.blocks.specs.Repair.{Repairs}
use Rattle.stages.specs.Limits.{most_stages}
use Rattle.stages.specs.declared.state.State.{State}
use Rattle.stages.specs.declared.state.Kind.{Kind}
use Rattle.stages.specs.declared.state.Kind.TheVariants.{Idle}
use Rattle.refine.specs.Family.{Family, every_few, KeepsIn}
use Rattle.refine.specs.Places.{sector_of, inside, strip_is_inside, slot_below}
use Rattle.refine.proofs.Places.{sector_below, place_one}
use Rattle.refine.specs.Disks.{Disks, cur_of, seen_of}
use Rattle.refine.proofs.Disks.{cur_bytes, cur_outside}
use Rattle.refine.specs.Rounds.{beyond_below}
use Rattle.refine.specs.Redo.{believe_is}
use Rattle.refine.specs.ToDo.{left_of, to_do}
use Rattle.refine.specs.Steps.{Fair}
use Rattle.refine.specs.Tied.{own_of, own_before, write_memory, memory_by, memory_with, plain, program_of}
use Rattle.refine.specs.WriteList.{Writes, strip_same}
use Rattle.refine.proofs.Writes.{write_tied}
use Rattle.refine.specs.Holds.{Wanted}
use Rattle.refine.specs.RepairAsked.{repair_asked}
use Rattle.refine.proofs.RepairAsked.{repair_goes}
use Rattle.refine.specs.Chain.{Tie, blocks, fresh}
use Rattle.refine.proofs.Chain.{rests}
use Rattle.refine.specs.Chain as chain
use Rattle.refine.specs.Hosts.{none, has, at, HostChain, Bound}
use Rattle.refine.proofs.Hosts.{not_rest}
use Rattle.refine.specs.Reads.{may_read}
use Rattle.refine.proofs.ReadsLaws.{shown_read, writing_shown}
use Rattle.refine.specs.Serves.{Served}
use Rattle.refine.proofs.Serves.{served_bound}
use Rattle.refine.specs.RepairRot.{RottenIn, follows, Stepping, last_step, then_on}
use Rattle.refine.proofs.RepairRot.{repair_rot_begins, repair_rot_step, step_ways, comes_to_done, repair_mends}
use Rattle.refine.specs.RotRests.{Decays, none_rotten, on_strip, rotted, FineBlock, SoFar, RestsRotten, but_stripe, Ages, no_step, one_step, none_yet, rots, mends}
use Rattle.requests.specs.Begun.{outcome_of}

module _ (z : Shelf) (d t : ℕ) where
  -- a sector of the strip is one
  on_strip_lem : (k : Place) → on_strip z d t k ≡ true → (j : ℕ) × (j < z.c) × (k ≡ strip d t j)
  on_strip_lem (label e b) q = absurd (false≢true q)
  on_strip_lem (log e i) q = absurd (false≢true q)
  on_strip_lem (strip e u i) q =
      let a = two (eqb e d && eqb u t) (ltb i z.c) q in
      let b = two (eqb e d) (eqb u t) a.0 in
      let x : e ≡ d = eqb-true e d b.0 in
      let y : u ≡ t = eqb-true u t b.1 in
      (i, ltb-true i z.c a.1, cc)

  off_strip : (k : Place) → ((j : ℕ) → j < z.c → k ≢ strip d t j) → on_strip z d t k ≡ false
  off_strip k n = by (on_strip z d t k) refl
    where
      by : (b : Bool) → on_strip z d t k ≡ b → b ≡ false
      by true e = let q = on_strip_lem k e in absurd (n q.0 q.1 q.2)
      by false e = refl

  module _ (w : World Sector) (img left : List ℕ) (disks : Disks z img) (reads : w.cur ≡ cur_of z img) (x : Decays z d t img left) where
    -- every place off the strip reads as before
    same_off : (k : Place) → on_strip z d t k ≡ false → cur_of z left k ≡ cur_of z img k
    unfolding sector_of
    same_off k off = by (inside z k) refl
      where
        by : (b : Bool) → inside z k ≡ b → cur_of z left k ≡ cur_of z img k
        by true e =
            sector_path (cur_of z left k) (cur_of z img k)
            (cur_bytes z left x.disks k e
            ∙ x.others (slot k) (sector_of z k) (slot_below z k e) (sector_below z k e)
            (λ j l p q. on j l (place_one z k (strip d t j) e (strip_is_inside z d t j x.there x.stripe l) p q))
            ∙ sym (cur_bytes z img disks k e))
          where
            on : (j : ℕ) → j < z.c → k ≡ strip d t j → ⊥
            on j l q = false≢true (sym off ∙ ap (on_strip z d t) q ∙ here)
              where
                here : on_strip z d t (strip d t j) ≡ true
                here = rw (eq-eqb d d refl, eq-eqb t t refl, lt-ltb j z.c l)
        by false e = cur_outside z left k e ∙ sym (cur_outside z img k e)

    -- what is read then is the image
    rotted_reads : (rotted z w d t left).cur ≡ cur_of z left
    rotted_reads = fun_ext (λ k. by k (on_strip z d t k) refl)
      where
        by : (k : Place) (b : Bool) → on_strip z d t k ≡ b → cond b (cur_of z left k) (w.cur k) ≡ cur_of z left k
        by k true e = refl
        by k false e = ap (λ (f : Image Sector). f k) reads ∙ sym (same_off k e)

    -- to the protocol that strip rots
    rotted_decays : Sane w → Decayed z.c d t w (rotted z w d t left)
    unfolding Sane Possible
    rotted_decays sane =
        record {
          sane = λ k. by k (on_strip z d t k) refl;
          reads = λ k n. ap (λ (b : Bool). cond b (cur_of z left k) (w.cur k)) (off_strip k n);
          allows = λ k y n m. m.1 (off_strip k n);
        }
      where
        by : (k : Place) (b : Bool) → on_strip z d t k ≡ b → (b ≡ true → cond b (cur_of z left k) (w.cur k) ≡ cur_of z left k) × (b ≡ false → w.may k (cond b (cur_of z left k) (w.cur k)))
        by k true e = (λ q. refl, λ q. absurd (false≢true (sym q)))
        by k false e = (λ q. absurd (false≢true q), λ q. sane k)

-- where the steps of a write end: the image is the shelf's, the state is at rest, and its label is the one that was to be settled
stepping_rests : (z : Shelf) (wr : Write Sector) (work : List ℕ) {s s' : State} {img img' : List ℕ} → Stepping work s img s' img' → Writes z s work wr → Fair z s work img → Disks z img' × (s'.kind ≡ Idle) × (s'.now ≡ s.next)
stepping_rests z wr work (last_step {s = s} {img = img} e) h fair =
    ⊎_elim (λ (q : step_move s work img ≡ finished s img). (subst (λ (x : Move). Disks z x.image) (sym q) fair.disks, ap (λ (x : Move). x.stepped.state.kind) q, ap (λ (x : Move). x.stepped.state.now) q)) (λ q. absurd (q.0 e))
    (step_ways z s work img fair)
stepping_rests z wr work (then_on {s = s} {s' = s'} {img = img} {img' = img'} n r) h fair =
    let T = write_tied z wr s work img h fair in
    ⊎_elim
    (λ (g : Fair z (step_move s work img).stepped.state work (step_move s work img).image × Writes z (step_move s work img).stepped.state work wr). let y = stepping_rests z wr work r g.1 g.0 in (y.0, y.1, y.2 ∙ T.settles))
    (λ q. absurd (n (ap (λ (x : Move). x.stepped.answer) q))) T.goes_on

module _ (z : Shelf) (more : z.m < z.k) where
  -- A STRIP ROTS AT REST, of a stripe in which no other is rotten
  pub decays : (rot : Rot) (w : World Sector) (img : List ℕ) (s : State) (v : Host Sector) → (RestsRotten z more) rot w img s v → (d t : ℕ) (left : List ℕ) → Decays z d t img left → ((e : ℕ) → rot e t ≡ true → e ≡ d)
      → (RestsRotten z more) (spread rot d t) (rotted z w d t left) left s v
  decays rot w img s v h d t left x alone =
      let o = own_of z s s.now in
      let q = rotted_decays z d t w img left h.disks h.reads x h.holds.veil.sane in
      let r = rot_promise (size z) (quorum z more) (labels z) (records z) (code z more) stamps (sectors z more) (decayed {m = idle o} d t q alone tt stays) (sure v) h.holds in
      record {
        disks = x.disks;
        reads = rotted_reads z d t w img left h.disks h.reads x;
        own = h.own;
        idles = h.idles;
        holds = subst (RottenIn z more (spread rot d t) (rotted z w d t left) (idle o)) r.told r.rests;
      }

  -- ---- WHAT IS NOT ROTTEN

  -- what the program gives of a block that is fine is the list's entry
  fine_entry : (rot : Rot) (w : World Sector) (img : List ℕ) (s : State) (v : Host Sector) → ours z s.now ≡ true → w.cur ≡ cur_of z img → (b : ℕ) (m : Memory Sector) (x : ℕ → Sector) → RottenIn z more rot w m (sure v)
      → label_of' (size z) (quorum z more) (labels z) (records z) (code z more) stamps (sectors z more) m ≡ label_of z s.now
      → program_of z m (cur_of z img) (read_block (b / s.now.k) (b % s.now.k)) ≡ (m, block x) → FineBlock z rot s b → strip_bytes x z.c ≡ strip_bytes (v (b / z.k) (b % z.k)) z.c
  fine_entry rot w img s v own reads b m x h is e fine =
      let T = b / s.now.k in
      let I = b % s.now.k in
      let k_is = (same_says (fields_of z 0 (no_label z)) s.now own).same_k in
      let F = follows z more rot w m (sure v) h (read_block T I) (allowed m w.cur T I) (m, block x) (ap (λ (g : Image Sector). program_of z m g (read_block T I)) reads ∙ e) in
      strip_same x (v T I) z.c (λ j l. F.told.1 j l (subst (λ (y : Label). Fits y T I) (sym is) (subst (λ (k : ℕ). Fits (label_of z s.now) (b / k) (b % k)) k_is (fits fine))))
      ∙ ap (λ (k : ℕ). strip_bytes (v (b / k) (b % k)) z.c) (sym k_is)
    where
      allowed : (m : Memory Sector) (f : Image Sector) (t i : ℕ) → Allowed (size z) (quorum z more) (labels z) (records z) (code z more) stamps (sectors z more) rot m f (read_block t i)
      allowed nothing f t i = tt
      allowed (idle o) f t i = tt
      allowed (doing k l o o') f t i = tt

      Fits : Label → ℕ → ℕ → Type 0
      Fits y t i = Fine (size z) (quorum z more) (labels z) (records z) (code z more) stamps (sectors z more) rot y t i

      fits : FineBlock z rot s b → Fits (label_of z s.now) (b / z.k) (b % z.k)
      fits (inl q) = inl q
      fits (inr q) = inr (believe_is z s.now (slot_of (slots z) (b / z.k) (b % z.k)) (b / z.k) ∙ q.0, q.1)

  module _ (rot : Rot) (w : World Sector) (img : List ℕ) (s : State) (v : Host Sector) (h : (RestsRotten z more) rot w img s v) where
    -- A STRIP THAT IS NOT ROTTEN and that the state's label believes is what the list asks for, whatever a cut leaves
    pub unrotten_right : (left : List ℕ) → Disks z left → Possible w (cur_of z left) → (d t : ℕ) → rot d t ≡ false → believed (geometry z) s.now d t ≡ true → Wanted z v left d t
    unfolding Always table sector_of
    unrotten_right left here possible d t sound b j l =
        let g = cur_of z left in
        let c = h.holds.clean in
        let p = cleaned_possible z.c rot w c g h.holds.veil h.holds.holds.0 possible in
        sym (cur_bytes z left here (strip d t j) (strip_is_inside z d t j (looked_below (geometry z) s.now d (believed_looked (geometry z) s.now d t b)) (believed_below (geometry z) s.now d t b) l))
        ∙ ap (λ (y : Sector). y.bytes)
        (cleaned_agrees z.c rot c g (strip d t j) (ap (λ (y : Bool). y && ltb j z.c) sound)
        ∙ Kept.sound (size z) (quorum z more) (labels z) (records z) (code z more) stamps (sectors z more) v c (own_of z s s.now) h.holds.holds (cleaned z.c rot c g) p d t j (believe_is z s.now d t ∙ b) l)

    -- A BLOCK THAT IS FINE IS READ RIGHT: a read that answers Done shows the list's entry
    pub unrotten_reads : (b : ℕ) (work buf : List ℕ) → read_answer s.now s.kind s.absent b (length img) (length buf) (length work) ≡ Ok tt → FineBlock z rot s b
        → after_read (Ok tt) s b img work buf ≡ strip_bytes (v (b / z.k) (b % z.k)) z.c
    unfolding program_by mask seen_of laid_by
    unrotten_reads b work buf ok fine =
        let shows = read_done s.now s.kind s.absent b img work buf ok in
        let o = own_of z s s.now in
        let X = read (size z) (no_sets (slots z)) (records z) (any_code z) (label_of z s.now) (seen_of z (beyond (slots z) (in_mask s.absent)) img) (b / s.now.k) (b % s.now.k) in
        ap (λ (k : Kind). shown_of s.now s.absent (laid_by k s.cursor.stage s.marks.redo s.marks.stripe (b / s.now.k)) img work b) h.idles
        ∙ shown_read z img h.disks s.now h.own s.absent b work buf shows (λ e i a q. h.holds.holds.1.dark e (beyond_below (slots z) s.absent e i ∙ a) q)
        ∙ fine_entry rot w img s v h.own h.reads b (idle o) X h.holds refl
        (ap (λ (x : Bool). program.answer (size z) (no_sets (slots z)) (labels z) (records z) (any_code z) stamps (any_sectors z) (idle o) (first (record { why = BAD_BLOCK; holds = not x } ∷ [])) (idle o) (block X)) (may_read z img h.disks s.now h.own s.absent b work buf shows))
        fine

  -- also while a repair is under way
  module _ (wr : Write Sector) (s : State) (work img : List ℕ) (h : Writes z s work wr) (fair : Fair z s work img) (rot : Rot) (w : World Sector) (reads : w.cur ≡ cur_of z img) (v : Host Sector) (inv : RottenIn z more rot w (memory_with z wr s work img) (sure v)) where
    mending_reads : (b : ℕ) (buf : List ℕ) → read_answer s.now s.kind s.absent b (length img) (length buf) (length work) ≡ Ok tt → FineBlock z rot s b
        → after_read (Ok tt) s b img work buf ≡ strip_bytes (v (b / z.k) (b % z.k)) z.c
    unfolding write_memory
    mending_reads b buf ok fine =
        let l = left_of z work (cur_of z img) (2 - s.cursor.stage) s in
        let l' = left_of z work (cur_of z img) most_stages s in
        let is : memory_with z wr s work img ≡ write_memory z wr s work (cur_of z img) = ap (λ (k : Kind). memory_by k z s (write_memory z wr s work (cur_of z img)) (to_do z s work img)) h.kind in
        let y = writing_shown z img s b work buf (read_done s.now s.kind s.absent b img work buf ok) wr h fair (λ e i a q. dark (ltb s.cursor.stage 2) l l' (subst (λ (x : Memory Sector). RottenIn z more rot w x (sure v)) is inv) e (beyond_below (slots z) s.absent e i ∙ a) q) in
        ap (λ (k : Kind). shown_of s.now s.absent (laid_by k s.cursor.stage s.marks.redo s.marks.stripe (b / s.now.k)) img work b) h.kind
        ∙ y.2 ∙ fine_entry rot w img s v fair.ours_now reads b (memory_with z wr s work img) y.0 inv (ap label_by is ∙ same (ltb s.cursor.stage 2) l l') y.1 fine
      where
        o : Own
        o = own_before z s

        o' : Own
        o' = own_of z s s.next

        label_by : Memory Sector → Label
        label_by = label_of' (size z) (quorum z more) (labels z) (records z) (code z more) stamps (sectors z more)

        same : (x : Bool) (l l' : List (Action Sector)) → label_by (cond x (doing (logging wr) l o o') (doing (storing wr) l' o o')) ≡ label_of z s.now
        same true l l' = refl
        same false l l' = refl

        dark : (x : Bool) (l l' : List (Action Sector)) → RottenIn z more rot w (cond x (doing (logging wr) l o o') (doing (storing wr) l' o o')) (sure v) → (e : ℕ) → o'.absent e ≡ true → looked (size z) (label_of z s.now) e ≡ true → ⊥
        dark true l l' r e a q = r.holds.dark e a (ap (λ (y : Label). looked (size z) y e) (sym r.holds.same_now) ∙ q)
        dark false l l' r e a q = r.holds.dark e a (ap (λ (y : Label). looked (size z) y e) (sym r.holds.same_now) ∙ q)

  -- the steps of a write so far, none of which has answered Done, keep what holds at its beginning
  steps_keep : (wr : Write Sector) (work : List ℕ) (s : State) (img : List ℕ) → Writes z s work wr → Fair z s work img → (rot : Rot) (w : World Sector) → w.cur ≡ cur_of z img → (v : Host Sector) → RottenIn z more rot w (memory_with z wr s work img) (sure v)
      → {s' : State} {img' : List ℕ} → SoFar work s img s' img' → (w' : World Sector) × (w'.cur ≡ cur_of z img') × Writes z s' work wr × Fair z s' work img' × RottenIn z more rot w' (memory_with z wr s' work img') (sure v)
  steps_keep wr work s img h fair rot w reads v inv no_step = (w, reads, h, fair, inv)
  steps_keep wr work s img h fair rot w reads v inv (one_step {s' = s'} {img' = img'} a n) =
      let y = steps_keep wr work s img h fair rot w reads v inv a in
      let R = repair_rot_step z more wr s' work img' y.2 rot y.0 y.1 v y.3 y.4 in
      let g =
      ⊎_elim (λ (q : Fair z (step_move s' work img').stepped.state work (step_move s' work img').image × Writes z (step_move s' work img').stepped.state work wr). q) (λ q. absurd (n (ap (λ (x : Move). x.stepped.answer) q)))
      (write_tied z wr s' work img' y.2 y.3).goes_on in
      (effect y.0 R.reply, R.reads, g.1, g.0, ⊎_elim (λ q. absurd (n q.0)) (λ q. q.1) R.holds)

  -- ---- A REPAIR FROM REST TO REST

  module _ (rot : Rot) (w : World Sector) (img : List ℕ) (s : State) (v : Host Sector) (h : (RestsRotten z more) rot w img s v) (t : ℕ) (work : List ℕ) (b : Begun) (then : List ℕ) (small : Bytes then)
      (r : Repairs s t img work b then) (ok : outcome_of b ≡ Ok tt) where
    -- its steps come to Done
    pub repair_comes_to_done : (s' : State) × (img' : List ℕ) × Stepping then (state_of s b) img s' img'
    repair_comes_to_done = comes_to_done z then (to_do z (state_of s b) then img) (state_of s b) img (repair_goes z img h.disks s h.own t work b then small r ok).0 refl

    -- AT EVERY MOMENT UNTIL THEN a block that is fine is read right
    pub repair_reads : {s' : State} {img' : List ℕ} → SoFar then (state_of s b) img s' img' → (n : ℕ) (buf : List ℕ) → read_answer s'.now s'.kind s'.absent n (length img') (length buf) (length then) ≡ Ok tt → FineBlock z rot s' n
        → after_read (Ok tt) s' n img' then buf ≡ strip_bytes (v (n / z.k) (n % z.k)) z.c
    repair_reads {s'} {img'} a n buf done fine =
        let W = repair_asked z (seen_of z (beyond (slots z) (in_mask s.absent)) img) t in
        let g = repair_goes z img h.disks s h.own t work b then small r ok in
        let y = steps_keep W then (state_of s b) img g.1 g.0 rot w h.reads v (repair_rot_begins z more img h.disks s h.own t work b then small r ok rot w h.reads v h.holds) a in
        mending_reads W s' then img' y.2 y.3 rot y.0 y.1 v y.4 n buf done fine

    -- AND THEN THE SHELF RESTS AGAIN, with the same list under the same label; nothing of the stripe is rotten, and nothing else has rotted
    pub repair_rests : {s' : State} {img' : List ℕ} → Stepping then (state_of s b) img s' img'
        → (rot' : Rot) × (w' : World Sector) × (RestsRotten z more) rot' w' img' s' v × (s'.now ≡ s.now) × ((d : ℕ) → rot' d t ≡ false) × ((d u : ℕ) → rot' d u ≡ true → rot d u ≡ true)
    repair_rests steps =
        let f = repair_mends z more img h.disks s h.own t work b then small r ok steps rot w h.reads v h.holds in
        let g = repair_goes z img h.disks s h.own t work b then small r ok in
        let e = stepping_rests z (repair_asked z (seen_of z (beyond (slots z) (in_mask s.absent)) img) t) then steps g.1 g.0 in
        let n = e.2 ∙ g.3 in (
          f.0,
          f.1.world,
          record {
            disks = e.0;
            reads = f.1.reads;
            own = ap (ours z) n ∙ h.own;
            idles = e.1;
            holds = f.1.holds;
          },
          n,
          f.2,
          f.3,
        )

  -- ---- MANY STRIPS ROT, AND STRIPES ARE REPAIRED

  -- what is true while some strips are rotten is true while more are called so
  rotten_more : (rot more_rot : Rot) (w : World Sector) (img : List ℕ) (s : State) (v : Host Sector) → ((d t : ℕ) → rot d t ≡ true → more_rot d t ≡ true) → OneEach more_rot → (RestsRotten z more) rot w img s v → (RestsRotten z more) more_rot w img s v
  rotten_more rot more_rot w img s v fewer one h =
      record {
        disks = h.disks;
        reads = h.reads;
        own = h.own;
        idles = h.idles;
        holds =
            record {
              clean = h.holds.clean;
              veil = record { sane = h.holds.veil.sane; reads = λ k e. h.holds.veil.reads k (off k e); allows = λ k x e m. h.holds.veil.allows k x (off k e) m };
              one = one;
              stores = tt;
              holds = h.holds.holds;
            };
      }
    where
      off : (k : Place) → rotten z.c more_rot k ≡ false → rotten z.c rot k ≡ false
      off (label d b) e = refl
      off (log d j) e = refl
      off (strip d t j) e = by (rot d t) refl
        where
          by : (a : Bool) → rot d t ≡ a → (a && ltb j z.c) ≡ false
          by true q = sym (ap (λ (y : Bool). y && ltb j z.c) (fewer d t q)) ∙ e
          by false q = refl

  -- THE LIST IS AS IT WAS, under the same label; and no other strips are rotten than those that rotted since their stripe was repaired
  pub ages_at_rest : (rot : Rot) (w : World Sector) (img : List ℕ) (s : State) (v : Host Sector) → (RestsRotten z more) rot w img s v → {rot' : Rot} {img' : List ℕ} {s' : State} → (Ages z more) rot img s rot' img' s'
      → (w' : World Sector) × (RestsRotten z more) rot' w' img' s' v × (s'.now ≡ s.now)
  ages_at_rest rot w img s v h none_yet = (w, h, refl)
  ages_at_rest rot w img s v h (rots {rot' = rot'} {img' = img'} {s' = s'} a d t left x alone) =
      let y = ages_at_rest rot w img s v h a in
      (rotted z y.0 d t left, decays rot' y.0 img' s' v y.1 d t left x alone, y.2)
  ages_at_rest rot w img s v h (mends {rot' = rot'} {img' = img'} {s' = s'} a t work b then small r ok {s''} {img''} steps) =
      let y = ages_at_rest rot w img s v h a in
      let f = repair_rests rot' y.0 img' s' v y.1 t work b then small r ok steps in
      let fewer : (d u : ℕ) → f.0 d u ≡ true → (but_stripe z more) rot' t d u ≡ true = λ d u q. kept f.0 f.4 d u q (rot' d u) (f.5 d u q) (eqb u t) refl in
      (f.1, rotten_more f.0 ((but_stripe z more) rot' t) f.1 img'' s'' v fewer (λ d e u p q. y.1.holds.one d e u (two (rot' d u) (not (eqb u t)) p).0 (two (rot' e u) (not (eqb u t)) q).0) f.2, f.3 ∙ y.2)
    where
      kept : (less : Rot) → ((e : ℕ) → less e t ≡ false) → (d u : ℕ) → less d u ≡ true → (a : Bool) → a ≡ true → (b : Bool) → eqb u t ≡ b → (a && not b) ≡ true
      kept less gone d u q a p true e = absurd (false≢true (sym (gone d) ∙ (ap (less d) (sym (eqb-true u t e)) ∙ q)))
      kept less gone d u q a p false e = ap (λ (y : Bool). y && true) p

  -- ---- FROM CALLS

  -- what is kept for all sets of at most m slots
  ready : (w : World Sector) (o : Own) (v : Host Sector) → KeepsIn z (every_few z more) (machine.at w (idle o)) (sure v) → Sane w × Ready (size z) (quorum z more) (labels z) (records z) (code z more) stamps (sectors z more) v w o
  unfolding table any_sectors sectors medium
  ready w o v k =
      let h = k.1 in (
        k.0,
        record {
          history = h.history;
          u = h.u;
          used = h.used;
          early = h.early;
          born = h.born;
          epoch_now = h.epoch_now;
          sound = h.sound;
          most = h.most;
          rest = h.rest;
          dark = h.dark;
        },
      )

  module _ (first : List ℕ) (disks : Disks z first) (blank : all_zero first ≡ true) where
    module _ {w : World Sector} {img : List ℕ} {s : State} {work : List ℕ} (c : HostChain z (at (after (cur_of z first)) first none) (at w img (has s work))) (idles : s.kind ≡ Idle) where
      -- EVERY CHAIN OF CALLS THAT COMES TO REST comes to where nothing is rotten, with the list that reads show
      pub rest_rots : (v : Host Sector) × Served c (sure blocks) (sure v) × (RestsRotten z more) none_rotten w img s v
      rest_rots = by y.0 y.1 (⊎_elim (λ (t : Tie z F m y.0 w img (chain.has s)). t) (λ t. absurd (not_rest z F m y.0 w img s work t (ap is_idle idles))) y.2)
        where
          F : Family z
          F = every_few z more

          m : Machine Sector
          m = fresh z first disks blank

          y : (p : View Sector) × Served c (sure blocks) p × Bound z F m p w img (has s work)
          y = served_bound z first disks blank F c (λ a i e. e)

          of : (v : Host Sector) → Tie z F m (sure v) w img (chain.has s) → (RestsRotten z more) none_rotten w img s v
          of v t =
              let o = own_of z s s.now in
              let k = ready w o v (subst (λ (x : Memory Sector). KeepsIn z F (machine.at w x) (sure v)) (rests z s img idles) t.reached.keeps) in
              record {
                disks = t.disks;
                reads = t.reads;
                own = ⊎_elim (λ (f : Fair z s [] img × (plain s.kind ≡ true)). f.0.ours_now) (λ (q : (s.kind ≡ Idle) × (ours z s.now ≡ true)). q.1) t.order.1;
                idles = idles;
                holds = rot_ready (size z) (quorum z more) (labels z) (records z) (code z more) stamps (sectors z more) w o v k.0 k.1;
              }

          by : (p : View Sector) → Served c (sure blocks) p → Tie z F m p w img (chain.has s) → (v : Host Sector) × Served c (sure blocks) (sure v) × (RestsRotten z more) none_rotten w img s v
          by (sure v) r t = (v, r, of v t)
          by (open_write v v') r t = absurd (subst (λ (x : Memory Sector). KeepsIn z F (machine.at w x) (open_write v v')) (rests z s img idles) t.reached.keeps)
          by (kept_write v') r t = absurd (subst (λ (x : Memory Sector). KeepsIn z F (machine.at w x) (kept_write v')) (rests z s img idles) t.reached.keeps)

      -- AND THERE STRIPS MAY ROT, at most one of a stripe at a time, and stripes be repaired: the list is as it was
      pub calls_then_ages : {rot : Rot} {left : List ℕ} {s' : State} → (Ages z more) none_rotten img s rot left s'
          → (v : Host Sector) × Served c (sure blocks) (sure v) × (w' : World Sector) × (RestsRotten z more) rot w' left s' v × (s'.now ≡ s.now)
      calls_then_ages a =
          let y = rest_rots in
          let g = ages_at_rest none_rotten w img s y.0 y.2 a in
          (y.0, y.1, g.0, g.1, g.2)

      -- ONE STRIP ROTS, AND ITS STRIPE IS REPAIRED: the shelf rests again, with the same list under the same label, and nothing is rotten any more
      pub rots_then_mends : (d t : ℕ) (left : List ℕ) → Decays z d t img left → (room : List ℕ) (b : Begun) (then : List ℕ) → Bytes then → Repairs s t left room b then → outcome_of b ≡ Ok tt
          → {s' : State} {left' : List ℕ} → Stepping then (state_of s b) left s' left'
          → (v : Host Sector) × Served c (sure blocks) (sure v) × (w' : World Sector) × (RestsRotten z more) none_rotten w' left' s' v × (s'.now ≡ s.now)
      rots_then_mends d t left x room b then small r ok {s'} {left'} steps =
          let y = calls_then_ages (mends (rots none_yet d t left x (λ e q. absurd (false≢true q))) t room b then small r ok steps) in
          let n : (but_stripe z more) (spread none_rotten d t) t ≡ none_rotten = fun_ext (λ e. fun_ext (λ u. clean (eqb e d) (eqb u t))) in
          (y.0, y.1, y.2, subst (λ (rot : Rot). (RestsRotten z more) rot y.2 left' s' y.0) n y.3, y.4)
        where
          clean : (a b : Bool) → ((a && b) && not b) ≡ false
          clean true true = refl
          clean true false = refl
          clean false b = refl
