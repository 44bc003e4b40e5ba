-- A REPAIR WHILE STRIPS ROT, for k > m: what the protocol promises then (`rot_promise`) it promises of the code's repair. At rest, with at
-- most one strip of a stripe rotten: an accepted repair leaves the host's list as it is, so does each of its steps, and when one answers Done,
-- as it does in the end, nothing of the stripe is rotten any more. Meanwhile nothing else rots here. Assumes nothing.
use Rattle.std.specs.Prelude.{◌≡◌, ◌⊎◌, Bool, true, false, cond, not, ◌&&◌, ℕ, ◌-◌, ◌<◌, eqb, ltb, Ok}
use Rattle.std.proofs.Math.Path.{refl, ap}
use Rattle.std.proofs.Common.{sym, subst, ◌∙◌, ⊎_elim, arith, eq-eqb}
use Rattle.std.proofs.Math.Logic.{inl, inr}
use mathlib.Core.List.{List, [], ◌∷◌}
use Rattle.disk.specs.Geometry.{stripes_of, slot_of, slot_lt}
use Rattle.disk.specs.Mask.{in_mask}
use Rattle.label.specs.declared.fields.Label as bytes
use Rattle.protocol.specs.World.{Image, World, Action, put, flush}
use Rattle.protocol.specs.Log.{Write, Belief}
use Rattle.protocol.specs.Label.{believed, belief}
use Rattle.protocol.specs.Host.{Host, accused, accused_slot, repair_of}
use Rattle.protocol.specs.Program as program
use Rattle.protocol.specs.Program.{Memory, nothing, idle, doing, creating, starting, logging, storing, labelling, Reply, accepted, refused, did, safe, done, block, found, repair, step, beyond, mask, finding, asked_repair}
use Rattle.protocol.specs.Machine.{effect, sure}
use Rattle.protocol.specs.Even.{program_by}
use Rattle.protocol.specs.Pairs.{no_sets}
use Rattle.protocol.specs.Veil.{Rot, mended, mended_less, mended_gone}
use Rattle.protocol.specs.Rot.{Follows, Allowed}
use Rattle.protocol.proofs.Rot.{accused_rotten}
use Rattle.codecs.specs.Sector.{Sector, Bytes}
use Rattle.codecs.specs.Shelf.{Shelf, slots, geometry, size, some_slots}
use Rattle.codecs.specs.Labels.{label_of, ours}
use Rattle.codecs.proofs.Labels.{labels}
use Rattle.codecs.proofs.Records.{records}
use Rattle.codecs.specs.Media.{stamps}
use Rattle.shards.proofs.Quorum.{quorum}
use Rattle.shards.proofs.CodeLaws.{code}
use Rattle.shards.proofs.Promise.{sectors}
use Rattle.shards.proofs.Even.{any_code, any_sectors}
use Rattle.shelf.specs.Act.{Move}
use Rattle.shelf.specs.Step.{finished, step_move}
use Rattle.requests.specs.Begun.{Begun, state_of}
use Rattle.blocks.specs.Repair.{Repairs, repair_accuses}
use Rattle.stages.specs.Limits.{most_stages}
use Rattle.stages.specs.declared.state.State.{State}
use Rattle.stages.specs.declared.state.Kind.{Kind}
use Rattle.stages.specs.Told as answer
use Rattle.refine.specs.Disks.{Disks, cur_of, seen_of}
use Rattle.refine.specs.ToDo.{left_of, to_do}
use Rattle.refine.specs.Steps.{Fair, Does}
use Rattle.refine.proofs.Steps.{step_does}
use Rattle.refine.specs.Tied.{own_of, own_before, write_memory, memory_by, memory_with, Same, program_of}
use Rattle.refine.specs.WriteList.{Writes}
use Rattle.refine.specs.Writes.{OfWrite}
use Rattle.refine.proofs.Writes.{write_tied}
use Rattle.refine.specs.RepairAsked.{repair_asked, repair_whole}
use Rattle.refine.proofs.RepairAsked.{repair_finds, repair_goes, repair_accepted}
use Rattle.refine.specs.RepairRot.{Stepping, RottenIn, follows, F, Part, move, later, rot_out, RepairStep, rot_then, Mended, last_step, then_on}
use Rattle.requests.specs.Begun.{outcome_of}

-- no two of these replies are the same
not_safe : (a : Action Sector) → did a ≡ safe → ⊥
not_safe a e = let z : ◌≡◌ {A = ℕ} 0 1 = cc in omega arith

not_done : (a : Action Sector) (k : program.Kind Sector) → did a ≡ done k → ⊥
not_done a k e = let z : ◌≡◌ {A = ℕ} 0 1 = cc in omega arith

safe_not_done : (k : program.Kind Sector) → safe ≡ done k → ⊥
safe_not_done k e = let z : ◌≡◌ {A = ℕ} 0 1 = cc in omega arith

-- nor an action's answer and Done
put_not_done : (d to : ℕ) → answer.Put d to ≡ answer.Done → ⊥
put_not_done d to e = let z : ◌≡◌ {A = ℕ} 0 1 = cc in omega arith

flush_not_done : (d : ℕ) → answer.Flush d ≡ answer.Done → ⊥
flush_not_done d e = let z : ◌≡◌ {A = ℕ} 0 1 = cc in omega arith

-- THERE ARE SUCH STEPS: a request that can be carried out comes to Done. l: what is left of it to do
pub comes_to_done : (z : Shelf) (work : List ℕ) (l : List (Action Sector)) (s : State) (img : List ℕ) → Fair z s work img → to_do z s work img ≡ l → (s' : State) × (img' : List ℕ) × Stepping work s img s' img'
comes_to_done z work [] s img fair e =
    let d = subst (Does z work img s (step_move s work img)) e (step_does z work img s fair) in
    ((step_move s work img).stepped.state, (step_move s work img).image, last_step (ap (λ (x : Move). x.stepped.answer) d))
comes_to_done z work (put k v ∷ l) s img fair e =
    let d = subst (Does z work img s (step_move s work img)) e (step_does z work img s fair) in
    let r = comes_to_done z work l d.state _ d.fair d.rest in (
      r.0,
      r.1,
      then_on (λ c. put_not_done _ _ (sym (ap (λ (x : Move). x.stepped.answer) d.is) ∙ c)) (subst (λ (x : Move). Stepping work x.stepped.state x.image r.0 r.1) (sym d.is) r.2),
    )
comes_to_done z work (flush c ∷ l) s img fair e =
    let d = subst (Does z work img s (step_move s work img)) e (step_does z work img s fair) in
    let r = comes_to_done z work l d.state img d.fair d.rest in (
      r.0,
      r.1,
      then_on (λ q. flush_not_done c (sym (ap (λ (x : Move). x.stepped.answer) d.is) ∙ q)) (subst (λ (x : Move). Stepping work x.stepped.state x.image r.0 r.1) (sym d.is) r.2),
    )

-- a step ends the request, or keeps the label
pub step_ways : (z : Shelf) (s : State) (work img : List ℕ) → Fair z s work img
    → (step_move s work img ≡ finished s img) ⊎ (((step_move s work img).stepped.answer ≡ answer.Done → ⊥) × ((step_move s work img).stepped.state.now ≡ s.now))
step_ways z s work img fair = by (to_do z s work img) (step_does z work img s fair)
  where
    by : (l : List (Action Sector)) → Does z work img s (step_move s work img) l
        → (step_move s work img ≡ finished s img) ⊎ (((step_move s work img).stepped.answer ≡ answer.Done → ⊥) × ((step_move s work img).stepped.state.now ≡ s.now))
    by [] d = inl d
    by (put k v ∷ l) d = inr ((λ c. put_not_done _ _ (sym (ap (λ (x : Move). x.stepped.answer) d.is) ∙ c)), ap (λ (x : Move). x.stepped.state.now) d.is ∙ ap (λ (x : State). x.now) d.kept)
    by (flush e ∷ l) d = inr ((λ c. flush_not_done e (sym (ap (λ (x : Move). x.stepped.answer) d.is) ∙ c)), ap (λ (x : Move). x.stepped.state.now) d.is ∙ ap (λ (x : State). x.now) d.kept)

module _ (z : Shelf) (more : z.m < z.k) where
  -- ---- it begins

  -- AN ACCEPTED REPAIR: the list is as it was
  pub repair_rot_begins : (img : List ℕ) (disks : Disks z img) (i : State) (own : ours z i.now ≡ true) (t : ℕ) (work : List ℕ) (b : Begun) (after : List ℕ) (small : Bytes after)
      → Repairs i t img work b after → outcome_of b ≡ Ok tt → (rot : Rot) (w : World Sector) → w.cur ≡ cur_of z img → (v : Host Sector)
      → (RottenIn z more) rot w (idle (own_of z i i.now)) (sure v)
      → (RottenIn z more) rot w (memory_with z (repair_asked z (seen_of z (beyond (slots z) (in_mask i.absent)) img) t) (state_of i b) after img) (sure v)
  repair_rot_begins img disks i own t work b after small r ok rot w reads v h =
      let f = seen_of z (beyond (slots z) (in_mask i.absent)) img in
      let o = own_of z i i.now in
      let m = asked_repair (size z) (no_sets (slots z)) (labels z) (records z) (any_code z) stamps (any_sectors z) o f t in
      let F = (follows z more) rot w (idle o) (sure v) h (repair t) tt (m, accepted) (ap (λ (g : Image Sector). program_of z (idle o) g (repair t)) reads ∙ repair_accepted z img disks i own t work b after small r ok) in
      subst (λ (x : Memory Sector). (RottenIn z more) rot w x (sure v)) (sym (repair_goes z img disks i own t work b after small r ok).2)
      (subst ((RottenIn z more) rot w m) F.told F.rests)

  -- ---- it goes on

  module _ (wr : Write Sector) (s : State) (work img : List ℕ) (h : Writes z s work wr) where
    part_now : (Part z more wr s work img h) (memory_with z wr s work img)
    unfolding write_memory
    part_now = by (ltb s.cursor.stage 2) refl
      where
        L : List (Action Sector)
        L = left_of z work (F z more wr s work img h) (2 - s.cursor.stage) s

        M : List (Action Sector)
        M = left_of z work (F z more wr s work img h) most_stages s

        is : memory_with z wr s work img ≡ write_memory z wr s work (F z more wr s work img h)
        is = ap (λ (k : Kind). memory_by k z s (write_memory z wr s work (F z more wr s work img h)) (to_do z s work img)) h.kind

        by : (a : Bool) → ltb s.cursor.stage 2 ≡ a → (Part z more wr s work img h) (memory_with z wr s work img)
        by true e = (L, inl (is ∙ ap (λ (a : Bool). cond a (doing (logging wr) L (own_before z s) (own_of z s s.next)) (doing (storing wr) M (own_before z s) (own_of z s s.next))) e))
        by false e = (M, inr (is ∙ ap (λ (a : Bool). cond a (doing (logging wr) L (own_before z s) (own_of z s s.next)) (doing (storing wr) M (own_before z s) (own_of z s s.next))) e))

    -- also when the log was just flushed
    part_safe : (m : Memory Sector) → program_of z (memory_with z wr s work img) (F z more wr s work img h) step ≡ (m, safe) → (Part z more wr s work img h) m
    unfolding program_by
    part_safe m e = by part_now.0 part_now.1
      where
        by : (l : List (Action Sector))
            → (memory_with z wr s work img ≡ doing (logging wr) l (own_before z s) (own_of z s s.next)) ⊎ (memory_with z wr s work img ≡ doing (storing wr) l (own_before z s) (own_of z s s.next)) → (Part z more wr s work img h) m
        by (a ∷ l) (inl q) = absurd (not_safe a (ap (λ (x : Memory Sector × Reply Sector). x.1) (sym (ap (λ (y : Memory Sector). program_of z y (F z more wr s work img h) step) q) ∙ e)))
        by (a ∷ l) (inr q) = absurd (not_safe a (ap (λ (x : Memory Sector × Reply Sector). x.1) (sym (ap (λ (y : Memory Sector). program_of z y (F z more wr s work img h) step) q) ∙ e)))
        by [] (inl q) = (_, inr (sym (ap (λ (x : Memory Sector × Reply Sector). x.0) (sym (ap (λ (y : Memory Sector). program_of z y (F z more wr s work img h) step) q) ∙ e))))
        by [] (inr q) = absurd (safe_not_done (storing wr) (sym (ap (λ (x : Memory Sector × Reply Sector). x.1) (sym (ap (λ (y : Memory Sector). program_of z y (F z more wr s work img h) step) q) ∙ e))))

    module _ (rot : Rot) (w : World Sector) (reads : w.cur ≡ (F z more wr s work img h)) (v : Host Sector) where
      allowed : (m : Memory Sector) (f : Image Sector) → Allowed (size z) (quorum z more) (labels z) (records z) (code z more) stamps (sectors z more) rot m f step
      allowed nothing f = tt
      allowed (idle o) f = tt
      allowed (doing k l o o') f = tt

      -- nothing is taken out before the end
      still : (m : Memory Sector) → (Part z more wr s work img h) m → ((rot_then z more wr s work img h rot w reads v) m safe ≡ rot) × ((a : Action Sector) → (rot_then z more wr s work img h rot w reads v) m (did a) ≡ rot)
      still m (l, inl q) = (ap (λ (x : Memory Sector). (rot_then z more wr s work img h rot w reads v) x safe) q, λ a. ap (λ (x : Memory Sector). (rot_then z more wr s work img h rot w reads v) x (did a)) q)
      still m (l, inr q) = (ap (λ (x : Memory Sector). (rot_then z more wr s work img h rot w reads v) x safe) q, λ a. ap (λ (x : Memory Sector). (rot_then z more wr s work img h rot w reads v) x (did a)) q)

      -- at the end the strips of the write are
      ends : (m to : Memory Sector) (k : program.Kind Sector) → (Part z more wr s work img h) m → program_of z m (F z more wr s work img h) step ≡ (to, done k) → (rot_then z more wr s work img h rot w reads v) m (done k) ≡ (rot_out z more wr s work img h) rot
      unfolding program_by
      ends m to k (l, inr q) e = ap (λ (x : Memory Sector). (rot_then z more wr s work img h rot w reads v) x (done k)) q
      ends m to k ([], inl q) e = absurd (safe_not_done k (ap (λ (x : Memory Sector × Reply Sector). x.1) (sym (ap (λ (y : Memory Sector). program_of z y (F z more wr s work img h) step) q) ∙ e)))
      ends m to k (a ∷ l, inl q) e = absurd (not_done a k (ap (λ (x : Memory Sector × Reply Sector). x.1) (sym (ap (λ (y : Memory Sector). program_of z y (F z more wr s work img h) step) q) ∙ e)))

      at_first : (m : Memory Sector) → (RottenIn z more) rot w (memory_with z wr s work img) (sure v)
          → (memory_with z wr s work img ≡ m) ⊎ (program_of z (memory_with z wr s work img) (F z more wr s work img h) step ≡ (m, safe)) → (Part z more wr s work img h) m × (RottenIn z more) rot w m (sure v)
      at_first m inv (inl e) = (subst (Part z more wr s work img h) e part_now, subst (λ (x : Memory Sector). (RottenIn z more) rot w x (sure v)) e inv)
      at_first m inv (inr e) =
          let M = memory_with z wr s work img in
          let G = (follows z more) rot w M (sure v) inv step (allowed M w.cur) (m, safe) (ap (λ (g : Image Sector). program_of z M g step) reads ∙ e) in (
            part_safe m e,
            subst (λ (x : Rot). (RottenIn z more) x w m (sure v)) (still M part_now).0 (subst ((RottenIn z more) ((rot_then z more wr s work img h rot w reads v) M safe) w m) G.told G.rests),
          )

      by_reply : (m : Memory Sector) → (Part z more wr s work img h) m → (r : Reply Sector) → OfWrite r → Same z (move z more wr s work img h).stepped.answer r → program_of z m (F z more wr s work img h) step ≡ ((later z more wr s work img h), r) → (effect w r).cur ≡ cur_of z (move z more wr s work img h).image
          → Follows (size z) (quorum z more) (labels z) (records z) (code z more) stamps (sectors z more) rot w m step (sure v) ((later z more wr s work img h), r) → (RepairStep z more wr s work img h) rot w v
      by_reply m p accepted o a e q G = absurd a
      by_reply m p (refused why) o a e q G = absurd a
      by_reply m p safe o a e q G = absurd a
      by_reply m p (block b) o a e q G = absurd a
      by_reply m p (found x) o a e q G = absurd a
      by_reply m p (done creating) o a e q G = absurd o
      by_reply m p (done starting) o a e q G = absurd o
      by_reply m p (done (logging x)) o a e q G = absurd o
      by_reply m p (done labelling) o a e q G = absurd o
      by_reply m p (done (storing x)) o a e q G =
          record {
            reply = done (storing x);
            same = a;
            reads = q;
            holds = inl (a, subst (λ (y : Rot). (RottenIn z more) y w (later z more wr s work img h) (sure v)) (ends m (later z more wr s work img h) (storing x) p e) (subst ((RottenIn z more) ((rot_then z more wr s work img h rot w reads v) m (done (storing x))) w (later z more wr s work img h)) G.told G.rests));
          }
      by_reply m p (did (put k x)) o a e q G =
          record {
            reply = did (put k x);
            same = a;
            reads = q;
            holds =
                inr (
                  (λ c. put_not_done _ _ (sym a.1 ∙ c)),
                  subst (λ (y : Rot). (RottenIn z more) y (effect w (did (put k x))) (later z more wr s work img h) (sure v)) ((still m p).1 (put k x)) (subst ((RottenIn z more) ((rot_then z more wr s work img h rot w reads v) m (did (put k x))) (effect w (did (put k x))) (later z more wr s work img h)) G.told G.rests),
                );
          }
      by_reply m p (did (flush d)) o a e q G =
          record {
            reply = did (flush d);
            same = a;
            reads = q;
            holds =
                inr (
                  (λ c. flush_not_done d (sym a ∙ c)),
                  subst (λ (y : Rot). (RottenIn z more) y (effect w (did (flush d))) (later z more wr s work img h) (sure v)) ((still m p).1 (flush d)) (subst ((RottenIn z more) ((rot_then z more wr s work img h rot w reads v) m (did (flush d))) (effect w (did (flush d))) (later z more wr s work img h)) G.told G.rests),
                );
          }

      -- EACH STEP OF A REPAIR leaves the list as it is; the one that answers Done ends the rot of what was mended
      pub repair_rot_step : Fair z s work img → (RottenIn z more) rot w (memory_with z wr s work img) (sure v) → (RepairStep z more wr s work img h) rot w v
      repair_rot_step fair inv =
          let T = write_tied z wr s work img h fair in
          let B = at_first T.before inv T.first in
          by_reply T.before B.0 T.reply T.of_write T.answers T.steps (T.acts w reads)
          ((follows z more) rot w T.before (sure v) B.1 step (allowed T.before w.cur) ((later z more wr s work img h), T.reply) (ap (λ (g : Image Sector). program_of z T.before g step) reads ∙ T.steps))

  -- THE STEPS OF A REPAIR, up to Done
  pub repair_rot_ends : (wr : Write Sector) (work : List ℕ) {s s' : State} {img img' : List ℕ} → Stepping work s img s' img' → Writes z s work wr → Fair z s work img
      → (rot : Rot) (w : World Sector) → w.cur ≡ cur_of z img → (v : Host Sector) → (RottenIn z more) rot w (memory_with z wr s work img) (sure v)
      → (Mended z more) (mended rot (belief (size z) (label_of z s.now)) wr.stripe wr.changes) s' img' v
  repair_rot_ends wr work (last_step {s = s} {img = img} e) h fair rot w reads v inv = by R.holds
    where
      R : (RepairStep z more) wr s work img h rot w v
      R = repair_rot_step wr s work img h rot w reads v fair inv

      rests : memory_with z wr (step_move s work img).stepped.state work (step_move s work img).image ≡ idle (own_of z (step_move s work img).stepped.state (step_move s work img).stepped.state.now)
      rests =
          ⊎_elim
          (λ (q : step_move s work img ≡ finished s img). ap (λ (x : Move). memory_with z wr x.stepped.state work x.image) q ∙ sym (ap (λ (x : Move). idle (own_of z x.stepped.state x.stepped.state.now)) q))
          (λ q. absurd (q.0 e)) (step_ways z s work img fair)

      by : (((step_move s work img).stepped.answer ≡ answer.Done) × (RottenIn z more) ((rot_out z more) wr s work img h rot) (effect w R.reply) ((later z more) wr s work img h) (sure v))
          ⊎ (((step_move s work img).stepped.answer ≡ answer.Done → ⊥) × (RottenIn z more) rot (effect w R.reply) ((later z more) wr s work img h) (sure v))
          → (Mended z more) ((rot_out z more) wr s work img h rot) (step_move s work img).stepped.state (step_move s work img).image v
      by (inl q) = record { world = effect w R.reply; reads = R.reads; holds = subst (λ (x : Memory Sector). (RottenIn z more) ((rot_out z more) wr s work img h rot) (effect w R.reply) x (sure v)) rests q.1 }
      by (inr q) = absurd (q.0 e)
  repair_rot_ends wr work (then_on {s = s} {s' = s'} {img = img} {img' = img'} n r) h fair rot w reads v inv =
      by R.holds (write_tied z wr s work img h fair).goes_on (step_ways z s work img fair) (λ g q. repair_rot_ends wr work r g.1 g.0 rot (effect w R.reply) R.reads v q)
    where
      R : (RepairStep z more) wr s work img h rot w v
      R = repair_rot_step wr s work img h rot w reads v fair inv

      by : (((step_move s work img).stepped.answer ≡ answer.Done) × (RottenIn z more) ((rot_out z more) wr s work img h rot) (effect w R.reply) ((later z more) wr s work img h) (sure v))
          ⊎ (((step_move s work img).stepped.answer ≡ answer.Done → ⊥) × (RottenIn z more) rot (effect w R.reply) ((later z more) wr s work img h) (sure v))
          → (Fair z (step_move s work img).stepped.state work (step_move s work img).image × Writes z (step_move s work img).stepped.state work wr) ⊎ (step_move s work img ≡ finished s img)
          → (step_move s work img ≡ finished s img) ⊎ (((step_move s work img).stepped.answer ≡ answer.Done → ⊥) × ((step_move s work img).stepped.state.now ≡ s.now))
          → (Fair z (step_move s work img).stepped.state work (step_move s work img).image × Writes z (step_move s work img).stepped.state work wr → (RottenIn z more) rot (effect w R.reply) ((later z more) wr s work img h) (sure v)
          → (Mended z more) (mended rot (belief (size z) (label_of z (step_move s work img).stepped.state.now)) wr.stripe wr.changes) s' img' v)
          → (Mended z more) ((rot_out z more) wr s work img h rot) s' img' v
      by (inl q) g k on = absurd (n q.0)
      by (inr q) (inr g) k on = absurd (n (ap (λ (x : Move). x.stepped.answer) g))
      by (inr q) (inl g) (inl k) on = absurd (n (ap (λ (x : Move). x.stepped.answer) k))
      by (inr q) (inl g) (inr k) on = subst (λ (l : bytes.Label). (Mended z more) (mended rot (belief (size z) (label_of z l)) wr.stripe wr.changes) s' img' v) k.1 (on g q.1)

  -- A REPAIR FROM REST TO REST: the list is as it was, nothing of its stripe is rotten any more, and nothing else has rotted
  pub repair_mends : (img : List ℕ) (disks : Disks z img) (i : State) (own : ours z i.now ≡ true) (t : ℕ) (work : List ℕ) (b : Begun) (after : List ℕ) (small : Bytes after)
      (r : Repairs i t img work b after) (ok : outcome_of b ≡ Ok tt) {s' : State} {img' : List ℕ} → Stepping after (state_of i b) img s' img'
      → (rot : Rot) (w : World Sector) → w.cur ≡ cur_of z img → (v : Host Sector) → (RottenIn z more) rot w (idle (own_of z i i.now)) (sure v)
      → (rot' : Rot) × (Mended z more) rot' s' img' v × ((d : ℕ) → rot' d t ≡ false) × ((d u : ℕ) → rot' d u ≡ true → rot d u ≡ true)
  unfolding repair_of belief mask seen_of
  repair_mends img disks i own t work b after small r ok {s'} {img'} steps rot w reads v h = (gone, ended, clean, λ d u. mended_less rot B t W.changes d u)
    where
      f : Image Sector
      f = seen_of z (beyond (slots z) (in_mask i.absent)) img

      W : Write Sector
      W = repair_asked z f t

      B : Belief
      B = belief (size z) (label_of z i.now)

      gone : Rot
      gone = mended rot B t W.changes

      ended : (Mended z more) gone s' img' v
      ended =
          let g = repair_goes z img disks i own t work b after small r ok in
          subst (λ (l : bytes.Label). (Mended z more) (mended rot (belief (size z) (label_of z l)) t W.changes) s' img' v) (ap (λ (x : State). x.now) (repair_accuses i t img work b after r ok).2)
          (repair_rot_ends W after steps g.1 g.0 rot w reads v (repair_rot_begins img disks i own t work b after small r ok rot w reads v h))

      accuses : (q : ℕ) × (finding (size z) (no_sets (slots z)) (labels z) (records z) (any_code z) stamps (any_sectors z) f t ≡ accused q) × (q < slots z)
      accuses = repair_finds z img disks i own t work b after small r ok

      D : ℕ
      D = slot_of (slots z) t accuses.0

      whole : (t < stripes_of (geometry z)) × ((d : ℕ) → d < slots z → in_mask i.now.out d ≡ false) × ((d : ℕ) → d < slots z → believed (size z) (label_of z i.now) d t ≡ true)
      whole = repair_whole z img disks i own t work b after small r ok

      -- the accusation is right
      rotten_there : rot D t ≡ true
      rotten_there =
          accused_rotten (size z) (quorum z more) (labels z) (records z) (code z more) stamps (sectors z more) rot w (own_of z i i.now) v h whole.1 t whole.0 accuses.0
          (ap (λ (g : Image Sector). finding (size z) (quorum z more) (labels z) (records z) (code z more) stamps (sectors z more) (mask (size z) (quorum z more) (labels z) (records z) (code z more) stamps (sectors z more) (beyond (slots z) (in_mask i.absent)) g) t) reads
          ∙ accuses.1)

      written : W.changes D ≡ true
      written = eq-eqb D _ (sym (ap (accused_slot (size z) (no_sets (slots z)) (records z) (any_code z) t) accuses.1))

      clean : (d : ℕ) → gone d t ≡ false
      clean d = by (rot d t) refl
        where
          by : (a : Bool) → rot d t ≡ a → gone d t ≡ false
          by true q =
              subst (λ (x : ℕ). gone x t ≡ false) (sym (h.one d D t q rotten_there))
              (mended_gone rot B t W.changes D (whole.2 D (slot_lt (slots z) t (some_slots z) accuses.0)) written)
          by false q = ap (λ (x : Bool). x && not (eqb t t && (B.believe d t && W.changes d))) q
