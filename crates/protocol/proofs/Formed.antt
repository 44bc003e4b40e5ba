-- The C6 shape along every history: `shaped` for each event, `shaped_always` for any sequence of them. A disk that is put in has it itself: strictly, or a disk without a label of this
-- shelf and slot may hold anything.
use Rattle.std.specs.Prelude.{ℕ, suc, ◌+◌, ◌-◌, ◌≤◌, ◌<◌, ◌≡◌, Bool, ◌&&◌, ◌⊎◌, ◌≢◌, eqb}
use Rattle.std.proofs.Math.Path.{refl, sym, ap, subst}
use Rattle.std.proofs.Common.{◌∙◌, ⊎_elim, inr, arith, eq-eqb, ne_eqb, eqb-true, leb-false}
use Rattle.std.proofs.Math.Bool.{true, false, cond, not, true≢false}
use Rattle.std.proofs.Math.Logic.{inl}
use mathlib.Core.List.{List, [], ◌∷◌, ◌++◌, Memᴰ}
use Rattle.std.proofs.Math.Decide.{ℕ_discrete}
use Rattle.std.proofs.lemmas.Bool.{eqb-false}
use Rattle.protocol.specs.World.{Place, label, log, strip, slot, Image, update, update_other, update_cases, World, Action, run, after, Possible, Sane, Always, During, sane_after, sane_run, always_after, always_map, during_map, during_start, during_end, during_append, run_append}
use Rattle.protocol.specs.Batch.{Kept, Covered, Done, stage, flushes, flushes_during, certain, Each, each_during, each_map, each_batch}
use Rattle.protocol.specs.Slots.{from, in_from, of_from, of_slots, keep, in_keep, of_keep, in_rows, of_rows, rows_slots}
use Rattle.protocol.specs.Log.{Write, RecordCodec, Belief}
use Rattle.protocol.specs.Write.{log_write, store}
use Rattle.protocol.specs.Label.{Label, alien, last_side, expel, expel_batch, purged, Size, belief, Quorum, LabelCodec, round, prep}
use Rattle.protocol.proofs.Label.{prep_purged}
use Rattle.protocol.specs.Decide.{Touch, Looked, startup}
use Rattle.protocol.proofs.Decide.{log_each, strips_each}
use Rattle.protocol.specs.Request.{outed}
use Rattle.protocol.specs.Rebuild.{begun, raised, healed, wipe, wipe_batch, wiped_sectors, filled_sectors, flushed_at_begin, expel_first, beginning, fill, fill_batch}
use Rattle.protocol.proofs.Rebuild.{begin_flushes, expel_run, expel_during}
use Rattle.protocol.specs.Spare.{present_in}
use Rattle.protocol.proofs.Spare.{startup_spares, round_spares}
use Rattle.protocol.specs.Restart.{restart}
use Rattle.protocol.specs.Host.{Host, Code, read, rebuilt, accused_slot, repair_of, write_of}
use Rattle.protocol.specs.Program.{Stamps, Medium, Verdict, clear, because, Own, Kind, creating, starting, logging, storing, labelling, Memory, nothing, idle, doing, Input, create, start, read_block, write, take_out, begin, rebuild_on, scrub_stripe, repair, step, accepted, block, found, scrubbed, new_label, beyond, mask, flushed_first, created, started, told_to, back_in, filling, at_least_one, relabelled, asked_create, may_create, asked_start, may_start, ask_log, finding, change_made, asked_write, asked_repair, may_repair, asked_out, asked_begin, asked_on, asked_heal, asked_raise, last_batch, may, answer, one_step, meanwhile, from_nothing, from_idle, from_doing, unseen, program}
use Rattle.protocol.specs.Invariant.{Ready, Invariant}
use Rattle.protocol.specs.Promise as Promise
use Rattle.protocol.proofs.Promise as Promise_laws
use Rattle.protocol.specs.Promise.{beyond_in, beyond_none, proper_begun, proper_raised, proper_new, Zeros, zeros_same, create_tests}
use Rattle.protocol.proofs.Promise.{proper_without, proper_healed, out_tests, begin_tests, on_tests}
use Rattle.protocol.specs.Machine.{Machine, at, effect, Event, Outside, power_cut, program_dies, disk_swapped, Happens, from_outside, from_host, Runs, stays, goes, View, sure, open_write, kept_write}
use Rattle.protocol.specs.Startup.{M}
use Rattle.protocol.specs.Swap.{Swapped}
use Rattle.protocol.specs.Shape.{ShapeBy, shape_same, shape_zeros, Low, Top, ShapesBy}
use Rattle.protocol.proofs.Shape.{round_shape, prep_shape}
use Rattle.protocol.specs.Tidy.{Has, has_low, labels_kept, top_same}
use Rattle.protocol.proofs.Tidy.{start_shape}
use Rattle.protocol.specs.Formed.{Current, Data, Any, Others, Purge, Shaped, After, Standing, NewShaped, AllShaped, Tidily}

module _ {X : Type 0} (z : Size) (W : Quorum z.n) (C : LabelCodec X z.n) (K : RecordCodec X) (E : Code X z.n K.c W) (S : Stamps) (R : Medium z W C K E S) (strict : Bool) where
  data_keeps : (o : Own) (w : World X) (l : List (Action X)) → Sane w → Each (Data z W C K E S R strict) (Any z W C K E S R strict) l → Always w ((Current z W C K E S R strict) o) → During w l ((Current z W C K E S R strict) o)
  data_keeps o w l sane e h =
      each_during (Data z W C K E S R strict) (Any z W C K E S R strict) ((Current z W C K E S R strict) o) (λ f k v t c. ((λ d i. shape_same C strict f (update f k v) d (λ b. labels_kept z W C K f k v t d b) (c.0 d i)), λ d i a. let y = c.1 d i a in (y.0, y.1, top_same z W C K f (update f k v) d y.0 (λ b. labels_kept z W C K f k v t d b) y.2))) w l sane h e

  -- one round over disks that all have the generation before, after whatever came first
  round_current : (o o' : Own) (ds : List ℕ) → o'.now.generation ≡ suc o.now.generation → C.Fits o'.now → ((d : ℕ) → Memᴰ d ds → d < z.n) → ((d : ℕ) → d < z.n → o'.absent d ≡ false → Memᴰ d ds) → (w : World X) → Sane w → Always w (λ f. ShapesBy C strict f × ((d : ℕ) → Memᴰ d ds → Low C f d o.now.generation)) → During w (round C o'.now ds) (ShapesBy C strict) × Always (run w (round C o'.now ds)) ((Current z W C K E S R strict) o')
  round_current o o' ds g fit low all w sane h =
      let P = ShapesBy C strict in
      let q = o.now.generation in
      let r = round_shape C strict o'.now q ds (λ f. Unit {0}) (λ f d b x m u. tt) g fit low w sane (always_map (λ f. P f × ((d : ℕ) → Memᴰ d ds → Low C f d q)) (λ f. P f × ((d : ℕ) → Memᴰ d ds → Low C f d q) × Unit {0}) w (λ f c. (c.0, c.1, tt)) h) in (
        during_map (λ f. P f × Unit {0}) P w (round C o'.now ds) (λ f c. c.0) r.0,
        always_map (λ f. P f × ((d : ℕ) → Memᴰ d ds → Top C f d q) × Unit {0}) ((Current z W C K E S R strict) o') (run w (round C o'.now ds)) (λ f c. (c.0, λ d i a. (q, g, c.1 d (all d i a)))) r.1,
      )

  fill_data : (Q : Label) (more : ℕ) (v : ℕ → ℕ → X) → Each (Data z W C K E S R strict) (Any z W C K E S R strict) (fill K Q more v)
  unfolding fill_batch
  fill_data Q more v = each_batch (Data z W C K E S R strict) (Any z W C K E S R strict) (fill_batch K Q more v) (λ k m. let y = of_rows (λ t j. strip Q.rebuilding t j) (filled_sectors K) (from Q.mark more) k m in rw y.4) (λ d m. tt)

  wipe_data : (d : ℕ) → Each (Data z W C K E S R strict) (Any z W C K E S R strict) (wipe K d)
  unfolding wipe_batch
  wipe_data d = each_batch (Data z W C K E S R strict) (Any z W C K E S R strict) (wipe_batch K d) (λ k m. let y = of_rows log (wiped_sectors K) (d ∷ []) k m in rw y.4) (λ e m. tt)

  -- told: those who are present after the change, among those that are in the shelf
  told_in : (A : ℕ → Bool) (d : ℕ) → Memᴰ d (told_to z W C K E S R A) → (d < z.n) × (A d ≡ false)
  unfolding told_to
  told_in A d m = ((of_slots (λ e. not (A e)) z.n d m).0, present_in z W C K A d m)

  in_told : (A : ℕ → Bool) (d : ℕ) → d < z.n → A d ≡ false → Memᴰ d (told_to z W C K E S R A)
  unfolding told_to
  in_told A d i a = Promise.in_present z W C K E S R A d i a

  -- a label change of present disks
  change_shape : (o o' : Own) (l : List (Action X)) → o'.absent ≡ o.absent → o'.now.generation ≡ suc o.now.generation → C.Fits o'.now → (w : World X) → Sane w → Each (Data z W C K E S R strict) (Any z W C K E S R strict) l → Always w ((Current z W C K E S R strict) o) → During w (l ++ round C o'.now (told_to z W C K E S R o.absent)) (ShapesBy C strict) × Always (run w (l ++ round C o'.now (told_to z W C K E S R o.absent))) ((Current z W C K E S R strict) o')
  change_shape o o' l same g fit w sane e h =
      let ds = told_to z W C K E S R o.absent in
      let a = data_keeps o w l sane e h in
      let w1 = run w l in
      let r = round_current o o' ds g fit (λ d m. (told_in o.absent d m).0) (λ d i x. in_told o.absent d i (ap (λ (A : ℕ → Bool). A d) (sym same) ∙ x)) w1 (sane_run w l sane)
      (always_map ((Current z W C K E S R strict) o) (λ f. ShapesBy C strict f × ((d : ℕ) → Memᴰ d ds → Low C f d o.now.generation)) w1 (λ f c. (c.0, λ d m. let y = told_in o.absent d m in has_low z W C K f d o.now.generation (c.1 d y.0 y.1))) (during_end ((Current z W C K E S R strict) o) w l a)) in
      (during_append (ShapesBy C strict) w l (round C o'.now ds) (during_map ((Current z W C K E S R strict) o) (ShapesBy C strict) w l (λ f c. c.0) a) r.0, rw run_append r.1)

  -- ZEROS OVER COPIES OF ANOTHER SHELF on disk d: the disks keep their shape
  module _ (o : Own) (d : ℕ) (seen : Image X) where
    others_put : (f : Image X) (b : Bool) (x : X) → (Others z W C K E S R strict o d seen) f → (Others z W C K E S R strict o d seen) (update f (label d b) x)
    others_put f b x c e j p n = let u = c e j p n in (u.0, u.1, top_same z W C K f (update f (label d b) x) e u.0 (λ s. update_other f (label d b) x (label e s) (λ t. n (ap slot t))) u.2)

    purge_put : (f : Image X) (b : Bool) → alien C seen b d ≡ true → ((y : Bool) → (Purge z W C K E S R strict o d seen) f y) → (y : Bool) → (Purge z W C K E S R strict o d seen) (update f (label d b) C.zeros) y
    purge_put f b a h y = update_cases f (label d b) C.zeros (λ (v : X). (v ≡ seen (label d y)) ⊎ ((alien C seen y d ≡ true) × (v ≡ C.zeros))) (label d y) (λ q. let r : y ≡ b = cc in inr (subst (λ (s : Bool). alien C seen s d ≡ true) (sym r) a, refl)) (h y)

    expel_shape : (b : Bool) (O : Image X → Type 0) → ((f : Image X) → O f → O (update f (label d b) C.zeros)) → (v : World X) → Sane v → Always v (λ f. (ShapesBy C strict f × (Others z W C K E S R strict o d seen) f × ((y : Bool) → (Purge z W C K E S R strict o d seen) f y)) × O f) → During v (expel C seen b (d ∷ [])) (λ f. (ShapesBy C strict f × (Others z W C K E S R strict o d seen) f × ((y : Bool) → (Purge z W C K E S R strict o d seen) f y)) × O f) × Always (run v (expel C seen b (d ∷ []))) (λ f. (ShapesBy C strict f × (Others z W C K E S R strict o d seen) f × ((y : Bool) → (Purge z W C K E S R strict o d seen) f y)) × O f × (f (label d b) ≡ purged C seen (label d b)))
    unfolding expel_batch Kept Covered Done
    expel_shape b O keeps v sv h =
        let es = keep (alien C seen b) (d ∷ []) in
        let P : Image X → Type 0 = λ f. (ShapesBy C strict f × (Others z W C K E S R strict o d seen) f × ((y : Bool) → (Purge z W C K E S R strict o d seen) f y)) × O f in
        stage P (λ f. (ShapesBy C strict f × (Others z W C K E S R strict o d seen) f × ((y : Bool) → (Purge z W C K E S R strict o d seen) f y)) × O f × (f (label d b) ≡ purged C seen (label d b))) v (expel_batch C seen b (d ∷ [])) sv h
        (λ k m f c.
        let y = of_rows (λ e j. label e b) (0 ∷ []) es k m in
        let x = of_keep (alien C seen b) (d ∷ []) y.0 y.2 in
        let q : y.0 ≡ d = mathlib.Core.List.Memᴰ.eq_of_singleton x.0 in
        let a : alien C seen b d ≡ true = subst (λ (e : ℕ). alien C seen b e ≡ true) q x.1 in
        let k' : k ≡ label d b = y.4 ∙ ap (λ (e : ℕ). label e b) q in
        rw k' (((λ e i. shape_zeros C strict f d b e (c.0.0 e i)), others_put f b C.zeros c.0.1, purge_put f b a c.0.2), keeps f c.1))
        (rows_slots (λ e j. label e b) (0 ∷ []) es (λ e j. refl))
        (λ f c done. (c.0, c.1, ends f (c.0.2 b) (λ a. done (label d b) (in_rows (λ e j. label e b) (0 ∷ []) es d 0 (in_keep (alien C seen b) (d ∷ []) d (mathlib.Core.List.Memᴰ.head refl) a) (mathlib.Core.List.Memᴰ.head refl))) (alien C seen b d) refl))
      where
        ends : (f : Image X) → (Purge z W C K E S R strict o d seen) f b → (alien C seen b d ≡ true → f (label d b) ≡ C.zeros) → (y : Bool) → alien C seen b d ≡ y → f (label d b) ≡ purged C seen (label d b)
        ends f p done true e = rw e (done e)
        ends f (inl q) done false e = rw e q
        ends f (inr q) done false e = absurd (true≢false (sym q.0 ∙ e))

  -- begin to rebuild d: it is flushed, so that what was read of its labels is certain; then copies of another shelf go; then prep, and the round
  begin_shape : (o : Own) (d : ℕ) (seen : Image X) (w : World X) → d < z.n → (back : ℕ → Bool) → ((e : ℕ) → back e ≡ false → (e ≡ d) ⊎ (o.absent e ≡ false)) → ((b : Bool) → seen (label d b) ≡ w.cur (label d b)) → 0 < o.now.generation → C.Fits o.now → C.Fits (begun o.now d) → Sane w → Always w ((Current z W C K E S R strict) o) → During w (beginning K C seen o.now d (told_to z W C K E S R back)) (ShapesBy C strict) × Always (run w (beginning K C seen o.now d (told_to z W C K E S R back))) ((Current z W C K E S R strict) (record { now = begun o.now d; absent = back; epoch = o.epoch; count = o.count }))
  unfolding Always
  begin_shape o d seen w i back members agree pos fits fit sane h =
      let P = ShapesBy C strict in
      let q = o.now.generation in
      let ds = told_to z W C K E S R back in
      let o' : Own = record { now = begun o.now d; absent = back; epoch = o.epoch; count = o.count } in
      let A0 : List (Action X) = flushes (flushed_at_begin K d) in
      let w0 = run w A0 in
      let s0 = sane_run w A0 sane in
      let z0 = flushes_during ((Current z W C K E S R strict) o) w.cur w (flushed_at_begin K d) h in
      let side = last_side C seen d in
      let X1 = expel C seen (not side) (d ∷ []) in
      let X2 = expel C seen side (d ∷ []) in
      let Now : Image X → Type 0 = λ f. ShapesBy C strict f × (Others z W C K E S R strict) o d seen f × ((y : Bool) → (Purge z W C K E S R strict) o d seen f y) in
      let First : Image X → Type 0 = λ f. f (label d (not side)) ≡ purged C seen (label d (not side)) in
      let h0 : Always w0 (λ f. Now f × Unit {0}) = λ f p. let c = during_end ((Current z W C K E S R strict) o) w A0 z0 f p in ((c.0, (λ e j a n. c.1 e j a), λ b. inl (certain w.cur w (flushed_at_begin K d) f p (label d b) (begin_flushes K d) ∙ sym (agree b))), tt) in
      let x1 = expel_shape o d seen (not side) (λ f. Unit {0}) (λ f u. tt) w0 s0 h0 in
      let v1 = run w0 X1 in
      let t1 = sane_run w0 X1 s0 in
      let x2 = expel_shape o d seen side First (λ f e. update_other f (label d side) C.zeros (label d (not side)) (λ y. let r : not side ≡ side = cc in not_same side r) ∙ e) v1 t1 (λ f p. let c = x1.1 f p in (c.0, c.2)) in
      let v2 = run v1 X2 in
      let t2 = sane_run v1 X2 t1 in
      let Pure : Image X → Type 0 = λ f. (ShapesBy C strict f × (Others z W C K E S R strict) o d seen f) × ((b : Bool) → f (label d b) ≡ purged C seen (label d b)) in
      let h1 : Always v2 Pure = λ f p. let c = x2.1 f p in ((c.0.0, c.0.1), λ b. sides side b (λ y. f (label d y) ≡ purged C seen (label d y)) c.2 c.1) in
      let A1 = wipe K d in
      let a : During v2 A1 Pure = each_during (Data z W C K E S R strict) (Any z W C K E S R strict) Pure (λ f k v t c. (((λ e j. shape_same C strict f (update f k v) e (λ b. labels_kept z W C K f k v t e b) (c.0.0 e j)), λ e j p n. let y = c.0.1 e j p n in (y.0, y.1, top_same z W C K f (update f k v) e y.0 (λ b. labels_kept z W C K f k v t e b) y.2)), λ b. labels_kept z W C K f k v t d b ∙ c.1 b)) v2 A1 t2 h1 (wipe_data d) in
      let w1 = run v2 A1 in
      let s1 = sane_run v2 A1 t2 in
      let A2 = prep C seen q o.now (d ∷ []) in
      let r2' = prep_shape C strict (purged C seen) q o.now (d ∷ []) ((Others z W C K E S R strict) o d seen)
      (λ f e b x m c. let t : e ≡ d = mathlib.Core.List.Memᴰ.eq_of_singleton m in subst (λ (y : ℕ). (Others z W C K E S R strict) o d seen (update f (label y b) x)) (sym t) (others_put o d seen f b x c))
      pos fits (λ e m. let t : e ≡ d = mathlib.Core.List.Memᴰ.eq_of_singleton m in omega arith) w1 s1
      (always_map Pure (λ f. P f × ((e : ℕ) (b : Bool) → Memᴰ e (d ∷ []) → f (label e b) ≡ purged C seen (label e b)) × (Others z W C K E S R strict) o d seen f) w1
      (λ f c. (c.0.0, (λ e b m. let t : e ≡ d = mathlib.Core.List.Memᴰ.eq_of_singleton m in subst (λ (y : ℕ). f (label y b) ≡ purged C seen (label y b)) (sym t) (c.1 b)), c.0.1)) (during_end Pure v2 A1 a)) in
      let r2 = subst (λ (l : List (Action X)). During w1 l (λ f. P f × (Others z W C K E S R strict) o d seen f) × Always (run w1 l) (λ f. P f × ((e : ℕ) → Memᴰ e (d ∷ []) → Low C f e q) × (Others z W C K E S R strict) o d seen f)) (sym (prep_purged C seen q o.now (d ∷ []))) r2' in
      let w2 = run w1 A2 in
      let r3 = round_current o o' ds refl fit (λ e m. (told_in back e m).0) (λ e j x. in_told back e j x) w2 (sane_run w1 A2 s1)
      (always_map (λ f. P f × ((e : ℕ) → Memᴰ e (d ∷ []) → Low C f e q) × (Others z W C K E S R strict) o d seen f) (λ f. P f × ((e : ℕ) → Memᴰ e ds → Low C f e q)) w2
      (λ f c. (c.0, λ e m. let y = told_in back e m in one f c.1 c.2 e y.0 (members e y.1) (ℕ_discrete e d))) r2.1) in
      let A3 = round C (begun o.now d) ds in (
        during_append P w A0 (expel_first K (X1 ++ X2) (A1 ++ (A2 ++ A3))) (during_map ((Current z W C K E S R strict) o) P w A0 (λ f c. c.0) z0)
            (expel_during K P w0 (X1 ++ X2) (A1 ++ (A2 ++ A3))
            (during_append P w0 X1 X2 (during_map (λ f. Now f × Unit {0}) P w0 X1 (λ f c. c.0.0) x1.0) (during_map (λ f. Now f × First f) P v1 X2 (λ f c. c.0.0) x2.0))
            (subst (λ (v : World X). During v (A1 ++ (A2 ++ A3)) P) (sym (run_append w0 X1 X2))
            (during_append P v2 A1 (A2 ++ A3) (during_map Pure P v2 A1 (λ f c. c.0.0) a)
            (during_append P w1 A2 A3 (during_map (λ f. P f × (Others z W C K E S R strict) o d seen f) P w1 A2 (λ f c. c.0) r2.0) r3.0)))),
        rw (run_append w A0 (expel_first K (X1 ++ X2) (A1 ++ (A2 ++ A3))), expel_run K w0 (X1 ++ X2) (A1 ++ (A2 ++ A3)), run_append w0 X1 X2, run_append v2 A1 (A2 ++ A3), run_append w1 A2 A3) r3.1,
      )
    where
      not_same : (b : Bool) → not b ≡ b → ⊥
      not_same true e = true≢false (sym e)
      not_same false e = true≢false e

      sides : (s b : Bool) (Q : Bool → Type 0) → Q s → Q (not s) → Q b
      sides true true Q x y = x
      sides true false Q x y = y
      sides false true Q x y = y
      sides false false Q x y = x

      one : (f : Image X) → ((e : ℕ) → Memᴰ e (d ∷ []) → Low C f e o.now.generation) → ((e : ℕ) → e < z.n → o.absent e ≡ false → e ≢ d → Has z W C K f e o.now.generation) → (e : ℕ) → e < z.n → (e ≡ d) ⊎ (o.absent e ≡ false) → Dec (e ≡ d) → Low C f e o.now.generation
      one f a b e j x (yes t) = a e (mathlib.Core.List.Memᴰ.head t)
      one f a b e j x (no t) = has_low z W C K f e o.now.generation (b e j (⊎_elim (λ y. absurd (t y)) (λ y. y) x) t)

  pub shaped_off : (w : World X) (m : Memory X) → (Shaped z W C K E S R strict) (at w m) → Always w (ShapesBy C strict)
  shaped_off w nothing h = h
  shaped_off w (idle o) h = always_map ((Current z W C K E S R strict) o) (ShapesBy C strict) w (λ f c. c.0) h
  shaped_off w (doing k l o o') h = during_start (ShapesBy C strict) w l h.0

  verdict : (w : World X) (m : Memory X) → (Shaped z W C K E S R strict) (at w m) → (v : Verdict) (m' : Memory X) → (v ≡ clear → (Shaped z W C K E S R strict) (at w m')) → (After z W C K E S R strict) w (answer z W C K E S R m v m' accepted)
  verdict w m h clear m' g = g refl
  verdict w m h (because why) m' g = h

  log_data : (B : Belief) (σ : ℕ) (wr : Write X) → Each (Data z W C K E S R strict) (Any z W C K E S R strict) (log_write K B σ wr)
  unfolding Touch
  log_data B σ wr = each_map (Touch B) (Data z W C K E S R strict) (Looked B) (Any z W C K E S R strict) (λ k t. t.0) (λ d t. tt) (log_write K B σ wr) (log_each K B σ wr)

  store_data : (B : Belief) (t : ℕ) (ch : ℕ → Bool) (v : ℕ → ℕ → X) → Each (Data z W C K E S R strict) (Any z W C K E S R strict) (store K B t ch v)
  unfolding Touch
  store_data B t ch v = each_map (Touch B) (Data z W C K E S R strict) (Looked B) (Any z W C K E S R strict) (λ k t. t.0) (λ d t. tt) (store K B t ch v) (strips_each K B t ch v)

  shaped_start : (w : World X) (A : ℕ → Bool) → Sane w → Always w (ShapesBy C strict) → may_start z W C K E S R (beyond z.n A) (mask z W C K E S R (beyond z.n A) w.cur) ≡ clear → (Shaped z W C K E S R strict) (at w (asked_start z W C K E S R (beyond z.n A) (mask z W C K E S R (beyond z.n A) w.cur)))
  shaped_start w A0 sane h e =
      restart A (ShapesBy C strict) ((Current z W C K E S R strict) (started z W C K E S R A sn)) (flushed_first z W C K E S R A) (startup z C K A sn) (startup_spares z W C K A sn) (λ k a. Promise_laws.in_flushed z W C K E S R A (slot k) (beyond_in z.n A0 (slot k) a) a) w sane h
      (λ f q a s.
      let g : (k : Place) → A (slot k) ≡ false → sn k ≡ f k = λ k x. Promise_laws.mask_present z W C K E S R A w.cur k x ∙ sym (a k x) in
      let ok = Promise_laws.accept_f z W C K E S R A sn e f g in
      let r = start_shape z W C K A f ok strict s in
      let lab = Promise_laws.same_label_lem z W C K E S R A sn e f g in
      subst (λ (l : List (Action X)). During (after f) l (ShapesBy C strict) × Always (run (after f) l) ((Current z W C K E S R strict) (started z W C K E S R A sn))) (Promise_laws.alike z W C K E S R A sn e f g)
      (r.0, always_map (λ y. ShapesBy C strict y × ((d : ℕ) → d < z.n → A d ≡ false → Top C y d (suc (M z C A f)))) ((Current z W C K E S R strict) (started z W C K E S R A sn)) (run (after f) (startup z C K A f)) (λ y c. (c.0, λ d i x. (suc (M z C A f), ap (λ (l : Label). l.generation) (sym lab), c.1 d i x))) r.1))
    where
      A : ℕ → Bool
      A = beyond z.n A0

      sn : Image X
      sn = mask z W C K E S R (beyond z.n A0) w.cur

  shaped_create : (w : World X) → Sane w → Always w (ShapesBy C strict) → may_create z W C K E S R (mask z W C K E S R (beyond z.n (λ d. false)) w.cur) ≡ clear → (Shaped z W C K E S R strict) (at w (asked_create z W C K E S R))
  shaped_create w sane h e =
      let t = create_tests z W C K E S R (mask z W C K E S R A w.cur) e in
      let zw : Zeros z W C K E S R w.cur = zeros_same z W C K E S R (mask z W C K E S R A w.cur) w.cur (λ k i. sym (Promise_laws.mask_present z W C K E S R A w.cur k (beyond_none z.n (slot k) i))) t.0 in
      restart A (ShapesBy C strict) ((Current z W C K E S R strict) (created z W C K E S R)) (flushed_first z W C K E S R A) (round C l everyone) (round_spares z W C K A l everyone (λ d m. beyond_none z.n d (omega (arith, of_from z.n 0 d m)))) (λ k a. Promise_laws.in_flushed z W C K E S R A (slot k) (beyond_in z.n (λ d. false) (slot k) a) a) w sane h
      (λ f q a s.
      let zf : Zeros z W C K E S R f = zeros_same z W C K E S R w.cur f (λ k i. a k (beyond_none z.n (slot k) i)) zw in
      let r = round_shape C strict l 0 everyone (λ y. Unit {0}) (λ y d b x m u. tt) refl (R.fits l (proper_new z 1) (omega arith) t.1) (λ d m. omega (arith, of_from z.n 0 d m)) (after f) (sane_after f)
      (always_after (λ y. ShapesBy C strict y × ((d : ℕ) → Memᴰ d everyone → Low C y d 0) × Unit {0}) f (s, (λ d m. inl (zf.labels d (C.side 0) (omega (arith, of_from z.n 0 d m)) ∙ sym R.same_zeros)), tt)) in (
        during_map (λ y. ShapesBy C strict y × Unit {0}) (ShapesBy C strict) (after f) (round C l everyone) (λ y c. c.0) r.0,
        always_map (λ y. ShapesBy C strict y × ((d : ℕ) → Memᴰ d everyone → Top C y d 0) × Unit {0}) ((Current z W C K E S R strict) (created z W C K E S R)) (run (after f) (round C l everyone)) (λ y c. (c.0, λ d i x. (0, refl, c.1 d (in_from z.n 0 d (omega arith) (omega arith))))) r.1,
      ))
    where
      A : ℕ → Bool
      A = beyond z.n (λ d. false)

      everyone : List ℕ
      everyone = from 0 z.n

      l : Label
      l = new_label z.n 1

  shaped_nothing : (w : World X) (i : Input X) → Sane w → Always w (ShapesBy C strict) → (After z W C K E S R strict) w (from_nothing z W C K E S R (mask z W C K E S R (unseen z W C K E S R nothing i) w.cur) i)
  shaped_nothing w create sane h = verdict w nothing h (may_create z W C K E S R (mask z W C K E S R (beyond z.n (λ d. false)) w.cur)) (asked_create z W C K E S R) (shaped_create w sane h)
  shaped_nothing w (start A) sane h = verdict w nothing h (may_start z W C K E S R (beyond z.n A) (mask z W C K E S R (beyond z.n A) w.cur)) (asked_start z W C K E S R (beyond z.n A) (mask z W C K E S R (beyond z.n A) w.cur)) (shaped_start w A sane h)
  shaped_nothing w (read_block t i) sane h = h
  shaped_nothing w (write t ch) sane h = h
  shaped_nothing w (take_out d) sane h = h
  shaped_nothing w (begin d) sane h = h
  shaped_nothing w (rebuild_on b) sane h = h
  shaped_nothing w (scrub_stripe t) sane h = h
  shaped_nothing w (repair t) sane h = h
  shaped_nothing w step sane h = h

  -- the log of a write or of a repair
  logs : (o : Own) (wr : Write X) (w : World X) → Sane w → Always w ((Current z W C K E S R strict) o) → (Shaped z W C K E S R strict) (at w (ask_log z W C K E S R o wr))
  logs o wr w s h =
      let l = log_write K (belief z o.now) (suc o.count) wr in
      let a = data_keeps o w l s (log_data (belief z o.now) (suc o.count) wr) h in
      (during_map ((Current z W C K E S R strict) o) (ShapesBy C strict) w l (λ f c. c.0) a, during_end ((Current z W C K E S R strict) o) w l a)

  shaped_idle : (w : World X) (o : Own) (i : Input X) (v : Host X) → Sane w → Ready z W C K E S R v w o → Always w ((Current z W C K E S R strict) o) → (After z W C K E S R strict) w (from_idle z W C K E S R o (mask z W C K E S R (unseen z W C K E S R (idle o) i) w.cur) i)
  shaped_idle w o create v s r h = h
  shaped_idle w o (start A) v s r h = h
  shaped_idle w o (read_block t i) v s r h = read_kept (may z W C K E S R false o (read_block t i))
    where
      read_kept : (y : Verdict) → (After z W C K E S R strict) w (answer z W C K E S R (idle o) y (idle o) (block (read z W K E o.now (mask z W C K E S R o.absent w.cur) t i)))
      read_kept clear = h
      read_kept (because why) = h
  shaped_idle w o (write t ch) v s r h =
      verdict w (idle o) h (may z W C K E S R false o (write t ch)) (asked_write z W C K E S R o (mask z W C K E S R o.absent w.cur) t ch)
      (λ e. let seen = mask z W C K E S R o.absent w.cur in logs o (write_of z W K E o.now seen t (change_made z W C K E S R o seen t ch)) w s h)
  shaped_idle w o (take_out d) v s r h =
      verdict w (idle o) h (may z W C K E S R false o (take_out d)) (asked_out z W C K E S R o d)
      (λ e.
      let t = out_tests z W C K E S R o d e in
      let N = outed z.n o.now d in
      change_shape o (relabelled z W C K E S R o N) [] refl refl (R.fits N (proper_without z o.now (λ x. eqb x d) (suc o.now.generation) (λ x j. ne_eqb x d (λ q. omega (arith, t.0))) r.sound) (omega arith) t.2) w s tt h)
  shaped_idle w o (begin d) v s r h =
      verdict w (idle o) h (may z W C K E S R false o (begin d)) (asked_begin z W C K E S R o (mask z W C K E S R (back_in z W C K E S R o.absent d) w.cur) d)
      (λ e.
      let t = begin_tests z W C K E S R o d e in
      let back = back_in z W C K E S R o.absent d in
      let N = begun o.now d in
      begin_shape o d (mask z W C K E S R back w.cur) w t.0 back (λ x y. split x (o.absent x) refl (eqb x d) refl y) (λ b. Promise_laws.mask_present z W C K E S R back w.cur (label d b) (gone_d (o.absent d))) (omega (arith, r.born, r.epoch_now)) (R.fits o.now r.sound (omega (arith, r.born, r.epoch_now)) r.most) (R.fits N (proper_begun z o.now d t.0 t.1 r.sound) (omega arith) t.2) s h)
    where
      gone_d : (b : Bool) → (b && not (eqb d d)) ≡ false
      gone_d true = rw (eq-eqb d d refl)
      gone_d false = refl

      split : (x : ℕ) (a : Bool) → o.absent x ≡ a → (c : Bool) → eqb x d ≡ c → (o.absent x && not (eqb x d)) ≡ false → (x ≡ d) ⊎ (o.absent x ≡ false)
      split x true p true q y = inl (eqb-true x d q)
      split x true p false q y = absurd (true≢false (sym (rw (p, q)) ∙ y))
      split x false p c q y = inr p
  shaped_idle w o (rebuild_on b) v s r h =
      verdict w (idle o) h (may z W C K E S R false o (rebuild_on b)) (asked_on z W C K E S R o (mask z W C K E S R o.absent w.cur) b) (λ e. let t = on_tests z W C K E S R o b e in on b t.0 t.1 (last_batch z W C K E S R o b) refl)
    where
      on : (b : ℕ) → o.now.rebuilding < z.n → suc o.now.generation ≤ R.greatest → (y : Bool) → last_batch z W C K E S R o b ≡ y → (Shaped z W C K E S R strict) (at w (cond y (asked_heal z W C K E S R o (mask z W C K E S R o.absent w.cur)) (asked_raise z W C K E S R o (mask z W C K E S R o.absent w.cur) (at_least_one z W C K E S R b))))
      on b i room true e =
          let N = healed z.n o.now in
          change_shape o (relabelled z W C K E S R o N) (filling z W C K E S R o (mask z W C K E S R o.absent w.cur) (z.T - o.now.mark)) refl refl (R.fits N (proper_healed z o.now r.sound) (omega arith) room) w s (fill_data o.now (z.T - o.now.mark) (rebuilt z W K E o.now (mask z W C K E S R o.absent w.cur) o.now.rebuilding)) h
      on b i room false e =
          let more = at_least_one z W C K E S R b in
          let N = raised o.now (o.now.mark + more) in
          change_shape o (relabelled z W C K E S R o N) (filling z W C K E S R o (mask z W C K E S R o.absent w.cur) more) refl refl (R.fits N (proper_raised z o.now (o.now.mark + more) i (omega (arith, leb-false z.T (o.now.mark + more) e)) r.sound) (omega arith) room) w s (fill_data o.now more (rebuilt z W K E o.now (mask z W C K E S R o.absent w.cur) o.now.rebuilding)) h
  shaped_idle w o (repair t) v s r h =
      let seen = mask z W C K E S R o.absent w.cur in
      verdict w (idle o) h (may_repair z W C K E S R false o seen t) (asked_repair z W C K E S R o seen t) (λ e. logs o (repair_of z W K E seen t (accused_slot z W K E t (finding z W C K E S R seen t))) w s h)
  shaped_idle w o (scrub_stripe t) v s r h = scrub_kept (may z W C K E S R false o (scrub_stripe t))
    where
      scrub_kept : (y : Verdict) → (After z W C K E S R strict) w (answer z W C K E S R (idle o) y (idle o) (found (E.scrub t (λ d j. mask z W C K E S R o.absent w.cur (strip d t j)))))
      scrub_kept clear = h
      scrub_kept (because why) = h
  shaped_idle w o step v s r h = h

  shaped_step : (k : Kind X) (l : List (Action X)) (o o' : Own) (w : World X) → Sane w → (Shaped z W C K E S R strict) (at w (doing k l o o')) → (After z W C K E S R strict) w (one_step z W C K E S R k l o o')
  shaped_step creating (a ∷ l) o o' w s h = (h.0.1, h.1)
  shaped_step starting (a ∷ l) o o' w s h = (h.0.1, h.1)
  shaped_step (logging wr) (a ∷ l) o o' w s h = (h.0.1, h.1)
  shaped_step (storing wr) (a ∷ l) o o' w s h = (h.0.1, h.1)
  shaped_step labelling (a ∷ l) o o' w s h = (h.0.1, h.1)
  shaped_step creating [] o o' w s h = h.1
  shaped_step starting [] o o' w s h = h.1
  shaped_step (logging wr) [] o o' w s h =
      let l = store K (belief z o.now) wr.stripe wr.changes wr.new in
      let a = data_keeps o' w l s (store_data (belief z o.now) wr.stripe wr.changes wr.new) h.1 in
      (during_map ((Current z W C K E S R strict) o') (ShapesBy C strict) w l (λ f c. c.0) a, during_end ((Current z W C K E S R strict) o') w l a)
  shaped_step (storing wr) [] o o' w s h = h.1
  shaped_step labelling [] o o' w s h = h.1

  read_kept : (k : Kind X) (l : List (Action X)) (o o' : Own) (w : World X) (f : Image X) (t i : ℕ) (y : Verdict) → (Shaped z W C K E S R strict) (at w (doing k l o o')) → (After z W C K E S R strict) w (doing k l o o', meanwhile z W C K E S R k o f t i y)
  read_kept k l o o' w f t i (because why) h = h
  read_kept creating l o o' w f t i clear h = h
  read_kept starting l o o' w f t i clear h = h
  read_kept (logging wr) l o o' w f t i clear h = h
  read_kept (storing wr) l o o' w f t i clear h = h
  read_kept labelling l o o' w f t i clear h = h

  scrub_kept : (k : Kind X) (l : List (Action X)) (o o' : Own) (w : World X) (f : Image X) (t : ℕ) (y : Verdict) → (Shaped z W C K E S R strict) (at w (doing k l o o')) → (After z W C K E S R strict) w (doing k l o o', scrubbed z W C K E S R k o f t y)
  scrub_kept k l o o' w f t (because why) h = h
  scrub_kept creating l o o' w f t clear h = h
  scrub_kept starting l o o' w f t clear h = h
  scrub_kept (logging wr) l o o' w f t clear h = h
  scrub_kept (storing wr) l o o' w f t clear h = h
  scrub_kept labelling l o o' w f t clear h = h

  shaped_doing : (k : Kind X) (l : List (Action X)) (o o' : Own) (w : World X) (f : Image X) (i : Input X) → Sane w → (Shaped z W C K E S R strict) (at w (doing k l o o')) → (After z W C K E S R strict) w (from_doing z W C K E S R k l o o' f i)
  shaped_doing k l o o' w f create s h = h
  shaped_doing k l o o' w f (start A) s h = h
  shaped_doing k l o o' w f (read_block t i) s h = read_kept k l o o' w f t i (may z W C K E S R true o (read_block t i)) h
  shaped_doing k l o o' w f (write t ch) s h = verdict w (doing k l o o') h (may z W C K E S R true o (write t ch)) (doing k l o o') (λ e. h)
  shaped_doing k l o o' w f (take_out d) s h = verdict w (doing k l o o') h (may z W C K E S R true o (take_out d)) (doing k l o o') (λ e. h)
  shaped_doing k l o o' w f (begin d) s h = verdict w (doing k l o o') h (may z W C K E S R true o (begin d)) (doing k l o o') (λ e. h)
  shaped_doing k l o o' w f (rebuild_on b) s h = verdict w (doing k l o o') h (may z W C K E S R true o (rebuild_on b)) (doing k l o o') (λ e. h)
  shaped_doing k l o o' w f (repair t) s h = verdict w (doing k l o o') h (may_repair z W C K E S R true o f t) (doing k l o o') (λ e. h)
  shaped_doing k l o o' w f (scrub_stripe t) s h = scrub_kept k l o o' w f t (may z W C K E S R true o (scrub_stripe t)) h
  shaped_doing k l o o' w f step s h = shaped_step k l o o' w s h

  pub standing : (w : World X) (m : Memory X) (p : View X) → Invariant z W C K E S R (at w m) p → (Standing z W C K E S R strict) w m
  standing w nothing p h = h.sane
  standing w (idle o) (sure v) h = (h.0, (v, h.1))
  standing w (idle o) (open_write v v') h = absurd h
  standing w (idle o) (kept_write v') h = absurd h
  standing w (doing k l o o') p h = h.sane

  pub shaped_host : (w : World X) (m : Memory X) (i : Input X) → (Standing z W C K E S R strict) w m → (Shaped z W C K E S R strict) (at w m) → (Shaped z W C K E S R strict) (at (effect w (program z W C K E S R m w.cur i).1) (program z W C K E S R m w.cur i).0)
  unfolding program
  shaped_host w nothing i s h = shaped_nothing w i s h
  shaped_host w (idle o) i s h = shaped_idle w o i s.1.0 s.0 s.1.1 h
  shaped_host w (doing k l o o') i s h = shaped_doing k l o o' w (mask z W C K E S R o.absent w.cur) i s h

  shaped_swap : (w w' : World X) (o : Own) (d : ℕ) → o.absent d ≡ true → Swapped C d o.now.generation w w' → Sane w → Always w' (λ f. ShapeBy C strict f d) → Always w ((Current z W C K E S R strict) o) → Always w' ((Current z W C K E S R strict) o)
  unfolding Always Possible Sane
  shaped_swap w w' o d a s sane n h f p =
      ((λ e i. one e i (ℕ_discrete e d)), λ e i x. let y = c.1 e i x in (y.0, y.1, top_same z W C K g f e y.0 (λ b. kept (label e b) (λ q. true≢false (sym a ∙ (ap o.absent (sym q) ∙ x)))) y.2))
    where
      g : Image X
      g k = cond (eqb (slot k) d) (w.cur k) (f k)

      kept : (k : Place) → slot k ≢ d → f k ≡ g k
      kept k q = rw (ne_eqb (slot k) d q)

      possible : (k : Place) → w.may k (g k)
      possible k = go (eqb (slot k) d) refl
        where
          go : (b : Bool) → eqb (slot k) d ≡ b → w.may k (cond b (w.cur k) (f k))
          go true e = sane k
          go false e = s.others k (eqb-false (slot k) d e) (f k) (p k)

      c : (Current z W C K E S R strict) o g
      c = h g possible

      one : (e : ℕ) → e < z.n → Dec (e ≡ d) → ShapeBy C strict f e
      one e i (yes q) = subst (ShapeBy C strict f) (sym q) (n f p)
      one e i (no q) = shape_same C strict g f e (λ b. kept (label e b) q) (c.0 e i)

  shaped_outside : {m m' : Machine X} {e : Event X} (x : Outside z W C K E S R m e m') → (NewShaped z W C K E S R strict) x → (p : View X) → Invariant z W C K E S R m p → (Shaped z W C K E S R strict) m → (Shaped z W C K E S R strict) m'
  unfolding Always
  shaped_outside (power_cut {w = w} {m = m} f q) u p inv h = always_after (ShapesBy C strict) f (shaped_off w m h f q)
  shaped_outside (program_dies {w = w} {m = m}) u p inv h = shaped_off w m h
  shaped_outside (disk_swapped {w = w} {w' = w'} {o = o} d a s) u (sure v) inv h = shaped_swap w w' o d u.0 s inv.0 u.1 h
  shaped_outside (disk_swapped {w = w} {w' = w'} {o = o} d a s) u (open_write v v') inv h = absurd inv
  shaped_outside (disk_swapped {w = w} {w' = w'} {o = o} d a s) u (kept_write v') inv h = absurd inv

  -- EACH EVENT keeps the shape of every disk
  pub shaped : {m m' : Machine X} {e : Event X} (x : Happens z W C K E S R m e m') → (AllShaped z W C K E S R strict) x → (p : View X) → Invariant z W C K E S R m p → (Shaped z W C K E S R strict) m → (Shaped z W C K E S R strict) m'
  shaped (from_outside x) u p inv h = shaped_outside x u p inv h
  shaped (from_host {w = w} {m = m} i) u p inv h = shaped_host w m i (standing w m p inv) h

  -- ANY SEQUENCE OF EVENTS
  pub shaped_always : {m m' : Machine X} {l : List (Event X)} (r : Runs z W C K E S R m l m') → (Tidily z W C K E S R strict) r → (p : View X) → Invariant z W C K E S R m p → (Shaped z W C K E S R strict) m → (Shaped z W C K E S R strict) m'
  shaped_always stays u p inv h = h
  shaped_always (goes x r) u p inv h =
      let a = Promise_laws.simulate z W C K E S R x p inv in
      shaped_always r u.1 a.0 a.2 (shaped x u.0 p inv h)
