-- A REPAIR IS CUT. While its log is written the strip is as it was found. Once the log is flushed, whatever a cut leaves, the next start-up that takes the slot in
-- has stored the mended strip when it answers: so the strip is as found or repaired, and never a mixture that stays. Assumes nothing.
use Prim.Native.Nat.{ℕ, suc, ◌<◌}
use Rattle.std.specs.Prelude.{◌≡◌, Bool, ◌≢◌, eqb}
use Rattle.std.proofs.Math.Path.{refl, sym, ap, subst, fun_ext}
use Rattle.std.proofs.Common.{◌∙◌}
use Rattle.std.proofs.Math.Bool.{true, false}
use Rattle.std.proofs.lemmas.Bool.{false≢true}
use Rattle.std.proofs.Math.Logic.{inl}
use mathlib.Core.List.{List, ◌++◌}
use borrow.Author.Tests.{eq-eqb, eqb-true}
use Rattle.protocol.proofs.Told.{rounds_told, turn_told}
use Rattle.protocol.specs.World.{Place, log, strip, slot, Image, update_other, World, Action, run, after, Sane, Always, During, sane_after, sane_run, always_map, during_map, run_append}
use Rattle.protocol.specs.Batch.{flushes, Kept, Covered, Done, stage}
use Rattle.protocol.specs.Slots.{in_rows, of_rows, rows_slots}
use Rattle.protocol.specs.Log.{Write, RecordCodec, Belief, Table, Complete, Quiet}
use Rattle.protocol.specs.Write.{involved, log_write, log_batch, logged_sectors, store, store_batch, stored_sectors}
use Rattle.protocol.proofs.Write.{in_involved, logged_in}
use Rattle.protocol.specs.Redo.{whole, complete_b, redone, forward, marked, kill_batch, redo}
use Rattle.protocol.proofs.Redo.{forward_is, whole_is, redo_forward}
use Rattle.protocol.specs.Label.{Label, copy, prep_batch, Size, believed, belief, Quorum, LabelCodec}
use Rattle.protocol.proofs.Label.{believe_is}
use Rattle.protocol.specs.Startup.{Shelf, gone, level_to, again_to, last_to, rounds}
use Rattle.protocol.specs.Host.{Host, accused, Code, table, repair_of}
use Rattle.protocol.specs.Program.{Stamps, Medium, clear, Own, idle, beyond, mask, left_out, flushed_first, may_start, finding}
use Rattle.protocol.specs.Machine.{sure}
use Rattle.protocol.proofs.Promise.{mask_present, accept_f, same_label_lem, alike}
use Rattle.protocol.specs.Veil.{Rot, Agree, veiled_run}
use Rattle.protocol.specs.Rot.{bones, same_bones, Rotten, Mending, stores_of, wr}
use Rattle.protocol.proofs.Rot.{mask_same, wr_fits, mends_now, in_shelf}
use Rattle.protocol.specs.Decide.{in_turn, settled, startup, quiet_framed, Rest}
use Rattle.protocol.proofs.Decide.{turn_run, meets_shelf, done_D}
use Rattle.protocol.specs.Refresh.{Stored}
use Rattle.protocol.proofs.Refresh.{store_done}
use Rattle.protocol.specs.Repaired.{Recorded, stamped, found_key, redone_right, during_veiled, during_after, Repairs, repairing, d, its_log, its_strips}

log_not_strip : (d j e t i : ℕ) → strip e t i ≢ log d j
log_not_strip d j e t i p = let z : ◌≡◌ {A = ℕ} 0 1 = cc in false≢true (ap (eqb 0) (sym z))

module _ {X : Type 0} (K : RecordCodec X) where
  -- AS FOUND: while a log is written no strip changes. G: what is known of the strip
  pub as_found : (B : Belief) (σ : ℕ) (wr : Write X) (d t : ℕ) (G : (ℕ → X) → Type 0) (w : World X) → Sane w → Always w (λ f. G (λ j. f (strip d t j))) → During w (log_write K B σ wr) (λ f. G (λ j. f (strip d t j)))
  unfolding log_batch Kept Covered Done
  as_found B σ wr d t G w sane h =
      let P : Image X → Type 0 = λ f. G (λ j. f (strip d t j)) in
      let ds = involved B wr.stripe wr.changes in
      (stage P P w (log_batch K B σ wr) sane h
      (λ k m f o. let y = of_rows log (logged_sectors K) ds k m in rw y.4 (subst G (sym (fun_ext (λ j. update_other f (log y.0 y.1) (K.sector σ wr y.0 y.1) (strip d t j) (log_not_strip y.0 y.1 d t j)))) o))
      (rows_slots log (logged_sectors K) ds (λ e j. refl))
      (λ f o done. o)
      ).0

  -- the log is flushed
  pub recorded : (B : Belief) (σ : ℕ) (wr : Write X) (d : ℕ) → B.believe d wr.stripe ≡ true → wr.changes d ≡ true → (w : World X) → Sane w → Always (run w (log_write K B σ wr)) ((Recorded K) σ wr d)
  unfolding log_batch Kept Covered Done Always
  recorded B σ wr d a b w sane =
      let ds = involved B wr.stripe wr.changes in
      (stage (λ (f : Image X). Unit {0}) ((Recorded K) σ wr d) w (log_batch K B σ wr) sane (λ f p. tt) (λ k m f o. tt)
      (rows_slots log (logged_sectors K) ds (λ e j. refl))
      (λ f o done j i. done (log d j) (in_rows log (logged_sectors K) ds d j (in_involved B wr.stripe wr.changes d a b) (logged_in K j i)))
      ).1

  -- strips leave it alone
  pub recorded_on : (B : Belief) (σ : ℕ) (wr : Write X) (d t : ℕ) (ch : ℕ → Bool) (v : ℕ → ℕ → X) (w : World X) → Sane w → Always w ((Recorded K) σ wr d) → During w (store K B t ch v) ((Recorded K) σ wr d)
  unfolding store_batch Kept Covered Done
  recorded_on B σ wr d t ch v w sane h =
      let place : ℕ → ℕ → Place = λ e j. strip e t j in
      (stage ((Recorded K) σ wr d) ((Recorded K) σ wr d) w (store_batch K B t ch v) sane h
      (λ k m f o. let y = of_rows place (stored_sectors K) (involved B t ch) k m in rw y.4 (λ j i. update_other f (strip y.0 t y.1) (v y.0 y.1) (log d j) (λ q. log_not_strip d j y.0 t y.1 (sym q)) ∙ o j i))
      (rows_slots place (stored_sectors K) (involved B t ch) (λ e j. refl))
      (λ f o done. o)
      ).0

  -- START-UP FINDS IT, with the greatest stamp and whole: it goes forward
  module _ (B : Belief) (history : ℕ → Write X) (κ : ℕ) (s : Table X) (f : Image X) (q : Quiet K B history (suc κ) s f) (d : ℕ) (only : (e : ℕ) → (history (suc κ)).changes e ≡ true → e ≡ d) (bel : B.believe d (history (suc κ)).stripe ≡ true) (ch : (history (suc κ)).changes d ≡ true) (fits : K.Fits (suc κ) (history (suc κ))) (rec : (Recorded K) (suc κ) (history (suc κ)) d f) where
    pub redo_repairs : redo K B f ≡ store K B (history (suc κ)).stripe (history (suc κ)).changes (redone K B f)
    unfolding Quiet Complete
    redo_repairs =
        let w : whole K B f ≡ true = whole_is K B history f (suc κ) q.logs κ (found_key K B history κ s f q d only bel ch fits rec) (λ e a b j i. let y : e ≡ d = only e b in ap (λ (x : ℕ). K.stamp (f (log x j))) y ∙ (stamped K B history κ s f q d only bel ch fits rec) j i) in
        redo_forward K B history f κ (found_key K B history κ s f q d only bel ch fits rec) w ∙ forward_is K B history f (suc κ) q.logs κ (found_key K B history κ s f q d only bel ch fits rec)

module _ {X : Type 0} (z : Size) (W : Quorum z.n) (C : LabelCodec X z.n) (K : RecordCodec X) (E : Code X z.n K.c W) (S : Stamps) (R : Medium z W C K E S) where
  -- start-up looks at labels and log sectors alone
  may_bones : (A : ℕ → Bool) (f : Image X) → may_start z W C K E S R A f ≡ may_start z W C K E S R A (bones z W C K E S R f)
  unfolding copy gone left_out
  may_bones A f = refl

  settled_bones : (A : ℕ → Bool) (f : Image X) → settled z C K A f ≡ settled z C K A (bones z W C K E S R f)
  unfolding copy gone
  settled_bones A f = refl

  startup_bones : (A : ℕ → Bool) (f : Image X) → startup z C K A f ≡ startup z C K A (bones z W C K E S R f)
  unfolding copy gone startup in_turn rounds level_to again_to last_to prep_batch redo whole complete_b forward marked kill_batch store_batch
  startup_bones A f =
      let told1 = rounds_told in
      let told2 = turn_told in
      refl

  module _ (rot : Rot) (w : World X) (o : Own) (v : Host X) (h : Rotten z W C K E S R rot w (idle o) (sure v)) (none : (d : ℕ) → d < z.n → o.now.out d ≡ false) (t : ℕ) (in_t : t < z.T) (r : ℕ) (acc : finding z W C K E S R (mask z W C K E S R o.absent w.cur) t ≡ accused r) (room : suc o.count < S.base (suc o.epoch)) where
    m : Mending z W C K E S R v (repairing z W C K E S R rot w o v h none t in_t r acc room) h.clean (log_write K (belief z o.now) (suc o.count) (repairing z W C K E S R rot w o v h none t in_t r acc room) ++ stores_of z W C K E S R o (repairing z W C K E S R rot w o v h none t in_t r acc room)) o (record { now = o.now; absent = o.absent; epoch = o.epoch; count = suc o.count })
    m = mends_now z W C K E S R rot w o v h none t in_t r acc room

    is_d : (e : ℕ) → (repairing z W C K E S R rot w o v h none t in_t r acc room).changes e ≡ true → e ≡ (d z W C K E S R rot w o v h none t in_t r acc room)
    unfolding repair_of
    is_d e q = eqb-true e (E.lies t r) q

    d_changes : (repairing z W C K E S R rot w o v h none t in_t r acc room).changes (d z W C K E S R rot w o v h none t in_t r acc room) ≡ true
    unfolding repair_of
    d_changes = eq-eqb (E.lies t r) (E.lies t r) refl

    its_stripe : (repairing z W C K E S R rot w o v h none t in_t r acc room).stripe ≡ t
    unfolding repair_of
    its_stripe = refl

    history_now : m.history (suc o.count) ≡ (repairing z W C K E S R rot w o v h none t in_t r acc room)
    history_now = subst (λ (x : ℕ). m.history x ≡ (repairing z W C K E S R rot w o v h none t in_t r acc room)) m.stamped m.last

    its_new : (j : ℕ) → j < K.c → (repairing z W C K E S R rot w o v h none t in_t r acc room).new (d z W C K E S R rot w o v h none t in_t r acc room) j ≡ E.shard t (v t) (d z W C K E S R rot w o v h none t in_t r acc room) j
    unfolding table repair_of
    its_new j i = m.right (d z W C K E S R rot w o v h none t in_t r acc room) j d_changes i

    startup_runs : (A' : ℕ → Bool) (g : Image X) (x : World X) → run x (startup z C K A' g) ≡ run (run x (rounds z C A' g)) (redo K (belief z (settled z C K A' g)) g)
    unfolding startup
    startup_runs A' g x = turn_run x (rounds z C A' g) (redo K (belief z (settled z C K A' g)) g)

    abbrev D : Belief → Image X → Type 0
    D B f = Quiet K B m.history (suc o.count) (table z W K E v) f

    -- from what a cut leaves of the disks and of the clean ones
    start_repairs : (f g : Image X) → Recorded K (suc o.count) (repairing z W C K E S R rot w o v h none t in_t r acc room) (d z W C K E S R rot w o v h none t in_t r acc room) f → Agree K.c rot f g → Rest z W C K m.history (suc o.count) o.now (table z W K E v) g → (Repairs z W C K E S R) v (d z W C K E S R rot w o v h none t in_t r acc room) t f
    unfolding belief
    start_repairs f g rec same rest A ok bel =
        let A' = beyond z.n A in
        let seen = mask z W C K E S R A' f in
        let seen_g = mask z W C K E S R A' g in
        let bs = same_bones z W C K E S R rot seen seen_g (mask_same z W C K E S R rot f g same A') in
        let ok_g : may_start z W C K E S R A' seen_g ≡ clear = may_bones A' seen_g ∙ (ap (may_start z W C K E S R A') (sym bs) ∙ (sym (may_bones A' seen) ∙ ok)) in
        let agree : (k : Place) → A' (slot k) ≡ false → seen_g k ≡ g k = λ k a. mask_present z W C K E S R A' g k a in
        let there = accept_f z W C K E S R A' seen_g ok_g g agree in
        let fr = quiet_framed K m.history (suc o.count) (table z W K E v) in
        let shelf : Shelf z W C o.now D g = record { Q = o.now; since = inl refl; N = o.now; top = o.now.generation; far = o.now.out; labels = rest.labels; under_Q = rest.quiet; under_N = rest.quiet } in
        let met = meets_shelf z W C K m.history A' g there o.now D fr shelf in
        let N = settled z C K A' g in
        let quiet : D (belief z N) g = done_D z W C K m.history A' g there o.now D fr (Shelf z W C o.now D) met in
        let label_same : settled z C K A' seen ≡ N = settled_bones A' seen ∙ (ap (settled z C K A') bs ∙ (sym (settled_bones A' seen_g) ∙ sym (same_label_lem z W C K E S R A' seen_g ok_g g agree))) in
        let bel_N : believed z N (d z W C K E S R rot w o v h none t in_t r acc room) t ≡ true = subst (λ (l : Label). believed z l (d z W C K E S R rot w o v h none t in_t r acc room) t ≡ true) label_same bel in
        let hist = m.history (suc o.count) in
        let bel_h : believed z N (d z W C K E S R rot w o v h none t in_t r acc room) hist.stripe ≡ true = subst (λ (x : ℕ). believed z N (d z W C K E S R rot w o v h none t in_t r acc room) x ≡ true) (sym (ap (λ (y : Write X). y.stripe) history_now ∙ its_stripe)) bel_N in
        let only : (e : ℕ) → hist.changes e ≡ true → e ≡ (d z W C K E S R rot w o v h none t in_t r acc room) = λ e q. is_d e (ap (λ (y : Write X). y.changes e) (sym history_now) ∙ q) in
        let ch : hist.changes (d z W C K E S R rot w o v h none t in_t r acc room) ≡ true = ap (λ (y : Write X). y.changes (d z W C K E S R rot w o v h none t in_t r acc room)) history_now ∙ d_changes in
        let fits : K.Fits (suc o.count) hist = subst (K.Fits (suc o.count)) (sym history_now) (wr_fits z W C K E S R rot w o v h none t in_t r acc room) in
        let rec_g : Recorded K (suc o.count) hist (d z W C K E S R rot w o v h none t in_t r acc room) g = λ j i. sym (same (log (d z W C K E S R rot w o v h none t in_t r acc room) j) refl) ∙ (rec j i ∙ ap (λ (y : Write X). K.sector (suc o.count) y (d z W C K E S R rot w o v h none t in_t r acc room) j) (sym history_now)) in
        let redo_is = redo_repairs K (belief z N) m.history o.count (table z W K E v) g quiet (d z W C K E S R rot w o v h none t in_t r acc room) only bel_h ch fits rec_g in
        let redone_is = redone_right K (belief z N) m.history o.count (table z W K E v) g quiet (d z W C K E S R rot w o v h none t in_t r acc room) only bel_h ch fits rec_g in
        let list_same : startup z C K A' seen ≡ startup z C K A' g = startup_bones A' seen ∙ (ap (startup z C K A') bs ∙ (sym (startup_bones A' seen_g) ∙ sym (alike z W C K E S R A' seen_g ok_g g agree))) in
        let fl : List (Action X) = flushes (flushed_first z W C K E S R A') in
        let w0 = run (after f) fl in
        let w2 = run w0 (rounds z C A' g) in
        let s2 = sane_run w0 (rounds z C A' g) (sane_run (after f) fl (sane_after f)) in
        let P : Image X → Type 0 = λ x. (j : ℕ) → j < K.c → x (strip (d z W C K E S R rot w o v h none t in_t r acc room) t j) ≡ E.shard t (v t) (d z W C K E S R rot w o v h none t in_t r acc room) j in
        let a : Always (run w2 (redo K (belief z N) g)) P =
        subst (λ (l : List (Action X)). Always (run w2 l) P) (sym redo_is)
        (always_map (Stored K (belief z N) hist.stripe hist.changes (redone K (belief z N) g)) P (run w2 (store K (belief z N) hist.stripe hist.changes (redone K (belief z N) g)))
        (λ x q j i. subst (λ (y : ℕ). x (strip (d z W C K E S R rot w o v h none t in_t r acc room) y j) ≡ redone K (belief z N) g (d z W C K E S R rot w o v h none t in_t r acc room) j) (ap (λ (y : Write X). y.stripe) history_now ∙ its_stripe) (q (d z W C K E S R rot w o v h none t in_t r acc room) j bel_h ch i) ∙ (redone_is j i ∙ (ap (λ (y : Write X). y.new (d z W C K E S R rot w o v h none t in_t r acc room) j) history_now ∙ its_new j i)))
        (store_done K (belief z N) hist.stripe hist.changes (redone K (belief z N) g) w2 s2)) in
        subst (λ (l : List (Action X)). Always (run (after f) (fl ++ l)) P) (sym list_same)
        (subst (λ (x : World X). Always x P) (sym (run_append (after f) fl (startup z C K A' g) ∙ startup_runs A' g w0)) a)

    d_believed : (belief z o.now).believe (d z W C K E S R rot w o v h none t in_t r acc room) (repairing z W C K E S R rot w o v h none t in_t r acc room).stripe ≡ true
    unfolding belief
    d_believed =
        let i = in_shelf z W C K E S R rot w o v h none t in_t r acc in
        subst (λ (x : ℕ). believed z o.now (d z W C K E S R rot w o v h none t in_t r acc room) x ≡ true) (sym its_stripe) (believe_is z o.now (d z W C K E S R rot w o v h none t in_t r acc room) t i in_t (inl (none (d z W C K E S R rot w o v h none t in_t r acc room) i)))

    -- CUT WHILE THE LOG IS WRITTEN: as found (G: what was known of the strip)
    pub repair_found : (G : (ℕ → X) → Type 0) → Always w (λ f. G (λ j. f (strip (d z W C K E S R rot w o v h none t in_t r acc room) t j))) → During w (its_log z W C K E S R rot w o v h none t in_t r acc room) (λ f. G (λ j. f (strip (d z W C K E S R rot w o v h none t in_t r acc room) t j)))
    repair_found G h0 = as_found K (belief z o.now) (suc o.count) (repairing z W C K E S R rot w o v h none t in_t r acc room) (d z W C K E S R rot w o v h none t in_t r acc room) t G w h.veil.sane h0

    -- CUT WHILE THE STRIP IS STORED: repaired, by the next start-up that takes the slot in
    pub repair_kept : During (run w (its_log z W C K E S R rot w o v h none t in_t r acc room)) (its_strips z W C K E S R rot w o v h none t in_t r acc room) ((Repairs z W C K E S R) v (d z W C K E S R rot w o v h none t in_t r acc room) t)
    repair_kept =
        let c = h.clean in
        let B = belief z o.now in
        let w1 = run w (its_log z W C K E S R rot w o v h none t in_t r acc room) in
        let c1 = run c (its_log z W C K E S R rot w o v h none t in_t r acc room) in
        let Rec : Image X → Type 0 = Recorded K (suc o.count) (repairing z W C K E S R rot w o v h none t in_t r acc room) (d z W C K E S R rot w o v h none t in_t r acc room) in
        let Re : Image X → Type 0 = Rest z W C K m.history (suc o.count) o.now (table z W K E v) in
        let s1 = sane_run w (its_log z W C K E S R rot w o v h none t in_t r acc room) h.veil.sane in
        let a : During w1 (its_strips z W C K E S R rot w o v h none t in_t r acc room) Rec = recorded_on K B (suc o.count) (repairing z W C K E S R rot w o v h none t in_t r acc room) (d z W C K E S R rot w o v h none t in_t r acc room) (repairing z W C K E S R rot w o v h none t in_t r acc room).stripe (repairing z W C K E S R rot w o v h none t in_t r acc room).changes (repairing z W C K E S R rot w o v h none t in_t r acc room).new w1 s1 (recorded K B (suc o.count) (repairing z W C K E S R rot w o v h none t in_t r acc room) (d z W C K E S R rot w o v h none t in_t r acc room) d_believed d_changes w h.veil.sane) in
        let b : During c1 (its_strips z W C K E S R rot w o v h none t in_t r acc room) Re = during_after Re c (its_log z W C K E S R rot w o v h none t in_t r acc room) (its_strips z W C K E S R rot w o v h none t in_t r acc room) (subst (λ (u : ℕ). During c ((its_log z W C K E S R rot w o v h none t in_t r acc room) ++ (its_strips z W C K E S R rot w o v h none t in_t r acc room)) (Rest z W C K m.history u o.now (table z W K E v))) m.stamped m.during) in
        during_map (λ f. Rec f × ((g : Image X) × Agree K.c rot f g × Re g)) ((Repairs z W C K E S R) v (d z W C K E S R rot w o v h none t in_t r acc room) t) w1 (its_strips z W C K E S R rot w o v h none t in_t r acc room) (λ f x. start_repairs f x.1.0 x.0 x.1.1 x.1.2)
        (during_veiled K.c rot Rec Re w1 c1 (its_strips z W C K E S R rot w o v h none t in_t r acc room) (veiled_run K.c rot w c (its_log z W C K E S R rot w o v h none t in_t r acc room) h.veil) (sane_run c (its_log z W C K E S R rot w o v h none t in_t r acc room) m.sane) a b)

    -- CARRIED OUT: the strip is the list's, whatever a cut leaves then
    pub repair_done : Always (run (run w (its_log z W C K E S R rot w o v h none t in_t r acc room)) (its_strips z W C K E S R rot w o v h none t in_t r acc room)) (λ f. (j : ℕ) → j < K.c → f (strip (d z W C K E S R rot w o v h none t in_t r acc room) t j) ≡ E.shard t (v t) (d z W C K E S R rot w o v h none t in_t r acc room) j)
    repair_done =
        let B = belief z o.now in
        let w1 = run w (its_log z W C K E S R rot w o v h none t in_t r acc room) in
        always_map (Stored K B (repairing z W C K E S R rot w o v h none t in_t r acc room).stripe (repairing z W C K E S R rot w o v h none t in_t r acc room).changes (repairing z W C K E S R rot w o v h none t in_t r acc room).new) (λ f. (j : ℕ) → j < K.c → f (strip (d z W C K E S R rot w o v h none t in_t r acc room) t j) ≡ E.shard t (v t) (d z W C K E S R rot w o v h none t in_t r acc room) j) (run w1 (its_strips z W C K E S R rot w o v h none t in_t r acc room))
        (λ f q j i. subst (λ (y : ℕ). f (strip (d z W C K E S R rot w o v h none t in_t r acc room) y j) ≡ (repairing z W C K E S R rot w o v h none t in_t r acc room).new (d z W C K E S R rot w o v h none t in_t r acc room) j) its_stripe (q (d z W C K E S R rot w o v h none t in_t r acc room) j d_believed d_changes i) ∙ its_new j i)
        (store_done K B (repairing z W C K E S R rot w o v h none t in_t r acc room).stripe (repairing z W C K E S R rot w o v h none t in_t r acc room).changes (repairing z W C K E S R rot w o v h none t in_t r acc room).new w1 (sane_run w (its_log z W C K E S R rot w o v h none t in_t r acc room) h.veil.sane))
