-- Start-up as a whole: the rounds, then the log. THE DECISION, and that it is made once.
use Prim.Native.Nat.{ℕ, ◌≤◌, ◌<◌}
use Rattle.std.specs.Prelude.{◌≡◌, refl, cond, ◌&&◌, ◌||◌}
use Rattle.std.proofs.Common.{ap, ◌∙◌, arith}
use Rattle.std.proofs.Math.Bool.{Bool, true, false, or-true}
use Rattle.std.proofs.lemmas.Bool.{false≢true}
use Rattle.std.proofs.Math.Logic.{⊎_elim, inl, inr}
use mathlib.Core.List.{List, [], ◌∷◌}
use Rattle.std.proofs.Math.Dec.{eqb}
use Rattle.protocol.specs.World.{Place, label, log, strip, Image, update, update_other, World, Action, run, after, Sane, Always, During, sane_after, sane_run, always_after, always_map, during_map, during_append, during_end, run_append}
use Rattle.protocol.specs.Batch.{Each, each_batch, each_during, during_both}
use Rattle.protocol.specs.Slots.{of_slots, of_rows}
use Rattle.protocol.specs.Log.{Write, RecordCodec, Belief, Table, Wrote, New, Quiet, within_self, Agrees}
use Rattle.protocol.specs.Write.{both, involved, store, store_batch, stored_sectors, logged_sectors, log_write, log_batch, Mid}
use Rattle.protocol.proofs.Write.{of_involved}
use Rattle.protocol.specs.Redo.{forward, kill, kill_batch, marked, whole, decision, redo, Redone}
use Rattle.protocol.proofs.Redo.{redo_quiet, redo_new, redo_mid}
use Rattle.protocol.specs.Redo as Redo
use Rattle.protocol.specs.Label.{Label, Size, believed, belief, Quorum, LabelCodec, Labels}
use Rattle.protocol.proofs.Label.{believe_is, labels_same}
use Rattle.protocol.specs.Bays.{front, Bays}
use Rattle.protocol.proofs.Bays.{bays_all}
use Rattle.protocol.specs.Startup.{L, M, gone, rounds, Framed, Shelf, Same, same_agrees, same_self, Settles, seen_aged}
use Rattle.protocol.proofs.Startup.{settled_D, settles, rounds_safe, absent_gone, M_positive}
use Rattle.protocol.specs.Decide.{data_place, Touch, Looked, quiet_framed, mid_framed, new_framed, Rest, in_turn, settled, startup, Accepted, Met, w1, B1, Settled}

module _ {X : Type 0} (K : RecordCodec X) (B : Belief) where
  pub strips_each : (t : ℕ) (ch : ℕ → Bool) (v : ℕ → ℕ → X) → Each (Touch B) (Looked B) (store K B t ch v)
  unfolding store_batch Touch
  strips_each t ch v =
      each_batch (Touch B) (Looked B) (store_batch K B t ch v)
      (λ k m. let y = of_rows (λ d j. strip d t j) (stored_sectors K) (involved B t ch) k m in rw y.4 (refl, B.believe_look y.0 t (of_involved B t ch y.0 y.2).0))
      (λ d m. B.believe_look d t (of_involved B t ch d m).0)

  pub log_each : (σ : ℕ) (w : Write X) → Each (Touch B) (Looked B) (log_write K B σ w)
  unfolding log_batch Touch
  log_each σ w =
      each_batch (Touch B) (Looked B) (log_batch K B σ w)
      (λ k m. let y = of_rows log (logged_sectors K) (involved B w.stripe w.changes) k m in rw y.4 (refl, B.believe_look y.0 w.stripe (of_involved B w.stripe w.changes y.0 y.2).0))
      (λ d m. B.believe_look d w.stripe (of_involved B w.stripe w.changes d m).0)

  kill_each : (f0 : Image X) → Each (Touch B) (Looked B) (kill K B f0)
  unfolding kill_batch marked Touch
  kill_each f0 =
      let p : ℕ → Bool = λ d. B.look d && eqb (K.stamp (f0 (log d K.c))) (Redo.key K B f0 (Redo.lead K B f0)) in
      each_batch (Touch B) (Looked B) (kill_batch K B f0)
      (λ k m. let y = of_rows (λ d j. log d K.c) (0 ∷ []) (marked K B f0) k m in rw y.4 (refl, (both (B.look y.0) _ (of_slots p B.n y.0 y.2).1).0))
      (λ d m. (both (B.look d) _ (of_slots p B.n d m).1).0)

  pub redo_each : (f0 : Image X) → Each (Touch B) (Looked B) (redo K B f0)
  unfolding redo forward
  redo_each f0 = go (eqb (Redo.key K B f0 (Redo.lead K B f0)) 0) (whole K B f0)
    where
      go : (a b : Bool) → Each (Touch B) (Looked B) (cond a [] (cond b (forward K B f0) (kill K B f0)))
      go true b = tt
      go false true = strips_each (K.stripe_of (Redo.tail K B f0)) (K.changes_of (Redo.tail K B f0)) (Redo.redone K B f0)
      go false false = kill_each f0

-- puts elsewhere leave the labels alone
pub labels_data : {X : Type 0} (z : Size) (W : Quorum z.n) (C : LabelCodec X z.n) (Q N : Label) (top : ℕ) (far : ℕ → Bool) (f : Image X) (k : Place) (v : X) → data_place k ≡ true → Labels z W C Q N top far f → Labels z W C Q N top far (update f k v)
labels_data z W C Q N top far f k v p o = labels_same z W C Q N top far f (update f k v) (λ d b. update_other f k v (label d b) (λ q. false≢true (ap data_place q ∙ p))) o

module _ {X : Type 0} where
  pub turn_run : (w : World X) (labels logs : List (Action X)) → run w (in_turn labels logs) ≡ run (run w labels) logs
  unfolding in_turn
  turn_run w labels logs = run_append w labels logs

  pub turn_during : (P : Image X → Type 0) (w : World X) (labels logs : List (Action X)) → During w labels P → During (run w labels) logs P → During w (in_turn labels logs) P
  unfolding in_turn
  turn_during P w labels logs a b = during_append P w labels logs a b

pub base_below : {X : Type 0} (z : Size) (W : Quorum z.n) (C : LabelCodec X z.n) (base : Label) (D : Belief → Image X → Type 0) (f : Image X) → (h : Shelf z W C base D f) → base.generation ≤ h.Q.generation
base_below z W C base D f h = ⊎_elim (λ q. omega (arith, ap (λ (l : Label). l.generation) q)) (λ i. omega arith) h.since

module _ {X : Type 0} (z : Size) (W : Quorum z.n) (C : LabelCodec X z.n) (K : RecordCodec X) (history : ℕ → Write X) (absent : ℕ → Bool) (f0 : Image X) (yes_go : Accepted z W C absent f0) where
  pub few_absent : W.few absent ≡ true
  few_absent = W.part absent (λ d. (L z C absent f0).out d || gone z C absent f0 d) (λ d i e. rw (absent_gone z W C absent f0 d i e, or-true)) yes_go.enough

  -- and some label is seen
  pub some_seen : 0 < M z C absent f0
  some_seen = M_positive z W C absent f0 yes_go.labels_there (W.part (gone z C absent f0) (λ d. (L z C absent f0).out d || gone z C absent f0 d) (λ d i e. rw (e, or-true)) yes_go.enough)

  module _ (base : Label) (D : Belief → Image X → Type 0) (fr : Framed D) (P : Image X → Type 0) (h : Met z W C K absent base D P f0) where
    settled_data : (f : Image X) → Same f0 f → D (B1 z W C K history absent f0 yes_go base D fr P h) f
    settled_data =
        settled_D z W C absent f0 h.odd h.last h.Q h.N h.top h.far h.bays h.low yes_go.labels_there yes_go.enough yes_go.fits1 yes_go.fits1' yes_go.fits2 D fr h.under_Q h.under_N

    pub done_settles : Settles z h.odd h.Q h.N h.top (settled z C K absent f0)
    done_settles =
        settles z W C absent f0 h.odd h.last h.Q h.N h.top h.far h.bays h.low yes_go.labels_there yes_go.enough yes_go.fits1 yes_go.fits1' yes_go.fits2

    -- the settled label is newer than all before it
    pub done_above : base.generation < (settled z C K absent f0).generation
    done_above = omega (arith, h.since, done_settles.over_Q)

    settled_kept : (f : Image X) → (Settled z W C K history absent f0 yes_go base D fr P h) f → D (B1 z W C K history absent f0 yes_go base D fr P h) f → P f
    settled_kept = h.later done_settles

    done_rounds : During (after f0) (rounds z C absent f0) P × Always (w1 z W C K history absent f0 yes_go base D fr P h) (λ f. (Settled z W C K history absent f0 yes_go base D fr P h) f × Same f0 f)
    done_rounds =
        rounds_safe z W C absent f0 h.odd h.last h.Q h.N h.top h.far h.bays h.low yes_go.labels_there yes_go.enough yes_go.fits1 yes_go.fits1' yes_go.fits2 P h.before (λ f l s. settled_kept f l (settled_data f s)) (after f0) (sane_after f0)
        (always_after (λ f. Bays z W C h.Q h.N h.top h.far h.odd h.last f × Same f0 f) f0 (h.bays, same_self f0))

    pub done_D : D (B1 z W C K history absent f0 yes_go base D fr P h) f0
    done_D = settled_data f0 (same_self f0)

    w1_sane : Sane (w1 z W C K history absent f0 yes_go base D fr P h)
    w1_sane = sane_run (after f0) (rounds z C absent f0) (sane_after f0)

    w1_agrees : Always (w1 z W C K history absent f0 yes_go base D fr P h) (Agrees (B1 z W C K history absent f0 yes_go base D fr P h) f0)
    w1_agrees = always_map (λ f. (Settled z W C K history absent f0 yes_go base D fr P h) f × Same f0 f) (Agrees (B1 z W C K history absent f0 yes_go base D fr P h) f0) (w1 z W C K history absent f0 yes_go base D fr P h) (λ f o. same_agrees (B1 z W C K history absent f0 yes_go base D fr P h) f0 f o.1) done_rounds.1

    whole_start : (u : ℕ) (s : Table X) → Redone K (B1 z W C K history absent f0 yes_go base D fr P h) history f0 (w1 z W C K history absent f0 yes_go base D fr P h) (D (B1 z W C K history absent f0 yes_go base D fr P h)) (Quiet K (B1 z W C K history absent f0 yes_go base D fr P h) history u s) → During (after f0) (startup z C K absent f0) P × Always (run (after f0) (startup z C K absent f0)) (Rest z W C K history u (settled z C K absent f0) s)
    unfolding startup Redone Touch Always
    whole_start u s r =
        let S = settled z C K absent f0 in
        let acts = redo K (B1 z W C K history absent f0 yes_go base D fr P h) f0 in
        let a : During (w1 z W C K history absent f0 yes_go base D fr P h) acts (Settled z W C K history absent f0 yes_go base D fr P h) = each_during (Touch (B1 z W C K history absent f0 yes_go base D fr P h)) (Looked (B1 z W C K history absent f0 yes_go base D fr P h)) (Settled z W C K history absent f0 yes_go base D fr P h) (λ f k v t o. labels_data z W C S S S.generation S.out f k v t.0 o) (w1 z W C K history absent f0 yes_go base D fr P h) acts w1_sane (always_map (λ f. (Settled z W C K history absent f0 yes_go base D fr P h) f × Same f0 f) (Settled z W C K history absent f0 yes_go base D fr P h) (w1 z W C K history absent f0 yes_go base D fr P h) (λ f o. o.0) done_rounds.1) (redo_each K (B1 z W C K history absent f0 yes_go base D fr P h) f0) in
        let b : During (w1 z W C K history absent f0 yes_go base D fr P h) acts P = during_map (λ f. (Settled z W C K history absent f0 yes_go base D fr P h) f × D (B1 z W C K history absent f0 yes_go base D fr P h) f) P (w1 z W C K history absent f0 yes_go base D fr P h) acts (λ f o. settled_kept f o.0 o.1) (during_both (Settled z W C K history absent f0 yes_go base D fr P h) (D (B1 z W C K history absent f0 yes_go base D fr P h)) (w1 z W C K history absent f0 yes_go base D fr P h) acts a r.0) in (
          turn_during P (after f0) (rounds z C absent f0) acts done_rounds.0 b,
          rw turn_run (λ f p. record { labels = during_end (Settled z W C K history absent f0 yes_go base D fr P h) (w1 z W C K history absent f0 yes_go base D fr P h) acts a f p; quiet = r.1 f p }),
        )

  module _ (base : Label) (u : ℕ) (P : Image X → Type 0) where
    -- ONCE: with nothing undecided, start-up, cut at any moment, leaves the table as it is; and so does every later one
    pub start_quiet : (s : Table X) → Met z W C K absent base (λ B f. Quiet K B history u s f) P f0 → During (after f0) (startup z C K absent f0) P × Always (run (after f0) (startup z C K absent f0)) (Rest z W C K history u (settled z C K absent f0) s)
    start_quiet s h =
        let D : Belief → Image X → Type 0 = λ B f. Quiet K B history u s f in
        let fr = quiet_framed K history u s in
        whole_start base D fr P h u s (redo_quiet K (belief z (settled z C K absent f0)) history f0 u s ((w1 z W C K history absent f0 yes_go) base D fr P h) (w1_sane base D fr P h) (w1_agrees base D fr P h) (done_D base D fr P h))

    module _ (pos : 0 < u) (in_t : (history u).stripe < z.T) (broad : (a : ℕ → Bool) → W.few a ≡ true → (d : ℕ) × (d < z.n) × (a d ≡ false) × ((history u).changes d ≡ true)) where
      -- a believed slot that the write changes
      hit : (d : ℕ) × (believed z (settled z C K absent f0) d (history u).stripe ≡ true) × ((history u).changes d ≡ true)
      hit = let y = broad (settled z C K absent f0).out yes_go.enough in (y.0, believe_is z (settled z C K absent f0) y.0 (history u).stripe y.1 in_t (inl y.2), y.3)

      -- THE DECISION: a write was under way. Cut at any moment of start-up: it is still open. When start-up answers: the old table or the new one, for good (by start-quiet)
      pub start_mid : (s s' : Table X) → Wrote z.n K.c (history u) s s' → Met z W C K absent base (λ B f. Mid K B history u s s' f) P f0 → During (after f0) (startup z C K absent f0) P × Always (run (after f0) (startup z C K absent f0)) (Rest z W C K history u (settled z C K absent f0) (cond (decision K (belief z (settled z C K absent f0)) f0 u) s' s))
      unfolding belief
      start_mid s s' wr h =
          let D : Belief → Image X → Type 0 = λ B f. Mid K B history u s s' f in
          let fr = mid_framed K history u s s' in
          let B = belief z (settled z C K absent f0) in
          whole_start base D fr P h u (cond (decision K B f0 u) s' s) (redo_mid K B history f0 u s s' pos wr hit.0 hit.1 hit.2 ((w1 z W C K history absent f0 yes_go) base D fr P h) (w1_sane base D fr P h) (w1_agrees base D fr P h) (done_D base D fr P h))

      -- the write was safe in the log: it will be there
      pub start_new : (s' : Table X) → Met z W C K absent base (λ B f. New K B history u s' f) P f0 → During (after f0) (startup z C K absent f0) P × Always (run (after f0) (startup z C K absent f0)) (Rest z W C K history u (settled z C K absent f0) s')
      unfolding belief
      start_new s' h =
          let D : Belief → Image X → Type 0 = λ B f. New K B history u s' f in
          let fr = new_framed K history u s' in
          whole_start base D fr P h u s' (redo_new K (belief z (settled z C K absent f0)) history f0 u s' pos hit.0 hit.1 hit.2 ((w1 z W C K history absent f0 yes_go) base D fr P h) (w1_sane base D fr P h) (w1_agrees base D fr P h) (done_D base D fr P h))

  -- EVERY SLOT HAS ITS LAST DISK: then start-up needs nothing more of the world; that it is not refused leaves a slot that is present and not out
  pub meets_shelf : (base : Label) (D : Belief → Image X → Type 0) → Framed D → Shelf z W C base D f0 → Met z W C K absent base D (Shelf z W C base D) f0
  unfolding front Framed
  meets_shelf base D fr h =
      let a = W.meet absent h.Q.out few_absent h.labels.few_Q in
      let same : (B : Belief) → D B f0 → (f : Image X) → Same f0 f → D B f = λ B o f s. fr B B (within_self B) f0 f (same_agrees B f0 f s) o in
      let below = base_below z W C base D f0 h in
      record {
        odd = λ d. false;
        last = f0;
        Q = h.Q;
        N = h.N;
        top = h.top;
        far = h.far;
        since = below;
        bays = bays_all z W C h.Q h.N h.top h.far f0 f0 h.labels;
        under_Q = h.under_Q;
        under_N = h.under_N;
        low = seen_aged z W C absent f0 a.0 h.Q.generation a.1 a.2 (h.labels.low a.0 a.1 a.3);
        before = λ t fr f i o s. record { Q = h.Q; since = h.since; N = h.N; top = t; far = fr; labels = o.lasts; under_Q = same (belief z h.Q) h.under_Q f s; under_N = same (belief z h.N) h.under_N f s };
        later = λ a f l o. record { Q = settled z C K absent f0; since = inr (omega (arith, below, a.over_Q)); N = settled z C K absent f0; top = (settled z C K absent f0).generation; far = (settled z C K absent f0).out; labels = l; under_Q = o; under_N = o };
      }
