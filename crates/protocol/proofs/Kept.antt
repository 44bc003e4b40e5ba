-- WHAT FOLLOWS from the promise: the whole history of a shelf from zeros on; what every sector holds; what labels may say; which slots are touched.
use Prim.Native.Nat.{ℕ, zero, suc, ◌≤◌, ◌<◌}
use Rattle.std.specs.Prelude.{◌≡◌, Bool, false, cond, ◌⊎◌, List, [], ◌∷◌, ◌++◌}
use Rattle.std.proofs.Math.Path.{refl, sym, ap}
use Rattle.std.proofs.Common.{ap₂, subst, ◌∙◌, arith, ne_eqb}
use Rattle.std.proofs.Math.Bool.{true, not}
use Rattle.std.proofs.lemmas.Bool.{false≢true}
use Rattle.std.proofs.Math.Logic.{⊎_elim, inl, inr}
use Rattle.std.proofs.Math.Decide.{ℕ_discrete}
use Rattle.protocol.proofs.Told.{turn_told}
use Rattle.protocol.specs.World.{log, strip, Image, World, Action, put, flush, Sane, Always, During, always_map, during_start}
use Rattle.protocol.specs.Batch.{Each, each_append, each_batch}
use Rattle.protocol.specs.Slots.{keep, of_rows, every_all}
use Rattle.protocol.specs.Log.{Write, RecordCodec, Belief, Wrote, Complete, Old, New, Quiet, Agrees}
use Rattle.protocol.specs.Write.{Mid, involved}
use Rattle.protocol.proofs.Write.{of_involved}
use Rattle.protocol.specs.Redo.{key, lead, tail, complete_b, whole, forward, kill, redo, key_top, key_seen}
use Rattle.protocol.proofs.Redo.{complete_b_is}
use Rattle.protocol.specs.Label.{Label, again, Size, believed, belief, Quorum, LabelCodec, copy, there, round, round_batch, prep, prepared, prep_batch}
use Rattle.protocol.proofs.Label.{of_prep}
use Rattle.protocol.specs.Startup.{Framed, L, M, late, level_to, again_to, last_to, rounds}
use Rattle.protocol.specs.Decide.{in_turn, settled, startup, Rest}
use Rattle.protocol.specs.Spare.{Spares}
use Rattle.protocol.specs.Host.{Host, Code, table}
use Rattle.protocol.specs.Program.{Stamps, Medium, Verdict, clear, because, Own, Kind, creating, starting, logging, storing, labelling, Memory, nothing, idle, doing, Input, create, start, read_block, write, take_out, begin, rebuild_on, scrub_stripe, repair, step, Reply, accepted, did, block, found, scrubbed, beyond, mask, unseen, asked_start, may_start, may, may_repair, may_create, answer, one_step, meanwhile, choose, program}
use Rattle.protocol.specs.Machine.{Machine, at, Event, Runs, View, sure, open_write, kept_write, Views}
use Rattle.protocol.specs.Invariant.{Ghost, Under, Left, Pends, Off, Busy, Invariant}
use Rattle.protocol.specs.Promise.{Zeros}
use Rattle.protocol.proofs.Promise.{zeros_off, under_framed, promise}
use Rattle.protocol.specs.Kept.{slot_of, is_label, Wanted, Logged, Carried, InLog, StripTrue, Between, Truthful, Honest, FromRest, OwnTrue, is_did, did_slot, away, Sparing, Labelled, Any}

module _ {X : Type 0} (z : Size) (W : Quorum z.n) (C : LabelCodec X z.n) (K : RecordCodec X) (E : Code X z.n K.c W) (S : Stamps) (R : Medium z W C K E S) where
  -- FROM ZEROS ON. A shelf begins with disks of zeros and no program; whatever happens then, in any order and as often as it likes (create, start-ups,
  -- requests, reads, steps, cuts, deaths, swapped disks), the host's view goes on as it is allowed to, beginning with the list of zeros.
  pub promised : (w : World X) → Sane w → W.few (λ d. false) ≡ true → Always w (Zeros z W C K E S R) → {m : Machine X} {l : List (Event X)} → Runs z W C K E S R (at w nothing) l m → (p : View X) × Views K.c (sure (λ t i j. K.zeros)) l p × Invariant z W C K E S R m p
  promised w sane few h r = promise z W C K E S R r (sure (λ t i j. K.zeros)) (zeros_off z W C K E S R w sane few h)

  -- READY: each believed sector is what the list wants there, whatever a cut leaves, and it stays so when another slot is lost
  pub sound : (v : Host X) (w : World X) (o : Own) → Invariant z W C K E S R (at w (idle o)) (sure v) → Always w (λ f. (d t j : ℕ) → believed z o.now d t ≡ true → j < K.c → f (strip d t j) ≡ table z W K E v t d j)
  unfolding Quiet belief
  sound v w o h = always_map (Rest z W C K h.1.history h.1.u o.now (table z W K E v)) (λ f. (d t j : ℕ) → believed z o.now d t ≡ true → j < K.c → f (strip d t j) ≡ table z W K E v t d j) w (λ f r. r.quiet.strips) h.1.rest

  -- then what start-up does with the log under l is to write strips from it: of that stripe, in those slots
  pub carried_forward : (l : Label) (x : Write X) (u : ℕ) (f : Image X) → (Carried z W C K E S R) l x u f → (d : ℕ) → believed z l d x.stripe ≡ true → x.changes d ≡ true
      → (redo K (belief z l) f ≡ forward K (belief z l) f) × (K.stripe_of (tail K (belief z l) f) ≡ x.stripe) × ((a : ℕ) → K.changes_of (tail K (belief z l) f) a ≡ x.changes a)
  unfolding belief Complete redo whole
  carried_forward l x u f h d a c = by (key K B f (lead K B f)) refl
    where
      B : Belief
      B = belief z l

      least : u ≤ key K B f (lead K B f)
      least = omega (arith, h.full d a c K.c (omega arith), key_top K B (λ y. x) f d (B.believe_look d x.stripe a))

      by : (κ : ℕ) → key K B f (lead K B f) ≡ κ → (redo K B f ≡ forward K B f) × (K.stripe_of (tail K B f) ≡ x.stripe) × ((a : ℕ) → K.changes_of (tail K B f) a ≡ x.changes a)
      by zero e = absurd (omega (arith, h.some, least, e))
      by (suc κ) e =
          let y = key_seen K B (λ y. x) f (lead K B f) κ e in
          let top : suc κ ≡ u = omega (arith, least, e, y.1, h.last (lead K B f) K.c y.0 (omega arith)) in
          let r = h.told (lead K B f) y.0 (y.1 ∙ top) in
          let t : (K.stripe_of (tail K B f) ≡ x.stripe) × ((i : ℕ) → K.changes_of (tail K B f) i ≡ x.changes i) =
          (ap K.stripe_of r.0 ∙ K.stripe_tail u x (lead K B f) r.2, λ i. ap (λ (y : X). K.changes_of y i) r.0 ∙ K.changes_tail u x (lead K B f) i r.2) in
          let all : whole K B f ≡ true =
          every_all (complete_b K B f (key K B f (lead K B f))) (involved B (K.stripe_of (tail K B f)) (K.changes_of (tail K B f)))
          (λ i m.
          let n = of_involved B (K.stripe_of (tail K B f)) (K.changes_of (tail K B f)) i m in
          complete_b_is K B (λ y. x) f (key K B f (lead K B f)) i (subst (Complete K f i) (sym (e ∙ top)) (h.full i (subst (λ (s : ℕ). believed z l i s ≡ true) t.0 n.0) (sym (t.1 i) ∙ n.1)))) in
          (ap₂ (λ (n b : Bool). cond n [] (cond b (forward K B f) (kill K B f))) (ne_eqb (key K B f (lead K B f)) 0 (λ q. omega (arith, q, e))) all, t.0, t.1)

  -- what is known of a write that will survive, under a label
  new_carried : (l : Label) (history : ℕ → Write X) (u : ℕ) (v' : Host X) → 0 < u → u < S.base (suc l.generation) → (f : Image X) → New K (belief z l) history u (table z W K E v') f → (Carried z W C K E S R) l (history u) u f
  unfolding belief
  new_carried l history zero v' pos early f n = absurd (omega arith)
  new_carried l history (suc τ) v' pos early f n =
      record {
        some = pos;
        full = n.full;
        last = n.logs.old;
        told = λ e i q. n.logs.real e K.c τ i (omega arith) q;
        early = early;
      }

  new_true : (l : Label) (history : ℕ → Write X) (u : ℕ) (v v' : Host X) → 0 < u → u < S.base (suc l.generation) → Wrote z.n K.c (history u) (table z W K E v) (table z W K E v') → (f : Image X) → New K (belief z l) history u (table z W K E v') f
      → (e t : ℕ) → believed z l e t ≡ true → (((t ≡ (history u).stripe) × ((history u).changes e ≡ true) → ⊥) × (Wanted z W C K E S R) v' f e t) ⊎ (InLog z W C K E S R) l v' (history u) u f e t
  unfolding Complete belief
  new_true l history zero v v' pos early wr f n e t a = absurd (omega arith)
  new_true l history (suc τ) v v' pos early wr f n e t a = by (ℕ_discrete t (history (suc τ)).stripe) ((history (suc τ)).changes e) refl
    where
      other : ((t ≡ (history (suc τ)).stripe) × ((history (suc τ)).changes e ≡ true) → ⊥) → (((t ≡ (history (suc τ)).stripe) × ((history (suc τ)).changes e ≡ true) → ⊥) × (Wanted z W C K E S R) v' f e t) ⊎ (InLog z W C K E S R) l v' (history (suc τ)) (suc τ) f e t
      other r = inl (r, λ j c. n.strips e t j a c r)

      whole : t ≡ (history (suc τ)).stripe → (history (suc τ)).changes e ≡ true → (Logged z W C K E S R) v' (suc τ) f e t
      whole q r =
          let full : (j : ℕ) → j ≤ K.c → K.stamp (f (log e j)) ≡ suc τ = n.full e (subst (λ (x : ℕ). believed z l e x ≡ true) q a) r in
          let real : (j : ℕ) → j ≤ K.c → (f (log e j) ≡ K.sector (suc τ) (history (suc τ)) e j) × ((history (suc τ)).changes e ≡ true) × K.Fits (suc τ) (history (suc τ)) =
          λ j i. n.logs.real e j τ ((belief z l).believe_look e t a) i (full j i) in
          let tail = real K.c (omega arith) in
          record {
            complete = full;
            stripe = ap K.stripe_of tail.0 ∙ K.stripe_tail (suc τ) (history (suc τ)) e tail.2 ∙ sym q;
            back = λ j c.
                ap₂ (λ (x y : X). K.piece x y j) tail.0 (real j (omega arith)).0 ∙ K.piece_back (suc τ) (history (suc τ)) e j tail.2 c ∙ wr.changed e j r c
                ∙ ap (λ (x : ℕ). table z W K E v' x e j) (sym q);
          }

      by : Dec (t ≡ (history (suc τ)).stripe) → (b : Bool) → (history (suc τ)).changes e ≡ b → (((t ≡ (history (suc τ)).stripe) × ((history (suc τ)).changes e ≡ true) → ⊥) × (Wanted z W C K E S R) v' f e t) ⊎ (InLog z W C K E S R) l v' (history (suc τ)) (suc τ) f e t
      by (no q) b r = other (λ y. q y.0)
      by (yes q) false r = other (λ y. false≢true (sym r ∙ y.1))
      by (yes q) true r = inr (q, r, whole q r, new_carried l history (suc τ) v' pos early f n)

  -- what is known under a label is true of what it believes
  under_true : (g : Ghost X) (p : View X) → Pends z W C K E S R g p → (l : Label) → g.u < S.base (suc l.generation) → (f : Image X) → Under z W C K E S R g p (belief z l) f → (e t : ℕ) → believed z l e t ≡ true → (StripTrue z W C K E S R) l p (g.history g.u) g.u f e t
  unfolding Quiet Mid belief
  under_true g (sure v) h l early f u e t a = λ j c. u.strips e t j a c
  under_true g (open_write v v') h l early f u e t a =
      ⊎_elim (λ (o : Old K (belief z l) g.history g.u g.u (table z W K E v) f). inl (λ j c. o.strips e t j a c))
      (λ (n : New K (belief z l) g.history g.u (table z W K E v') f).
      ⊎_elim (λ y. inl (λ j c. y.1 j c ∙ sym (h.wrote.same t e j ((belief z l).look_n e ((belief z l).believe_look e t a)) y.0))) inr
      (new_true l g.history g.u v v' h.pos early h.wrote f n e t a)) u
  under_true g (kept_write v') h l early f n e t a = ⊎_elim (λ y. inl y.1) inr (new_true l g.history g.u h.0 v' h.1.pos early h.1.wrote f n e t a)

  pending_between : (g : Ghost X) (p : View X) → Pends z W C K E S R g p → (Between z W C K E S R) p (g.history g.u)
  pending_between g (sure v) h = tt
  pending_between g (open_write v v') h = h.wrote
  pending_between g (kept_write v') h = (h.0, h.1.wrote)

  left_truthful : (g : Ghost X) (p : View X) → g.u < S.base (suc g.base.generation) → Pends z W C K E S R g p → (f : Image X) → Left z W C K E S R g p f → (Truthful z W C K E S R) p f
  unfolding Framed
  left_truthful g p early pends f h =
      record {
        q = h.Q.generation;
        out = h.Q.out;
        few_out = h.labels.few_Q;
        everyone = h.labels.low;
        few = λ d b i p q. (h.labels.fine d b i p q).few_out;
        written = g.history g.u;
        stamp = g.u;
        between = pending_between g p pends;
        right = λ d b i o q.
            let l = copy C f d b in
            let since : g.base.generation ≤ h.Q.generation = ⊎_elim (λ r. omega (arith, ap (λ (y : Label). y.generation) r)) (λ r. omega arith) h.since in
            let same : Agrees (belief z l) f f = record { on_log = λ e j x. refl; on_strip_lem = λ e t j x. refl } in
            under_true g p pends l (omega (arith, early, S.grows (suc g.base.generation) (suc l.generation) (omega (arith, q, since)))) f
            (⊎_elim (λ n. under_framed z W C K E S R g p (belief z h.Q) (belief z l) n f f same h.under_Q) (λ n. under_framed z W C K E S R g p (belief z h.N) (belief z l) n.1 f f same h.under_N) (h.labels.fine d b i o q).narrow);
      }

  pub truthful : (p : View X) (w : World X) → Off z W C K E S R p w → Always w ((Truthful z W C K E S R) p)
  truthful p w h = always_map (Left z W C K E S R h.ghost p) ((Truthful z W C K E S R) p) w (λ f x. left_truthful h.ghost p h.early h.pends f x) h.left

  pub honest : (v : Host X) (w : World X) → Off z W C K E S R (sure v) w → Always w ((Honest z W C K E S R) v)
  honest v w h =
      always_map ((Truthful z W C K E S R) (sure v)) ((Honest z W C K E S R) v) w
      (λ f x. record { q = x.q; out = x.out; few_out = x.few_out; everyone = x.everyone; few = x.few; right = λ d b i o q e t j a c. x.right d b i o q e t a j c }) (truthful (sure v) w h)

  pub own_rests : (v : Host X) (w : World X) (o : Own) → Invariant z W C K E S R (at w (idle o)) (sure v) → (OwnTrue z W C K E S R) (sure v) w o
  own_rests v w o h =
      record {
        written = h.1.history 0;
        stamp = 0;
        between = tt;
        right = always_map (λ f. (d t j : ℕ) → believed z o.now d t ≡ true → j < K.c → f (strip d t j) ≡ table z W K E v t d j) (λ f. (e t : ℕ) → believed z o.now e t ≡ true → (Wanted z W C K E S R) v f e t) w
            (λ f q e t a j c. q e t j a c) (sound v w o h);
      }

  own_by : (p : View X) (w : World X) (l : List (Action X)) (o : Own) (g : Ghost X) → g.u < S.base (suc g.base.generation) → g.base ≡ o.now → Pends z W C K E S R g p → (P : Image X → Type 0) → During w l P
      → ((f : Image X) → P f → Under z W C K E S R g p (belief z o.now) f) → (OwnTrue z W C K E S R) p w o
  own_by p w l o g early based pends P d is =
      record {
        written = g.history g.u;
        stamp = g.u;
        between = pending_between g p pends;
        right = always_map P (λ f. (e t : ℕ) → believed z o.now e t ≡ true → (StripTrue z W C K E S R) o.now p (g.history g.u) g.u f e t) w (λ f q. under_true g p pends o.now (subst (λ (y : Label). g.u < S.base (suc y.generation)) based early) f (is f q)) (during_start P w l d);
      }

  pub own_true : (k : Kind X) (p : View X) (w : World X) (l : List (Action X)) (o o' : Own) → (FromRest z W C K E S R) k → Busy z W C K E S R k p w l o o' → (OwnTrue z W C K E S R) p w o
  unfolding Mid
  own_true creating p w l o o' from h = absurd from
  own_true starting p w l o o' from h = absurd from
  own_true (logging x) (sure v) w l o o' from h = absurd h.reads
  own_true (logging x) (open_write v v') w l o o' from h =
      own_by (open_write v v') w l o h.ghost h.early h.based h.pends (Old K (belief z o.now) h.ghost.history h.ghost.u h.ghost.u (table z W K E v)) h.reads.1 (λ f q. inl q)
  own_true (logging x) (kept_write v') w l o o' from h = absurd h.reads
  own_true (storing x) (sure v) w l o o' from h = absurd h.reads
  own_true (storing x) (open_write v v') w l o o' from h = absurd h.reads
  own_true (storing x) (kept_write v') w l o o' from h = own_by (kept_write v') w l o h.ghost h.early h.based h.pends (New K (belief z o.now) h.ghost.history h.ghost.u (table z W K E v')) h.reads.2 (λ f q. q)
  own_true labelling (sure v) w l o o' from h = own_by (sure v) w l o h.ghost h.early h.based h.pends (Quiet K (belief z o.now) h.ghost.history h.ghost.u (table z W K E v)) h.reads.1 (λ f q. q)
  own_true labelling (open_write v v') w l o o' from h = absurd h.reads
  own_true labelling (kept_write v') w l o o' from h = absurd h.reads

  still : (m : Memory X) (v : Verdict) (m' : Memory X) (r : Reply X) → (is_did z W C K E S R) r ≡ false → (is_did z W C K E S R) (answer z W C K E S R m v m' r).1 ≡ false
  still m clear m' r h = h
  still m (because why) m' r h = refl

  still_read : (k : Kind X) (o : Own) (f : Image X) (t i : ℕ) (v : Verdict) → (is_did z W C K E S R) (meanwhile z W C K E S R k o f t i v) ≡ false
  still_read k o f t i (because why) = refl
  still_read creating o f t i clear = refl
  still_read starting o f t i clear = refl
  still_read (logging w) o f t i clear = refl
  still_read (storing w) o f t i clear = refl
  still_read labelling o f t i clear = refl

  still_scrub : (k : Kind X) (o : Own) (f : Image X) (t : ℕ) (v : Verdict) → (is_did z W C K E S R) (scrubbed z W C K E S R k o f t v) ≡ false
  still_scrub k o f t (because why) = refl
  still_scrub creating o f t clear = refl
  still_scrub starting o f t clear = refl
  still_scrub (logging w) o f t clear = refl
  still_scrub (storing w) o f t clear = refl
  still_scrub labelling o f t clear = refl

  touches : (k : Kind X) (l : List (Action X)) (o o' : Own) → Spares o'.absent l → (a : Action X) → (one_step z W C K E S R k l o o').1 ≡ did a → o'.absent (slot_of a) ≡ false
  touches k (put x y ∷ l) o o' h a e = subst (λ (r : Reply X). o'.absent ((did_slot z W C K E S R) r) ≡ false) e h.0
  touches k (flush d ∷ l) o o' h a e = subst (λ (r : Reply X). o'.absent ((did_slot z W C K E S R) r) ≡ false) e h.0
  touches creating [] o o' h a e = absurd (false≢true (ap (is_did z W C K E S R) e))
  touches starting [] o o' h a e = absurd (false≢true (ap (is_did z W C K E S R) e))
  touches (logging x) [] o o' h a e = absurd (false≢true (ap (is_did z W C K E S R) e))
  touches (storing x) [] o o' h a e = absurd (false≢true (ap (is_did z W C K E S R) e))
  touches labelling [] o o' h a e = absurd (false≢true (ap (is_did z W C K E S R) e))

  quiet_idle : (o : Own) (f : Image X) (i : Input X) → (is_did z W C K E S R) (choose z W C K E S R (idle o) f i).1 ≡ false
  quiet_idle o f create = still (idle o) (may z W C K E S R false o create) (idle o) accepted refl
  quiet_idle o f (start A) = still (idle o) (may z W C K E S R false o (start A)) (idle o) accepted refl
  quiet_idle o f (read_block t i) = still (idle o) (may z W C K E S R false o (read_block t i)) _ (block _) refl
  quiet_idle o f (write t ch) = still (idle o) (may z W C K E S R false o (write t ch)) _ accepted refl
  quiet_idle o f (take_out d) = still (idle o) (may z W C K E S R false o (take_out d)) _ accepted refl
  quiet_idle o f (begin d) = still (idle o) (may z W C K E S R false o (begin d)) _ accepted refl
  quiet_idle o f (rebuild_on b) = still (idle o) (may z W C K E S R false o (rebuild_on b)) _ accepted refl
  quiet_idle o f (repair t) = still (idle o) (may_repair z W C K E S R false o f t) _ accepted refl
  quiet_idle o f (scrub_stripe t) = still (idle o) (may z W C K E S R false o (scrub_stripe t)) _ (found _) refl
  quiet_idle o f step = still (idle o) (may z W C K E S R false o step) (idle o) accepted refl

  quiet_nothing : (f : Image X) (i : Input X) → (is_did z W C K E S R) (choose z W C K E S R nothing f i).1 ≡ false
  quiet_nothing f create = still nothing (may_create z W C K E S R f) _ accepted refl
  quiet_nothing f (start A) = still nothing (may_start z W C K E S R (beyond z.n A) f) _ accepted refl
  quiet_nothing f (read_block t i) = refl
  quiet_nothing f (write t ch) = refl
  quiet_nothing f (take_out d) = refl
  quiet_nothing f (begin d) = refl
  quiet_nothing f (rebuild_on b) = refl
  quiet_nothing f (scrub_stripe t) = refl
  quiet_nothing f (repair t) = refl
  quiet_nothing f step = refl

  quiet_doing : (k : Kind X) (l : List (Action X)) (o o' : Own) (f : Image X) → Spares o'.absent l → (i : Input X) (a : Action X) → (choose z W C K E S R (doing k l o o') f i).1 ≡ did a → o'.absent (slot_of a) ≡ false
  quiet_doing k l o o' f h create a e = absurd (false≢true (ap (is_did z W C K E S R) e))
  quiet_doing k l o o' f h (start A) a e = absurd (false≢true (ap (is_did z W C K E S R) e))
  quiet_doing k l o o' f h (read_block t i) a e = absurd (false≢true (sym (still_read k o f t i (may z W C K E S R true o (read_block t i))) ∙ ap (is_did z W C K E S R) e))
  quiet_doing k l o o' f h (write t ch) a e = absurd (false≢true (sym (still (doing k l o o') (may z W C K E S R true o (write t ch)) (doing k l o o') accepted refl) ∙ ap (is_did z W C K E S R) e))
  quiet_doing k l o o' f h (take_out d) a e = absurd (false≢true (sym (still (doing k l o o') (may z W C K E S R true o (take_out d)) (doing k l o o') accepted refl) ∙ ap (is_did z W C K E S R) e))
  quiet_doing k l o o' f h (begin d) a e = absurd (false≢true (sym (still (doing k l o o') (may z W C K E S R true o (begin d)) (doing k l o o') accepted refl) ∙ ap (is_did z W C K E S R) e))
  quiet_doing k l o o' f h (rebuild_on b) a e = absurd (false≢true (sym (still (doing k l o o') (may z W C K E S R true o (rebuild_on b)) (doing k l o o') accepted refl) ∙ ap (is_did z W C K E S R) e))
  quiet_doing k l o o' f h (repair t) a e = absurd (false≢true (sym (still (doing k l o o') (may_repair z W C K E S R true o f t) (doing k l o o') accepted refl) ∙ ap (is_did z W C K E S R) e))
  quiet_doing k l o o' f h (scrub_stripe t) a e = absurd (false≢true (sym (still_scrub k o f t (may z W C K E S R true o (scrub_stripe t))) ∙ ap (is_did z W C K E S R) e))
  quiet_doing k l o o' f h step a e = touches k l o o' h a e

  pub spared_away : (m : Memory X) (f : Image X) (i : Input X) (a : Action X) → (Sparing z W C K E S R) m → (program z W C K E S R m f i).1 ≡ did a → (away z W C K E S R) m (slot_of a) ≡ false
  unfolding program
  spared_away nothing f i a h e = absurd (false≢true (sym (quiet_nothing (mask z W C K E S R (unseen z W C K E S R nothing i) f) i) ∙ ap (is_did z W C K E S R) e))
  spared_away (idle o) f i a h e = absurd (false≢true (sym (quiet_idle o (mask z W C K E S R (unseen z W C K E S R (idle o) i) f) i) ∙ ap (is_did z W C K E S R) e))
  spared_away (doing k l o o') f i a h e = quiet_doing k l o o' (mask z W C K E S R (unseen z W C K E S R (doing k l o o') i) f) h i a e

  pub sparing : (w : World X) (m : Memory X) (p : View X) → Invariant z W C K E S R (at w m) p → (Sparing z W C K E S R) m
  sparing w nothing p h = tt
  sparing w (idle o) p h = tt
  sparing w (doing k l o o') p h = h.spares

  -- whatever is asked in whatever state: an action is on a slot that is not absent
  pub untouched : (w : World X) (m : Memory X) (p : View X) (i : Input X) (a : Action X) → Invariant z W C K E S R (at w m) p → (program z W C K E S R m w.cur i).1 ≡ did a → (away z W C K E S R) m (slot_of a) ≡ false
  untouched w m p i a h e = spared_away m w.cur i a (sparing w m p h) e

  -- START-UP REFUSES EXACTLY when document 03's table says so of what is seen (`may_start`), and otherwise begins
  pub start_exact : (f : Image X) (A : ℕ → Bool) → program z W C K E S R nothing f (start A) ≡ answer z W C K E S R nothing (may_start z W C K E S R (beyond z.n A) (mask z W C K E S R (beyond z.n A) f)) (asked_start z W C K E S R (beyond z.n A) (mask z W C K E S R (beyond z.n A) f)) accepted
  unfolding program
  start_exact f A = refl

  round_labels : (l : Label) (ds : List ℕ) → Each {X = X} (Labelled z W C K E S R) (Any z W C K E S R) (round C l ds)
  unfolding round_batch
  round_labels l ds = each_batch (Labelled z W C K E S R) (Any z W C K E S R) (round_batch C l ds) (λ k m. let y = of_rows (there C l) (0 ∷ []) ds k m in rw y.4) (λ d m. tt)

  prep_labels : (f : Image X) (g : ℕ) (l : Label) (ds : List ℕ) → Each {X = X} (Labelled z W C K E S R) (Any z W C K E S R) (prep C f g l ds)
  unfolding prep_batch
  prep_labels f g l ds = each_batch (Labelled z W C K E S R) (Any z W C K E S R) (prep_batch C f g l ds) (λ k m. let y = of_prep C g (keep (λ d. not (prepared C f g d)) ds) k m in rw y.2) (λ d m. tt)

  pub labels_first : (A : ℕ → Bool) (f : Image X) → (startup z C K A f ≡ rounds z C A f ++ redo K (belief z (settled z C K A f)) f) × Each (λ k. is_label k ≡ true) (λ d. Unit {0}) (rounds z C A f)
  unfolding startup in_turn rounds
  labels_first A f =
      let told = turn_told in
      let m = M z C A f in
      let l2 = settled z C K A f in
      let A1 = round C (L z C A f) (level_to z C A f) in
      let A2 = round C (again (L z C A f) (suc m)) (again_to z C A f) in
      let A3 = round C l2 (last_to z C A f) in
      let A4 = prep C f (suc m) l2 (late z C A f) in
      let A5 = round C l2 (late z C A f) in (
        refl,
        each_append (Labelled z W C K E S R) (Any z W C K E S R) A1 (A2 ++ (A3 ++ (A4 ++ A5))) (round_labels (L z C A f) (level_to z C A f))
            (each_append (Labelled z W C K E S R) (Any z W C K E S R) A2 (A3 ++ (A4 ++ A5)) (round_labels (again (L z C A f) (suc m)) (again_to z C A f))
            (each_append (Labelled z W C K E S R) (Any z W C K E S R) A3 (A4 ++ A5) (round_labels l2 (last_to z C A f))
            (each_append (Labelled z W C K E S R) (Any z W C K E S R) A4 A5 (prep_labels f (suc m) l2 (late z C A f)) (round_labels l2 (late z C A f))))),
      )
