-- EVERY ACCEPTED REQUEST ENDS IN ITS OWN SUCCESS. Left alone it carries out its actions one by one, with no refusal midway, and then answers; and the
-- number of its actions is bounded.
use Prim.Native.Nat.{ℕ, zero, suc, ◌+◌, ◌*◌, ◌≤◌, ◌<◌}
use Rattle.std.specs.Prelude.{◌≡◌, Bool, cond, ◌&&◌, ◌⊎◌, ltb}
use Rattle.std.proofs.Math.Path.{refl, ap}
use Rattle.std.proofs.Common.{◌∙◌, inl, inr, ltb-false, le-ltb, leb-false}
use Rattle.std.proofs.Math.Bool.{true, false, not}
use mathlib.Core.List.{List, [], ◌∷◌, ◌++◌}
use native.Mathlib.Omega.{arith}
use Rattle.std.proofs.Math.Nat.{mul-le-mul_right}
use Rattle.std.proofs.Math.Dec.{eqb}
use Rattle.std.proofs.Math.ListN.{length, length-append}
use Rattle.protocol.proofs.Told.{flushed_told, rounds_told, turn_told}
use Rattle.protocol.specs.World.{Place, label, log, strip, Image, World, Action, act, run}
use Rattle.protocol.specs.Batch.{flushes}
use Rattle.protocol.specs.Slots.{from, keep, row, rows}
use Rattle.protocol.specs.Log.{Write, RecordCodec, Belief}
use Rattle.protocol.specs.Write.{involved, log_batch, log_write, store_batch, store, logged_sectors, stored_sectors}
use Rattle.protocol.specs.Redo.{key, lead, tail, whole, redone, forward, marked, kill_batch, kill, redo}
use Rattle.protocol.specs.Label.{Label, again, alien, last_side, expel, expel_batch, Size, belief, Quorum, LabelCodec, there, round, round_batch, prep, prepared, prep_places, prep_batch}
use Rattle.protocol.specs.Startup.{L, M, gone, stale, parts, late, level_to, again_to, last_to, rounds}
use Rattle.protocol.specs.Decide.{in_turn, settled, startup}
use Rattle.protocol.specs.Rebuild.{begun, raised, healed, wipe, wipe_batch, wiped_sectors, flushed_at_begin, expel_first, beginning}
use Rattle.protocol.specs.Host.{Code}
use Rattle.protocol.specs.Program as Program
use Rattle.protocol.specs.Program.{Stamps, Medium, Own, Kind, creating, starting, logging, storing, labelling, idle, doing, step, safe, done, present, flushed_first, at_least_one, last_batch, asked_on, program}
use Rattle.protocol.specs.Machine.{Machine, at, Event, ask, from_host, Runs, stays, goes}
use Rattle.protocol.specs.Ends.{carried, flushes_length, actions_length, from_length, keep_length, slots_length, members, after_on, rebuilt_on}

module _ {X : Type 0} (z : Size) (W : Quorum z.n) (C : LabelCodec X z.n) (K : RecordCodec X) (E : Code X z.n K.c W) (S : Stamps) (R : Medium z W C K E S) where
  carries : (k : Kind X) (w : World X) (l : List (Action X)) (o o' : Own) (r : List (Event X)) (m : Machine X) → Runs z W C K E S R (at (run w l) (doing k [] o o')) r m → Runs z W C K E S R (at w (doing k l o o')) (carried l r) m
  unfolding program
  carries k w [] o o' r m h = h
  carries k w (a ∷ l) o o' r m h = let t : Runs z W C K E S R (at (act w a) (doing k l o o')) (carried l r) m = carries k (act w a) l o o' r m h in goes (from_host {w = w} {m = doing k (a ∷ l) o o'} step) t

  pub create_ends : (w : World X) (l : List (Action X)) (o o' : Own) → Runs z W C K E S R (at w (doing creating l o o')) (carried l (ask step (done creating) ∷ [])) (at (run w l) (idle o'))
  unfolding program
  create_ends w l o o' = carries creating w l o o' (ask step (done creating) ∷ []) (at (run w l) (idle o')) (goes (from_host {w = run w l} {m = doing creating [] o o'} step) stays)

  pub start_ends : (w : World X) (l : List (Action X)) (o o' : Own) → Runs z W C K E S R (at w (doing starting l o o')) (carried l (ask step (done starting) ∷ [])) (at (run w l) (idle o'))
  unfolding program
  start_ends w l o o' = carries starting w l o o' (ask step (done starting) ∷ []) (at (run w l) (idle o')) (goes (from_host {w = run w l} {m = doing starting [] o o'} step) stays)

  pub label_ends : (w : World X) (l : List (Action X)) (o o' : Own) → Runs z W C K E S R (at w (doing labelling l o o')) (carried l (ask step (done labelling) ∷ [])) (at (run w l) (idle o'))
  unfolding program
  label_ends w l o o' = carries labelling w l o o' (ask step (done labelling) ∷ []) (at (run w l) (idle o')) (goes (from_host {w = run w l} {m = doing labelling [] o o'} step) stays)

  -- a write: its log, the step that makes it safe, its strips, and the step that acknowledges
  pub write_ends : (w : World X) (l : List (Action X)) (wr : Write X) (o o' : Own) → Runs z W C K E S R (at w (doing (logging wr) l o o')) (carried l (ask step safe ∷ carried (store K (belief z o.now) wr.stripe wr.changes wr.new) (ask step (done (storing wr)) ∷ []))) (at (run (run w l) (store K (belief z o.now) wr.stripe wr.changes wr.new)) (idle o'))
  unfolding program
  write_ends w l wr o o' =
      let st = store K (belief z o.now) wr.stripe wr.changes wr.new in
      let w1 = run w l in
      let end : Runs z W C K E S R (at w1 (doing (storing wr) st o o')) (carried st (ask step (done (storing wr)) ∷ [])) (at (run w1 st) (idle o')) =
      carries (storing wr) w1 st o o' (ask step (done (storing wr)) ∷ []) (at (run w1 st) (idle o')) (goes (from_host {w = run w1 st} {m = doing (storing wr) [] o o'} step) stays) in
      carries (logging wr) w l o o' (ask step safe ∷ carried st (ask step (done (storing wr)) ∷ [])) (at (run w1 st) (idle o'))
      (goes (from_host {w = w1} {m = doing (logging wr) [] o o'} step) end)

row_length : (mk : ℕ → ℕ → Place) (d : ℕ) (js : List ℕ) → length (row mk d js) ≡ length js
row_length mk d [] = refl
row_length mk d (j ∷ js) = ap suc (row_length mk d js)

rows_length : (mk : ℕ → ℕ → Place) (js ds : List ℕ) → length (rows mk js ds) ≡ length ds * length js
rows_length mk js [] = omega arith
rows_length mk js (d ∷ ds) =
    let e = length-append (row mk d js) (rows mk js ds) in
    let r = rows_length mk js ds in
    omega (arith, e, r, row_length mk d js)

module _ {X : Type 0} (K : RecordCodec X) (B : Belief) where
  -- A WRITE to g slots: g (2c + 1) puts and 2 g flushes
  pub write_actions : (σ : ℕ) (w : Write X) → length (log_write K B σ w) + length (store K B w.stripe w.changes w.new) ≡ (members K B) w * (2 * K.c + 3)
  unfolding log_batch store_batch logged_sectors stored_sectors
  write_actions σ w =
      let a = actions_length (log_batch K B σ w) in
      let b = actions_length (store_batch K B w.stripe w.changes w.new) in
      let is = involved B w.stripe w.changes in
      let c = rows_length log (from 0 (suc K.c)) is in
      let d = rows_length (λ d j. strip d w.stripe j) (from 0 K.c) is in
      let e : length is * length (from 0 (suc K.c)) ≡ length is * suc K.c = ap (λ (x : ℕ). length is * x) (from_length (suc K.c) 0) in
      let f : length is * length (from 0 K.c) ≡ length is * K.c = ap (λ (x : ℕ). length is * x) (from_length K.c 0) in
      sums (length is) K.c (length (log_write K B σ w)) (length (store K B w.stripe w.changes w.new)) (a ∙ ap (λ (x : ℕ). x + length is) (c ∙ e)) (b ∙ ap (λ (x : ℕ). x + length is) (d ∙ f))
    where
      sums : (g c x y : ℕ) → x ≡ g * suc c + g → y ≡ g * c + g → x + y ≡ g * (2 * c + 3)
      sums zero c x y p q = omega arith
      sums (suc g) c x y p q = let r : g * suc c + g + (g * c + g) ≡ g * (2 * c + 3) = sums g c (g * suc c + g) (g * c + g) refl refl in omega arith

  pub members_n : (w : Write X) → (members K B) w ≤ B.n
  unfolding involved
  members_n w = slots_length B.n (λ d. B.believe d w.stripe && w.changes d)

module _ {X : Type 0} {n : ℕ} (C : LabelCodec X n) where
  one_each : (mk : ℕ → ℕ → Place) (ds : List ℕ) → length (rows mk (0 ∷ []) ds) ≡ length ds
  one_each mk ds = omega (arith, rows_length mk (0 ∷ []) ds)

  -- a round: a put and a flush for each
  pub round_actions : (l : Label) (ds : List ℕ) → length (round C l ds) ≡ 2 * length ds
  unfolding round_batch
  round_actions l ds = omega (arith, actions_length (round_batch C l ds), one_each (there C l) ds)

  prep_length : (g : ℕ) (ds : List ℕ) → length (prep_places C g ds) ≡ length ds
  unfolding prep_places
  prep_length g ds = one_each (λ d j. label d (C.side g)) ds

  pub prep_actions : (f : Image X) (g : ℕ) (l : Label) (ds : List ℕ) → length (prep C f g l ds) ≤ 2 * length ds
  unfolding prep_batch
  prep_actions f g l ds =
      let es = keep (λ d. not (prepared C f g d)) ds in
      omega (arith, actions_length (prep_batch C f g l ds), prep_length g es, keep_length (λ d. not (prepared C f g d)) ds)

  expel_actions : (f : Image X) (b : Bool) (d : ℕ) → length (expel C f b (d ∷ [])) ≤ 2
  unfolding expel_batch
  expel_actions f b d =
      let es = keep (alien C f b) (d ∷ []) in
      omega (arith, actions_length (expel_batch C f b (d ∷ [])), one_each (λ e j. label e b) es, keep_length (alien C f b) (d ∷ []))

  -- BEGIN over g slots: at most 2 g + c + 9 actions
  pub begin_actions : (K : RecordCodec X) (f : Image X) (Q : Label) (d : ℕ) (ds : List ℕ) → length (beginning K C f Q d ds) ≤ 2 * length ds + K.c + 9
  unfolding expel_first flushed_at_begin wipe_batch wiped_sectors
  begin_actions K f Q d ds =
      let A0 : List (Action X) = flushes (flushed_at_begin K d) in
      let X1 = expel C f (not (last_side C f d)) (d ∷ []) in
      let X2 = expel C f (last_side C f d) (d ∷ []) in
      let A1 = wipe K d in
      let A2 = prep C f Q.generation Q (d ∷ []) in
      let A3 = round C (begun Q d) ds in
      let e0 = length-append A0 ((X1 ++ X2) ++ (A1 ++ (A2 ++ A3))) in
      let e1 = length-append (X1 ++ X2) (A1 ++ (A2 ++ A3)) in
      let e2 = length-append X1 X2 in
      let e3 = length-append A1 (A2 ++ A3) in
      let e4 = length-append A2 A3 in
      let f0 = flushes_length X (flushed_at_begin K d) in
      let f1 = actions_length (wipe_batch K d) in
      let f2 = rows_length log (from 0 (suc K.c)) (d ∷ []) in
      let f3 = from_length (suc K.c) 0 in
      omega (arith, e0, e1, e2, e3, e4, f0, f1, f2, f3, expel_actions f (not (last_side C f d)) d, expel_actions f (last_side C f d) d, prep_actions f Q.generation Q (d ∷ []), round_actions (begun Q d) ds)

module _ {X : Type 0} (K : RecordCodec X) (B : Belief) where
  forwards : (f : Image X) → length (forward K B f) ≤ B.n * K.c + 2 * B.n
  unfolding forward store_batch stored_sectors involved
  forwards f =
      let t = K.stripe_of (tail K B f) in
      let ch = K.changes_of (tail K B f) in
      let is = involved B t ch in
      let a = actions_length (store_batch K B t ch (redone K B f)) in
      let b = rows_length (λ d j. strip d t j) (from 0 K.c) is in
      let c : length is * length (from 0 K.c) ≡ length is * K.c = ap (λ (x : ℕ). length is * x) (from_length K.c 0) in
      let d = slots_length B.n (λ d. B.believe d t && ch d) in
      omega (arith, a, b, c, d, mul-le-mul_right K.c d)

  kills : (f : Image X) → length (kill K B f) ≤ B.n * K.c + 2 * B.n
  unfolding kill_batch marked
  kills f =
      let a = actions_length (kill_batch K B f) in
      let b = rows_length (λ d j. log d K.c) (0 ∷ []) (marked K B f) in
      let d = slots_length B.n (λ d. B.look d && eqb (K.stamp (f (log d K.c))) (key K B f (lead K B f))) in
      omega (arith, a, b, d)

  redo_actions : (f : Image X) → length (redo K B f) ≤ B.n * K.c + 2 * B.n
  unfolding redo
  redo_actions f = go (eqb (key K B f (lead K B f)) 0) (whole K B f)
    where
      go : (a b : Bool) → length (cond a [] (cond b (forward K B f) (kill K B f))) ≤ B.n * K.c + 2 * B.n
      go true b = omega arith
      go false true = forwards f
      go false false = kills f

module _ {X : Type 0} (z : Size) (W : Quorum z.n) (C : LabelCodec X z.n) (K : RecordCodec X) (E : Code X z.n K.c W) (S : Stamps) (R : Medium z W C K E S) where
  -- START-UP: at most n (c + 13) actions
  pub start_actions : (A : ℕ → Bool) (f : Image X) → length (flushes {X = X} (flushed_first z W C K E S R A) ++ startup z C K A f) ≤ z.n * K.c + 13 * z.n
  unfolding startup in_turn rounds level_to again_to last_to belief flushed_first
  start_actions A f =
      let flushed = flushed_told in
      let told1 = rounds_told in
      let told2 = turn_told in
      let m = M z C A f in
      let l2 = settled z C K A f in
      let ps = parts z C A f in
      let ls = late z C A f in
      let A1 = round C (L z C A f) (level_to z C A f) in
      let A2 = round C (again (L z C A f) (suc m)) (again_to z C A f) in
      let A3 = round C l2 (last_to z C A f) in
      let A4 = prep C f (suc m) l2 ls in
      let A5 = round C l2 ls in
      let A6 = redo K (belief z l2) f in
      let A0 : List (Action X) = flushes (present z W C K E S R A) in
      let p = slots_length z.n (λ d. not (gone z C A f d)) in
      let q = slots_length z.n (λ d. not (A d) && stale z C A f d) in
      let r = slots_length z.n (λ d. not (A d)) in
      let e0 = length-append A0 ((A1 ++ (A2 ++ (A3 ++ (A4 ++ A5)))) ++ A6) in
      let e1 = length-append (A1 ++ (A2 ++ (A3 ++ (A4 ++ A5)))) A6 in
      let e2 = length-append A1 (A2 ++ (A3 ++ (A4 ++ A5))) in
      let e3 = length-append A2 (A3 ++ (A4 ++ A5)) in
      let e4 = length-append A3 (A4 ++ A5) in
      let e5 = length-append A4 A5 in
      let f0 = flushes_length X (present z W C K E S R A) in
      let f1 = round_actions C (L z C A f) (level_to z C A f) in
      let f2 = round_actions C (again (L z C A f) (suc m)) (again_to z C A f) in
      let f3 = round_actions C l2 (last_to z C A f) in
      let f4 = prep_actions C f (suc m) l2 ls in
      let f5 = round_actions C l2 ls in
      let f6 = redo_actions K (belief z l2) f in
      omega (arith, p, q, r, e0, e1, e2, e3, e4, e5, f0, f1, f2, f3, f4, f5, f6)

  pub on_ends : (o : Own) (f : Image X) (b : ℕ) → (l : List (Action X)) × (asked_on z W C K E S R o f b ≡ doing labelling l o (record { now = (after_on z W C K E S R) o b; absent = o.absent; epoch = o.epoch; count = o.count }))
  on_ends o f b = go (last_batch z W C K E S R o b)
    where
      go : (y : Bool) → (l : List (Action X)) × (cond y (Program.asked_heal z W C K E S R o f) (Program.asked_raise z W C K E S R o f (at_least_one z W C K E S R b)) ≡ doing labelling l o (record { now = cond y (healed z.n o.now) (raised o.now (o.now.mark + at_least_one z W C K E S R b)); absent = o.absent; epoch = o.epoch; count = o.count }))
      go true = (_, refl)
      go false = (_, refl)

  at_least : (b : ℕ) → 1 ≤ at_least_one z W C K E S R b
  at_least zero = omega arith
  at_least (suc b) = omega arith

  pub on_raises : (o : Own) (b : ℕ) → (((after_on z W C K E S R) o b).rebuilding ≡ z.n) ⊎ ((((after_on z W C K E S R) o b).rebuilding ≡ o.now.rebuilding) × (o.now.mark < ((after_on z W C K E S R) o b).mark))
  on_raises o b = go (last_batch z W C K E S R o b)
    where
      go : (y : Bool) → ((cond y (healed z.n o.now) (raised o.now (o.now.mark + at_least_one z W C K E S R b))).rebuilding ≡ z.n) ⊎ (((cond y (healed z.n o.now) (raised o.now (o.now.mark + at_least_one z W C K E S R b))).rebuilding ≡ o.now.rebuilding) × (o.now.mark < (cond y (healed z.n o.now) (raised o.now (o.now.mark + at_least_one z W C K E S R b))).mark))
      go true = inl refl
      go false = inr (refl, omega (arith, at_least b))

  -- AFTER AT MOST T OF THEM NOTHING IS BEING REBUILT ANY MORE: the slot is healthy
  pub rebuild_ends : (j : ℕ) (o : Own) (b : ℕ) → o.now.mark ≤ z.T → z.T ≤ o.now.mark + j → 0 < j → z.n ≤ ((rebuilt_on z W C K E S R) j o b).now.rebuilding
  rebuild_ends zero o b i h p = absurd (omega arith)
  rebuild_ends (suc j) o b i h p =
      go (rebuild_ends j (record { now = (after_on z W C K E S R) o b; absent = o.absent; epoch = o.epoch; count = o.count }) b) (ltb o.now.rebuilding z.n) refl (last_batch z W C K E S R o b) refl
    where
      next : Own
      next = record { now = (after_on z W C K E S R) o b; absent = o.absent; epoch = o.epoch; count = o.count }

      resting : (j : ℕ) → z.n ≤ ((after_on z W C K E S R) o b).rebuilding → z.n ≤ ((rebuilt_on z W C K E S R) j (record { now = (after_on z W C K E S R) o b; absent = o.absent; epoch = o.epoch; count = o.count }) b).now.rebuilding
      resting zero q = q
      resting (suc j) q = rw (le-ltb ((after_on z W C K E S R) o b).rebuilding z.n q) q

      go : (((after_on z W C K E S R) o b).mark ≤ z.T → z.T ≤ ((after_on z W C K E S R) o b).mark + j → 0 < j → z.n ≤ ((rebuilt_on z W C K E S R) j (record { now = (after_on z W C K E S R) o b; absent = o.absent; epoch = o.epoch; count = o.count }) b).now.rebuilding) → (x : Bool) → ltb o.now.rebuilding z.n ≡ x → (y : Bool) → last_batch z W C K E S R o b ≡ y → z.n ≤ (cond x ((rebuilt_on z W C K E S R) j (record { now = (after_on z W C K E S R) o b; absent = o.absent; epoch = o.epoch; count = o.count }) b) o).now.rebuilding
      go r false e y q = ltb-false o.now.rebuilding z.n e
      go r true e true q = resting j (rw q (omega arith))
      go r true e false q =
          let g = leb-false z.T (o.now.mark + at_least_one z W C K E S R b) q in
          let m : ((after_on z W C K E S R) o b).mark ≡ o.now.mark + at_least_one z W C K E S R b = rw q in
          r (omega (arith, g, m)) (omega (arith, m, at_least b)) (omega (arith, g, h, at_least b))
