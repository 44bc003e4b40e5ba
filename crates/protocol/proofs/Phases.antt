-- A REQUEST AS PHASES. Each request of the program is a few walks, one after the other: a machine that remembers its phase, and slot and sector in it, does
-- exactly the request's list of actions (`advances`, and a law for each request).
use Prim.Native.Nat.{ℕ, zero, suc}
use Rattle.std.specs.Prelude.{◌≡◌, ◌&&◌, eqb}
use Rattle.std.proofs.Math.Path.{refl, sym, ap}
use Rattle.std.proofs.Common.{◌∙◌}
use Rattle.std.proofs.Math.Bool.{Bool, true, false, cond, not}
use mathlib.Core.List.{List, [], ◌∷◌, ◌++◌}
use Rattle.protocol.proofs.Told.{flushed_told, rounds_told, turn_told}
use Rattle.protocol.specs.World.{Image, Action}
use Rattle.protocol.specs.Batch.{actions, flushes}
use Rattle.protocol.specs.Slots.{from, keep, slots}
use Rattle.protocol.specs.Log.{Write, RecordCodec, Belief}
use Rattle.protocol.specs.Write.{log_write, store}
use Rattle.protocol.specs.Redo.{key, lead, tail, whole, redone, forward, kill, redo}
use Rattle.protocol.specs.Label.{Label, again, last_side, expel, expel_batch, Size, belief, Quorum, LabelCodec, round, prep_places, prep_batch, prep}
use Rattle.protocol.specs.Startup.{L, M, gone, stale, level_to, again_to, last_to, rounds}
use Rattle.protocol.specs.Decide.{in_turn, settled, startup}
use Rattle.protocol.specs.Rebuild.{begun, wiped_sectors, wipe_batch, wipe, flushed_at_begin, expel_first, beginning, fill}
use Rattle.protocol.specs.Host.{Code}
use Rattle.protocol.specs.Program.{Stamps, Medium, flushed_first, told_to}
use Rattle.protocol.specs.Walk.{append_assoc, batch_of}
use Rattle.protocol.proofs.Walk.{round_walk, log_walk, store_walk, kill_walk, fill_walk, prep_walk}
use Rattle.protocol.specs.Phases.{all_of, label_phase, flush_phase, log_phase, store_phase, kill_phase, fill_phase, redo_phases, start_walks, begin_walks}

append_nil : {A : Type 0} (l : List A) → l ++ [] ≡ l
append_nil [] = refl
append_nil (x ∷ l) = ap (λ (y : List _). x ∷ y) (append_nil l)

-- the walks of the program's batches
module _ {X : Type 0} {n : ℕ} (C : LabelCodec X n) (K : RecordCodec X) where
  -- A WRITE: the log, then the strips
  pub write_phases : (B : Belief) (σ : ℕ) (w : Write X) → log_write K B σ w ++ store K B w.stripe w.changes w.new ≡ all_of ((log_phase C K) B σ w ∷ (store_phase C K) B w.stripe w.changes w.new ∷ [])
  write_phases B σ w = λ i. actions (log_walk C K B σ w i) ++ (ap actions (store_walk C K B w.stripe w.changes w.new) ∙ sym (append_nil (actions (batch_of ((store_phase C K) B w.stripe w.changes w.new))))) i

  -- a round over the slots that pass a test
  round_phase : (B : Belief) (l : Label) (n : ℕ) (p : ℕ → Bool) → round C l (slots n p) ≡ actions (batch_of ((label_phase C K) l n p))
  round_phase B l n p = ap actions (round_walk C K B l n p)

  pub redo_is : (B : Belief) (f : Image X) → redo K B f ≡ all_of ((redo_phases C K) B f)
  unfolding redo forward
  redo_is B f = go (eqb (key K B f (lead K B f)) 0) (whole K B f)
    where
      go : (a b : Bool) → cond a [] (cond b (forward K B f) (kill K B f)) ≡ all_of (cond a [] (cond b ((store_phase C K) B (K.stripe_of (tail K B f)) (K.changes_of (tail K B f)) (redone K B f) ∷ []) ((kill_phase C K) B f ∷ [])))
      go true b = refl
      go false true = ap actions (store_walk C K B (K.stripe_of (tail K B f)) (K.changes_of (tail K B f)) (redone K B f)) ∙ sym (append_nil (actions (batch_of ((store_phase C K) B (K.stripe_of (tail K B f)) (K.changes_of (tail K B f)) (redone K B f)))))
      go false false = ap actions (kill_walk C K B f) ∙ sym (append_nil (actions (batch_of ((kill_phase C K) B f))))

module _ {X : Type 0} (z : Size) (W : Quorum z.n) (C : LabelCodec X z.n) (K : RecordCodec X) (E : Code X z.n K.c W) (S : Stamps) (R : Medium z W C K E S) where
  -- A LABEL CHANGE: one round
  pub change_phases : (l : Label) (A : ℕ → Bool) → round C l (told_to z W C K E S R A) ≡ all_of (label_phase C K l z.n (λ d. not (A d)) ∷ [])
  unfolding told_to
  change_phases l A = round_phase C K (belief z l) l z.n (λ d. not (A d)) ∙ sym (append_nil (actions (batch_of (label_phase C K l z.n (λ d. not (A d))))))

  -- REBUILD ON: strips, then a round
  pub on_phases : (Q l : Label) (more : ℕ) (v : ℕ → ℕ → X) (A : ℕ → Bool) → fill K Q more v ++ round C l (told_to z W C K E S R A) ≡ all_of (fill_phase C K Q more v ∷ label_phase C K l z.n (λ d. not (A d)) ∷ [])
  on_phases Q l more v A = λ i. actions (fill_walk C K (belief z l) Q more v i) ++ change_phases l A i

  nested : (x y u v w t : List (Action X)) → (x ++ (y ++ (u ++ (v ++ w)))) ++ t ≡ x ++ (y ++ (u ++ (v ++ (w ++ t))))
  nested x y u v w t =
      append_assoc x (y ++ (u ++ (v ++ w))) t
      ∙ ap (λ (l : List (Action X)). x ++ l) (append_assoc y (u ++ (v ++ w)) t ∙ ap (λ (l : List (Action X)). y ++ l) (append_assoc u (v ++ w) t ∙ ap (λ (l : List (Action X)). u ++ l) (append_assoc v w t)))

  pub start_phases : (A : ℕ → Bool) (f : Image X) → flushes {X = X} (flushed_first z W C K E S R A) ++ startup z C K A f ≡ all_of ((start_walks z W C K E S R) A f)
  unfolding flushed_first startup in_turn rounds level_to again_to last_to slots
  start_phases A f =
      let flushed = flushed_told in
      let told1 = rounds_told in
      let told2 = turn_told in
      let B = belief z (settled z C K A f) in
      let p : ℕ → Bool = λ d. not (gone z C A f d) in
      let q : ℕ → Bool = λ d. not (A d) && stale z C A f d in
      let l1 = L z C A f in
      let l2 = again (L z C A f) (suc (M z C A f)) in
      let l3 = settled z C K A f in
      ap (λ (l : List (Action X)). flushes (keep (λ d. not (A d)) (from 0 z.n)) ++ l)
      (nested (round C l1 (slots z.n p)) (round C l2 (slots z.n p)) (round C l3 (slots z.n p)) (prep C f (suc (M z C A f)) l3 (slots z.n q)) (round C l3 (slots z.n q)) (redo K B f)
      ∙ (λ i. round_phase C K B l1 z.n p i ++ (round_phase C K B l2 z.n p i ++ (round_phase C K B l3 z.n p i ++ (actions (prep_walk C K B f (suc (M z C A f)) l3 z.n q i) ++ (round_phase C K B l3 z.n q i ++ redo_is C K B f i))))))

  -- CREATE: flushes, and the first label
  all_kept : (a n : ℕ) → from a n ≡ keep (λ d. true) (from a n)
  all_kept a zero = refl
  all_kept a (suc n) = ap (λ (l : List ℕ). a ∷ l) (all_kept (suc a) n)

  pub create_phases : (l : Label) (A : ℕ → Bool) → flushes {X = X} (flushed_first z W C K E S R A) ++ round C l (from 0 z.n) ≡ all_of (flush_phase C K z.n (λ d. not (A d)) ∷ label_phase C K l z.n (λ d. true) ∷ [])
  unfolding flushed_first slots
  create_phases l A =
      let flushed = flushed_told in
      ap (λ (y : List (Action X)). flushes (keep (λ d. not (A d)) (from 0 z.n)) ++ y)
      (ap (λ (ds : List ℕ). round C l ds) (all_kept 0 z.n) ∙ (round_phase C K (belief z l) l z.n (λ d. true) ∙ sym (append_nil (actions (batch_of (label_phase C K l z.n (λ d. true)))))))

  pub begin_phases : (f : Image X) (Q : Label) (d : ℕ) (A : ℕ → Bool) → beginning K C f Q d (told_to z W C K E S R A) ≡ all_of ((begin_walks z W C K E S R) f Q d A)
  unfolding flushed_at_begin expel_first expel_batch wipe_batch wiped_sectors prep_batch prep_places
  begin_phases f Q d A =
      let X1 = expel C f (not (last_side C f d)) (d ∷ []) in
      let X2 = expel C f (last_side C f d) (d ∷ []) in
      ap (λ (y : List (Action X)). flushes (flushed_at_begin K d) ++ ((X1 ++ X2) ++ (wipe K d ++ (prep C f Q.generation Q (d ∷ []) ++ y)))) (change_phases (begun Q d) A)
      ∙ ap (λ (y : List (Action X)). flushes (flushed_at_begin K d) ++ y) (append_assoc X1 X2 (wipe K d ++ (prep C f Q.generation Q (d ∷ []) ++ all_of (label_phase C K (begun Q d) z.n (λ e. not (A e)) ∷ []))))
