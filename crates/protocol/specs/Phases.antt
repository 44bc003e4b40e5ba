-- A REQUEST AS PHASES. Each request of the program is a few walks, one after the other: a machine that remembers its phase, and slot and sector in it, does
-- exactly the request's list of actions (`advances`, and a law for each request).
use Prim.Native.Nat.{ℕ, zero, suc}
use Rattle.std.specs.Prelude.{◌≡◌, ◌&&◌, eqb}
use Rattle.std.proofs.Math.Path.{refl, sym, ap}
use Rattle.std.proofs.Common.{◌∙◌}
use Rattle.std.proofs.Math.Bool.{Bool, true, cond, not}
use mathlib.Core.List.{List, [], ◌∷◌, ◌++◌}
use Rattle.protocol.specs.World.{label, log, strip, Image, Action}
use Rattle.protocol.specs.Batch.{actions}
use Rattle.protocol.specs.Log.{Write, RecordCodec, Belief}
use Rattle.protocol.specs.Write.{logged, stored}
use Rattle.protocol.specs.Redo.{key, lead, tail, whole, redone}
use Rattle.protocol.specs.Label.{Label, again, alien, last_side, Size, belief, Quorum, LabelCodec, there, told, prepared, prep_value}
use Rattle.protocol.specs.Startup.{L, M, gone, stale}
use Rattle.protocol.specs.Decide.{settled}
use Rattle.protocol.specs.Rebuild.{begun, filled}
use Rattle.protocol.specs.Host.{Code}
use Rattle.protocol.specs.Program.{Stamps, Medium}
use Rattle.protocol.specs.Walk.{Walk, Cursor, putting, flushing, append_assoc, batch_of, begins, tick, left, walk_begins, walks}

-- which phase, where in it, and the phases to come
pub data Stand (X : Type 0) : Type 0 where
  finished : Stand X
  within : Walk X → Cursor → List (Walk X) → Stand X

module _ {X : Type 0} where
  -- the actions of some phases
  abbrev pub all_of : List (Walk X) → List (Action X)
  all_of [] = []
  all_of (w ∷ ws) = actions (batch_of w) ++ all_of ws

  abbrev pub begin_with : List (Walk X) → Stand X
  begin_with [] = finished
  begin_with (w ∷ ws) = within w (begins w) ws

  -- one step: the next action of this phase, or on to the next phase
  abbrev pub advance : Stand X → Stand X × List (Action X)
  advance finished = (finished, [])
  advance (within w (putting d l j k) ws) = (within w (tick w (putting d l j k)).0 ws, (tick w (putting d l j k)).1)
  advance (within w (flushing d zero) ws) = (begin_with ws, [])
  advance (within w (flushing d (suc l)) ws) = (within w (tick w (flushing d (suc l))).0 ws, (tick w (flushing d (suc l))).1)

  abbrev pub to_do : Stand X → List (Action X)
  to_do finished = []
  to_do (within w p ws) = left w p ++ all_of ws

  pub begins_all : (ws : List (Walk X)) → to_do (begin_with ws) ≡ all_of ws
  begins_all [] = refl
  begins_all (w ∷ ws) = ap (λ (y : List (Action X)). y ++ all_of ws) (walk_begins w)

  onward : (w : Walk X) (p : Cursor) (ws : List (Walk X)) → left w p ++ all_of ws ≡ (tick w p).1 ++ (left w (tick w p).0 ++ all_of ws)
  onward w p ws = ap (λ (y : List (Action X)). y ++ all_of ws) (walks w p) ∙ append_assoc (tick w p).1 (left w (tick w p).0) (all_of ws)

  -- EACH STEP does the first of what is to be done, or nothing, and the rest is still to be done
  pub advances : (x : Stand X) → to_do x ≡ (advance x).1 ++ to_do (advance x).0
  advances finished = refl
  advances (within w (putting d l j k) ws) = onward w (putting d l j k) ws
  advances (within w (flushing d zero) ws) = sym (begins_all ws)
  advances (within w (flushing d (suc l)) ws) = onward w (flushing d (suc l)) ws

-- the walks of the program's batches
module _ {X : Type 0} {n : ℕ} (C : LabelCodec X n) (K : RecordCodec X) where
  abbrev pub label_phase : Label → ℕ → (ℕ → Bool) → Walk X
  label_phase l n p = record { a = 0; n = n; test = p; b = 0; c = 1; place = there C l; value = told C l; first_flush = 0; flushes_n = n; flush_test = p }

  abbrev pub flush_phase : ℕ → (ℕ → Bool) → Walk X
  flush_phase n p = record { a = 0; n = 0; test = p; b = 0; c = 0; place = log; value = λ k. K.zeros; first_flush = 0; flushes_n = n; flush_test = p }

  abbrev pub prep_phase : Image X → ℕ → Label → ℕ → (ℕ → Bool) → Walk X
  prep_phase f g l n p = record { a = 0; n = n; test = λ d. p d && not (prepared C f g d); b = 0; c = 1; place = λ d j. label d (C.side g); value = prep_value C f g l; first_flush = 0; flushes_n = n; flush_test = λ d. p d && not (prepared C f g d) }

  abbrev pub log_phase : Belief → ℕ → Write X → Walk X
  log_phase B σ w = record { a = 0; n = B.n; test = λ d. B.believe d w.stripe && w.changes d; b = 0; c = suc K.c; place = log; value = logged K σ w; first_flush = 0; flushes_n = B.n; flush_test = λ d. B.believe d w.stripe && w.changes d }

  abbrev pub store_phase : Belief → ℕ → (ℕ → Bool) → (ℕ → ℕ → X) → Walk X
  store_phase B t ch v = record { a = 0; n = B.n; test = λ d. B.believe d t && ch d; b = 0; c = K.c; place = λ d j. strip d t j; value = stored K v; first_flush = 0; flushes_n = B.n; flush_test = λ d. B.believe d t && ch d }

  abbrev pub kill_phase : Belief → Image X → Walk X
  kill_phase B f = record { a = 0; n = B.n; test = λ d. B.look d && eqb (K.stamp (f (log d K.c))) (key K B f (lead K B f)); b = 0; c = 1; place = λ d j. log d K.c; value = λ k. K.zeros; first_flush = 0; flushes_n = B.n; flush_test = λ d. B.look d && eqb (K.stamp (f (log d K.c))) (key K B f (lead K B f)) }

  abbrev pub fill_phase : Label → ℕ → (ℕ → ℕ → X) → Walk X
  fill_phase Q more v = record { a = Q.mark; n = more; test = λ t. true; b = 0; c = K.c; place = λ t j. strip Q.rebuilding t j; value = filled K v; first_flush = Q.rebuilding; flushes_n = 1; flush_test = λ e. true }

  -- the log part of start-up: nothing, forward or kill
  abbrev pub redo_phases : Belief → Image X → List (Walk X)
  redo_phases B f = cond (eqb (key K B f (lead K B f)) 0) [] (cond (whole K B f) (store_phase B (K.stripe_of (tail K B f)) (K.changes_of (tail K B f)) (redone K B f) ∷ []) (kill_phase B f ∷ []))

module _ {X : Type 0} (z : Size) (W : Quorum z.n) (C : LabelCodec X z.n) (K : RecordCodec X) (E : Code X z.n K.c W) (S : Stamps) (R : Medium z W C K E S) where
  -- START-UP: flushes, level, once more, the settled label, prep, adopt, and the log part
  abbrev pub start_walks : (ℕ → Bool) → Image X → List (Walk X)
  start_walks A f =
      flush_phase C K z.n (λ d. not (A d))
      ∷ label_phase C K (L z C A f) z.n (λ d. not (gone z C A f d))
      ∷ label_phase C K (again (L z C A f) (suc (M z C A f))) z.n (λ d. not (gone z C A f d))
      ∷ label_phase C K (settled z C K A f) z.n (λ d. not (gone z C A f d))
      ∷ prep_phase C K f (suc (M z C A f)) (settled z C K A f) z.n (λ d. not (A d) && stale z C A f d)
      ∷ label_phase C K (settled z C K A f) z.n (λ d. not (A d) && stale z C A f d)
      ∷ redo_phases C K (belief z (settled z C K A f)) f

  -- BEGIN: flush d, zeros over the label sectors that are another shelf's, wipe its log, prep it, and a round
  abbrev pub expel_phase : Image X → Bool → ℕ → Walk X
  expel_phase f s d = record { a = d; n = 1; test = alien C f s; b = 0; c = 1; place = λ e j. label e s; value = λ k. C.zeros; first_flush = d; flushes_n = 1; flush_test = alien C f s }

  abbrev pub begin_walks : Image X → Label → ℕ → (ℕ → Bool) → List (Walk X)
  begin_walks f Q d A =
      record { a = d; n = 0; test = λ e. true; b = 0; c = 0; place = log; value = λ k. K.zeros; first_flush = d; flushes_n = 1; flush_test = λ e. true }
      ∷ expel_phase f (not (last_side C f d)) d
      ∷ expel_phase f (last_side C f d) d
      ∷ record { a = d; n = 1; test = λ e. true; b = 0; c = suc K.c; place = log; value = λ k. K.zeros; first_flush = d; flushes_n = 1; flush_test = λ e. true }
      ∷ record { a = d; n = 1; test = λ e. not (prepared C f Q.generation e); b = 0; c = 1; place = λ e j. label e (C.side Q.generation); value = prep_value C f Q.generation Q; first_flush = d; flushes_n = 1; flush_test = λ e. not (prepared C f Q.generation e) }
      ∷ label_phase C K (begun Q d) z.n (λ e. not (A e))
      ∷ []
