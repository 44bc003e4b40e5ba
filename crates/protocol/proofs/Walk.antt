-- COUNTERS INSTEAD OF LISTS. A batch that goes over a range of slots (or stripes), and over a range of sectors of each, can be carried out by a machine that
-- remembers where it is: slot and sector. Each tick does the next action, or moves on without one. It does what the list says, in that order (`walks`).
use Prim.Native.Nat.{ℕ, zero, suc}
use Rattle.std.specs.Prelude.{◌≡◌, Bool, true, false, cond, ◌&&◌, eqb}
use Rattle.std.proofs.Math.Path.{refl, ap}
use Rattle.std.proofs.Math.Bool.{not}
use mathlib.Core.List.{List, [], ◌∷◌}
use Rattle.protocol.specs.World.{label, log, strip, Image}
use Rattle.protocol.specs.Slots.{from, keep, slots, rows}
use Rattle.protocol.specs.Log.{Write, RecordCodec, Belief}
use Rattle.protocol.specs.Write.{logged, stored, logged_sectors, stored_sectors, involved, log_batch, store_batch}
use Rattle.protocol.specs.Redo.{key, lead, marked, kill_batch}
use Rattle.protocol.specs.Label.{Label, LabelCodec, there, told, round_batch, prepared, prep_value, prep_places, prep_batch}
use Rattle.protocol.specs.Rebuild.{wiped_sectors, filled_sectors, wipe_batch, filled, fill_batch}
use Rattle.protocol.specs.Walk.{batch_of}

-- THE BATCHES of the program are such walks
module _ {X : Type 0} {n : ℕ} (C : LabelCodec X n) (K : RecordCodec X) (B : Belief) where
  pub round_walk : (l : Label) (n : ℕ) (p : ℕ → Bool) → round_batch C l (slots n p) ≡ batch_of (record { a = 0; n = n; test = p; b = 0; c = 1; place = there C l; value = told C l; first_flush = 0; flushes_n = n; flush_test = p })
  unfolding round_batch slots
  round_walk l n p = refl

  pub log_walk : (σ : ℕ) (w : Write X) → log_batch K B σ w ≡ batch_of (record { a = 0; n = B.n; test = λ d. B.believe d w.stripe && w.changes d; b = 0; c = suc K.c; place = log; value = logged K σ w; first_flush = 0; flushes_n = B.n; flush_test = λ d. B.believe d w.stripe && w.changes d })
  unfolding log_batch involved slots logged_sectors
  log_walk σ w = refl

  pub store_walk : (t : ℕ) (ch : ℕ → Bool) (v : ℕ → ℕ → X) → store_batch K B t ch v ≡ batch_of (record { a = 0; n = B.n; test = λ d. B.believe d t && ch d; b = 0; c = K.c; place = λ d j. strip d t j; value = stored K v; first_flush = 0; flushes_n = B.n; flush_test = λ d. B.believe d t && ch d })
  unfolding store_batch involved slots stored_sectors
  store_walk t ch v = refl

  pub kill_walk : (f : Image X) → kill_batch K B f ≡ batch_of (record { a = 0; n = B.n; test = λ d. B.look d && eqb (K.stamp (f (log d K.c))) (key K B f (lead K B f)); b = 0; c = 1; place = λ d j. log d K.c; value = λ k. K.zeros; first_flush = 0; flushes_n = B.n; flush_test = λ d. B.look d && eqb (K.stamp (f (log d K.c))) (key K B f (lead K B f)) })
  unfolding kill_batch marked slots
  kill_walk f = refl

  pub wipe_walk : (d : ℕ) → wipe_batch K d ≡ batch_of (record { a = d; n = 1; test = λ e. true; b = 0; c = suc K.c; place = log; value = λ k. K.zeros; first_flush = d; flushes_n = 1; flush_test = λ e. true })
  unfolding wipe_batch wiped_sectors
  wipe_walk d = refl

  pub fill_walk : (Q : Label) (more : ℕ) (v : ℕ → ℕ → X) → fill_batch K Q more v ≡ batch_of (record { a = Q.mark; n = more; test = λ t. true; b = 0; c = K.c; place = λ t j. strip Q.rebuilding t j; value = filled K v; first_flush = Q.rebuilding; flushes_n = 1; flush_test = λ e. true })
  unfolding fill_batch filled_sectors
  fill_walk Q more v = λ i. record { value = filled K v; places = rows (λ t j. strip Q.rebuilding t j) (from 0 K.c) (all_kept Q.mark more i); flushed = Q.rebuilding ∷ [] }
    where
      all_kept : (a n : ℕ) → from a n ≡ keep (λ t. true) (from a n)
      all_kept a zero = refl
      all_kept a (suc n) = ap (λ (l : List ℕ). a ∷ l) (all_kept (suc a) n)

  keep_keep : (p q : ℕ → Bool) (l : List ℕ) → keep q (keep p l) ≡ keep (λ d. p d && q d) l
  keep_keep p q [] = refl
  keep_keep p q (d ∷ l) = go (p d) (keep_keep p q l)
    where
      go : (b : Bool) → keep q (keep p l) ≡ keep (λ e. p e && q e) l → keep q (cond b (d ∷ keep p l) (keep p l)) ≡ cond (b && q d) (d ∷ keep (λ e. p e && q e) l) (keep (λ e. p e && q e) l)
      go true r = ap (λ (y : List ℕ). cond (q d) (d ∷ y) y) r
      go false r = r

  pub prep_walk : (f : Image X) (g : ℕ) (l : Label) (n : ℕ) (p : ℕ → Bool) → prep_batch C f g l (slots n p) ≡ batch_of (record { a = 0; n = n; test = λ d. p d && not (prepared C f g d); b = 0; c = 1; place = λ d j. label d (C.side g); value = prep_value C f g l; first_flush = 0; flushes_n = n; flush_test = λ d. p d && not (prepared C f g d) })
  unfolding prep_batch prep_places slots
  prep_walk f g l n p =
      let e = keep_keep p (λ d. not (prepared C f g d)) (from 0 n) in
      λ i. record { value = prep_value C f g l; places = rows (λ d j. label d (C.side g)) (0 ∷ []) (e i); flushed = e i }
