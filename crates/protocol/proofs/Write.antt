-- The write request: log, flush (`log_safe`), strips, flush (`strips_safe`). Whatever a cut leaves at any moment, the shelf is in the old state or in the new one;
-- at the end it is quiet, with the new table.
use Prim.Native.Nat.{ℕ, suc, ◌≤◌, ◌<◌}
use Rattle.std.specs.Prelude.{◌≡◌, Bool, true, ◌&&◌}
use Rattle.std.proofs.Math.Path.{refl, sym, ap}
use Rattle.std.proofs.Common.{◌∙◌, inr, arith}
use mathlib.Core.List.{List, Memᴰ}
use Rattle.protocol.specs.World.{Place, log, strip, World, run, Sane, Always, During, always_map}
use Rattle.protocol.specs.Batch.{Kept, Covered, Done, stage}
use Rattle.protocol.specs.Slots.{in_from, of_from, in_slots, of_slots, in_rows, of_rows, rows_slots}
use Rattle.protocol.specs.Log.{Write, RecordCodec, Belief, Table, Wrote, Complete, Old, New, Quiet, Fit, old_log, new_strip, old_new, new_quiet, quiet_old}
use Rattle.protocol.specs.Write.{both, involved, logged_sectors, stored_sectors, stored_in, log_batch, store_batch, log_write, store}

pub of_involved : (B : Belief) (t : ℕ) (ch : ℕ → Bool) (d : ℕ) → Memᴰ d (involved B t ch) → (B.believe d t ≡ true) × (ch d ≡ true)
unfolding involved
of_involved B t ch d m = both (B.believe d t) (ch d) (of_slots (λ e. B.believe e t && ch e) B.n d m).1

pub in_involved : (B : Belief) (t : ℕ) (ch : ℕ → Bool) (d : ℕ) → B.believe d t ≡ true → ch d ≡ true → Memᴰ d (involved B t ch)
unfolding involved
in_involved B t ch d a b = in_slots (λ e. B.believe e t && ch e) B.n d (B.look_n d (B.believe_look d t a)) (rw (a, b))

module _ {X : Type 0} (K : RecordCodec X) where
  pub logged_in : (j : ℕ) → j ≤ K.c → Memᴰ j (logged_sectors K)
  unfolding logged_sectors
  logged_in j h = in_from (suc K.c) 0 j (omega arith) (omega arith)

  pub logged_of : (j : ℕ) → Memᴰ j (logged_sectors K) → j ≤ K.c
  unfolding logged_sectors
  logged_of j m = omega (arith, of_from (suc K.c) 0 j m)

module _ {X : Type 0} (K : RecordCodec X) (B : Belief) (history : ℕ → Write X) (u : ℕ) (s' : Table X) where
  -- from the log into the strips, whoever does it
  pub strips_safe : (w : World X) (v : ℕ → ℕ → X) → Sane w → Always w (New K B history u s') → ((d j : ℕ) → B.believe d (history u).stripe ≡ true → (history u).changes d ≡ true → j < K.c → v d j ≡ s' (history u).stripe d j) → During w (store K B (history u).stripe (history u).changes v) (New K B history u s') × Always (run w (store K B (history u).stripe (history u).changes v)) (Quiet K B history u s')
  unfolding store_batch Kept Covered Done
  strips_safe w v sane h right =
      stage (New K B history u s') (Quiet K B history u s') w (store_batch K B (history u).stripe (history u).changes v) sane h
      (λ k m f o. let y = of_rows place (stored_sectors K) ds k m in rw y.4 (new_strip K B history u s' f y.0 (history u).stripe y.1 (v y.0 y.1) refl (of_involved B (history u).stripe (history u).changes y.0 y.2).1 o))
      (rows_slots place (stored_sectors K) ds (λ d j. refl))
      (λ f o done. new_quiet K B history u s' f (λ d j a b g. done (strip d (history u).stripe j) (in_rows place (stored_sectors K) ds d j (in_involved B (history u).stripe (history u).changes d a b) (stored_in K j (omega arith))) ∙ right d j a b g) o)
    where
      place : ℕ → ℕ → Place
      place d j = strip d (history u).stripe j

      ds : List ℕ
      ds = involved B (history u).stripe (history u).changes

-- The promise of the write request. Before: quiet with table s, no stamp above u. The write gets a stamp σ above u and makes table s'.
module _ {X : Type 0} (K : RecordCodec X) (B : Belief) (history history' : ℕ → Write X) (u σ : ℕ) (s s' : Table X) (above : u < σ) (same : (τ : ℕ) → τ ≤ u → history τ ≡ history' τ) (wrote : Wrote B.n K.c (history' σ) s s') (fits : K.Fits σ (history' σ)) where
  -- step 2 and 3: old all the while; then safe
  pub log_safe : (w : World X) → Sane w → Always w (Quiet K B history u s) → During w (log_write K B σ (history' σ)) (Old K B history' σ σ s) × Always (run w (log_write K B σ (history' σ))) (New K B history' σ s')
  unfolding log_batch Kept Covered Done Complete Fit
  log_safe w sane h =
      stage (Old K B history' σ σ s) (New K B history' σ s') w (log_batch K B σ (history' σ)) sane (always_map (Quiet K B history u s) (Old K B history' σ σ s) w (λ f. quiet_old K B history history' u same σ s f (omega arith)) h)
      (λ k m f o.
      let y = of_rows log (logged_sectors K) ds k m in
      let i = of_involved B (history' σ).stripe (history' σ).changes y.0 y.2 in
      let e : K.stamp (K.sector σ (history' σ) y.0 y.1) ≡ σ = K.stamp_sector σ (history' σ) y.0 y.1 fits (logged_of K y.1 y.3) in
      rw y.4 (old_log K B history' σ σ s f y.0 y.1 (K.sector σ (history' σ) y.0 y.1) (logged_of K y.1 y.3) (inr (refl, i.1, i.0, fits)) (λ τ z. sym z ∙ e) o))
      (rows_slots log (logged_sectors K) ds (λ d j. refl))
      (λ f o done. old_new K B history' σ s s' f wrote (λ d a b j g. ap K.stamp (done (log d j) (in_rows log (logged_sectors K) ds d j (in_involved B (history' σ).stripe (history' σ).changes d a b) (logged_in K j (omega arith)))) ∙ K.stamp_sector σ (history' σ) d j fits g) o)
    where
      ds : List ℕ
      ds = involved B (history' σ).stripe (history' σ).changes
