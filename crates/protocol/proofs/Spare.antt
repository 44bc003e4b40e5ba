-- No action touches an absent slot: neither a put nor a flush.
use Rattle.std.specs.Prelude.{ℕ, suc, ◌<◌, ◌≡◌, refl, Bool, true, ◌&&◌}
use Rattle.std.proofs.Math.Bool.{false, not}
use Rattle.std.proofs.Common.{inr}
use mathlib.Core.List.Memᴰ
use mathlib.Core.List.{List, [], ◌∷◌, ◌++◌, Memᴰ}
use borrow.Author.Tests.{not-true}
use Rattle.protocol.proofs.Told.{rounds_told, turn_told}
use Rattle.protocol.specs.World.{label, log, strip, slot, Image, Action}
use Rattle.protocol.specs.Batch.{flushes, Each, each_append, each_batch, each_map}
use Rattle.protocol.specs.Slots.{from, keep, of_keep, of_slots, of_rows}
use Rattle.protocol.specs.Log.{Write, RecordCodec}
use Rattle.protocol.specs.Write.{both, log_write, store}
use Rattle.protocol.specs.Redo.{redo}
use Rattle.protocol.specs.Label.{Label, again, alien, last_side, expel, expel_batch, prep, prepared, prep_batch, Size, looked, belief, Quorum, LabelCodec, round, round_batch, there}
use Rattle.protocol.proofs.Label.{of_prep, look_of, look_is}
use Rattle.protocol.specs.Startup.{gone, stale, parts, late, level_to, again_to, last_to, rounds, L, M}
use Rattle.protocol.proofs.Startup.{gone_absent, without_gone}
use Rattle.protocol.specs.Decide.{Touch, Looked, in_turn, settled, startup}
use Rattle.protocol.proofs.Decide.{log_each, strips_each, redo_each}
use Rattle.protocol.specs.Rebuild.{begun, wipe, wipe_batch, wiped_sectors, filled_sectors, flushed_at_begin, expel_first, beginning, fill, fill_batch}
use Rattle.protocol.specs.Spare.{Spares, Far, Not, flushes_spares}

module _ {X : Type 0} (z : Size) (W : Quorum z.n) (C : LabelCodec X z.n) (K : RecordCodec X) (absent : ℕ → Bool) where
  pub round_spares : (l : Label) (ds : List ℕ) → ((d : ℕ) → Memᴰ d ds → absent d ≡ false) → Spares absent (round C l ds)
  unfolding round_batch
  round_spares l ds h =
      each_batch (Far z W C K absent) (Not z W C K absent) (round_batch C l ds)
      (λ k m. let y = of_rows (there C l) (0 ∷ []) ds k m in rw y.4 (h y.0 y.2)) h

  dark_spares : (Q : Label) → ((d : ℕ) → absent d ≡ true → looked z Q d ≡ true → ⊥) → (d : ℕ) → looked z Q d ≡ true → absent d ≡ false
  dark_spares Q dark d l = go (absent d) refl
    where
      go : (b : Bool) → absent d ≡ b → absent d ≡ false
      go true e = absurd (dark d e l)
      go false e = e

  touch_spares : (Q : Label) → ((d : ℕ) → looked z Q d ≡ true → absent d ≡ false) → (l : List (Action X)) → Each (Touch (belief z Q)) (Looked (belief z Q)) l → Spares absent l
  unfolding Touch belief
  touch_spares Q h l e = each_map (Touch (belief z Q)) (Far z W C K absent) (Looked (belief z Q)) (Not z W C K absent) (λ k t. h (slot k) t.1) h l e

  pub log_spares : (Q : Label) → ((d : ℕ) → absent d ≡ true → looked z Q d ≡ true → ⊥) → (σ : ℕ) (w : Write X) → Spares absent (log_write K (belief z Q) σ w)
  log_spares Q dark σ w = touch_spares Q (dark_spares Q dark) (log_write K (belief z Q) σ w) (log_each K (belief z Q) σ w)

  pub store_spares : (Q : Label) → ((d : ℕ) → absent d ≡ true → looked z Q d ≡ true → ⊥) → (t : ℕ) (ch : ℕ → Bool) (v : ℕ → ℕ → X) → Spares absent (store K (belief z Q) t ch v)
  store_spares Q dark t ch v = touch_spares Q (dark_spares Q dark) (store K (belief z Q) t ch v) (strips_each K (belief z Q) t ch v)

  pub wipe_spares : (d : ℕ) → absent d ≡ false → Spares absent (wipe K d)
  unfolding wipe_batch
  wipe_spares d h =
      each_batch (Far z W C K absent) (Not z W C K absent) (wipe_batch K d)
      (λ k m. let y = of_rows log (wiped_sectors K) (d ∷ []) k m in rw (y.4, Memᴰ.eq_of_singleton y.2) h) (λ e m. rw (Memᴰ.eq_of_singleton m) h)

  pub prep_spares : (f : Image X) (g : ℕ) (l : Label) (ds : List ℕ) → ((d : ℕ) → Memᴰ d ds → absent d ≡ false) → Spares absent (prep C f g l ds)
  unfolding prep_batch
  prep_spares f g l ds h =
      let es = keep (λ d. not (prepared C f g d)) ds in
      let low : (d : ℕ) → Memᴰ d es → absent d ≡ false = λ d m. h d (of_keep (λ e. not (prepared C f g e)) ds d m).0 in
      each_batch (Far z W C K absent) (Not z W C K absent) (prep_batch C f g l ds)
      (λ k m. let y = of_prep C g es k m in rw y.2 (low y.0 y.1)) low

  expel_spares : (f : Image X) (b : Bool) (d : ℕ) → absent d ≡ false → Spares absent (expel C f b (d ∷ []))
  unfolding expel_batch
  expel_spares f b d h =
      let low : (e : ℕ) → Memᴰ e (keep (alien C f b) (d ∷ [])) → absent e ≡ false = λ e m. rw (Memᴰ.eq_of_singleton (of_keep (alien C f b) (d ∷ []) e m).0) h in
      each_batch (Far z W C K absent) (Not z W C K absent) (expel_batch C f b (d ∷ []))
      (λ k m. let y = of_rows (λ e j. label e b) (0 ∷ []) (keep (alien C f b) (d ∷ [])) k m in rw y.4 (low y.0 y.2)) low

  pub begin_spares : (f : Image X) (Q : Label) (d : ℕ) (ds : List ℕ) → absent d ≡ false → ((e : ℕ) → Memᴰ e ds → absent e ≡ false) → Spares absent (beginning K C f Q d ds)
  unfolding flushed_at_begin expel_first
  begin_spares f Q d ds h g =
      let A0 : List (Action X) = flushes (flushed_at_begin K d) in
      let X1 = expel C f (not (last_side C f d)) (d ∷ []) in
      let X2 = expel C f (last_side C f d) (d ∷ []) in
      let A1 = wipe K d in
      let A2 = prep C f Q.generation Q (d ∷ []) in
      let A3 = round C (begun Q d) ds in
      each_append (Far z W C K absent) (Not z W C K absent) A0 ((X1 ++ X2) ++ (A1 ++ (A2 ++ A3))) ((flushes_spares z W C K absent) (flushed_at_begin K d) (λ e m. rw (Memᴰ.eq_of_singleton m) h))
      (each_append (Far z W C K absent) (Not z W C K absent) (X1 ++ X2) (A1 ++ (A2 ++ A3)) (each_append (Far z W C K absent) (Not z W C K absent) X1 X2 (expel_spares f (not (last_side C f d)) d h) (expel_spares f (last_side C f d) d h)) (each_append (Far z W C K absent) (Not z W C K absent) A1 (A2 ++ A3) (wipe_spares d h) (each_append (Far z W C K absent) (Not z W C K absent) A2 A3 (prep_spares f Q.generation Q (d ∷ []) (λ e m. rw (Memᴰ.eq_of_singleton m) h)) (round_spares (begun Q d) ds g))))

  pub fill_spares : (Q : Label) → ((d : ℕ) → absent d ≡ true → looked z Q d ≡ true → ⊥) → Q.rebuilding < z.n → (more : ℕ) (v : ℕ → ℕ → X) → Spares absent (fill K Q more v)
  unfolding fill_batch
  fill_spares Q dark i more v =
      let h = dark_spares Q dark Q.rebuilding (look_is z Q Q.rebuilding i (inr refl)) in
      each_batch (Far z W C K absent) (Not z W C K absent) (fill_batch K Q more v)
      (λ k m. let y = of_rows (λ t j. strip Q.rebuilding t j) (filled_sectors K) (from Q.mark more) k m in rw y.4 h) (λ e m. rw (Memᴰ.eq_of_singleton m) h)

  pub startup_spares : (f : Image X) → Spares absent (startup z C K absent f)
  unfolding startup in_turn rounds level_to again_to last_to
  startup_spares f =
      let told1 = rounds_told in
      let told2 = turn_told in
      let ps : (d : ℕ) → Memᴰ d (parts z C absent f) → absent d ≡ false = λ d m. let y = of_slots (λ e. not (gone z C absent f e)) z.n d m in gone_absent z W C absent f d y.0 (not-true (gone z C absent f d) y.1) in
      let ls : (d : ℕ) → Memᴰ d (late z C absent f) → absent d ≡ false = λ d m. not-true (absent d) (both (not (absent d)) (stale z C absent f d) (of_slots (λ e. not (absent e) && stale z C absent f e) z.n d m).1).0 in
      let m = M z C absent f in
      let S = settled z C K absent f in
      let A1 = round C (L z C absent f) (level_to z C absent f) in
      let A2 = round C (again (L z C absent f) (suc m)) (again_to z C absent f) in
      let A3 = round C S (last_to z C absent f) in
      let A4 = prep C f (suc m) S (late z C absent f) in
      let A5 = round C S (late z C absent f) in
      each_append (Far z W C K absent) (Not z W C K absent) (A1 ++ (A2 ++ (A3 ++ (A4 ++ A5)))) (redo K (belief z S) f)
      (each_append (Far z W C K absent) (Not z W C K absent) A1 (A2 ++ (A3 ++ (A4 ++ A5))) (round_spares (L z C absent f) (level_to z C absent f) ps)
      (each_append (Far z W C K absent) (Not z W C K absent) A2 (A3 ++ (A4 ++ A5)) (round_spares (again (L z C absent f) (suc m)) (again_to z C absent f) ps)
      (each_append (Far z W C K absent) (Not z W C K absent) A3 (A4 ++ A5) (round_spares S (last_to z C absent f) ps)
      (each_append (Far z W C K absent) (Not z W C K absent) A4 A5 (prep_spares f (suc m) S (late z C absent f) ls) (round_spares S (late z C absent f) ls)))))
      (touch_spares S (λ d l. gone_absent z W C absent f d (look_of z S d l).0 (without_gone z (L z C absent f) (gone z C absent f) (suc (suc m)) d l)) (redo K (belief z S) f) (redo_each K (belief z S) f))
