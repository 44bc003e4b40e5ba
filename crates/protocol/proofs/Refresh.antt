-- A REFRESH: a write of what a strip should hold already. The table stays as it is, and whatever a cut leaves at any moment of its log and of its strips, the
-- shelf is at rest with that table. A repair is such a write, seen from a shelf on which no sector ever changed by itself. Assumes nothing.
use Prim.Native.Nat.{ℕ, suc, ◌≤◌, ◌<◌}
use Rattle.std.specs.Prelude.{◌≡◌, Bool, ◌++◌}
use Rattle.std.proofs.Math.Path.{refl, subst}
use Rattle.std.proofs.Common.{sym, ⊎_elim, arith}
use Rattle.std.proofs.Math.Bool.{true}
use Rattle.std.proofs.Math.Logic.{inr}
use Rattle.protocol.specs.World.{Place, strip, Image, World, run, Sane, Always, During, sane_run, during_map, during_append, during_end}
use Rattle.protocol.specs.Batch.{Kept, Covered, Done, stage}
use Rattle.protocol.specs.Slots.{in_rows, of_rows, rows_slots}
use Rattle.protocol.specs.Log.{Write, RecordCodec, Belief, Table, Wrote, Complete, Old, Quiet, old_strip}
use Rattle.protocol.specs.Write.{involved, log_write, store, store_batch, stored_sectors, stored_in, stored_of}
use Rattle.protocol.proofs.Write.{of_involved, in_involved}
use Rattle.protocol.specs.Label.{Label, Size, belief, Quorum, LabelCodec}
use Rattle.protocol.specs.Decide.{Rest}
use Rattle.protocol.proofs.Decide.{labels_data}
use Rattle.protocol.proofs.Request.{log_rest}
use Rattle.protocol.specs.Refresh.{Stored, B, R, P}

-- whatever the shelf holds: when strips are stored and flushed, they are there
pub store_done : {X : Type 0} (K : RecordCodec X) (B : Belief) (t : ℕ) (ch : ℕ → Bool) (v : ℕ → ℕ → X) (w : World X) → Sane w → Always (run w (store K B t ch v)) (Stored K B t ch v)
unfolding store_batch Kept Covered Done Always
store_done {X} K B t ch v w sane =
    (stage (λ (f : Image X). Unit {0}) (Stored K B t ch v) w (store_batch K B t ch v) sane (λ f p. tt) (λ k m f o. tt)
    (rows_slots (λ d j. strip d t j) (stored_sectors K) (involved B t ch) (λ d j. refl))
    (λ f o done d j a b i. done (strip d t j) (in_rows (λ d j. strip d t j) (stored_sectors K) (involved B t ch) d j (in_involved B t ch d a b) (stored_in K j i)))
    ).1

module _ {X : Type 0} (K : RecordCodec X) (B : Belief) (history : ℕ → Write X) (u : ℕ) (s : Table X) where
  -- the write under way writes what is there: nothing is undecided
  old_refresh : (f : Image X) → ((d j : ℕ) → (history u).changes d ≡ true → j < K.c → (history u).new d j ≡ s (history u).stripe d j) → Old K B history u u s f → Quiet K B history u s f
  unfolding Quiet Complete
  old_refresh f right o =
      record {
        logs = o.logs;
        strips = o.strips;
        records = λ d τ a p. inr (⊎_elim (λ q. is_u d τ (o.logs.real d K.c τ a (omega arith) (p K.c (omega arith))).1 q) (λ q. q) (o.records d τ a p));
      }
    where
      is_u : (d τ : ℕ) → (history (suc τ)).changes d ≡ true → suc τ ≡ u → (j : ℕ) → j < K.c → (history (suc τ)).new d j ≡ s (history (suc τ)).stripe d j
      is_u d τ c q j i = subst (λ (x : ℕ). (history x).changes d ≡ true → (history x).new d j ≡ s (history x).stripe d j) (sym q) (λ e. right d j e i) c

module _ {X : Type 0} (z : Size) (W : Quorum z.n) (C : LabelCodec X z.n) (K : RecordCodec X) (history history' : ℕ → Write X) (u σ : ℕ) (s : Table X) (Q : Label) (above : u < σ) (same : (τ : ℕ) → τ ≤ u → history τ ≡ history' τ)
    (right : (d j : ℕ) → (history' σ).changes d ≡ true → j < K.c → (history' σ).new d j ≡ s (history' σ).stripe d j) (fits : K.Fits σ (history' σ)) where
  wrote : Wrote z.n K.c (history' σ) s s
  wrote = record { changed = right; same = λ t d j i n. refl }

  refresh_log : (w : World X) → Sane w → Always w (Rest z W C K history u Q s) → During w (log_write K (belief z Q) σ (history' σ)) (Rest z W C K history' σ Q s)
  refresh_log w sane h =
      during_map (λ f. (P z W C K history history' u σ s Q above same right fits) f × Old K (B z W C K history history' u σ s Q above same right fits) history' σ σ s f) (R z W C K history history' u σ s Q above same right fits) w (log_write K (B z W C K history history' u σ s Q above same right fits) σ (history' σ)) (λ f o. record { labels = o.0; quiet = old_refresh K (B z W C K history history' u σ s Q above same right fits) history' σ s f right o.1 })
      (log_rest z W C K history history' u σ s s Q above same wrote fits w sane h).0

  refresh_store : (w : World X) → Sane w → Always w (Rest z W C K history' σ Q s) → During w (store K (belief z Q) (history' σ).stripe (history' σ).changes (history' σ).new) (Rest z W C K history' σ Q s)
  unfolding store_batch Kept Covered Done Quiet
  refresh_store w sane h =
      let t = (history' σ).stripe in
      let ch = (history' σ).changes in
      let v = (history' σ).new in
      let ds = involved (B z W C K history history' u σ s Q above same right fits) t ch in
      let place : ℕ → ℕ → Place = λ d j. strip d t j in
      (stage (R z W C K history history' u σ s Q above same right fits) (R z W C K history history' u σ s Q above same right fits) w (store_batch K (B z W C K history history' u σ s Q above same right fits) t ch v) sane h
      (λ k m f o.
      let y = of_rows place (stored_sectors K) ds k m in
      let i = of_involved (B z W C K history history' u σ s Q above same right fits) t ch y.0 y.2 in
      let q : v y.0 y.1 ≡ s t y.0 y.1 = right y.0 y.1 i.1 (stored_of K y.1 y.3) in
      rw y.4 (record {
        labels = labels_data z W C Q Q Q.generation Q.out f (strip y.0 t y.1) (v y.0 y.1) refl o.labels;
        quiet = old_strip K (B z W C K history history' u σ s Q above same right fits) history' σ 0 s f y.0 t y.1 (v y.0 y.1) q o.quiet;
      }))
      (rows_slots place (stored_sectors K) ds (λ d j. refl))
      (λ f o done. o)
      ).0

  -- at rest all the while
  pub refresh : (w : World X) → Sane w → Always w (Rest z W C K history u Q s) → During w (log_write K (belief z Q) σ (history' σ) ++ store K (belief z Q) (history' σ).stripe (history' σ).changes (history' σ).new) (Rest z W C K history' σ Q s)
  refresh w sane h =
      let l = log_write K (belief z Q) σ (history' σ) in
      let a = refresh_log w sane h in
      during_append (R z W C K history history' u σ s Q above same right fits) w l (store K (belief z Q) (history' σ).stripe (history' σ).changes (history' σ).new) a (refresh_store (run w l) (sane_run w l sane) (during_end (R z W C K history history' u σ s Q above same right fits) w l a))
