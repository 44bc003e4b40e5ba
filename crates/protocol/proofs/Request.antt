-- The requests of a shelf at rest: write, take a slot out, begin to rebuild one, rebuild on. Each goes from rest to rest; a cut at any moment
-- leaves the invariant, with nothing undecided but the one write.
use Rattle.std.specs.Prelude.{ℕ, suc, ◌≤◌, ◌<◌, true, false}
use Rattle.std.proofs.Math.Path.{◌≡◌, refl}
use Rattle.std.proofs.Common.{⊎_elim}
use Rattle.std.proofs.Math.Logic.{inl, inr}
use mathlib.Core.List.{List, Memᴰ}
use native.Mathlib.Omega.{arith}
use Rattle.std.proofs.Math.Dec.{eqb}
use Rattle.protocol.specs.World.{Image, World, run, Sane, Always, During, always_map, during_map, during_end}
use Rattle.protocol.specs.Batch.{each_during, during_both}
use Rattle.protocol.specs.Log.{Write, RecordCodec, Table, Wrote, Old, New, Quiet, within_self}
use Rattle.protocol.specs.Write.{store, log_write}
use Rattle.protocol.proofs.Write.{log_safe, strips_safe}
use Rattle.protocol.specs.Label.{Label, Size, belief, Quorum, LabelCodec, Aged, aged_less, round, MayRule, Labels, Only, Bare, only_start}
use Rattle.protocol.proofs.Label.{round_only, labels_settle}
use Rattle.protocol.specs.Startup.{Framed, Shelf}
use Rattle.protocol.proofs.Startup.{without_narrow}
use Rattle.protocol.specs.Decide.{Touch, Looked, quiet_framed, Rest}
use Rattle.protocol.proofs.Decide.{log_each, strips_each, labels_data}
use Rattle.protocol.specs.Request.{outed, framed_bare, QuietB}

module _ {X : Type 0} (z : Size) (W : Quorum z.n) (C : LabelCodec X z.n) (K : RecordCodec X) where
  -- WRITE, steps 2 and 3. All the while: old. Then: safe.
  pub log_rest : (history history' : ℕ → Write X) (u σ : ℕ) (s s' : Table X) (Q : Label) → u < σ → ((τ : ℕ) → τ ≤ u → history τ ≡ history' τ) → Wrote z.n K.c (history' σ) s s' → K.Fits σ (history' σ) → (w : World X) → Sane w → Always w (Rest z W C K history u Q s) → During w (log_write K (belief z Q) σ (history' σ)) (λ f. Labels z W C Q Q Q.generation Q.out f × Old K (belief z Q) history' σ σ s f) × Always (run w (log_write K (belief z Q) σ (history' σ))) (λ f. Labels z W C Q Q Q.generation Q.out f × New K (belief z Q) history' σ s' f)
  unfolding Always Touch belief
  log_rest history history' u σ s s' Q above same wr fits w sane h =
      let B = belief z Q in
      let P : Image X → Type 0 = Labels z W C Q Q Q.generation Q.out in
      let acts = log_write K B σ (history' σ) in
      let a : During w acts P = each_during (Touch B) (Looked B) P (λ f k v t o. labels_data z W C Q Q Q.generation Q.out f k v t.0 o) w acts sane (λ f p. (h f p).labels) (log_each K B σ (history' σ)) in
      let b = log_safe K B history history' u σ s s' above same wr fits w sane (λ f p. (h f p).quiet) in
      (during_both P (Old K B history' σ σ s) w acts a b.0, λ f p. (during_end P w acts a f p, b.1 f p))

  -- WRITE, steps 4 and 5. All the while: safe. Then: at rest, with the new table.
  pub store_rest : (history : ℕ → Write X) (σ : ℕ) (s s' : Table X) (Q : Label) → Wrote z.n K.c (history σ) s s' → (w : World X) → Sane w → Always w (λ f. Labels z W C Q Q Q.generation Q.out f × New K (belief z Q) history σ s' f) → During w (store K (belief z Q) (history σ).stripe (history σ).changes (history σ).new) (λ f. Labels z W C Q Q Q.generation Q.out f × New K (belief z Q) history σ s' f) × Always (run w (store K (belief z Q) (history σ).stripe (history σ).changes (history σ).new)) (Rest z W C K history σ Q s')
  unfolding Always Touch belief
  store_rest history σ s s' Q wr w sane h =
      let B = belief z Q in
      let P : Image X → Type 0 = Labels z W C Q Q Q.generation Q.out in
      let acts = store K B (history σ).stripe (history σ).changes (history σ).new in
      let a : During w acts P = each_during (Touch B) (Looked B) P (λ f k v t o. labels_data z W C Q Q Q.generation Q.out f k v t.0 o) w acts sane (λ f p. (h f p).0) (strips_each K B (history σ).stripe (history σ).changes (history σ).new) in
      let b = strips_safe K B history σ s' w (history σ).new sane (λ f p. (h f p).1) (λ d j x y g. wr.changed d j y g) in
      (during_both P (New K B history σ s') w acts a b.0, λ f p. record { labels = during_end P w acts a f p; quiet = b.1 f p })

  module _ (history : ℕ → Write X) (u : ℕ) (s : Table X) where
    -- A LABEL CHANGE: one round of the next generation, over slots that are all that the new label does not call out; strips and records are right under the new label already
    pub relabel : (Q N : Label) (ds : List ℕ) → N.generation ≡ suc Q.generation → W.few N.out ≡ true → C.Fits N → ((d : ℕ) → d < z.n → N.out d ≡ false → Memᴰ d ds) → (w : World X) → Sane w → Always w (λ f. Rest z W C K history u Q s f × Quiet K (belief z N) history u s f) → During w (round C N ds) (λ f. Shelf z W C Q (QuietB z W C K history u s) f × (QuietB z W C K history u s) (belief z Q) f) × Always (run w (round C N ds)) (Rest z W C K history u N s)
    unfolding Bare
    relabel Q N ds g few fit all w sane h =
        let fr = quiet_framed K history u s in
        let E : Image X → Type 0 = λ f. (QuietB z W C K history u s) (belief z Q) f × (QuietB z W C K history u s) (belief z N) f in
        let bare : Bare z W C E = λ f d b x o. ((framed_bare z W C K) (QuietB z W C K history u s) fr (belief z Q) f d b x o.0, (framed_bare z W C K) (QuietB z W C K history u s) fr (belief z N) f d b x o.1) in
        let ok_n : MayRule z W C Q N N = record { few_out = few; same_out = λ e. absurd (omega arith); narrow = inr (omega arith, within_self (belief z N)) } in
        let start : Always w (λ f. Labels z W C Q N N.generation Q.out f × E f × Only z W C N.generation N f) =
        always_map (λ f. Rest z W C K history u Q s f × Quiet K (belief z N) history u s f) (λ f. Labels z W C Q N N.generation Q.out f × E f × Only z W C N.generation N f) w
        (λ f o. (
          record {
            few_Q = o.0.labels.few_Q;
            few_far = o.0.labels.few_Q;
            low = o.0.labels.low;
            cap = λ d b i. omega (arith, o.0.labels.cap d b i);
            near = λ d x i e j. aged_less C f d x Q.generation (omega arith) (o.0.labels.low d i e);
            fine = λ d b i p j. let y = o.0.labels.fine d b i p j in record { few_out = y.few_out; same_out = y.same_out; narrow = inl (⊎_elim (λ x. x) (λ x. x.1) y.narrow) };
          },
          (o.0.quiet, o.1),
          only_start z W C Q.generation N.generation N f (omega arith) o.0.labels.cap,
        )) h in
        let r = round_only z W C Q N N.generation Q.out N ds E bare w sane fit (omega arith) (omega arith) (omega arith) ok_n start in (
          during_map (λ f. Labels z W C Q N N.generation Q.out f × E f × Only z W C N.generation N f) (λ f. Shelf z W C Q (QuietB z W C K history u s) f × (QuietB z W C K history u s) (belief z Q) f) w (round C N ds) (λ f o. (record { Q = Q; since = inl refl; N = N; top = N.generation; far = Q.out; labels = o.0; under_Q = o.1.0; under_N = o.1.1 }, o.1.0)) r.0,
          always_map (λ f. (Labels z W C Q N N.generation Q.out f × E f × Only z W C N.generation N f) × ((d x : ℕ) → Memᴰ d ds → d < z.n → x ≤ N.generation → Aged C f d x)) (Rest z W C K history u N s) (run w (round C N ds))
              (λ f o. record { labels = labels_settle z W C N f few (λ d x i e j. o.1 d x (all d i e) i j) o.0.2 o.0.0.cap; quiet = o.0.1.1 }) r.1,
        )

    -- TAKE SLOT d OUT
    pub take_out : (Q : Label) (d : ℕ) (ds : List ℕ) → W.few (outed z.n Q d).out ≡ true → C.Fits (outed z.n Q d) → ((e : ℕ) → e < z.n → (outed z.n Q d).out e ≡ false → Memᴰ e ds) → (w : World X) → Sane w → Always w (Rest z W C K history u Q s) → During w (round C (outed z.n Q d) ds) (λ f. Shelf z W C Q (QuietB z W C K history u s) f × (QuietB z W C K history u s) (belief z Q) f) × Always (run w (round C (outed z.n Q d) ds)) (Rest z W C K history u (outed z.n Q d) s)
    unfolding Framed
    take_out Q d ds few fit all w sane h =
        relabel Q (outed z.n Q d) ds refl few fit all w sane
        (always_map (Rest z W C K history u Q s) (λ f. Rest z W C K history u Q s f × Quiet K (belief z (outed z.n Q d)) history u s f) w
        (λ f o. (o, quiet_framed K history u s (belief z Q) (belief z (outed z.n Q d)) (without_narrow z Q (λ e. eqb e d) (suc Q.generation)) f f (record { on_log = λ e j a. refl; on_strip_lem = λ e t j a. refl }) o.quiet)) h)
