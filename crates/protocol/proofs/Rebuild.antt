-- Rebuild: begin, on, healthy. A rebuild never changes the table; what a label calls rebuilt or healthy is right on disk, flushed, before any disk may hold that label.
use Prim.Native.Nat.{ℕ, suc, ◌+◌, ◌≤◌, ◌<◌}
use Rattle.std.specs.Prelude.{◌≡◌, Bool, not, ◌⊎◌}
use Rattle.std.proofs.Math.Path.{refl, ap}
use Rattle.std.proofs.Common.{sym, subst, ◌∙◌, true≢false, arith}
use Rattle.std.proofs.Math.Bool.{true, false}
use Rattle.std.proofs.Math.Logic.{⊎_elim, inl, inr}
use mathlib.Core.List.Memᴰ
use mathlib.Core.List.{List, [], ◌∷◌, ◌++◌, Memᴰ}
use Rattle.protocol.specs.World.{Place, log, strip, slot, Image, update, World, Action, run, Sane, Always, During, sane_run, always_cur, always_map, during_map, during_append, during_end, run_append}
use Rattle.protocol.specs.Batch.{flushes, flushes_during, Kept, Covered, Done, stage}
use Rattle.protocol.specs.Slots.{from, in_from, of_from, of_from_low, of_rows, in_rows, rows_slots}
use Rattle.protocol.specs.Log.{Write, RecordCodec, Table, Quiet, Fit, old_log, quiet_widen, old_spare}
use Rattle.protocol.specs.Label.{Label, Size, looked, believed, belief, Quorum, LabelCodec, round, last_side, expel, prep, Labels, Bare}
use Rattle.protocol.proofs.Label.{look_of, look_is, believe_of, believe_is, expel_safe, prep_safe, rules_self}
use Rattle.protocol.specs.Decide.{quiet_framed, Rest}
use Rattle.protocol.proofs.Decide.{labels_data}
use Rattle.protocol.specs.Request.{framed_bare}
use Rattle.protocol.proofs.Request.{relabel}
use Rattle.protocol.specs.Rebuild.{begun, wiped_sectors, filled_sectors, wipe_batch, wipe, flushed_at_begin, expel_first, beginning, fill_batch, fill, QuietB, Keeps}

module _ {X : Type 0} (K : RecordCodec X) where
  wiped_in : (j : ℕ) → j ≤ K.c → Memᴰ j (wiped_sectors K)
  unfolding wiped_sectors
  wiped_in j h = in_from (suc K.c) 0 j (omega arith) (omega arith)

  wiped_of : (j : ℕ) → Memᴰ j (wiped_sectors K) → j ≤ K.c
  unfolding wiped_sectors
  wiped_of j m = omega (arith, of_from (suc K.c) 0 j m)

  filled_in : (j : ℕ) → j < K.c → Memᴰ j (filled_sectors K)
  unfolding filled_sectors
  filled_in j h = in_from K.c 0 j (omega arith) (omega arith)

  pub begin_flushes : (d : ℕ) → Memᴰ d ((flushed_at_begin K) d)
  unfolding flushed_at_begin
  begin_flushes d = Memᴰ.head refl

  pub expel_run : (w : World X) (labels others : List (Action X)) → run w ((expel_first K) labels others) ≡ run (run w labels) others
  unfolding expel_first
  expel_run w labels others = run_append w labels others

  pub expel_during : (P : Image X → Type 0) (w : World X) (labels others : List (Action X)) → During w labels P → During (run w labels) others P → During w ((expel_first K) labels others) P
  unfolding expel_first
  expel_during P w labels others h g = during_append P w labels others h g

module _ {X : Type 0} (z : Size) (W : Quorum z.n) (C : LabelCodec X z.n) (K : RecordCodec X) (history : ℕ → Write X) (u : ℕ) (s : Table X) where
  rest_keeps : (Q : Label) (f : Image X) → Rest z W C K history u Q s f → (Keeps z W C K history u s) Q f
  rest_keeps Q f p = (record { Q = Q; since = inl refl; N = Q; top = Q.generation; far = Q.out; labels = p.labels; under_Q = p.quiet; under_N = p.quiet }, p.quiet)

  rest_wiped : (Q : Label) (d j : ℕ) (f : Image X) → j ≤ K.c → Rest z W C K history u Q s f → Rest z W C K history u Q s (update f (log d j) K.zeros)
  unfolding Quiet Fit
  rest_wiped Q d j f h o =
      record {
        labels = labels_data z W C Q Q Q.generation Q.out f (log d j) K.zeros refl o.labels;
        quiet = old_log K (belief z Q) history u 0 s f d j K.zeros h (inl K.stamp_zeros) (λ τ e. absurd (omega (arith, e, K.stamp_zeros))) o.quiet;
      }

  -- foreign copies on the disk of a slot that is out
  expel_keeps : (f0 : Image X) (Q : Label) (d : ℕ) (b : Bool) → Q.out d ≡ true → (w : World X) → Sane w → Always w (Rest z W C K history u Q s) → During w (expel C f0 b (d ∷ [])) (Rest z W C K history u Q s) × Always (run w (expel C f0 b (d ∷ []))) (Rest z W C K history u Q s)
  unfolding Bare
  expel_keeps f0 Q d b o w sane h =
      let R = Rest z W C K history u Q s in
      let P : Image X → Type 0 = λ f. Labels z W C Q Q Q.generation Q.out f × (QuietB z W C K history u s) (belief z Q) f in
      let fr = quiet_framed K history u s in
      let acts = expel C f0 b (d ∷ []) in
      let r = expel_safe z W C Q Q Q.generation Q.out f0 b (d ∷ []) ((QuietB z W C K history u s) (belief z Q)) (framed_bare z W C K (QuietB z W C K history u s) fr (belief z Q)) w sane (λ e m. let q : e ≡ d = Memᴰ.eq_of_singleton m in rw q (o, o))
      (always_map R P w (λ f p. (p.labels, p.quiet)) h) in
      (during_map P R w acts (λ f p. record { labels = p.0; quiet = p.1 }) r.0, always_map P R (run w acts) (λ f p. record { labels = p.0; quiet = p.1 }) r.1)

  begun_quiet : (Q : Label) (d : ℕ) (f : Image X) → ((j : ℕ) → j ≤ K.c → f (log d j) ≡ K.zeros) → Quiet K (belief z Q) history u s f → Quiet K (belief z (begun Q d)) history u s f
  unfolding belief
  begun_quiet Q d f h =
      quiet_widen K (belief z Q) (belief z (begun Q d)) history u s f
      (λ e a. let p = look_of z (begun Q d) e a in
      ⊎_elim (λ q. inl (look_is z Q e p.0 (inl q), λ t b. let r = believe_of z Q e t b in believe_is z (begun Q d) e t r.0 r.1 (inl q)))
      (λ q. inr (λ j i. ap (λ (x : ℕ). K.stamp (f (log x j))) q ∙ (ap K.stamp (h j i) ∙ K.stamp_zeros))) p.1)
      (λ e t j a i. let p = believe_of z (begun Q d) e t a in ⊎_elim (λ q. inl (believe_is z Q e t p.0 p.1 (inl q))) (λ q. absurd (omega (arith, q.1))) p.2)

  -- BEGIN. d is out; f0 is what is read. After it d is being rebuilt, and none of its strips is believed.
  pub begin_safe : (f0 : Image X) (Q : Label) (d : ℕ) (ds : List ℕ) → Q.out d ≡ true → C.Fits Q → C.Fits (begun Q d) → ((e : ℕ) → e < z.n → Q.out e ≡ false → Memᴰ e ds) → (w : World X) → Sane w → Always w (Rest z W C K history u Q s) → During w (beginning K C f0 Q d ds) ((Keeps z W C K history u s) Q) × Always (run w (beginning K C f0 Q d ds)) (Rest z W C K history u (begun Q d) s)
  unfolding wipe_batch Kept Covered Done Bare
  begin_safe f0 Q d ds o fits fit all w sane h =
      let N = begun Q d in
      let R = Rest z W C K history u Q s in
      let A0 : List (Action X) = flushes (flushed_at_begin K d) in
      let w0 = run w A0 in
      let s0 = sane_run w A0 sane in
      let z0 = flushes_during R w.cur w (flushed_at_begin K d) h in
      let h0 = during_end R w A0 z0 in
      let s' = last_side C f0 d in
      let X1 = expel C f0 (not s') (d ∷ []) in
      let X2 = expel C f0 s' (d ∷ []) in
      let x1 = expel_keeps f0 Q d (not s') o w0 s0 h0 in
      let v1 = run w0 X1 in
      let x2 = expel_keeps f0 Q d s' o v1 (sane_run w0 X1 s0) x1.1 in
      let v2 = run v1 X2 in
      let t2 = sane_run v1 X2 (sane_run w0 X1 s0) in
      let a = stage R (λ f. R f × (QuietB z W C K history u s) (belief z N) f) v2 (wipe_batch K d) t2 x2.1
      (λ k m f p. let y = of_rows log (wiped_sectors K) (d ∷ []) k m in rw y.4 (rest_wiped Q y.0 y.1 f (wiped_of K y.1 y.3) p))
      (rows_slots log (wiped_sectors K) (d ∷ []) (λ e j. refl))
      (λ f p done. (p, begun_quiet Q d f (λ j g. done (log d j) (in_rows log (wiped_sectors K) (d ∷ []) d j (Memᴰ.head refl) (wiped_in K j (omega arith)))) p.quiet)) in
      let w1 = run v2 (wipe K d) in
      let s1 = sane_run v2 (wipe K d) t2 in
      let few : W.few Q.out ≡ true = (always_cur R w sane h).labels.few_Q in
      let P : Image X → Type 0 = Labels z W C Q Q Q.generation Q.out in
      let E : Image X → Type 0 = λ f. (QuietB z W C K history u s) (belief z Q) f × (QuietB z W C K history u s) (belief z N) f in
      let fr = quiet_framed K history u s in
      let bare : Bare z W C E = λ f d b x o. (framed_bare z W C K (QuietB z W C K history u s) fr (belief z Q) f d b x o.0, framed_bare z W C K (QuietB z W C K history u s) fr (belief z N) f d b x o.1) in
      let acts = prep C f0 Q.generation Q (d ∷ []) in
      let b = prep_safe z W C Q Q Q.generation Q.out f0 Q.generation Q (d ∷ []) E bare w1 s1 fits (omega arith) (λ q. rules_self z W C Q few) (λ e m. let q : e ≡ d = Memᴰ.eq_of_singleton m in rw q (o, o))
      (always_map (λ f. R f × (QuietB z W C K history u s) (belief z N) f) (λ f. P f × E f) w1 (λ f p. (p.0.labels, (p.0.quiet, p.1))) a.1) in
      let w2 = run w1 acts in
      let c = relabel z W C K history u s Q N ds refl few fit all w2 (sane_run w1 acts s1)
      (always_map (λ f. P f × E f) (λ f. R f × (QuietB z W C K history u s) (belief z N) f) w2 (λ f p. (record { labels = p.0; quiet = p.1.0 }, p.1.1)) b.1) in
      let A3 = round C N ds in (
        during_append ((Keeps z W C K history u s) Q) w A0 (expel_first K (X1 ++ X2) (wipe K d ++ (acts ++ A3))) (during_map R ((Keeps z W C K history u s) Q) w A0 (rest_keeps Q) z0)
            (expel_during K ((Keeps z W C K history u s) Q) w0 (X1 ++ X2) (wipe K d ++ (acts ++ A3))
            (during_append ((Keeps z W C K history u s) Q) w0 X1 X2 (during_map R ((Keeps z W C K history u s) Q) w0 X1 (rest_keeps Q) x1.0) (during_map R ((Keeps z W C K history u s) Q) v1 X2 (rest_keeps Q) x2.0))
            (subst (λ (v : World X). During v (wipe K d ++ (acts ++ A3)) ((Keeps z W C K history u s) Q)) (sym (run_append w0 X1 X2))
            (during_append ((Keeps z W C K history u s) Q) v2 (wipe K d) (acts ++ A3)
            (during_map R ((Keeps z W C K history u s) Q) v2 (wipe K d) (rest_keeps Q) a.0)
            (during_append ((Keeps z W C K history u s) Q) w1 acts A3 (during_map (λ f. P f × E f) ((Keeps z W C K history u s) Q) w1 acts (λ f p. rest_keeps Q f (record { labels = p.0; quiet = p.1.0 })) b.0) c.0)))),
        rw (run_append w A0 (expel_first K (X1 ++ X2) (wipe K d ++ (acts ++ A3))), expel_run K w0 (X1 ++ X2) (wipe K d ++ (acts ++ A3)), run_append w0 X1 X2, run_append v2 (wipe K d) (acts ++ A3), run_append w1 acts A3) c.1,
      )

  rest_strip : (Q : Label) (t j : ℕ) (x : X) (f : Image X) → Q.out Q.rebuilding ≡ true → Q.mark ≤ t → Rest z W C K history u Q s f → Rest z W C K history u Q s (update f (strip Q.rebuilding t j) x)
  unfolding belief Quiet
  rest_strip Q t j x f e m o =
      record {
        labels = labels_data z W C Q Q Q.generation Q.out f (strip Q.rebuilding t j) x refl o.labels;
        quiet = old_spare K (belief z Q) history u 0 s f Q.rebuilding t j x (go (believed z Q Q.rebuilding t) refl) o.quiet;
      }
    where
      go : (b : Bool) → believed z Q Q.rebuilding t ≡ b → believed z Q Q.rebuilding t ≡ false
      go true q = let p = believe_of z Q Q.rebuilding t q in ⊎_elim (λ y. absurd (true≢false (sym e ∙ y))) (λ y. absurd (omega (arith, y.1))) p.2
      go false q = q

  -- ON. N is the raised or the healed label: it looks at the same slots, and what it believes Q believed, or it is a strip that was filled in.
  pub on_safe : (Q N : Label) (more : ℕ) (v : ℕ → ℕ → X) (ds : List ℕ) → Q.out Q.rebuilding ≡ true
      → ((e : ℕ) → looked z N e ≡ true → looked z Q e ≡ true)
      → ((e t : ℕ) → believed z Q e t ≡ true → believed z N e t ≡ true)
      → ((e t : ℕ) → believed z N e t ≡ true → (believed z Q e t ≡ true) ⊎ ((e ≡ Q.rebuilding) × (Q.mark ≤ t) × (t < Q.mark + more)))
      → ((t j : ℕ) → Q.mark ≤ t → t < Q.mark + more → j < K.c → v t j ≡ s t Q.rebuilding j)
      → N.generation ≡ suc Q.generation → W.few N.out ≡ true → C.Fits N → ((e : ℕ) → e < z.n → N.out e ≡ false → Memᴰ e ds)
      → (w : World X) → Sane w → Always w (Rest z W C K history u Q s)
      → During w (fill K Q more v ++ round C N ds) ((Keeps z W C K history u s) Q) × Always (run w (fill K Q more v ++ round C N ds)) (Rest z W C K history u N s)
  unfolding fill_batch Kept Covered Done belief
  on_safe Q N more v ds o lk up st right g few fit all w sane h =
      let place : ℕ → ℕ → Place = λ t j. strip Q.rebuilding t j in
      let ts = from Q.mark more in
      let R = Rest z W C K history u Q s in
      let a = stage R (λ f. R f × Quiet K (belief z N) history u s f) w (fill_batch K Q more v) sane h
      (λ k m f p. let y = of_rows place (filled_sectors K) ts k m in rw y.4 (rest_strip Q y.0 y.1 (v y.0 y.1) f o (of_from_low more Q.mark y.0 y.2) p))
      (λ k m. let y = of_rows place (filled_sectors K) ts k m in Memᴰ.head (ap slot y.4))
      (λ f p done. (
        p,
        quiet_widen K (belief z Q) (belief z N) history u s f (λ e q. inl (lk e q, up e))
            (λ e t j q i. ⊎_elim inl (λ y. inr (let x : e ≡ Q.rebuilding = y.0 in rw x (done (strip Q.rebuilding t j) (in_rows place (filled_sectors K) ts t j (in_from more Q.mark t y.1 y.2) (filled_in K j (omega arith))) ∙ right t j y.1 y.2 i))) (st e t q))
            p.quiet,
      )) in
      let w1 = run w (fill K Q more v) in
      let b = relabel z W C K history u s Q N ds g few fit all w1 (sane_run w (fill K Q more v) sane) a.1 in (
        during_append ((Keeps z W C K history u s) Q) w (fill K Q more v) (round C N ds) (during_map R ((Keeps z W C K history u s) Q) w (fill K Q more v) (rest_keeps Q) a.0) b.0,
        rw run_append b.1,
      )
