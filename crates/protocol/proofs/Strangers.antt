-- THE OLD SHELF of a disk that begins to be rebuilt here. The disk in slot d may carry labels of another shelf, or of another slot. Whatever a cut leaves
-- while begin runs, the disk is for its old shelf as it was before the request, label, log and strips, or it has no label of it at all: never a
-- label over a log or over strips that this shelf has changed. Assumes nothing.
use Rattle.std.specs.Prelude.{ℕ, suc, ◌≤◌, ◌<◌, ◌≡◌, ◌&&◌, ◌||◌, ◌⊎◌, ◌≢◌, eqb, ltb}
use Rattle.std.proofs.Math.Path.{refl, sym, ap}
use Rattle.std.proofs.Common.{subst, ◌∙◌, true≢false, eq-zero-or-pos, arith, eq-eqb, lt-ltb, le-ltb}
use Rattle.std.proofs.Math.Bool.{Bool, true, false, cond, not}
use Rattle.std.proofs.lemmas.Bool.{false≢true}
use Rattle.std.proofs.Math.Logic.{⊎_elim, inl, inr}
use mathlib.Core.List.Memᴰ
use mathlib.Core.List.{List, [], ◌∷◌, ◌++◌, Memᴰ}
use Rattle.std.proofs.Math.Decide.{ℕ_discrete}
use Rattle.protocol.specs.World.{Place, label, log, strip, slot, Image, update, update_here, update_other, update_cases, World, Action, run, Possible, Sane, Always, During, sane_run, during_map, during_append, run_append}
use Rattle.protocol.specs.Batch.{flushes, flushes_during, certain, Kept, Covered, Done, stage}
use Rattle.protocol.specs.Slots.{keep, in_keep, of_keep, in_rows, of_rows, rows_slots}
use Rattle.protocol.specs.Log.{RecordCodec}
use Rattle.protocol.specs.Label.{Label, Size, Quorum, LabelCodec, copy, round, foreign, alien, expel, expel_batch, prepared, prep, prep_value, prep_batch}
use Rattle.protocol.proofs.Label.{round_keeps, last_greater, of_prep, prep_slots}
use Rattle.protocol.specs.Rebuild.{begun, wiped_sectors, wipe, wipe_batch, flushed_at_begin, expel_first, beginning}
use Rattle.protocol.proofs.Rebuild.{begin_flushes, expel_during}
use Rattle.protocol.specs.Host.{Host, Code}
use Rattle.protocol.specs.Program.{Stamps, Medium, clear, Own, begin, mask, back_in, told_to, may}
use Rattle.protocol.specs.Invariant.{Ready}
use Rattle.protocol.specs.Promise.{proper_begun}
use Rattle.protocol.proofs.Promise.{begin_tests, mask_present}
use Rattle.protocol.specs.Strangers.{Strangers, old, old_label, Gone, Fate, s, Rest, Kept_side, Half}

not_self : (b : Bool) → not b ≢ b
not_self true e = false≢true e
not_self false e = true≢false e

one_of : (s b : Bool) → (b ≡ s) ⊎ (b ≡ not s)
one_of true true = inl refl
one_of true false = inr refl
one_of false true = inr refl
one_of false false = inl refl

module _ {X : Type 0} {n n' : ℕ} (C : LabelCodec X n) (C' : LabelCodec X n') (d d' : ℕ) where
  module _ (S : Strangers C C' d d') where
    -- what is not strange here is not valid there
    blank_of : (b : Bool) (x : X) → C.strange d b x ≡ 0 → (C'.decode d' b x).generation ≡ 0
    blank_of b x e = ⊎_elim (λ q. q) (λ q. absurd (omega (arith, e, q, S.known b x q))) (eq-zero-or-pos (C'.decode d' b x).generation)

    zeros_blank : (f : Image X) (b : Bool) → f (label d b) ≡ C.zeros → ((old C C' d d') f b).generation ≡ 0
    zeros_blank f b e = blank_of b (f (label d b)) (ap (C.strange d b) e ∙ C.strange_zeros d b)

    gone_put : (f : Image X) (e : ℕ) (b : Bool) (x : X) → (e ≡ d → C.strange d b x ≡ 0) → (Gone C C' d d') f → (Gone C C' d d') (update f (label e b) x)
    gone_put f e b x h g s = update_cases f (label e b) x (λ (v : X). (C'.decode d' s v).generation ≡ 0) (label d s) (λ q. let y : d ≡ e = cc in let v : s ≡ b = cc in rw v (blank_of b x (h (sym y)))) (g s)

    -- the copy of the greater generation is the disk's label
    top_side : (f : Image X) (s : Bool) → ((old C C' d d') f (not s)).generation < ((old C C' d d') f s).generation → (old_label C C' d d') f ≡ (old C C' d d') f s
    unfolding old_label
    top_side f true h = rw (lt-ltb ((old C C' d d') f false).generation ((old C C' d d') f true).generation h)
    top_side f false h = rw (le-ltb ((old C C' d d') f false).generation ((old C C' d d') f true).generation (omega arith))

    -- in two sectors no generation is the same
    apart : (f : Image X) (s : Bool) → 0 < ((old C C' d d') f s).generation → ((old C C' d d') f (not s)).generation ≡ ((old C C' d d') f s).generation → ⊥
    apart f s p e =
        let a = C'.decode_side d' s (f (label d s)) p in
        let b = C'.decode_side d' (not s) (f (label d (not s))) (omega arith) in
        not_self s (b ∙ (ap C'.side e ∙ sym a))

    -- w: the world in which begin is asked; f0: what is read of the labels of d
    module _ (f0 : Image X) (w : World X) (sane : Sane w) (agree : (b : Bool) → f0 (label d b) ≡ w.cur (label d b)) where
      is_old : (f : Image X) (b : Bool) → (Kept_side C C' d d' S f0 w sane agree) f b → (old C C' d d') f b ≡ (old C C' d d') w.cur b
      is_old f b e = ap (C'.decode d' b) (e ∙ agree b)

      -- the copy that goes last is the disk's label, if it is of that shelf at all
      lesser : 0 < ((old C C' d d') w.cur (s C C' d d' S f0 w sane agree)).generation → ((old C C' d d') w.cur (not (s C C' d d' S f0 w sane agree))).generation < ((old C C' d d') w.cur (s C C' d d' S f0 w sane agree)).generation
      lesser p = ⊎_elim (λ (q : ((old C C' d d') w.cur (not (s C C' d d' S f0 w sane agree))).generation ≡ 0). omega arith) (λ (q : 0 < ((old C C' d d') w.cur (not (s C C' d d' S f0 w sane agree))).generation). go q) (eq-zero-or-pos ((old C C' d d') w.cur (not (s C C' d d' S f0 w sane agree))).generation)
        where
          told : (b : Bool) → 0 < ((old C C' d d') w.cur b).generation → foreign C f0 d b ≡ ((old C C' d d') w.cur b).generation
          told b q = ap (C.strange d b) (agree b) ∙ S.known b (w.cur (label d b)) q

          go : 0 < ((old C C' d d') w.cur (not (s C C' d d' S f0 w sane agree))).generation → ((old C C' d d') w.cur (not (s C C' d d' S f0 w sane agree))).generation < ((old C C' d d') w.cur (s C C' d d' S f0 w sane agree)).generation
          go q =
              let a = told (s C C' d d' S f0 w sane agree) p in
              let b = told (not (s C C' d d' S f0 w sane agree)) q in
              let c = last_greater C f0 d in
              let no = apart w.cur (s C C' d d' S f0 w sane agree) p in
              let le : ((old C C' d d') w.cur (not (s C C' d d' S f0 w sane agree))).generation ≤ ((old C C' d d') w.cur (s C C' d d' S f0 w sane agree)).generation = omega (arith, a, b, c) in
              below ((old C C' d d') w.cur (not (s C C' d d' S f0 w sane agree))).generation ((old C C' d d') w.cur (s C C' d d' S f0 w sane agree)).generation le no
            where
              below : (x y : ℕ) → x ≤ y → (x ≡ y → ⊥) → x < y
              below x y h m = go' (ℕ_discrete x y)
                where
                  go' : Dec (x ≡ y) → x < y
                  go' (yes e) = absurd (m e)
                  go' (no e) = omega arith

      as_before : (f : Image X) → (old_label C C' d d') f ≡ (old_label C C' d d') w.cur → (Rest C C' d d' S f0 w sane agree) f → (Fate C C' d d') w f
      unfolding Sane
      as_before f e r = inl (w.cur, sane, record { same_label_lem = e; same_log = r.0; same_strip = r.1 })

      both_same : (f : Image X) → ((b : Bool) → (Kept_side C C' d d' S f0 w sane agree) f b) → (old_label C C' d d') f ≡ (old_label C C' d d') w.cur
      unfolding old_label
      both_same f e = λ i. cond (ltb (is_old f false (e false) i).generation (is_old f true (e true) i).generation) (is_old f true (e true) i) (is_old f false (e false) i)

      side_cases : (P : Bool → Type 0) → P (s C C' d d' S f0 w sane agree) → P (not (s C C' d d' S f0 w sane agree)) → (b : Bool) → P b
      side_cases P p q b = ⊎_elim (λ e. subst P (sym e) p) (λ e. subst P (sym e) q) (one_of (s C C' d d' S f0 w sane agree) b)

      -- the last one stands; the other stands too, or is none of that shelf any more
      fate_of : (f : Image X) → (Rest C C' d d' S f0 w sane agree) f → (Kept_side C C' d d' S f0 w sane agree) f (s C C' d d' S f0 w sane agree) → (Kept_side C C' d d' S f0 w sane agree) f (not (s C C' d d' S f0 w sane agree)) ⊎ (((old C C' d d') f (not (s C C' d d' S f0 w sane agree))).generation ≡ 0) → (Fate C C' d d') w f
      fate_of f r e (inl x) = as_before f (both_same f (side_cases ((Kept_side C C' d d' S f0 w sane agree) f) e x)) r
      fate_of f r e (inr x) = ⊎_elim (λ q. inr (side_cases (λ b. ((old C C' d d') f b).generation ≡ 0) q x)) (λ q. as_before f (stands q) r) (eq-zero-or-pos ((old C C' d d') f (s C C' d d' S f0 w sane agree)).generation)
        where
          stands : 0 < ((old C C' d d') f (s C C' d d' S f0 w sane agree)).generation → (old_label C C' d d') f ≡ (old_label C C' d d') w.cur
          stands q =
              let a = is_old f (s C C' d d' S f0 w sane agree) e in
              let p : 0 < ((old C C' d d') w.cur (s C C' d d' S f0 w sane agree)).generation = subst (λ (l : Label). 0 < l.generation) a q in
              top_side f (s C C' d d' S f0 w sane agree) (omega (arith, q, x)) ∙ (a ∙ sym (top_side w.cur (s C C' d d' S f0 w sane agree) (lesser p)))

      -- a label sector that holds no foreign copy
      own_blank : (b : Bool) (f : Image X) → (Kept_side C C' d d' S f0 w sane agree) f b → alien C f0 b d ≡ false → ((old C C' d d') f b).generation ≡ 0
      own_blank b f e q = blank_of b (f (label d b)) (ap (C.strange d b) e ∙ zero (foreign C f0 d b) q)
        where
          zero : (g : ℕ) → ltb 0 g ≡ false → g ≡ 0
          zero g h = ⊎_elim (λ y. y) (λ y. absurd (true≢false (sym (lt-ltb 0 g y) ∙ h))) (eq-zero-or-pos g)

      half_blank : (f : Image X) (b : Bool) → (Half C C' d d' S f0 w sane agree) f b → (alien C f0 b d ≡ true → f (label d b) ≡ C.zeros) → ((old C C' d d') f b).generation ≡ 0
      half_blank f b h done = go (alien C f0 b d) refl h
        where
          go : (a : Bool) → alien C f0 b d ≡ a → (Half C C' d d' S f0 w sane agree) f b → ((old C C' d d') f b).generation ≡ 0
          go true e x = zeros_blank f b (done e)
          go false e (inl x) = own_blank b f x e
          go false e (inr x) = zeros_blank f b x

      rest_put : (f : Image X) (e : ℕ) (b : Bool) (x : X) → (Rest C C' d d' S f0 w sane agree) f → (Rest C C' d d' S f0 w sane agree) (update f (label e b) x)
      rest_put f e b x r = ((λ j. update_other f (label e b) x (log d j) (λ q. log_not d j e b q) ∙ r.0 j), λ t j. update_other f (label e b) x (strip d t j) (λ q. strip_not d t j e b q) ∙ r.1 t j)
        where
          is_label : Place → Bool
          is_label (label x y) = true
          is_label (log x y) = false
          is_label (strip x y v) = false

          log_not : (d j e : ℕ) (b : Bool) → log d j ≡ label e b → ⊥
          log_not d j e b q = false≢true (ap is_label q)

          strip_not : (d t j e : ℕ) (b : Bool) → strip d t j ≡ label e b → ⊥
          strip_not d t j e b q = false≢true (ap is_label q)

      -- zeros over sector b, while a statement O about the other sector stands
      expels : (b : Bool) (O : Image X → Type 0) → ((f : Image X) → O f → O (update f (label d b) C.zeros)) → (v : World X) → Sane v → Always v (λ f. (Rest C C' d d' S f0 w sane agree) f × O f × (Kept_side C C' d d' S f0 w sane agree) f b) → During v (expel C f0 b (d ∷ [])) (λ f. (Rest C C' d d' S f0 w sane agree) f × O f × (Half C C' d d' S f0 w sane agree) f b) × Always (run v (expel C f0 b (d ∷ []))) (λ f. (Rest C C' d d' S f0 w sane agree) f × O f × (((old C C' d d') f b).generation ≡ 0))
      unfolding expel_batch Kept Covered Done Always
      expels b O keeps v sv h =
          let es = keep (alien C f0 b) (d ∷ []) in
          let P : Image X → Type 0 = λ f. (Rest C C' d d' S f0 w sane agree) f × O f × (Half C C' d d' S f0 w sane agree) f b in
          stage P (λ f. (Rest C C' d d' S f0 w sane agree) f × O f × (((old C C' d d') f b).generation ≡ 0)) v (expel_batch C f0 b (d ∷ [])) sv (λ f p. let c = h f p in (c.0, c.1, inl c.2))
          (λ k m f o.
          let y = of_rows (λ e j. label e b) (0 ∷ []) es k m in
          let q : y.0 ≡ d = Memᴰ.eq_of_singleton (of_keep (alien C f0 b) (d ∷ []) y.0 y.2).0 in
          let k' : k ≡ label d b = y.4 ∙ ap (λ (x : ℕ). label x b) q in
          rw k' (rest_put f d b C.zeros o.0, keeps f o.1, inr (update_here f (label d b) C.zeros)))
          (rows_slots (λ e j. label e b) (0 ∷ []) es (λ e j. refl))
          (λ f o done. (o.0, o.1, half_blank f b o.2 (λ a. done (label d b) (in_rows (λ e j. label e b) (0 ∷ []) es d 0 (in_keep (alien C f0 b) (d ∷ []) d (Memᴰ.head refl) a) (Memᴰ.head refl)))))

      other_kept : (b : Bool) (f : Image X) → update f (label d (not b)) C.zeros (label d b) ≡ f (label d b)
      other_kept b f = update_other f (label d (not b)) C.zeros (label d b) (λ q. let y : b ≡ not b = cc in not_self b (sym y))

      other_kept' : (b : Bool) (f : Image X) → update f (label d b) C.zeros (label d (not b)) ≡ f (label d (not b))
      other_kept' b f = update_other f (label d b) C.zeros (label d (not b)) (λ q. let y : not b ≡ b = cc in not_self b y)

      -- THE OLD SHELF: at every moment of begin, whatever a cut leaves
      pub old_shelf : (K : RecordCodec X) (Q : Label) (ds : List ℕ) → d < n → C.Fits Q → C.Fits (begun Q d) → During w (beginning K C f0 Q d ds) ((Fate C C' d d') w)
      unfolding Always wipe_batch prep_batch Kept Covered Done
      old_shelf K Q ds i fits fit =
          let A0 : List (Action X) = flushes (flushed_at_begin K d) in
          let X1 = expel C f0 (not (s C C' d d' S f0 w sane agree)) (d ∷ []) in
          let X2 = expel C f0 (s C C' d d' S f0 w sane agree) (d ∷ []) in
          let A1 = wipe K d in
          let A2 = prep C f0 Q.generation Q (d ∷ []) in
          let A3 = round C (begun Q d) ds in
          let w0 = run w A0 in
          let s0 = sane_run w A0 sane in
          let z0 : During w A0 (Possible w) = flushes_during (Possible w) w.cur w (flushed_at_begin K d) (λ f p. p) in
          let sure : Always w0 (λ f. (k : Place) → slot k ≡ d → f k ≡ w.cur k) = λ f p k e. certain w.cur w (flushed_at_begin K d) f p k (subst (λ (x : ℕ). Memᴰ x (flushed_at_begin K d)) (sym e) (begin_flushes K d)) in
          let r1 = expels (not (s C C' d d' S f0 w sane agree)) (λ f. (Kept_side C C' d d' S f0 w sane agree) f (s C C' d d' S f0 w sane agree)) (λ f e. other_kept (s C C' d d' S f0 w sane agree) f ∙ e) w0 s0 (λ f p. (((λ j. sure f p (log d j) refl), λ t j. sure f p (strip d t j) refl), sure f p (label d (s C C' d d' S f0 w sane agree)) refl ∙ sym (agree (s C C' d d' S f0 w sane agree)), sure f p (label d (not (s C C' d d' S f0 w sane agree))) refl ∙ sym (agree (not (s C C' d d' S f0 w sane agree))))) in
          let v1 = run w0 X1 in
          let t1 = sane_run w0 X1 s0 in
          let r2 = expels (s C C' d d' S f0 w sane agree) (λ f. ((old C C' d d') f (not (s C C' d d' S f0 w sane agree))).generation ≡ 0) (λ f e. ap (λ (x : X). (C'.decode d' (not (s C C' d d' S f0 w sane agree)) x).generation) (other_kept' (s C C' d d' S f0 w sane agree) f) ∙ e) v1 t1 (λ f p. let c = r1.1 f p in (c.0, c.2, c.1)) in
          let v2 = run v1 X2 in
          let t2 = sane_run v1 X2 t1 in
          let g2 : Always v2 (Gone C C' d d') = λ f p. let c = r2.1 f p in side_cases (λ b. ((old C C' d d') f b).generation ≡ 0) c.2 c.1 in
          let a = stage (Gone C C' d d') (Gone C C' d d') v2 (wipe_batch K d) t2 g2
          (λ k m f o. let y = of_rows log (wiped_sectors K) (d ∷ []) k m in rw y.4 (λ b. ap (λ (x : X). (C'.decode d' b x).generation) (update_other f (log y.0 y.1) K.zeros (label d b) (λ q. not_log d b y.0 y.1 q)) ∙ o b))
          (rows_slots log (wiped_sectors K) (d ∷ []) (λ e j. refl)) (λ f o done. o) in
          let w1 = run v2 A1 in
          let s1 = sane_run v2 A1 t2 in
          let es = keep (λ e. not (prepared C f0 Q.generation e)) (d ∷ []) in
          let b = stage (Gone C C' d d') (Gone C C' d d') w1 (prep_batch C f0 Q.generation Q (d ∷ [])) s1 a.1
          (λ k m f o. let y = of_prep C Q.generation es k m in rw y.2 (gone_put f y.0 (C.side Q.generation) (prep_value C f0 Q.generation Q (label y.0 (C.side Q.generation))) (λ e. prep_own Q y.0 e i fits) o))
          (prep_slots C Q.generation es) (λ f o done. o) in
          let w2 = run w1 A2 in
          let c = round_keeps C (Gone C C' d d') (begun Q d) ds w2 (sane_run w1 A2 s1) fit (λ e m f o. gone_put f e (C.side (begun Q d).generation) (C.encode e (begun Q d)) (λ q. ap (λ (x : ℕ). C.strange d (C.side (begun Q d).generation) (C.encode x (begun Q d))) q ∙ C.strange_encode d (begun Q d) i fit) o) b.1 in
          during_append ((Fate C C' d d') w) w A0 (expel_first K (X1 ++ X2) (A1 ++ (A2 ++ A3))) (during_map (Possible w) ((Fate C C' d d') w) w A0 (λ f p. inl (f, p, record { same_label_lem = refl; same_log = λ j. refl; same_strip = λ t j. refl })) z0)
          (expel_during K ((Fate C C' d d') w) w0 (X1 ++ X2) (A1 ++ (A2 ++ A3))
          (during_append ((Fate C C' d d') w) w0 X1 X2
          (during_map (λ f. (Rest C C' d d' S f0 w sane agree) f × (Kept_side C C' d d' S f0 w sane agree) f (s C C' d d' S f0 w sane agree) × (Half C C' d d' S f0 w sane agree) f (not (s C C' d d' S f0 w sane agree))) ((Fate C C' d d') w) w0 X1 (λ f p. fate_of f p.0 p.1 (⊎_elim inl (λ q. inr (zeros_blank f (not (s C C' d d' S f0 w sane agree)) q)) p.2)) r1.0)
          (during_map (λ f. (Rest C C' d d' S f0 w sane agree) f × (((old C C' d d') f (not (s C C' d d' S f0 w sane agree))).generation ≡ 0) × (Half C C' d d' S f0 w sane agree) f (s C C' d d' S f0 w sane agree)) ((Fate C C' d d') w) v1 X2 (λ f p. ⊎_elim (λ q. fate_of f p.0 q (inr p.1)) (λ q. inr (side_cases (λ b. ((old C C' d d') f b).generation ≡ 0) (zeros_blank f (s C C' d d' S f0 w sane agree) q) p.1)) p.2) r2.0))
          (subst (λ (v : World X). During v (A1 ++ (A2 ++ A3)) ((Fate C C' d d') w)) (sym (run_append w0 X1 X2))
          (during_append ((Fate C C' d d') w) v2 A1 (A2 ++ A3) (during_map (Gone C C' d d') ((Fate C C' d d') w) v2 A1 (λ f p. inr p) a.0)
          (during_append ((Fate C C' d d') w) w1 A2 A3 (during_map (Gone C C' d d') ((Fate C C' d d') w) w1 A2 (λ f p. inr p) b.0) (during_map (Gone C C' d d') ((Fate C C' d d') w) w2 A3 (λ f p. inr p) c.0)))))
        where
          is_log : Place → Bool
          is_log (label x y) = false
          is_log (log x y) = true
          is_log (strip x y v) = false

          not_log : (d : ℕ) (b : Bool) (e j : ℕ) → label d b ≡ log e j → ⊥
          not_log d b e j q = false≢true (ap is_log q)

          -- what prep writes is no copy of another shelf
          prep_own : (Q : Label) (e : ℕ) → e ≡ d → d < n → C.Fits Q → C.strange d (C.side Q.generation) (prep_value C f0 Q.generation Q (label e (C.side Q.generation))) ≡ 0
          prep_own Q e q i fits = go (ltb 0 (copy C f0 e (C.side (suc Q.generation))).generation || eqb (copy C f0 e (C.side Q.generation)).generation 0)
            where
              go : (b : Bool) → C.strange d (C.side Q.generation) (cond b C.zeros (C.encode e Q)) ≡ 0
              go true = C.strange_zeros d (C.side Q.generation)
              go false = ap (λ (x : ℕ). C.strange d (C.side Q.generation) (C.encode x Q)) q ∙ C.strange_encode d Q i fits

-- THE PROGRAM'S BEGIN: the list of actions that it accepts on a disk that was slot d' of another shelf
module _ {X : Type 0} (z : Size) (W : Quorum z.n) (C : LabelCodec X z.n) (K : RecordCodec X) (E : Code X z.n K.c W) (S : Stamps) (R : Medium z W C K E S) {n' : ℕ} (C' : LabelCodec X n') (d d' : ℕ) (strangers : Strangers C C' d d') where
  pub begin_leaves : (v : Host X) (w : World X) (o : Own) → Sane w → Ready z W C K E S R v w o → may z W C K E S R false o (begin d) ≡ clear → During w (beginning K C (mask z W C K E S R (back_in z W C K E S R o.absent d) w.cur) o.now d (told_to z W C K E S R (back_in z W C K E S R o.absent d))) (Fate C C' d d' w)
  begin_leaves v w o sane h e =
      let t = begin_tests z W C K E S R o d e in
      let A = back_in z W C K E S R o.absent d in
      old_shelf C C' d d' strangers (mask z W C K E S R A w.cur) w sane (λ b. mask_present z W C K E S R A w.cur (label d b) (here (o.absent d))) K o.now (told_to z W C K E S R A) t.0
      (R.fits o.now h.sound (omega (arith, h.born, h.epoch_now)) h.most) (R.fits (begun o.now d) (proper_begun z o.now d t.0 t.1 h.sound) (omega arith) t.2)
    where
      here : (b : Bool) → (b && not (eqb d d)) ≡ false
      here true = rw (eq-eqb d d refl)
      here false = refl
