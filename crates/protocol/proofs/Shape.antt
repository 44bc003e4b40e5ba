-- THE SHAPE OF A DISK'S TWO LABELS (document 02, C6): where one label sector is a valid copy, the other is zeros or a valid copy, and where both are valid their
-- generations follow each other. Every disk keeps it at every moment, whatever the caches do. (A disk without a label of this shelf may hold anything.)
use Prim.Native.Nat.{ℕ, suc, ◌<◌}
use Rattle.std.specs.Prelude.{◌≡◌, refl, true, false, cond, ◌||◌, ◌⊎◌, ◌≢◌, eqb, ltb}
use Rattle.std.proofs.Common.{sym, ◌∙◌, eq-zero-or-pos, arith, eqb-true, ltb-false}
use Rattle.std.proofs.Math.Path.{ap, subst}
use Rattle.std.proofs.Math.Bool.{Bool, not}
use Rattle.std.proofs.lemmas.Bool.{eqb-false}
use Rattle.std.proofs.Math.Logic.{⊎_elim, inl, inr}
use mathlib.Core.List.{List, [], ◌∷◌, Memᴰ}
use Rattle.std.proofs.Math.Decide.{ℕ_discrete}
use Rattle.protocol.specs.World.{label, slot, Image, update, update_here, update_other, update_cases, World, run, Sane, Always, During, always_map, during_map}
use Rattle.protocol.specs.Batch.{Kept, Covered, Done, stage}
use Rattle.protocol.specs.Slots.{keep, in_keep, of_keep, in_rows, of_rows, rows_slots}
use Rattle.protocol.specs.Label.{Label, again, LabelCodec, copy, copy_same, there, round, round_batch, prep, prepared, prep_value, prep_batch}
use Rattle.protocol.proofs.Label.{of_prep, in_prep, prep_slots}
use Rattle.protocol.specs.Shape.{two, not_self, not_not, Calm, Low, Top, zero_copy, low_put, ShapeBy, top_shape, shape_same, ShapesBy, value, Half}

module _ {X : Type 0} {n : ℕ} (C : LabelCodec X n) where
  told_top : (l : Label) (g : ℕ) (f : Image X) (d : ℕ) → d < n → l.generation ≡ suc g → C.Fits l → f (label d (C.side l.generation)) ≡ C.encode d l → (copy C f d (C.side (suc g))).generation ≡ suc g
  unfolding copy
  told_top l g f d i e fit h =
      let y : (C.decode d (C.side l.generation) (f (label d (C.side l.generation)))).generation ≡ suc g = ap (λ (x : X). (C.decode d (C.side l.generation) x).generation) h ∙ (ap (λ (x : Label). x.generation) (C.decode_encode d l i fit) ∙ e) in
      subst (λ (a : ℕ). (C.decode d (C.side a) (f (label d (C.side a)))).generation ≡ suc g) e y

-- strict: so also of a disk without a label of this shelf: its label sectors are zeros
module _ {X : Type 0} {n : ℕ} (C : LabelCodec X n) (strict : Bool) where
  shape_other : (f : Image X) (d : ℕ) (b : Bool) (x : X) (e : ℕ) → e ≢ d → (ShapeBy C strict) f e → (ShapeBy C strict) (update f (label d b) x) e
  shape_other f d b x e n h = (shape_same C strict) f (update f (label d b) x) e (λ y. update_other f (label d b) x (label e y) (λ q. n (ap slot q))) h

  shapes_put : (l : Label) (g : ℕ) (f : Image X) (d : ℕ) → l.generation ≡ suc g → C.Fits l → Low C f d g → (ShapesBy C strict) f → (ShapesBy C strict) (update f (label d (C.side l.generation)) (C.encode d l))
  shapes_put l g f d e fit low h x i = go (ℕ_discrete x d)
    where
      f' : Image X
      f' = update f (label d (C.side l.generation)) (C.encode d l)

      lower : Low C f' d g
      lower = subst (λ (a : ℕ). Low C (update f (label d (C.side a)) (C.encode d l)) d g) (sym e) (low_put C f d g (C.encode d l) d low)

      go : Dec (x ≡ d) → (ShapeBy C strict) (update f (label d (C.side l.generation)) (C.encode d l)) x
      go (yes q) = subst ((ShapeBy C strict) f') (sym q) ((top_shape C strict) f' d g (told_top C l g f' d (omega arith) e fit (update_here f (label d (C.side l.generation)) (C.encode d l)), lower))
      go (no q) = shape_other f d (C.side l.generation) (C.encode d l) x q (h x i)

  -- A ROUND of generation g + 1 over disks that are ready for it keeps the shape of all. F: what labels of these disks leave alone.
  pub round_shape : (l : Label) (g : ℕ) (ds : List ℕ) (F : Image X → Type 0) → ((f : Image X) (d : ℕ) (b : Bool) (x : X) → Memᴰ d ds → F f → F (update f (label d b) x)) → l.generation ≡ suc g → C.Fits l → ((d : ℕ) → Memᴰ d ds → d < n) → (w : World X) → Sane w → Always w (λ f. (ShapesBy C strict) f × ((d : ℕ) → Memᴰ d ds → Low C f d g) × F f) → During w (round C l ds) (λ f. (ShapesBy C strict) f × F f) × Always (run w (round C l ds)) (λ f. (ShapesBy C strict) f × ((d : ℕ) → Memᴰ d ds → Top C f d g) × F f)
  unfolding round_batch Kept Covered Done
  round_shape l g ds F keeps e fit low w sane h =
      let P : Image X → Type 0 = λ f. (ShapesBy C strict) f × ((d : ℕ) → Memᴰ d ds → Low C f d g) × F f in
      let r = stage P (λ f. (ShapesBy C strict) f × ((d : ℕ) → Memᴰ d ds → Top C f d g) × F f) w (round_batch C l ds) sane h
      (λ k m f o.
      let y = of_rows (there C l) (0 ∷ []) ds k m in
      rw y.4 (
        shapes_put l g f y.0 e fit (o.1 y.0 y.2) o.0,
        (λ d i. subst (λ (a : ℕ). Low C (update f (label y.0 (C.side a)) (C.encode y.0 l)) d g) (sym e) (low_put C f y.0 g (C.encode y.0 l) d (o.1 d i))),
        keeps f y.0 (C.side l.generation) (C.encode y.0 l) y.2 o.2,
      ))
      (rows_slots (there C l) (0 ∷ []) ds (λ d j. refl))
      (λ f o done. (o.0, (λ d i. (told_top C l g f d (low d i) e fit (done (label d (C.side l.generation)) (in_rows (there C l) (0 ∷ []) ds d 0 i (Memᴰ.head refl))), o.1 d i)), o.2)) in
      (during_map P (λ f. (ShapesBy C strict) f × F f) w (round C l ds) (λ f o. (o.0, o.2)) r.0, r.1)

  -- what prep puts: zeros, or a label of generation g where the other sector holds no valid copy
  prep_cases : (f0 : Image X) (g : ℕ) (l : Label) (d : ℕ) → (prep_value C f0 g l (label d (C.side g)) ≡ C.zeros) ⊎ ((prep_value C f0 g l (label d (C.side g)) ≡ C.encode d (again l g)) × ((copy C f0 d (C.side (suc g))).generation ≡ 0) × (0 < (copy C f0 d (C.side g)).generation))
  prep_cases f0 g l d = go (ltb 0 (copy C f0 d (C.side (suc g))).generation) refl (eqb (copy C f0 d (C.side g)).generation 0) refl
    where
      go : (a : Bool) → ltb 0 (copy C f0 d (C.side (suc g))).generation ≡ a → (b : Bool) → eqb (copy C f0 d (C.side g)).generation 0 ≡ b → (cond (a || b) C.zeros (C.encode d (again l g)) ≡ C.zeros) ⊎ ((cond (a || b) C.zeros (C.encode d (again l g)) ≡ C.encode d (again l g)) × ((copy C f0 d (C.side (suc g))).generation ≡ 0) × (0 < (copy C f0 d (C.side g)).generation))
      go true e b q = inl refl
      go false e true q = inl refl
      go false e false q = inr (refl, omega (arith, ltb-false 0 (copy C f0 d (C.side (suc g))).generation e), ⊎_elim (λ y. absurd (eqb-false (copy C f0 d (C.side g)).generation 0 q y)) (λ y. y) (eq-zero-or-pos (copy C f0 d (C.side g)).generation))

  -- one valid copy at most
  lone : (f : Image X) (d g : ℕ) → Calm C f d (C.side g) → ((strict ≡ true) ⊎ (0 < (copy C f d (C.side g)).generation) → Calm C f d (C.side (suc g))) → ((copy C f d (C.side g)).generation ≡ 0) ⊎ ((copy C f d (C.side (suc g))).generation ≡ 0) → (ShapeBy C strict) f d
  lone f d g a b z = record { calm = λ s p. calm s (two (C.side g) s) p; follow = λ s p q. absurd (none s (two (C.side g) s) p q z) }
    where
      calm : (s : Bool) → (s ≡ C.side g) ⊎ (s ≡ not (C.side g)) → (strict ≡ true) ⊎ (0 < (copy C f d (not s)).generation) → Calm C f d s
      calm s (inl e) p = subst (Calm C f d) (sym e) a
      calm s (inr e) p = subst (Calm C f d) (sym (e ∙ sym (C.side_next g))) (b (⊎_elim inl (λ u. inr (subst (λ (y : Bool). 0 < (copy C f d y).generation) (ap not e ∙ not_not (C.side g)) u)) p))

      G : Bool → ℕ
      G s = (copy C f d s).generation

      none : (s : Bool) → (s ≡ C.side g) ⊎ (s ≡ not (C.side g)) → 0 < G s → 0 < G (not s) → (G (C.side g) ≡ 0) ⊎ (G (C.side (suc g)) ≡ 0) → ⊥
      none s (inl e) p q (inl y) = omega (arith, p, ap G e, y)
      none s (inl e) p q (inr y) = omega (arith, q, ap G (ap not e ∙ sym (C.side_next g)), y)
      none s (inr e) p q (inl y) = omega (arith, q, ap G (ap not e ∙ not_not (C.side g)), y)
      none s (inr e) p q (inr y) = omega (arith, p, ap G (e ∙ sym (C.side_next g)), y)

  module _ (f0 : Image X) (g : ℕ) (l : Label) (ds : List ℕ) (F : Image X → Type 0) (keeps : (f : Image X) (d : ℕ) (b : Bool) (x : X) → Memᴰ d ds → F f → F (update f (label d b) x)) (pos : 0 < g) (fit : C.Fits (again l g)) (low : (d : ℕ) → Memᴰ d ds → d < n) where
    half_put : (f : Image X) (d e : ℕ) → (Half C strict f0 g l ds F keeps pos fit low) f e → (Half C strict f0 g l ds F keeps pos fit low) (update f (label d (C.side g)) ((value C strict f0 g l ds F keeps pos fit low) d)) e
    half_put f d e h = (
      update_cases f (label d (C.side g)) ((value C strict f0 g l ds F keeps pos fit low) d) (λ x. (x ≡ f0 (label e (C.side g))) ⊎ (x ≡ (value C strict f0 g l ds F keeps pos fit low) e)) (label e (C.side g)) (λ q. let y : e ≡ d = cc in inr (ap (value C strict f0 g l ds F keeps pos fit low) (sym y))) h.0,
      update_other f (label d (C.side g)) ((value C strict f0 g l ds F keeps pos fit low) d) (label e (C.side (suc g))) (λ q. let y : C.side (suc g) ≡ C.side g = cc in not_self (C.side g) (sym (C.side_next g) ∙ y)) ∙ h.1,
    )

    value_copy : (f : Image X) (d : ℕ) → d < n → f (label d (C.side g)) ≡ (value C strict f0 g l ds F keeps pos fit low) d → (f (label d (C.side g)) ≡ C.zeros) ⊎ (((copy C f d (C.side g)).generation ≡ g) × ((copy C f0 d (C.side (suc g))).generation ≡ 0) × (0 < (copy C f0 d (C.side g)).generation))
    unfolding copy
    value_copy f d i e =
        ⊎_elim (λ q. inl (e ∙ q))
        (λ q. inr (ap (λ (x : X). (C.decode d (C.side g) x).generation) (e ∙ q.0) ∙ ap (λ (x : Label). x.generation) (C.decode_encode d (again l g) i fit), q.1, q.2)) (prep_cases f0 g l d)

    -- where prep writes a label the disk has one
    was : (f : Image X) (d : ℕ) → (Half C strict f0 g l ds F keeps pos fit low) f d → 0 < (copy C f0 d (C.side g)).generation → (C.decode d (C.side g) ((value C strict f0 g l ds F keeps pos fit low) d)).generation ≡ g → 0 < (copy C f d (C.side g)).generation
    unfolding copy
    was f d h p v = ⊎_elim (λ q. omega (arith, p, ap (λ (x : X). (C.decode d (C.side g) x).generation) q)) (λ q. omega (arith, pos, v, ap (λ (x : X). (C.decode d (C.side g) x).generation) q)) h.0

    put_shape : (f : Image X) (d : ℕ) → d < n → (Half C strict f0 g l ds F keeps pos fit low) f d → (ShapeBy C strict) f d → (ShapeBy C strict) (update f (label d (C.side g)) ((value C strict f0 g l ds F keeps pos fit low) d)) d
    unfolding copy
    put_shape f d i h s =
        let f' = update f (label d (C.side g)) ((value C strict f0 g l ds F keeps pos fit low) d) in
        let here : f' (label d (C.side g)) ≡ (value C strict f0 g l ds F keeps pos fit low) d = update_here f (label d (C.side g)) ((value C strict f0 g l ds F keeps pos fit low) d) in
        let there : f' (label d (C.side (suc g))) ≡ f (label d (C.side (suc g))) = update_other f (label d (C.side g)) ((value C strict f0 g l ds F keeps pos fit low) d) (label d (C.side (suc g))) (λ q. let y : C.side (suc g) ≡ C.side g = cc in not_self (C.side g) (sym (C.side_next g) ∙ y)) in
        let opposite : not (C.side (suc g)) ≡ C.side g = ap not (C.side_next g) ∙ not_not (C.side g) in
        let calm : (strict ≡ true) ⊎ (0 < (copy C f d (C.side g)).generation) → Calm C f' d (C.side (suc g)) = λ p. subst (λ (x : X). (x ≡ C.zeros) ⊎ (0 < (C.decode d (C.side (suc g)) x).generation)) (sym there) (s.calm (C.side (suc g)) (⊎_elim inl (λ u. inr (subst (λ (y : Bool). 0 < (C.decode d y (f (label d y))).generation) (sym opposite) u)) p)) in
        ⊎_elim (λ q. lone f' d g (inl q) (λ p. ⊎_elim (λ st. calm (inl st)) (λ u. absurd (omega (arith, u, zero_copy C f' d (C.side g) q))) p) (inl (zero_copy C f' d (C.side g) q)))
        (λ q. lone f' d g (inr (omega (arith, q.0, pos))) (λ p. calm (inr (was f d h q.2 (ap (λ (x : X). (C.decode d (C.side g) x).generation) (sym here) ∙ q.0)))) (inr (ap (λ (x : X). (C.decode d (C.side (suc g)) x).generation) (there ∙ h.1) ∙ q.1))) (value_copy f' d i here)

    -- PREP keeps the shape, and readies its disks
    pub prep_shape : (w : World X) → Sane w → Always w (λ f. (ShapesBy C strict) f × ((d : ℕ) (b : Bool) → Memᴰ d ds → f (label d b) ≡ f0 (label d b)) × F f) → During w (prep C f0 g l ds) (λ f. (ShapesBy C strict) f × F f) × Always (run w (prep C f0 g l ds)) (λ f. (ShapesBy C strict) f × ((d : ℕ) → Memᴰ d ds → Low C f d g) × F f)
    unfolding prep_batch Kept Covered Done
    prep_shape w sane h =
        let un : ℕ → Bool = λ d. not (prepared C f0 g d) in
        let es = keep un ds in
        let P : Image X → Type 0 = λ f. (ShapesBy C strict) f × ((d : ℕ) → Memᴰ d ds → (Half C strict f0 g l ds F keeps pos fit low) f d) × F f in
        let r = stage P (λ f. (ShapesBy C strict) f × ((d : ℕ) → Memᴰ d ds → Low C f d g) × F f) w (prep_batch C f0 g l ds) sane
        (always_map (λ f. (ShapesBy C strict) f × ((d : ℕ) (b : Bool) → Memᴰ d ds → f (label d b) ≡ f0 (label d b)) × F f) P w (λ f o. (o.0, (λ d m. (inl (o.1 d (C.side g) m), o.1 d (C.side (suc g)) m)), o.2)) h)
        (λ k m f o.
        let y = of_prep C g es k m in
        let i = (of_keep un ds y.0 y.1).0 in
        rw y.2 (
          (λ d j. one f y.0 i (o.1 y.0 i) o.0 d j (ℕ_discrete d y.0)),
          (λ d j. half_put f y.0 d (o.1 d j)),
          keeps f y.0 (C.side g) ((value C strict f0 g l ds F keeps pos fit low) y.0) i o.2,
        ))
        (prep_slots C g es)
        (λ f o done. (o.0, (λ d m. ready f d m (o.1 d m) (λ e. done (label d (C.side g)) (in_prep C g es d (in_keep un ds d m e))) (prepared C f0 g d) refl), o.2)) in
        (during_map P (λ f. (ShapesBy C strict) f × F f) w (prep C f0 g l ds) (λ f o. (o.0, o.2)) r.0, r.1)
      where
        one : (f : Image X) (e : ℕ) → Memᴰ e ds → (Half C strict f0 g l ds F keeps pos fit low) f e → (ShapesBy C strict) f → (d : ℕ) → d < n → Dec (d ≡ e) → (ShapeBy C strict) (update f (label e (C.side g)) ((value C strict f0 g l ds F keeps pos fit low) e)) d
        one f e i a s d j (yes q) = subst ((ShapeBy C strict) (update f (label e (C.side g)) ((value C strict f0 g l ds F keeps pos fit low) e))) (sym q) (put_shape f e (low e i) a (s e (low e i)))
        one f e i a s d j (no q) = shape_other f e (C.side g) ((value C strict f0 g l ds F keeps pos fit low) e) d q (s d j)

        low_of : (f : Image X) (d : ℕ) → d < n → f (label d (C.side g)) ≡ (value C strict f0 g l ds F keeps pos fit low) d → Low C f d g
        low_of f d i e = ⊎_elim inl (λ q. inr (pos, q.0)) (value_copy f d i e)

        old_of : (f : Image X) (d : ℕ) → prepared C f0 g d ≡ true → f (label d (C.side g)) ≡ f0 (label d (C.side g)) → Low C f d g
        old_of f d p e = inr (pos, same_copy f d e ∙ eqb-true (copy C f0 d (C.side g)).generation g p)
          where
            same_copy : (f : Image X) (d : ℕ) → f (label d (C.side g)) ≡ f0 (label d (C.side g)) → (copy C f d (C.side g)).generation ≡ (copy C f0 d (C.side g)).generation
            same_copy f d e = ap (λ (x : Label). x.generation) (copy_same C f0 f d (C.side g) e)

        ready : (f : Image X) (d : ℕ) → Memᴰ d ds → (Half C strict f0 g l ds F keeps pos fit low) f d → (not (prepared C f0 g d) ≡ true → f (label d (C.side g)) ≡ (value C strict f0 g l ds F keeps pos fit low) d) → (b : Bool) → prepared C f0 g d ≡ b → Low C f d g
        ready f d m h put true e = ⊎_elim (λ q. old_of f d e q) (λ q. low_of f d (low d m) q) h.0
        ready f d m h put false e = low_of f d (low d m) (put (rw e))
