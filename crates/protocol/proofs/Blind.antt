-- Start-up does not depend on what an absent slot holds: with the same present sectors it does the same.
use Prim.Native.Nat.{ℕ, zero, suc, ◌<◌}
use Rattle.std.specs.Prelude.{◌≡◌, ◌&&◌, ◌||◌}
use Rattle.std.proofs.Math.Path.{refl, ap, ap₂, fun_ext}
use Rattle.std.proofs.Common.{sym, subst, ◌∙◌, arith, ne_eqb}
use Rattle.std.proofs.Math.Bool.{Bool, true, false, cond, not}
use mathlib.Core.List.{List, [], ◌∷◌, ◌++◌, Memᴰ}
use Rattle.std.proofs.Math.Dec.{eqb, ltb}
use Rattle.std.proofs.lemmas.Bool.{not-true}
use Rattle.protocol.proofs.Told.{rounds_told}
use Rattle.protocol.specs.World.{Place, label, log, strip, slot, Image, Action, put}
use Rattle.protocol.specs.Batch.{actions, puts, flushes}
use Rattle.protocol.specs.Slots.{from, slots, of_slots, keep, of_keep, rows, of_rows, leader, every}
use Rattle.protocol.specs.Log.{RecordCodec, Belief}
use Rattle.protocol.specs.Write.{both, involved, stored, store, store_batch, stored_sectors}
use Rattle.protocol.proofs.Write.{of_involved}
use Rattle.protocol.specs.Redo as Redo
use Rattle.protocol.specs.Redo.{compared_sectors, redo, decision, forward, kill, kill_batch, marked, whole, complete_b, redone}
use Rattle.protocol.specs.Label.{Label, again, prep, prepared, prep_value, prep_places, prep_batch, Size, belief, Quorum, LabelCodec, copy, round}
use Rattle.protocol.proofs.Label.{of_prep, look_of}
use Rattle.protocol.specs.Startup.{behind, disowned, without, labelled, newest, lead, L, M, stale, gone, late, level_to, again_to, last_to, adopt, rounds}
use Rattle.protocol.proofs.Startup.{gone_absent, without_gone}
use Rattle.protocol.specs.Decide.{in_turn, settled, startup, Accepted}
use Rattle.protocol.specs.Blind.{newest_same, seen_same, leads, M_same}

every_same : (p q : ℕ → Bool) (l : List ℕ) → ((d : ℕ) → Memᴰ d l → p d ≡ q d) → every p l ≡ every q l
every_same p q [] h = refl
every_same p q (d ∷ l) h = let e = every_same p q l (λ x m. h x (Memᴰ.tail m)) in λ i. cond (h d (Memᴰ.head refl) i) (e i) false

keep_same : (p q : ℕ → Bool) (l : List ℕ) → ((d : ℕ) → Memᴰ d l → p d ≡ q d) → keep p l ≡ keep q l
keep_same p q [] h = refl
keep_same p q (d ∷ l) h = let e = keep_same p q l (λ x m. h x (Memᴰ.tail m)) in λ i. cond (h d (Memᴰ.head refl) i) (d ∷ e i) (e i)

puts_same : {X : Type 0} (v w : Place → X) (l : List Place) → ((k : Place) → Memᴰ k l → v k ≡ w k) → puts v l ≡ puts w l
puts_same v w [] h = refl
puts_same v w (k ∷ l) h = let e = puts_same v w l (λ x m. h x (Memᴰ.tail m)) in λ i. put k (h k (Memᴰ.head refl) i) ∷ e i

-- the log part, for a belief that looks only where f and g agree
module _ {X : Type 0} (K : RecordCodec X) (B : Belief) (f g : Image X) (same : (k : Place) → B.look (slot k) ≡ true → f k ≡ g k) where
  key_same : Redo.key K B f ≡ Redo.key K B g
  key_same = fun_ext (λ d. go d (B.look d) refl)
    where
      go : (d : ℕ) (b : Bool) → B.look d ≡ b → cond (B.look d) (K.stamp (f (log d K.c))) 0 ≡ cond (B.look d) (K.stamp (g (log d K.c))) 0
      go d true e = ap (λ (x : X). cond (B.look d) (K.stamp x) 0) (same (log d K.c) e)
      go d false e = rw e

  lead_same : Redo.lead K B f ≡ Redo.lead K B g
  lead_same = ap (λ (k : ℕ → ℕ). leader k B.n) key_same

  top_same : Redo.key K B f (Redo.lead K B f) ≡ Redo.key K B g (Redo.lead K B g)
  top_same = λ i. key_same i (lead_same i)

  module _ (look : B.look (Redo.lead K B f) ≡ true) where
    tail_same : Redo.tail K B f ≡ Redo.tail K B g
    tail_same = same (log (Redo.lead K B f) K.c) look ∙ ap (λ (d : ℕ). g (log d K.c)) lead_same

    complete_same : (d : ℕ) → B.look d ≡ true → complete_b K B f (Redo.key K B f (Redo.lead K B f)) d ≡ complete_b K B g (Redo.key K B g (Redo.lead K B g)) d
    unfolding complete_b
    complete_same d a = λ i. every (λ j. eqb (K.stamp (same (log d j) a i)) (top_same i)) (compared_sectors K)

    whole_same : whole K B f ≡ whole K B g
    unfolding whole
    whole_same =
        every_same (complete_b K B f (Redo.key K B f (Redo.lead K B f))) (complete_b K B g (Redo.key K B g (Redo.lead K B g))) (involved B (K.stripe_of (Redo.tail K B f)) (K.changes_of (Redo.tail K B f)))
        (λ d m. complete_same d (B.believe_look d (K.stripe_of (Redo.tail K B f)) (of_involved B (K.stripe_of (Redo.tail K B f)) (K.changes_of (Redo.tail K B f)) d m).0))
        ∙ ap (λ (x : X). every (complete_b K B g (Redo.key K B g (Redo.lead K B g))) (involved B (K.stripe_of x) (K.changes_of x))) tail_same

    strips_same : (t : ℕ) (ch : ℕ → Bool) → store K B t ch (redone K B f) ≡ store K B t ch (redone K B g)
    unfolding store_batch
    strips_same t ch =
        ap (λ (l : List (Action X)). l ++ flushes (involved B t ch)) (puts_same (stored K (redone K B f)) (stored K (redone K B g)) (rows (λ d j. strip d t j) (stored_sectors K) (involved B t ch))
        (λ k m. let y = of_rows (λ d j. strip d t j) (stored_sectors K) (involved B t ch) k m in rw y.4 (one y.0 y.1 (B.believe_look y.0 t (of_involved B t ch y.0 y.2).0))))
      where
        one : (d j : ℕ) → B.look d ≡ true → K.piece (f (log d K.c)) (f (log d j)) j ≡ K.piece (g (log d K.c)) (g (log d j)) j
        one d j a = λ i. K.piece (same (log d K.c) a i) (same (log d j) a i) j

    forward_same : forward K B f ≡ forward K B g
    unfolding forward
    forward_same = strips_same (K.stripe_of (Redo.tail K B f)) (K.changes_of (Redo.tail K B f)) ∙ ap (λ (x : X). store K B (K.stripe_of x) (K.changes_of x) (redone K B g)) tail_same

  marked_same : marked K B f ≡ marked K B g
  unfolding marked
  marked_same = ap (slots B.n) (fun_ext (λ d. go d (B.look d) refl))
    where
      go : (d : ℕ) (b : Bool) → B.look d ≡ b → (B.look d && eqb (K.stamp (f (log d K.c))) (Redo.key K B f (Redo.lead K B f))) ≡ (B.look d && eqb (K.stamp (g (log d K.c))) (Redo.key K B g (Redo.lead K B g)))
      go d true e = λ i. B.look d && eqb (K.stamp (same (log d K.c) e i)) (top_same i)
      go d false e = rw e

  kill_same : kill K B f ≡ kill K B g
  unfolding kill_batch
  kill_same = ap (λ (l : List ℕ). actions (record { value = λ k. K.zeros; places = rows (λ d j. log d K.c) (0 ∷ []) l; flushed = l })) marked_same

  pub redo_same : redo K B f ≡ redo K B g
  unfolding redo
  redo_same = go (Redo.key K B f (Redo.lead K B f)) refl
    where
      lit : (κ : ℕ) (b : Bool) → B.look (Redo.lead K B f) ≡ b → cond b (K.stamp (f (log (Redo.lead K B f) K.c))) 0 ≡ suc κ → B.look (Redo.lead K B f) ≡ true
      lit κ true e q = e
      lit κ false e q = absurd (omega arith)

      go : (k : ℕ) → Redo.key K B f (Redo.lead K B f) ≡ k → cond (eqb (Redo.key K B f (Redo.lead K B f)) 0) [] (cond (whole K B f) (forward K B f) (kill K B f)) ≡ cond (eqb (Redo.key K B g (Redo.lead K B g)) 0) [] (cond (whole K B g) (forward K B g) (kill K B g))
      go zero e =
          let a : eqb (Redo.key K B f (Redo.lead K B f)) 0 ≡ true = ap (λ (x : ℕ). eqb x 0) e in
          let b : eqb (Redo.key K B g (Redo.lead K B g)) 0 ≡ true = ap (λ (x : ℕ). eqb x 0) (sym top_same ∙ e) in
          ap (λ (x : Bool). cond x [] (cond (whole K B f) (forward K B f) (kill K B f))) a ∙ sym (ap (λ (x : Bool). cond x [] (cond (whole K B g) (forward K B g) (kill K B g))) b)
      go (suc κ) e =
          let l = lit κ (B.look (Redo.lead K B f)) refl e in
          λ i. cond (eqb (top_same i) 0) [] (cond (whole_same l i) (forward_same l i) (kill_same i))

  pub decision_same : (u : ℕ) → 0 < u → decision K B f u ≡ decision K B g u
  unfolding decision
  decision_same u pos = go (Redo.key K B f (Redo.lead K B f)) refl
    where
      lit : (κ : ℕ) (b : Bool) → B.look (Redo.lead K B f) ≡ b → cond b (K.stamp (f (log (Redo.lead K B f) K.c))) 0 ≡ suc κ → B.look (Redo.lead K B f) ≡ true
      lit κ true e q = e
      lit κ false e q = absurd (omega arith)

      none : (k : ℕ) → k ≡ 0 → eqb k u ≡ false
      none k e = ne_eqb k u (λ q. omega arith)

      go : (k : ℕ) → Redo.key K B f (Redo.lead K B f) ≡ k → (eqb (Redo.key K B f (Redo.lead K B f)) u && whole K B f) ≡ (eqb (Redo.key K B g (Redo.lead K B g)) u && whole K B g)
      go zero e = ap (λ (x : Bool). x && whole K B f) (none (Redo.key K B f (Redo.lead K B f)) e) ∙ sym (ap (λ (x : Bool). x && whole K B g) (none (Redo.key K B g (Redo.lead K B g)) (sym top_same ∙ e)))
      go (suc κ) e = let l = lit κ (B.look (Redo.lead K B f)) refl e in λ i. eqb (top_same i) u && whole_same l i

module _ {X : Type 0} (z : Size) (W : Quorum z.n) (C : LabelCodec X z.n) (K : RecordCodec X) (absent : ℕ → Bool) (f g : Image X) (same : (k : Place) → absent (slot k) ≡ false → f k ≡ g k) (some : 0 < M z C absent f) where
  lead_present : absent (lead z C absent f) ≡ false
  lead_present = go (absent (lead z C absent f)) refl
    where
      go : (b : Bool) → absent (lead z C absent f) ≡ b → absent (lead z C absent f) ≡ false
      go true e = let q : M z C absent f ≡ 0 = rw e in absurd (omega (arith, some, q))
      go false e = e

  L_same : L z C absent f ≡ L z C absent g
  L_same = (newest_same z W C K absent f g same some) (lead z C absent f) lead_present ∙ ap (newest z C absent g) (leads z W C K absent f g same some)

  stale_same : (d : ℕ) → absent d ≡ false → stale z C absent f d ≡ stale z C absent g d
  stale_same d a = λ i. behind ((seen_same z W C K absent f g same some) i d) ((M_same z W C K absent f g same some) i) || disowned ((newest_same z W C K absent f g same some) d a i) (L_same i) d

  gone_same : gone z C absent f ≡ gone z C absent g
  unfolding gone
  gone_same = fun_ext (λ d. go d (absent d) refl)
    where
      go : (d : ℕ) (b : Bool) → absent d ≡ b → (ltb d z.n && (absent d || stale z C absent f d)) ≡ (ltb d z.n && (absent d || stale z C absent g d))
      go d true e = rw e
      go d false e = ap (λ (x : Bool). ltb d z.n && (absent d || x)) (stale_same d e)

  late_same : late z C absent f ≡ late z C absent g
  late_same = ap (slots z.n) (fun_ext (λ d. go d (absent d) refl))
    where
      go : (d : ℕ) (b : Bool) → absent d ≡ b → (not (absent d) && stale z C absent f d) ≡ (not (absent d) && stale z C absent g d)
      go d true e = rw e
      go d false e = ap (λ (x : Bool). not (absent d) && x) (stale_same d e)

  pub settled_same : settled z C K absent f ≡ settled z C K absent g
  settled_same = λ i. without z.n (L_same i) (gone_same i) (suc (suc ((M_same z W C K absent f g same some) i)))

  prep_same : (m : ℕ) (l : Label) (ds : List ℕ) → ((d : ℕ) → Memᴰ d ds → absent d ≡ false) → prep C f m l ds ≡ prep C g m l ds
  unfolding prep_batch copy
  prep_same m l ds h =
      let p : ℕ → Bool = λ d. not (prepared C f m d) in
      let q : ℕ → Bool = λ d. not (prepared C g m d) in
      let e : keep p ds ≡ keep q ds = keep_same p q ds (λ d x. ap (λ (y : X). not (eqb (C.decode d (C.side m) y).generation m)) (same (label d (C.side m)) (h d x))) in
      let one : (d : ℕ) → absent d ≡ false → prep_value C f m l (label d (C.side m)) ≡ prep_value C g m l (label d (C.side m)) =
      λ d a i. cond (ltb 0 (C.decode d (C.side (suc m)) (same (label d (C.side (suc m))) a i)).generation || eqb (C.decode d (C.side m) (same (label d (C.side m)) a i)).generation 0) C.zeros (C.encode d (again l m)) in
      let v = puts_same (prep_value C f m l) (prep_value C g m l) (prep_places C m (keep p ds)) (λ k x. let y = of_prep C m (keep p ds) k x in rw y.2 (one y.0 (h y.0 (of_keep p ds y.0 y.1).0))) in
      ap (λ (r : List (Action X)). r ++ flushes (keep p ds)) v ∙ ap (λ (es : List ℕ). puts (prep_value C g m l) (prep_places C m es) ++ flushes es) e

  late_present : (d : ℕ) → Memᴰ d (late z C absent f) → absent d ≡ false
  late_present d m = not-true (absent d) (both (not (absent d)) (stale z C absent f d) (of_slots (λ e. not (absent e) && stale z C absent f e) z.n d m).1).0

  adopt_same : adopt z C absent f ≡ adopt z C absent g
  adopt_same =
      ap (λ (r : List (Action X)). r ++ round C (settled z C K absent f) (late z C absent f)) (prep_same (suc (M z C absent f)) (settled z C K absent f) (late z C absent f) late_present)
      ∙ (λ i. prep C g (suc ((M_same z W C K absent f g same some) i)) (settled_same i) (late_same i) ++ round C (settled_same i) (late_same i))

  rounds_same : rounds z C absent f ≡ rounds z C absent g
  unfolding rounds level_to again_to last_to
  rounds_same =
      let told = rounds_told in
      λ i. round C (L_same i) (slots z.n (λ d. not (gone_same i d))) ++ (round C (again (L_same i) (suc ((M_same z W C K absent f g same some) i))) (slots z.n (λ d. not (gone_same i d))) ++ (round C (settled_same i) (slots z.n (λ d. not (gone_same i d))) ++ adopt_same i))

  -- NO ACTION OF START-UP DEPENDS ON AN ABSENT SLOT'S SECTORS
  pub startup_blind : startup z C K absent f ≡ startup z C K absent g
  unfolding startup belief
  startup_blind =
      let B = belief z (settled z C K absent f) in
      let e = redo_same K B f g (λ k l. same k (gone_absent z W C absent f (slot k) (look_of z (settled z C K absent f) (slot k) l).0 (without_gone z (L z C absent f) (gone z C absent f) (suc (suc (M z C absent f))) (slot k) l))) in
      ap₂ (λ (a b : List (Action X)). in_turn a b) rounds_same (e ∙ ap (λ (l : Label). redo K (belief z l) g) settled_same)

  labelled_same : labelled z C absent f ≡ labelled z C absent g
  labelled_same = λ i. every (λ d. absent d || ltb 0 ((seen_same z W C K absent f g same some) i d)) (from 0 z.n)

  -- start-up is accepted on g as on f
  pub accepted_same : Accepted z W C absent f → Accepted z W C absent g
  accepted_same a =
      record {
        enough = subst (λ (o : ℕ → Bool). W.few o ≡ true) (λ i d. (L_same i).out d || gone_same i d) a.enough;
        labels_there = sym labelled_same ∙ a.labels_there;
        fits1 = subst C.Fits (λ i. again (L_same i) (suc ((M_same z W C K absent f g same some) i))) a.fits1;
        fits1' = subst C.Fits (λ i. without z.n (L_same i) (gone_same i) (suc ((M_same z W C K absent f g same some) i))) a.fits1';
        fits2 = subst C.Fits settled_same a.fits2;
      }

  -- and its log part decides the same
  pub start_decision_same : (u : ℕ) → 0 < u → decision K (belief z (settled z C K absent f)) f u ≡ decision K (belief z (settled z C K absent g)) g u
  unfolding belief
  start_decision_same u pos =
      decision_same K (belief z (settled z C K absent f)) f g (λ k l. same k (gone_absent z W C absent f (slot k) (look_of z (settled z C K absent f) (slot k) l).0 (without_gone z (L z C absent f) (gone z C absent f) (suc (suc (M z C absent f))) (slot k) l))) u pos
      ∙ ap (λ (l : Label). decision K (belief z l) g u) settled_same
