-- Labels: which slots are out, which one is being rebuilt and how far; and what the labels on all disks, present or not, may be while
-- rounds of labels are written, cut, and begun again by start-ups that meet other slots.
use Rattle.std.specs.Prelude.{ℕ, suc, ◌≤◌, ◌<◌, ◌≡◌, Bool, ◌&&◌, ◌||◌, ◌⊎◌, ◌≢◌}
use Rattle.std.proofs.Math.Path.{refl, sym, ap, subst}
use Rattle.std.proofs.Common.{◌∙◌, ⊎_elim, inr, arith}
use Rattle.std.proofs.Math.Bool.{true, false, cond, not, true≢false}
use Rattle.std.proofs.lemmas.Bool.{false≢true}
use Rattle.std.proofs.Math.Logic.{inl}
use mathlib.Core.List.{List, [], ◌∷◌, Memᴰ}
use Rattle.std.proofs.Math.Dec.{eqb, ltb}
use borrow.Author.Tests.{eq-eqb, eqb-true, ltb-true, ltb-false, lt-ltb}
use Rattle.protocol.specs.World.{Place, label, slot, Image, update, update_other, update_cases, World, run, Sane, Always, During}
use Rattle.protocol.specs.Batch.{actions, Kept, Covered, Done, stage}
use Rattle.protocol.specs.Slots.{keep, of_keep, in_rows, of_rows, rows_slots}
use Rattle.protocol.specs.Write.{both}
use Rattle.protocol.specs.Label.{Label, again, plainly_out, Size, looked, believed, belief, Quorum, LabelCodec, copy, Aged, there, round_batch, round, prepared, prep_value, prep_places, prep_batch, prep, foreign, alien, last_side, expel_batch, expel, purged, copy_put, aged_told, copy_same, MayRule, Labels, Only, only_put, Bare}

and_is : (a b : Bool) → a ≡ true → b ≡ true → (a && b) ≡ true
and_is a b p q = rw (p, q)

nand_l : (o e : Bool) → o ≡ false → not (o && not e) ≡ true
nand_l true e h = absurd (true≢false h)
nand_l false e h = refl

nand_r : (o e : Bool) → e ≡ true → not (o && not e) ≡ true
nand_r true true h = refl
nand_r true false h = h
nand_r false e h = refl

or_is : (o m : Bool) → (o ≡ false) ⊎ (m ≡ true) → (not o || m) ≡ true
or_is true true h = refl
or_is true false h = ⊎_elim (λ q. sym q) (λ q. q) h
or_is false m h = refl

-- in other words
module _ (z : Size) (l : Label) (d : ℕ) where
  pub look_of : looked z l d ≡ true → (d < z.n) × ((l.out d ≡ false) ⊎ (d ≡ l.rebuilding))
  look_of h = let p = both (ltb d z.n) (not (plainly_out l d)) h in (ltb-true d z.n p.0, go (l.out d) refl (eqb d l.rebuilding) refl p.1)
    where
      go : (o : Bool) → l.out d ≡ o → (e : Bool) → eqb d l.rebuilding ≡ e → not (o && not e) ≡ true → (l.out d ≡ false) ⊎ (d ≡ l.rebuilding)
      go true a true b q = inr (eqb-true d l.rebuilding b)
      go true a false b q = absurd (false≢true q)
      go false a e b q = inl a

  pub look_is : d < z.n → (l.out d ≡ false) ⊎ (d ≡ l.rebuilding) → looked z l d ≡ true
  look_is i h = and_is (ltb d z.n) (not (plainly_out l d)) (lt-ltb d z.n i) (⊎_elim (λ q. nand_l (l.out d) (eqb d l.rebuilding) q) (λ q. nand_r (l.out d) (eqb d l.rebuilding) (eq-eqb d l.rebuilding q)) h)

  pub believe_of : (t : ℕ) → believed z l d t ≡ true → (d < z.n) × (t < z.T) × ((l.out d ≡ false) ⊎ ((d ≡ l.rebuilding) × (t < l.mark)))
  believe_of t h =
      let p = both (looked z l d) (ltb t z.T && (not (l.out d) || ltb t l.mark)) h in
      let q = both (ltb t z.T) (not (l.out d) || ltb t l.mark) p.1 in
      let r = look_of p.0 in
      (r.0, ltb-true t z.T q.0, ⊎_elim inl (λ e. go (l.out d) refl e q.1) r.1)
    where
      go : (o : Bool) → l.out d ≡ o → d ≡ l.rebuilding → (not o || ltb t l.mark) ≡ true → (l.out d ≡ false) ⊎ ((d ≡ l.rebuilding) × (t < l.mark))
      go true a e q = inr (e, ltb-true t l.mark q)
      go false a e q = inl a

  pub believe_is : (t : ℕ) → d < z.n → t < z.T → (l.out d ≡ false) ⊎ ((d ≡ l.rebuilding) × (t < l.mark)) → believed z l d t ≡ true
  believe_is t i j h =
      and_is (looked z l d) (ltb t z.T && (not (l.out d) || ltb t l.mark)) (look_is i (⊎_elim inl (λ q. inr q.0) h))
      (and_is (ltb t z.T) (not (l.out d) || ltb t l.mark) (lt-ltb t z.T j) (or_is (l.out d) (ltb t l.mark) (⊎_elim inl (λ q. inr (lt-ltb t l.mark q.1)) h)))

module _ {X : Type 0} {n : ℕ} (C : LabelCodec X n) where
  pub in_prep : (g : ℕ) (ds : List ℕ) (d : ℕ) → Memᴰ d ds → Memᴰ (label d (C.side g)) ((prep_places C) g ds)
  unfolding prep_places
  in_prep g ds d m = in_rows (λ d j. label d (C.side g)) (0 ∷ []) ds d 0 m (Memᴰ.head refl)

  pub of_prep : (g : ℕ) (ds : List ℕ) (k : Place) → Memᴰ k ((prep_places C) g ds) → (d : ℕ) × Memᴰ d ds × (k ≡ label d (C.side g))
  unfolding prep_places
  of_prep g ds k m = let y = of_rows (λ d j. label d (C.side g)) (0 ∷ []) ds k m in (y.0, y.2, y.4)

  pub prep_slots : (g : ℕ) (ds : List ℕ) (k : Place) → Memᴰ k ((prep_places C) g ds) → Memᴰ (slot k) ds
  prep_slots g ds k m = let y = of_prep g ds k m in subst (λ (x : ℕ). Memᴰ x ds) (sym (ap slot y.2)) y.1

  pub last_greater : (f : Image X) (d : ℕ) → (foreign C) f d (not ((last_side C) f d)) ≤ (foreign C) f d ((last_side C) f d)
  unfolding last_side
  last_greater f d = go (ltb ((foreign C) f d false) ((foreign C) f d true)) refl
    where
      go : (s : Bool) → ltb ((foreign C) f d false) ((foreign C) f d true) ≡ s → (foreign C) f d (not s) ≤ (foreign C) f d s
      go true e = omega (arith, ltb-true ((foreign C) f d false) ((foreign C) f d true) e)
      go false e = ltb-false ((foreign C) f d false) ((foreign C) f d true) e

  purged_copy : (f : Image X) (d : ℕ) (b : Bool) → ((copy C) f d b).generation ≡ ((copy C) ((purged C) f) d b).generation
  unfolding copy
  purged_copy f d b = go ((alien C) f b d) refl
    where
      go : (y : Bool) → (alien C) f b d ≡ y → (C.decode d b (f (label d b))).generation ≡ (C.decode d b (cond y C.zeros (f (label d b)))).generation
      go true e = C.strange_none d b (f (label d b)) (ltb-true 0 ((foreign C) f d b) e) ∙ sym (C.decode_zeros d b)
      go false e = refl

  -- prep does not look at them
  pub prep_purged : (f : Image X) (g : ℕ) (l : Label) (ds : List ℕ) → (prep C) f g l ds ≡ (prep C) ((purged C) f) g l ds
  unfolding prep_batch
  prep_purged f g l ds =
      λ i. actions (record {
        value = λ k. cond (ltb 0 (purged_copy f (slot k) (C.side (suc g)) i) || eqb (purged_copy f (slot k) (C.side g) i) 0) C.zeros (C.encode (slot k) (again l g));
        places = (prep_places C) g (keep (λ d. not (eqb (purged_copy f d (C.side g) i) g)) ds);
        flushed = keep (λ d. not (eqb (purged_copy f d (C.side g) i) g)) ds;
      })

  prep_decodes : (P : Label → Type 0) (f0 : Image X) (g : ℕ) (l : Label) (d : ℕ) → d < n → ((x : Label) → x.generation ≡ 0 → P x) → (C.Fits (again l g)) → P (again l g) → P (C.decode d (C.side g) ((prep_value C) f0 g l (label d (C.side g))))
  prep_decodes P f0 g l d i none fit h = go (ltb 0 ((copy C) f0 d (C.side (suc g))).generation || eqb ((copy C) f0 d (C.side g)).generation 0)
    where
      go : (b : Bool) → P (C.decode d (C.side g) (cond b C.zeros (C.encode d (again l g))))
      go true = none (C.decode d (C.side g) C.zeros) (C.decode_zeros d (C.side g))
      go false = rw (C.decode_encode d (again l g) i fit) h

  aged_put : (g : ℕ) (l : Label) (d : ℕ) (f : Image X) → C.Fits l → (e : ℕ) → e < n → g ≤ l.generation → (Aged C) f e g → (Aged C) (update f (label d (C.side l.generation)) (C.encode d l)) e g
  unfolding Aged
  aged_put g l d f fit e i h a = (a.0, (copy_put C) (λ x. g ≤ x.generation) l d f fit e a.0 i h a.1)

  -- A ROUND: what each of its puts keeps holds all the while; then each of its slots has the label
  pub round_keeps : (P : Image X → Type 0) (l : Label) (ds : List ℕ) (w : World X) → Sane w → C.Fits l → ((d : ℕ) → Memᴰ d ds → (f : Image X) → P f → P (update f (label d (C.side l.generation)) (C.encode d l))) → Always w P → During w ((round C) l ds) P × Always (run w ((round C) l ds)) (λ f. P f × ((d g : ℕ) → Memᴰ d ds → d < n → g ≤ l.generation → (Aged C) f d g))
  unfolding round_batch Kept Covered Done
  round_keeps P l ds w sane fit kept h =
      stage P (λ f. P f × ((d g : ℕ) → Memᴰ d ds → d < n → g ≤ l.generation → (Aged C) f d g)) w ((round_batch C) l ds) sane h
      (λ k m f o. let y = of_rows ((there C) l) (0 ∷ []) ds k m in rw y.4 (kept y.0 y.2 f o))
      (rows_slots ((there C) l) (0 ∷ []) ds (λ d j. refl))
      (λ f o done. (o, λ d g m j i. (aged_told C) l f d j fit (done (label d (C.side l.generation)) (in_rows ((there C) l) (0 ∷ []) ds d 0 m (Memᴰ.head refl))) g i))

module _ {X : Type 0} (z : Size) (W : Quorum z.n) (C : LabelCodec X z.n) where
  pub labels_put : (Q N : Label) (top : ℕ) (far : ℕ → Bool) (f : Image X) (l : Label) (d : ℕ) → C.Fits l → Q.generation ≤ l.generation → l.generation ≤ top → top ≤ suc l.generation → (MayRule z W C) Q N l → (Labels z W C) Q N top far f → (Labels z W C) Q N top far (update f (label d (C.side l.generation)) (C.encode d l))
  labels_put Q N top far f l d fit a b c ok h =
      record {
        few_Q = h.few_Q;
        few_far = h.few_far;
        low = λ e i o. aged_put C Q.generation l d f fit e i a (h.low e i o);
        cap = λ e s i. copy_put C (λ x. x.generation ≤ top) l d f fit e s i b (h.cap e s i);
        near = λ e g i o j. aged_put C g l d f fit e i (omega arith) (h.near e g i o j);
        fine = λ e s i. copy_put C (λ x. 0 < x.generation → Q.generation ≤ x.generation → (MayRule z W C) Q N x) l d f fit e s i (λ p q. ok) (h.fine e s i);
      }

  -- a round of l, while Q and N stand
  pub round_safe : (Q N : Label) (top : ℕ) (far : ℕ → Bool) (l : Label) (ds : List ℕ) (E : Image X → Type 0) → (Bare z W C) E → (w : World X) → Sane w → C.Fits l → Q.generation ≤ l.generation → l.generation ≤ top → top ≤ suc l.generation → (MayRule z W C) Q N l → Always w (λ f. (Labels z W C) Q N top far f × E f) → During w (round C l ds) (λ f. (Labels z W C) Q N top far f × E f) × Always (run w (round C l ds)) (λ f. ((Labels z W C) Q N top far f × E f) × ((d g : ℕ) → Memᴰ d ds → d < z.n → g ≤ l.generation → Aged C f d g))
  unfolding Bare
  round_safe Q N top far l ds E bare w sane fit a b c ok h =
      round_keeps C (λ f. (Labels z W C) Q N top far f × E f) l ds w sane fit (λ d m f o. (labels_put Q N top far f l d fit a b c ok o.0, bare f d (C.side l.generation) (C.encode d l) o.1)) h

  -- the same, where nobody has l's generation yet but from this round
  pub round_only : (Q N : Label) (top : ℕ) (far : ℕ → Bool) (l : Label) (ds : List ℕ) (E : Image X → Type 0) → (Bare z W C) E → (w : World X) → Sane w → C.Fits l → Q.generation ≤ l.generation → l.generation ≤ top → top ≤ suc l.generation → (MayRule z W C) Q N l → Always w (λ f. (Labels z W C) Q N top far f × E f × (Only z W C) l.generation l f) → During w (round C l ds) (λ f. (Labels z W C) Q N top far f × E f × (Only z W C) l.generation l f) × Always (run w (round C l ds)) (λ f. ((Labels z W C) Q N top far f × E f × (Only z W C) l.generation l f) × ((d g : ℕ) → Memᴰ d ds → d < z.n → g ≤ l.generation → Aged C f d g))
  unfolding Bare
  round_only Q N top far l ds E bare w sane fit a b c ok h =
      round_keeps C (λ f. (Labels z W C) Q N top far f × E f × (Only z W C) l.generation l f) l ds w sane fit (λ d m f o. (labels_put Q N top far f l d fit a b c ok o.0, bare f d (C.side l.generation) (C.encode d l) o.1, (only_put z W C) l.generation l d f fit o.2)) h

  -- the top may rise by a generation that nobody has yet, once all but few are at most one behind it
  pub labels_rise : (Q N : Label) (top top' : ℕ) (far far' : ℕ → Bool) (f : Image X) → top ≤ top' → W.few far' ≡ true → ((d g : ℕ) → d < z.n → far' d ≡ false → g < top' → Aged C f d g) → (Labels z W C) Q N top far f → (Labels z W C) Q N top' far' f
  labels_rise Q N top top' far far' f h few n o =
      record { few_Q = o.few_Q; few_far = few; low = o.low; cap = λ d b i. omega (arith, o.cap d b i); near = n; fine = o.fine }

  pub rules_self : (Q : Label) → W.few Q.out ≡ true → (MayRule z W C) Q Q Q
  unfolding belief
  rules_self Q h = record { few_out = h; same_out = λ e. refl; narrow = inl (record { look_in = λ d e. e; believe_in = λ d t e. refl }) }

  -- a label is settled: whoever is not out has it, and nobody has another one of its generation or more
  pub labels_settle : (l : Label) (f : Image X) → W.few l.out ≡ true → ((d g : ℕ) → d < z.n → l.out d ≡ false → g ≤ l.generation → Aged C f d g) → (Only z W C) l.generation l f → ((d : ℕ) (b : Bool) → d < z.n → (copy C f d b).generation ≤ l.generation) → (Labels z W C) l l l.generation l.out f
  unfolding Only
  labels_settle l f few has only cap =
      record {
        few_Q = few;
        few_far = few;
        low = λ d i e. has d l.generation i e (omega arith);
        cap = cap;
        near = λ d g i e j. has d g i e (omega arith);
        fine = λ d b i p j. rw (only d b i j) (rules_self l few);
      }

  -- on a slot that is out and far, a label sector may hold anything that is old, or that may rule
  pub labels_aside : (Q N : Label) (top : ℕ) (far : ℕ → Bool) (f : Image X) (d : ℕ) (b : Bool) (x : X) → Q.out d ≡ true → far d ≡ true → (d < z.n → (C.decode d b x).generation ≤ top) → (d < z.n → 0 < (C.decode d b x).generation → Q.generation ≤ (C.decode d b x).generation → (MayRule z W C) Q N (C.decode d b x)) → (Labels z W C) Q N top far f → (Labels z W C) Q N top far (update f (label d b) x)
  unfolding copy Aged
  labels_aside Q N top far f d b x out away old ok o =
      record {
        few_Q = o.few_Q;
        few_far = o.few_far;
        low = λ e i q. let y = o.low e i q in (y.0, subst (λ (v : X). Q.generation ≤ (C.decode e y.0 v).generation) (sym (other e y.0 (λ p. true≢false (sym out ∙ (ap Q.out (sym p) ∙ q))))) y.1);
        cap = λ e s i. update_cases f (label d b) x (λ v. (C.decode e s v).generation ≤ top) (label e s) (λ q. let p : e ≡ d = cc in let r : s ≡ b = cc in rw (p, r) (old (omega arith))) (o.cap e s i);
        near = λ e g i q j. let y = o.near e g i q j in (y.0, subst (λ (v : X). g ≤ (C.decode e y.0 v).generation) (sym (other e y.0 (λ p. true≢false (sym away ∙ (ap far (sym p) ∙ q))))) y.1);
        fine = λ e s i. update_cases f (label d b) x (λ v. 0 < (C.decode e s v).generation → Q.generation ≤ (C.decode e s v).generation → (MayRule z W C) Q N (C.decode e s v)) (label e s) (λ q. let p : e ≡ d = cc in let r : s ≡ b = cc in rw (p, r) (ok (omega arith))) (o.fine e s i);
      }
    where
      other : (e : ℕ) (s : Bool) → e ≢ d → update f (label d b) x (label e s) ≡ f (label e s)
      other e s n = update_other f (label d b) x (label e s) (λ q. n (ap slot q))

  -- prep of slots that are out and far
  pub prep_safe : (Q N : Label) (top : ℕ) (far : ℕ → Bool) (f0 : Image X) (g : ℕ) (l : Label) (ds : List ℕ) (E : Image X → Type 0) → (Bare z W C) E → (w : World X) → Sane w → C.Fits (again l g) → g ≤ top → (Q.generation ≤ g → (MayRule z W C) Q N (again l g)) → ((d : ℕ) → Memᴰ d ds → (Q.out d ≡ true) × (far d ≡ true)) → Always w (λ f. (Labels z W C) Q N top far f × E f) → During w (prep C f0 g l ds) (λ f. (Labels z W C) Q N top far f × E f) × Always (run w (prep C f0 g l ds)) (λ f. (Labels z W C) Q N top far f × E f)
  unfolding prep_batch Kept Covered Done Bare
  prep_safe Q N top far f0 g l ds E bare w sane fit low ok aside h =
      let es = keep (λ d. not (prepared C f0 g d)) ds in
      stage (λ f. (Labels z W C) Q N top far f × E f) (λ f. (Labels z W C) Q N top far f × E f) w (prep_batch C f0 g l ds) sane h
      (λ k m f o.
      let y = of_prep C g es k m in
      let a = aside y.0 (of_keep (λ d. not (prepared C f0 g d)) ds y.0 y.1).0 in
      rw y.2 (
        labels_aside Q N top far f y.0 (C.side g) (prep_value C f0 g l (label y.0 (C.side g))) a.0 a.1
            (λ i. prep_decodes C (λ x. x.generation ≤ top) f0 g l y.0 i (λ x q. omega arith) fit low)
            (λ i. prep_decodes C (λ x. 0 < x.generation → Q.generation ≤ x.generation → (MayRule z W C) Q N x) f0 g l y.0 i (λ x q p. absurd (omega arith)) fit (λ p q. ok q))
            o.0,
        bare f y.0 (C.side g) (prep_value C f0 g l (label y.0 (C.side g))) o.1,
      ))
      (prep_slots C g es)
      (λ f o done. o)

  -- foreign copies of a slot that is out and far are zeroed
  pub expel_safe : (Q N : Label) (top : ℕ) (far : ℕ → Bool) (f0 : Image X) (s : Bool) (ds : List ℕ) (E : Image X → Type 0) → (Bare z W C) E → (w : World X) → Sane w → ((d : ℕ) → Memᴰ d ds → (Q.out d ≡ true) × (far d ≡ true)) → Always w (λ f. (Labels z W C) Q N top far f × E f) → During w (expel C f0 s ds) (λ f. (Labels z W C) Q N top far f × E f) × Always (run w (expel C f0 s ds)) (λ f. (Labels z W C) Q N top far f × E f)
  unfolding expel_batch Kept Covered Done Bare
  expel_safe Q N top far f0 s ds E bare w sane aside h =
      let es = keep (alien C f0 s) ds in
      stage (λ f. (Labels z W C) Q N top far f × E f) (λ f. (Labels z W C) Q N top far f × E f) w (expel_batch C f0 s ds) sane h
      (λ k m f o.
      let y = of_rows (λ d j. label d s) (0 ∷ []) es k m in
      let a = aside y.0 (of_keep (alien C f0 s) ds y.0 y.2).0 in
      rw y.4 (
        labels_aside Q N top far f y.0 s C.zeros a.0 a.1 (λ i. omega (arith, C.decode_zeros y.0 s)) (λ i p. absurd (omega (arith, p, C.decode_zeros y.0 s))) o.0,
        bare f y.0 s C.zeros o.1,
      ))
      (rows_slots (λ d j. label d s) (0 ∷ []) es (λ d j. refl))
      (λ f o done. o)

  -- labels alone matter
  pub labels_same : (Q N : Label) (top : ℕ) (far : ℕ → Bool) (f g : Image X) → ((d : ℕ) (b : Bool) → g (label d b) ≡ f (label d b)) → (Labels z W C) Q N top far f → (Labels z W C) Q N top far g
  unfolding Aged
  labels_same Q N top far f g e o =
      record {
        few_Q = o.few_Q;
        few_far = o.few_far;
        low = λ d i x. let y = o.low d i x in (y.0, rw (copy_same C f g d y.0 (e d y.0)) y.1);
        cap = λ d b i. rw (copy_same C f g d b (e d b)) (o.cap d b i);
        near = λ d h i x j. let y = o.near d h i x j in (y.0, rw (copy_same C f g d y.0 (e d y.0)) y.1);
        fine = λ d b i. rw (copy_same C f g d b (e d b)) (o.fine d b i);
      }
