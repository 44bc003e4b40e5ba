-- ROT: strips that changed by themselves. The disks are compared with clean ones, on which nothing ever did: they agree in all that is read and in all that a cut
-- may leave, but for the sectors of the rotten strips. Each action, done to both, keeps that; so does a cut; and a strip that is stored and flushed on both is
-- rotten no more. Assumes nothing.
use Rattle.std.specs.Prelude.{ℕ, ◌<◌, ◌≡◌, Bool, not, ◌&&◌, ◌||◌, ◌⊎◌, ◌≢◌, List, [], ◌∷◌, eqb, ltb}
use Rattle.std.proofs.Math.Path.{refl, sym, subst}
use Rattle.std.proofs.Common.{ap, ◌∙◌, true≢false, inl, inr, eq-eqb, eqb-true, ltb-true, lt-ltb}
use Rattle.std.proofs.Math.Bool.{true, false, cond}
use Rattle.std.proofs.lemmas.Bool.{false≢true, eqb-false}
use Rattle.std.proofs.Math.Logic.{⊎_elim}
use Rattle.protocol.specs.World.{Place, label, log, strip, same, Image, update, update_here, update_other, same_or_not, World, Action, put, flush, act, run, after, Possible, Sane, Always, sane_after, sane_act}
use Rattle.protocol.specs.Log.{RecordCodec, Belief}
use Rattle.protocol.specs.Refresh.{Stored}

-- rot d t: the strip of slot d in stripe t may have changed by itself
abbrev pub Rot : Type 0
Rot = ℕ → ℕ → Bool

-- of c sectors each
abbrev pub rotten : ℕ → Rot → Place → Bool
rotten c rot (label d b) = false
rotten c rot (log d j) = false
rotten c rot (strip d t j) = rot d t && ltb j c

-- at most one strip of a stripe
abbrev pub OneEach : Rot → Type 0
OneEach rot = (d e t : ℕ) → rot d t ≡ true → rot e t ≡ true → d ≡ e

-- one more
abbrev pub spread : Rot → ℕ → ℕ → Rot
spread rot d t e u = rot e u || (eqb e d && eqb u t)

-- the strips that a write stored
abbrev pub mended : Rot → Belief → ℕ → (ℕ → Bool) → Rot
mended rot B t ch d u = rot d u && not (eqb u t && (B.believe d t && ch d))

pub either : (a b : Bool) → (a || b) ≡ true → (a ≡ true) ⊎ (b ≡ true)
either true b e = inl refl
either false b e = inr e

pub neither : (a b : Bool) → (a || b) ≡ false → (a ≡ false) × (b ≡ false)
neither true b e = absurd (true≢false e)
neither false b e = (refl, e)

pub two : (a b : Bool) → (a && b) ≡ true → (a ≡ true) × (b ≡ true)
two true b e = (refl, e)
two false b e = absurd (false≢true e)

pub not_two : (a b : Bool) → (a && b) ≡ false → a ≡ true → b ≡ false
not_two true b e q = e
not_two false b e q = absurd (false≢true q)

pub mended_less : (rot : Rot) (B : Belief) (t : ℕ) (ch : ℕ → Bool) (d u : ℕ) → mended rot B t ch d u ≡ true → rot d u ≡ true
mended_less rot B t ch d u e = (two (rot d u) _ e).0

-- a strip that was stored is not rotten any more
pub mended_gone : (rot : Rot) (B : Belief) (t : ℕ) (ch : ℕ → Bool) (d : ℕ) → B.believe d t ≡ true → ch d ≡ true → mended rot B t ch d t ≡ false
mended_gone rot B t ch d a b = go (rot d t)
  where
    go : (x : Bool) → (x && not (eqb t t && (B.believe d t && ch d))) ≡ false
    go true = rw (self, a, b)
      where
        self : eqb t t ≡ true
        self = eq-eqb t t refl
    go false = refl

pub mended_one : (rot : Rot) (B : Belief) (t : ℕ) (ch : ℕ → Bool) → OneEach rot → OneEach (mended rot B t ch)
mended_one rot B t ch one d e u a b = one d e u (mended_less rot B t ch d u a) (mended_less rot B t ch e u b)

-- other places than the strip that rots
spread_off : (c : ℕ) (rot : Rot) (d t : ℕ) (k : Place) → rotten c (spread rot d t) k ≡ false → (rotten c rot k ≡ false) × ((j : ℕ) → j < c → k ≢ strip d t j)
spread_off c rot d t (label e b) h = (refl, λ j i q. let x : ◌≡◌ {A = ℕ} 0 1 = cc in false≢true (ap (eqb 0) (sym x)))
spread_off c rot d t (log e i) h = (refl, λ j l q. let x : ◌≡◌ {A = ℕ} 0 1 = cc in false≢true (ap (eqb 0) (sym x)))
spread_off c rot d t (strip e u i) h = go (rot e u) refl (ltb i c) refl (eqb e d) refl (eqb u t) refl h
  where
    go : (r : Bool) → rot e u ≡ r → (l : Bool) → ltb i c ≡ l → (a : Bool) → eqb e d ≡ a → (b : Bool) → eqb u t ≡ b → ((r || (a && b)) && l) ≡ false → ((r && l) ≡ false) × ((j : ℕ) → j < c → strip e u i ≢ strip d t j)
    go true p true q a x b y h = absurd (true≢false h)
    go false p true q true x true y h = absurd (true≢false h)
    go true p false q a x b y h = (refl, λ j g s. let n : i ≡ j = cc in true≢false (sym (lt-ltb i c (subst (λ (v : ℕ). v < c) (sym n) g)) ∙ q))
    go false p false q a x b y h = (refl, λ j g s. let n : i ≡ j = cc in true≢false (sym (lt-ltb i c (subst (λ (v : ℕ). v < c) (sym n) g)) ∙ q))
    go false p true q false x b y h = (refl, λ j g s. let n : e ≡ d = cc in eqb-false e d x n)
    go false p true q true x false y h = (refl, λ j g s. let n : u ≡ t = cc in eqb-false u t y n)

module _ {X : Type 0} (c : ℕ) where
  abbrev pub Agree : Rot → Image X → Image X → Type 0
  Agree rot f g = (k : Place) → rotten c rot k ≡ false → f k ≡ g k

  -- w: the disks; v: the clean ones
  pub record Veiled (rot : Rot) (w v : World X) : Type 0 where
    pub sane : Sane w
    pub reads : Agree rot w.cur v.cur
    pub allows : (k : Place) (x : X) → rotten c rot k ≡ false → w.may k x → v.may k x

  update_same : (f g : Image X) (k l : Place) (x : X) → f l ≡ g l → update f k x l ≡ update g k x l
  unfolding update
  update_same f g k l x e = go (same l k)
    where
      go : (b : Bool) → cond b x (f l) ≡ cond b x (g l)
      go true = refl
      go false = e

  pub veiled_act : (rot : Rot) (w v : World X) (a : Action X) → Veiled rot w v → Veiled rot (act w a) (act v a)
  veiled_act rot w v (put k x) h =
      record {
        sane = sane_act w (put k x) h.sane;
        reads = λ l e. update_same w.cur v.cur k l x (h.reads l e);
        allows = λ l y e m. ⊎_elim (λ p. inl (h.allows l y e p)) (λ p. inr p) m;
      }
  veiled_act rot w v (flush d) h =
      record {
        sane = sane_act w (flush d) h.sane;
        reads = h.reads;
        allows = λ l y e m. (h.allows l y e m.0, λ q. m.1 q ∙ h.reads l e);
      }

  pub veiled_run : (rot : Rot) (w v : World X) (l : List (Action X)) → Veiled rot w v → Veiled rot (run w l) (run v l)
  veiled_run rot w v [] h = h
  veiled_run rot w v (a ∷ l) h = veiled_run rot (act w a) (act v a) l (veiled_act rot w v a h)

  -- A CUT leaves something that a cut of the clean disks could leave, but for the rotten strips
  unfoldable pub cleaned : Rot → World X → Image X → Image X
  cleaned rot v f k = cond (rotten c rot k) (v.cur k) (f k)

  pub cleaned_agrees : (rot : Rot) (v : World X) (f : Image X) → Agree rot f (cleaned rot v f)
  unfolding cleaned
  cleaned_agrees rot v f k e = rw e

  pub cleaned_possible : (rot : Rot) (w v : World X) (f : Image X) → Veiled rot w v → Sane v → Possible w f → Possible v (cleaned rot v f)
  unfolding Possible Sane cleaned
  cleaned_possible rot w v f h s p k = go (rotten c rot k) refl
    where
      go : (b : Bool) → rotten c rot k ≡ b → v.may k (cond b (v.cur k) (f k))
      go true e = s k
      go false e = h.allows k (f k) e (p k)

  pub veiled_cut : (rot : Rot) (w v : World X) (f : Image X) → Veiled rot w v → Veiled rot (after f) (after (cleaned rot v f))
  unfolding after
  veiled_cut rot w v f h =
      record {
        sane = sane_after f;
        reads = cleaned_agrees rot v f;
        allows = λ k x e m. m ∙ cleaned_agrees rot v f k e;
      }

  -- one outcome with x in place k
  pub one_outcome : (w : World X) → Sane w → (k : Place) (x : X) → w.may k x → Possible w (update w.cur k x)
  unfolding Possible Sane
  one_outcome w s k x m l =
      ⊎_elim (λ q. subst (λ (y : Place). w.may y (update w.cur k x y)) (sym q) (subst (w.may k) (sym (update_here w.cur k x)) m))
      (λ n. subst (w.may l) (sym (update_other w.cur k x l n)) (s l)) (same_or_not l k)

  -- STORED ON BOTH, and flushed: what was rotten there is so no more
  pub veiled_stored : (K : RecordCodec X) → K.c ≡ c → (rot : Rot) (B : Belief) (t : ℕ) (ch : ℕ → Bool) (new : ℕ → ℕ → X) (w v : World X) → Sane v → Always w (Stored K B t ch new) → Always v (Stored K B t ch new) → Veiled rot w v → Veiled (mended rot B t ch) w v
  unfolding Always Sane Possible
  veiled_stored K is rot B t ch new w v s a b h =
      record {
        sane = h.sane;
        reads = λ k e. ⊎_elim (λ q. h.reads k q) (λ q. let y = q in at_w k y ∙ sym (at_v k y)) (place k e);
        allows = λ k x e m. ⊎_elim (λ q. h.allows k x q m) (λ q. subst (v.may k) (at_v k q ∙ sym (only k x m q)) (s k)) (place k e);
      }
    where
      Mended : Place → Type 0
      Mended k = (d : ℕ) × (j : ℕ) × (k ≡ strip d t j) × (B.believe d t ≡ true) × (ch d ≡ true) × (j < K.c)

      value : (k : Place) → Mended k → X
      value k q = new q.0 q.1

      at_w : (k : Place) (q : Mended k) → w.cur k ≡ value k q
      at_w k q = ap w.cur q.2 ∙ a w.cur h.sane q.0 q.1 q.3 q.4 q.5

      at_v : (k : Place) (q : Mended k) → v.cur k ≡ value k q
      at_v k q = ap v.cur q.2 ∙ b v.cur s q.0 q.1 q.3 q.4 q.5

      only : (k : Place) (x : X) → w.may k x → (q : Mended k) → x ≡ value k q
      only k x m q =
          let p = one_outcome w h.sane k x m in
          sym (update_here w.cur k x) ∙ (ap (update w.cur k x) q.2 ∙ a (update w.cur k x) p q.0 q.1 q.3 q.4 q.5)

      place : (k : Place) → rotten c (mended rot B t ch) k ≡ false → (rotten c rot k ≡ false) ⊎ Mended k
      place (label d u) e = inl refl
      place (log d j) e = inl refl
      place (strip d u j) e = go (rot d u) refl (ltb j c) refl (eqb u t) refl (B.believe d t) refl (ch d) refl e
        where
          go : (r : Bool) → rot d u ≡ r → (l : Bool) → ltb j c ≡ l → (q : Bool) → eqb u t ≡ q → (y : Bool) → B.believe d t ≡ y → (o : Bool) → ch d ≡ o → ((r && not (q && (y && o))) && l) ≡ false → ((r && l) ≡ false) ⊎ Mended (strip d u j)
          go false f l g q i y k o n e = inl refl
          go true f false g q i y k o n e = inl refl
          go true f true g true i true k true n e = inr (d, j, ap (λ (x : ℕ). strip d x j) (eqb-true u t i), k, n, subst (λ (x : ℕ). j < x) (sym is) (ltb-true j c g))
          go true f true g true i true k false n e = absurd (true≢false e)
          go true f true g true i false k o n e = absurd (true≢false e)
          go true f true g false i y k o n e = absurd (true≢false e)

  -- a strip rots: all else is as before
  pub record Decayed (d t : ℕ) (w w' : World X) : Type 0 where
    pub sane : Sane w'
    pub reads : (k : Place) → ((j : ℕ) → j < c → k ≢ strip d t j) → w'.cur k ≡ w.cur k
    pub allows : (k : Place) (x : X) → ((j : ℕ) → j < c → k ≢ strip d t j) → w'.may k x → w.may k x

  pub veiled_decay : (rot : Rot) (d t : ℕ) (w w' v : World X) → Decayed d t w w' → Veiled rot w v → Veiled (spread rot d t) w' v
  veiled_decay rot d t w w' v h o =
      record {
        sane = h.sane;
        reads = λ k e. let p = spread_off c rot d t k e in h.reads k p.1 ∙ o.reads k p.0;
        allows = λ k x e m. let p = spread_off c rot d t k e in o.allows k x p.0 (h.allows k x p.1 m);
      }
