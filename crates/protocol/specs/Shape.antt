-- THE SHAPE OF A DISK'S TWO LABELS (document 02, C6): where one label sector is a valid copy, the other is zeros or a valid copy, and where both are valid their
-- generations follow each other. Every disk keeps it at every moment, whatever the caches do. (A disk without a label of this shelf may hold anything.)
use Prim.Native.Nat.{ℕ, suc, ◌<◌}
use Rattle.std.specs.Prelude.{◌≡◌, refl, true, false, ◌⊎◌, ◌≢◌}
use Rattle.std.proofs.Common.{sym, ◌∙◌, true≢false, arith}
use Rattle.std.proofs.Math.Path.{ap}
use Rattle.std.proofs.Math.Bool.{Bool, not}
use Rattle.std.proofs.lemmas.Bool.{false≢true}
use Rattle.std.proofs.Math.Logic.{⊎_elim, inl, inr}
use mathlib.Core.List.{List, Memᴰ}
use Rattle.std.proofs.Math.Decide.{ℕ_discrete}
use Rattle.protocol.specs.World.{label, slot, Image, update, update_here, update_other}
use Rattle.protocol.specs.Label.{Label, again, LabelCodec, copy, copy_same, prep_value}

pub two : (s b : Bool) → (b ≡ s) ⊎ (b ≡ not s)
two true true = inl refl
two true false = inr refl
two false true = inr refl
two false false = inl refl

pub not_self : (b : Bool) → not b ≢ b
not_self true e = false≢true e
not_self false e = true≢false e

pub not_not : (b : Bool) → not (not b) ≡ b
not_not true = refl
not_not false = refl

module _ {X : Type 0} {n : ℕ} (C : LabelCodec X n) where
  -- zeros, or a valid copy
  abbrev pub Calm : Image X → ℕ → Bool → Type 0
  Calm f d b = (f (label d b) ≡ C.zeros) ⊎ (0 < (copy C f d b).generation)

  pub copy_side : (f : Image X) (d : ℕ) (b : Bool) → 0 < (copy C f d b).generation → b ≡ C.side (copy C f d b).generation
  unfolding copy
  copy_side f d b p = C.decode_side d b (f (label d b)) p

  -- ready for a label of generation g + 1: the other sector is zeros or has generation g
  abbrev pub Low : Image X → ℕ → ℕ → Type 0
  Low f d g = (f (label d (C.side g)) ≡ C.zeros) ⊎ ((0 < g) × ((copy C f d (C.side g)).generation ≡ g))

  -- has generation g + 1
  abbrev pub Top : Image X → ℕ → ℕ → Type 0
  Top f d g = ((copy C f d (C.side (suc g))).generation ≡ suc g) × Low f d g

  pub zero_copy : (f : Image X) (d : ℕ) (b : Bool) → f (label d b) ≡ C.zeros → (copy C f d b).generation ≡ 0
  unfolding copy
  zero_copy f d b e = ap (λ (x : X). (C.decode d b x).generation) e ∙ C.decode_zeros d b

  -- other sectors of labels than this one
  other_side : (f : Image X) (d g : ℕ) (x : X) (e : ℕ) → update f (label d (C.side (suc g))) x (label e (C.side g)) ≡ f (label e (C.side g))
  other_side f d g x e = update_other f (label d (C.side (suc g))) x (label e (C.side g)) (λ q. let y : C.side g ≡ C.side (suc g) = cc in not_self (C.side g) (sym (C.side_next g) ∙ sym y))

  pub low_put : (f : Image X) (d g : ℕ) (x : X) (e : ℕ) → Low f e g → Low (update f (label d (C.side (suc g))) x) e g
  unfolding copy
  low_put f d g x e h = ⊎_elim (λ q. inl (other_side f d g x e ∙ q)) (λ q. inr (q.0, ap (λ (y : X). (C.decode e (C.side g) y).generation) (other_side f d g x e) ∙ q.1)) h

-- strict: so also of a disk without a label of this shelf: its label sectors are zeros
module _ {X : Type 0} {n : ℕ} (C : LabelCodec X n) (strict : Bool) where
  pub record ShapeBy (f : Image X) (d : ℕ) : Type 0 where
    pub calm : (b : Bool) → (strict ≡ true) ⊎ (0 < (copy C f d (not b)).generation) → Calm C f d b
    pub follow : (b : Bool) → 0 < (copy C f d b).generation → 0 < (copy C f d (not b)).generation → ((copy C f d b).generation ≡ suc (copy C f d (not b)).generation) ⊎ ((copy C f d (not b)).generation ≡ suc (copy C f d b).generation)

  pub top_shape : (f : Image X) (d g : ℕ) → Top C f d g → ShapeBy f d
  top_shape f d g t = record { calm = λ b p. calm b (two (C.side g) b); follow = λ b p q. follow b (two (C.side g) b) p q }
    where
      G : Bool → ℕ
      G b = (copy C f d b).generation

      here : (b : Bool) → b ≡ not (C.side g) → G b ≡ suc g
      here b e = ap G (e ∙ sym (C.side_next g)) ∙ t.0

      calm : (b : Bool) → (b ≡ C.side g) ⊎ (b ≡ not (C.side g)) → Calm C f d b
      calm b (inl e) = ⊎_elim (λ q. inl (ap (λ (y : Bool). f (label d y)) e ∙ q)) (λ q. inr (omega (arith, ap G e, q.0, q.1))) t.1
      calm b (inr e) = inr (omega (arith, here b e))

      low : (b : Bool) → b ≡ C.side g → 0 < G b → G b ≡ g
      low b e p = ⊎_elim (λ q. absurd (omega (arith, p, zero_copy C f d b (ap (λ (y : Bool). f (label d y)) e ∙ q)))) (λ q. ap G e ∙ q.1) t.1

      follow : (b : Bool) → (b ≡ C.side g) ⊎ (b ≡ not (C.side g)) → 0 < G b → 0 < G (not b) → (G b ≡ suc (G (not b))) ⊎ (G (not b) ≡ suc (G b))
      follow b (inl e) p q = inr (omega (arith, low b e p, here (not b) (ap not e)))
      follow b (inr e) p q = inl (omega (arith, here b e, low (not b) (ap not e ∙ not_not (C.side g)) q))

  -- a label put on disk d leaves the shape of the other disks alone
  -- the shape of a disk is in its two label sectors
  pub shape_same : (f g : Image X) (d : ℕ) → ((b : Bool) → g (label d b) ≡ f (label d b)) → ShapeBy f d → ShapeBy g d
  shape_same f g d e s =
      let c : (b : Bool) → (copy C g d b).generation ≡ (copy C f d b).generation = λ b. ap (λ (l : Label). l.generation) (copy_same C f g d b (e b)) in
      record {
        calm = λ b p. ⊎_elim (λ q. inl (e b ∙ q)) (λ q. inr (omega (arith, q, c b))) (s.calm b (⊎_elim inl (λ y. inr (omega (arith, y, c (not b)))) p));
        follow = λ b p q. ⊎_elim (λ y. inl (omega (arith, y, c b, c (not b)))) (λ y. inr (omega (arith, y, c b, c (not b)))) (s.follow b (omega (arith, p, c b)) (omega (arith, q, c (not b))));
      }

  -- zeros over a label sector
  pub shape_zeros : (f : Image X) (d : ℕ) (b : Bool) (e : ℕ) → ShapeBy f e → ShapeBy (update f (label d b) C.zeros) e
  shape_zeros f d b e h = go (ℕ_discrete e d)
    where
      f' : Image X
      f' = update f (label d b) C.zeros

      beside : (s : Bool) → s ≡ not b → Calm C f e s → Calm C (update f (label d b) C.zeros) e s
      beside s y c =
          let u : update f (label d b) C.zeros (label e s) ≡ f (label e s) = update_other f (label d b) C.zeros (label e s) (λ q. let r : s ≡ b = cc in not_self b (sym y ∙ r)) in
          ⊎_elim (λ q. inl (u ∙ q)) (λ q. inr (omega (arith, q, ap (λ (l : Label). l.generation) (copy_same C f (update f (label d b) C.zeros) e s u)))) c

      zero : e ≡ d → (copy C (update f (label d b) C.zeros) e b).generation ≡ 0
      zero q = zero_copy C (update f (label d b) C.zeros) e b (ap (λ (x : ℕ). update f (label d b) C.zeros (label x b)) q ∙ update_here f (label d b) C.zeros)

      go : Dec (e ≡ d) → ShapeBy (update f (label d b) C.zeros) e
      go (no n) = shape_same f (update f (label d b) C.zeros) e (λ y. update_other f (label d b) C.zeros (label e y) (λ q. n (ap slot q))) h
      go (yes q) =
          record {
            calm = λ s p. ⊎_elim (λ y. inl (ap (λ (x : Bool). update f (label d b) C.zeros (label e x)) y ∙ (ap (λ (x : ℕ). update f (label d b) C.zeros (label x b)) q ∙ update_here f (label d b) C.zeros))) (λ y. ⊎_elim (λ st. beside s y (h.calm s (inl st))) (λ u. absurd (omega (arith, u, zero q, ap (λ (x : Bool). (copy C (update f (label d b) C.zeros) e x).generation) (ap not y ∙ not_not b)))) p) (two b s);
            follow = λ s p r. absurd (⊎_elim (λ y. omega (arith, p, zero q, ap (λ (x : Bool). (copy C (update f (label d b) C.zeros) e x).generation) y)) (λ y. omega (arith, r, zero q, ap (λ (x : Bool). (copy C (update f (label d b) C.zeros) e x).generation) (ap not y ∙ not_not b))) (two b s));
          }

  abbrev pub ShapesBy : Image X → Type 0
  ShapesBy f = (d : ℕ) → d < n → ShapeBy f d

  module _ (f0 : Image X) (g : ℕ) (l : Label) (ds : List ℕ) (F : Image X → Type 0) (keeps : (f : Image X) (d : ℕ) (b : Bool) (x : X) → Memᴰ d ds → F f → F (update f (label d b) x)) (pos : 0 < g) (fit : C.Fits (again l g)) (low : (d : ℕ) → Memᴰ d ds → d < n) where
    abbrev pub value : ℕ → X
    value d = prep_value C f0 g l (label d (C.side g))

    -- while prep runs
    abbrev pub Half : Image X → ℕ → Type 0
    Half f d = ((f (label d (C.side g)) ≡ f0 (label d (C.side g))) ⊎ (f (label d (C.side g)) ≡ value d)) × (f (label d (C.side (suc g))) ≡ f0 (label d (C.side (suc g))))

-- where every disk has always been this shelf's, or zeros
module _ {X : Type 0} {n : ℕ} (C : LabelCodec X n) where
  abbrev pub Shape : Image X → ℕ → Type 0
  Shape f d = ShapeBy C true f d

  abbrev pub Shapes : Image X → Type 0
  Shapes f = ShapesBy C true f
