-- EVERY DISK HAS THE C6 SHAPE AT EVERY MOMENT, as long as every disk that is put in has it (one without a label of this shelf has it, and an older disk of the shelf kept it).
use Rattle.std.specs.Prelude.{ℕ, suc, ◌<◌, ◌≡◌, Bool}
use Rattle.std.proofs.Common.{sym, ap, subst, ◌∙◌, ⊎_elim, inl, inr, arith}
use Rattle.std.proofs.Math.Bool.{true, false}
use Rattle.std.proofs.lemmas.Bool.{false≢true}
use mathlib.Core.List.{Memᴰ}
use Rattle.protocol.specs.World.{Place, label, Image, update, update_other}
use Rattle.protocol.specs.Log.{RecordCodec}
use Rattle.protocol.specs.Label.{Label, Size, Quorum, LabelCodec, copy, copy_same}
use Rattle.protocol.specs.Startup.{parts, late, M}
use Rattle.protocol.specs.Decide.{data_place, settled, Accepted}
use Rattle.protocol.specs.Shape.{Low, Top, ShapesBy}

module _ {X : Type 0} (z : Size) (W : Quorum z.n) (C : LabelCodec X z.n) (K : RecordCodec X) where
  -- disk d has generation q, and is ready for the next one
  abbrev pub Has : Image X → ℕ → ℕ → Type 0
  Has f d q = (g : ℕ) × (q ≡ suc g) × Top C f d g

  pub has_low : (f : Image X) (d q : ℕ) → Has f d q → Low C f d q
  has_low f d q h = inr (omega (arith, h.1), subst (λ (a : ℕ). (copy C f d (C.side a)).generation ≡ a) (sym h.1) h.2.0)

  -- puts of data leave labels alone
  abbrev Data : Place → Type 0
  Data k = data_place k ≡ true

  pub labels_kept : (f : Image X) (k : Place) (v : X) → data_place k ≡ true → (d : ℕ) (b : Bool) → update f k v (label d b) ≡ f (label d b)
  labels_kept f k v p d b = update_other f k v (label d b) (λ q. false≢true (ap data_place q ∙ p))

  pub top_same : (f g : Image X) (d a : ℕ) → ((b : Bool) → g (label d b) ≡ f (label d b)) → Top C f d a → Top C g d a
  top_same f g d a e t =
      let c : (b : Bool) → (copy C g d b).generation ≡ (copy C f d b).generation = λ b. ap (λ (l : Label). l.generation) (copy_same C f g d b (e b)) in
      (c (C.side (suc a)) ∙ t.0, ⊎_elim (λ q. inl (e (C.side a) ∙ q)) (λ q. inr (q.0, c (C.side a) ∙ q.1)) t.1)

  -- START-UP, on disks that have the shape
  module _ (A : ℕ → Bool) (f0 : Image X) (ok : Accepted z W C A f0) (strict : Bool) (h0 : ShapesBy C strict f0) where
    -- the labels of stale slots are as they were read
    abbrev pub Aside : Image X → Type 0
    Aside f = (d : ℕ) (b : Bool) → Memᴰ d (late z C A f0) → f (label d b) ≡ f0 (label d b)

    abbrev pub m : ℕ
    m = M z C A f0

    abbrev pub l2 : Label
    l2 = settled z C K A f0

    -- those that took part have the settled label
    abbrev pub Parts : Image X → Type 0
    Parts f = (d : ℕ) → Memᴰ d (parts z C A f0) → Top C f d (suc m)

    abbrev pub Everyone : Image X → Type 0
    Everyone f = (d : ℕ) → d < z.n → A d ≡ false → Top C f d (suc m)
