-- THE OLD SHELF of a disk that begins to be rebuilt here. The disk in slot d may carry labels of another shelf, or of another slot. Whatever a cut leaves
-- while begin runs, the disk is for its old shelf as it was before the request, label, log and strips, or it has no label of it at all: never a
-- label over a log or over strips that this shelf has changed. Assumes nothing.
use Rattle.std.specs.Prelude.{ℕ, ◌<◌, ◌≡◌, ◌⊎◌, ltb}
use Rattle.std.proofs.Math.Bool.{Bool, true, false, cond}
use Rattle.protocol.specs.World.{label, log, strip, Image, World, Possible, Sane}
use Rattle.protocol.specs.Label.{Label, LabelCodec, last_side}

-- Slot d of the shelf that reads labels by C holds a disk that was slot d' of a shelf that reads them by C': each copy that is valid there is strange here.
pub record Strangers {X : Type 0} {n n' : ℕ} (C : LabelCodec X n) (C' : LabelCodec X n') (d d' : ℕ) : Type 0 where
  pub known : (b : Bool) (x : X) → 0 < (C'.decode d' b x).generation → C.strange d b x ≡ (C'.decode d' b x).generation

module _ {X : Type 0} {n n' : ℕ} (C : LabelCodec X n) (C' : LabelCodec X n') (d d' : ℕ) where
  -- what the old shelf reads in label sector b of the disk
  abbrev pub old : Image X → Bool → Label
  old f b = C'.decode d' b (f (label d b))

  -- its newest label
  unfoldable pub old_label : Image X → Label
  old_label f = cond (ltb (old f false).generation (old f true).generation) (old f true) (old f false)

  -- the old shelf finds the disk in f as it was in g
  pub record Untouched (f g : Image X) : Type 0 where
    pub same_label_lem : old_label f ≡ old_label g
    pub same_log : (j : ℕ) → f (log d j) ≡ g (log d j)
    pub same_strip : (t j : ℕ) → f (strip d t j) ≡ g (strip d t j)

  -- it finds no label
  abbrev pub Gone : Image X → Type 0
  Gone f = (b : Bool) → (old f b).generation ≡ 0

  -- as a cut before the request could have left it; or no label
  abbrev pub Fate : World X → Image X → Type 0
  Fate w f = ((g : Image X) × Possible w g × Untouched f g) ⊎ Gone f

  module _ (S : Strangers C C' d d') where
    -- w: the world in which begin is asked; f0: what is read of the labels of d
    module _ (f0 : Image X) (w : World X) (sane : Sane w) (agree : (b : Bool) → f0 (label d b) ≡ w.cur (label d b)) where
      abbrev pub s : Bool
      s = last_side C f0 d

      abbrev pub Rest : Image X → Type 0
      Rest f = ((j : ℕ) → f (log d j) ≡ w.cur (log d j)) × ((t j : ℕ) → f (strip d t j) ≡ w.cur (strip d t j))

      abbrev pub Kept_side : Image X → Bool → Type 0
      Kept_side f b = f (label d b) ≡ f0 (label d b)

      -- one of the two puts: sector b holds what was read, or zeros
      abbrev pub Half : Image X → Bool → Type 0
      Half f b = Kept_side f b ⊎ (f (label d b) ≡ C.zeros)
