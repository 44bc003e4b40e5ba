-- A REFRESH: a write of what a strip should hold already. The table stays as it is, and whatever a cut leaves at any moment of its log and of its strips, the
-- shelf is at rest with that table. A repair is such a write, seen from a shelf on which no sector ever changed by itself. Assumes nothing.
use Prim.Native.Nat.{ℕ, ◌≤◌, ◌<◌}
use Rattle.std.specs.Prelude.{◌≡◌, Bool}
use Rattle.std.proofs.Math.Bool.{true}
use Rattle.protocol.specs.World.{strip, Image}
use Rattle.protocol.specs.Log.{Write, RecordCodec, Belief, Table}
use Rattle.protocol.specs.Label.{Label, Size, belief, Quorum, LabelCodec, Labels}
use Rattle.protocol.specs.Decide.{Rest}

-- the strips that a write stores, on the slots that it reaches
abbrev pub Stored : {X : Type 0} → RecordCodec X → Belief → ℕ → (ℕ → Bool) → (ℕ → ℕ → X) → Image X → Type 0
Stored K B t ch v f = (d j : ℕ) → B.believe d t ≡ true → ch d ≡ true → j < K.c → f (strip d t j) ≡ v d j

module _ {X : Type 0} (z : Size) (W : Quorum z.n) (C : LabelCodec X z.n) (K : RecordCodec X) (history history' : ℕ → Write X) (u σ : ℕ) (s : Table X) (Q : Label) (above : u < σ) (same : (τ : ℕ) → τ ≤ u → history τ ≡ history' τ)
    (right : (d j : ℕ) → (history' σ).changes d ≡ true → j < K.c → (history' σ).new d j ≡ s (history' σ).stripe d j) (fits : K.Fits σ (history' σ)) where
  abbrev pub B : Belief
  B = belief z Q

  abbrev pub R : Image X → Type 0
  R = Rest z W C K history' σ Q s

  abbrev pub P : Image X → Type 0
  P f = Labels z W C Q Q Q.generation Q.out f
