-- The requests of a shelf at rest: write, take a slot out, begin to rebuild one, rebuild on. Each goes from rest to rest; a cut at any moment
-- leaves the invariant, with nothing undecided but the one write.
use Rattle.std.specs.Prelude.{ℕ, suc}
use Rattle.std.proofs.Math.Path.{◌≡◌}
use native.Mathlib.Omega.{arith}
use Rattle.std.proofs.Math.Dec.{eqb}
use Rattle.protocol.specs.World.{label, log, strip, Image, update, update_other}
use Rattle.protocol.specs.Log.{Write, RecordCodec, Belief, Table, Quiet, within_self}
use Rattle.protocol.specs.Label.{Label, Size, Quorum, LabelCodec, Bare}
use Rattle.protocol.specs.Startup.{without, Framed}

-- the label that takes slot d out
abbrev pub outed : ℕ → Label → ℕ → Label
outed n Q d = without n Q (λ e. eqb e d) (suc Q.generation)

module _ {X : Type 0} (z : Size) (W : Quorum z.n) (C : LabelCodec X z.n) (K : RecordCodec X) where
  pub framed_bare : (D : Belief → Image X → Type 0) → Framed D → (B : Belief) → Bare z W C (D B)
  unfolding Framed Bare
  framed_bare D fr B f d b x h =
      fr B B (within_self B) f (update f (label d b) x)
      (record {
        on_log = λ e j a. update_other f (label d b) x (log e j) (λ q. let i : ◌≡◌ {A = ℕ} 0 1 = cc in omega arith);
        on_strip_lem = λ e t j a. update_other f (label d b) x (strip e t j) (λ q. let i : ◌≡◌ {A = ℕ} 0 1 = cc in omega arith);
      }) h

  module _ (history : ℕ → Write X) (u : ℕ) (s : Table X) where
    abbrev pub QuietB : Belief → Image X → Type 0
    QuietB B f = Quiet K B history u s f
