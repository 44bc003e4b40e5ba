-- THE LISTS OF A WRITE ARE THE PROTOCOL'S: where the state and the work area describe the protocol's write, what is left to do of
-- it is first the protocol's log part, then its store part. Assumes nothing.
use Rattle.std.specs.Prelude.{◌≡◌, ◌&&◌}
use Rattle.std.proofs.Math.Path.{refl, ap₂}
use Rattle.std.proofs.Math.Bool.{true}
use mathlib.Core.List.{List, ◌++◌}
use Prim.Native.Nat.{ℕ, zero, suc, ◌<◌}
use native.Mathlib.Omega.{arith}
use Rattle.std.proofs.Math.Dec.{ltb}
use Rattle.disk.specs.Mask.{in_mask}
use Rattle.disk.specs.Geometry.{shard_of}
use Rattle.protocol.specs.World.{Image, Action}
use Rattle.protocol.specs.Log.{Write, Belief}
use Rattle.protocol.specs.Label.{believed, belief}
use Rattle.codecs.specs.Sector.{Sector}
use Rattle.codecs.specs.Shelf.{Shelf, slots, size}
use Rattle.codecs.specs.Labels.{label_of}
use Rattle.codecs.specs.Records.{strip_bytes}
use Rattle.stages.specs.declared.state.State.{State}
use Rattle.stages.specs.declared.state.Kind.TheVariants.{Writing}
use Rattle.stages.specs.declared.stage.Stage.{Stage}
use Rattle.refine.specs.Keeps.{kept_strip, Works}
use Rattle.refine.specs.ToDo.{under_of, acts_of}
use Rattle.refine.specs.Lists.{Says}

-- w is the write that the state's marks and the work area describe: its stripe, the shards that it changes, their new strips (of what it
-- changes), and the slots of those that are believed; the work area has the stripe
pub record Writes (z : Shelf) (s : State) (work : List ℕ) (w : Write Sector) : Type 0 where
  pub kind : s.kind ≡ Writing
  pub stripe : s.marks.stripe ≡ w.stripe
  pub changes : (d : ℕ) → (ltb d (slots z) && in_mask s.marks.parts (shard_of (slots z) s.marks.stripe d)) ≡ w.changes d
  pub strips : (d j : ℕ) → w.changes d ≡ true → j < z.c → kept_strip z work s.marks.stripe d j ≡ w.new d j
  pub involves : Says z s.marks.redo (λ d. believed (size z) (label_of z s.now) d w.stripe && w.changes d)
  pub works : Works z work

-- ---- a record goes by the strip and by what the write changes

pub strip_same : (v u : ℕ → Sector) (c : ℕ) → ((j : ℕ) → j < c → v j ≡ u j) → strip_bytes v c ≡ strip_bytes u c
strip_same v u zero h = refl
strip_same v u (suc c) h = ap₂ (λ (a : List ℕ) (x : Sector). a ++ x.bytes) (strip_same v u c (λ j l. h j (omega arith))) (h c (omega arith))

module _ (z : Shelf) (s : State) (work : List ℕ) (w : Write Sector) (h : Writes z s work w) where
  abbrev pub B : Belief
  B = belief (size z) (label_of z s.now)

  module _ (f : Image Sector) where
    abbrev pub X : Stage → List (Action Sector)
    X x = acts_of z (under_of s) work f x 0 0
