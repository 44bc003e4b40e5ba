-- Another disk in a slot that is absent: what it holds does not matter, as long as its labels are older than the settled one.
use Rattle.std.specs.Prelude.{ℕ, ◌<◌, Bool, ◌≢◌}
use Rattle.protocol.specs.World.{Place, slot, Image, World, Possible, Sane}
use Rattle.protocol.specs.Label.{LabelCodec, copy}

pub record Swapped {X : Type 0} {n : ℕ} (C : LabelCodec X n) (d g : ℕ) (w w' : World X) : Type 0 where
  pub sane : Sane w'
  pub others : (k : Place) → slot k ≢ d → (x : X) → w'.may k x → w.may k x
  pub older : (f : Image X) → Possible w' f → (b : Bool) → (copy C f d b).generation < g
