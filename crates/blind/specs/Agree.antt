-- ONE CALL ON TWO IMAGES that are alike: what it may make of the one it may make of the other, with the same answer, state and work area;
-- and the images are alike again, on the shelf and with the absent slots of the new state. Assumes nothing.
use Rattle.std.specs.Prelude.{◌≡◌, List, ◌⊎◌, ℕ}
use Rattle.disk.specs.declared.geometry.Geometry.{Geometry}
use Rattle.label.specs.Fields.{geometry_of}
use Rattle.stages.specs.declared.state.State.{State}
use Rattle.blind.specs.Alike.{Alike}
use Rattle.blind.specs.Own.{Own}
use Rattle.blind.specs.Calls.{Call, Reply, Makes}

-- ---- whose the state is that a request hands out: as it was, or of the shelf that the request looked at

abbrev pub Handed : State → Geometry → ℕ → State → Type 0
Handed s g absent t = (t ≡ s) ⊎ Own g absent t

-- ---- two images beside one state

-- the state is a shelf's, and the images are alike where its slots are present
pub record Both (s : State) (a b : List ℕ) : Type 0 where
  pub own : Own (geometry_of s.now) s.absent s
  pub alike : Alike (geometry_of s.now) s.absent a b

-- what the call makes of the second image
pub record Follows (c : Call) (s : State) (work b : List ℕ) (r : Reply) (left : List ℕ) : Type 0 where
  pub after : List ℕ
  pub makes : Makes c s work b r after
  pub both : Both r.state left after
