-- THE LISTS ARE THE PROTOCOL'S: at the beginning of a request, with masks that say what the protocol's tests say and labels
-- that are the protocol's, what is left to do is the protocol's list of actions. Assumes nothing.
use Rattle.std.specs.Prelude.{◌≡◌, Bool, ℕ, ◌-◌, ◌<◌}
use Rattle.std.proofs.Math.Path.{ap}
use Rattle.std.proofs.Common.{◌∙◌, arith}
use mathlib.Core.List.{List, []}
use Rattle.disk.specs.Mask.{in_mask}
use Rattle.protocol.specs.World.{Image, Action}
use Rattle.protocol.specs.Slots as Slots
use Rattle.protocol.specs.Slots.{from, keep}
use Rattle.codecs.specs.Sector.{Sector}
use Rattle.codecs.specs.Shelf.{Shelf, slots}
use Rattle.stages.specs.Limits.{most_stages}
use Rattle.stages.specs.State.{moved}
use Rattle.stages.specs.declared.state.State.{State}
use Rattle.refine.specs.Disks.{cur_of}
use Rattle.refine.specs.Start.{slots_same}
use Rattle.refine.specs.ToDo.{slots_from, left_of}

-- ---- a mask that says what a test says

abbrev pub Says : Shelf → ℕ → (ℕ → Bool) → Type 0
Says z mask p = (d : ℕ) → d < slots z → in_mask mask d ≡ p d

pub slots_are : (z : Shelf) (mask : ℕ) (p : ℕ → Bool) → Says z mask p → slots_from (slots z) mask 0 ≡ keep p (from 0 (slots z))
unfolding Slots.slots
slots_are z mask p h =
    let q : slots z - 0 ≡ slots z = omega arith in
    ap (λ (n : ℕ). keep (in_mask mask) (from 0 n)) q ∙ slots_same (slots z) (in_mask mask) p h

-- ---- stage by stage

module _ (z : Shelf) (s : State) (img : List ℕ) where
  abbrev pub F : Image Sector
  F = cur_of z img

  -- what is left from stage i on
  abbrev pub from_stage : ℕ → List (Action Sector)
  from_stage i = left_of z [] F most_stages (moved s i 0 0)
