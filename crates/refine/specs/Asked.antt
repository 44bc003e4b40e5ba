-- THE REQUESTS ARE THE PROGRAM'S: with masks that say what the protocol's tests say and labels that are the protocol's, what the
-- program remembers beside the state of a request that begins is what it remembers of that request. Assumes nothing.
use Rattle.std.specs.Prelude.{Bool, ℕ}
use mathlib.Core.List.{List}
use Rattle.disk.specs.Mask.{in_mask}
use Rattle.protocol.specs.Program.{beyond}
use Rattle.codecs.specs.Shelf.{Shelf, slots}
use Rattle.stages.specs.declared.state.State.{State}

module _ (z : Shelf) (s : State) (img : List ℕ) where
  -- the slots that the state calls absent, and those beyond the shelf
  abbrev pub absent_of : ℕ → Bool
  absent_of = beyond (slots z) (in_mask s.absent)
