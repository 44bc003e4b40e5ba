-- THE REBUILD, as the protocol has it: what is left of it when it begins is the protocol's fill, strip by strip, and then the round with its label;
-- and it can be carried out. So each of its steps is the program's (label-tied). Assumes nothing.
use Rattle.std.specs.Prelude.{◌≡◌}
use mathlib.Core.List.{List, [], ◌++◌}
use Prim.Native.Nat.{ℕ}
use Rattle.protocol.specs.World.{Place, strip, Image, Action}
use Rattle.protocol.specs.Label.{Label}
use Rattle.protocol.specs.Host.{rebuilt}
use Rattle.protocol.specs.Pairs.{no_sets}
use Rattle.codecs.specs.Sector.{Sector}
use Rattle.codecs.specs.Shelf.{Shelf, slots, size}
use Rattle.codecs.specs.Labels.{label_of}
use Rattle.codecs.proofs.Records.{records}
use Rattle.shards.proofs.Even.{any_code}
use Rattle.stages.specs.declared.state.State.{State}
use Rattle.stages.specs.declared.state.Kind.TheVariants.{Filling}
use Rattle.stages.specs.declared.stage.Stage.{Stage}
use Rattle.stages.specs.declared.stage.Stage.TheVariants.{Flush, Give}
use Rattle.refine.specs.Disks.{cur_of}
use Rattle.refine.specs.ToDo.{under_of, acts_of}

module _ (z : Shelf) (first d : ℕ) where
  abbrev pub at : ℕ → ℕ → Place
  at t j = strip d t j

module _ (z : Shelf) (s : State) (work img : List ℕ) (kind : s.kind ≡ Filling) where
  -- ---- stage by stage

  abbrev pub X : Stage → List (Action Sector)
  X x = acts_of z (under_of s) work (cur_of z img) x 0 0

  abbrev pub Q : Label
  Q = label_of z s.now

  -- behind the strips: a flush of the slot, and then the label to all, flushed
  abbrev pub Behind : List (Action Sector)
  Behind = X (Flush s.marks.redo) ++ (X (Give s.marks.present 0 s.next) ++ (X (Flush s.marks.present) ++ []))

  -- what is rebuilt, of what the image holds
  abbrev pub Rebuilt : Image Sector → ℕ → ℕ → Sector
  Rebuilt f = rebuilt (size z) (no_sets (slots z)) (records z) (any_code z) Q f Q.rebuilding
