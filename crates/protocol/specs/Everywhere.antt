-- The C6 shape of every disk, in the bays or not, along every history with exchanged disks.
use Rattle.std.specs.Prelude.{ℕ, ◌<◌, ◌≡◌, Bool, true, ◌≢◌, List}
use Rattle.protocol.specs.Log.{RecordCodec}
use Rattle.protocol.specs.Label.{Size, Quorum, LabelCodec}
use Rattle.protocol.specs.Host.{Code}
use Rattle.protocol.specs.Program.{Stamps, Medium}
use Rattle.protocol.specs.Machine.{at, Event}
use Rattle.protocol.specs.Shape.{ShapeBy}
use Rattle.protocol.specs.Formed.{Shaped}
use Rattle.protocol.specs.Exchange as Exchange
use Rattle.protocol.specs.Exchange.{Disks, Room, room, Befalls, Befell}

module _ {X : Type 0} (z : Size) (W : Quorum z.n) (C : LabelCodec X z.n) (K : RecordCodec X) (E : Code X z.n K.c W) (S : Stamps) (R : Medium z W C K E S) (strict : Bool) where
  -- the disks that lie around
  abbrev pub ShapedStock : Disks X → Type 0
  ShapedStock x = (d i : ℕ) → d < z.n → i ≢ x.inn d → ShapeBy C strict (x.stock i) d

  abbrev pub ShapedAll : Room X → Type 0
  ShapedAll (room w m x) = Shaped z W C K E S R strict (at w m) × ShapedStock x

  -- while the program is ready, a disk is exchanged only if its slot is absent
  abbrev pub Tidy : {r r' : Room X} {e : Event X} → Befalls z W C K E S R r e r' → Type 0
  Tidy (Exchange.power_cut f q) = Unit {0}
  Tidy Exchange.program_dies = Unit {0}
  Tidy (Exchange.swapped_off d i g e n q) = Unit {0}
  Tidy (Exchange.swapped_on {o = o} d i g a n q) = o.absent d ≡ true
  Tidy (Exchange.from_host i a) = Unit {0}

  abbrev pub Tidily : {r r' : Room X} {l : List (Event X)} → Befell z W C K E S R r l r' → Type 0
  Tidily Exchange.stays = Unit {0}
  Tidily (Exchange.goes b r) = Tidy b × Tidily r
