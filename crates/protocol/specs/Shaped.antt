-- The C6 shape along every history in which each disk that is put in has it strictly: its label sectors are zeros or valid copies. (Formed says it of any disks.)
use Rattle.std.specs.Prelude.{true, List}
use Rattle.protocol.specs.World.{Image}
use Rattle.protocol.specs.Log.{RecordCodec}
use Rattle.protocol.specs.Label.{Size, Quorum, LabelCodec}
use Rattle.protocol.specs.Host.{Code}
use Rattle.protocol.specs.Program.{Stamps, Medium}
use Rattle.protocol.specs.Machine.{Machine, Event, Happens, Runs}
use Rattle.protocol.specs.Promise.{Zeros}
use Rattle.protocol.specs.Shape.{Shapes}
use Rattle.protocol.specs.Formed as Formed

module _ {X : Type 0} (z : Size) (W : Quorum z.n) (C : LabelCodec X z.n) (K : RecordCodec X) (E : Code X z.n K.c W) (S : Stamps) (R : Medium z W C K E S) where
  abbrev pub Shaped : Machine X → Type 0
  Shaped = Formed.Shaped z W C K E S R true

  abbrev pub AllShaped : {m m' : Machine X} {e : Event X} → Happens z W C K E S R m e m' → Type 0
  AllShaped x = Formed.AllShaped z W C K E S R true x

  abbrev pub Tidily : {m m' : Machine X} {l : List (Event X)} → Runs z W C K E S R m l m' → Type 0
  Tidily r = Formed.Tidily z W C K E S R true r

  -- an image of zeros has it
  pub zeros_shaped : (f : Image X) → Zeros z W C K E S R f → Shapes C f
  zeros_shaped = Formed.zeros_shaped z W C K E S R true
