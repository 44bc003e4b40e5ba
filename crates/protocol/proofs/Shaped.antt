-- The C6 shape along every history in which each disk that is put in has it strictly: its label sectors are zeros or valid copies. (Formed says it of any disks.)
use Rattle.std.specs.Prelude.{true, List}
use Rattle.protocol.specs.World.{World, Always}
use Rattle.protocol.specs.Log.{RecordCodec}
use Rattle.protocol.specs.Label.{Size, Quorum, LabelCodec}
use Rattle.protocol.specs.Host.{Code}
use Rattle.protocol.specs.Program.{Stamps, Medium, Memory}
use Rattle.protocol.specs.Machine.{Machine, at, Event, Happens, Runs, View}
use Rattle.protocol.specs.Invariant.{Invariant}
use Rattle.protocol.specs.Shape.{Shapes}
use Rattle.protocol.proofs.Formed as Formed
use Rattle.protocol.specs.Shaped.{Shaped, AllShaped, Tidily}

module _ {X : Type 0} (z : Size) (W : Quorum z.n) (C : LabelCodec X z.n) (K : RecordCodec X) (E : Code X z.n K.c W) (S : Stamps) (R : Medium z W C K E S) where
  pub shaped_off : (w : World X) (m : Memory X) → (Shaped z W C K E S R) (at w m) → Always w (Shapes C)
  shaped_off = Formed.shaped_off z W C K E S R true

  pub shaped : {m m' : Machine X} {e : Event X} (x : Happens z W C K E S R m e m') → (AllShaped z W C K E S R) x → (p : View X) → Invariant z W C K E S R m p → (Shaped z W C K E S R) m → (Shaped z W C K E S R) m'
  shaped = Formed.shaped z W C K E S R true

  pub shaped_always : {m m' : Machine X} {l : List (Event X)} (r : Runs z W C K E S R m l m') → (Tidily z W C K E S R) r → (p : View X) → Invariant z W C K E S R m p → (Shaped z W C K E S R) m → (Shaped z W C K E S R) m'
  shaped_always = Formed.shaped_always z W C K E S R true
