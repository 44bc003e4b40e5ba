-- THE DISK OF DOCUMENT 03, SECTION 4: sector writes reach it in the order in which they were issued, so a cut leaves every one of them. Whatever
-- happens on such disks happens, in the same words, on disks with caches: so all that is promised there is promised here.
use Rattle.std.specs.Prelude.{List, [], ◌∷◌}
use Rattle.protocol.specs.World.{Image, update, Action, put, flush}
use Rattle.protocol.specs.Log.{RecordCodec}
use Rattle.protocol.specs.Label.{Size, Quorum, LabelCodec}
use Rattle.protocol.specs.Host.{Code}
use Rattle.protocol.specs.Program.{Stamps, Medium, Memory, nothing, Input, Reply, accepted, refused, did, safe, done, block, found, program}
use Rattle.protocol.specs.Machine.{Event, cut, dies, ask}

-- what an answer does to disks without caches
abbrev pub written : {X : Type 0} → Image X → Action X → Image X
written f (put k x) = update f k x
written f (flush d) = f

abbrev pub plainly : {X : Type 0} → Image X → Reply X → Image X
plainly f accepted = f
plainly f (refused why) = f
plainly f (did a) = written f a
plainly f safe = f
plainly f (done k) = f
plainly f (block b) = f
plainly f (found x) = f

module _ {X : Type 0} (z : Size) (W : Quorum z.n) (C : LabelCodec X z.n) (K : RecordCodec X) (E : Code X z.n K.c W) (S : Stamps) (R : Medium z W C K E S) where
  pub data Ordered : Image X → Memory X → List (Event X) → Image X → Memory X → Type 0 where
    ends : {f : Image X} {m : Memory X} → Ordered f m [] f m
    cuts : {f g : Image X} {m m' : Memory X} {l : List (Event X)} → Ordered f nothing l g m' → Ordered f m (cut ∷ l) g m'
    stops : {f g : Image X} {m m' : Memory X} {l : List (Event X)} → Ordered f nothing l g m' → Ordered f m (dies ∷ l) g m'
    asks : {f g : Image X} {m m' : Memory X} {l : List (Event X)} (i : Input X) → Ordered (plainly f (program z W C K E S R m f i).1) (program z W C K E S R m f i).0 l g m' → Ordered f m (ask i (program z W C K E S R m f i).1 ∷ l) g m'
