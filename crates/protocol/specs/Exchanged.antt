-- THE PROMISE WITH EXCHANGED DISKS: whatever happens, older disks in the bays and the last ones back among it, the host's view goes on as it is allowed to.
use Prim.Native.Nat.{ℕ, suc, ◌≤◌, ◌<◌}
use Rattle.std.specs.Prelude.{◌≡◌, ◌⊎◌, ◌≢◌}
use Rattle.std.proofs.Math.Bool.{Bool, true, false, cond}
use mathlib.Core.List.{List}
use Rattle.std.proofs.Math.Dec.{eqb}
use borrow.Author.Tests.{ne_eqb}
use Rattle.protocol.specs.World.{Place, slot, Image, World, Action, run, Possible, Sane, Always, During}
use Rattle.protocol.specs.Log.{RecordCodec}
use Rattle.protocol.specs.Label.{Label, Size, looked, Quorum, LabelCodec}
use Rattle.protocol.specs.Decide.{Rest}
use Rattle.protocol.specs.Spare.{Spares}
use Rattle.protocol.specs.Host.{Host, Code, table}
use Rattle.protocol.specs.Program.{Stamps, Medium, Own, creating, starting, logging, storing, labelling, Memory, nothing, idle, doing, Input, Reply}
use Rattle.protocol.specs.Machine.{at, effect, Event, ask, View, Goes}
use Rattle.protocol.specs.Invariant.{Ghost, Pends, Ready, Ends, Busy, Invariant}
use Rattle.protocol.specs.Exchange.{Disks, Room, room, noted, exchanged, with_disk, pile, Strange, Familiar, Newest}
use Rattle.protocol.specs.Apart.{Lying, Whole, AtHome}

module _ {X : Type 0} (z : Size) (W : Quorum z.n) (C : LabelCodec X z.n) (K : RecordCodec X) (E : Code X z.n K.c W) (S : Stamps) (R : Medium z W C K E S) where
  -- no program runs
  pub record OffAll (p : View X) (w : World X) (x : Disks X) : Type 0 where
    pub sane : Sane w
    pub ghost : Ghost X
    pub early : ghost.u < S.base (suc ghost.base.generation)
    pub pends : Pends z W C K E S R ghost p
    pub born : 0 < ghost.base.generation
    pub left : Always w (λ f. Whole z W C K E S R ghost p x.home (pile x f))

  -- a start-up is under way
  pub record Rising (p : View X) (w : World X) (l : List (Action X)) (o o' : Own) (x : Disks X) : Type 0 where
    pub sane : Sane w
    pub ghost : Ghost X
    pub early : ghost.u < S.base (suc ghost.base.generation)
    pub pends : Pends z W C K E S R ghost p
    pub born : 0 < ghost.base.generation
    pub during : During w l (λ f. Whole z W C K E S R ghost p x.home (pile x f))
    pub ends : Ends z W C K E S R ghost starting p (run w l) o o'
    pub spares : Spares o'.absent l
    pub lying : Lying z W C x o'.now

  -- the program is ready under o, or a request from o to o' is under way: every slot has its last disk, and the others are aside
  pub record Kin (x : Disks X) (o o' : Own) : Type 0 where
    pub at_home : AtHome z W C K E S R x
    pub born : 0 < o.now.generation
    pub rises : o.now.generation ≤ o'.now.generation
    pub lying : Lying z W C x o.now
    pub lying' : Lying z W C x o'.now

  abbrev pub KinOf : Disks X → Memory X → Type 0
  KinOf x nothing = ⊥
  KinOf x (idle o) = Kin x o o
  KinOf x (doing creating l o o') = ⊥
  KinOf x (doing starting l o o') = ⊥
  KinOf x (doing (logging wr) l o o') = Kin x o o'
  KinOf x (doing (storing wr) l o o') = Kin x o o'
  KinOf x (doing labelling l o o') = Kin x o o'

  -- the shelf is made
  abbrev pub Made : World X → Memory X → Disks X → View X → Type 0
  Made w nothing x p = OffAll p w x
  Made w (idle o) x p = Invariant z W C K E S R (at w (idle o)) p × Kin x o o
  Made w (doing creating l o o') x p = ⊥
  Made w (doing starting l o o') x p = Rising p w l o o' x
  Made w (doing (logging wr) l o o') x p = Busy z W C K E S R (logging wr) p w l o o' × Kin x o o'
  Made w (doing (storing wr) l o o') x p = Busy z W C K E S R (storing wr) p w l o o' × Kin x o o'
  Made w (doing labelling l o o') x p = Busy z W C K E S R labelling p w l o o' × Kin x o o'

  -- THE INVARIANT. Before the shelf is made no disk was exchanged, and those that lie around are strange.
  abbrev pub Stage : Bool → World X → Memory X → Disks X → View X → Type 0
  Stage true w m x p = Made w m x p
  Stage false w m x p = Invariant z W C K E S R (at w m) p × Strange z C x

  abbrev pub Holds : Room X → View X → Type 0
  Holds (room w m x) p = Stage x.made w m x p

  unfoldable pub Next : Room X → Event X → View X → Type 0
  Next r e p = (p' : View X) × Goes K.c e p p' × Holds r p'

  -- ANOTHER DISK
  module _ (w : World X) (x : Disks X) (d i : ℕ) (g : Image X) (other : i ≢ x.inn d) (left : Possible w g) where
    abbrev pub w' : World X
    w' = with_disk w d (x.stock i)

    abbrev pub x' : Disks X
    x' = exchanged x d i g

    -- as if it were still there
    unfoldable pub back : Image X → Image X
    back f k = cond (eqb (slot k) d) (g k) (f k)

    pub back_other : (f : Image X) (k : Place) → slot k ≢ d → f k ≡ back f k
    unfolding back
    back_other f k n = rw (ne_eqb (slot k) d n)

    -- while the program is ready, on a slot that is not looked at
    module _ (v : Host X) (o : Own) (sane : Sane w) (h : Ready z W C K E S R v w o) (kin : Kin x o o) (dark : looked z o.now d ≡ false) where
      abbrev pub Q : Label
      Q = o.now

      abbrev pub At : Image X → Type 0
      At = Rest z W C K h.history h.u o.now (table z W K E v)

  abbrev pub Replies : World X → Memory X → Disks X → Input X → Memory X × Reply X → View X → Type 0
  Replies w m x i r p = Next (room (effect w r.1) r.0 (noted r.0 x)) (ask i r.1) p

  -- START-UP
  module _ (w : World X) (x : Disks X) (p : View X) (made : x.made ≡ true) (h : OffAll p w x) where
    abbrev pub All : Image X → Type 0
    All f = Whole z W C K E S R h.ghost p x.home (pile x f)

    abbrev pub Asks : (ℕ → Bool) → Type 0
    Asks A = Familiar z W C K E S R A x ⊎ Newest z W C K E S R A w x

  module _ (w : World X) (o o' : Own) (x : Disks X) (made : x.made ≡ true) where
    module _ (l : List (Action X)) (p : View X) (h : Rising p w l o o' x) where
      abbrev pub me : Memory X
      me = doing starting l o o'
