-- THE INVARIANT, of the machine and the host's view together.
--
-- In words. Whatever a cut could leave on all disks now, present or not, has this shape. Some label Q is settled: every slot that Q does not
-- call out holds a label of Q's generation or a newer one. Perhaps a label N was about to be settled. No label of Q's generation or newer
-- believes a strip that Q and N do not; none is more than one generation ahead of all but few slots, so that every start-up that is not refused
-- finds it or comes within one of it. Under Q and under N the log and the strips agree with the list: every believed strip is what the list
-- wants there, every complete record is equal to its strip, and every log sector is a true sector of the one write that its stamp names. While
-- a write is under way, with a stamp above all others, it is either in no strip (old), or whole in the log of every believed slot that it
-- changes (new), and then its strips may hold anything.
-- Each part of this survives a cut by itself, since it is said of whatever a cut leaves.
use Rattle.std.specs.Prelude.{ℕ, suc, ◌≤◌, ◌<◌, ◌≡◌, Bool, true, false, ◌⊎◌, List}
use Rattle.protocol.specs.World.{Image, World, Action, run, Sane, Always, During}
use Rattle.protocol.specs.Log.{Write, RecordCodec, Belief, Wrote, Old, New, Quiet}
use Rattle.protocol.specs.Write.{store, Mid}
use Rattle.protocol.specs.Label.{Label, Size, looked, belief, Quorum, LabelCodec}
use Rattle.protocol.specs.Startup.{Shelf}
use Rattle.protocol.specs.Decide.{Rest}
use Rattle.protocol.specs.Spare.{Spares}
use Rattle.protocol.specs.Host.{Host, Code, table}
use Rattle.protocol.specs.Program.{Stamps, Proper, Medium, Own, Kind, creating, starting, logging, storing, labelling, nothing, idle, doing}
use Rattle.protocol.specs.Machine.{Machine, at, View, sure, open_write, kept_write}

-- Not in any disk: which write each stamp stands for, the greatest stamp used, and the label that was settled when the program was last ready (no later write will use its epoch)
pub record Ghost (X : Type 0) : Type 0 where
  pub history : ℕ → Write X
  pub u : ℕ
  pub base : Label

module _ {X : Type 0} (z : Size) (W : Quorum z.n) (C : LabelCodec X z.n) (K : RecordCodec X) (E : Code X z.n K.c W) (S : Stamps) (R : Medium z W C K E S) where
  -- what is known of the log and the strips under a label that may rule
  abbrev pub Under : Ghost X → View X → Belief → Image X → Type 0
  Under g (sure v) = λ B f. Quiet K B g.history g.u (table z W K E v) f
  Under g (open_write v v') = λ B f. Mid K B g.history g.u (table z W K E v) (table z W K E v') f
  Under g (kept_write v') = λ B f. New K B g.history g.u (table z W K E v') f

  -- of an image that a cut could leave
  abbrev pub Left : Ghost X → View X → Image X → Type 0
  Left g p f = Shelf z W C g.base (Under g p) f

  -- the write under way has the greatest stamp, turns v into v', and changes a slot beside any few
  pub record Pending (g : Ghost X) (v v' : Host X) : Type 0 where
    pub pos : 0 < g.u
    pub born : 0 < g.base.generation
    pub wrote : Wrote z.n K.c (g.history g.u) (table z W K E v) (table z W K E v')
    pub inside : (g.history g.u).stripe < z.T
    pub broad : (a : ℕ → Bool) → W.few a ≡ true → (d : ℕ) × (d < z.n) × (a d ≡ false) × ((g.history g.u).changes d ≡ true)

  abbrev pub Pends : Ghost X → View X → Type 0
  Pends g (sure v) = Unit {0}
  Pends g (open_write v v') = Pending g v v'
  Pends g (kept_write v') = (v : Host X) × Pending g v v'

  -- no program runs
  pub record Off (p : View X) (w : World X) : Type 0 where
    pub sane : Sane w
    pub ghost : Ghost X
    pub early : ghost.u < S.base (suc ghost.base.generation)
    pub pends : Pends ghost p
    pub left : Always w (Left ghost p)

  -- no absent slot is looked at
  abbrev pub Dark : Own → Type 0
  Dark o = (d : ℕ) → o.absent d ≡ true → looked z o.now d ≡ true → ⊥

  -- at rest with the list v
  pub record Ready (v : Host X) (w : World X) (o : Own) : Type 0 where
    pub history : ℕ → Write X
    pub u : ℕ
    pub used : u ≤ o.count
    pub early : o.count < S.base (suc o.epoch)
    pub born : 0 < o.epoch
    pub epoch_now : o.epoch ≤ o.now.generation
    pub sound : Proper z o.now
    pub most : o.now.generation ≤ R.greatest
    pub rest : Always w (Rest z W C K history u o.now (table z W K E v))
    pub dark : Dark o

  -- a request begins at rest, under the label that the program knows; only create and start-up begin otherwise
  abbrev pub Based : Ghost X → Kind X → Own → Type 0
  Based g creating o = Unit {0}
  Based g starting o = Unit {0}
  Based g (logging wr) o = g.base ≡ o.now
  Based g (storing wr) o = g.base ≡ o.now
  Based g labelling o = g.base ≡ o.now

  -- what reads need while a request is under way
  pub record Readable (o : Own) : Type 0 where
    pub few : W.few o.now.out ≡ true
    pub dark : Dark o

  abbrev pub Reads : Ghost X → Kind X → View X → World X → List (Action X) → Own → Type 0
  Reads g creating p w l o = Unit {0}
  Reads g starting p w l o = Unit {0}
  Reads g (logging wr) (sure v) w l o = ⊥
  Reads g (logging wr) (open_write v v') w l o = Readable o × During w l (Old K (belief z o.now) g.history g.u g.u (table z W K E v))
  Reads g (logging wr) (kept_write v') w l o = ⊥
  Reads g (storing wr) (sure v) w l o = ⊥
  Reads g (storing wr) (open_write v v') w l o = ⊥
  Reads g (storing wr) (kept_write v') w l o = Readable o × (g.history g.u ≡ wr) × During w l (New K (belief z o.now) g.history g.u (table z W K E v'))
  Reads g labelling (sure v) w l o = Readable o × During w l (Quiet K (belief z o.now) g.history g.u (table z W K E v))
  Reads g labelling (open_write v v') w l o = ⊥
  Reads g labelling (kept_write v') w l o = ⊥

  -- the log is flushed, and the strips are to be written
  pub record Safe (g : Ghost X) (wr : Write X) (v' : Host X) (w : World X) (o o' : Own) : Type 0 where
    pub during : During w (store K (belief z o.now) wr.stripe wr.changes wr.new) (Left g (kept_write v'))
    pub ends : Ready v' (run w (store K (belief z o.now) wr.stripe wr.changes wr.new)) o'
    pub spares : Spares o'.absent (store K (belief z o.now) wr.stripe wr.changes wr.new)
    pub reads : Reads g (storing wr) (kept_write v') w (store K (belief z o.now) wr.stripe wr.changes wr.new) o

  -- what holds when the actions of a request are done
  abbrev pub Ends : Ghost X → Kind X → View X → World X → Own → Own → Type 0
  Ends g creating (sure v) w o o' = Ready v w o'
  Ends g creating (open_write v v') w o o' = ⊥
  Ends g creating (kept_write v') w o o' = ⊥
  Ends g starting (sure v) w o o' = Ready v w o'
  Ends g starting (open_write v v') w o o' = Ready v w o' ⊎ Ready v' w o'
  Ends g starting (kept_write v') w o o' = Ready v' w o'
  Ends g (logging wr) (sure v) w o o' = ⊥
  Ends g (logging wr) (open_write v v') w o o' = Safe g wr v' w o o'
  Ends g (logging wr) (kept_write v') w o o' = ⊥
  Ends g (storing wr) (sure v) w o o' = ⊥
  Ends g (storing wr) (open_write v v') w o o' = ⊥
  Ends g (storing wr) (kept_write v') w o o' = Ready v' w o'
  Ends g labelling (sure v) w o o' = Ready v w o'
  Ends g labelling (open_write v v') w o o' = ⊥
  Ends g labelling (kept_write v') w o o' = ⊥

  -- a request is under way
  pub record Busy (k : Kind X) (p : View X) (w : World X) (l : List (Action X)) (o o' : Own) : Type 0 where
    pub sane : Sane w
    pub ghost : Ghost X
    pub based : Based ghost k o
    pub early : ghost.u < S.base (suc ghost.base.generation)
    pub pends : Pends ghost p
    pub during : During w l (Left ghost p)
    pub ends : Ends ghost k p (run w l) o o'
    pub spares : Spares o'.absent l
    pub reads : Reads ghost k p w l o

  abbrev pub Invariant : Machine X → View X → Type 0
  Invariant (at w nothing) p = Off p w
  Invariant (at w (idle o)) (sure v) = Sane w × Ready v w o
  Invariant (at w (idle o)) (open_write v v') = ⊥
  Invariant (at w (idle o)) (kept_write v') = ⊥
  Invariant (at w (doing k l o o')) p = Busy k p w l o o'
