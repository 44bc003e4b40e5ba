-- THE MACHINE: the program on disks with caches, in a world that cuts the power and kills the program; and THE HOST'S VIEW beside it, as
-- document 03 section 5 has it: a list of blocks, and at most one write under way.
use Rattle.std.specs.Prelude.{ℕ, ◌<◌, ◌≡◌, false, ◌⊎◌, List, [], ◌∷◌}
use Rattle.protocol.specs.World.{Image, World, act, after, Possible}
use Rattle.protocol.specs.Log.{RecordCodec}
use Rattle.protocol.specs.Label.{Size, looked, Quorum, LabelCodec}
use Rattle.protocol.specs.Host.{Host, all_sound, replace, Code}
use Rattle.protocol.specs.Swap.{Swapped}
use Rattle.protocol.specs.Program.{Stamps, Medium, Own, Kind, creating, starting, logging, storing, labelling, Memory, nothing, idle, Input, create, start, read_block, write, take_out, begin, rebuild_on, scrub_stripe, repair, step, Reply, accepted, refused, did, safe, done, block, found, program}

-- the disks, and what the program remembers
pub data Machine (X : Type 0) : Type 1 where
  at : World X → Memory X → Machine X

-- an answer `did a` is the action a; every other answer leaves the disks alone
abbrev pub effect : {X : Type 0} → World X → Reply X → World X
effect w accepted = w
effect w (refused why) = w
effect w (did a) = act w a
effect w safe = w
effect w (done k) = w
effect w (block b) = w
effect w (found x) = w

pub data Event (X : Type 0) : Type 0 where
  cut : Event X
  dies : Event X
  swap : Event X
  ask : Input X → Reply X → Event X

module _ {X : Type 0} (z : Size) (W : Quorum z.n) (C : LabelCodec X z.n) (K : RecordCodec X) (E : Code X z.n K.c W) (S : Stamps) (R : Medium z W C K E S) where
  -- ALL THAT IS ASSUMED OF THE WORLD: beside the program's own actions nothing else happens to the disks than this.
  pub data Outside : Machine X → Event X → Machine X → Type 1 where
    -- power is lost at any moment: each sector then holds something that its cache allows, each by itself; all that the program knew is lost
    power_cut : {w : World X} {m : Memory X} (f : Image X) → Possible w f → Outside (at w m) cut (at (after f) nothing)
    -- the program dies and the disks stay as they are, caches and all
    program_dies : {w : World X} {m : Memory X} → Outside (at w m) dies (at w nothing)
    -- another disk is put into a slot that is out or absent (and not being rebuilt), and the one that was there may come back so: it may hold anything, but no
    -- label of the settled generation or a newer one (a fresh or foreign disk has none of this shelf; an older disk of the slot has older ones). What is
    -- exchanged while power is off is told as if it had been exchanged just before: such a slot is neither read nor relied upon.
    disk_swapped : {w w' : World X} {o : Own} (d : ℕ) → looked z o.now d ≡ false → Swapped C d o.now.generation w w' → Outside (at w (idle o)) swap (at w' (idle o))

  -- what happens: something from outside, or the host asks something, in any state, and the program answers. (Any set of slots may be called absent at
  -- any start-up: that more than m are missing is the program's to notice.)
  pub data Happens : Machine X → Event X → Machine X → Type 1 where
    from_outside : {m m' : Machine X} {e : Event X} → Outside m e m' → Happens m e m'
    from_host : {w : World X} {m : Memory X} (i : Input X) → Happens (at w m) (ask i (program z W C K E S R m w.cur i).1) (at (effect w (program z W C K E S R m w.cur i).1) (program z W C K E S R m w.cur i).0)

  -- any sequence of events
  pub data Runs : Machine X → List (Event X) → Machine X → Type 1 where
    stays : {m : Machine X} → Runs m [] m
    goes : {m m' m'' : Machine X} {e : Event X} {l : List (Event X)} → Happens m e m' → Runs m' l m'' → Runs m (e ∷ l) m''

-- THE HOST'S VIEW. sure: the list. open-write v v': a write from v to v' is under way; a cut leaves either. kept-write v': the write is not
-- acknowledged yet, but nothing can undo it any more.
pub data View (X : Type 0) : Type 0 where
  sure : Host X → View X
  open_write : Host X → Host X → View X
  kept_write : Host X → View X

-- the list that reads are answered from
abbrev pub list_of : {X : Type 0} → View X → Host X
list_of (sure v) = v
list_of (open_write v v') = v
list_of (kept_write v') = v'

-- how an accepted request changes the view: only a write does
abbrev pub Accepting : {X : Type 0} → Input X → View X → View X → Type 0
Accepting create p p' = p' ≡ p
Accepting (start A) p p' = p' ≡ p
Accepting (read_block t i) p p' = p' ≡ p
Accepting (write t ch) (sure v) p' = p' ≡ open_write v (replace v t ch)
Accepting (write t ch) (open_write v v') p' = ⊥
Accepting (write t ch) (kept_write v') p' = ⊥
Accepting (take_out d) p p' = p' ≡ p
Accepting (begin d) p p' = p' ≡ p
Accepting (rebuild_on b) p p' = p' ≡ p
Accepting (scrub_stripe t) p p' = p' ≡ p
Accepting (repair t) p p' = p' ≡ p
Accepting step p p' = p' ≡ p

-- the step from which the write survives
abbrev pub Saved : {X : Type 0} → View X → View X → Type 0
Saved (sure v) p' = ⊥
Saved (open_write v v') p' = p' ≡ kept_write v'
Saved (kept_write v') p' = ⊥

-- how a success changes the view: an acknowledged write is in the list; start-up decides about the one write that was under way; nothing else changes it
abbrev pub Ended : {X : Type 0} → Kind X → View X → View X → Type 0
Ended creating p p' = p' ≡ p
Ended starting (sure v) p' = p' ≡ sure v
Ended starting (open_write v v') p' = (p' ≡ sure v) ⊎ (p' ≡ sure v')
Ended starting (kept_write v') p' = p' ≡ sure v'
Ended (logging w) p p' = ⊥
Ended (storing w) (sure v) p' = ⊥
Ended (storing w) (open_write v v') p' = ⊥
Ended (storing w) (kept_write v') p' = p' ≡ sure v'
Ended labelling p p' = p' ≡ p

-- a read gives the list's entry (and a scrub finds nothing to blame: no sector changes by itself here)
abbrev pub Gives : {X : Type 0} → ℕ → (ℕ → X) → Input X → View X → View X → Type 0
Gives c b create p p' = ⊥
Gives c b (start A) p p' = ⊥
Gives c b (read_block t i) p p' = (p' ≡ p) × ((j : ℕ) → j < c → b j ≡ list_of p t i j)
Gives c b (write t ch) p p' = ⊥
Gives c b (take_out d) p p' = ⊥
Gives c b (begin d) p p' = ⊥
Gives c b (rebuild_on x) p p' = ⊥
Gives c b (scrub_stripe t) p p' = ⊥
Gives c b (repair t) p p' = ⊥
Gives c b step p p' = ⊥

abbrev pub Answered : {X : Type 0} → ℕ → Input X → Reply X → View X → View X → Type 0
Answered c i accepted p p' = Accepting i p p'
Answered c i (refused why) p p' = p' ≡ p
Answered c i (did a) p p' = p' ≡ p
Answered c i safe p p' = Saved p p'
Answered c i (done k) p p' = Ended k p p'
Answered c i (block b) p p' = Gives c b i p p'
Answered c i (found x) p p' = (p' ≡ p) × (x ≡ all_sound)

-- how an event may change the view (c sectors a block)
abbrev pub Goes : {X : Type 0} → ℕ → Event X → View X → View X → Type 0
Goes c cut p p' = p' ≡ p
Goes c dies p p' = p' ≡ p
Goes c swap p p' = p' ≡ p
Goes c (ask i r) p p' = Answered c i r p p'

-- the views that may go with a sequence of events
pub data Views {X : Type 0} (c : ℕ) : View X → List (Event X) → View X → Type 0 where
  same : {p : View X} → Views c p [] p
  next : {p p' p'' : View X} {e : Event X} {l : List (Event X)} → Goes c e p p' → Views c p' l p'' → Views c p (e ∷ l) p''
