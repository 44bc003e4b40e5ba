-- CHAINS OF CALLS WITH WRITES: create, start, take out, begin, go on with a rebuild, write, repair and step, with power cuts, deaths
-- of the caller and exchanged disks in between, and the host's view beside them. The caller hands back the state and the work area that it was handed last.
-- What a call does to the view is said in the words of its answer (`Saw`). A repair is always refused, since no sector changes by itself.
-- Assumes nothing.
use Rattle.std.specs.Prelude.{◌≡◌, ◌⊎◌, Bool, false, ℕ, ◌+◌, ◌<◌, ◌/◌, ◌%◌, length, Ok, Err}
use Rattle.std.proofs.Math.Bool.{true}
use mathlib.Core.List.{List, [], ◌++◌}
use Rattle.disk.specs.Mask.{in_mask}
use Rattle.disk.specs.declared.geometry.Geometry.{Geometry}
use Rattle.disk.specs.Refusal.{Outcome}
use Rattle.label.specs.Bytes.{all_zero}
use Rattle.protocol.specs.World.{World, Possible, after, Always}
use Rattle.protocol.specs.Log.{Write}
use Rattle.protocol.specs.Label as Label
use Rattle.protocol.specs.Host.{Host, one_block, replace}
use Rattle.protocol.specs.Program.{Own, idle, doing, labelling, Reply, accepted, refused, did, safe, done, block, found}
use Rattle.protocol.specs.Program as program
use Rattle.protocol.specs.Machine.{Machine, View, sure, open_write, kept_write, Saved, Ended}
use Rattle.codecs.specs.Sector.{Sector, Bytes}
use Rattle.codecs.specs.Shelf.{Shelf, slots, size}
use Rattle.codecs.specs.Labels.{ours, label_of}
use Rattle.stages.specs.declared.state.State.{State}
use Rattle.stages.specs.declared.state.Kind.{Kind}
use Rattle.stages.specs.declared.state.Kind.TheVariants.{Nothing, Idle, Creating, Starting, Labelling, Writing, Beginning, Filling}
use Rattle.stages.specs.Told.{Answer}
use Rattle.stages.specs.Told as answer
use Rattle.requests.specs.Begun.{work_bytes}
use Rattle.requests.specs.Create.{create_of}
use Rattle.requests.specs.Start.{start_of}
use Rattle.requests.specs.TakeOut.{take_out_of}
use Rattle.requests.specs.Step.{step_with}
use Rattle.requests.specs.Ready.{is_idle, ready_of}
use Rattle.requests.specs.Begun.{Begun}
use Rattle.rebuilds.specs.Begin.{begin_of}
use Rattle.rebuilds.specs.On.{on_of}
use Rattle.blocks.specs.Slots.{too_few}
use Rattle.blocks.specs.Answers.{sizes, block_answer, first_done, answered_done}
use Rattle.blocks.specs.Write.{stamp_left, write_answer, AfterWrite}
use Rattle.blocks.specs.Repair.{Repairs}
use Rattle.refine.specs.Family.{Family}
use Rattle.refine.specs.Disks.{Disks, cur_of}
use Rattle.refine.specs.ToDo.{to_do}
use Rattle.refine.specs.Steps.{Fair}
use Rattle.refine.specs.Tied.{own_of, memory_with}
use Rattle.refine.specs.WriteList.{Writes}
use Rattle.refine.specs.Other.{Sits}
use Rattle.refine.specs.Named.{Named, Names, left_in}
use Rattle.refine.specs.Sees.{sectors_of}
use Rattle.refine.specs.Chain.{Heard, outs, Reached, Tie}
use Rattle.refine.specs.Chain as chain
use Rattle.refine.specs.Refills.{Refilling}
use Rattle.refine.specs.Swaps.{Exchanged, new_disk}
use Rattle.requests.specs.Begun.{state_of}

-- ---- THE CALLS

-- what the caller holds: no state, or the one that it was handed last, with the work area
pub data Held : Type 0 where
  none : Held
  has : State → List ℕ → Held

pub data Time : Type 1 where
  at : World Sector → List ℕ → Held → Time

-- the state of a request that was accepted, with the work area that was lent; a refusal leaves what was held
abbrev pub held : Held → Begun → List ℕ → Held
held h (Ok s) work = has s work
held h (Err why) work = h

pub data HostCalls (z : Shelf) : Time → Time → Type 1 where
  -- create and start begin anew, in any state, whatever state they are handed (its bytes may be anything). On an image of zeros create is called for this shelf, later with any numbers; start with any
  -- numbers, but if it is told another S it is not told that slot 0 is absent (Other says why)
  creates : {w : World Sector} {img : List ℕ} {h : Held} (s : State) (work : List ℕ) → HostCalls z (at w img h) (at w img (held h (create_of z.k z.m z.c z.sectors z.number img (length work)) work))
  starts : {w : World Sector} {img : List ℕ} {h : Held} (s : State) (g : Geometry) (absent : ℕ) (work : List ℕ) → Sits z g absent → HostCalls z (at w img h) (at w img (held h (start_of g absent img (length work)) work))
  creates_late : {w : World Sector} {img : List ℕ} {h : Held} (s : State) (k m c S number : ℕ) (work : List ℕ) → all_zero img ≡ false → HostCalls z (at w img h) (at w img (held h (create_of k m c S number img (length work)) work))
  takes_out : {w : World Sector} {img : List ℕ} {s : State} {work : List ℕ} (d : ℕ) → HostCalls z (at w img (has s work)) (at w img (held (has s work) (take_out_of s d img (length work)) work))
  -- the disk of slot d is readied, and the label then says that it is being rebuilt
  begins : {w : World Sector} {img : List ℕ} {s : State} {work : List ℕ} (d : ℕ) → HostCalls z (at w img (has s work)) (at w img (held (has s work) (begin_of s d img (length work)) work))
  -- the next strips of the slot that is being rebuilt are rebuilt, b of them at most (0 means 1)
  ons : {w : World Sector} {img : List ℕ} {s : State} {work : List ℕ} (b : ℕ) → HostCalls z (at w img (has s work)) (at w img (held (has s work) (on_of s b img (length work)) work))
  -- the bytes given are written to block b: what write's contract says
  writes : {w : World Sector} {img : List ℕ} {s : State} {work : List ℕ} (b : ℕ) (given : List ℕ) (s' : State) (then : List ℕ) → Bytes given → Bytes then
      → AfterWrite (write_answer s.now s.kind s.absent s.count img b (length given) (length work)) s b given img work s' then → HostCalls z (at w img (has s work)) (at w img (has s' then))
  -- stripe t is looked at, and mended if a shard of it is wrong: what repair's contract says
  repairs : {w : World Sector} {img : List ℕ} {s : State} {work : List ℕ} (t : ℕ) (b : Begun) (then : List ℕ) → Repairs s t img work b then → HostCalls z (at w img (has s work)) (at w img (has (state_of s b) then))
  steps : {w w' : World Sector} {img : List ℕ} {s : State} {work : List ℕ} → Heard z w (step_with s img work).stepped.answer (step_with s img work).image w'
      → HostCalls z (at w img (has s work)) (at w' (step_with s img work).image (has (step_with s img work).stepped.state work))
  cut : {w : World Sector} {img : List ℕ} {h : Held} (left : List ℕ) → Disks z left → Possible w (cur_of z left) → HostCalls z (at w img h) (at (after (cur_of z left)) left none)
  dies : {w : World Sector} {img : List ℕ} {h : Held} → HostCalls z (at w img h) (at w img none)
  -- at rest another disk is put into slot d, which the state calls absent (Swaps says what it may hold): it has nothing cached, every other slot is as it was
  swaps : {w : World Sector} {img : List ℕ} {s : State} {work : List ℕ} (d : ℕ) (left : List ℕ) → Exchanged z s d img left → HostCalls z (at w img (has s work)) (at (new_disk z w d left) left (has s work))

pub data HostChain (z : Shelf) : Time → Time → Type 1 where
  stays : {a : Time} → HostChain z a a
  goes_on : {a b c : Time} → HostChain z a b → HostCalls z b c → HostChain z a c

-- the sets of slots that a chain leaves out
abbrev pub sets_call : {z : Shelf} {a b : Time} → HostCalls z a b → List (ℕ → Bool)
sets_call (creates s work) = []
sets_call (creates_late s k m c S number work e) = []
sets_call (starts {img = img} s g absent work sits) = outs (start_of g absent img (length work))
sets_call (takes_out {img = img} {s = s} {work = work} d) = outs (take_out_of s d img (length work))
sets_call (begins d) = []
sets_call (ons b) = []
sets_call (writes b given s' then x y e) = []
sets_call (repairs t b then r) = []
sets_call (steps heard) = []
sets_call (cut left d p) = []
sets_call dies = []
sets_call (swaps d left x) = []

abbrev pub sets : {z : Shelf} {a b : Time} → HostChain z a b → List (ℕ → Bool)
sets stays = []
sets (goes_on c x) = sets_call x ++ sets c

-- ---- WHAT A CALL DOES TO THE HOST'S VIEW

-- the write under way is in the list
abbrev pub Acknowledged : View Sector → View Sector → Type 0
Acknowledged (sure v) q = ⊥
Acknowledged (open_write v v') q = q ≡ sure v'
Acknowledged (kept_write v') q = q ≡ sure v'

-- a step of a write: Done acknowledges it; with any other answer it may have become one that nothing can undo
abbrev pub SawWrite : Answer → View Sector → View Sector → Type 0
SawWrite (answer.Put d to) p q = (q ≡ p) ⊎ Saved p q
SawWrite (answer.Flush d) p q = (q ≡ p) ⊎ Saved p q
SawWrite answer.Done p q = Acknowledged p q
SawWrite (answer.Refused why) p q = q ≡ p

-- a step of a start-up: Done decides about a write that was under way when the state was lost
abbrev pub SawStart : Answer → View Sector → View Sector → Type 0
SawStart (answer.Put d to) p q = q ≡ p
SawStart (answer.Flush d) p q = q ≡ p
SawStart answer.Done p q = Ended program.starting p q
SawStart (answer.Refused why) p q = q ≡ p

abbrev pub SawStep : Kind → Answer → View Sector → View Sector → Type 0
SawStep Nothing a p q = q ≡ p
SawStep Idle a p q = q ≡ p
SawStep Creating a p q = q ≡ p
SawStep Starting a p q = SawStart a p q
SawStep Labelling a p q = q ≡ p
SawStep Writing a p q = SawWrite a p q
SawStep Beginning a p q = q ≡ p
SawStep Filling a p q = q ≡ p

-- an accepted write opens: the list with the block replaced is the new one
abbrev pub SawAsked : Outcome → ℕ → ℕ → (ℕ → Sector) → View Sector → View Sector → Type 0
SawAsked (Ok tt) t i x p q = (v : Host Sector) × (p ≡ sure v) × (q ≡ open_write v (replace v t (one_block i x)))
SawAsked (Err why) t i x p q = q ≡ p

abbrev pub Saw : {z : Shelf} {a b : Time} → HostCalls z a b → View Sector → View Sector → Type 0
Saw (creates s work) p q = q ≡ p
Saw (creates_late s k m c S number work e) p q = q ≡ p
Saw (starts s g absent work sits) p q = q ≡ p
Saw (takes_out d) p q = q ≡ p
Saw (begins d) p q = q ≡ p
Saw (ons b) p q = q ≡ p
Saw {z} (writes {img = img} {s = s} {work = work} b given s' then x y e) p q =
    SawAsked (write_answer s.now s.kind s.absent s.count img b (length given) (length work)) (b / z.k) (b % z.k) (sectors_of z.c given) p q
Saw (repairs t b then r) p q = q ≡ p
Saw (steps {img = img} {s = s} {work = work} heard) p q = SawStep s.kind (step_with s img work).stepped.answer p q
Saw (cut left d x) p q = q ≡ p
Saw dies p q = q ≡ p
Saw (swaps d left x) p q = q ≡ p

-- the views along a chain
abbrev pub Seen : {z : Shelf} {a b : Time} → HostChain z a b → View Sector → View Sector → Type 0
Seen stays p q = q ≡ p
Seen (goes_on c x) p q = (r : View Sector) × Seen c p r × Saw x r q

-- ---- THE TIE

-- which answer it is
abbrev pub NotSafe : Reply Sector → Type 0
NotSafe accepted = Unit {0}
NotSafe (refused why) = Unit {0}
NotSafe (did a) = Unit {0}
NotSafe safe = ⊥
NotSafe (done k) = Unit {0}
NotSafe (block b) = Unit {0}
NotSafe (found x) = Unit {0}

module _ (z : Shelf) (F : Family z) (first : Machine Sector) where
  -- a write is under way: which one, and what is remembered of it
  pub record Laying (p : View Sector) (w : World Sector) (img : List ℕ) (s : State) (work : List ℕ) : Type 1 where
    pub written : Write Sector
    pub disks : Disks z img
    pub reads : w.cur ≡ cur_of z img
    pub reached : Reached z F first p w (memory_with z written s work img)
    pub named : Always w (Named z)
    pub names : Names z (left_in z (memory_with z written s work img))
    pub next_ours : ours z s.next ≡ true
    pub fair : Fair z s work img
    pub writes : Writes z s work written
    pub sized : length work ≡ work_bytes (slots z) z.c

  -- begin is under way: what the program knew before it; the slot may have been absent then
  pub record Readying (p : View Sector) (w : World Sector) (img : List ℕ) (s : State) (work : List ℕ) : Type 1 where
    pub before : Own
    pub same_label_lem : before.now ≡ label_of z s.now
    pub more_absent : (d : ℕ) → d < slots z → in_mask s.absent d ≡ true → before.absent d ≡ true
    pub disks : Disks z img
    pub reads : w.cur ≡ cur_of z img
    pub reached : Reached z F first p w (doing labelling (to_do z s work img) before (own_of z s s.next))
    pub named : Always w (Named z)
    pub names : Names z (to_do z s work img)
    pub next_ours : ours z s.next ≡ true
    pub fair : Fair z s work img
    pub kind : s.kind ≡ Beginning
    pub sized : length work ≡ work_bytes (slots z) z.c

  -- a rebuild is under way, with the work area that was lent
  pub record Going (p : View Sector) (w : World Sector) (img : List ℕ) (s : State) (work : List ℕ) : Type 1 where
    pub refills : Refilling z F first p w img s work
    pub sized : length work ≡ work_bytes (slots z) z.c

  -- one of the requests that need the work area, or remember more, is under way
  abbrev pub Busy : View Sector → World Sector → List ℕ → State → List ℕ → Type 1
  Busy p w img s work = Laying p w img s work ⊎ (Readying p w img s work ⊎ Going p w img s work)

  abbrev pub Bound : View Sector → World Sector → List ℕ → Held → Type 1
  Bound p w img none = Tie z F first p w img chain.none
  Bound p w img (has s work) = Tie z F first p w img (chain.has s) ⊎ Busy p w img s work

  abbrev pub BoundAt : View Sector → Time → Type 1
  BoundAt p (at w img h) = Bound p w img h

  -- begin
  pub rest_dark : (p : View Sector) (w : World Sector) (o : Own) → Reached z F first p w (idle o) → (d : ℕ) → o.absent d ≡ true → Label.looked (size z) o.now d ≡ true → ⊥
  rest_dark (sure v) w o r d a q = r.keeps.1.dark d a q
  rest_dark (open_write v v') w o r d a q = r.keeps
  rest_dark (kept_write v') w o r d a q = r.keeps

  -- ---- a write is asked for

  module _ (p : View Sector) (w : World Sector) (img : List ℕ) (s : State) (work : List ℕ) (b : ℕ) (given : List ℕ) (s' : State) (then : List ℕ) (small : Bytes given) (small' : Bytes then) where
    abbrev pub asked : Outcome
    asked = write_answer s.now s.kind s.absent s.count img b (length given) (length work)

    pub rest_of : asked ≡ Ok tt → is_idle s.kind ≡ true
    unfolding block_answer stamp_left
    rest_of e =
        (answered_done (too_few s.now s.absent) _ (is_idle s.kind) _ (sizes (s.now.k + s.now.m) s.now.c (length given) (length work))
        (first_done (ready_of s.now s.kind s.absent img) (block_answer s.now s.absent (is_idle s.kind) (stamp_left s.count) b (length given) (length work)) e).1).at_rest
