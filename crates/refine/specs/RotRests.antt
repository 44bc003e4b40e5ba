-- FROM CALLS TO ROT AND BACK, for k > m: every chain of calls that comes to rest comes to where a repair can begin (RepairRot), with nothing
-- rotten. If sectors of one strip of a stripe then change by themselves, into anything, the host's list is still what it was; and an accepted
-- repair of the stripe, stepped to Done, ends with that list and with nothing of the stripe rotten. So it goes on, strip after strip and repair
-- after repair; meanwhile every strip that is not rotten is what the list asks for, and blocks that are fine are read right, also while a repair
-- is under way. Assumes nothing.
use Rattle.std.specs.Prelude.{◌≡◌, ◌⊎◌, Bool, ◌&&◌, List, ℕ, ◌+◌, ◌<◌, ◌/◌, ◌%◌, eqb, Ok}
use Rattle.std.proofs.Math.Bool.{true, false, cond, not}
use Rattle.disk.specs.Geometry.{stripes_of, strip_of, slot_of}
use Rattle.disk.specs.Image.{sector}
use Rattle.redo.specs.Decide.{believed}
use Rattle.protocol.specs.World.{Place, World}
use Rattle.protocol.specs.Host.{Host}
use Rattle.protocol.specs.Program.{idle}
use Rattle.protocol.specs.Machine.{sure}
use Rattle.protocol.specs.Veil.{Rot, rotten, spread}
use Rattle.codecs.specs.Sector.{Sector, Bytes}
use Rattle.codecs.specs.Shelf.{Shelf, slots, geometry}
use Rattle.codecs.specs.Labels.{ours}
use Rattle.requests.specs.Begun.{Begun, state_of}
use Rattle.shelf.specs.Step.{step_move}
use Rattle.blocks.specs.Repair.{Repairs}
use Rattle.stages.specs.declared.state.State.{State}
use Rattle.stages.specs.Told as answer
use Rattle.stages.specs.declared.state.Kind.TheVariants.{Idle}
use Rattle.refine.specs.Disks.{Disks, cur_of}
use Rattle.refine.specs.Tied.{own_of}
use Rattle.refine.specs.RepairRot.{RottenIn, Stepping}
use Rattle.requests.specs.Begun.{outcome_of}

-- ---- A STRIP ROTS

-- sectors of the strip of slot d in stripe t have become anything: the image was img and is left then, as long as it was, and every other sector stays
pub record Decays (z : Shelf) (d t : ℕ) (img left : List ℕ) : Type 0 where
  pub there : d < slots z
  pub stripe : t < stripes_of (geometry z)
  pub disks : Disks z left
  pub others : (e i : ℕ) → e < slots z → i < z.sectors → ((j : ℕ) → j < z.c → e ≡ d → i ≡ strip_of (geometry z) t + j → ⊥) → sector z.sectors left e i ≡ sector z.sectors img e i

-- no strip is rotten
abbrev pub none_rotten : Rot
none_rotten d t = false

-- the sectors of the strip of slot d in stripe t
abbrev pub on_strip : Shelf → ℕ → ℕ → Place → Bool
on_strip z d t = rotten z.c (spread none_rotten d t)

-- then they hold exactly what is read of them, with nothing cached; everything else is as it was
abbrev pub rotted : Shelf → World Sector → ℕ → ℕ → List ℕ → World Sector
rotted z w d t left =
    record {
      cur = λ k. cond (on_strip z d t k) (cur_of z left k) (w.cur k);
      may = λ k x. (on_strip z d t k ≡ true → x ≡ cur_of z left k) × (on_strip z d t k ≡ false → w.may k x);
    }

-- block b is fine: nothing of its stripe is rotten, or its own strip is believed and is not
abbrev pub FineBlock : Shelf → Rot → State → ℕ → Type 0
FineBlock z rot s b =
    ((d : ℕ) → rot d (b / z.k) ≡ false) ⊎ ((believed (geometry z) s.now (slot_of (slots z) (b / z.k) (b % z.k)) (b / z.k) ≡ true) × (rot (slot_of (slots z) (b / z.k) (b % z.k)) (b / z.k) ≡ false))

-- the code's steps so far, none of which has answered Done
pub data SoFar (work : List ℕ) (s : State) (img : List ℕ) : State → List ℕ → Type 0 where
  no_step : SoFar work s img s img
  one_step : {s' : State} {img' : List ℕ} → SoFar work s img s' img' → ((step_move s' work img').stepped.answer ≡ answer.Done → ⊥) → SoFar work s img (step_move s' work img').stepped.state (step_move s' work img').image

module _ (z : Shelf) (more : z.m < z.k) where
  -- AT REST with the list v, while the strips of rot are rotten: the image is the shelf's and what the disks read as, the state is the shelf's, and the protocol's invariant holds
  pub record RestsRotten (rot : Rot) (w : World Sector) (img : List ℕ) (s : State) (v : Host Sector) : Type 1 where
    pub disks : Disks z img
    pub reads : w.cur ≡ cur_of z img
    pub own : ours z s.now ≡ true
    pub idles : s.kind ≡ Idle
    pub holds : RottenIn z more rot w (idle (own_of z s s.now)) (sure v)

  -- all strips but those of stripe t
  abbrev pub but_stripe : Rot → ℕ → Rot
  but_stripe rot t d u = rot d u && not (eqb u t)

  -- at rest, one after the other: a strip rots of a stripe in which no other is rotten; a repair is accepted and stepped to Done
  pub data Ages (rot : Rot) (img : List ℕ) (s : State) : Rot → List ℕ → State → Type 0 where
    none_yet : Ages rot img s rot img s
    rots : {rot' : Rot} {img' : List ℕ} {s' : State} → Ages rot img s rot' img' s' → (d t : ℕ) (left : List ℕ) → Decays z d t img' left → ((e : ℕ) → rot' e t ≡ true → e ≡ d) → Ages rot img s (spread rot' d t) left s'
    mends : {rot' : Rot} {img' : List ℕ} {s' : State} → Ages rot img s rot' img' s' → (t : ℕ) (work : List ℕ) (b : Begun) (then : List ℕ) → Bytes then → Repairs s' t img' work b then → outcome_of b ≡ Ok tt
        → {s'' : State} {img'' : List ℕ} → Stepping then (state_of s' b) img' s'' img'' → Ages rot img s (but_stripe rot' t) img'' s''
