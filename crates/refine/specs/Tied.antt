-- A STEP OF THE CODE IS A STEP OF THE PROTOCOL'S PROGRAM: what the program remembers beside a state of the code, and that the two
-- stay together over a step: the answers say the same, and the disks hold the same. Assumes nothing.
use Rattle.std.specs.Prelude.{◌≡◌, ◌⊎◌, Bool, false, ltb}
use Rattle.std.proofs.Math.Bool.{true, cond}
use mathlib.Core.List.{List}
use Prim.Native.Nat.{ℕ, ◌-◌}
use Rattle.disk.specs.Mask.{in_mask}
use Rattle.label.specs.declared.fields.Label as bytes
use Rattle.protocol.specs.World.{slot, Image, World, Action, put, flush}
use Rattle.protocol.specs.Program as program
use Rattle.protocol.specs.Program.{Own, Memory, nothing, idle, doing, creating, starting, logging, storing, labelling, Reply, accepted, refused, did, safe, done, block, found, step, beyond}
use Rattle.protocol.specs.Machine.{effect}
use Rattle.codecs.specs.Sector.{Sector}
use Rattle.codecs.specs.Shelf.{Shelf, slots}
use Rattle.codecs.specs.Labels.{label_of}
use Rattle.codecs.specs.Records.{stamp_number}
use Rattle.protocol.specs.Log.{Write}
use Rattle.shards.proofs.Even.{shelf_program}
use Rattle.shelf.specs.Act.{Move}
use Rattle.stages.specs.Limits.{most_stages}
use Rattle.shelf.specs.Step.{finished}
use Rattle.stages.specs.declared.state.State.{State}
use Rattle.stages.specs.declared.state.Kind.{Kind}
use Rattle.stages.specs.declared.state.Kind.TheVariants.{Nothing, Idle, Creating, Starting, Labelling, Writing, Beginning, Filling}
use Rattle.stages.specs.Told.{Answer}
use Rattle.stages.specs.Told as answer
use Rattle.refine.specs.Places.{sector_of, inside}
use Rattle.refine.specs.Disks.{cur_of}
use Rattle.refine.specs.Keeps.{kept_write}
use Rattle.refine.specs.ToDo.{left_of, to_do}
use Rattle.refine.specs.Steps.{Fair}

-- ---- what the program remembers

-- under this label: the absent slots (those beyond the shelf among them), the epoch, and the last stamp as one number
abbrev pub own_of : Shelf → State → bytes.Label → Own
own_of z s l = record { now = label_of z l; absent = beyond (slots z) (in_mask s.absent); epoch = s.epoch; count = stamp_number (record { epoch = s.epoch; count = s.count }) }

-- before a write: its stamp is the one before
abbrev pub own_before : Shelf → State → Own
own_before z s =
    record { now = label_of z s.now; absent = beyond (slots z) (in_mask s.absent); epoch = s.epoch; count = stamp_number (record { epoch = s.epoch; count = s.count }) - 1 }

-- the write that is under way, as far as the work area tells it
abbrev pub write_in : Shelf → State → List ℕ → Write Sector
write_in z s work = kept_write z work s.marks.stripe s.marks.parts

-- a write is first logged (stages 0 and 1), then stored
unfoldable pub write_memory : Shelf → Write Sector → State → List ℕ → Image Sector → Memory Sector
write_memory z w s work f =
    cond (ltb s.cursor.stage 2) (doing (logging w) (left_of z work f (2 - s.cursor.stage) s) (own_before z s) (own_of z s s.next))
    (doing (storing w) (left_of z work f most_stages s) (own_before z s) (own_of z s s.next))

-- a request under way: what is left to do of it; w is what is remembered of a write. While a shelf is created or started, the label to
-- be settled is the only one that counts.
abbrev pub memory_by : Kind → Shelf → State → Memory Sector → List (Action Sector) → Memory Sector
memory_by Nothing z s w l = nothing
memory_by Idle z s w l = idle (own_of z s s.now)
memory_by Creating z s w l = doing creating l (own_of z s s.next) (own_of z s s.next)
memory_by Starting z s w l = doing starting l (own_of z s s.next) (own_of z s s.next)
memory_by Labelling z s w l = doing labelling l (own_of z s s.now) (own_of z s s.next)
memory_by Writing z s w l = w
memory_by Beginning z s w l = doing labelling l (own_of z s s.now) (own_of z s s.next)
memory_by Filling z s w l = doing labelling l (own_of z s s.now) (own_of z s s.next)

-- where the write under way is w; it counts for a write alone
abbrev pub memory_with : Shelf → Write Sector → State → List ℕ → List ℕ → Memory Sector
memory_with z w s work img = memory_by s.kind z s (write_memory z w s work (cur_of z img)) (to_do z s work img)

unfoldable pub memory_of : Shelf → State → List ℕ → List ℕ → Memory Sector
memory_of z s work img = memory_by s.kind z s (write_memory z (write_in z s work) s work (cur_of z img)) (to_do z s work img)

-- ---- requests that keep nothing in the work area

abbrev pub plain : Kind → Bool
plain Nothing = true
plain Idle = true
plain Creating = true
plain Starting = true
plain Labelling = true
plain Writing = false
plain Beginning = true
plain Filling = false

-- ---- the two answers

abbrev pub Same : Shelf → Answer → Reply Sector → Type 0
Same z a accepted = ⊥
Same z a (refused why) = ⊥
Same z a (did (put k v)) = (inside z k ≡ true) × (a ≡ answer.Put (slot k) (sector_of z k))
Same z a (did (flush d)) = a ≡ answer.Flush d
Same z a safe = ⊥
Same z a (done k) = a ≡ answer.Done
Same z a (block b) = ⊥
Same z a (found x) = ⊥

module _ (z : Shelf) where
  abbrev pub program_of : Memory Sector → Image Sector → program.Input Sector → Memory Sector × Reply Sector
  program_of = shelf_program z

  -- the program, asked for a step, remembers what it has to beside the state that the move leaves, answers the same, and acts as the move does; the label to be settled stays
  pub record Tied (s : State) (work img : List ℕ) (m : Move) : Type 1 where
    pub reply : Reply Sector
    pub steps : program_of (memory_of z s work img) (cur_of z img) step ≡ (memory_of z m.stepped.state work m.image, reply)
    pub answers : Same z m.stepped.answer reply
    pub acts : (w : World Sector) → w.cur ≡ cur_of z img → (effect w reply).cur ≡ cur_of z m.image
    pub goes_on : Fair z m.stepped.state work m.image ⊎ (m ≡ finished s img)
    pub settles : m.stepped.state.next ≡ s.next
    pub keeps_plain : plain m.stepped.state.kind ≡ true

  module _ (s : State) (work img : List ℕ) where
    abbrev pub W : Memory Sector
    W = write_memory z (write_in z s work) s work (cur_of z img)
