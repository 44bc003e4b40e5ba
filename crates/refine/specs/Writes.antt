-- A WRITE IS THE PROTOCOL'S WRITE: accepted, it begins as the protocol's, and each step of the code is a step of the protocol's
-- program, or two of them: between the last flush of the log and the first put of a strip the program takes one step that does
-- nothing (`safe`), and the code takes it together with the next one. Assumes nothing.
use Rattle.std.specs.Prelude.{◌≡◌, ◌⊎◌}
use mathlib.Core.List.{List, [], ◌∷◌}
use Prim.Native.Nat.{ℕ, suc, ◌+◌}
use Rattle.protocol.specs.World.{Image, World, Action}
use Rattle.protocol.specs.Log.{Write}
use Rattle.protocol.specs.Label.{belief}
use Rattle.protocol.specs.Write.{log_write}
use Rattle.protocol.specs.Host.{Change, write_of}
use Rattle.protocol.specs.Program.{Own, Memory, doing, creating, starting, logging, storing, labelling, Reply, accepted, refused, did, safe, done, block, found, step, change_made}
use Rattle.protocol.specs.Machine.{effect}
use Rattle.protocol.specs.Pairs.{no_sets}
use Rattle.codecs.specs.Sector.{Sector}
use Rattle.codecs.specs.Shelf.{Shelf, slots, size}
use Rattle.codecs.specs.Labels.{label_of}
use Rattle.codecs.proofs.Labels.{labels}
use Rattle.codecs.proofs.Records.{records}
use Rattle.codecs.specs.Media.{stamps}
use Rattle.shards.proofs.Even.{any_code, any_sectors}
use Rattle.stages.specs.Limits.{most_stages}
use Rattle.stages.specs.State.{moved}
use Rattle.shelf.specs.Act.{Move}
use Rattle.shelf.specs.Step.{finished}
use Rattle.stages.specs.declared.state.State.{State}
use Rattle.refine.specs.Disks.{cur_of}
use Rattle.refine.specs.ToDo.{left_of}
use Rattle.refine.specs.Steps.{Fair}
use Rattle.refine.specs.Tied.{own_of, own_before, memory_with, Same, program_of}
use Rattle.refine.specs.WriteList.{Writes}

-- ---- lists

abbrev pub head_or : {A : Type 0} → A → List A → A
head_or a [] = a
head_or a (x ∷ l) = x

abbrev pub rest : {A : Type 0} → List A → List A
rest [] = []
rest (x ∷ l) = l

-- no other request ends
abbrev pub OfWrite : Reply Sector → Type 0
OfWrite accepted = Unit {0}
OfWrite (refused why) = Unit {0}
OfWrite (did a) = Unit {0}
OfWrite safe = Unit {0}
OfWrite (done creating) = ⊥
OfWrite (done starting) = ⊥
OfWrite (done (logging x)) = ⊥
OfWrite (done (storing x)) = Unit {0}
OfWrite (done labelling) = ⊥
OfWrite (block b) = Unit {0}
OfWrite (found x) = Unit {0}

module _ (z : Shelf) where
  -- the program, asked for one step, or for two of which the first is `safe`, remembers what it has to beside the state that the move leaves,
  -- answers the same, and acts as the move does; the write goes on as the same write, or is done
  pub record TiedWrite (w : Write Sector) (s : State) (work img : List ℕ) (m : Move) : Type 1 where
    pub before : Memory Sector
    pub first : (memory_with z w s work img ≡ before) ⊎ (program_of z (memory_with z w s work img) (cur_of z img) step ≡ (before, safe))
    pub reply : Reply Sector
    pub of_write : OfWrite reply
    pub steps : program_of z before (cur_of z img) step ≡ (memory_with z w m.stepped.state work m.image, reply)
    pub answers : Same z m.stepped.answer reply
    pub acts : (v : World Sector) → v.cur ≡ cur_of z img → (effect v reply).cur ≡ cur_of z m.image
    pub goes_on : (Fair z m.stepped.state work m.image × Writes z m.stepped.state work w) ⊎ (m ≡ finished s img)
    pub settles : m.stepped.state.next ≡ s.next

  module _ (w : Write Sector) (s : State) (work img : List ℕ) (h : Writes z s work w) where
    abbrev pub F : Image Sector
    F = cur_of z img

    -- what is remembered of it
    abbrev pub N : List (Action Sector) → Memory Sector
    N l = doing (logging w) l (own_before z s) (own_of z s s.next)

    abbrev pub M : List (Action Sector) → Memory Sector
    M l = doing (storing w) l (own_before z s) (own_of z s s.next)

    -- the store part
    abbrev pub T : List (Action Sector)
    T = left_of z work F most_stages (moved s 2 0 0)

  -- ---- it begins

  -- at rest in state i, a write W is asked for: the state that the request leaves, and the work area
  pub record Asks (i s : State) (work : List ℕ) (w : Write Sector) : Type 0 where
    pub now : s.now ≡ i.now
    pub next : s.next ≡ i.now
    pub absent : s.absent ≡ i.absent
    pub epoch : s.epoch ≡ i.epoch
    pub count : s.count ≡ i.count + 1
    pub cursor : s.cursor ≡ record { stage = 0; slot = 0; sector = 0 }
    pub writes : Writes z s work w

  -- what the protocol remembers of a write w when it has accepted it in state o
  abbrev pub asked_log : Own → Write Sector → Memory Sector
  asked_log o w =
      doing (logging w) (log_write (records z) (belief (size z) o.now) (suc o.count) w) o
      (record { now = o.now; absent = o.absent; epoch = o.epoch; count = suc o.count })

  -- the write that the protocol's program makes of a change of the host's, asked for in state i; f is what is seen of the disks
  abbrev pub write_asked : State → Image Sector → ℕ → Change Sector → Write Sector
  write_asked i f t ch =
      write_of (size z) (no_sets (slots z)) (records z) (any_code z) (label_of z i.now) f t
      (change_made (size z) (no_sets (slots z)) (labels z) (records z) (any_code z) stamps (any_sectors z) (own_of z i i.now) f t ch)
