-- A REPAIR WHILE STRIPS ROT, for k > m: what the protocol promises then (`rot_promise`) it promises of the code's repair. At rest, with at
-- most one strip of a stripe rotten: an accepted repair leaves the host's list as it is, so does each of its steps, and when one answers Done,
-- as it does in the end, nothing of the stripe is rotten any more. Meanwhile nothing else rots here. Assumes nothing.
use Rattle.std.specs.Prelude.{◌≡◌, ◌⊎◌, ℕ, ◌<◌}
use Rattle.std.proofs.Common.{sym, subst, ◌∙◌}
use mathlib.Core.List.{List}
use Rattle.protocol.specs.World.{Image, World, Action}
use Rattle.protocol.specs.Log.{Write}
use Rattle.protocol.specs.Label.{belief}
use Rattle.protocol.specs.Host.{Host}
use Rattle.protocol.specs.Program.{Memory, idle, doing, logging, storing, Input, Reply}
use Rattle.protocol.specs.Machine.{effect, View, sure}
use Rattle.protocol.specs.Veil.{Rot, mended}
use Rattle.protocol.specs.Rot.{Rotten, rot_after, Follows, Allowed}
use Rattle.protocol.proofs.Rot.{rot_host}
use Rattle.codecs.specs.Sector.{Sector}
use Rattle.codecs.specs.Shelf.{Shelf, size}
use Rattle.codecs.specs.Labels.{label_of}
use Rattle.codecs.proofs.Labels.{labels}
use Rattle.codecs.proofs.Records.{records}
use Rattle.codecs.specs.Media.{stamps}
use Rattle.shards.proofs.Quorum.{quorum}
use Rattle.shards.proofs.CodeLaws.{code}
use Rattle.shards.proofs.Promise.{sectors}
use Rattle.shards.proofs.Even.{same_program}
use Rattle.shelf.specs.Act.{Move}
use Rattle.shelf.specs.Step.{step_move}
use Rattle.stages.specs.declared.state.State.{State}
use Rattle.stages.specs.Told as answer
use Rattle.refine.specs.Disks.{cur_of}
use Rattle.refine.specs.Tied.{own_of, own_before, memory_with, Same, program_of}
use Rattle.refine.specs.WriteList.{Writes}

-- the code's steps with one work area, up to the one that answers Done
pub data Stepping (work : List ℕ) : State → List ℕ → State → List ℕ → Type 0 where
  last_step : {s : State} {img : List ℕ} → (step_move s work img).stepped.answer ≡ answer.Done → Stepping work s img (step_move s work img).stepped.state (step_move s work img).image
  then_on : {s s' : State} {img img' : List ℕ} → ((step_move s work img).stepped.answer ≡ answer.Done → ⊥) → Stepping work (step_move s work img).stepped.state (step_move s work img).image s' img' → Stepping work s img s' img'

module _ (z : Shelf) (more : z.m < z.k) where
  -- THE PROTOCOL'S INVARIANT while strips rot, at this shelf's sectors
  abbrev pub RottenIn : Rot → World Sector → Memory Sector → View Sector → Type 1
  RottenIn = Rotten (size z) (quorum z more) (labels z) (records z) (code z more) stamps (sectors z more)

  -- what follows an answer of the program
  pub follows : (rot : Rot) (w : World Sector) (m : Memory Sector) (p : View Sector) → RottenIn rot w m p → (i : Input Sector)
      → Allowed (size z) (quorum z more) (labels z) (records z) (code z more) stamps (sectors z more) rot m w.cur i → (x : Memory Sector × Reply Sector) → program_of z m w.cur i ≡ x
      → Follows (size z) (quorum z more) (labels z) (records z) (code z more) stamps (sectors z more) rot w m i p x
  follows rot w m p h i a x e =
      subst (Follows (size z) (quorum z more) (labels z) (records z) (code z more) stamps (sectors z more) rot w m i p) (sym (same_program z more m w.cur i) ∙ e)
      (rot_host (size z) (quorum z more) (labels z) (records z) (code z more) stamps (sectors z more) rot w m p h i a)

  -- ---- it goes on

  module _ (wr : Write Sector) (s : State) (work img : List ℕ) (h : Writes z s work wr) where
    abbrev pub F : Image Sector
    F = cur_of z img

    -- the write is logged, or stored
    abbrev pub Part : Memory Sector → Type 0
    Part m = (l : List (Action Sector)) × ((m ≡ doing (logging wr) l (own_before z s) (own_of z s s.next)) ⊎ (m ≡ doing (storing wr) l (own_before z s) (own_of z s s.next)))

    abbrev pub move : Move
    move = step_move s work img

    abbrev pub later : Memory Sector
    later = memory_with z wr move.stepped.state work move.image

    -- the strips that are rotten when the write is done: those of its own are not
    abbrev pub rot_out : Rot → Rot
    rot_out rot = mended rot (belief (size z) (label_of z s.now)) wr.stripe wr.changes

    -- a step: the reply of the program that is the code's answer, what the disks hold then, and what holds of them with the same list
    pub record RepairStep (rot : Rot) (w : World Sector) (v : Host Sector) : Type 1 where
      pub reply : Reply Sector
      pub same : Same z move.stepped.answer reply
      pub reads : (effect w reply).cur ≡ cur_of z move.image
      pub holds : ((move.stepped.answer ≡ answer.Done) × RottenIn (rot_out rot) (effect w reply) later (sure v)) ⊎ ((move.stepped.answer ≡ answer.Done → ⊥) × RottenIn rot (effect w reply) later (sure v))

    module _ (rot : Rot) (w : World Sector) (reads : w.cur ≡ F) (v : Host Sector) where
      abbrev pub rot_then : Memory Sector → Reply Sector → Rot
      rot_then m r = rot_after (size z) (quorum z more) (labels z) (records z) (code z more) stamps (sectors z more) rot m r

  -- ---- it ends

  -- at rest again: what the disks hold, with these strips rotten and this list
  pub record Mended (rot : Rot) (s : State) (img : List ℕ) (v : Host Sector) : Type 1 where
    pub world : World Sector
    pub reads : world.cur ≡ cur_of z img
    pub holds : RottenIn rot world (idle (own_of z s s.now)) (sure v)
