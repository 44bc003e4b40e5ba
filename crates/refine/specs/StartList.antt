-- START-UP'S LIST IS THE PROTOCOL'S: with masks that say what the protocol's tests say of what is seen, and the labels that it
-- reads and settles, what is left to do at the beginning of start-up is the protocol's list. Assumes nothing.
use Rattle.std.specs.Prelude.{◌≡◌, ◌⊎◌, ◌&&◌, ◌||◌, eqb, ltb}
use Rattle.std.proofs.Math.Bool.{Bool, true, false, not}
use mathlib.Core.List.{List, []}
use Prim.Native.Nat.{ℕ, suc, ◌<◌}
use Rattle.disk.specs.Mask.{in_mask}
use Rattle.protocol.specs.World.{log, Image, Action}
use Rattle.protocol.specs.Batch.{actions}
use Rattle.protocol.specs.Log.{Belief}
use Rattle.protocol.specs.Redo.{key, lead, tail, forward, kill, redo}
use Rattle.protocol.specs.Label.{Label, belief, copy, prepared}
use Rattle.protocol.specs.Startup.{L, M, gone, stale}
use Rattle.protocol.specs.Decide.{settled}
use Rattle.protocol.specs.Walk.{batch_of}
use Rattle.protocol.specs.Phases.{label_phase, prep_phase}
use Rattle.codecs.specs.Sector.{Sector}
use Rattle.codecs.specs.Shelf.{Shelf, slots, size}
use Rattle.codecs.specs.Labels.{side_of, label_of}
use Rattle.codecs.proofs.Labels.{labels}
use Rattle.codecs.proofs.Records.{records}
use Rattle.stages.specs.declared.state.State.{State}
use Rattle.stages.specs.declared.state.Kind.TheVariants.{Starting}
use Rattle.refine.specs.Disks.{cur_of, seen_of}
use Rattle.refine.specs.Lists.{Says}

module _ (z : Shelf) (A : ℕ → Bool) (img : List ℕ) where
  -- what is seen, and the label that start-up settles
  abbrev pub sight : Image Sector
  sight = seen_of z A img

  abbrev pub settles : Label
  settles = settled (size z) (labels z) (records z) A sight

  abbrev pub B : Belief
  B = belief (size z) settles

  -- the greatest generation, and the greatest stamp
  abbrev pub top : ℕ
  top = M (size z) (labels z) A sight

  abbrev pub stamp : ℕ
  stamp = key (records z) B sight (lead (records z) B sight)

  abbrev pub last : Sector
  last = tail (records z) B sight

  -- its sector that is not the new label's is to be zeros
  abbrev pub blanked : ℕ → Bool
  blanked d = ltb 0 (copy (labels z) sight d (side_of (suc (suc top)))).generation || eqb (copy (labels z) sight d (side_of (suc top))).generation 0

  abbrev pub adopts : ℕ → Bool
  adopts d = not (A d) && stale (size z) (labels z) A sight d

  abbrev pub readies : ℕ → Bool
  readies d = adopts d && not (prepared (labels z) sight (suc top) d)

  -- the slots that a write goes forward on, and those whose records are wiped
  abbrev pub forwards : ℕ → Bool
  forwards d = B.believe d ((records z).stripe_of last) && (records z).changes_of last d

  abbrev pub wipes : ℕ → Bool
  wipes d = B.look d && eqb ((records z).stamp (sight (log d z.c))) stamp

  -- what is done about the log: nothing, forward, or kill
  abbrev pub LogPart : State → Type 0
  LogPart s =
      ((redo (records z) B sight ≡ []) × Says z s.marks.redo (λ d. false))
      ⊎ (((redo (records z) B sight ≡ forward (records z) B sight) × (s.marks.forward ≡ true) × (s.marks.stripe ≡ (records z).stripe_of last) × Says z s.marks.redo forwards)
      ⊎ ((redo (records z) B sight ≡ kill (records z) B sight) × (s.marks.forward ≡ false) × Says z s.marks.redo wipes))

  -- the state at the beginning of start-up says what the protocol's tests say
  pub record Starts (s : State) : Type 0 where
    pub kind : s.kind ≡ Starting
    pub at_first : s.cursor ≡ record { stage = 0; slot = 0; sector = 0 }
    pub now : label_of z s.now ≡ L (size z) (labels z) A sight
    pub level : s.now.generation ≡ top
    pub next : label_of z s.next ≡ settles
    pub present : Says z s.marks.present (λ d. not (A d))
    pub parts : Says z s.marks.parts (λ d. not (gone (size z) (labels z) A sight d))
    pub late : Says z s.marks.late adopts
    pub prep : Says z s.marks.prep readies
    pub zeroed : (d : ℕ) → d < slots z → readies d ≡ true → in_mask s.marks.zeroed d ≡ blanked d
    pub log_part : LogPart s

-- ---- the stages

module _ (z : Shelf) (A : ℕ → Bool) (img : List ℕ) (s : State) (h : Starts z A img s) where
  abbrev pub f : Image Sector
  f = sight z A img

  abbrev pub F : Image Sector
  F = cur_of z img

  abbrev pub N : Label
  N = settles z A img

  abbrev pub g : ℕ
  g = suc (top z A img)

  -- ---- the whole list

  -- a round of the label l over the slots that pass a test; and the preparing of those that adopt the label late
  abbrev pub rounds_of : Label → (ℕ → Bool) → List (Action Sector)
  rounds_of l p = actions (batch_of (label_phase (labels z) (records z) l (slots z) p))

  abbrev pub preps : List (Action Sector)
  preps = actions (batch_of (prep_phase (labels z) (records z) f g N (slots z) (adopts z A img)))
