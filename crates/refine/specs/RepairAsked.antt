-- A REPAIR THAT IS ACCEPTED, at rest, is the protocol's: its program accepts it too, what the state and the work area then describe is
-- the write of the accused shard, mended, that it makes, and it can be carried out. Whatever the strips hold: nothing is asked of them, nor
-- of the host's list. And one that is refused is refused by the program too, with the same code for BAD_BLOCK and NOT_NOW, but for what the code alone looks at. In the
-- words of repair's contract. Assumes nothing.
use Rattle.std.specs.Prelude.{◌≡◌, Bool, cond, ◌&&◌, ◌||◌, ℕ, suc, ◌+◌, ◌*◌, ◌<◌, take, Ok, Err}
use Rattle.std.proofs.Math.Path.{refl, sym}
use Rattle.std.proofs.Common.{◌∙◌}
use Rattle.std.proofs.Math.Bool.{true, false, not}
use mathlib.Core.List.{List, [], ◌∷◌}
use Rattle.std.proofs.Math.Dec.{ltb}
use Rattle.code.specs.declared.Verdict.{Verdict}
use Rattle.code.specs.declared.Verdict.TheVariants as verdict
use Rattle.disk.specs.Geometry.{stripes_of}
use Rattle.disk.specs.Mask.{in_mask}
use Rattle.disk.specs.declared.refusal.Refusal.{Refusal}
use Rattle.disk.specs.declared.refusal.Refusal.TheVariants as why
use Rattle.disk.specs.Refusal.{Outcome}
use Rattle.label.specs.Fields.{geometry_of, fits_of}
use Rattle.label.specs.Newest.{all_of}
use Rattle.label.specs.declared.fields.Label as bytes
use Rattle.protocol.specs.World.{Image}
use Rattle.protocol.specs.Log.{Write}
use Rattle.protocol.specs.Label as Label
use Rattle.protocol.specs.Slots.{from, every}
use Rattle.protocol.specs.Host.{blames, accused_slot, repair_of}
use Rattle.protocol.specs.Program as program
use Rattle.protocol.specs.Program.{BAD_BLOCK, BUSY, NOT_NOW, first, Memory, idle, repair, Reply, accepted, refused, beyond, finding, asked_repair, also, answer}
use Rattle.protocol.specs.Pairs.{no_sets}
use Rattle.codecs.specs.Sector.{Sector, Bytes}
use Rattle.codecs.specs.Shelf.{Shelf, slots, geometry, size}
use Rattle.codecs.specs.Labels.{label_of, ours}
use Rattle.codecs.proofs.Labels.{labels}
use Rattle.codecs.specs.Records.{counts}
use Rattle.codecs.proofs.Records.{records}
use Rattle.codecs.specs.Media.{stamps}
use Rattle.shards.proofs.Even.{any_code, any_sectors}
use Rattle.requests.specs.Begun.{begun, state_of}
use Rattle.requests.specs.Begun as requests
use Rattle.requests.specs.Ready.{is_idle, holding}
use Rattle.requests.specs.Begun.{Begun}
use Rattle.blocks.specs.Slots.{none_missing}
use Rattle.blocks.specs.Answers.{never}
use Rattle.blocks.specs.Write.{stamp_left}
use Rattle.blocks.specs.Repair.{may_repair, stripe_bytes, mending, Repairs, repair_accuses}
use Rattle.stages.specs.declared.state.State.{State}
use Rattle.refine.specs.Disks.{Disks, cur_of, seen_of}
use Rattle.refine.specs.Tied.{own_of, program_of}
use Rattle.refine.specs.Mends.{Whole, may_whole, asked_refused, stripe_inside, none_missing_lem, all_believe}
use Rattle.requests.specs.Begun.{outcome_of}

-- THE WRITE that the protocol's program makes of a repair of stripe t, of what it sees: the strip of the slot that it accuses, mended
abbrev pub repair_asked : Shelf → Image Sector → ℕ → Write Sector
repair_asked z f t =
    repair_of (size z) (no_sets (slots z)) (records z) (any_code z) f t
    (accused_slot (size z) (no_sets (slots z)) (records z) (any_code z) t (finding (size z) (no_sets (slots z)) (labels z) (records z) (any_code z) stamps (any_sectors z) f t))

-- ---- what the program answers, by its tests: there is such a stripe, no slot is out, a stamp is left, and a shard is accused

module _ (z : Shelf) (img : List ℕ) (i : State) (t : ℕ) where
  abbrev pub seen : Image Sector
  seen = seen_of z (beyond (slots z) (in_mask i.absent)) img

  abbrev pub in_order : Bool
  in_order = every (λ d. not (in_mask i.now.out d)) (from 0 (slots z))

  abbrev pub stamp_remains : Bool
  stamp_remains = ltb (suc (own_of z i i.now).count) (suc i.epoch * counts)

  abbrev pub replies : Bool → Bool → Bool → Bool → Memory Sector × Reply Sector
  replies inside all left blamed =
      answer (size z) (no_sets (slots z)) (labels z) (records z) (any_code z) stamps (any_sectors z) (idle (own_of z i i.now))
      (also (size z) (no_sets (slots z)) (labels z) (records z) (any_code z) stamps (any_sectors z)
      (first (record { why = BAD_BLOCK; holds = not inside } ∷ record { why = BUSY; holds = false } ∷ record { why = NOT_NOW; holds = not all || not left } ∷ [])) (not blamed))
      (asked_repair (size z) (no_sets (slots z)) (labels z) (records z) (any_code z) stamps (any_sectors z) (own_of z i i.now) seen t) accepted

-- ---- a repair that is accepted

module _ (z : Shelf) (img : List ℕ) (disks : Disks z img) (i : State) (own : ours z i.now ≡ true) (t : ℕ) (work : List ℕ) (b : Begun) (after : List ℕ) (small : Bytes after)
    (w : Repairs i t img work b after) (done : outcome_of b ≡ Ok tt) where
  abbrev pub l : bytes.Label
  l = i.now

  abbrev pub n : ℕ
  n = slots z

  abbrev pub f : Image Sector
  f = seen_of z (beyond n (in_mask i.absent)) img

  abbrev pub W : Write Sector
  W = repair_asked z f t

  -- the slot that the program accuses
  abbrev pub D : ℕ
  D = accused_slot (size z) (no_sets n) (records z) (any_code z) t (finding (size z) (no_sets n) (labels z) (records z) (any_code z) stamps (any_sectors z) f t)

  -- ---- what the tests say

  pub may : may_repair l i.kind i.absent i.count t img ≡ Ok tt
  may = by (may_repair l i.kind i.absent i.count t img) refl
    where
      by : (o : Outcome) → may_repair l i.kind i.absent i.count t img ≡ o → o ≡ Ok tt
      by (Ok tt) e = refl
      by (Err why) e = absurd (never why (sym (asked_refused i t img work b after w why e) ∙ done))

  pub whole : Whole i t
  whole = may_whole i img t may

  pub in_T : t < stripes_of (geometry z)
  in_T = stripe_inside z i own t whole

  -- ---- the accused shard

  pub found_so : (r : ℕ) × (w.found ≡ verdict.Accused r) × (state_of i b ≡ mending i t r)
  found_so = repair_accuses i t img work b after w done

  abbrev pub r : ℕ
  r = found_so.0

  abbrev pub half : List ℕ
  half = take (stripe_bytes l) after

  -- with no slot out, and every strip of the stripe believed
  pub repair_whole : (t < stripes_of (geometry z)) × ((d : ℕ) → d < n → in_mask l.out d ≡ false) × ((d : ℕ) → d < n → Label.believed (size z) (label_of z l) d t ≡ true)
  repair_whole = (in_T, (λ d h. (none_missing_lem z i own t whole d h).0), all_believe z i own t whole)

  abbrev pub starts : State
  starts = mending i t r

-- ---- a repair that is refused

-- WHAT THE PROGRAM ANSWERS where the code refuses at rest, and why. The code alone looks at the labels on the disks (NO_LABEL) and at the size of
-- the work area (BAD_BUFFER); where too many slots are missing (TOO_FEW) the program refuses too, as it does for one. Two reasons are none at rest.
abbrev pub Refuses : Refusal → Shelf → List ℕ → State → ℕ → Type 0
Refuses why.BadImage z img i t = ⊥
Refuses why.NoLabel z img i t = Unit {0}
Refuses why.TooFew z img i t = (y : program.Refusal) × (program_of z (idle (own_of z i i.now)) (cur_of z img) (repair t) ≡ (idle (own_of z i i.now), refused y))
Refuses why.BadBlock z img i t = program_of z (idle (own_of z i i.now)) (cur_of z img) (repair t) ≡ (idle (own_of z i i.now), refused BAD_BLOCK)
Refuses why.Busy z img i t = ⊥
Refuses why.NotNow z img i t = program_of z (idle (own_of z i i.now)) (cur_of z img) (repair t) ≡ (idle (own_of z i i.now), refused NOT_NOW)
Refuses why.BadBuffer z img i t = Unit {0}

-- a verdict that accuses
abbrev pub accuses : Verdict → Bool
accuses (verdict.Accused r) = true
accuses verdict.Sound = false
accuses verdict.Unsound = false

module _ (z : Shelf) (img : List ℕ) (disks : Disks z img) (i : State) (own : ours z i.now ≡ true)
    (dark : (d : ℕ) → d < slots z → in_mask i.absent d ≡ true → Label.looked (size z) (label_of z i.now) d ≡ true → ⊥)
    (rest : is_idle i.kind ≡ true) (fits : fits_of i.now ≡ true) (t : ℕ) (work : List ℕ) (b : Begun) (after : List ℕ) (w : Repairs i t img work b after) where
  abbrev pub la : bytes.Label
  la = i.now

  abbrev pub num : ℕ
  num = slots z

  abbrev pub blamed : Bool
  blamed = blames (finding (size z) (no_sets num) (labels z) (records z) (any_code z) stamps (any_sectors z) (seen z img i t) t)

  abbrev pub P : Outcome → Type 0
  P (Ok tt) = Unit {0}
  P (Err x) = Refuses x z img i t

  -- ---- the code's side

  abbrev pub held : Bool
  held = all_of (holding (geometry_of la) img i.absent la) (la.k + la.m)

  abbrev pub sense : Bool
  sense = stamp_left i.count && none_missing la i.absent

  abbrev pub tests : Bool → Bool → Bool → Bool → Outcome
  tests h few inside s = requests.first (cond h (Ok tt) (Err why.NoLabel)) (cond few (Err why.TooFew) (cond inside (cond s (Ok tt) (Err why.NotNow)) (Err why.BadBlock)))

  abbrev pub asked : Outcome
  asked = may_repair la i.kind i.absent i.count t img
