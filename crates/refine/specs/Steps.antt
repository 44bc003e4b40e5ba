-- A STEP IS THE NEXT ACTION. What the shelf's step does to a state in order is the first of what is left to do, as the
-- protocol counts it, and the others are left; where nothing is left, the request is done. Assumes nothing.
use Rattle.std.proofs.Math.Path.{◌≡◌}
use Rattle.std.proofs.Math.Bool.{true, false}
use mathlib.Core.List.{List, [], ◌∷◌}
use Prim.Native.Nat.{ℕ, suc, ◌+◌, ◌-◌, ◌≤◌, ◌<◌, ◌/◌, ◌%◌, ◌^◌}
use Rattle.disk.specs.Geometry.{stripes_of}
use Rattle.disk.specs.Image.{put_sector}
use Rattle.disk.specs.Mask.{in_mask}
use Rattle.disk.specs.declared.geometry.Geometry.{Geometry}
use Rattle.label.specs.Fields.{fits_of}
use Rattle.label.specs.declared.fields.Label as bytes
use Rattle.protocol.specs.World.{Place, slot, Image, update, Action, put, flush}
use Rattle.protocol.specs.Batch.{puts}
use Rattle.protocol.specs.Write.{logged}
use Rattle.codecs.specs.Sector.{Sector}
use Rattle.codecs.specs.Shelf.{Shelf, slots, geometry}
use Rattle.codecs.specs.Labels.{ours}
use Rattle.codecs.specs.Records.{counts, stamp_number}
use Rattle.codecs.proofs.Records.{records}
use Rattle.stages.specs.Limits.{most_stages}
use Rattle.stages.specs.State.{moved}
use Rattle.stages.specs.Stage.{stage_at, stage_of}
use Rattle.shelf.specs.Act.{Move, onward, named}
use Rattle.shelf.specs.Step.{seek, is_end, finished, on_stage, sound}
use Rattle.shelf.specs.Bound.{width_of}
use Rattle.stages.specs.declared.state.State.{State}
use Rattle.stages.specs.Told as answer
use Rattle.stages.specs.declared.stage.Stage.{Stage}
use Rattle.stages.specs.declared.stage.Stage.TheVariants.{Flush, Give, Wipe, Restore, Log, Store, Clear, Erase, Fill, End}
use Rattle.refine.specs.Places.{sector_of, inside}
use Rattle.refine.specs.Disks.{Disks, cur_of}
use Rattle.refine.specs.Keeps.{kept_write, Works}
use Rattle.refine.specs.Fills.{Fillable}
use Rattle.refine.specs.ToDo.{slots_from, told_at, rows_from, stamp_in, Under, under_of, acts_of, left_of, to_do, Next}

-- ---- a state in order

-- the slots of the mask are present
abbrev pub Present : Shelf → ℕ → ℕ → Type 0
Present z absent mask = (d : ℕ) → d < slots z → in_mask mask d ≡ true → in_mask absent d ≡ false

-- a label of this shelf that can be told to each slot
pub record Tells (z : Shelf) (l : bytes.Label) : Type 0 where
  pub same : ours z l ≡ true
  pub fit : (d : ℕ) → d < slots z → fits_of (named l d) ≡ true

-- the stripe is one of the shelf's, where any slot of the mask is
abbrev pub Striped : Shelf → ℕ → ℕ → Type 0
Striped z mask t = (d : ℕ) → d < slots z → in_mask mask d ≡ true → t < stripes_of (geometry z)

-- what a stage asks of its slots, its label, its stripe, its stamp and the work area
abbrev pub Can : Shelf → ℕ → Under → List ℕ → Stage → Type 0
Can z absent a work (Flush mask) = Present z absent mask
Can z absent a work (Give mask zeroed l) = Present z absent mask × Tells z l
Can z absent a work (Wipe mask) = Present z absent mask
Can z absent a work (Restore mask t) = Present z absent mask × Striped z mask t
Can z absent a work (Log mask t shards) = Present z absent mask × Striped z mask t × (shards < 2 ^ slots z) × (a.stamp.count < counts) × Works z work
Can z absent a work (Store mask t) = Present z absent mask × Striped z mask t × Works z work
Can z absent a work (Clear mask) = Present z absent mask
Can z absent a work (Erase mask odd) = Present z absent mask
Can z absent a work (Fill mask first count) = Present z absent mask × Fillable z absent a.now work mask first count
Can z absent a work End = Unit {0}

-- sector j is one of those that a stage does on a slot
abbrev pub Narrow : ℕ → Stage → ℕ → Type 0
Narrow c x j = is_end x ≡ false → j < width_of x c

-- a request is under way on an image of this shelf, and every stage of it from the cursor on can be carried out
pub record Fair (z : Shelf) (s : State) (work img : List ℕ) : Type 0 where
  pub in_range_lem : sound s ≡ true
  pub ours_now : ours z s.now ≡ true
  pub disks : Disks z img
  pub narrow : Narrow z.c (stage_of s) s.cursor.sector
  pub stages : (i : ℕ) → s.cursor.stage ≤ i → Can z s.absent (under_of s) work (stage_at s.kind s i)

-- ---- what a step is to be, for a list of what is left

-- the cursor alone has moved
abbrev pub Moved : State → State → Type 0
Moved s t = t ≡ moved s t.cursor.stage t.cursor.slot t.cursor.sector

module _ (z : Shelf) (work img : List ℕ) where
  -- stage i is the first from the cursor on that has an action left
  pub record At (s : State) (i : ℕ) : Type 0 where
    pub on : s.cursor.stage ≤ i
    pub passed : (k : ℕ) → s.cursor.stage + k ≤ i → left_of z work (cur_of z img) k s ≡ []
    pub begun : (k : ℕ) → i < s.cursor.stage + k → left_of z work (cur_of z img) k s ≡ [] → ⊥

  -- a put of v in place k, with l left
  pub record Puts (s : State) (m : Move) (k : Place) (v : Sector) (l : List (Action Sector)) : Type 0 where
    pub state : State
    pub kept : Moved s state
    pub at : At s state.cursor.stage
    pub here : inside z k ≡ true
    pub is : m ≡ record { stepped = record { state = state; answer = answer.Put (slot k) (sector_of z k) }; image = put_sector z.sectors img (slot k) (sector_of z k) v.bytes }
    pub becomes : cur_of z (put_sector z.sectors img (slot k) (sector_of z k) v.bytes) ≡ update (cur_of z img) k v
    pub rest : to_do z state work (put_sector z.sectors img (slot k) (sector_of z k) v.bytes) ≡ l
    pub fair : Fair z state work (put_sector z.sectors img (slot k) (sector_of z k) v.bytes)

  -- a flush of slot d, with l left
  pub record Flushes (s : State) (m : Move) (d : ℕ) (l : List (Action Sector)) : Type 0 where
    pub state : State
    pub kept : Moved s state
    pub at : At s state.cursor.stage
    pub is : m ≡ record { stepped = record { state = state; answer = answer.Flush d }; image = img }
    pub rest : to_do z state work img ≡ l
    pub fair : Fair z state work img

  -- nothing is left: the request is done
  abbrev pub Does : State → Move → List (Action Sector) → Type 0
  Does s m [] = m ≡ finished s img
  Does s m (put k v ∷ l) = Puts s m k v l
  Does s m (flush d ∷ l) = Flushes s m d l

-- ---- it stays in order

module _ (z : Shelf) (s : State) (work img : List ℕ) (fair : Fair z s work img) where
  abbrev pub G : Geometry
  G = geometry z

  -- ---- what each stage does to its next slot

  module _ (k : ℕ) (enough : most_stages ≤ suc (s.cursor.stage + 1 + k)) (more : is_end (stage_of s) ≡ false) where
    abbrev pub F : Image Sector
    F = cur_of z img

    -- what comes after this stage
    abbrev pub R : List (Action Sector)
    R = left_of z work F k (on_stage s)

    -- the slot that a mask has next
    abbrev pub D : ℕ → ℕ
    D mask = seek mask (slots z - s.cursor.slot) s.cursor.slot

    abbrev pub Has : ℕ → Type 0
    Has mask = Next mask (slots z) (slots_from (slots z) mask s.cursor.slot) (D mask)

    module _ (mask zeroed : ℕ) (l : bytes.Label) (e : stage_of s ≡ Give mask zeroed l) (h : Has mask) where
      abbrev pub here_label : Place
      here_label = told_at l (D mask) 0

    -- a stage that puts w sectors on each slot
    module _ (x : Stage) (e : stage_of s ≡ x) (mask : ℕ) (h : Has mask) (mk : ℕ → ℕ → Place) (w : ℕ) (value : Place → Sector)
        (acts : (d j : ℕ) → acts_of z (under_of s) work F x d j ≡ puts value (rows_from mk w j (slots_from (slots z) mask d))) (wide : w ≤ width_of x z.c) (low : s.cursor.sector < w) (at_stage : (d count : ℕ) → At z work img s (onward s d count).cursor.stage) where
      abbrev pub here_row : Place
      here_row = mk (D mask) s.cursor.sector

      -- the sectors behind this one, and those of the slots behind this one
      abbrev pub L : List Place
      L = rows_from mk w (s.cursor.sector + 1) (D mask ∷ slots_from (slots z) mask (D mask + 1))

    module _ (mask t shards : ℕ) (e : stage_of s ≡ Log mask t shards) (h : Has mask) where
      abbrev pub logs : Place → Sector
      logs = logged (records z) (stamp_number (stamp_in s)) (kept_write z work t shards)

    module _ (mask first count : ℕ) (e : stage_of s ≡ Fill mask first count) (h : Has mask) where
      -- the stripe, and the sector of its strip
      abbrev pub t_fill : ℕ
      t_fill = first + s.cursor.sector / z.c

      abbrev pub j_fill : ℕ
      j_fill = s.cursor.sector % z.c
