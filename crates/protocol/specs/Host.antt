-- The host's view: a list of blocks. What is asked of the code that spreads a stripe's blocks over the slots; read, and the strips of a write and of a rebuild, computed from what is believed.
use Prim.Native.Nat.{ℕ, ◌<◌}
use Rattle.std.specs.Prelude.{◌≡◌, Bool, not, ◌&&◌, ◌⊎◌, ◌≢◌, ltb}
use Rattle.std.proofs.Math.Bool.{true, false, cond}
use Rattle.std.proofs.Math.Dec.{eqb}
use Rattle.protocol.specs.World.{strip, Image}
use Rattle.protocol.specs.Log.{Write, RecordCodec, Table}
use Rattle.protocol.specs.Label.{Label, Size, believed, Quorum}

-- the blocks of one stripe: block, sector
abbrev pub Blocks : Type 0 → Type 0
Blocks X = ℕ → ℕ → X

-- the host's list: stripe, block of the stripe, sector. (Block b of document 03 is block b mod k of stripe b / k.)
abbrev pub Host : Type 0 → Type 0
Host X = ℕ → Blocks X

module _ {X : Type 0} where
  -- one block of a stripe replaced
  unfoldable pub set_block : Blocks X → ℕ → (ℕ → X) → Blocks X
  set_block b i x = λ i'. cond (eqb i' i) x (b i')

-- what a write changes in its stripe: one block, or all of them
pub data Change (X : Type 0) : Type 0 where
  one_block : ℕ → (ℕ → X) → Change X
  all_blocks : Blocks X → Change X

module _ {X : Type 0} where
  abbrev pub changed : Change X → Blocks X → Blocks X
  changed (one_block i x) b = set_block b i x
  changed (all_blocks x) b = x

  -- the host's list with that change in stripe t
  unfoldable pub replace : Host X → ℕ → Change X → Host X
  replace v t ch = λ t'. cond (eqb t' t) (changed ch (v t)) (v t')

-- what a scrub finds in a stripe: all equations hold; one shard is to blame; more than one
pub data Finding : Type 0 where
  all_sound : Finding
  accused : ℕ → Finding
  several : Finding

-- somebody is accused; the equations do not hold
abbrev pub blames : Finding → Bool
blames all_sound = false
blames (accused r) = true
blames several = false

abbrev pub unsound : Finding → Bool
unsound all_sound = false
unsound (accused r) = true
unsound several = true

-- k blocks give n strips; few strips may be missing and the blocks come back; a block reaches the strips `touched`, and no others, and never few slots alone
-- (shard t b d: the strip of slot d in stripe t for the blocks b. blocks t bad g: the blocks from the strips g of the slots that are not bad.)
-- A scrub accuses a shard: lies t r is the slot where shard r of stripe t lies; block i is shard i, and reads as that strip while its slot is not bad. mended t g d: the
-- strip of slot d, from the other strips. Where all strips but that of d are those of some blocks, nobody else is accused, and mended is the strip of these blocks.
-- sharp: the code can tell whom to blame (m >= 2). Then the stripe is sound and the strip of d is right too, or somebody is accused.
pub record Code (X : Type 0) (n c : ℕ) (W : Quorum n) : Type 0 where
  pub k : ℕ
  pub shard : ℕ → Blocks X → ℕ → ℕ → X
  pub blocks : ℕ → (ℕ → Bool) → (ℕ → ℕ → X) → Blocks X
  pub touched : ℕ → ℕ → ℕ → Bool
  pub touched_n : (t i d : ℕ) → touched t i d ≡ true → d < n
  pub back : (t : ℕ) (bad : ℕ → Bool) (b : Blocks X) (g : ℕ → ℕ → X) → W.few bad ≡ true → ((d j : ℕ) → d < n → bad d ≡ false → j < c → g d j ≡ shard t b d j) → (i j : ℕ) → i < k → j < c → blocks t bad g i j ≡ b i j
  pub shard_same : (t : ℕ) (a b : Blocks X) → ((i j : ℕ) → i < k → j < c → a i j ≡ b i j) → (d j : ℕ) → d < n → j < c → shard t a d j ≡ shard t b d j
  pub keeps : (t i : ℕ) (b : Blocks X) (x : ℕ → X) (d j : ℕ) → touched t i d ≡ false → shard t b d j ≡ shard t (set_block b i x) d j
  pub scrub : ℕ → (ℕ → ℕ → X) → Finding
  pub scrub_sound : (t : ℕ) (b : Blocks X) (g : ℕ → ℕ → X) → ((d j : ℕ) → d < n → j < c → g d j ≡ shard t b d j) → scrub t g ≡ all_sound
  pub broad : (t i : ℕ) → i < k → (a : ℕ → Bool) → W.few a ≡ true → (d : ℕ) × (d < n) × (a d ≡ false) × (touched t i d ≡ true)
  pub lies : ℕ → ℕ → ℕ
  pub mended : ℕ → (ℕ → ℕ → X) → ℕ → ℕ → X
  pub at_home : (t : ℕ) (bad : ℕ → Bool) (g : ℕ → ℕ → X) (i j : ℕ) → i < k → bad (lies t i) ≡ false → blocks t bad g i j ≡ g (lies t i) j
  pub mends : (t d : ℕ) (b : Blocks X) (g : ℕ → ℕ → X) → d < n → ((e j : ℕ) → e < n → e ≢ d → j < c → g e j ≡ shard t b e j) → (j : ℕ) → j < c → mended t g d j ≡ shard t b d j
  pub accuses_it : (t d r : ℕ) (b : Blocks X) (g : ℕ → ℕ → X) → d < n → ((e j : ℕ) → e < n → e ≢ d → j < c → g e j ≡ shard t b e j) → scrub t g ≡ accused r → lies t r ≡ d
  pub sharp : Bool
  pub tells : sharp ≡ true → (t d : ℕ) (b : Blocks X) (g : ℕ → ℕ → X) → d < n → ((e j : ℕ) → e < n → e ≢ d → j < c → g e j ≡ shard t b e j) → ((j : ℕ) → j < c → g d j ≡ shard t b d j) ⊎ ((r : ℕ) × (scrub t g ≡ accused r))

module _ {X : Type 0} (z : Size) (W : Quorum z.n) (K : RecordCodec X) (E : Code X z.n K.c W) where
  -- the strips that a list asks for
  unfoldable pub table : Host X → Table X
  table v t d j = E.shard t (v t) d j

  -- the program: what it computes from what it reads, f, under the label Q
  abbrev pub missing : Label → ℕ → ℕ → Bool
  missing Q t d = not (believed z Q d t)

  unfoldable pub read : Label → Image X → ℕ → Blocks X
  read Q f t = E.blocks t (missing Q t) (λ d j. f (strip d t j))

  -- the block is one of the stripe's
  abbrev pub proper : Change X → Bool
  proper (one_block i x) = ltb i E.k
  proper (all_blocks b) = true

  -- the slots whose shard may change
  abbrev pub reached : ℕ → Change X → ℕ → Bool
  reached t (one_block i x) d = E.touched t i d
  reached t (all_blocks b) d = ltb d z.n

  unfoldable pub write_of : Label → Image X → ℕ → Change X → Write X
  write_of Q f t ch = record { stripe = t; changes = reached t ch; new = E.shard t (changed ch (read Q f t)) }

  -- the strips of stripe t as they are read
  abbrev pub strips_of : Image X → ℕ → ℕ → ℕ → X
  strips_of f t d j = f (strip d t j)

  -- REPAIR of the strip of slot d: a write that changes this one
  unfoldable pub repair_of : Image X → ℕ → ℕ → Write X
  repair_of f t d = record { stripe = t; changes = λ e. eqb e d; new = E.mended t (strips_of f t) }

  -- the slot of the accused shard
  abbrev pub accused_slot : ℕ → Finding → ℕ
  accused_slot t all_sound = 0
  accused_slot t (accused r) = E.lies t r
  accused_slot t several = 0

  -- the strips with the accused one mended
  abbrev pub mend : ℕ → Finding → (ℕ → ℕ → X) → ℕ → ℕ → X
  mend t all_sound g d = g d
  mend t (accused r) g d = cond (eqb d (E.lies t r)) (E.mended t g d) (g d)
  mend t several g d = g d

  -- WHAT IS WRITTEN INTO A STRIPE whose shards are all believed and contradict each other (rot): all its blocks, with the accused shard mended first
  unfoldable pub whole_change : Label → Image X → ℕ → Change X → Change X
  whole_change Q f t ch = all_blocks (changed ch (E.blocks t (missing Q t) (mend t (E.scrub t (strips_of f t)) (strips_of f t))))

  unfoldable pub rebuilt : Label → Image X → ℕ → ℕ → ℕ → X
  rebuilt Q f d t j = E.shard t (read Q f t) d j

  -- Once the log is flushed the shards that the write changes are taken from the work area, and a read gives the new list's entry.
  unfoldable pub read_through : Write X → Label → Image X → ℕ → Blocks X
  read_through w Q f t = E.blocks t (missing Q t) (λ d j. cond (eqb t w.stripe && w.changes d) (w.new d j) (f (strip d t j)))
