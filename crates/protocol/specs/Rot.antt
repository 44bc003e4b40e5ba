-- THE PROMISE WHILE STRIPS ROT: sectors of a strip change by themselves, of at most one strip of a stripe, while nothing is being written there. The disks are compared with clean ones
-- (Veil), which satisfy the old invariant; a repair is on these a refresh (Refresh). So the host's list goes on as it is allowed to (`rot_promise`), reads of blocks that are fine
-- give its entries, and the acknowledgement of a repair, or of a write into a rotten stripe, ends the rot there. Assumes nothing.
use Prim.Native.Nat.{ℕ, suc, ◌≤◌, ◌<◌}
use Rattle.std.specs.Prelude.{◌≡◌, Bool, ◌⊎◌, ◌≢◌}
use Rattle.std.proofs.Math.Path.{refl, fun_ext}
use Rattle.std.proofs.Math.Bool.{true, false}
use mathlib.Core.List.{List, ◌++◌}
use Rattle.protocol.specs.World.{Place, label, log, strip, Image, World, Action, run, after, Possible, Sane, Always, During}
use Rattle.protocol.specs.Log.{Write, RecordCodec}
use Rattle.protocol.specs.Write.{store}
use Rattle.protocol.specs.Label.{Label, Size, looked, believed, belief, Quorum, LabelCodec}
use Rattle.protocol.specs.Decide.{Rest}
use Rattle.protocol.specs.Swap.{Swapped}
use Rattle.protocol.specs.Host.{Host, Blocks, Finding, blames, all_sound, accused, Change, changed, replace, Code, table, strips_of, mend, repair_of, missing}
use Rattle.protocol.specs.Program.{Stamps, Medium, clear, Own, Kind, creating, starting, logging, storing, labelling, Memory, nothing, idle, doing, Input, create, start, read_block, write, take_out, begin, rebuild_on, scrub_stripe, repair, step, Reply, accepted, refused, did, safe, done, block, found, new_label, Proper, mask, all_in, finding, may, program}
use Rattle.protocol.specs.Machine.{Machine, at, effect, Event, cut, dies, swap, ask, View, sure, open_write, kept_write, list_of, Ended}
use Rattle.protocol.specs.Invariant.{Dark, Invariant}
use Rattle.protocol.specs.Refresh.{Stored}
use Rattle.protocol.specs.Veil.{Rot, OneEach, spread, mended, Agree, Veiled, Decayed}

module _ {X : Type 0} (z : Size) (W : Quorum z.n) (C : LabelCodec X z.n) (K : RecordCodec X) (E : Code X z.n K.c W) (S : Stamps) (R : Medium z W C K E S) where
  -- WHAT THE PROGRAM LOOKS AT. Start-up and begin look at labels and log sectors alone
  abbrev pub bones : Image X → Image X
  bones f (label d b) = f (label d b)
  bones f (log d j) = f (log d j)
  bones f (strip d t j) = K.zeros

  module _ (rot : Rot) (f g : Image X) (same : Agree K.c rot f g) where
    pub same_bones : bones f ≡ bones g
    same_bones = fun_ext (λ k. go k)
      where
        go : (k : Place) → bones f k ≡ bones g k
        go (label d b) = same (label d b) refl
        go (log d j) = same (log d j) refl
        go (strip d t j) = refl

  -- THE HOST'S VIEW. What is promised of each answer while the strips rot
  -- the same list, as far as it goes
  abbrev pub Listed : Host X → Host X → Type 0
  Listed a b = (t i j : ℕ) → t < z.T → i < E.k → j < K.c → a t i j ≡ b t i j

  -- block i of stripe t: nothing of the stripe is rotten, or its own slot is believed there and its strip is not
  abbrev pub Fine : Rot → Label → ℕ → ℕ → Type 0
  Fine rot Q t i = ((d : ℕ) → rot d t ≡ false) ⊎ ((believed z Q (E.lies t i) t ≡ true) × (rot (E.lies t i) t ≡ false))

  -- a write replaces its entry, also in a rotten stripe; a repair leaves the list as it is
  abbrev pub RotAccepts : Input X → View X → View X → Type 0
  RotAccepts create p p' = p' ≡ p
  RotAccepts (start A) p p' = p' ≡ p
  RotAccepts (read_block t i) p p' = p' ≡ p
  RotAccepts (write t ch) (sure v) p' = (v' : Host X) × (p' ≡ open_write v v') × Listed v' (replace v t ch)
  RotAccepts (write t ch) (open_write v v') p' = ⊥
  RotAccepts (write t ch) (kept_write v') p' = ⊥
  RotAccepts (take_out d) p p' = p' ≡ p
  RotAccepts (begin d) p p' = p' ≡ p
  RotAccepts (rebuild_on b) p p' = p' ≡ p
  RotAccepts (scrub_stripe t) p p' = p' ≡ p
  RotAccepts (repair t) p p' = p' ≡ p
  RotAccepts step p p' = p' ≡ p

  abbrev pub RotSaved : View X → View X → Type 0
  RotSaved (sure v) p' = p' ≡ sure v
  RotSaved (open_write v v') p' = p' ≡ kept_write v'
  RotSaved (kept_write v') p' = ⊥

  abbrev pub RotEnded : Kind X → View X → View X → Type 0
  RotEnded creating p p' = Ended creating p p'
  RotEnded starting p p' = Ended starting p p'
  RotEnded (logging w) p p' = ⊥
  RotEnded (storing w) (sure v) p' = p' ≡ sure v
  RotEnded (storing w) (open_write v v') p' = ⊥
  RotEnded (storing w) (kept_write v') p' = p' ≡ sure v'
  RotEnded labelling p p' = Ended labelling p p'

  -- a read gives the list's entry, if the block is fine
  abbrev pub RotGives : Rot → Label → (ℕ → X) → Input X → View X → View X → Type 0
  RotGives rot Q b create p p' = ⊥
  RotGives rot Q b (start A) p p' = ⊥
  RotGives rot Q b (read_block t i) p p' = (p' ≡ p) × ((j : ℕ) → j < K.c → Fine rot Q t i → b j ≡ list_of p t i j)
  RotGives rot Q b (write t ch) p p' = ⊥
  RotGives rot Q b (take_out d) p p' = ⊥
  RotGives rot Q b (begin d) p p' = ⊥
  RotGives rot Q b (rebuild_on x) p p' = ⊥
  RotGives rot Q b (scrub_stripe t) p p' = ⊥
  RotGives rot Q b (repair t) p p' = ⊥
  RotGives rot Q b step p p' = ⊥

  -- a scrub finds a stripe sound in which nothing is rotten
  abbrev pub RotFinds : Rot → Finding → Input X → Type 0
  RotFinds rot x create = x ≡ all_sound
  RotFinds rot x (start A) = x ≡ all_sound
  RotFinds rot x (read_block t i) = x ≡ all_sound
  RotFinds rot x (write t ch) = x ≡ all_sound
  RotFinds rot x (take_out d) = x ≡ all_sound
  RotFinds rot x (begin d) = x ≡ all_sound
  RotFinds rot x (rebuild_on b) = x ≡ all_sound
  RotFinds rot x (scrub_stripe t) = ((d : ℕ) → rot d t ≡ false) → x ≡ all_sound
  RotFinds rot x (repair t) = x ≡ all_sound
  RotFinds rot x step = x ≡ all_sound

  abbrev pub RotAnswered : Rot → Label → Input X → Reply X → View X → View X → Type 0
  RotAnswered rot Q i accepted p p' = RotAccepts i p p'
  RotAnswered rot Q i (refused why) p p' = p' ≡ p
  RotAnswered rot Q i (did a) p p' = p' ≡ p
  RotAnswered rot Q i safe p p' = RotSaved p p'
  RotAnswered rot Q i (done k) p p' = RotEnded k p p'
  RotAnswered rot Q i (block b) p p' = RotGives rot Q b i p p'
  RotAnswered rot Q i (found x) p p' = (p' ≡ p) × RotFinds rot x i

  -- THE INVARIANT
  -- a repair under way, on the clean disks: a refresh. l: what is left of its log and strips
  pub record Mending (v : Host X) (wr : Write X) (c : World X) (l : List (Action X)) (o o' : Own) : Type 0 where
    pub sane : Sane c
    pub history : ℕ → Write X
    pub u : ℕ
    pub used : u ≤ o'.count
    pub stamped : u ≡ o'.count
    pub last : history u ≡ wr
    pub early : o'.count < S.base (suc o'.epoch)
    pub born : 0 < o'.epoch
    pub epoch_now : o'.epoch ≤ o'.now.generation
    pub sound : Proper z o'.now
    pub most : o'.now.generation ≤ R.greatest
    pub dark : Dark z W C K E S R o'
    pub same_now : o.now ≡ o'.now
    pub same_absent : o.absent ≡ o'.absent
    pub during : During c l (Rest z W C K history u o'.now (table z W K E v))
    pub right : (d j : ℕ) → wr.changes d ≡ true → j < K.c → wr.new d j ≡ table z W K E v wr.stripe d j

  -- the strips of a write
  abbrev pub stores_of : Own → Write X → List (Action X)
  stores_of o wr = store K (belief z o.now) wr.stripe wr.changes wr.new

  abbrev pub StoredBy : Own → Write X → Image X → Type 0
  StoredBy o wr = Stored K (belief z o.now) wr.stripe wr.changes wr.new

  -- the old invariant of the clean disks; a write that leaves the list sure is a repair
  abbrev pub Holds : Memory X → View X → World X → Type 0
  Holds nothing p c = Invariant z W C K E S R (at c nothing) p
  Holds (idle o) p c = Invariant z W C K E S R (at c (idle o)) p
  Holds (doing creating l o o') p c = Invariant z W C K E S R (at c (doing creating l o o')) p
  Holds (doing starting l o o') p c = Invariant z W C K E S R (at c (doing starting l o o')) p
  Holds (doing (logging wr) l o o') (sure v) c = Mending v wr c (l ++ stores_of o wr) o o'
  Holds (doing (logging wr) l o o') (open_write v v') c = Invariant z W C K E S R (at c (doing (logging wr) l o o')) (open_write v v')
  Holds (doing (logging wr) l o o') (kept_write v') c = Invariant z W C K E S R (at c (doing (logging wr) l o o')) (kept_write v')
  Holds (doing (storing wr) l o o') (sure v) c = Mending v wr c l o o'
  Holds (doing (storing wr) l o o') (open_write v v') c = Invariant z W C K E S R (at c (doing (storing wr) l o o')) (open_write v v')
  Holds (doing (storing wr) l o o') (kept_write v') c = Invariant z W C K E S R (at c (doing (storing wr) l o o')) (kept_write v')
  Holds (doing labelling l o o') p c = Invariant z W C K E S R (at c (doing labelling l o o')) p

  -- while strips are stored: at the end they will be there, on the disks and on the clean ones
  abbrev pub Stores : Memory X → World X → World X → Type 0
  Stores nothing w c = Unit {0}
  Stores (idle o) w c = Unit {0}
  Stores (doing creating l o o') w c = Unit {0}
  Stores (doing starting l o o') w c = Unit {0}
  Stores (doing (logging wr) l o o') w c = Unit {0}
  Stores (doing (storing wr) l o o') w c = Always (run w l) (StoredBy o wr) × Always (run c l) (StoredBy o wr)
  Stores (doing labelling l o o') w c = Unit {0}

  -- THE DISKS, with the rotten strips rot: there are clean disks from which they differ in these alone, and the clean ones are as ever
  pub record Rotten (rot : Rot) (w : World X) (m : Memory X) (p : View X) : Type 1 where
    pub clean : World X
    pub veil : Veiled K.c rot w clean
    pub one : OneEach rot
    pub stores : Stores m w clean
    pub holds : Holds m p clean

  -- the strips that are rotten after an answer: the acknowledgement of a write or of a repair takes its strips out
  abbrev pub if_done : Reply X → Rot → Rot → Rot
  if_done accepted a b = a
  if_done (refused why) a b = a
  if_done (did x) a b = a
  if_done safe a b = a
  if_done (done k) a b = b
  if_done (block x) a b = a
  if_done (found x) a b = a

  abbrev pub rot_after : Rot → Memory X → Reply X → Rot
  rot_after rot nothing r = rot
  rot_after rot (idle o) r = rot
  rot_after rot (doing creating l o o') r = rot
  rot_after rot (doing starting l o o') r = rot
  rot_after rot (doing (logging wr) l o o') r = rot
  rot_after rot (doing (storing wr) l o o') r = if_done r rot (mended rot (belief z o.now) wr.stripe wr.changes)
  rot_after rot (doing labelling l o o') r = rot

  -- the label that reads go by
  abbrev pub label_of : Memory X → Label
  label_of nothing = new_label z.n 0
  label_of (idle o) = o.now
  label_of (doing k l o o') = o.now

  -- what follows an answer
  pub record Follows (rot : Rot) (w : World X) (m : Memory X) (i : Input X) (p : View X) (x : Memory X × Reply X) : Type 1 where
    pub view : View X
    pub told : RotAnswered rot (label_of m) i x.1 p view
    pub rests : Rotten (rot_after rot m x.1) (effect w x.1) x.0 view

  module _ (rot : Rot) (w : World X) (o : Own) (v : Host X) (h : Rotten rot w (idle o) (sure v)) (none : (d : ℕ) → d < z.n → o.now.out d ≡ false) (t : ℕ) (in_t : t < z.T) where
    abbrev pub seen : Image X
    seen = mask z W C K E S R o.absent w.cur

    abbrev pub seen_c : Image X
    seen_c = mask z W C K E S R o.absent h.clean.cur

    module _ (r : ℕ) (acc : finding z W C K E S R seen t ≡ accused r) where
      -- REPAIR: on the clean disks a refresh
      abbrev pub wr : Write X
      wr = repair_of z W K E seen t (E.lies t r)

      abbrev pub σ : ℕ
      σ = suc o.count

      abbrev pub o' : Own
      o' = record { now = o.now; absent = o.absent; epoch = o.epoch; count = suc o.count }

      -- A WRITE INTO IT: the whole stripe, with what the list has
      abbrev pub whole_of : Change X → Blocks X
      whole_of ch = changed ch (E.blocks t (missing z W K E o.now t) (mend z W K E t (finding z W C K E S R seen t) (strips_of z W K E seen t)))

  -- WHAT IS LEFT OUT of the promise while strips are rotten: create, rebuild on, and a write into a rotten stripe with something out or nobody accused
  abbrev pub Allowed : Rot → Memory X → Image X → Input X → Type 0
  Allowed rot nothing f create = (d t : ℕ) → rot d t ≡ false
  Allowed rot nothing f (start A) = Unit {0}
  Allowed rot nothing f (read_block t i) = Unit {0}
  Allowed rot nothing f (write t ch) = Unit {0}
  Allowed rot nothing f (take_out d) = Unit {0}
  Allowed rot nothing f (begin d) = Unit {0}
  Allowed rot nothing f (rebuild_on b) = Unit {0}
  Allowed rot nothing f (scrub_stripe t) = Unit {0}
  Allowed rot nothing f (repair t) = Unit {0}
  Allowed rot nothing f step = Unit {0}
  Allowed rot (idle o) f create = Unit {0}
  Allowed rot (idle o) f (start A) = Unit {0}
  Allowed rot (idle o) f (read_block t i) = Unit {0}
  Allowed rot (idle o) f (write t ch) = ((d : ℕ) → rot d t ≡ false) ⊎ ((all_in z W C K E S R o ≡ true) × (blames (finding z W C K E S R (mask z W C K E S R o.absent f) t) ≡ true))
  Allowed rot (idle o) f (take_out d) = Unit {0}
  Allowed rot (idle o) f (begin d) = Unit {0}
  Allowed rot (idle o) f (rebuild_on b) = (d t : ℕ) → rot d t ≡ false
  Allowed rot (idle o) f (scrub_stripe t) = Unit {0}
  Allowed rot (idle o) f (repair t) = Unit {0}
  Allowed rot (idle o) f step = Unit {0}
  Allowed rot (doing k l o o') f i = Unit {0}

  -- UNDER WAY
  unfoldable pub ends_it : Reply X → Bool
  ends_it accepted = false
  ends_it (refused why) = false
  ends_it (did a) = false
  ends_it safe = false
  ends_it (done k) = true
  ends_it (block b) = false
  ends_it (found x) = false

  -- a read meanwhile
  module _ (rot : Rot) (w : World X) (l : List (Action X)) (o o' : Own) (t i : ℕ) (e : may z W C K E S R true o (read_block t i) ≡ clear) where
    abbrev pub seen_w : Image X
    seen_w = mask z W C K E S R o.absent w.cur

  -- a scrub meanwhile
  module _ (rot : Rot) (w : World X) (l : List (Action X)) (o o' : Own) (t : ℕ) (e : may z W C K E S R true o (scrub_stripe t) ≡ clear) where
    abbrev pub strips_w : ℕ → ℕ → X
    strips_w d j = mask z W C K E S R o.absent w.cur (strip d t j)

    module _ (c : World X) (veil : Veiled K.c rot w c) where
      abbrev pub strips_c : ℕ → ℕ → X
      strips_c d j = mask z W C K E S R o.absent c.cur (strip d t j)

  -- A STRIP ROTS: one in which nothing is being written, of a stripe in which no other is rotten
  abbrev pub Still : Memory X → ℕ → Type 0
  Still nothing t = Unit {0}
  Still (idle o) t = Unit {0}
  Still (doing creating l o o') t = Unit {0}
  Still (doing starting l o o') t = Unit {0}
  Still (doing (logging wr) l o o') t = wr.stripe ≢ t
  Still (doing (storing wr) l o o') t = wr.stripe ≢ t
  Still (doing labelling l o o') t = Unit {0}

  -- THE MACHINE WITH ROT, and the rotten strips beside it
  pub data RotHappens : Rot → Machine X → Event X → Rot → Machine X → Type 1 where
    cut_off : {rot : Rot} {w : World X} {m : Memory X} (f : Image X) → Possible w f → RotHappens rot (at w m) cut rot (at (after f) nothing)
    died : {rot : Rot} {w : World X} {m : Memory X} → RotHappens rot (at w m) dies rot (at w nothing)
    swapped : {rot : Rot} {w w' : World X} {o : Own} (d : ℕ) → looked z o.now d ≡ false → Swapped C d o.now.generation w w' → RotHappens rot (at w (idle o)) swap rot (at w' (idle o))
    asked : {rot : Rot} {w : World X} {m : Memory X} (i : Input X) → Allowed rot m w.cur i → RotHappens rot (at w m) (ask i (program z W C K E S R m w.cur i).1) (rot_after rot m (program z W C K E S R m w.cur i).1) (at (effect w (program z W C K E S R m w.cur i).1) (program z W C K E S R m w.cur i).0)

  pub data RotRuns : Rot → Machine X → Rot → Machine X → Type 1 where
    stays : {rot : Rot} {m : Machine X} → RotRuns rot m rot m
    goes : {rot rot' rot'' : Rot} {m m' m'' : Machine X} {e : Event X} → RotHappens rot m e rot' m' → RotRuns rot' m' rot'' m'' → RotRuns rot m rot'' m''
    decays : {rot rot'' : Rot} {w w' : World X} {m : Memory X} {m'' : Machine X} (d t : ℕ) → Decayed K.c d t w w' → ((e : ℕ) → rot e t ≡ true → e ≡ d) → Still m t → RotRuns (spread rot d t) (at w' m) rot'' m'' → RotRuns rot (at w m) rot'' m''

  abbrev pub RottenAt : Rot → Machine X → View X → Type 1
  RottenAt rot (at w m) p = Rotten rot w m p

  -- how an event may change the view
  abbrev pub RotGoes : {rot rot' : Rot} {m m' : Machine X} {e : Event X} → RotHappens rot m e rot' m' → View X → View X → Type 0
  RotGoes (cut_off f q) p p' = p' ≡ p
  RotGoes died p p' = p' ≡ p
  RotGoes (swapped d a s) p p' = p' ≡ p
  RotGoes (asked {rot = rot} {w = w} {m = m} i a) p p' = RotAnswered rot (label_of m) i (program z W C K E S R m w.cur i).1 p p'

  abbrev pub RotViews : {rot rot' : Rot} {m m' : Machine X} → RotRuns rot m rot' m' → View X → View X → Type 0
  RotViews stays p q = q ≡ p
  RotViews (goes s r) p q = (p' : View X) × RotGoes s p p' × RotViews r p' q
  RotViews (decays d t a b c r) p q = RotViews r p q

  pub record Onward {rot rot' : Rot} {m m' : Machine X} {e : Event X} (s : RotHappens rot m e rot' m') (p : View X) : Type 1 where
    pub view : View X
    pub told : RotGoes s p view
    pub rests : RottenAt rot' m' view

  pub record Promised {rot rot' : Rot} {m m' : Machine X} (r : RotRuns rot m rot' m') (p : View X) : Type 1 where
    pub view : View X
    pub told : RotViews r p view
    pub rests : RottenAt rot' m' view

  -- it begins with any shelf that is ready, or off, as ever
  abbrev pub no_rot : Rot
  no_rot d t = false
