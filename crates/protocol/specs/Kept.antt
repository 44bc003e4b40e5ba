-- WHAT FOLLOWS from the promise: the whole history of a shelf from zeros on; what every sector holds; what labels may say; which slots are touched.
use Prim.Native.Nat.{ℕ, suc, ◌≤◌, ◌<◌}
use Rattle.std.specs.Prelude.{◌≡◌, Bool, false, ◌⊎◌}
use Rattle.std.proofs.Math.Bool.{true}
use Rattle.protocol.specs.World.{Place, label, log, strip, slot, Image, World, Action, put, flush, Always}
use Rattle.protocol.specs.Log.{Write, RecordCodec, Wrote, Complete}
use Rattle.protocol.specs.Label.{Label, Size, looked, believed, Quorum, LabelCodec, copy, Aged}
use Rattle.protocol.specs.Spare.{Spares}
use Rattle.protocol.specs.Host.{Host, Code, table}
use Rattle.protocol.specs.Program.{Stamps, Medium, Own, Kind, creating, starting, logging, storing, labelling, Memory, nothing, idle, doing, Reply, accepted, refused, did, safe, done, block, found}
use Rattle.protocol.specs.Machine.{View, sure, open_write, kept_write}

-- the slot that an action touches
abbrev pub slot_of : {X : Type 0} → Action X → ℕ
slot_of (put k x) = slot k
slot_of (flush d) = d

abbrev pub is_label : Place → Bool
is_label (label d b) = true
is_label (log d j) = false
is_label (strip d t j) = false

module _ {X : Type 0} (z : Size) (W : Quorum z.n) (C : LabelCodec X z.n) (K : RecordCodec X) (E : Code X z.n K.c W) (S : Stamps) (R : Medium z W C K E S) where
  -- WHAT A BELIEVED STRIP IS, while a write may be under way.

  -- strip t of slot d is what the list v wants
  abbrev pub Wanted : Host X → Image X → ℕ → ℕ → Type 0
  Wanted v f d t = (j : ℕ) → j < K.c → f (strip d t j) ≡ table z W K E v t d j

  -- slot d's log holds strip t of the list v, whole: all its sectors have the stamp u, its tail tells the stripe t, and each sector of the strip comes back from it
  pub record Logged (v : Host X) (u : ℕ) (f : Image X) (d t : ℕ) : Type 0 where
    pub complete : Complete K f d u
    pub stripe : K.stripe_of (f (log d K.c)) ≡ t
    pub back : (j : ℕ) → j < K.c → K.piece (f (log d K.c)) (f (log d j)) j ≡ table z W K E v t d j

  -- under the label l the write x, with the stamp u, is WHOLE IN THE LOG AND THE LAST ONE THERE: every slot whose strip l believes and x changes has its record complete with u; no log sector of a
  -- slot that l looks at has a greater stamp; each tail with the stamp u is the one of x, which tells its stripe and its slots; and u is no stamp of an epoch after l. So a start-up under l carries x
  -- forward (`carried_forward`).
  pub record Carried (l : Label) (x : Write X) (u : ℕ) (f : Image X) : Type 0 where
    pub some : 0 < u
    pub full : (e : ℕ) → believed z l e x.stripe ≡ true → x.changes e ≡ true → Complete K f e u
    pub last : (e j : ℕ) → looked z l e ≡ true → j ≤ K.c → K.stamp (f (log e j)) ≤ u
    pub told : (e : ℕ) → looked z l e ≡ true → K.stamp (f (log e K.c)) ≡ u → (f (log e K.c) ≡ K.sector u x e K.c) × (x.changes e ≡ true) × K.Fits u x
    pub early : u < S.base (suc l.generation)

  -- it is one of the strips that the write x changes, the new one is in the slot's log, and under the label l that believes the strip x is whole there and the last one
  abbrev pub InLog : Label → Host X → Write X → ℕ → Image X → ℕ → ℕ → Type 0
  InLog l v' x u f d t = (t ≡ x.stripe) × (x.changes d ≡ true) × Logged v' u f d t × Carried l x u f

  -- with the view p, x the write under way and u its stamp: what the list wants (the old one until the write is safe, then the new one); but a strip that the write changes may hold anything
  -- once the write is whole in the log, with the last stamp there, as far as the label l believes it: then a start-up under l writes the new strip from it
  abbrev pub StripTrue : Label → View X → Write X → ℕ → Image X → ℕ → ℕ → Type 0
  StripTrue l (sure v) x u f d t = Wanted v f d t
  StripTrue l (open_write v v') x u f d t = Wanted v f d t ⊎ InLog l v' x u f d t
  StripTrue l (kept_write v') x u f d t = Wanted v' f d t ⊎ InLog l v' x u f d t

  -- x is the write under way: it turns the one list into the other, and no strip but those that it changes is another by the new list
  abbrev pub Between : View X → Write X → Type 0
  Between (sure v) x = Unit {0}
  Between (open_write v v') x = Wrote z.n K.c x (table z W K E v) (table z W K E v')
  Between (kept_write v') x = (v : Host X) × Wrote z.n K.c x (table z W K E v) (table z W K E v')

  -- NO LABEL LIES, at any moment. Of whatever a cut leaves there is a settled generation q, which every disk has that is not called out by it; and of each label of generation q
  -- or newer, on any disk, present or not, few slots are called out, and each strip that it believes (of healthy slots, and below the mark) is true, with one write under way at most, and one stamp.
  pub record Truthful (p : View X) (f : Image X) : Type 0 where
    pub q : ℕ
    pub out : ℕ → Bool
    pub few_out : W.few out ≡ true
    pub everyone : (d : ℕ) → d < z.n → out d ≡ false → Aged C f d q
    pub few : (d : ℕ) (b : Bool) → d < z.n → 0 < (copy C f d b).generation → q ≤ (copy C f d b).generation → W.few (copy C f d b).out ≡ true
    pub written : Write X
    pub stamp : ℕ
    pub between : Between p written
    pub right : (d : ℕ) (b : Bool) → d < z.n → 0 < (copy C f d b).generation → q ≤ (copy C f d b).generation → (e t : ℕ) → believed z (copy C f d b) e t ≡ true → StripTrue (copy C f d b) p written stamp f e t

  -- while no write is under way: it believes only sectors that are what the list wants
  pub record Honest (v : Host X) (f : Image X) : Type 0 where
    pub q : ℕ
    pub out : ℕ → Bool
    pub few_out : W.few out ≡ true
    pub everyone : (d : ℕ) → d < z.n → out d ≡ false → Aged C f d q
    pub few : (d : ℕ) (b : Bool) → d < z.n → 0 < (copy C f d b).generation → q ≤ (copy C f d b).generation → W.few (copy C f d b).out ≡ true
    pub right : (d : ℕ) (b : Bool) → d < z.n → 0 < (copy C f d b).generation → q ≤ (copy C f d b).generation → (e t j : ℕ) → believed z (copy C f d b) e t ≡ true → j < K.c → f (strip e t j) ≡ table z W K E v t e j

  -- THE PROGRAM'S OWN LABEL IS TRUE, at rest (`sound`) and while a request is under way that began at rest: every one but create and start-up, which have none of their own
  abbrev pub FromRest : Kind X → Type 0
  FromRest creating = ⊥
  FromRest starting = ⊥
  FromRest (logging x) = Unit {0}
  FromRest (storing x) = Unit {0}
  FromRest labelling = Unit {0}

  pub record OwnTrue (p : View X) (w : World X) (o : Own) : Type 0 where
    pub written : Write X
    pub stamp : ℕ
    pub between : Between p written
    pub right : Always w (λ f. (e t : ℕ) → believed z o.now e t ≡ true → StripTrue o.now p written stamp f e t)

  -- ABSENT SLOTS ARE NOT TOUCHED
  abbrev pub is_did : Reply X → Bool
  is_did accepted = false
  is_did (refused why) = false
  is_did (did a) = true
  is_did safe = false
  is_did (done k) = false
  is_did (block b) = false
  is_did (found x) = false

  abbrev pub did_slot : Reply X → ℕ
  did_slot accepted = 0
  did_slot (refused why) = 0
  did_slot (did a) = slot_of a
  did_slot safe = 0
  did_slot (done k) = 0
  did_slot (block b) = 0
  did_slot (found x) = 0

  -- the slots that count as absent for the request under way (one that begins to be rebuilt no longer does)
  abbrev pub away : Memory X → ℕ → Bool
  away nothing d = true
  away (idle o) d = o.absent d
  away (doing k l o o') d = o'.absent d

  -- the actions that are left spare them
  abbrev pub Sparing : Memory X → Type 0
  Sparing nothing = Unit {0}
  Sparing (idle o) = Unit {0}
  Sparing (doing k l o o') = Spares o'.absent l

  -- BEFORE THE LOG IS DECIDED START-UP PUTS LABEL SECTORS ONLY (named wrong answer 5)
  abbrev pub Labelled : Place → Type 0
  Labelled k = is_label k ≡ true

  abbrev pub Any : ℕ → Type 0
  Any d = Unit {0}
