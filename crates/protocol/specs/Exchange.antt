-- THE MACHINE WITH EXCHANGED DISKS. Every slot has any number of disks, told apart by names (numbers). One of them is in the slot's bay; the others lie around, without power. While
-- no program runs, and for a slot that is not looked at even while one does, the disk in the bay may be exchanged for any other disk of that slot: an older one that was taken out at any
-- time before, or a strange one; and the one taken out may come back at any later time, as it was.
use Rattle.std.specs.Prelude.{ℕ, ◌≤◌, ◌<◌, ◌≡◌, Bool, true, false, cond, not, ◌&&◌, ◌||◌, ◌⊎◌, ◌≢◌, List, [], ◌∷◌, eqb}
use Rattle.protocol.specs.World.{slot, Image, World, after, Possible}
use Rattle.protocol.specs.Log.{RecordCodec}
use Rattle.protocol.specs.Label.{Size, looked, Quorum, LabelCodec, copy}
use Rattle.protocol.specs.Startup.{M}
use Rattle.protocol.specs.Host.{Code}
use Rattle.protocol.specs.Program.{Stamps, Medium, Own, Memory, nothing, idle, doing, Input, Reply, accepted, unseen, program}
use Rattle.protocol.specs.Machine.{effect, Event, cut, dies, swap, ask}

-- inn d: the disk in the bay of slot d. stock i: what the disks named i hold, where they lie around (place k is on disk i of slot k).
-- home d: the disk that was in the bay of slot d when the program was last ready: the slot's LAST DISK. made: the program was ready once.
pub record Disks (X : Type 0) : Type 0 where
  pub inn : ℕ → ℕ
  pub stock : ℕ → Image X
  pub home : ℕ → ℕ
  pub made : Bool

-- the bays, with their caches; what the program remembers; the disks
pub data Room (X : Type 0) : Type 1 where
  room : World X → Memory X → Disks X → Room X

module _ {X : Type 0} where
  -- slot d's bay holds another disk than its last
  abbrev pub moved : Disks X → ℕ → Bool
  moved x d = not (eqb (x.inn d) (x.home d))

  -- when the program is ready, the disks in the bays are the last ones
  abbrev pub noted : Memory X → Disks X → Disks X
  noted nothing x = x
  noted (idle o) x = record { inn = x.inn; stock = x.stock; home = x.inn; made = true }
  noted (doing k l o o') x = x

  -- disk i of slot d goes into its bay, and the one that was there is put aside: it holds g, of what its cache allowed
  abbrev pub exchanged : Disks X → ℕ → ℕ → Image X → Disks X
  exchanged x d i g =
      record {
        inn = λ e. cond (eqb e d) i (x.inn e);
        stock = λ j k. cond (eqb (slot k) d && eqb j (x.inn d)) (g k) (x.stock j k);
        home = x.home;
        made = x.made;
      }

  -- what is then in the bays: that disk has nothing cached, the others are as they were
  abbrev pub with_disk : World X → ℕ → Image X → World X
  with_disk w d s =
      record {
        cur = λ k. cond (eqb (slot k) d) (s k) (w.cur k);
        may = λ k y. (slot k ≡ d → y ≡ s k) × (slot k ≢ d → w.may k y);
      }

  -- all disks of all slots, with f in the bays
  unfoldable pub pile : Disks X → Image X → ℕ → Image X
  pile x f i k = cond (eqb i (x.inn (slot k))) (f k) (x.stock i k)

-- strange disks, that no program of this shelf wrote to: they hold no label of it
pub record Strange {X : Type 0} (z : Size) (C : LabelCodec X z.n) (x : Disks X) : Type 0 where
  pub at_home : (d : ℕ) → d < z.n → x.inn d ≡ x.home d
  pub unlabelled : (d i : ℕ) (b : Bool) → d < z.n → i ≢ x.inn d → (copy C (x.stock i) d b).generation ≡ 0

module _ {X : Type 0} (z : Size) (W : Quorum z.n) (C : LabelCodec X z.n) (K : RecordCodec X) (E : Code X z.n K.c W) (S : Stamps) (R : Medium z W C K E S) where
  -- ALL THAT IS ASKED OF THE WORLD, at a start-up that is not refused (and at a create: there it says that the bays of a shelf do not all look empty).
  -- Either: if the absent slots are few (at most m), they are few together with those that hold another disk than their last. (A start-up that is not refused has few
  -- absent ones, so with no disk exchanged nothing is asked. Slots that are out do not count.)
  abbrev pub Familiar : (ℕ → Bool) → Disks X → Type 0
  Familiar absent x = W.few absent ≡ true → W.few (λ d. absent d || moved x d) ≡ true

  -- Or: no disk of the shelf, in a bay or not, has a newer label than the newest one that start-up sees. (So one of the last disks may be enough.)
  abbrev pub Newest : (ℕ → Bool) → World X → Disks X → Type 0
  Newest absent w x = (f : Image X) → Possible w f → (d i : ℕ) (b : Bool) → d < z.n → (copy C (pile x f i) d b).generation ≤ M z C absent w.cur

  abbrev pub Asked : World X → Memory X → Input X → Reply X → Disks X → Type 0
  Asked w nothing i r x = r ≡ accepted → Familiar (unseen z W C K E S R nothing i) x ⊎ Newest (unseen z W C K E S R nothing i) w x
  Asked w (idle o) i r x = Unit {0}
  Asked w (doing k l o o') i r x = Unit {0}

  -- what may happen
  pub data Befalls : Room X → Event X → Room X → Type 1 where
    -- power is lost at any moment: each sector then holds something that its cache allows, each by itself; all that the program knew is lost
    power_cut : {w : World X} {m : Memory X} {x : Disks X} (f : Image X) → Possible w f → Befalls (room w m x) cut (room (after f) nothing x)
    -- the program dies and the disks stay as they are, caches and all
    program_dies : {w : World X} {m : Memory X} {x : Disks X} → Befalls (room w m x) dies (room w nothing x)
    -- no program runs: any disk may be exchanged (once the shelf is made)
    swapped_off : {w : World X} {x : Disks X} (d i : ℕ) (g : Image X) → x.made ≡ true → i ≢ x.inn d → Possible w g → Befalls (room w nothing x) swap (room (with_disk w d (x.stock i)) nothing (exchanged x d i g))
    -- the program is ready: the disk of a slot may be exchanged that is not looked at, being out or absent
    swapped_on : {w : World X} {o : Own} {x : Disks X} (d i : ℕ) (g : Image X) → looked z o.now d ≡ false → i ≢ x.inn d → Possible w g → Befalls (room w (idle o) x) swap (room (with_disk w d (x.stock i)) (idle o) (noted (idle o) (exchanged x d i g)))
    -- the host asks something, in any state, and the program answers
    from_host : {w : World X} {m : Memory X} {x : Disks X} (i : Input X) → Asked w m i (program z W C K E S R m w.cur i).1 x → Befalls (room w m x) (ask i (program z W C K E S R m w.cur i).1) (room (effect w (program z W C K E S R m w.cur i).1) (program z W C K E S R m w.cur i).0 (noted (program z W C K E S R m w.cur i).0 x))

  -- any sequence of events
  pub data Befell : Room X → List (Event X) → Room X → Type 1 where
    stays : {r : Room X} → Befell r [] r
    goes : {r r' r'' : Room X} {e : Event X} {l : List (Event X)} → Befalls r e r' → Befell r' l r'' → Befell r (e ∷ l) r''
