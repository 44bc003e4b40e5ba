-- EXCHANGED DISKS, WITH k <= m: the machine of Exchange with the program of Even; what is asked of the world there, from one moment of rest to the next; and the promise. Among the sets of slots that
-- are left out (Since) there is then, for each accepted start-up, also the set of the slots that are absent or hold another disk than their last; but not where every slot has its last disk, nor where
-- start-up sees the newest label that there is on any disk.
use Rattle.std.specs.Prelude.{ℕ, ◌≡◌, Bool, false, cond, ◌||◌, ◌⊎◌, ◌≢◌}
use Rattle.std.proofs.Common.{inl, inr}
use Rattle.std.proofs.Math.Bool.{true}
use mathlib.Core.List.{List, [], ◌∷◌, ◌++◌}
use Rattle.protocol.specs.World.{Image, World, after, Possible}
use Rattle.protocol.specs.Log.{RecordCodec}
use Rattle.protocol.specs.Write.{both}
use Rattle.protocol.specs.Label.{Size, looked, Quorum, LabelCodec}
use Rattle.protocol.specs.Host.{Code}
use Rattle.protocol.specs.Program.{Stamps, Medium, Own, Memory, nothing, idle, doing, Input, create, start, read_block, write, take_out, begin, rebuild_on, scrub_stripe, repair, step, Reply, beyond, program}
use Rattle.protocol.specs.Machine.{Machine, at, effect, Event, cut, dies, swap, ask, View, Goes}
use Rattle.protocol.specs.Exchange.{Disks, Room, room, moved, noted, exchanged, with_disk, Newest}
use Rattle.protocol.specs.Apart.{AtHome}
use Rattle.protocol.specs.Exchanged.{Holds}
use Rattle.protocol.specs.Even.{is_accepted, program_by, leaves}
use Rattle.protocol.specs.Pairs.{Parts, AnyTwo, no_sets, within, Mends, code_of, medium_for}
use Rattle.protocol.specs.Since.{at_rest, settled_out}

-- the slots that count as absent for a request where nothing is known yet
abbrev pub absent_in : {X : Type 0} → ℕ → Input X → ℕ → Bool
absent_in n create = beyond n (λ d. false)
absent_in n (start A) = beyond n A
absent_in n (read_block t i) = beyond n (λ d. false)
absent_in n (write t ch) = beyond n (λ d. false)
absent_in n (take_out d) = beyond n (λ d. false)
absent_in n (begin d) = beyond n (λ d. false)
absent_in n (rebuild_on b) = beyond n (λ d. false)
absent_in n (scrub_stripe t) = beyond n (λ d. false)
absent_in n (repair t) = beyond n (λ d. false)
absent_in n step = beyond n (λ d. false)

-- they, and those that hold another disk than their last
abbrev pub missing : {X : Type 0} → ℕ → Input X → Disks X → ℕ → Bool
missing n i x d = absent_in n i d || moved x d

-- the room without the disks: a state of the machine in which none is exchanged
abbrev pub bays : {X : Type 0} → Room X → Machine X
bays (room w m x) = at w m

module _ {X : Type 0} (z : Size) (C : LabelCodec X z.n) (K : RecordCodec X) (E : Code X z.n K.c (no_sets z.n)) (S : Stamps) (R : Medium z (no_sets z.n) C K E S) (test : (ℕ → Bool) → Bool) where
  abbrev pub answers : Memory X → Image X → Input X → Memory X × Reply X
  answers = program_by z (no_sets z.n) C K E S R test

  -- Of a start-up, or create, it may be said that every slot has its last disk; or that no disk of the shelf, in a bay or not, has a newer label than the newest one that it sees.
  abbrev pub Told : World X → Memory X → Input X → Disks X → Type 0
  Told w nothing i x = Unit {0} ⊎ (AtHome z (no_sets z.n) C K E S R x ⊎ Newest z (no_sets z.n) C K E S R (absent_in z.n i) w x)
  Told w (idle o) i x = Unit {0}
  Told w (doing k l o o') i x = Unit {0}

  -- If neither is said, the set of the slots counts that are absent or hold another disk than their last.
  abbrev pub counted : (w : World X) (m : Memory X) (i : Input X) (x : Disks X) → Told w m i x → List (ℕ → Bool)
  counted w nothing i x (inl t) = missing z.n i x ∷ []
  counted w nothing i x (inr t) = []
  counted w (idle o) i x t = []
  counted w (doing k l o o') i x t = []

  -- what may happen, in the words of Exchange; nothing is asked of the world yet
  pub data BefallsBy : Room X → Event X → Room X → Type 1 where
    power_cut : {w : World X} {m : Memory X} {x : Disks X} (f : Image X) → Possible w f → BefallsBy (room w m x) cut (room (after f) nothing x)
    program_dies : {w : World X} {m : Memory X} {x : Disks X} → BefallsBy (room w m x) dies (room w nothing x)
    swapped_off : {w : World X} {x : Disks X} (d i : ℕ) (g : Image X) → x.made ≡ true → i ≢ x.inn d → Possible w g → BefallsBy (room w nothing x) swap (room (with_disk w d (x.stock i)) nothing (exchanged x d i g))
    swapped_on : {w : World X} {o : Own} {x : Disks X} (d i : ℕ) (g : Image X) → looked z o.now d ≡ false → i ≢ x.inn d → Possible w g → BefallsBy (room w (idle o) x) swap (room (with_disk w d (x.stock i)) (idle o) (noted (idle o) (exchanged x d i g)))
    from_host : {w : World X} {m : Memory X} {x : Disks X} (i : Input X) → Told w m i x → BefallsBy (room w m x) (ask i (answers m w.cur i).1) (room (effect w (answers m w.cur i).1) (answers m w.cur i).0 (noted (answers m w.cur i).0 x))

  pub data BefellBy : Room X → List (Event X) → Room X → Type 1 where
    stays : {r : Room X} → BefellBy r [] r
    goes : {r r' r'' : Room X} {e : Event X} {l : List (Event X)} → BefallsBy r e r' → BefellBy r' l r'' → BefellBy r (e ∷ l) r''

  -- the sets of slots that are left out by accepted start-ups and take-outs
  abbrev pub left_event : {r r' : Room X} {e : Event X} → BefallsBy r e r' → List (ℕ → Bool)
  left_event (power_cut f p) = []
  left_event program_dies = []
  left_event (swapped_off d i g a b p) = []
  left_event (swapped_on d i g a b p) = []
  left_event (from_host {w = w} {m = m} i t) = cond (is_accepted (answers m w.cur i).1) (leaves z (no_sets z.n) C K E S R test m w.cur i) []

  -- the set that counts besides, at an accepted start-up
  abbrev pub moved_event : {r r' : Room X} {e : Event X} → BefallsBy r e r' → List (ℕ → Bool)
  moved_event (power_cut f p) = []
  moved_event program_dies = []
  moved_event (swapped_off d i g a b p) = []
  moved_event (swapped_on d i g a b p) = []
  moved_event (from_host {w = w} {m = m} {x = x} i t) = cond (is_accepted (answers m w.cur i).1) (counted w m i x t) []

  -- all of them: of an event, of a history
  abbrev pub sets_event : {r r' : Room X} {e : Event X} → BefallsBy r e r' → List (ℕ → Bool)
  sets_event s = moved_event s ++ left_event s

  abbrev pub sets_all : {r r' : Room X} {l : List (Event X)} → BefellBy r l r' → List (ℕ → Bool)
  sets_all stays = []
  sets_all (goes s b) = sets_event s ++ sets_all b

  -- those from here up to the next moment of rest
  abbrev pub sets_ahead : {r r' : Room X} {l : List (Event X)} → BefellBy r l r' → List (ℕ → Bool)
  sets_ahead stays = []
  sets_ahead (goes {r' = r'} s b) = sets_event s ++ cond (at_rest (bays r')) [] (sets_ahead b)

  -- WHAT IS ASKED: at every moment of the history any two of them, with the set that the label calls out which is settled there, leave a slot out in common
  abbrev pub ExchangeSince : {r r' : Room X} {l : List (Event X)} → BefellBy r l r' → Type 0
  ExchangeSince stays = Unit {0}
  ExchangeSince (goes {r = r} s b) = AnyTwo z.n (settled_out (bays r) ++ sets_ahead (goes s b)) × ExchangeSince b

  -- ---- ONE EVENT, for a family F whose sets count as few where they pass the test
  module _ (ok : Mends test E) (part : Parts z.n test) (F : Quorum z.n) where
    abbrev pub W : Quorum z.n
    W = within test part F

    pub sub : (a : ℕ → Bool) → W.few a ≡ true → test a ≡ true
    sub a e = (both (test a) (F.few a) e).0

    abbrev pub E' : Code X z.n K.c W
    E' = code_of z C K E S R test ok W sub

    abbrev pub R' : Medium z W C K E' S
    R' = medium_for z C K E S R test ok W sub

    abbrev pub HoldsFor : Room X → View X → Type 0
    HoldsFor = Holds z W C K E' S R'

    abbrev pub does : Memory X → Image X → Input X → Memory X × Reply X
    does = program z W C K E' S R'

    abbrev pub GoesOn : Event X → View X → Room X → Type 0
    GoesOn e p r = (q : View X) × Goes K.c e p q × HoldsFor r q
