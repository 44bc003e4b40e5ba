-- THE PROMISE AT REAL SECTORS: what the protocol promises of its program, with any labels, records and code, is so with document 03's
-- labels, the log records' bytes and document 01's code, on sectors of 512 bytes, for every shelf within the limits that has more data
-- disks than parity disks (k > m). No law of these is left to be assumed; what is assumed of the world stands in the protocol's
-- `Outside`. Not said here: that code that runs is this program, or computes these blocks and findings. Assumes nothing.
use Rattle.std.specs.Prelude.{◌≡◌, refl, true, false, List, ℕ, ◌<◌}
use Rattle.protocol.specs.World.{Image, World, Action, strip, after, Sane, Always, sane_after, always_after}
use Rattle.protocol.specs.Label.{believed}
use Rattle.protocol.specs.Veil.{Rot}
use Rattle.protocol.specs.Rot.{RotRuns, RottenAt, Promised}
use Rattle.protocol.proofs.Rot as Rot
use Rattle.protocol.specs.Host.{Host, table}
use Rattle.protocol.specs.Program.{Medium, Own, Memory, nothing, idle, Input, did, program}
use Rattle.protocol.specs.Machine.{Machine, at, Event, Happens, Runs, View, sure, Goes, Views}
use Rattle.protocol.specs.Invariant.{Off, Invariant}
use Rattle.protocol.specs.Promise.{Zeros}
use Rattle.protocol.proofs.Promise as Promise
use Rattle.protocol.specs.Kept.{slot_of, away, Honest}
use Rattle.protocol.proofs.Kept as Kept
use Rattle.protocol.specs.Order.{Ordered}
use Rattle.protocol.proofs.Order as Order
use Rattle.codecs.specs.Sector.{Sector}
use Rattle.codecs.proofs.Sector.{zeros}
use Rattle.codecs.specs.Shelf.{Shelf, size}
use Rattle.codecs.proofs.Labels.{labels}
use Rattle.codecs.proofs.Records.{records}
use Rattle.codecs.specs.Media.{stamps}
use Rattle.codecs.proofs.Media.{medium}
use Rattle.shards.proofs.Quorum.{quorum, few_none}
use Rattle.shards.proofs.CodeLaws.{code, zeros_shard}

module _ (z : Shelf) (more : z.m < z.k) where
  -- the shelf's sectors as the protocol's medium
  unfoldable pub sectors : Medium (size z) (quorum z more) (labels z) (records z) (code z more) stamps
  sectors = medium z (quorum z more) (code z more) (zeros_shard z more)

  -- the protocol's words, of this shelf: disks of zeros; what happens to a machine, once and many times; what always holds of it
  abbrev pub ZerosOf : Image Sector → Type 0
  ZerosOf = Zeros (size z) (quorum z more) (labels z) (records z) (code z more) stamps sectors

  abbrev pub HappensTo : Machine Sector → Event Sector → Machine Sector → Type 1
  HappensTo = Happens (size z) (quorum z more) (labels z) (records z) (code z more) stamps sectors

  abbrev pub RunsOf : Machine Sector → List (Event Sector) → Machine Sector → Type 1
  RunsOf = Runs (size z) (quorum z more) (labels z) (records z) (code z more) stamps sectors

  abbrev pub Keeps : Machine Sector → View Sector → Type 0
  Keeps = Invariant (size z) (quorum z more) (labels z) (records z) (code z more) stamps sectors

  -- EACH EVENT: the host's view goes on as it is allowed to
  pub simulate : {a b : Machine Sector} {e : Event Sector} → HappensTo a e b → (p : View Sector) → Keeps a p → (q : View Sector) × Goes z.c e p q × Keeps b q
  simulate = Promise.simulate (size z) (quorum z more) (labels z) (records z) (code z more) stamps sectors

  -- ANY SEQUENCE OF EVENTS
  pub promise : {a b : Machine Sector} {l : List (Event Sector)} → RunsOf a l b → (p : View Sector) → Keeps a p → (q : View Sector) × Views z.c p l q × Keeps b q
  promise = Promise.promise (size z) (quorum z more) (labels z) (records z) (code z more) stamps sectors

  -- FROM ZEROS ON: whatever happens, in any order and as often as it likes, the host's view goes on as it is allowed to, from blocks of zeros
  pub promised : (w : World Sector) → Sane w → Always w ZerosOf → {a : Machine Sector} {l : List (Event Sector)} → RunsOf (at w nothing) l a → (p : View Sector) × Views z.c (sure (λ t i j. zeros)) l p × Keeps a p
  promised w sane h = Kept.promised (size z) (quorum z more) (labels z) (records z) (code z more) stamps sectors w sane (few_none z) h

  -- so on new disks, which hold zeros and have nothing in their caches
  pub fresh : {a : Machine Sector} {l : List (Event Sector)} → RunsOf (at (after (λ p. zeros)) nothing) l a → (p : View Sector) × Views z.c (sure (λ t i j. zeros)) l p × Keeps a p
  fresh =
      promised (after (λ p. zeros)) (sane_after (λ p. zeros))
      (always_after ZerosOf (λ p. zeros) (record { labels = λ d b i. refl; logs = λ d j i l. refl; strips = λ d t j i h l. refl }))

  -- the same on disks that writes reach in the order in which they were issued (document 03, section 4)
  pub in_order : (f : Image Sector) → ZerosOf f → {l : List (Event Sector)} {g : Image Sector} {a : Memory Sector} → Ordered (size z) (quorum z more) (labels z) (records z) (code z more) stamps sectors f nothing l g a
      → (w : World Sector) × (w.cur ≡ g) × (p : View Sector) × Views z.c (sure (λ t i j. zeros)) l p × Keeps (at w a) p
  in_order f h = Order.in_order (size z) (quorum z more) (labels z) (records z) (code z more) stamps sectors f (few_none z) h

  -- READY: each believed sector is what the host's list asks for, whatever a cut leaves, and so when another slot is lost
  pub sound : (v : Host Sector) (w : World Sector) (o : Own) → Keeps (at w (idle o)) (sure v)
      → Always w (λ f. (d t j : ℕ) → believed (size z) o.now d t ≡ true → j < z.c → f (strip d t j) ≡ (code z more).shard t (v t) d j)
  unfolding table
  sound = Kept.sound (size z) (quorum z more) (labels z) (records z) (code z more) stamps sectors

  -- NO LABEL LIES
  pub honest : (v : Host Sector) (w : World Sector) → Off (size z) (quorum z more) (labels z) (records z) (code z more) stamps sectors (sure v) w
      → Always w (Honest (size z) (quorum z more) (labels z) (records z) (code z more) stamps sectors v)
  honest = Kept.honest (size z) (quorum z more) (labels z) (records z) (code z more) stamps sectors

  -- ABSENT SLOTS ARE NOT TOUCHED
  pub untouched : (w : World Sector) (a : Memory Sector) (p : View Sector) (i : Input Sector) (x : Action Sector) → Keeps (at w a) p
      → (program (size z) (quorum z more) (labels z) (records z) (code z more) stamps sectors a w.cur i).1 ≡ did x → away (size z) (quorum z more) (labels z) (records z) (code z more) stamps sectors a (slot_of x) ≡ false
  untouched = Kept.untouched (size z) (quorum z more) (labels z) (records z) (code z more) stamps sectors

  -- WHILE STRIPS ROT, at most one of a stripe: see the protocol's Rot for what is promised of each answer
  abbrev pub RotRunsOf : Rot → Machine Sector → Rot → Machine Sector → Type 1
  RotRunsOf = RotRuns (size z) (quorum z more) (labels z) (records z) (code z more) stamps sectors

  pub rot_promise : {rot rot' : Rot} {a b : Machine Sector} (r : RotRunsOf rot a rot' b) (p : View Sector) → RottenAt (size z) (quorum z more) (labels z) (records z) (code z more) stamps sectors rot a p → Promised (size z) (quorum z more) (labels z) (records z) (code z more) stamps sectors r p
  rot_promise = Rot.rot_promise (size z) (quorum z more) (labels z) (records z) (code z more) stamps sectors
