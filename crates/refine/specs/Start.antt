-- START-UP, as the plan has it: the protocol's whole list of actions, with the plan's masks and labels in the place of what the
-- protocol reads: flush all; three rounds; what those that adopt are given first; the round for them; the log part. Assumes nothing.
use Rattle.std.specs.Prelude.{◌≡◌, refl, false, ◌||◌}
use Rattle.std.proofs.Common.{ap₂, arith}
use Rattle.std.proofs.Math.Bool.{Bool, cond, not}
use mathlib.Core.List.{List, [], ◌∷◌, ◌++◌, Memᴰ}
use Prim.Native.Nat.{ℕ, suc, ◌+◌, ◌<◌}
use Rattle.disk.specs.Mask.{in_mask}
use Rattle.label.specs.declared.fields.Label as bytes
use Rattle.rounds.specs.Slot.{takes_part, adopts, gets_zeros, gets_label}
use Rattle.rounds.specs.Survey.{slots_that}
use Rattle.protocol.specs.World.{label, log, strip, slot, Image, Action}
use Rattle.protocol.specs.Batch.{puts, flushes}
use Rattle.protocol.specs.Slots.{from, of_from, keep, slots, rows}
use Rattle.protocol.specs.Label.{Label, again, belief}
use Rattle.protocol.specs.Log.{Belief}
use Rattle.protocol.specs.Write.{stored}
use Rattle.protocol.specs.Startup.{M}
use Rattle.protocol.specs.Redo.{redone, redo}
use Rattle.codecs.specs.Sector.{Sector}
use Rattle.codecs.proofs.Sector.{zeros}
use Rattle.codecs.specs.Shelf.{Shelf, geometry, size}
use Rattle.codecs.specs.Shelf as Shelf
use Rattle.codecs.specs.Labels.{label_of, side_of}
use Rattle.codecs.proofs.Labels.{encode_label, labels}
use Rattle.codecs.proofs.Records.{records}
use Rattle.refine.specs.Disks.{seen_of}
use Rattle.refine.specs.Labels.{Led}

-- ---- lists that go by the same slots, and puts of the same values

keep_same : (p q : ℕ → Bool) (l : List ℕ) → ((d : ℕ) → Memᴰ d l → p d ≡ q d) → keep p l ≡ keep q l
keep_same p q [] h = refl
keep_same p q (d ∷ l) h = ap₂ (λ (b : Bool) (x : List ℕ). cond b (d ∷ x) x) (h d (Memᴰ.head refl)) (keep_same p q l (λ e m. h e (Memᴰ.tail m)))

pub slots_same : (n : ℕ) (p q : ℕ → Bool) → ((d : ℕ) → d < n → p d ≡ q d) → slots n p ≡ slots n q
unfolding slots
slots_same n p q h = keep_same p q (from 0 n) (λ d m. h d (omega (arith, of_from n 0 d m)))

-- ---- the stages of start-up

module _ (z : Shelf) where
  -- a label to each slot of a mask, zeros to those of another; then a flush of each. (A round gives zeros to none.)
  abbrev pub giving : (slots_in zeroed : ℕ → Bool) → Label → List (Action Sector)
  giving slots_in zeroed l =
      puts (λ k. cond (zeroed (slot k)) zeros (encode_label z (slot k) l)) (rows (λ d j. label d (side_of l.generation)) (0 ∷ []) (slots (Shelf.slots z) slots_in))
      ++ flushes (slots (Shelf.slots z) slots_in)

module _ (z : Shelf) (img : List ℕ) (absent : ℕ) (A : ℕ → Bool) (l : bytes.Label) (led : Led z img absent A l) where
  abbrev pub f0 : Image Sector
  f0 = seen_of z A img

  -- M + 1
  abbrev pub after : ℕ
  after = suc (M (size z) (labels z) A f0)

  -- the plan's masks, and who is given something before it adopts
  abbrev pub parts_in : ℕ → Bool
  parts_in = in_mask (slots_that (geometry z) img absent takes_part l)

  abbrev pub late_in : ℕ → Bool
  late_in = in_mask (slots_that (geometry z) img absent adopts l)

  abbrev pub zeroed_in : ℕ → Bool
  zeroed_in = in_mask (slots_that (geometry z) img absent gets_zeros l)

  abbrev pub prep_in : ℕ → Bool
  prep_in d = zeroed_in d || in_mask (slots_that (geometry z) img absent gets_label l) d

  -- ---- ALL OF IT

  abbrev pub planned : bytes.Label → bytes.Label → List (Action Sector)
  planned now new =
      flushes (slots (Shelf.slots z) (λ d. not (in_mask absent d)))
      ++ ((giving z parts_in (λ d. false) (label_of z now)
      ++ (giving z parts_in (λ d. false) (again (label_of z now) (now.generation + 1))
      ++ (giving z parts_in (λ d. false) (label_of z new)
      ++ (giving z prep_in zeroed_in (again (label_of z new) (now.generation + 1)) ++ giving z late_in (λ d. false) (label_of z new)))))
      ++ redo (records z) (belief (size z) (label_of z new)) f0)

-- ---- the log part: each slot of a mask gets its strip back from its record, or loses its tail; then a flush of each

module _ (z : Shelf) (f : Image Sector) where
  abbrev pub restoring : (slots_in : ℕ → Bool) → ℕ → Belief → List (Action Sector)
  restoring slots_in t B =
      puts (stored (records z) (redone (records z) B f)) (rows (λ d j. strip d t j) (from 0 z.c) (slots (Shelf.slots z) slots_in)) ++ flushes (slots (Shelf.slots z) slots_in)

  abbrev pub wiping : (slots_in : ℕ → Bool) → List (Action Sector)
  wiping slots_in = puts (λ k. zeros) (rows (λ d j. log d z.c) (0 ∷ []) (slots (Shelf.slots z) slots_in)) ++ flushes (slots (Shelf.slots z) slots_in)
