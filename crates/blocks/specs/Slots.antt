-- Which slots are missing, and which strips of a stripe are there. Assumes nothing.
use Rattle.std.specs.Prelude.{◌≡◌, refl, Bool, true, false, cond, not, ◌&&◌, ◌||◌, List, [], ◌∷◌, ◌++◌, ℕ, zero, suc, ◌+◌, ◌≤◌, ◌<◌, leb, ltb, eqb, length}
use Rattle.std.proofs.Common.{ap, ap₂, arith}
use Rattle.std.specs.Int.Count.{ones}
use Rattle.disk.specs.Geometry.{slot_of, shard_of, slot_lt}
use Rattle.disk.specs.Mask.{in_mask, mask_of, mask_below}
use Rattle.disk.specs.declared.geometry.Geometry.{Geometry}
use Rattle.label.specs.declared.fields.Label.{Label}
use Rattle.position.specs.Position.{ascending}
use Rattle.redo.specs.Decide.{believed}
use Rattle.strips.specs.Seen.{lost_of}
use Rattle.strips.specs.Whole.{none_lost}

-- slot d is out or absent
unfoldable pub missing_at : ℕ → ℕ → ℕ → Bool
missing_at out absent d = in_mask out d || in_mask absent d

-- the slots that are out or absent
unfoldable pub missing : Label → ℕ → ℕ
missing l absent = mask_of (missing_at l.out absent) (l.k + l.m)

-- more than m of them
unfoldable pub too_few : Label → ℕ → Bool
too_few l absent = ltb l.m (ones (missing l absent))

-- none of them
unfoldable pub none_missing : Label → ℕ → Bool
none_missing l absent = eqb (missing l absent) 0

-- all slots below n
unfoldable pub all_slots : ℕ → ℕ
all_slots n = mask_of (λ d. true) n

-- slot d's strip of stripe t is believed, and the slot is not absent
unfoldable pub there_at : Geometry → Label → ℕ → ℕ → ℕ → Bool
there_at g l absent t d = believed g l d t && not (in_mask absent d)

-- the slots of which this holds
unfoldable pub there : Geometry → Label → ℕ → ℕ → ℕ
there g l absent t = mask_of (there_at g l absent t) g.n

-- ---- what a write changes

-- a write of block i of a stripe changes shard r: all shards, or the block and the parity
unfoldable pub changes_at : ℕ → ℕ → Bool → ℕ → Bool
changes_at k i all r = all || (eqb r i || leb k r)

-- the shards that it changes
unfoldable pub changed_shards : ℕ → ℕ → ℕ → Bool → ℕ
changed_shards n k i all = mask_of (changes_at k i all) n

-- slot d's strip of stripe t is there, and its shard is one that changes
unfoldable pub changed_at : ℕ → ℕ → ℕ → ℕ → ℕ → Bool
changed_at n t there parts d = in_mask there d && in_mask parts (shard_of n t d)

-- the slots of which this holds
unfoldable pub changed_slots : ℕ → ℕ → ℕ → ℕ → ℕ
changed_slots n t there parts = mask_of (changed_at n t there parts) n

-- ---- with all slots there, no shard of a stripe is lost

none_of : (p : ℕ → Bool) (n : ℕ) → ((r : ℕ) → r < n → p r ≡ false) → ascending p n ≡ []
unfolding ascending
none_of p zero h = refl
none_of p (suc n) h = ap₂ (λ (x : List ℕ) (b : Bool). x ++ cond b (n ∷ []) []) (none_of p n (λ r l. h r (omega arith))) (h n (omega arith))

pub none_lost_lem : (n t : ℕ) → 1 ≤ n → none_lost n t (all_slots n) ≡ true
unfolding none_lost lost_of all_slots
none_lost_lem n t some =
    ap (λ (l : List ℕ). eqb (length l) 0)
    (none_of (λ r. not (in_mask (mask_of (λ d. true) n) (slot_of n t r))) n (λ r h. ap not (mask_below (λ d. true) n (slot_of n t r) (slot_lt n t some r))))
