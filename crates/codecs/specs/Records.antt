-- The protocol's log records as the bytes of real sectors: a stamp is epoch and count in one number, a strip is its c
-- sectors in a row, the slots that a write changes are told as its stripe's shards. Assumes nothing.
use Rattle.std.specs.Prelude.{◌≡◌, Bool, true, ◌&&◌, length, take, drop}
use Rattle.std.proofs.Common.{◌∙◌, arith, length-append, length-drop, length-take-le}
use Rattle.std.proofs.Math.Path.{ap₂}
use mathlib.Core.List.{List, [], ◌++◌}
use Prim.Native.Nat.{ℕ, zero, suc, ◌+◌, ◌*◌, ◌<◌, ◌/◌, ◌%◌, ◌^◌}
use Rattle.std.proofs.Math.Dec.{ltb}
use Rattle.disk.specs.Limits.{sector_bytes, most_c}
use Rattle.disk.specs.Mask.{in_mask, mask_of}
use Rattle.disk.specs.Geometry.{stripes_of, slot_of, shard_of}
use Rattle.record.specs.Layout.{stamp_length, body, rests_at, rest}
use Rattle.record.specs.Stamp.{stamp_at}
use Rattle.record.specs.Tail.{tail_at}
use Rattle.record.specs.Log.{restore_of}
use Rattle.record.specs.declared.stamp.Stamp.{Stamp}
use Rattle.record.specs.declared.tail.Tail.{Tail}
use Rattle.protocol.specs.Log.{Write}
use Rattle.codecs.specs.Sector.{Sector}
use Rattle.codecs.specs.Shelf.{Shelf, slots, geometry}

-- ---- stamps

-- a count has 8 bytes
abbrev pub counts : ℕ
counts = 2 ^ 64

-- epoch and count as one number, and again: a greater stamp is a greater number
abbrev pub stamp_number : Stamp → ℕ
stamp_number a = a.epoch * counts + a.count

abbrev pub stamp_of : ℕ → Stamp
stamp_of σ = record { epoch = σ / counts; count = σ % counts }

-- what a sector tells: its stamp; of a tail, the stripe
unfoldable pub stamp_in : Sector → ℕ
stamp_in x = stamp_number (stamp_at x.bytes)

unfoldable pub stripe_in : Sector → ℕ
stripe_in x = (tail_at x.bytes).stripe

-- ---- a strip: its sectors in a row

abbrev pub strip_bytes : (ℕ → Sector) → ℕ → List ℕ
strip_bytes v zero = []
strip_bytes v (suc s) = strip_bytes v s ++ (v s).bytes

pub length_restore : (log tail : List ℕ) (s : ℕ) → length log ≡ sector_bytes → length tail ≡ sector_bytes → s < most_c → length (restore_of log tail s) ≡ sector_bytes
unfolding restore_of
length_restore log tail s p q l =
    length-append (take body (drop stamp_length log)) (take rest (drop (rests_at + s * rest) tail))
    ∙ ap₂ (λ (x y : ℕ). x + y) (length-take-le body (drop stamp_length log) (omega (arith, length-drop stamp_length log)))
    (length-take-le rest (drop (rests_at + s * rest) tail) (omega (arith, length-drop (rests_at + s * rest) tail)))

-- ---- a record

module _ (z : Shelf) where
  -- shard r of stripe t lies in slot (r + t) mod n
  abbrev pub changes_shard : Write Sector → ℕ → Bool
  changes_shard w r = w.changes (slot_of (slots z) w.stripe r)

  -- the shards that the write changes
  abbrev pub shards_of : Write Sector → ℕ
  shards_of w = mask_of (changes_shard w) (slots z)

  abbrev pub tail_of : ℕ → Write Sector → Tail
  tail_of σ w = record { stamp = stamp_of σ; stripe = w.stripe; shards = shards_of w }

  -- ---- read again

  unfoldable pub changes_in : Sector → ℕ → Bool
  changes_in x d = ltb d (slots z) && in_mask (tail_at x.bytes).shards (shard_of (slots z) (tail_at x.bytes).stripe d)

  -- ---- what a write has to be for its sectors to tell it: a stamp of 16 bytes, a stripe of the shelf, slots of the shelf
  pub record Fitting (σ : ℕ) (w : Write Sector) : Type 0 where
    pub stamps : σ < 2 ^ 128
    pub stripes : w.stripe < stripes_of (geometry z)
    pub inside : (d : ℕ) → w.changes d ≡ true → d < slots z
