-- What a write keeps in the work area, as the protocol's write: the work area begins with the stripe's shards, one after the
-- other, and the sectors that the code makes of them are the sectors of the protocol's record and strips. Assumes nothing.
use Rattle.std.specs.Prelude.{◌≡◌, Bool, ◌&&◌, ℕ, ◌+◌, ◌*◌, ◌≤◌, ◌<◌, ◌%◌, ◌^◌, drop}
use Rattle.std.proofs.Math.Path.{sym, ap}
use Rattle.std.proofs.Common.{◌∙◌, lit<, get_or-take, get_or-drop}
use mathlib.Core.List.{List}
use Rattle.std.proofs.Math.Nat.{mod-lt}
use Rattle.std.proofs.Math.Dec.{ltb}
use Rattle.std.proofs.Math.ListN.{length, get_or}
use Rattle.disk.specs.Limits.{sector_bytes}
use Rattle.disk.specs.Geometry.{stripes_of, shard_of}
use Rattle.disk.specs.Mask.{in_mask, mask_of, mask_lt, mask_below}
use Rattle.record.specs.Log.{part}
use Rattle.record.specs.declared.stamp.Stamp.{Stamp}
use Rattle.protocol.specs.Log.{Write}
use Rattle.codecs.specs.Sector.{Sector, Bytes}
use Rattle.codecs.specs.Shelf.{Shelf, slots, geometry}
use Rattle.codecs.specs.Records.{counts, strip_bytes}
use Rattle.codecs.proofs.Written.{strip_part}
use Rattle.shards.specs.Parity as Parity
use Rattle.refine.specs.Told.{mask_ext}

-- ---- definitions

-- where byte p of sector j of slot d's shard of stripe t is in the work area
abbrev pub kept_at : Shelf → ℕ → ℕ → ℕ → ℕ → ℕ
kept_at z t d j p = shard_of (slots z) t d * z.c * sector_bytes + (j * sector_bytes + p)

-- that byte (what is missing is 0, what is no byte counts modulo 256)
abbrev pub kept_byte : Shelf → List ℕ → ℕ → ℕ → ℕ → ℕ → ℕ
kept_byte z work t d j p = get_or work (kept_at z t d j p) 0 % 256

-- the strips that the work area keeps
unfoldable pub kept_strip : Shelf → List ℕ → ℕ → ℕ → ℕ → Sector
kept_strip z work t d j = Parity.sector_of (kept_byte z work t d j) (λ p. mod-lt (get_or work (kept_at z t d j p) 0) (lit< tt))

-- THE WRITE that the work area and the set of its shards describe
abbrev pub kept_write : Shelf → List ℕ → ℕ → ℕ → Write Sector
kept_write z work t shards =
    record { stripe = t; changes = λ d. ltb d (slots z) && in_mask shards (shard_of (slots z) t d); new = kept_strip z work t }

-- the work area has the stripe's n shards, and is bytes
pub record Works (z : Shelf) (work : List ℕ) : Type 0 where
  pub room : slots z * z.c * sector_bytes ≤ length work
  pub small : Bytes work

-- ---- a mask is the set of its slots

pub mask_is : (n m : ℕ) → m < 2 ^ n → (p : ℕ → Bool) → ((d : ℕ) → d < n → p d ≡ in_mask m d) → mask_of p n ≡ m
mask_is n m h p e = mask_ext n (mask_of p n) m (mask_lt p n) h (λ d l. mask_below p n d l ∙ e d l)

-- ---- bytes of a strip

module _ (v : ℕ → Sector) where
  pub strip_byte : (c j p : ℕ) → j < c → p < sector_bytes → get_or (strip_bytes v c) (j * sector_bytes + p) 0 ≡ get_or (v j).bytes p 0
  unfolding part
  strip_byte c j p l q =
      sym (get_or-drop (j * sector_bytes) (strip_bytes v c) p 0) ∙ sym (get_or-take sector_bytes (drop (j * sector_bytes) (strip_bytes v c)) p 0 q)
      ∙ ap (λ (x : List ℕ). get_or x p 0) (strip_part v c j l)

module _ (z : Shelf) (work : List ℕ) (works : Works z work) (t d : ℕ) (stripe : t < stripes_of (geometry z)) (below : d < slots z) where
  abbrev pub r : ℕ
  r = shard_of (slots z) t d

  -- ---- the record

  module _ (a : Stamp) (few : a.count < counts) (shards : ℕ) (low : shards < 2 ^ slots z) where
    abbrev pub W : Write Sector
    W = kept_write z work t shards
