-- A stripe of a shelf as one slice: its shards one behind the other, as the functions on a stripe take them. Assumes nothing.
use Rattle.std.specs.Prelude.{◌≡◌, Bool, true, length, drop}
use Rattle.std.proofs.Math.Path.{sym, ap}
use Rattle.std.proofs.Common.{◌∙◌, subst, div-add-mod', arith, ext_get_or}
use mathlib.Core.List.{List}
use Prim.Native.Nat.{ℕ, ◌+◌, ◌*◌, ◌/◌, ◌%◌, ◌<◌}
use Rattle.std.proofs.Math.Nat.{mul_assoc}
use Rattle.std.proofs.Math.Arith.{digits_lt}
use Rattle.std.proofs.Math.ListN.{get_or, length-drop}
use Rattle.std.proofs.Math.Seq.{get_or-take, get_or-drop, length-take-le}
use borrow.Author.Tests.{le-leb, eq-eqb}
use Rattle.disk.specs.Limits.{sector_bytes}
use Rattle.disk.specs.Geometry.{slot_of}
use Rattle.disk.specs.Image.{place, sector}
use Rattle.codeword.specs.Stripe.{k_least, k_most, m_least, m_most, len_most, byte_at}
use Rattle.solve.specs.Lost.{shards_of, Lost}
use Rattle.code.specs.Shape.{shaped_of}
use Rattle.solve.specs.Lists.{shards_lost}
use Rattle.codecs.specs.Sector.{Sector}
use Rattle.codecs.specs.Shelf.{Shelf, slots, short_strip, some_sectors}
use Rattle.codecs.specs.Records.{strip_bytes}
use Rattle.shards.specs.Quorum.{few_of}
use Rattle.position.specs.Row.{in_row}
use Rattle.position.specs.Lists.{ascending_shards}
use Rattle.shards.specs.Parity.{byte}
use Rattle.shards.specs.Strips.{missing_of, in_range_lem}
use Rattle.shards.proofs.Strips.{missing_few}

-- ---- the slice

-- the bytes of a shard
abbrev pub shard_bytes : Shelf → ℕ
shard_bytes z = z.c * sector_bytes

-- shard r of stripe t with the strips g of the slots: the c sectors of its slot in a row
abbrev pub shard_at : Shelf → ℕ → (ℕ → ℕ → Sector) → ℕ → List ℕ
shard_at z t g r = strip_bytes (g (slot_of (slots z) t r)) z.c

-- the stripe
unfoldable pub laid_out : Shelf → ℕ → (ℕ → ℕ → Sector) → List ℕ
laid_out z t g = in_row (slots z) (shard_at z t g)

-- what holds of each byte of each sector holds of each byte
pub each_byte : (c : ℕ) (P : ℕ → Type 0) → ((j p : ℕ) → j < c → p < sector_bytes → P (j * sector_bytes + p)) → (p : ℕ) → p < c * sector_bytes → P p
each_byte c P h p l = subst P (div-add-mod' p sector_bytes) (h (p / sector_bytes) (p % sector_bytes) (omega arith) (omega arith))

module _ (z : Shelf) where
  abbrev pub n : ℕ
  n = slots z

  abbrev pub len : ℕ
  len = shard_bytes z

  -- byte p of sector j of a shard
  pub within : (j p : ℕ) → j < z.c → p < sector_bytes → j * sector_bytes + p < len
  within j p hj hp = digits_lt hj hp

  -- ---- a slice that is as long as a stripe

  -- its shape is taken
  pub slice_shape : (s : List ℕ) → length s ≡ n * len → shaped_of z.k z.m len (length s) ≡ true
  unfolding shaped_of
  slice_shape s e =
      let i = in_range_lem z in
      rw (
        le-leb k_least z.k i.k_least_lem,
        le-leb z.k k_most i.k_most_lem,
        le-leb m_least z.m i.m_least_lem,
        le-leb z.m m_most i.m_most_lem,
        le-leb 1 len (omega (arith, some_sectors z)),
        le-leb len len_most (omega (arith, short_strip z)),
        eq-eqb (length s) (n * len) e,
      )

  module _ (s : List ℕ) (r j : ℕ) where
    -- sector j of shard r is where sector j of slot r of an image of c sectors a slot is
    same_place : (p : ℕ) → place z.c r j + p ≡ r * len + (j * sector_bytes + p)
    same_place p = omega (arith, mul_assoc r z.c sector_bytes)

    pub sector_byte : (p : ℕ) → p < sector_bytes → get_or (sector z.c s r j) p 0 ≡ byte_at len s (j * sector_bytes + p) r
    unfolding sector
    sector_byte p hp =
        get_or-take sector_bytes (drop (place z.c r j) s) p 0 hp ∙ get_or-drop (place z.c r j) s p 0 ∙ ap (λ (i : ℕ). get_or s i 0) (same_place p)

    sector_length : length s ≡ n * len → r < n → j < z.c → length (sector z.c s r j) ≡ sector_bytes
    unfolding sector
    sector_length e hr hj =
        let inside : r * z.c + j < n * z.c = digits_lt hr hj in
        length-take-le sector_bytes (drop (place z.c r j) s)
        (omega (arith, length-drop (place z.c r j) s, mul_assoc n z.c sector_bytes))

    -- a sector that has a sector's bytes
    pub sector_is : length s ≡ n * len → r < n → j < z.c → (x : Sector)
        → ((p : ℕ) → p < sector_bytes → byte_at len s (j * sector_bytes + p) r ≡ byte x p) → sector z.c s r j ≡ x.bytes
    sector_is e hr hj x h =
        let whole : length (sector z.c s r j) ≡ sector_bytes = sector_length e hr hj in
        ext_get_or 0 (sector z.c s r j) x.bytes (whole ∙ sym x.whole)
        (λ p l. let hp : p < sector_bytes = omega arith in sector_byte p hp ∙ h p hp)

-- ---- the missing shards

module _ (z : Shelf) (t : ℕ) (bad : ℕ → Bool) where
  -- each is a shard, and none is named twice
  pub missing_shards : shards_of (slots z) (missing_of z t bad) ≡ true
  unfolding missing_of
  missing_shards = ascending_shards (λ r. bad (slot_of (slots z) t r)) (slots z) (slots z) (omega arith)

  -- FEW BAD SLOTS are few lost shards: a list that a rebuild takes
  pub missing_lost : few_of z bad ≡ true → Lost z.k z.m (missing_of z t bad)
  missing_lost few = shards_lost z.k z.m (missing_of z t bad) (missing_few z t bad few) missing_shards
