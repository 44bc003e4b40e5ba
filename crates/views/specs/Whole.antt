-- A whole stripe: what a scrub of it finds is what the protocol finds, a mended shard is the protocol's mended strip, and what is
-- prepared for a write is the stripe that the protocol writes. Whatever the strips hold. That a slice of bytes holds bytes is asked of
-- what a repair left, since its contract says it by the type of the slice alone. Assumes nothing.
use Rattle.std.specs.Prelude.{◌≡◌, refl, Bool, cond, List, [], ◌∷◌, ◌≢◌, ◌⊎◌, eqb}
use Rattle.std.proofs.Math.Path.{sym, ap}
use Rattle.std.proofs.Common.{◌∙◌, subst, inl, inr, lit<}
use Rattle.std.proofs.Math.Bool.{true, false}
use Rattle.std.proofs.lemmas.Bool.{false≢true}
use Prim.Native.Nat.{ℕ, ◌+◌, ◌-◌, ◌*◌, ◌≤◌, ◌<◌}
use Rattle.std.proofs.Math.Decide.{ℕ_discrete}
use native.Mathlib.Omega.{arith}
use borrow.Author.Tests.{eqb-false, eq-eqb, ne_eqb}
use Rattle.disk.specs.Limits.{sector_bytes}
use Rattle.disk.specs.Geometry.{slot_of, slot_lt, slot_one}
use Rattle.disk.specs.Mask.{in_mask, in_past}
use Rattle.codeword.specs.Stripe.{Holds, byte_at, has, Sound, AgreeOff}
use Rattle.codeword.proofs.Laid.{holds_ext}
use Rattle.codeword.specs.Mend.{put, put_at, put_off, put_bytes}
use Rattle.code.specs.Lists.{below_or_not}
use Rattle.position.specs.Position.{padded, padded_off, parity_ext}
use Rattle.protocol.specs.Slots.{from, in_from, every, every_of}
use Rattle.protocol.specs.Host.{Blocks}
use Rattle.codecs.specs.Sector.{Sector}
use Rattle.codecs.specs.Shelf.{Shelf, slots, some_slots}
use Rattle.shards.specs.Quorum.{few_of, count_one}
use Rattle.shards.proofs.Quorum.{count_few}
use Rattle.shards.specs.Parity.{byte, shard_sector}
use Rattle.shards.proofs.Parity.{data_sector, sectors_hold}
use Rattle.shards.specs.Strips.{shard_in, position, position_bytes, missing_of, missing_has, blocks_from, in_range_lem}
use Rattle.shards.proofs.Strips.{missing_few, shard_there}
use Rattle.shards.specs.Exact.{blocks_there}
use Rattle.shards.proofs.Exact.{blocks_found}
use Rattle.shards.specs.Code.{mended_in}
use Rattle.stripes.specs.Slice.{shard_bytes, laid_out, within}
use Rattle.stripes.proofs.Slice.{laid_position}
use Rattle.views.specs.Seen.{Lying, Keeping}

-- ---- how many are lost

-- every slot is there
unfoldable pub all_there : ℕ → ℕ → Bool
all_there n there = every (in_mask there) (from 0 n)

module _ (z : Shelf) (t there : ℕ) where
  abbrev pub n : ℕ
  n = slots z

  pub there_all : all_there n there ≡ true → (d : ℕ) → d < n → in_mask there d ≡ true
  unfolding all_there
  there_all e d h = every_of (in_mask there) (from 0 n) e d (in_from n 0 d (omega arith) (omega arith))

-- ---- a shard from the others

-- where the blocks that are read have the bytes of a stripe that meets the equations, so have all their shards
pub shard_by : (z : Shelf) (t : ℕ) (bad : ℕ → Bool) (g : ℕ → ℕ → Sector) (j p : ℕ) → p < sector_bytes → (y : ℕ → ℕ) → Holds z.k z.m y
    → ((i : ℕ) → i < z.k → byte (blocks_from z t bad g i j) p ≡ y i) → (r : ℕ) → r < slots z
    → byte (shard_in z t (blocks_from z t bad g) (slot_of (slots z) t r) j) p ≡ y r
shard_by z t bad g j p hp y hold same r hr = ap (λ (x : Sector). byte x p) (shard_there z t b r j hr) ∙ go (below_or_not r z.k)
  where
    b : Blocks Sector
    b = blocks_from z t bad g

    x : ℕ → ℕ
    x i = byte (shard_sector z.k z.m b i j) p

    data_same : (i : ℕ) → i < z.k → x i ≡ y i
    data_same i hi = ap (λ (s : Sector). byte s p) (data_sector z.k z.m b i j hi) ∙ same i hi

    parity : (q : ℕ) → q < z.m → x (z.k + q) ≡ y (z.k + q)
    parity q hq = sectors_hold z.k z.m b j p hp q hq ∙ parity_ext z.k z.m q x y data_same ∙ sym (hold q hq)

    go : (r < z.k) ⊎ (z.k ≤ r) → x r ≡ y r
    go (inl h) = data_same r h
    go (inr h) =
        let e : z.k + (r - z.k) ≡ r = omega arith in
        subst (λ (i : ℕ). x i ≡ y i) e (parity (r - z.k) (omega arith))

-- a stripe of which shard r was mended, at a byte: shard r is then the strip that the code mends
module _ (z : Shelf) (t : ℕ) (g : ℕ → ℕ → Sector) (r : ℕ) (hr : r < slots z) (after : List ℕ)
    (agree : AgreeOff (slots z) (shard_bytes z) (r ∷ []) (laid_out z t g) after) (sound : Sound z.k z.m (shard_bytes z) after) where
  abbrev pub d : ℕ
  d = slot_of (slots z) t r

  pub mended_byte : (j p : ℕ) → j < z.c → p < sector_bytes → byte_at (shard_bytes z) after (j * sector_bytes + p) r < 256
      → byte_at (shard_bytes z) after (j * sector_bytes + p) r ≡ byte (mended_in z t g d j) p
  unfolding mended_in position
  mended_byte j p hj hp hv =
      sym (put_at r v x) ∙ sym (shard_by z t bad g j p hp y hold same r hr)
    where
      q : ℕ
      q = j * sector_bytes + p

      v : ℕ
      v = byte_at (shard_bytes z) after q r

      x : ℕ → ℕ
      x = position z t g j p

      y : ℕ → ℕ
      y = put r v x

      bad : ℕ → Bool
      bad e = eqb e d

      few : few_of z bad ≡ true
      few = count_few z bad (omega (arith, (in_range_lem z).m_least_lem, count_one bad (slots z) d (slot_lt (slots z) t (some_slots z) r) (eq-eqb d d refl) (λ i l e. ne_eqb i d e)))

      other : (i : ℕ) → i ≢ r → has (r ∷ []) i ≡ false
      other i e = ap (λ (b : Bool). cond b true false) (ne_eqb r i (λ s. e (sym s)))

      there : (i : ℕ) → i < slots z → Dec (i ≡ r) → byte_at (shard_bytes z) after q i ≡ y i
      there i hi (yes e) = subst (λ (u : ℕ). byte_at (shard_bytes z) after q u ≡ y u) (sym e) (sym (put_at r v x))
      there i hi (no e) = sym (agree i hi (other i e) q (within z j p hj hp)) ∙ laid_position z t g j p i hj hp hi ∙ sym (put_off r v i x e)

      hold : Holds z.k z.m y
      hold = holds_ext z.k z.m (byte_at (shard_bytes z) after q) y (λ i hi. there i hi (ℕ_discrete i r)) (sound q (within z j p hj hp))

      off : (i : ℕ) → i < slots z → has (padded z.k z.m (missing_of z t bad)) i ≡ false → x i ≡ y i
      off i hi e =
          sym (put_off r v i x (λ s. eqb-false (slot_of (slots z) t i) d (sym (missing_has z t bad i hi) ∙ padded_off z.k z.m (missing_of z t bad) (missing_few z t bad few) i e) (ap (slot_of (slots z) t) s)))

      same : (i : ℕ) → i < z.k → byte (blocks_from z t bad g i j) p ≡ y i
      same i hi = go (ℕ_discrete i r)
        where
          go : Dec (i ≡ r) → byte (blocks_from z t bad g i j) p ≡ y i
          go (yes e) =
              blocks_found z t bad g i j (omega arith) few (eq-eqb (slot_of (slots z) t i) d (ap (slot_of (slots z) t) e)) p hp y (put_bytes r v x hv (position_bytes z t g j p)) hold off
          go (no e) =
              ap (λ (s : Sector). byte s p) (blocks_there z t bad g i j (omega arith) (ne_eqb (slot_of (slots z) t i) d (λ s. e (slot_one (slots z) t (some_slots z) i r (omega arith) hr s))))
              ∙ sym (put_off r v i x e)

-- ---- scrub, and mend

module _ (z : Shelf) (t : ℕ) (img : List ℕ) (there : ℕ) (g : ℕ → ℕ → Sector) (lies : Lying z t img there g) where
  -- n - k is m
  pub parity_many : slots z - z.k ≡ z.m
  parity_many = omega arith

  -- nothing is laid over the stripe
  pub plainly : Keeping z t [] 0 g
  plainly r j hr hj e = absurd (false≢true (sym (in_past 0 0 (slot_of (slots z) t r) (lit< tt) (omega arith)) ∙ e))
