-- Sectors of parity: document 01's equations, byte by byte. A sector is put together from its bytes, and two sectors with the same
-- bytes are one. Assumes nothing.
use Rattle.std.specs.Prelude.{◌≡◌, ℕ, zero, suc, ◌-◌, ◌<◌, get_or}
use Rattle.std.proofs.Common.{sym, ap, ◌∙◌, arith, lit<, ext_get_or}
use Rattle.std.proofs.Math.Bool.{cond}
use Rattle.std.proofs.Math.Dec.{ltb}
use Rattle.std.proofs.lemmas.List.{get_or-replicate}
use Rattle.disk.specs.Limits.{sector_bytes}
use Rattle.field.specs.Field.{mul_of}
use Rattle.field.proofs.Bytes.{bytes}
use Rattle.codeword.specs.Sum.{total_byte, total_zero}
use Rattle.codeword.specs.Stripe.{coef, parity_of}
use Rattle.protocol.specs.Host.{Blocks}
use Rattle.codecs.specs.Sector.{Sector, Bytes}
use Rattle.codecs.proofs.Sector.{sector_path, zeros}
use Rattle.position.specs.Row.{listed, listed_length, listed_at}
use Rattle.position.specs.Position.{parity_ext}

-- ---- a sector from its bytes

abbrev pub byte : Sector → ℕ → ℕ
byte x p = get_or x.bytes p 0

pub byte_small : (x : Sector) (p : ℕ) → byte x p < 256
unfolding Bytes
byte_small x p = x.small p

pub sector_ext : (x y : Sector) → ((p : ℕ) → p < sector_bytes → byte x p ≡ byte y p) → x ≡ y
sector_ext x y e = sector_path x y (ext_get_or 0 x.bytes y.bytes (x.whole ∙ sym y.whole) (λ p h. e p (omega (arith, x.whole))))

listed_bytes : (n : ℕ) (f : ℕ → ℕ) → ((i : ℕ) → f i < 256) → Bytes (listed n f)
unfolding listed Bytes
listed_bytes zero f h i = lit< tt
listed_bytes (suc n) f h zero = h 0
listed_bytes (suc n) f h (suc i) = listed_bytes n (λ i. f (suc i)) (λ i. h (suc i)) i

-- the sector whose byte p is f p
pub sector_of : (f : ℕ → ℕ) → ((p : ℕ) → f p < 256) → Sector
sector_of f h = record { bytes = listed sector_bytes f; whole = listed_length sector_bytes f; small = listed_bytes sector_bytes f h }

pub byte_of : (f : ℕ → ℕ) (h : (p : ℕ) → f p < 256) (p : ℕ) → p < sector_bytes → byte (sector_of f h) p ≡ f p
unfolding sector_of
byte_of f h p l = listed_at sector_bytes f p l

-- ---- the sectors of a stripe

-- the parity of bytes is a byte
pub parity_byte : (k m q : ℕ) (x : ℕ → ℕ) → parity_of k m q x < 256
parity_byte k m q x = total_byte k (λ i. mul_of (coef m q i) (x i)) (λ i l. bytes.mul_byte (coef m q i) (x i))

-- the sector of parity shard q for the data sectors s
unfoldable pub parity_of_sectors : ℕ → ℕ → ℕ → (ℕ → Sector) → Sector
parity_of_sectors k m q s = sector_of (λ p. parity_of k m q (λ i. byte (s i) p)) (λ p. parity_byte k m q (λ i. byte (s i) p))

-- which parity shard, from 0, shard r is
unfoldable pub row_of : ℕ → ℕ → ℕ
row_of k r = r - k

-- sector j of shard r for the blocks b: a block's own, or parity
unfoldable pub shard_sector : ℕ → ℕ → Blocks Sector → ℕ → ℕ → Sector
shard_sector k m b r j = cond (ltb r k) (b r j) (parity_of_sectors k m (row_of k r) (λ i. b i j))

module _ (k m : ℕ) where
  pub parity_at : (q : ℕ) (s : ℕ → Sector) (p : ℕ) → p < sector_bytes → byte (parity_of_sectors k m q s) p ≡ parity_of k m q (λ i. byte (s i) p)
  unfolding parity_of_sectors
  parity_at q s p l = byte_of (λ p. parity_of k m q (λ i. byte (s i) p)) (λ p. parity_byte k m q (λ i. byte (s i) p)) p l

  -- equal data, equal parity
  pub parity_same : (q : ℕ) (s t : ℕ → Sector) → ((i : ℕ) → i < k → s i ≡ t i) → parity_of_sectors k m q s ≡ parity_of_sectors k m q t
  parity_same q s t e =
      sector_ext (parity_of_sectors k m q s) (parity_of_sectors k m q t)
      (λ p l. parity_at q s p l ∙ parity_ext k m q (λ i. byte (s i) p) (λ i. byte (t i) p) (λ i h. ap (λ (x : Sector). byte x p) (e i h)) ∙ sym (parity_at q t p l))

  -- the parity of zeros is zeros
  pub parity_zeros : (q : ℕ) → parity_of_sectors k m q (λ i. zeros) ≡ zeros
  parity_zeros q =
      sector_ext (parity_of_sectors k m q (λ i. zeros)) zeros
      (λ p l. let z : byte zeros p ≡ 0 = get_or-replicate sector_bytes p 0 0 l in
      parity_at q (λ i. zeros) p l
      ∙ total_zero k (λ i. mul_of (coef m q i) (byte zeros p)) (λ i h. ap (mul_of (coef m q i)) z ∙ bytes.mul_zero (coef m q i)) ∙ sym z)
