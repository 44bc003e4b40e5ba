-- Sectors of parity: document 01's equations, byte by byte. A sector is put together from its bytes, and two sectors with the same
-- bytes are one. Assumes nothing.
use Rattle.std.specs.Prelude.{◌≡◌, Bool, ℕ, ◌+◌, ◌<◌}
use Rattle.std.proofs.Math.Path.{refl}
use Rattle.std.proofs.Common.{sym, ap, ◌∙◌, arith, lt-ltb, le-ltb, ltb-true}
use Rattle.std.proofs.Math.Bool.{true, false, cond}
use Rattle.std.proofs.Math.Dec.{ltb}
use Rattle.disk.specs.Limits.{sector_bytes}
use Rattle.codeword.specs.Stripe.{Holds}
use Rattle.protocol.specs.Host.{Blocks}
use Rattle.codecs.specs.Sector.{Sector}
use Rattle.position.specs.Position.{parity_ext}
use Rattle.shards.specs.Parity.{byte, parity_of_sectors, row_of, shard_sector, parity_at, parity_same}

pub row_of_lem : (k q : ℕ) → row_of k (k + q) ≡ q
unfolding row_of
row_of_lem k q = omega arith

module _ (k m : ℕ) where
  pub data_sector : (b : Blocks Sector) (r j : ℕ) → r < k → shard_sector k m b r j ≡ b r j
  unfolding shard_sector
  data_sector b r j h = rw (lt-ltb r k h)

  pub parity_sector : (b : Blocks Sector) (q j : ℕ) → shard_sector k m b (k + q) j ≡ parity_of_sectors k m q (λ i. b i j)
  unfolding shard_sector
  parity_sector b q j = rw (le-ltb (k + q) k (omega arith), row_of_lem k q)

  pub shard_ext : (a b : Blocks Sector) (r j : ℕ) → ((i : ℕ) → i < k → a i j ≡ b i j) → shard_sector k m a r j ≡ shard_sector k m b r j
  unfolding shard_sector
  shard_ext a b r j e = go (ltb r k) refl
    where
      go : (t : Bool) → ltb r k ≡ t → cond t (a r j) (parity_of_sectors k m (row_of k r) (λ i. a i j)) ≡ cond t (b r j) (parity_of_sectors k m (row_of k r) (λ i. b i j))
      go true q = e r (ltb-true r k q)
      go false q = (parity_same k m) (row_of k r) (λ i. a i j) (λ i. b i j) e

  -- THE EQUATIONS hold of the stripe's sectors at every byte
  pub sectors_hold : (b : Blocks Sector) (j p : ℕ) → p < sector_bytes → Holds k m (λ r. byte (shard_sector k m b r j) p)
  sectors_hold b j p l q h =
      ap (λ (x : Sector). byte x p) (parity_sector b q j) ∙ (parity_at k m) q (λ i. b i j) p l
      ∙ parity_ext k m q (λ i. byte (b i j) p) (λ r. byte (shard_sector k m b r j) p) (λ i g. ap (λ (x : Sector). byte x p) (sym (data_sector b i j g)))
