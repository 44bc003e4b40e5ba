-- A sector as the disks hold it: 512 bytes. Two sectors of the same bytes are one sector, and what is put together from
-- bytes is bytes. Assumes nothing.
use Rattle.std.specs.Prelude.{◌≡◌, List, [], ◌∷◌, ◌++◌, ℕ, zero, suc, ◌/◌, length, take, drop, replicate}
use mathlib.Core.HLevel.{Π_prop, is_prop→PathP}
use Rattle.std.proofs.Math.Nat.{ℕ_set}
use Rattle.std.proofs.Math.Bridge.{le_prop}
use Rattle.std.proofs.Common.{arith}
use Rattle.disk.specs.Limits.{sector_bytes}
use Rattle.disk.specs.Number.{bytes_of}
use Rattle.codecs.specs.Sector.{Bytes, Sector, zeros_whole}

bytes_prop : (b : List ℕ) → IsProp (Bytes b)
unfolding Bytes
bytes_prop b = Π_prop (λ i. le_prop)

-- two sectors of the same bytes are one
pub sector_path : (x y : Sector) → x.bytes ≡ y.bytes → x ≡ y
sector_path x y p = λ i. record {
  bytes = p i;
  whole = is_prop→PathP (λ j. length (p j) ≡ sector_bytes) (λ j. ℕ_set (length (p j)) sector_bytes) x.whole y.whole i;
  small = is_prop→PathP (λ j. Bytes (p j)) (λ j. bytes_prop (p j)) x.small y.small i;
}

-- ---- what is put together from bytes is bytes

pub bytes_none : Bytes []
unfolding Bytes
bytes_none zero = omega arith
bytes_none (suc i) = omega arith

pub bytes_append : (a b : List ℕ) → Bytes a → Bytes b → Bytes (a ++ b)
unfolding Bytes
bytes_append [] b p q i = q i
bytes_append (x ∷ a) b p q zero = p 0
bytes_append (x ∷ a) b p q (suc i) = bytes_append a b (λ j. p (suc j)) q i

pub bytes_take : (n : ℕ) (b : List ℕ) → Bytes b → Bytes (take n b)
unfolding Bytes
bytes_take zero b p i = bytes_none i
bytes_take (suc n) [] p i = bytes_none i
bytes_take (suc n) (x ∷ b) p zero = p 0
bytes_take (suc n) (x ∷ b) p (suc i) = bytes_take n b (λ j. p (suc j)) i

pub bytes_drop : (n : ℕ) (b : List ℕ) → Bytes b → Bytes (drop n b)
unfolding Bytes
bytes_drop zero b p i = p i
bytes_drop (suc n) [] p i = bytes_none i
bytes_drop (suc n) (x ∷ b) p i = bytes_drop n b (λ j. p (suc j)) i

pub bytes_zeros : (n : ℕ) → Bytes (replicate n 0)
unfolding Bytes
bytes_zeros zero i = bytes_none i
bytes_zeros (suc n) zero = omega arith
bytes_zeros (suc n) (suc i) = bytes_zeros n i

pub bytes_number : (w x : ℕ) → Bytes (bytes_of w x)
unfolding Bytes bytes_of
bytes_number zero x i = bytes_none i
bytes_number (suc w) x zero = omega arith
bytes_number (suc w) x (suc i) = bytes_number w (x / 256) i

abbrev pub zeros : Sector
zeros = record { bytes = replicate sector_bytes 0; whole = zeros_whole; small = bytes_zeros sector_bytes }
