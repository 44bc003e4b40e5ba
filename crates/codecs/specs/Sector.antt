-- A sector as the disks hold it: 512 bytes. Two sectors of the same bytes are one sector, and what is put together from
-- bytes is bytes. Assumes nothing.
use Rattle.std.specs.Prelude.{◌≡◌, refl, List, ℕ, ◌<◌, length, get_or, replicate}
use Rattle.disk.specs.Limits.{sector_bytes}

-- each number is a byte
unfoldable pub Bytes : List ℕ → Type 0
Bytes b = (i : ℕ) → get_or b i 0 < 256

pub record Sector : Type 0 where
  pub bytes : List ℕ
  pub whole : length bytes ≡ sector_bytes
  pub small : Bytes bytes

-- ---- the sector of zeros

pub zeros_whole : length (replicate {A = ℕ} sector_bytes 0) ≡ sector_bytes
zeros_whole = refl
