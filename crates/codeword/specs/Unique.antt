-- Any k of the k + m shards determine the rest: two sound stripes that agree but for at most m shards agree everywhere. The
-- coefficients enter by `minors` alone. Assumes nothing.
use Rattle.std.specs.Prelude.{◌≡◌, Bool, false, not, List, ℕ, ◌+◌, ◌≤◌, ◌<◌, length, get_or}
use Rattle.std.specs.Int.Bits.{bit_xor}
use Rattle.codeword.specs.Stripe.{Holds, Bytes, has}
use Rattle.codeword.specs.Chosen.{chosen}
use Rattle.codeword.specs.Minors.{Minors}

-- ---- the equations are linear

abbrev pub sum : (ℕ → ℕ) → (ℕ → ℕ) → ℕ → ℕ
sum x y r = bit_xor (x r) (y r)

-- ---- a position that is 0 off the lost shards is 0

module _ (k m : ℕ) (table : Minors k m) (lost : List ℕ) (few : length lost ≤ m) (z : ℕ → ℕ) (bz : Bytes z) (hz : Holds k m z)
    (off : (r : ℕ) → r < k + m → has lost r ≡ false → z r ≡ 0) where
  -- the lost data shards, and the rows whose parity shard is not lost
  abbrev pub shards : List ℕ
  shards = chosen (has lost) k

  abbrev pub kept : ℕ → Bool
  kept j = not (has lost (k + j))

  abbrev pub rows : List ℕ
  rows = chosen kept m

-- each entry is a byte
abbrev pub AllBytes : List ℕ → Type 0
AllBytes s = (i : ℕ) → get_or s i 0 < 256
