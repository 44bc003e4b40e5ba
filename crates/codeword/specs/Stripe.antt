-- The code of document 01, section 2: what the parity shards hold, and when a stripe is sound. A stripe is k + m shards of `len`
-- bytes one behind the other; shard r begins at r * len; each byte position is on its own. Assumes nothing.
use Rattle.std.specs.Prelude.{◌≡◌, Bool, true, false, cond, List, [], ◌∷◌, ℕ, ◌+◌, ◌*◌, ◌≤◌, ◌<◌, eqb, get_or}
use Rattle.field.specs.Field.{mul_of, power_of}
use Rattle.codeword.specs.Sum.{total}

-- the limits
abbrev pub k_least : ℕ
k_least = 2

abbrev pub k_most : ℕ
k_most = 16

abbrev pub m_least : ℕ
m_least = 1

abbrev pub m_most : ℕ
m_most = 3

abbrev pub len_most : ℕ
len_most = 4096

-- a shape that the code is for
pub record InRange (k m : ℕ) : Type 0 where
  pub k_least_lem : k_least ≤ k
  pub k_most_lem : k ≤ k_most
  pub m_least_lem : m_least ≤ m
  pub m_most_lem : m ≤ m_most

-- the coefficient of data shard i in parity shard j, of m
unfoldable pub coef : ℕ → ℕ → ℕ → ℕ
coef m j i = power_of (i * j)

-- ---- one byte position: x r is the byte of shard r

-- what parity shard j is to hold
abbrev pub parity_of : ℕ → ℕ → ℕ → (ℕ → ℕ) → ℕ
parity_of k m j x = total k (λ i. mul_of (coef m j i) (x i))

-- the m equations
abbrev pub Holds : ℕ → ℕ → (ℕ → ℕ) → Type 0
Holds k m x = (j : ℕ) → j < m → x (k + j) ≡ parity_of k m j x

-- each is a byte
abbrev pub Bytes : (ℕ → ℕ) → Type 0
Bytes x = (r : ℕ) → x r < 256

-- ---- a stripe

-- byte p of shard r
abbrev pub byte_at : ℕ → List ℕ → ℕ → ℕ → ℕ
byte_at len s p r = get_or s (r * len + p) 0

-- the equations hold at every position
abbrev pub Sound : ℕ → ℕ → ℕ → List ℕ → Type 0
Sound k m len s = (p : ℕ) → p < len → Holds k m (byte_at len s p)

-- r is in the list
abbrev pub has : List ℕ → ℕ → Bool
has [] r = false
has (a ∷ l) r = cond (eqb a r) true (has l r)

-- two stripes agree but for the shards of a list
abbrev pub AgreeOff : ℕ → ℕ → List ℕ → List ℕ → List ℕ → Type 0
AgreeOff n len lost s t = (r : ℕ) → r < n → has lost r ≡ false → (p : ℕ) → p < len → byte_at len s p r ≡ byte_at len t p r

-- two stripes agree in every shard
abbrev pub Agree : ℕ → ℕ → List ℕ → List ℕ → Type 0
Agree n len s t = AgreeOff n len [] s t
