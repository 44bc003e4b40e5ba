-- What the loops over the bytes of a stripe do. Assumes nothing.
use Rattle.std.specs.Prelude.{◌≡◌, Bool, true, false, cond, ◌&&◌, List, ◌≢◌, ℕ, ◌+◌, ◌-◌, ◌*◌, ◌/◌, ◌%◌, ◌≤◌, ◌<◌, eqb, leb, length, get_or}
use Rattle.std.specs.Int.Bits.{bit_xor}
use Rattle.codeword.specs.Sum.{total}
use Rattle.codeword.specs.Stripe.{len_most, byte_at}
use Rattle.field.specs.Field.{mul_of, g, pick}

-- eight numbers, one for each bit of a byte
pub record Multiples : Type 0 where
  pub c0 : ℕ
  pub c1 : ℕ
  pub c2 : ℕ
  pub c3 : ℕ
  pub c4 : ℕ
  pub c5 : ℕ
  pub c6 : ℕ
  pub c7 : ℕ

-- t holds c and its doubles
pub record MultiplesOf (c : ℕ) (t : Multiples) : Type 0 where
  pub at0 : t.c0 ≡ c
  pub at1 : t.c1 ≡ mul_of g t.c0
  pub at2 : t.c2 ≡ mul_of g t.c1
  pub at3 : t.c3 ≡ mul_of g t.c2
  pub at4 : t.c4 ≡ mul_of g t.c3
  pub at5 : t.c5 ≡ mul_of g t.c4
  pub at6 : t.c6 ≡ mul_of g t.c5
  pub at7 : t.c7 ≡ mul_of g t.c6

-- the sum of the multiples at the bits of x that are 1
unfoldable pub times_of : Multiples → ℕ → ℕ
times_of t x =
    bit_xor (bit_xor (bit_xor (bit_xor (bit_xor (bit_xor (bit_xor
    (pick (x % 2) t.c0)
    (pick (x / 2 % 2) t.c1))
    (pick (x / 4 % 2) t.c2))
    (pick (x / 8 % 2) t.c3))
    (pick (x / 16 % 2) t.c4))
    (pick (x / 32 % 2) t.c5))
    (pick (x / 64 % 2) t.c6))
    (pick (x / 128 % 2) t.c7)

-- ---- parts of a slice

-- e is b with the bytes f 0, f 1, .. in the place of the `len` bytes at `at`
pub record Replaced (at len : ℕ) (f : ℕ → ℕ) (b e : List ℕ) : Type 0 where
  pub same : length e ≡ length b
  pub inside : (i : ℕ) → i < len → get_or e (at + i) 0 ≡ f i
  pub before : (i : ℕ) → i < at → get_or e i 0 ≡ get_or b i 0
  pub after : (i : ℕ) → at + len ≤ i → get_or e i 0 ≡ get_or b i 0

-- by zeros
abbrev pub Cleared : ℕ → ℕ → List ℕ → List ℕ → Type 0
Cleared at len b e = Replaced at len (λ i. 0) b e

-- the byte at place i of dst with c times the byte at place i of src added
abbrev pub added : ℕ → ℕ → ℕ → List ℕ → ℕ → ℕ
added c dst src b i = bit_xor (get_or b (dst + i) 0) (mul_of c (get_or b (src + i) 0))

-- by such sums
abbrev pub MulAdded : ℕ → ℕ → ℕ → ℕ → List ℕ → List ℕ → Type 0
MulAdded c dst src len b e = Replaced dst len (added c dst src b) b e

-- two parts of `len` bytes of a slice of `size`, which have no byte in common
pub record Parts (dst src len size : ℕ) : Type 0 where
  pub dst_fits : dst + len ≤ size
  pub src_fits : src + len ≤ size
  pub apart : (i j : ℕ) → i < len → j < len → dst + i ≢ src + j

-- ---- shards

-- the most shards that a stripe has here
abbrev pub n_most : ℕ
n_most = 64

-- n shards of `len` bytes at the start of a slice of `size`
pub record Shards (n len size : ℕ) : Type 0 where
  pub few : n ≤ n_most
  pub short : len ≤ len_most
  pub fits : n * len ≤ size

-- the coefficient of shard r in the row at `at` of a table, but 0 for shard a
abbrev pub weight : List ℕ → ℕ → ℕ → ℕ → ℕ
weight table at a r = cond (eqb r a) 0 (get_or table (at + r) 0)

-- e is b with shard a made the sum of the other of n shards, each times its coefficient in the row at `at` of a table
abbrev pub Combined : ℕ → ℕ → ℕ → List ℕ → ℕ → List ℕ → List ℕ → Type 0
Combined n len a table at b e = Replaced (a * len) len (λ p. total n (λ r. mul_of (weight table at a r) (byte_at len b p r))) b e

-- the sum at position p of n shards, each times its coefficient in the row at `at` of a table
abbrev pub row_at : ℕ → ℕ → List ℕ → List ℕ → ℕ → ℕ → ℕ
row_at n len s table at p = total n (λ r. mul_of (get_or table (at + r) 0) (byte_at len s p r))

-- whether that sum is 0 at every position; if not, there is a position at which it isn't
abbrev pub RowZero : Bool → ℕ → ℕ → List ℕ → List ℕ → ℕ → Type 0
RowZero true n len s table at = (p : ℕ) → p < len → row_at n len s table at p ≡ 0
RowZero false n len s table at = (p : ℕ) × (p < len) × (row_at n len s table at p ≢ 0)

-- ---- what the two functions say of slices that may not fit

-- a slice of `size` bytes has n shards of `len`, and a table of `room` bytes has a row of n at `at`
unfoldable pub fits_of : ℕ → ℕ → ℕ → ℕ → ℕ → Bool
fits_of n len size at room = leb n n_most && leb len len_most && leb (n * len) size && leb n room && leb at (room - n)

-- shard a is made where all fits, else nothing changes
abbrev pub Combines : Bool → ℕ → ℕ → ℕ → List ℕ → ℕ → List ℕ → List ℕ → Type 0
Combines true n len a table at b e = Combined n len a table at b e
Combines false n len a table at b e = e ≡ b

-- the row is tested where all fits, else the answer is no
abbrev pub Tests : Bool → Bool → ℕ → ℕ → List ℕ → List ℕ → ℕ → Type 0
Tests true x n len s table at = RowZero x n len s table at
Tests false x n len s table at = x ≡ false
