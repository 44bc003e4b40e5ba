-- The coefficients: any rows of them determine as many data shards. `Minors` says so of a shape, and `minors` proves it of each
-- that is in range; nothing else about the coefficients is used elsewhere. Assumes nothing.
use Rattle.std.specs.Prelude.{◌≡◌, List, ℕ, ◌*◌, ◌≤◌, length}
use Rattle.std.specs.Int.Bits.{bit_xor}
use Rattle.field.specs.Field.{mul_of, power_of}
use Rattle.codeword.specs.Stripe.{coef, Bytes}
use Rattle.codeword.specs.Chosen.{All, Falling, over}

-- rows whose sums over no more data shards than rows are 0: then these shards are 0
abbrev pub Minors : ℕ → ℕ → Type 0
Minors k m =
    (rows shards : List ℕ) → Falling m rows → Falling k shards → length shards ≤ length rows → (x : ℕ → ℕ) → Bytes x
    → All (λ j. over shards (λ i. mul_of (coef m j i) (x i)) ≡ 0) rows → All (λ i. x i ≡ 0) shards

-- ---- the powers of g, rows u and u + d: multiples of the first row put to the second take shard c out

abbrev pub row : ℕ → List ℕ → (ℕ → ℕ) → ℕ
row j shards x = over shards (λ i. mul_of (power_of (i * j)) (x i))

abbrev pub Zeros : List ℕ → (ℕ → ℕ) → Type 0
Zeros shards x = All (λ i. x i ≡ 0) shards

-- what multiplies shard i then
abbrev pub factor : ℕ → ℕ → ℕ → ℕ
factor d c i = bit_xor (power_of (i * d)) (power_of (c * d))

abbrev pub without : ℕ → ℕ → (ℕ → ℕ) → ℕ → ℕ
without d c x i = mul_of (factor d c i) (x i)
