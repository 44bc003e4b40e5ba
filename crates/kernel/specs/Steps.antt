-- A row's sum in steps. A list of steps makes a number from 0: a step below n adds the byte of that shard, any other step
-- doubles. So the bits of the coefficients are taken from the highest down. Assumes nothing.
use Rattle.std.specs.Prelude.{◌≡◌, Bool, true, false, cond, List, ◌≢◌, ℕ, zero, suc, ◌+◌, ◌-◌, ◌*◌, ◌/◌, ◌%◌, ◌≤◌, ◌<◌, ltb, min, length, get_or}
use Rattle.std.specs.Int.Bits.{bit_xor}
use Rattle.field.specs.Field.{mul_of, g, pick}
use Rattle.codeword.specs.Sum.{total}
use Rattle.codeword.specs.Stripe.{Bytes}
use Rattle.kernel.specs.Kernel.{n_most, weight}

-- how many positions are worked on at a time
abbrev pub columns : ℕ
columns = 64

-- room for a double and every shard for each of 8 bits
abbrev pub room : ℕ
room = 8 * (n_most + 1)

-- what step s makes of y, where x r is the byte of shard r
abbrev pub step_of : ℕ → (ℕ → ℕ) → ℕ → ℕ → ℕ
step_of n x y s = cond (ltb s n) (bit_xor y (x s)) (mul_of g y)

-- what the first i steps make
unfoldable pub made_by : ℕ → List ℕ → (ℕ → ℕ) → ℕ → ℕ
made_by n steps x zero = 0
made_by n steps x (suc i) = step_of n x (made_by n steps x i) (get_or steps i 0)

-- the bytes of a block are f 0, f 1, ..
abbrev pub Are : List ℕ → (ℕ → ℕ) → Type 0
Are y f = (j : ℕ) → j < columns → get_or y j 0 ≡ f j

-- at most `more` steps were put behind the first m of s; they make f of what those made
pub record Pushed (n m m' more : ℕ) (s s' : List ℕ) (f : (ℕ → ℕ) → ℕ → ℕ) : Type 0 where
  pub same : length s' ≡ length s
  pub few : m' ≤ m + more
  pub makes : (x : ℕ → ℕ) → made_by n s' x m' ≡ f x (made_by n s x m)

-- the shards whose coefficient has the bit
abbrev pub chosen : ℕ → List ℕ → ℕ → ℕ → ℕ → (ℕ → ℕ) → ℕ
chosen n table at a bit x = total n (λ r. pick (weight table at a r / bit % 2) (x r))

-- the first m steps make the row's sum, of the shards but a
abbrev pub Plan : ℕ → List ℕ → ℕ → ℕ → List ℕ → ℕ → Type 0
Plan n table at a steps m = (x : ℕ → ℕ) → Bytes x → made_by n steps x m ≡ total n (λ r. mul_of (weight table at a r) (x r))

-- where block i starts: behind the others, but it ends within len
abbrev pub start_of : ℕ → ℕ → ℕ
start_of i len = min (i * columns) (len - columns)

-- whether the first k bytes are all 0; if not, there is one that isn't
abbrev pub Zeros : Bool → ℕ → List ℕ → Type 0
Zeros true k y = (j : ℕ) → j < k → get_or y j 0 ≡ 0
Zeros false k y = (j : ℕ) × (j < k) × (get_or y j 0 ≢ 0)

-- whether f is 0 at each position of the block at q; if not, there is one where it isn't
abbrev pub BlockZero : Bool → ℕ → (ℕ → ℕ) → Type 0
BlockZero true q f = (j : ℕ) → j < columns → f (q + j) ≡ 0
BlockZero false q f = (j : ℕ) × (j < columns) × (f (q + j) ≢ 0)

-- a block that has position p and ends within len starts at q
pub record Start (p len q : ℕ) : Type 0 where
  pub low : q ≤ p
  pub has : p < q + columns
  pub fits : q + columns ≤ len
