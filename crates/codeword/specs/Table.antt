-- Tables of equations. Row j of a table with n columns says of the bytes x 0 .. x (n - 1) of a position: the sum of the row's
-- entries times the bytes is 0. The code's own table has a column for each shard: a data shard's coefficients, and for parity
-- shard j a 1 in row j. Assumes nothing.
use Rattle.std.specs.Prelude.{◌≡◌, cond, List, ℕ, ◌+◌, ◌*◌, ◌<◌, eqb, ltb, length, get_or}
use Rattle.field.specs.Field.{mul_of}
use Rattle.codeword.specs.Sum.{total}
use Rattle.codeword.specs.Stripe.{coef, Holds, Bytes}

-- 1 where the two are equal, else 0
abbrev pub unit : ℕ → ℕ → ℕ
unit i j = cond (eqb i j) 1 0

-- the column of shard r
abbrev pub column : ℕ → ℕ → ℕ → ℕ → ℕ
column k m r j = cond (ltb r k) (coef m j r) (unit r (k + j))

-- a table of n columns, row after row in a list
abbrev pub entry : ℕ → List ℕ → ℕ → ℕ → ℕ
entry n e j r = get_or e (j * n + r) 0

-- the sum of row j
abbrev pub row_sum : ℕ → List ℕ → ℕ → (ℕ → ℕ) → ℕ
row_sum n e j x = total n (λ r. mul_of (entry n e j r) (x r))

-- every row says 0 of x
abbrev pub AllZero : ℕ → ℕ → List ℕ → (ℕ → ℕ) → Type 0
AllZero m n e x = (j : ℕ) → j < m → row_sum n e j x ≡ 0

-- the code's own table
abbrev pub Columns : ℕ → ℕ → List ℕ → Type 0
Columns k m e = (j : ℕ) → j < m → (r : ℕ) → r < k + m → entry (k + m) e j r ≡ column k m r j

-- a table that says the same as the equations
pub record Equivalent (k m : ℕ) (e : List ℕ) : Type 0 where
  pub forth : (x : ℕ → ℕ) → Bytes x → Holds k m x → AllZero m (k + m) e x
  pub back : (x : ℕ → ℕ) → Bytes x → AllZero m (k + m) e x → Holds k m x

-- a table that is solved for the shards of a list: besides, the column of the list's c-th shard is 1 in row c and 0 in every other
-- row. So row c gives that shard from the shards that are not in the list
pub record SolvedFor (k m : ℕ) (lost e : List ℕ) : Type 0 where
  pub same : Equivalent k m e
  pub units : (c : ℕ) → c < length lost → (j : ℕ) → j < m → entry (k + m) e j (get_or lost c 0) ≡ unit j c
