-- What a table holds: the row of a byte says what the byte becomes in 8, 16, .., 128 steps. Assumes nothing.
use Rattle.std.specs.Prelude.{◌≡◌, List, ℕ, ◌+◌, ◌*◌, ◌<◌, length, get_or}
use Rattle.crc32c.specs.Crc.{steps}

-- entry j of the row of a
abbrev pub entry : ℕ → ℕ → ℕ
entry a j = steps (8 + 8 * j) a

-- the rows of the bytes below n, one after the other
pub record Rows (n : ℕ) (t : List ℕ) : Type 0 where
  pub size : length t ≡ 4096
  pub right : (a j : ℕ) → a < n → j < 16 → get_or t (16 * a + j) 0 ≡ entry a j

abbrev pub Filled : List ℕ → Type 0
Filled t = Rows 256 t

-- four bytes as a number, lowest first
abbrev pub word_at : List ℕ → ℕ → ℕ
word_at b i = get_or b i 0 + 256 * get_or b (i + 1) 0 + 65536 * get_or b (i + 2) 0 + 16777216 * get_or b (i + 3) 0
