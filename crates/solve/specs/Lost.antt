-- Which lists of lost shards a stripe can be rebuilt for, and what `solve` makes of them. Assumes nothing.
use Rattle.std.specs.Prelude.{◌≡◌, Bool, true, false, not, ◌&&◌, List, [], ◌∷◌, ◌≢◌, ℕ, ◌+◌, ◌*◌, ◌≤◌, ◌<◌, eqb, leb, ltb, length, get_or}
use Rattle.codeword.specs.Stripe.{k_least, k_most, m_least, m_most, has}
use Rattle.codeword.specs.Table.{SolvedFor}

-- at most m, each a shard, none named twice
pub record Lost (k m : ℕ) (lost : List ℕ) : Type 0 where
  pub few : length lost ≤ m
  pub shards : (c : ℕ) → c < length lost → get_or lost c 0 < k + m
  pub distinct : (i c : ℕ) → i < c → c < length lost → get_or lost i 0 ≢ get_or lost c 0

-- each number is below n, and none is named twice
abbrev pub shards_of : ℕ → List ℕ → Bool
shards_of n [] = true
shards_of n (a ∷ l) = ltb a n && not (has l a) && shards_of n l

-- k and m are in range, the list is such a list, and `size` is that of a table
unfoldable pub solvable_of : ℕ → ℕ → List ℕ → ℕ → Bool
solvable_of k m lost size =
    leb k_least k && leb k k_most && leb m_least m && leb m m_most && leb (length lost) m && shards_of (k + m) lost && eqb size (m * (k + m))

-- the table is written where there is one, else nothing changes
abbrev pub Solves : Bool → ℕ → ℕ → List ℕ → List ℕ → List ℕ → Type 0
Solves true k m lost b e = SolvedFor k m lost e × (length e ≡ length b)
Solves false k m lost b e = e ≡ b
