-- The refusals of document 01, section 7: which shapes and which lists of missing shards are taken. Assumes nothing.
use Rattle.std.specs.Prelude.{◌≡◌, Bool, cond, ◌&&◌, List, ℕ, ◌+◌, ◌*◌, ◌≤◌, eqb, leb, length, Ok, Err}
use Rattle.codeword.specs.Stripe.{k_least, k_most, m_least, m_most, len_most, InRange}
use Rattle.solve.specs.Lost.{shards_of}
use Rattle.field.specs.declared.Refusal.TheVariants.{BadShape, TooMany, BadShard}
use Rattle.field.specs.Refusal.{Answer}

-- k, m and the shards' length are in range, and the buffer is exactly as long as its shards
unfoldable pub shaped_of : ℕ → ℕ → ℕ → ℕ → Bool
shaped_of k m len size =
    leb k_least k && leb k k_most && leb m_least m && leb m m_most && leb 1 len && leb len len_most && eqb size ((k + m) * len)

-- the answer to encode
abbrev pub encode_answer : ℕ → ℕ → ℕ → ℕ → Answer
encode_answer k m len size = cond (shaped_of k m len size) (Ok tt) (Err BadShape)

-- the answer to rebuild
abbrev pub rebuild_answer : ℕ → ℕ → ℕ → ℕ → List ℕ → Answer
rebuild_answer k m len size missing =
    cond (shaped_of k m len size)
    (cond (leb (length missing) m) (cond (shards_of (k + m) missing) (Ok tt) (Err BadShard)) (Err TooMany))
    (Err BadShape)

-- what a shape that is taken means
pub record Shaped (k m len size : ℕ) : Type 0 where
  pub range : InRange k m
  pub len_least : 1 ≤ len
  pub len_most_lem : len ≤ len_most
  pub whole : size ≡ (k + m) * len
