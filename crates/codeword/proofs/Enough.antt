-- There are as many rows as shards to find, where at most m are lost. Assumes nothing.
use Rattle.std.specs.Prelude.{◌≡◌, false, List, ℕ, ◌+◌, ◌≤◌, ◌<◌, length}
use Rattle.std.proofs.Common.{arith}
use Rattle.codeword.specs.Stripe.{Holds, Bytes, has}
use Rattle.codeword.specs.Chosen.{chosen_length, count_split, count_not, has_few}
use Rattle.codeword.specs.Minors.{Minors}
use Rattle.codeword.specs.Unique.{shards, kept, rows}

module _ (k m : ℕ) (table : Minors k m) (lost : List ℕ) (few : length lost ≤ m) (z : ℕ → ℕ) (bz : Bytes z) (hz : Holds k m z)
    (off : (r : ℕ) → r < k + m → has lost r ≡ false → z r ≡ 0) where
  -- each lost parity shard takes one row away, and leaves one shard less to be lost among the data
  pub enough : length (shards k m table lost few z bz hz off) ≤ length (rows k m table lost few z bz hz off)
  enough =
      omega (arith, chosen_length (has lost) k, chosen_length (kept k m table lost few z bz hz off) m, has_few lost (k + m), count_split (has lost) k m, count_not (λ j. has lost (k + j)) m)
