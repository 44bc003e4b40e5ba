-- HOW MANY STEPS A WRITE TAKES, in the words of its contract: at most (m + 1)(2c + 1) puts and 2(m + 1) flushes; where the stripe's shards contradicted each other and all of them change, n in m + 1's
-- place. Assumes nothing.
use Rattle.std.specs.Prelude.{Bool, cond, ℕ, ◌+◌}

-- ---- the slots that a write changes

-- the block and the parity are m + 1 shards; all are n
abbrev pub wide : ℕ → ℕ → Bool → ℕ
wide k m all = cond all (k + m) (m + 1)
