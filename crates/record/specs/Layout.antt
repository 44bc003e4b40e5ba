-- The layout of a record's sectors, each number named once. docs/LOG.md has the whole, byte by byte. Assumes nothing.
use Rattle.std.specs.Prelude.{ℕ, ◌-◌}
use Rattle.disk.specs.Limits.{sector_bytes}

-- each sector begins with the stamp; behind it a log sector has the first bytes of a sector of the strip
abbrev pub stamp_length : ℕ
stamp_length = 16

abbrev pub body : ℕ
body = sector_bytes - stamp_length

-- in the tail
abbrev pub stripe_at : ℕ
stripe_at = 16

abbrev pub shards_at : ℕ
shards_at = 24

-- from here on the last bytes of each of the strip's sectors
abbrev pub rests_at : ℕ
rests_at = 32

abbrev pub rest : ℕ
rest = sector_bytes - body
