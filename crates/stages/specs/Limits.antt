-- The numbers of this crate, each named once for the contracts. Assumes nothing.
use Rattle.std.specs.Prelude.{ℕ}

-- more stages than any request has
abbrev pub most_stages : ℕ
most_stages = 14
