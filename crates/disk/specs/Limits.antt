-- The limits of a shelf, each named once. Assumes nothing.
use Rattle.std.specs.Prelude.{ℕ, ◌+◌}

-- data shards, parity shards, slots
abbrev pub least_k : ℕ
least_k = 2

abbrev pub most_k : ℕ
most_k = 16

abbrev pub least_m : ℕ
least_m = 1

abbrev pub most_m : ℕ
most_m = 3

abbrev pub least_n : ℕ
least_n = least_k + least_m

abbrev pub most_n : ℕ
most_n = most_k + most_m

-- the most sectors of a strip
abbrev pub most_c : ℕ
most_c = 8

-- the most sectors of a disk
abbrev pub most_sectors : ℕ
most_sectors = 16777216

-- the bytes of a sector
abbrev pub sector_bytes : ℕ
sector_bytes = 512

-- the log area begins here; before it stand the two copies of the label
abbrev pub first_log : ℕ
first_log = 2

-- the strips begin here, behind the log area
abbrev pub first_strip : ℕ
first_strip = 66

-- the bits of a mask of slots
abbrev pub mask_bits : ℕ
mask_bits = 64
