-- CRC-32C bit by bit: the reflected one, start and final exclusive or 0xffffffff. Assumes nothing.
use Rattle.std.specs.Prelude.{List, [], ◌∷◌, ℕ, zero, suc, ◌/◌, ◌%◌}
use Rattle.std.specs.Int.Bits.{bit_xor}

abbrev pub polynomial : ℕ
polynomial = 0x82f63b78

abbrev pub all_ones : ℕ
all_ones = 0xffffffff

-- `a` where the digit is 1, and 0 where it is 0
abbrev pub pick : ℕ → ℕ → ℕ
pick zero a = 0
pick (suc d) a = a

-- one bit: shift right, and where a 1 falls out, exclusive or with the polynomial
unfoldable pub step : ℕ → ℕ
step c = bit_xor (c / 2) (pick (c % 2) polynomial)

unfoldable pub steps : ℕ → ℕ → ℕ
steps zero c = c
steps (suc n) c = steps n (step c)

-- the register c after the bytes of a list: eight bits a byte
unfoldable pub run : ℕ → List ℕ → ℕ
run c [] = c
run c (b ∷ l) = run (steps 8 (bit_xor c b)) l

unfoldable pub crc_of : List ℕ → ℕ
crc_of l = bit_xor (run all_ones l) all_ones
