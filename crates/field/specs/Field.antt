-- The field of document 01, section 1: what the sum, the product, the powers of g and the inverse mean. An element is a number
-- below 256, whose bits are the coefficients of a polynomial; the sum is exclusive or, `bit_xor`. In a product a number counts
-- by its low 8 bits, so that most laws hold of all numbers. Whoever uses the field uses the laws of `ByteField`, not this text.
-- Assumes nothing.
use Rattle.std.specs.Prelude.{ℕ, zero, suc, ◌*◌, ◌/◌, ◌%◌}
use Rattle.std.specs.Int.Bits.{bit_xor}

-- x^8 modulo x^8 + x^4 + x^3 + x^2 + 1, which is 0x11d
abbrev pub reduction : ℕ
reduction = 0x1d

-- a where the bit is 1, and 0 where it is 0
abbrev pub pick : ℕ → ℕ → ℕ
pick zero a = 0
pick (suc n) a = a

-- times 2: shift left by one; if a 1 left bit 7, exclusive-or 0x1d
abbrev pub double_of : ℕ → ℕ
double_of a = bit_xor (a * 2 % 256) (pick (a / 128 % 2) reduction)

-- the sum of a, a * 2, a * 2 * 2, .. over the n low bits of b that are 1
abbrev pub mul_bits : ℕ → ℕ → ℕ → ℕ
mul_bits zero a b = 0
mul_bits (suc n) a b = bit_xor (pick (b % 2) a) (mul_bits n (double_of a) (b / 2))

-- the product
unfoldable pub mul_of : ℕ → ℕ → ℕ
mul_of a b = mul_bits 8 (a % 256) (b % 256)

-- the element whose powers are all that are not 0
abbrev pub g : ℕ
g = 2

-- g to the power n
unfoldable pub power_of : ℕ → ℕ
power_of zero = 1
power_of (suc n) = mul_of g (power_of n)

-- 1 / a, as a to the power 254; 0 for 0, which has none
unfoldable pub inverse_of : ℕ → ℕ
inverse_of a =
    let a2 : ℕ = mul_of a a in
    let a3 : ℕ = mul_of a2 a in
    let a6 : ℕ = mul_of a3 a3 in
    let a12 : ℕ = mul_of a6 a6 in
    let a15 : ℕ = mul_of a12 a3 in
    let a30 : ℕ = mul_of a15 a15 in
    let a60 : ℕ = mul_of a30 a30 in
    let a120 : ℕ = mul_of a60 a60 in
    let a240 : ℕ = mul_of a120 a120 in
    mul_of (mul_of a240 a12) a2
