-- The worked values of document 01: those of section 1, and what the examples of sections 4 and 5 multiply. The latter are laws for
-- the crates above, which never compute a product. Assumes nothing.
use Rattle.std.specs.Prelude.{◌≡◌, refl, ℕ, ◌^◌, ◌<◌, eqb}
use Rattle.std.proofs.Common.{eqb→eq}
use Rattle.bits.specs.Below.{at}
use Rattle.field.specs.Field.{double_of, mul_of, power_of, inverse_of}

products : (double_of 0x80 ≡ 0x1d) × (mul_of 0x80 2 ≡ 0x1d) × (mul_of 0x53 0xca ≡ 0x8f) × (mul_of 0xff 0xff ≡ 0xe2)
unfolding mul_of
products = (refl, refl, refl, refl)

quotient : mul_of 1 (inverse_of 2) ≡ 0x8e
unfolding mul_of inverse_of
quotient = refl

powers : (power_of 8 ≡ 0x1d) × (power_of 25 ≡ 0x03) × (power_of 254 ≡ 0x8e)
unfolding mul_of power_of
powers = (refl, refl, refl)

-- ---- sections 4 and 5

-- below g^8 nothing is reduced: g^i is the bit i
pub power_bit : (i : ℕ) → i < 8 → power_of i ≡ 2 ^ i
unfolding mul_of power_of
power_bit i h = eqb→eq (power_of i) (2 ^ i) (at 8 (λ i. eqb (power_of i) (2 ^ i)) tt i h)

-- the one power in section 5 that is reduced
pub power_nine : power_of 9 ≡ 0x3a
unfolding mul_of power_of
power_nine = refl

-- section 4: g times the wrong 0x7b of shard 1
pub g_times_7b : mul_of 2 0x7b ≡ 0xf6
unfolding mul_of
g_times_7b = refl

-- section 4: g^3 times the 0x7a that shard 3 is accused of
pub g3_times_7a : mul_of 8 0x7a ≡ 0xf7
unfolding mul_of
g3_times_7a = refl
