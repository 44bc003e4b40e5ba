-- The notion: a field of characteristic 2 on the bytes, with an element g whose powers g^0 .. g^254 are all the elements but 0,
-- each once. A byte is a number below 256; a law with no bound holds of every number. Assumes nothing.
use Rattle.std.specs.Prelude.{◌≡◌, ◌≢◌, ◌⊎◌, ℕ, ◌+◌, ◌%◌, ◌<◌}

pub record ByteField (add mul : ℕ → ℕ → ℕ) (inverse : ℕ → ℕ) (g : ℕ) (power : ℕ → ℕ) : Type 0 where
  -- closed
  pub add_byte : (a b : ℕ) → a < 256 → b < 256 → add a b < 256
  pub mul_byte : (a b : ℕ) → mul a b < 256
  pub inverse_byte : (a : ℕ) → inverse a < 256
  pub power_byte : (i : ℕ) → power i < 256
  -- the sum
  pub add_assoc : (a b c : ℕ) → add (add a b) c ≡ add a (add b c)
  pub add_comm : (a b : ℕ) → add a b ≡ add b a
  pub add_zero : (a : ℕ) → add a 0 ≡ a
  pub add_self : (a : ℕ) → add a a ≡ 0
  -- the product
  pub mul_assoc : (a b c : ℕ) → mul (mul a b) c ≡ mul a (mul b c)
  pub mul_comm : (a b : ℕ) → mul a b ≡ mul b a
  pub mul_one : (a : ℕ) → a < 256 → mul a 1 ≡ a
  pub mul_zero : (a : ℕ) → mul a 0 ≡ 0
  pub mul_add : (a b c : ℕ) → mul a (add b c) ≡ add (mul a b) (mul a c)
  -- division
  pub mul_inverse : (a : ℕ) → a ≢ 0 → a < 256 → mul a (inverse a) ≡ 1
  pub no_divisors : (a b : ℕ) → a < 256 → b < 256 → mul a b ≡ 0 → (a ≡ 0) ⊎ (b ≡ 0)
  -- the powers of g
  pub power_zero : power 0 ≡ 1
  pub power_one : power 1 ≡ g
  pub power_add : (i j : ℕ) → power (i + j) ≡ mul (power i) (power j)
  pub power_mod : (i : ℕ) → power (i % 255) ≡ power i
  pub power_nonzero : (i : ℕ) → power i ≢ 0
  pub power_distinct : (i j : ℕ) → i < 255 → j < 255 → power i ≡ power j → i ≡ j
  pub power_every : (a : ℕ) → a ≢ 0 → a < 256 → (i : ℕ) × (i < 255) × (power i ≡ a)
