-- The one-byte stripe of document 01, section 5: 01, 02, 04, 08 have the parities 0f, 55, 73. Assumes nothing.
use Rattle.std.specs.Prelude.{◌≡◌, [], ◌∷◌, ℕ, ◌+◌, ◌*◌, ◌^◌, ◌<◌, get_or}
use Rattle.std.proofs.Common.{sym, ap, ◌∙◌, lit<}
use Rattle.std.specs.Int.Bits.{bit_xor}
use Rattle.field.specs.Field.{mul_of, power_of}
use Rattle.field.proofs.Bytes.{bytes}
use Rattle.field.proofs.Vectors.{power_bit, power_nine}
use Rattle.codeword.specs.Sum.{total_four}
use Rattle.codeword.specs.Stripe.{coef, parity_of}

small : ℕ → ℕ
small i = get_or (0x01 ∷ 0x02 ∷ 0x04 ∷ 0x08 ∷ []) i 0

-- shard i holds g^i, so that row j multiplies it to g^(i*j + i)
term : (j i : ℕ) → i < 8 → {v : ℕ} → power_of (i * j + i) ≡ v → mul_of (coef 3 j i) (2 ^ i) ≡ v
unfolding coef
term j i h e = ap (mul_of (power_of (i * j))) (sym (power_bit i h)) ∙ sym (bytes.power_add (i * j) i) ∙ e

row : (j : ℕ) {a b c d : ℕ} → power_of (0 * j + 0) ≡ a → power_of (1 * j + 1) ≡ b → power_of (2 * j + 2) ≡ c → power_of (3 * j + 3) ≡ d
    → parity_of 4 3 j small ≡ bit_xor (bit_xor (bit_xor a b) c) d
unfolding small
row j ea eb ec ed =
    total_four (λ i. mul_of (coef 3 j i) (small i)) (term j 0 (lit< tt) ea) (term j 1 (lit< tt) eb) (term j 2 (lit< tt) ec) (term j 3 (lit< tt) ed)

worked : (parity_of 4 3 0 small ≡ 0x0f) × (parity_of 4 3 1 small ≡ 0x55) × (parity_of 4 3 2 small ≡ 0x73)
worked = (
  row 0 bytes.power_zero (power_bit 1 (lit< tt)) (power_bit 2 (lit< tt)) (power_bit 3 (lit< tt)),
  row 1 bytes.power_zero (power_bit 2 (lit< tt)) (power_bit 4 (lit< tt)) (power_bit 6 (lit< tt)),
  row 2 bytes.power_zero (power_bit 3 (lit< tt)) (power_bit 6 (lit< tt)) power_nine,
)
