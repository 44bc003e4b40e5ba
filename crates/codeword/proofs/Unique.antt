-- Any k of the k + m shards determine the rest: two sound stripes that agree but for at most m shards agree everywhere. The
-- coefficients enter by `minors` alone. Assumes nothing.
use Rattle.std.specs.Prelude.{◌≡◌, refl, Bool, true, false, not, List, ℕ, ◌+◌, ◌-◌, ◌*◌, ◌≤◌, ◌<◌, length}
use Rattle.std.proofs.Common.{sym, ap, ap₂, ◌∙◌, ⊎_elim, eq-zero-or-pos, arith}
use Rattle.std.specs.Int.Bits.{bit_xor}
use Rattle.field.specs.Field.{mul_of}
use Rattle.field.proofs.Bytes.{bytes}
use Rattle.codeword.specs.Sum.{total_ext, total_zero, total_add}
use Rattle.codeword.specs.Stripe.{InRange, coef, Holds, Bytes, byte_at, Sound, has, AgreeOff, Agree}
use Rattle.codeword.specs.Unit.{sum_zero}
use Rattle.codeword.specs.Chosen.{over, chosen_falls, chosen_all, chosen_at, chosen_sum}
use Rattle.codeword.specs.Minors.{Minors}
use Rattle.codeword.proofs.Minors.{minors}
use Rattle.codeword.specs.Unique.{sum, shards, kept, rows, AllBytes}
use Rattle.codeword.proofs.Enough.{enough}

sum_holds : (k m : ℕ) (x y : ℕ → ℕ) → Holds k m x → Holds k m y → Holds k m (sum x y)
sum_holds k m x y hx hy j l =
    ap₂ bit_xor (hx j l) (hy j l) ∙ sym (total_add k (λ i. mul_of (coef m j i) (x i)) (λ i. mul_of (coef m j i) (y i)))
    ∙ total_ext k (λ i. bit_xor (mul_of (coef m j i) (x i)) (mul_of (coef m j i) (y i))) (λ i. mul_of (coef m j i) (sum x y i))
    (λ i h. sym (bytes.mul_add (coef m j i) (x i) (y i)))

sum_of_same : (a b : ℕ) → a ≡ b → bit_xor a b ≡ 0
sum_of_same a b e = ap (λ (c : ℕ). bit_xor c b) e ∙ bytes.add_self b

times_zero : (c a : ℕ) → a ≡ 0 → mul_of c a ≡ 0
times_zero c a e = ap (mul_of c) e ∙ bytes.mul_zero c

not_true : (b : Bool) → not b ≡ true → b ≡ false
not_true true e = sym e
not_true false e = refl

-- ---- a position that is 0 off the lost shards is 0

module _ (k m : ℕ) (table : Minors k m) (lost : List ℕ) (few : length lost ≤ m) (z : ℕ → ℕ) (bz : Bytes z) (hz : Holds k m z)
    (off : (r : ℕ) → r < k + m → has lost r ≡ false → z r ≡ 0) where
  data_zero : (i : ℕ) → i < k → z i ≡ 0
  data_zero i h = go (has lost i) refl
    where
      go : (b : Bool) → has lost i ≡ b → z i ≡ 0
      go false e = off i (omega arith) e
      go true e =
          chosen_at (has lost) (λ i. z i ≡ 0) k
          (table (rows k m table lost few z bz hz off) (shards k m table lost few z bz hz off) (chosen_falls (kept k m table lost few z bz hz off) m m (omega arith)) (chosen_falls (has lost) k k (omega arith)) (enough k m table lost few z bz hz off) z bz
          (chosen_all (kept k m table lost few z bz hz off) (λ j. over (shards k m table lost few z bz hz off) (λ i. mul_of (coef m j i) (z i)) ≡ 0) m
          (λ j l t.
          sym (chosen_sum (has lost) (λ i. mul_of (coef m j i) (z i)) k (λ i l n. times_zero (coef m j i) (z i) (off i (omega arith) n))) ∙ sym (hz j l)
          ∙ off (k + j) (omega arith) (not_true (has lost (k + j)) t)))) i h e

  all_zero_lem : (r : ℕ) → r < k + m → z r ≡ 0
  all_zero_lem r h = ⊎_elim late (λ l. data_zero r (omega arith)) (eq-zero-or-pos (k - r))
    where
      late : k - r ≡ 0 → z r ≡ 0
      late e =
          let q : r ≡ k + (r - k) = omega arith in
          ap z q ∙ hz (r - k) (omega arith) ∙ total_zero k (λ i. mul_of (coef m (r - k) i) (z i)) (λ i l. times_zero (coef m (r - k) i) (z i) (data_zero i l))

-- ---- the theorem at a position, and of stripes

pub unique : (k m : ℕ) → InRange k m → (lost : List ℕ) → length lost ≤ m → (x y : ℕ → ℕ) → Bytes x → Bytes y → Holds k m x → Holds k m y
    → ((r : ℕ) → r < k + m → has lost r ≡ false → x r ≡ y r) → (r : ℕ) → r < k + m → x r ≡ y r
unique k m range lost few x y bx by hx hy off r h =
    sum_zero (x r) (y r)
    (all_zero_lem k m (minors k m range) lost few (sum x y) (λ i. bytes.add_byte (x i) (y i) (bx i) (by i)) (sum_holds k m x y hx hy)
    (λ i l n. sum_of_same (x i) (y i) (off i l n)) r h)

pub determined : (k m len : ℕ) → InRange k m → (lost : List ℕ) → length lost ≤ m → (s t : List ℕ) → AllBytes s → AllBytes t
    → Sound k m len s → Sound k m len t → AgreeOff (k + m) len lost s t → Agree (k + m) len s t
determined k m len range lost few s t bs bt hs ht off r h n p l =
    unique k m range lost few (byte_at len s p) (byte_at len t p) (λ i. bs (i * len + p)) (λ i. bt (i * len + p)) (hs p l) (ht p l)
    (λ i g e. off i g e p l) r h
