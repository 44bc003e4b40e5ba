-- The code's own table says the equations. Assumes nothing.
use Rattle.std.specs.Prelude.{◌≡◌, Bool, true, false, cond, List, ℕ, ◌+◌, ◌<◌, ltb}
use Rattle.std.proofs.Common.{sym, ap, ap₂, ◌∙◌, arith, lt-ltb, le-ltb}
use Rattle.std.specs.Int.Bits.{bit_xor}
use Rattle.field.specs.Field.{mul_of}
use Rattle.field.proofs.Bytes.{bytes}
use Rattle.codeword.specs.Sum.{total_ext, total_only, total_split}
use Rattle.codeword.specs.Stripe.{coef, parity_of, Bytes}
use Rattle.codeword.specs.Table.{unit, column, entry, row_sum, Columns, Equivalent}
use Rattle.codeword.specs.Unit.{one_times, zero_times, sum_zero, unit_same, unit_other}

column_is : (k m r j : ℕ) (b : Bool) → ltb r k ≡ b → column k m r j ≡ cond b (coef m j r) (unit r (k + j))
column_is k m r j b q = ap (λ (b : Bool). cond b (coef m j r) (unit r (k + j))) q

column_parity : (k m i j : ℕ) → column k m (k + i) j ≡ unit (k + i) (k + j)
column_parity k m i j = column_is k m (k + i) j false (le-ltb (k + i) k (omega arith))

columns_sum : (k m : ℕ) (e : List ℕ) → Columns k m e → (x : ℕ → ℕ) → Bytes x → (j : ℕ) → j < m
    → row_sum (k + m) e j x ≡ bit_xor (parity_of k m j x) (x (k + j))
columns_sum k m e w x bx j h =
    total_ext (k + m) (λ r. mul_of (entry (k + m) e j r) (x r)) (λ r. mul_of (column k m r j) (x r)) (λ r l. times r (w j h r l))
    ∙ total_split k m (λ r. mul_of (column k m r j) (x r))
    ∙ ap₂ bit_xor (total_ext k (λ r. mul_of (column k m r j) (x r)) (λ r. mul_of (coef m j r) (x r)) (λ r l. times r (column_is k m r j true (lt-ltb r k l))))
    (total_only m j (λ i. mul_of (column k m (k + i) j) (x (k + i))) h
    (λ i l ne. times (k + i) (column_parity k m i j ∙ unit_other (k + i) (k + j) (λ q. ne (omega arith))) ∙ zero_times (x (k + i)))
    ∙ times (k + j) (column_parity k m j j ∙ unit_same (k + j)) ∙ one_times (x (k + j)) (bx (k + j)))
  where
    times : (r : ℕ) {u v : ℕ} → u ≡ v → mul_of u (x r) ≡ mul_of v (x r)
    times r q = ap (λ (v : ℕ). mul_of v (x r)) q

pub columns_same : (k m : ℕ) (e : List ℕ) → Columns k m e → Equivalent k m e
columns_same k m e w =
    record {
      forth = λ x bx z j h. columns_sum k m e w x bx j h ∙ ap (bit_xor (parity_of k m j x)) (z j h) ∙ bytes.add_self (parity_of k m j x);
      back = λ x bx z j h. sym (sum_zero (parity_of k m j x) (x (k + j)) (sym (columns_sum k m e w x bx j h) ∙ z j h));
    }
