-- What a solved table is for: a row gives its lost shard from the others, and whether one shard alone can be to blame for a
-- position is told by the rows that leave it out. Assumes nothing.
use Rattle.std.specs.Prelude.{◌≡◌, refl, Bool, true, false, cond, List, ◌≢◌, ℕ, ◌+◌, ◌<◌, eqb, length, get_or}
use Rattle.std.proofs.Common.{sym, ap, ap₂, ◌∙◌, eq-eqb, ne_eqb}
use Rattle.std.specs.Int.Bits.{bit_xor}
use Rattle.field.specs.Field.{mul_of}
use Rattle.field.proofs.Bytes.{bytes}
use Rattle.codeword.specs.Sum.{total, total_ext, total_byte, except, except_byte, except_ext, total_except}
use Rattle.codeword.specs.Stripe.{Holds, Bytes}
use Rattle.codeword.specs.Unit.{one_times, zero_times, sum_zero, unit_same, unit_other}
use Rattle.codeword.specs.Table.{entry, row_sum, SolvedFor}

-- x with v for shard a
unfoldable pub put : ℕ → ℕ → (ℕ → ℕ) → ℕ → ℕ
put a v x r = cond (eqb r a) v (x r)

pub put_at : (a v : ℕ) (x : ℕ → ℕ) → put a v x a ≡ v
unfolding put
put_at a v x = ap (λ (b : Bool). cond b v (x a)) (eq-eqb a a refl)

pub put_off : (a v r : ℕ) (x : ℕ → ℕ) → r ≢ a → put a v x r ≡ x r
unfolding put
put_off a v r x n = ap (λ (b : Bool). cond b v (x r)) (ne_eqb r a n)

pub put_bytes : (a v : ℕ) (x : ℕ → ℕ) → v < 256 → Bytes x → Bytes (put a v x)
unfolding put
put_bytes a v x h b r = go (eqb r a)
  where
    go : (t : Bool) → cond t v (x r) < 256
    go true = h
    go false = b r

-- there is a byte for shard a with which the equations hold
abbrev pub Mended : ℕ → ℕ → (ℕ → ℕ) → ℕ → Type 0
Mended k m x a = (v : ℕ) × (v < 256) × Holds k m (put a v x)

-- the sum of row j over the other shards
abbrev pub others : ℕ → List ℕ → ℕ → ℕ → (ℕ → ℕ) → ℕ
others n e j a x = total n (except a (λ r. mul_of (entry n e j r) (x r)))

pub others_byte : (n : ℕ) (e : List ℕ) (j a : ℕ) (x : ℕ → ℕ) → others n e j a x < 256
others_byte n e j a x =
    total_byte n (except a (λ r. mul_of (entry n e j r) (x r)))
    (λ i l. except_byte a (λ r. mul_of (entry n e j r) (x r)) (λ r. bytes.mul_byte (entry n e j r) (x r)) i)

-- the others don't depend on shard a
pub others_put : (n : ℕ) (e : List ℕ) (j a v : ℕ) (x : ℕ → ℕ) → others n e j a (put a v x) ≡ others n e j a x
others_put n e j a v x =
    total_ext n (except a (λ r. mul_of (entry n e j r) (put a v x r))) (except a (λ r. mul_of (entry n e j r) (x r)))
    (λ i l. except_ext a (λ r. mul_of (entry n e j r) (put a v x r)) (λ r. mul_of (entry n e j r) (x r)) i
    (λ q. ap (mul_of (entry n e j i)) (put_off a v i x q)))

pub row_is : (n : ℕ) (e : List ℕ) (j a : ℕ) (x : ℕ → ℕ) → a < n → row_sum n e j x ≡ bit_xor (mul_of (entry n e j a) (x a)) (others n e j a x)
row_is n e j a x h = total_except n a (λ r. mul_of (entry n e j r) (x r)) h

-- ---- a table solved for a list: row c gives the list's shard c

pub by_one : (u v : ℕ) → v < 256 → u ≡ 1 → mul_of u v ≡ v
by_one u v h e = ap (λ (z : ℕ). mul_of z v) e ∙ one_times v h

pub by_zero : (u v : ℕ) → u ≡ 0 → mul_of u v ≡ 0
by_zero u v e = ap (λ (z : ℕ). mul_of z v) e ∙ zero_times v

module _ (k m : ℕ) (lost e : List ℕ) (s : SolvedFor k m lost e) where
  -- row c with v for its shard
  pub solved_row : (c v : ℕ) (x : ℕ → ℕ) → c < length lost → c < m → get_or lost c 0 < k + m → v < 256
      → row_sum (k + m) e c (put (get_or lost c 0) v x) ≡ bit_xor v (others (k + m) e c (get_or lost c 0) x)
  solved_row c v x hc hm ha hv =
      let a : ℕ = get_or lost c 0 in
      row_is (k + m) e c a (put a v x) ha
      ∙ ap₂ bit_xor
      (ap (mul_of (entry (k + m) e c a)) (put_at a v x) ∙ by_one (entry (k + m) e c a) v hv (s.units c hc c hm ∙ unit_same c))
      (others_put (k + m) e c a v x)

  -- another row doesn't mind
  pub solved_other : (c j v : ℕ) (x : ℕ → ℕ) → c < length lost → j < m → j ≢ c → get_or lost c 0 < k + m
      → row_sum (k + m) e j (put (get_or lost c 0) v x) ≡ row_sum (k + m) e j x
  solved_other c j v x hc hj n ha =
      let a : ℕ = get_or lost c 0 in
      let z : entry (k + m) e j a ≡ 0 = s.units c hc j hj ∙ unit_other j c n in
      row_is (k + m) e j a (put a v x) ha
      ∙ ap₂ bit_xor (by_zero (entry (k + m) e j a) (put a v x a) z ∙ sym (by_zero (entry (k + m) e j a) (x a) z)) (others_put (k + m) e j a v x)
      ∙ sym (row_is (k + m) e j a x ha)

  -- the shard is the row's sum over the others, where the row is 0
  pub row_gives : (c : ℕ) (x : ℕ → ℕ) → c < length lost → c < m → get_or lost c 0 < k + m → x (get_or lost c 0) < 256
      → row_sum (k + m) e c x ≡ 0 → x (get_or lost c 0) ≡ others (k + m) e c (get_or lost c 0) x
  row_gives c x hc hm ha b z =
      let a : ℕ = get_or lost c 0 in
      sum_zero (x a) (others (k + m) e c a x)
      (ap (λ (z : ℕ). bit_xor z (others (k + m) e c a x)) (sym (by_one (entry (k + m) e c a) (x a) b (s.units c hc c hm ∙ unit_same c)))
      ∙ sym (row_is (k + m) e c a x ha) ∙ z)
