-- There is a pivot: were every row from c on 0 at the column of the next lost shard, the equations would have a second solution
-- that differs from the stripe of zeros in lost shards alone. Assumes nothing.
use Rattle.std.specs.Prelude.{◌≡◌, refl, Bool, true, false, cond, List, [], ◌∷◌, ◌≢◌, ℕ, zero, suc, ◌+◌, ◌-◌, ◌≤◌, ◌<◌, eqb, length, get_or}
use Rattle.std.proofs.Common.{sym, ap, ap₂, ◌∙◌, ⊎_elim, eq-or-lt_of_le, eq-zero-or-pos, le_of_suc-le-suc, arith, lit<, eq-eqb}
use Rattle.std.specs.Int.Bits.{bit_xor}
use Rattle.field.specs.Field.{mul_of}
use Rattle.field.proofs.Bytes.{bytes}
use Rattle.codeword.specs.Sum.{total, total_ext, total_byte, total_zero, total_add, total_mul, total_only}
use Rattle.codeword.specs.Stripe.{InRange, coef, Bytes, Holds, has}
use Rattle.codeword.specs.Table.{unit, entry, row_sum, AllZero}
use Rattle.codeword.proofs.Unique.{unique}
use Rattle.codeword.specs.Unit.{one_times, zero_times, unit_same, unit_other}
use Rattle.solve.specs.Lost.{Lost}
use Rattle.solve.specs.Solving.{SolvedTo}

-- j is the first row from c on with an entry at column a that is not 0, or m
pub record Pivot (n m c a : ℕ) (e : List ℕ) (j : ℕ) : Type 0 where
  pub from : c ≤ j
  pub most : j ≤ m
  pub passed : (i : ℕ) → c ≤ i → i < j → entry n e i a ≡ 0
  pub found : j < m → entry n e j a ≢ 0

-- sums of sums in the other order
total_swap : (n c : ℕ) (f : ℕ → ℕ → ℕ) → total n (λ r. total c (f r)) ≡ total c (λ i. total n (λ r. f r i))
unfolding total
total_swap n zero f = total_zero n (λ r. 0) (λ r h. refl)
total_swap n (suc c) f =
    total_add n (λ r. total c (f r)) (λ r. f r c) ∙ ap (λ (x : ℕ). bit_xor x (total n (λ r. f r c))) (total_swap n c f)

-- a row's sum over a vector that is v at b and 0 elsewhere
total_at : (n b v : ℕ) (f : ℕ → ℕ) → b < n → v < 256 → total n (λ r. mul_of (f r) (mul_of (unit r b) v)) ≡ mul_of (f b) v
total_at n b v f h l =
    total_only n b (λ r. mul_of (f r) (mul_of (unit r b) v)) h
    (λ r q ne. ap (λ (u : ℕ). mul_of (f r) (mul_of u v)) (unit_other r b ne) ∙ ap (mul_of (f r)) (zero_times v) ∙ bytes.mul_zero (f r))
    ∙ ap (λ (u : ℕ). mul_of (f b) (mul_of u v)) (unit_same b) ∙ ap (mul_of (f b)) (one_times v l)

has_at : (l : List ℕ) (i : ℕ) → i < length l → has l (get_or l i 0) ≡ true
has_at [] i h = absurd (omega arith)
has_at (a ∷ l) zero h = ap (λ (b : Bool). cond b true (has l a)) (eq-eqb a a refl)
has_at (a ∷ l) (suc i) h =
    ap (λ (b : Bool). cond (eqb a (get_or l i 0)) true b) (has_at l i (le_of_suc-le-suc h)) ∙ either (eqb a (get_or l i 0))
  where
    either : (b : Bool) → cond b true true ≡ true
    either true = refl
    either false = refl

zero_holds : (k m : ℕ) → Holds k m (λ r. 0)
zero_holds k m j h = sym (total_zero k (λ i. mul_of (coef m j i) 0) (λ i l. bytes.mul_zero (coef m j i)))

true_not_false : true ≡ false → ⊥
true_not_false q = let z : ◌≡◌ {A = ℕ} 0 1 = cc in omega arith

-- at the c columns that are solved, what makes up for a 1 at column a
abbrev makes_up : ℕ → ℕ → List ℕ → ℕ → ℕ
makes_up n a e i = mul_of (entry n e i a) 1

-- the vector that would be a second solution
abbrev second : ℕ → ℕ → ℕ → List ℕ → List ℕ → ℕ → ℕ
second n c a lost e r = bit_xor (mul_of (unit r a) 1) (total c (λ i. mul_of (unit r (get_or lost i 0)) (makes_up n a e i)))

module _ (k m c : ℕ) (lost e : List ℕ) (range : InRange k m) (s : Lost k m lost) (t : SolvedTo k m c lost e) (h : c < length lost) where
  abbrev a : ℕ
  a = get_or lost c 0

  abbrev w : ℕ → ℕ
  w = makes_up (k + m) a e

  abbrev x : ℕ → ℕ
  x = second (k + m) c a lost e

  second_sum : (j : ℕ) → j < m → row_sum (k + m) e j x ≡ bit_xor (w j) (total c (λ i. mul_of (unit j i) (w i)))
  second_sum j l =
      total_ext (k + m) (λ r. mul_of (f r) (x r)) (λ r. bit_xor (mul_of (f r) (mul_of (unit r a) 1)) (total c (λ i. g r i)))
      (λ r q. bytes.mul_add (f r) (mul_of (unit r a) 1) (total c (λ i. mul_of (unit r (get_or lost i 0)) (w i)))
      ∙ ap (bit_xor (mul_of (f r) (mul_of (unit r a) 1))) (sym (total_mul c (f r) (λ i. mul_of (unit r (get_or lost i 0)) (w i)))))
      ∙ total_add (k + m) (λ r. mul_of (f r) (mul_of (unit r a) 1)) (λ r. total c (g r))
      ∙ ap₂ bit_xor (total_at (k + m) a 1 f (s.shards c h) (lit< tt))
      (total_swap (k + m) c g
      ∙ total_ext c (λ i. total (k + m) (λ r. g r i)) (λ i. mul_of (unit j i) (w i))
      (λ i q. total_at (k + m) (get_or lost i 0) (w i) f (s.shards i (omega arith)) (bytes.mul_byte (entry (k + m) e i a) 1)
      ∙ ap (λ (u : ℕ). mul_of u (w i)) (t.units i q j l)))
    where
      f : ℕ → ℕ
      f r = entry (k + m) e j r

      g : ℕ → ℕ → ℕ
      g r i = mul_of (f r) (mul_of (unit r (get_or lost i 0)) (w i))

  -- it is one where all rows from c on have 0 at column a
  second_zero : ((j : ℕ) → c ≤ j → j < m → entry (k + m) e j a ≡ 0) → AllZero m (k + m) e x
  second_zero z j l = second_sum j l ∙ ⊎_elim from_c before_c (eq-zero-or-pos (c - j))
    where
      from_c : c - j ≡ 0 → bit_xor (w j) (total c (λ i. mul_of (unit j i) (w i))) ≡ 0
      from_c q =
          ap₂ bit_xor (ap (λ (u : ℕ). mul_of u 1) (z j (omega arith) l) ∙ zero_times 1)
          (total_zero c (λ i. mul_of (unit j i) (w i)) (λ i p. ap (λ (u : ℕ). mul_of u (w i)) (unit_other j i (λ y. omega arith)) ∙ zero_times (w i)))

      before_c : 0 < c - j → bit_xor (w j) (total c (λ i. mul_of (unit j i) (w i))) ≡ 0
      before_c q =
          ap (bit_xor (w j))
          (total_only c j (λ i. mul_of (unit j i) (w i)) (omega arith)
          (λ i p ne. ap (λ (u : ℕ). mul_of u (w i)) (unit_other j i (λ y. ne (sym y))) ∙ zero_times (w i))
          ∙ ap (λ (u : ℕ). mul_of u (w j)) (unit_same j) ∙ one_times (w j) (bytes.mul_byte (entry (k + m) e j a) 1))
          ∙ bytes.add_self (w j)

  rest_zero : (r : ℕ) → ((i : ℕ) → i < c → r ≢ get_or lost i 0) → total c (λ i. mul_of (unit r (get_or lost i 0)) (w i)) ≡ 0
  rest_zero r ne =
      total_zero c (λ i. mul_of (unit r (get_or lost i 0)) (w i))
      (λ i q. ap (λ (u : ℕ). mul_of u (w i)) (unit_other r (get_or lost i 0) (ne i q)) ∙ zero_times (w i))

  second_off : (r : ℕ) → has lost r ≡ false → x r ≡ 0
  second_off r q =
      ap₂ bit_xor (ap (λ (u : ℕ). mul_of u 1) (unit_other r a (apart c h)) ∙ zero_times 1) (rest_zero r (λ i l. apart i (omega arith)))
    where
      apart : (i : ℕ) → i < length lost → r ≢ get_or lost i 0
      apart i l p = true_not_false (sym (has_at lost i l) ∙ ap (has lost) (sym p) ∙ q)

  second_one : x a ≡ 1
  second_one =
      ap₂ bit_xor (ap (λ (u : ℕ). mul_of u 1) (unit_same a) ∙ one_times 1 (lit< tt)) (rest_zero a (λ i l q. s.distinct i c l h (sym q)))

  second_byte : Bytes x
  second_byte r =
      bytes.add_byte (mul_of (unit r a) 1) (total c (λ i. mul_of (unit r (get_or lost i 0)) (w i))) (bytes.mul_byte (unit r a) 1)
      (total_byte c (λ i. mul_of (unit r (get_or lost i 0)) (w i)) (λ i q. bytes.mul_byte (unit r (get_or lost i 0)) (w i)))

  pivot_exists : ((j : ℕ) → c ≤ j → j < m → entry (k + m) e j a ≡ 0) → ⊥
  pivot_exists z =
      let none : x a ≡ 0 =
      unique k m range lost s.few x (λ r. 0) second_byte (λ r. lit< tt) (t.same.back x second_byte (second_zero z)) (zero_holds k m)
      (λ r l q. second_off r q) a (s.shards c h) in
      omega (arith, second_one)

  -- the search finds it
  pub pivot_found : (j : ℕ) → Pivot (k + m) m c (get_or lost c 0) e j → j < m
  pivot_found j p =
      ⊎_elim (λ (q : j ≡ m). absurd (pivot_exists (λ i b l. p.passed i b (omega arith)))) (λ (l : j < m). l) (eq-or-lt_of_le p.most)
