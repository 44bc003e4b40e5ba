-- The coefficients: any rows of them determine as many data shards. `Minors` says so of a shape, and `minors` proves it of each
-- that is in range; nothing else about the coefficients is used elsewhere. Assumes nothing.
use Rattle.std.specs.Prelude.{◌≡◌, refl, List, [], ◌∷◌, ◌≢◌, ℕ, ◌+◌, ◌-◌, ◌*◌, ◌≤◌, ◌<◌}
use Rattle.std.proofs.Common.{sym, ap, ◌∙◌, ⊎_elim, mul-le-mul_right, mul-add, suc-mul, arith}
use Rattle.std.specs.Int.Bits.{bit_xor}
use Rattle.algebra.specs.Ring.{zer, one, ◌⊕◌, ◌⊗◌, none, given}
use Rattle.algebra.specs.Field.{X, Y, Z, P, Q, S, U, K}
use Rattle.field.specs.Field.{mul_of, power_of}
use Rattle.field.proofs.Bytes.{bytes}
use Rattle.field.specs.Solve.{eqn}
use Rattle.field.proofs.Solve.{solve_from}
use Rattle.codeword.specs.Stripe.{k_most, m_most, InRange, coef, Bytes}
use Rattle.codeword.specs.Unit.{sum_zero}
use Rattle.codeword.specs.Chosen.{Falling}
use Rattle.codeword.specs.Minors.{Minors, row, Zeros, factor, without}

without_bytes : (d c : ℕ) (x : ℕ → ℕ) → Bytes (without d c x)
without_bytes d c x i = bytes.mul_byte (factor d c i) (x i)

module _ (u d c : ℕ) (x : ℕ → ℕ) where
  power_split : (i : ℕ) → power_of (i * (u + d)) ≡ mul_of (power_of (i * u)) (power_of (i * d))
  power_split i = ap power_of (mul-add i u d) ∙ bytes.power_add (i * u) (i * d)

  put : (l : List ℕ) → row u l (without d c x) ≡ bit_xor (row (u + d) l x) (mul_of (power_of (c * d)) (row u l x))
  put [] = sym (bytes.mul_zero (power_of (c * d)))
  put (i ∷ l) =
      solve_from
      (power_of (i * u) ∷ power_of (i * d) ∷ power_of (c * d) ∷ x i ∷ power_of (i * (u + d)) ∷ row u l x ∷ row (u + d) l x ∷ row u l (without d c x) ∷ [])
      (X ⊗ ((Y ⊕ Z) ⊗ P) ⊕ K) ((Q ⊗ P ⊕ U) ⊕ Z ⊗ (X ⊗ P ⊕ S))
      (given P Q (X ⊗ Y) (eqn (power_split i)) (given one K (U ⊕ Z ⊗ S) (eqn (put l)) none)) tt

  -- of two rows that are 0 with shard c, one is left without
  taken_out : (l : List ℕ) → row u (c ∷ l) x ≡ 0 → row (u + d) (c ∷ l) x ≡ 0 → row u l (without d c x) ≡ 0
  taken_out l e f =
      solve_from
      (power_of (c * u) ∷ power_of (c * d) ∷ x c ∷ power_of (c * (u + d)) ∷ row u l x ∷ row (u + d) l x ∷ row u l (without d c x) ∷ []) U zer
      (given one U (S ⊕ Y ⊗ Q) (eqn (put l))
      (given Y (X ⊗ Z ⊕ Q) zer (eqn e) (given one (P ⊗ Z ⊕ S) zer (eqn f) (given Z P (X ⊗ Y) (eqn (power_split c)) none)))) tt

other_zero : (a b : ℕ) → a ≢ 0 → a < 256 → b < 256 → mul_of a b ≡ 0 → b ≡ 0
other_zero a b n ha hb e = ⊎_elim (λ z. absurd (n z)) (λ z. z) (bytes.no_divisors a b ha hb e)

factor_nonzero : (d c i : ℕ) → 0 < d → d < m_most → i < c → c < k_most → factor d c i ≢ 0
factor_nonzero d c i hd hd' hi hc e =
    let q : power_of (i * d) ≡ power_of (c * d) = sum_zero (power_of (i * d)) (power_of (c * d)) e in
    let l : c * d ≤ k_most * d = mul-le-mul_right d (omega arith) in
    let s : i * d < c * d = omega (arith, mul-le-mul_right d hi, suc-mul i d) in
    let z : i * d ≡ c * d = bytes.power_distinct (i * d) (c * d) (omega arith) (omega arith) q in
    omega arith

zeros_back : (d c : ℕ) (x : ℕ → ℕ) → Bytes x → 0 < d → d < m_most → c < k_most → (b : ℕ) (l : List ℕ) → b ≤ c → Falling b l
    → Zeros l (without d c x) → Zeros l x
zeros_back d c x bx hd hd' hc b [] h f z = tt
zeros_back d c x bx hd hd' hc b (i ∷ l) h f z = (
  other_zero (factor d c i) (x i) (factor_nonzero d c i hd hd' (omega arith) hc)
      (bytes.add_byte (power_of (i * d)) (power_of (c * d)) (bytes.power_byte (i * d)) (bytes.power_byte (c * d))) (bx i) z.0,
  zeros_back d c x bx hd hd' hc i l (omega arith) f.1 z.1,
)

row_zero : (j : ℕ) (l : List ℕ) (x : ℕ → ℕ) → Zeros l x → row j l x ≡ 0
row_zero j [] x z = refl
row_zero j (i ∷ l) x z =
    solve_from (power_of (i * j) ∷ x i ∷ row j l x ∷ []) (X ⊗ Y ⊕ Z) zer
    (given X Y zer (eqn z.0) (given one Z zer (eqn (row_zero j l x z.1)) none)) tt

-- where the other shards are 0, a row gives the last
last_zero : (j c : ℕ) (l : List ℕ) (x : ℕ → ℕ) → Bytes x → row j (c ∷ l) x ≡ 0 → Zeros l x → Zeros (c ∷ l) x
last_zero j c l x bx e z = (
  other_zero (power_of (c * j)) (x c) (bytes.power_nonzero (c * j)) (bytes.power_byte (c * j)) (bx c)
      (solve_from (power_of (c * j) ∷ x c ∷ row j l x ∷ []) (X ⊗ Y) zer
      (given one (X ⊗ Y ⊕ Z) zer (eqn e) (given one Z zer (eqn (row_zero j l x z)) none)) tt),
  z,
)

-- ---- one, two and three shards

two : (u v a b : ℕ) (x : ℕ → ℕ) → Bytes x → u < v → v < m_most → b < a → a < k_most → row u (a ∷ b ∷ []) x ≡ 0 → row v (a ∷ b ∷ []) x ≡ 0
    → Zeros (a ∷ b ∷ []) x
two u v a b x bx h h' hb ha e f =
    let d : ℕ = v - u in
    let q : v ≡ u + d = omega arith in
    let y : ℕ → ℕ = without d a x in
    last_zero u a (b ∷ []) x bx e
    (zeros_back d a x bx (omega arith) (omega arith) ha a (b ∷ []) (omega arith) (hb, tt)
    (last_zero u b [] y (without_bytes d a x) (taken_out u d a x (b ∷ []) e (ap (λ (j : ℕ). row j (a ∷ b ∷ []) x) (sym q) ∙ f)) tt))

three : (a b c : ℕ) (x : ℕ → ℕ) → Bytes x → c < b → b < a → a < k_most
    → row 0 (a ∷ b ∷ c ∷ []) x ≡ 0 → row 1 (a ∷ b ∷ c ∷ []) x ≡ 0 → row 2 (a ∷ b ∷ c ∷ []) x ≡ 0 → Zeros (a ∷ b ∷ c ∷ []) x
three a b c x bx hc hb ha e f g =
    last_zero 0 a (b ∷ c ∷ []) x bx e
    (zeros_back 1 a x bx (omega arith) (omega arith) ha a (b ∷ c ∷ []) (omega arith) (hb, (hc, tt))
    (two 0 1 b c (without 1 a x) (without_bytes 1 a x) (omega arith) (omega arith) hc (omega arith)
    (taken_out 0 1 a x (b ∷ c ∷ []) e f) (taken_out 1 1 a x (b ∷ c ∷ []) f g)))

pub minors : (k m : ℕ) → InRange k m → Minors k m
unfolding coef
minors k m r rows [] fr fs h x bx s = tt
minors k m r [] (a ∷ l) fr fs h x bx s = absurd (omega arith)
minors k m r (j ∷ rows) (a ∷ []) fr fs h x bx s = last_zero j a [] x bx s.0 tt
minors k m r (j ∷ []) (a ∷ b ∷ l) fr fs h x bx s = absurd (omega arith)
minors k m r (v ∷ u ∷ rows) (a ∷ b ∷ []) fr fs h x bx s =
    two u v a b x bx (omega arith) (omega arith) (omega arith) (omega arith) s.1.0 s.0
minors k m r (v ∷ u ∷ []) (a ∷ b ∷ c ∷ l) fr fs h x bx s = absurd (omega arith)
minors k m r (w ∷ v ∷ u ∷ rows) (a ∷ b ∷ c ∷ []) fr fs h x bx s =
    let at : (j n : ℕ) → n ≡ j → row j (a ∷ b ∷ c ∷ []) x ≡ 0 → row n (a ∷ b ∷ c ∷ []) x ≡ 0 = λ j n q e. rw q e in
    three a b c x bx (omega arith) (omega arith) (omega arith) (at u 0 (omega arith) s.1.1.0) (at v 1 (omega arith) s.1.0) (at w 2 (omega arith) s.0)
minors k m r (w ∷ v ∷ u ∷ []) (a ∷ b ∷ c ∷ d ∷ l) fr fs h x bx s = absurd (omega arith)
minors k m r (w ∷ v ∷ u ∷ t ∷ rows) (a ∷ b ∷ c ∷ d ∷ l) fr fs h x bx s = absurd (omega arith)
