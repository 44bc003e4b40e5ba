-- What a shape that is taken means, and sizes. Assumes nothing.
use Rattle.std.specs.Prelude.{◌≡◌, Bool, true, ◌&&◌, List, ◌⊎◌, ℕ, ◌+◌, ◌-◌, ◌*◌, ◌≤◌, ◌<◌, eqb, leb, length, take}
use Rattle.std.proofs.Common.{◌∙◌, inl, inr, ⊎_elim, mul-le-mul, eq-zero-or-pos, arith, length-take, leb-true, eqb-true}
use Rattle.std.proofs.Math.Nat.{min-eq_left}
use Rattle.codeword.specs.Stripe.{k_least, k_most, m_least, m_most, len_most, InRange}
use Rattle.solve.specs.Lists.{and_left, and_right}
use Rattle.code.specs.Shape.{shaped_of, Shaped}

pub below_or_not : (c n : ℕ) → (c < n) ⊎ (n ≤ c)
below_or_not c n = ⊎_elim (λ (e : n - c ≡ 0). inr (omega arith)) (λ (l : 0 < n - c). inl (omega arith)) (eq-zero-or-pos (n - c))

pub shaped_means : (k m len size : ℕ) → shaped_of k m len size ≡ true → Shaped k m len size
unfolding shaped_of
shaped_means k m len size e =
    let t2 : Bool = leb k_least k && leb k k_most in
    let t3 : Bool = t2 && leb m_least m in
    let t4 : Bool = t3 && leb m m_most in
    let t5 : Bool = t4 && leb 1 len in
    let t6 : Bool = t5 && leb len len_most in
    let e6 : t6 ≡ true = and_left t6 (eqb size ((k + m) * len)) e in
    let e5 : t5 ≡ true = and_left t5 (leb len len_most) e6 in
    let e4 : t4 ≡ true = and_left t4 (leb 1 len) e5 in
    let e3 : t3 ≡ true = and_left t3 (leb m m_most) e4 in
    let e2 : t2 ≡ true = and_left t2 (leb m_least m) e3 in
    record {
      range =
          record {
            k_least_lem = leb-true k_least k (and_left (leb k_least k) (leb k k_most) e2);
            k_most_lem = leb-true k k_most (and_right (leb k_least k) (leb k k_most) e2);
            m_least_lem = leb-true m_least m (and_right t2 (leb m_least m) e3);
            m_most_lem = leb-true m m_most (and_right t3 (leb m m_most) e4);
          };
      len_least = leb-true 1 len (and_right t4 (leb 1 len) e5);
      len_most_lem = leb-true len len_most (and_right t5 (leb len len_most) e6);
      whole = eqb-true size ((k + m) * len) (and_right t6 (eqb size ((k + m) * len)) e);
    }

-- a table fits
pub size_fits : (k m : ℕ) → InRange k m → m * (k + m) ≤ 57
size_fits k m g =
    let h : k + m ≤ 19 = omega (arith, g.k_most_lem, g.m_most_lem) in
    mul-le-mul g.m_most_lem h

pub length_part : (s : ℕ) (l : List ℕ) → s ≤ length l → length (take s l) ≡ s
length_part s l h = length-take s l ∙ min-eq_left h
