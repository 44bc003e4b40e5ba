-- The order of g is 255: no power below the 255th but the first is 1, so the first 255 powers are distinct. Assumes nothing.
use Rattle.std.specs.Prelude.{◌≡◌, not, ◌≢◌, ℕ, zero, suc, ◌+◌, ◌-◌, ◌<◌, T, eqb}
use Rattle.std.proofs.Common.{sym, ap, ◌∙◌, subst, ⊎_elim, eq-zero-or-pos, mod-eq_of_lt, add-zero, add-suc, suc-add, arith, T_not, lit<}
use Rattle.std.proofs.Math.Dec.{eqb_refl}
use Rattle.bits.specs.Below.{both_left, both_right}
use Rattle.field.specs.Field.{double_of, mul_of, g, power_of}
use Rattle.field.proofs.Product.{product_one}
use Rattle.field.proofs.Power.{mul_g, power_lt, power_add}
use Rattle.field.proofs.InverseLaws.{cancel, no_divisors}
use Rattle.field.specs.Order.{off_one}

tested : T (off_one 254 g)
tested = tt

off_one_power : (n i d : ℕ) → T (off_one n (power_of i)) → d < n → power_of (i + d) ≢ 1
unfolding power_of
off_one_power zero i d t h e = omega arith
off_one_power (suc n) i zero t h e =
    T_not (eqb (power_of i) 1) (both_left (not (eqb (power_of i) 1)) (off_one n (double_of (power_of i))) t)
    (subst (λ (x : ℕ). T (eqb x 1)) (sym (ap power_of (sym (add-zero i)) ∙ e)) (eqb_refl 1))
off_one_power (suc n) i (suc d) t h e =
    off_one_power n (suc i) d
    (subst (λ (x : ℕ). T (off_one n x)) (sym (mul_g (power_of i) (power_lt i)))
    (both_right (not (eqb (power_of i) 1)) (off_one n (double_of (power_of i))) t)) (omega arith) (ap power_of (suc-add i d ∙ sym (add-suc i d)) ∙ e)

pub power_not_one : (d : ℕ) → 0 < d → d < 255 → power_of d ≢ 1
unfolding power_of mul_of
power_not_one d p h e = let q : 1 + (d - 1) ≡ d = omega arith in off_one_power 254 1 (d - 1) tested (omega arith) (ap power_of q ∙ e)

pub power_nonzero : (n : ℕ) → power_of n ≢ 0
unfolding power_of
power_nonzero zero e = omega arith
power_nonzero (suc n) e =
    ⊎_elim (λ (z : g ≡ 0). omega arith) (λ (z : power_of n ≡ 0). power_nonzero n z) (no_divisors g (power_of n) (lit< tt) (power_lt n) e)

distinct : (i j : ℕ) → i < j → j < 255 → power_of i ≢ power_of j
distinct i j h l e =
    let q : j ≡ i + (j - i) = omega arith in
    power_not_one (j - i) (omega arith) (omega arith)
    (sym (cancel (power_of i) 1 (power_of (j - i)) (power_nonzero i) (power_lt i) (lit< tt) (power_lt (j - i))
    (product_one (power_of i) ∙ mod-eq_of_lt (power_lt i) ∙ e ∙ ap power_of q ∙ power_add i (j - i))))

pub power_distinct : (i j : ℕ) → i < 255 → j < 255 → power_of i ≡ power_of j → i ≡ j
power_distinct i j hi hj e =
    ⊎_elim
    (λ (z : j - i ≡ 0). ⊎_elim (λ (y : i - j ≡ 0). omega arith) (λ (y : 0 < i - j). absurd (distinct j i (omega arith) hi (sym e))) (eq-zero-or-pos (i - j)))
    (λ (z : 0 < j - i). absurd (distinct i j (omega arith) hj e))
    (eq-zero-or-pos (j - i))
