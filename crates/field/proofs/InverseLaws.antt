-- Inverses, cancelling, no divisors of zero: all from the powers of g, with no further computing. Assumes nothing.
use Rattle.std.specs.Prelude.{◌≡◌, refl, ◌≢◌, ◌⊎◌, ℕ, ◌+◌, ◌*◌, ◌<◌}
use Rattle.std.proofs.Common.{sym, ap, ap₂, ◌∙◌, inl, inr, ⊎_elim, eq-zero-or-pos, arith, lit<}
use Rattle.field.specs.Field.{mul_of, power_of, inverse_of}
use Rattle.field.proofs.Product.{product_comm, product_assoc, one_product, product_zero_left, product_lt}
use Rattle.field.proofs.Power.{power_add, power_times, power_every}

-- a product of powers
powers : (m n k : ℕ) {a b : ℕ} → a ≡ power_of m → b ≡ power_of n → m + n ≡ k → mul_of a b ≡ power_of k
powers m n k ea eb e = ap₂ mul_of ea eb ∙ sym (power_add m n) ∙ ap power_of e

inverse_power : (i : ℕ) → inverse_of (power_of i) ≡ power_of (i * 254)
unfolding inverse_of
inverse_power i =
    let e2 = powers i i (i * 2) refl refl (omega arith) in
    let e3 = powers (i * 2) i (i * 3) e2 refl (omega arith) in
    let e6 = powers (i * 3) (i * 3) (i * 6) e3 e3 (omega arith) in
    let e12 = powers (i * 6) (i * 6) (i * 12) e6 e6 (omega arith) in
    let e15 = powers (i * 12) (i * 3) (i * 15) e12 e3 (omega arith) in
    let e30 = powers (i * 15) (i * 15) (i * 30) e15 e15 (omega arith) in
    let e60 = powers (i * 30) (i * 30) (i * 60) e30 e30 (omega arith) in
    let e120 = powers (i * 60) (i * 60) (i * 120) e60 e60 (omega arith) in
    let e240 = powers (i * 120) (i * 120) (i * 240) e120 e120 (omega arith) in
    powers (i * 252) (i * 2) (i * 254) (powers (i * 240) (i * 12) (i * 252) e240 e12 (omega arith)) e2 (omega arith)

pub mul_inverse : (a : ℕ) → a ≢ 0 → a < 256 → mul_of a (inverse_of a) ≡ 1
mul_inverse a n h =
    let p = power_every a n h in
    ap (λ (x : ℕ). mul_of x (inverse_of x)) (sym p.2)
    ∙ powers p.0 (p.0 * 254) (p.0 * 255) refl (inverse_power p.0) (omega arith) ∙ power_times p.0

pub inverse_lt : (a : ℕ) → inverse_of a < 256
unfolding inverse_of
inverse_lt a = product_lt _ _

pub cancel : (a b c : ℕ) → a ≢ 0 → a < 256 → b < 256 → c < 256 → mul_of a b ≡ mul_of a c → b ≡ c
cancel a b c n ha hb hc e = sym (back b hb) ∙ ap (mul_of (inverse_of a)) e ∙ back c hc
  where
    back : (x : ℕ) → x < 256 → mul_of (inverse_of a) (mul_of a x) ≡ x
    back x hx =
        sym (product_assoc (inverse_of a) a x) ∙ ap (λ (y : ℕ). mul_of y x) (product_comm (inverse_of a) a ∙ mul_inverse a n ha) ∙ one_product x hx

pub no_divisors : (a b : ℕ) → a < 256 → b < 256 → mul_of a b ≡ 0 → (a ≡ 0) ⊎ (b ≡ 0)
no_divisors a b ha hb e =
    ⊎_elim (λ (z : a ≡ 0). inl z)
    (λ (p : 0 < a). inr (cancel a b 0 (λ z. omega arith) ha hb (lit< tt) (e ∙ sym (product_comm a 0 ∙ product_zero_left a))))
    (eq-zero-or-pos a)
