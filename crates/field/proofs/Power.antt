-- The powers of g: exponents add, and count modulo 255; each byte but 0 is a power. Assumes nothing.
use Rattle.std.specs.Prelude.{◌≡◌, refl, Bool, true, false, ◌≢◌, ℕ, zero, suc, ◌+◌, ◌*◌, ◌/◌, ◌%◌, ◌<◌, T, eqb}
use Rattle.std.proofs.Common.{sym, ap, ap₂, ◌∙◌, subst, div-add-mod', mod-eq_of_lt, suc-add, zero-add, arith, eqb→eq, lit<}
use Rattle.std.specs.Int.Bits.{bit_xor, xor_zero_r}
use Rattle.bits.specs.Below.{below, at}
use Rattle.field.specs.Field.{reduction, pick, double_of, mul_of, g, power_of}
use Rattle.field.proofs.Product.{product_comm, product_assoc, one_product, product_lt}
use Rattle.field.specs.Power.{walk, meets, meets_next}

-- g times a byte is its double
pub mul_g : (a : ℕ) → a < 256 → mul_of g a ≡ double_of a
unfolding mul_of
mul_g a h = product_comm g a ∙ xor_zero_r (double_of (a % 256)) ∙ ap double_of (mod-eq_of_lt h)

-- below 128, that is twice the number
pub twice : (a : ℕ) → a < 128 → mul_of g a ≡ a * 2
twice a h =
    let d : a / 128 ≡ 0 = omega arith in
    let m : a * 2 % 256 ≡ a * 2 = omega arith in
    mul_g a (omega arith) ∙ ap₂ (λ (u v : ℕ). bit_xor u (pick (v % 2) reduction)) m d ∙ xor_zero_r (a * 2)

pub power_lt : (n : ℕ) → power_of n < 256
unfolding power_of
power_lt zero = lit< tt
power_lt (suc n) = product_lt g (power_of n)

pub power_add : (m n : ℕ) → power_of (m + n) ≡ mul_of (power_of m) (power_of n)
unfolding power_of
power_add zero n = ap power_of (zero-add n) ∙ sym (one_product (power_of n) (power_lt n))
power_add (suc m) n =
    ap power_of (suc-add m n) ∙ ap (mul_of g) (power_add m n) ∙ sym (product_assoc g (power_of m) (power_of n))

-- exponents count modulo 255
pub power_255 : power_of 255 ≡ 1
unfolding power_of mul_of
power_255 = refl

pub power_times : (q : ℕ) → power_of (q * 255) ≡ 1
unfolding power_of
power_times zero = refl
power_times (suc q) =
    let e : suc q * 255 ≡ q * 255 + 255 = omega arith in
    ap power_of e ∙ power_add (q * 255) 255 ∙ ap₂ mul_of (power_times q) power_255 ∙ one_product 1 (lit< tt)

pub power_mod : (n : ℕ) → power_of (n % 255) ≡ power_of n
power_mod n =
    sym (ap power_of (sym (div-add-mod' n 255)) ∙ power_add (n / 255 * 255) (n % 255)
    ∙ ap (λ (x : ℕ). mul_of x (power_of (n % 255))) (power_times (n / 255)) ∙ one_product (power_of (n % 255)) (power_lt (n % 255)))

met : T (below 255 (meets_next (walk 255 1)))
met = tt

-- a walk from g^i meets powers from the i-th on
met_power : (n i a : ℕ) → T (meets (walk n (power_of i)) a) → (j : ℕ) × (j < i + n) × (power_of j ≡ a)
unfolding power_of
met_power zero i a t = absurd t
met_power (suc n) i a t = go (eqb (power_of i) a) (eqb→eq (power_of i) a) t (met_power n (suc i) a)
  where
    go : (b : Bool) → (T b → power_of i ≡ a) → T (elim b [ true ↦ true | false ↦ meets (walk n (double_of (power_of i))) a ])
        → (T (meets (walk n (power_of (suc i))) a) → (j : ℕ) × (j < suc i + n) × (power_of j ≡ a)) → (j : ℕ) × (j < i + suc n) × (power_of j ≡ a)
    go true e t ih = (i, omega arith, e tt)
    go false e t ih =
        let r : (j : ℕ) × (j < suc i + n) × (power_of j ≡ a) =
        ih (subst (λ (x : ℕ). T (meets (walk n x) a)) (sym (mul_g (power_of i) (power_lt i))) t) in
        (r.0, omega arith, r.2)

pub power_every : (a : ℕ) → a ≢ 0 → a < 256 → (i : ℕ) × (i < 255) × (power_of i ≡ a)
unfolding power_of
power_every zero n h = absurd (n refl)
power_every (suc a) n h = met_power 255 0 (suc a) (at 255 (meets_next (walk 255 1)) met a (omega arith))
