-- The turns of the loops: what is done, and what is left. Assumes nothing.
use Rattle.std.specs.Prelude.{◌≡◌, refl, ℕ, zero, suc, ◌+◌, ◌-◌, ◌*◌, ◌/◌, ◌%◌, ◌≤◌, ◌<◌}
use Rattle.std.proofs.Common.{sym, ap, ap₂, ◌∙◌, subst, add-one, arith}
use Rattle.std.specs.Int.Bits.{bit_xor, xor_zero_r}
use Rattle.bits.specs.Xor.{bit_ind, xor_assoc}
use Rattle.field.specs.Field.{reduction, pick, mul_bits, mul_of, g, power_of}
use Rattle.field.proofs.Bytes.{bytes}
use Rattle.field.proofs.Power.{mul_g}

-- ---- double

pub double_is : (a : ℕ) → a < 256 → bit_xor (a % 128 * 2) (a / 128 * reduction) ≡ mul_of g a
double_is a h =
    let e : a % 128 * 2 ≡ a * 2 % 256 = omega arith in
    ap₂ bit_xor e (bit_ind (λ x. x * reduction ≡ pick (x % 2) reduction) refl refl (a / 128) (omega arith)) ∙ sym (mul_g a h)

pub double_byte : (a d : ℕ) → d ≡ mul_of g a → d < 256
double_byte a d e = subst (λ (x : ℕ). x < 256) (sym e) (bytes.mul_byte g a)

-- ---- mul: the sum so far and the products of the bits that are left

pub mul_turn : (n sum x y s d : ℕ) → 0 < n → x < 256 → s ≡ pick (y % 2) x → d ≡ mul_of g x
    → bit_xor (bit_xor sum s) (mul_bits (n - 1) d (y / 2)) ≡ bit_xor sum (mul_bits n x y)
mul_turn zero sum x y s d h hx e f = absurd (omega arith)
mul_turn (suc n) sum x y s d h hx e f =
    let k : suc n - 1 ≡ n = omega arith in
    xor_assoc sum s (mul_bits (suc n - 1) d (y / 2))
    ∙ ap₂ (λ (u v : ℕ). bit_xor sum (bit_xor u v)) e (ap₂ (λ (k z : ℕ). mul_bits k z (y / 2)) k (f ∙ mul_g x hx))

pub mul_done : (n sum x y m : ℕ) → n ≤ 0 → bit_xor sum (mul_bits n x y) ≡ m → sum ≡ m
mul_done zero sum x y m h e = sym (xor_zero_r sum) ∙ e
mul_done (suc n) sum x y m h e = absurd (omega arith)

-- after i of the eight bits
pub bit_turn : (i sum x y s d : ℕ) → i < 8 → x < 256 → s ≡ pick (y % 2) x → d ≡ mul_of g x
    → bit_xor (bit_xor sum s) (mul_bits (8 - (i + 1)) d (y / 2)) ≡ bit_xor sum (mul_bits (8 - i) x y)
bit_turn i sum x y s d h hx e f =
    let k : 8 - (i + 1) ≡ 8 - i - 1 = omega arith in
    ap (λ (n : ℕ). bit_xor (bit_xor sum s) (mul_bits n d (y / 2))) k ∙ mul_turn (8 - i) sum x y s d (omega arith) hx e f

-- ---- powers of g: the power so far, times the power that is left

pub power_first : (n : ℕ) → mul_of 1 (power_of (n % 255)) ≡ power_of n
power_first n = bytes.mul_comm 1 (power_of (n % 255)) ∙ bytes.mul_one (power_of (n % 255)) (bytes.power_byte (n % 255)) ∙ bytes.power_mod n

pub power_turn : (left x d p : ℕ) → 0 < left → d ≡ mul_of g x → mul_of x (power_of left) ≡ p → mul_of d (power_of (left - 1)) ≡ p
power_turn left x d p h f e =
    let k : 1 + (left - 1) ≡ left = omega arith in
    ap (λ (y : ℕ). mul_of y (power_of (left - 1))) (f ∙ bytes.mul_comm g x ∙ ap (mul_of x) (sym bytes.power_one))
    ∙ bytes.mul_assoc x (power_of 1) (power_of (left - 1))
    ∙ ap (mul_of x) (sym (bytes.power_add 1 (left - 1)) ∙ ap power_of k) ∙ e

pub power_done : (left x p : ℕ) → left ≤ 0 → x < 256 → mul_of x (power_of left) ≡ p → x ≡ p
power_done left x p h hx e =
    let k : left ≡ 0 = omega arith in
    sym (bytes.mul_one x hx) ∙ ap (mul_of x) (sym (ap power_of k ∙ bytes.power_zero)) ∙ e

-- ---- power_of_g: the power so far

pub power_next : (i x d : ℕ) → d ≡ mul_of g x → x ≡ power_of i → d ≡ power_of (i + 1)
unfolding power_of
power_next i x d f e = f ∙ ap (mul_of g) e ∙ ap power_of (sym (add-one i))

pub power_reached : (n i x : ℕ) → n % 255 ≡ i → x ≡ power_of i → x ≡ power_of n
power_reached n i x h e = e ∙ ap power_of (sym h) ∙ bytes.power_mod n
