-- The laws of the product: bilinear, commutative, associative, all without a bound. Assumes nothing.
use Rattle.std.specs.Prelude.{◌≡◌, refl, Bool, ℕ, zero, suc, ◌+◌, ◌*◌, ◌/◌, ◌%◌, ◌^◌, ◌<◌, T, eqb}
use Rattle.std.proofs.Common.{sym, ap, ap₂, ◌∙◌, mod-lt, zero-lt-suc, mul-div_cancel, add-zero, mod-eq_of_lt, eqb→eq, lit<}
use Rattle.std.proofs.Math.Nat.{mul-mod_left}
use Rattle.std.specs.Int.Bits.{bit_xor, differ, xor_step, xor_self, xor_zero_r}
use Rattle.std.proofs.lemmas.Nat.{xor_mod, xor_shr}
use Rattle.bits.specs.Xor.{bit_ind, xor_half, xor_odd, xor_swap, xor_byte}
use Rattle.bits.specs.Below.{below, at}
use Rattle.field.specs.Field.{reduction, pick, double_of, mul_bits, mul_of}
use Rattle.field.specs.Product.{lin_ext}

two : 0 < 2
two = zero-lt-suc 1

pick_xor : (x a b : ℕ) → x < 2 → pick x (bit_xor a b) ≡ bit_xor (pick x a) (pick x b)
pick_xor x a b h = bit_ind (λ x. pick x (bit_xor a b) ≡ bit_xor (pick x a) (pick x b)) refl refl x h

pick_differ : (x y a : ℕ) → x < 2 → y < 2 → pick (differ x y) a ≡ bit_xor (pick x a) (pick y a)
pick_differ x y a hx hy =
    bit_ind (λ x. pick (differ x y) a ≡ bit_xor (pick x a) (pick y a)) refl
    (bit_ind (λ y. pick (differ 1 y) a ≡ bit_xor a (pick y a)) (sym (xor_zero_r a)) (sym (xor_self a)) y hy) x hx

pick_lt : (x a : ℕ) → x < 2 → a < 256 → pick x a < 256
pick_lt x a h ha = bit_ind (λ x. pick x a < 256) (lit< tt) ha x h

xor_double : (a b : ℕ) → bit_xor a b * 2 ≡ bit_xor (a * 2) (b * 2)
xor_double a b =
    sym (xor_step (a * 2) (b * 2)
    ∙ ap₂ (λ (x y : ℕ). bit_xor x y * 2 + differ (a * 2 % 2) (b * 2 % 2)) (mul-div_cancel a two) (mul-div_cancel b two)
    ∙ ap₂ (λ (x y : ℕ). bit_xor a b * 2 + differ x y) (mul-mod_left a 2) (mul-mod_left b 2)
    ∙ add-zero (bit_xor a b * 2))

pub double_xor : (a b : ℕ) → double_of (bit_xor a b) ≡ bit_xor (double_of a) (double_of b)
double_xor a b =
    ap₂ bit_xor
    (ap (λ (x : ℕ). x % 256) (xor_double a b) ∙ xor_mod (a * 2) (b * 2) 8)
    (ap (λ (x : ℕ). pick x reduction)
    (ap (λ (x : ℕ). x % 2) (xor_shr a b 7) ∙ xor_odd (a / 128) (b / 128))
    ∙ pick_differ (a / 128 % 2) (b / 128 % 2) _ (mod-lt (a / 128) two) (mod-lt (b / 128) two))
    ∙ xor_swap (a * 2 % 256) (b * 2 % 256) (pick (a / 128 % 2) reduction) (pick (b / 128 % 2) reduction)

pub double_lt : (a : ℕ) → double_of a < 256
double_lt a = xor_byte (a * 2 % 256) (pick (a / 128 % 2) reduction) (mod-lt (a * 2) (lit< tt)) (pick_lt (a / 128 % 2) reduction (mod-lt (a / 128) two) (lit< tt))

pick_double : (x a : ℕ) → x < 2 → pick x (double_of a) ≡ double_of (pick x a)
pick_double x a h = bit_ind (λ x. pick x (double_of a) ≡ double_of (pick x a)) refl refl x h

bits_lt : (n a b : ℕ) → a < 256 → mul_bits n a b < 256
bits_lt zero a b h = lit< tt
bits_lt (suc n) a b h =
    xor_byte (pick (b % 2) a) (mul_bits n (double_of a) (b / 2)) (pick_lt (b % 2) a (mod-lt b two) h) (bits_lt n (double_of a) (b / 2) (double_lt a))

bits_zero : (n b : ℕ) → mul_bits n 0 b ≡ 0
bits_zero zero b = refl
bits_zero (suc n) b =
    ap₂ bit_xor (bit_ind (λ x. pick x 0 ≡ 0) refl refl (b % 2) (mod-lt b two)) (bits_zero n (b / 2))

bits_xor_l : (n a b c : ℕ) → mul_bits n (bit_xor a b) c ≡ bit_xor (mul_bits n a c) (mul_bits n b c)
bits_xor_l zero a b c = refl
bits_xor_l (suc n) a b c =
    ap₂ bit_xor (pick_xor (c % 2) a b (mod-lt c two))
    (ap (λ (x : ℕ). mul_bits n x (c / 2)) (double_xor a b) ∙ bits_xor_l n (double_of a) (double_of b) (c / 2))
    ∙ xor_swap (pick (c % 2) a) (pick (c % 2) b) (mul_bits n (double_of a) (c / 2)) (mul_bits n (double_of b) (c / 2))

bits_xor_r : (n a b c : ℕ) → mul_bits n a (bit_xor b c) ≡ bit_xor (mul_bits n a b) (mul_bits n a c)
bits_xor_r zero a b c = refl
bits_xor_r (suc n) a b c =
    ap₂ bit_xor
    (ap (λ (x : ℕ). pick x a) (xor_odd b c) ∙ pick_differ (b % 2) (c % 2) a (mod-lt b two) (mod-lt c two))
    (ap (mul_bits n (double_of a)) (xor_half b c) ∙ bits_xor_r n (double_of a) (b / 2) (c / 2))
    ∙ xor_swap (pick (b % 2) a) (pick (c % 2) a) (mul_bits n (double_of a) (b / 2)) (mul_bits n (double_of a) (c / 2))

bits_double : (n a c : ℕ) → mul_bits n (double_of a) c ≡ double_of (mul_bits n a c)
bits_double zero a c = refl
bits_double (suc n) a c =
    ap₂ bit_xor (pick_double (c % 2) a (mod-lt c two)) (bits_double n (double_of a) (c / 2))
    ∙ sym (double_xor (pick (c % 2) a) (mul_bits n (double_of a) (c / 2)))

bits_pick : (n x a c : ℕ) → x < 2 → mul_bits n (pick x a) c ≡ pick x (mul_bits n a c)
bits_pick n x a c h = bit_ind (λ x. mul_bits n (pick x a) c ≡ pick x (mul_bits n a c)) (bits_zero n c) refl x h

-- (a b) c = (a c) b
bits_swap : (m n a b c : ℕ) → mul_bits n (mul_bits m a b) c ≡ mul_bits m (mul_bits n a c) b
bits_swap zero n a b c = bits_zero n c
bits_swap (suc m) n a b c =
    bits_xor_l n (pick (b % 2) a) (mul_bits m (double_of a) (b / 2)) c
    ∙ ap₂ bit_xor (bits_pick n (b % 2) a c (mod-lt b two))
    (bits_swap m n (double_of a) (b / 2) c ∙ ap (λ (x : ℕ). mul_bits m x (b / 2)) (bits_double n a c))

test : ℕ → ℕ → Bool
test i j = eqb (mul_bits 8 (2 ^ i) (2 ^ j)) (mul_bits 8 (2 ^ j) (2 ^ i))

tested : T (below 8 (λ i. below 8 (test i)))
unfolding test
tested = tt

bits_comm : (a b : ℕ) → a < 256 → b < 256 → mul_bits 8 a b ≡ mul_bits 8 b a
unfolding test
bits_comm a b ha hb =
    lin_ext (λ x. mul_bits 8 x b) (mul_bits 8 b) (λ x y. bits_xor_l 8 x y b) (bits_xor_r 8 b) 8
    (λ i hi. lin_ext (mul_bits 8 (2 ^ i)) (λ y. mul_bits 8 y (2 ^ i)) (bits_xor_r 8 (2 ^ i)) (λ x y. bits_xor_l 8 x y (2 ^ i)) 8
    (λ j hj. base i hi j hj) b hb) a ha
  where
    base : (i : ℕ) → i < 8 → (j : ℕ) → j < 8 → mul_bits 8 (2 ^ i) (2 ^ j) ≡ mul_bits 8 (2 ^ j) (2 ^ i)
    base i hi j hj = eqb→eq (mul_bits 8 (2 ^ i) (2 ^ j)) (mul_bits 8 (2 ^ j) (2 ^ i)) (at 8 (test i) (at 8 (λ i. below 8 (test i)) tested i hi) j hj)

byte : (a : ℕ) → a % 256 < 256
byte a = mod-lt a (lit< tt)

pub product_lt : (a b : ℕ) → mul_of a b < 256
unfolding mul_of
product_lt a b = bits_lt 8 (a % 256) (b % 256) (byte a)

pub product_comm : (a b : ℕ) → mul_of a b ≡ mul_of b a
unfolding mul_of
product_comm a b = bits_comm (a % 256) (b % 256) (byte a) (byte b)

pub product_add_left : (a b c : ℕ) → mul_of (bit_xor a b) c ≡ bit_xor (mul_of a c) (mul_of b c)
unfolding mul_of
product_add_left a b c = ap (λ (x : ℕ). mul_bits 8 x (c % 256)) (xor_mod a b 8) ∙ bits_xor_l 8 (a % 256) (b % 256) (c % 256)

pub product_add : (a b c : ℕ) → mul_of a (bit_xor b c) ≡ bit_xor (mul_of a b) (mul_of a c)
product_add a b c = product_comm a (bit_xor b c) ∙ product_add_left b c a ∙ ap₂ bit_xor (product_comm b a) (product_comm c a)

product_swap : (a b c : ℕ) → mul_of (mul_of a b) c ≡ mul_of (mul_of a c) b
unfolding mul_of
product_swap a b c =
    ap (λ (x : ℕ). mul_bits 8 x (c % 256)) (mod-eq_of_lt (bits_lt 8 (a % 256) (b % 256) (byte a)))
    ∙ bits_swap 8 8 (a % 256) (b % 256) (c % 256)
    ∙ ap (λ (x : ℕ). mul_bits 8 x (b % 256)) (sym (mod-eq_of_lt (bits_lt 8 (a % 256) (c % 256) (byte a))))

pub product_assoc : (a b c : ℕ) → mul_of (mul_of a b) c ≡ mul_of a (mul_of b c)
product_assoc a b c = ap (λ (x : ℕ). mul_of x c) (product_comm a b) ∙ product_swap b a c ∙ product_comm (mul_of b c) a

pub product_zero_left : (a : ℕ) → mul_of 0 a ≡ 0
unfolding mul_of
product_zero_left a = bits_zero 8 (a % 256)

pub product_one : (a : ℕ) → mul_of a 1 ≡ a % 256
unfolding mul_of
product_one a = xor_zero_r (a % 256)

pub one_product : (a : ℕ) → a < 256 → mul_of 1 a ≡ a
one_product a h = product_comm 1 a ∙ product_one a ∙ mod-eq_of_lt h

-- ---- for the code

pub mul_bytes : (a b : ℕ) → a < 256 → b < 256 → mul_bits 8 a b ≡ mul_of a b
unfolding mul_of
mul_bytes a b ha hb = sym (ap₂ (mul_bits 8) (mod-eq_of_lt ha) (mod-eq_of_lt hb))
