-- The steps are linear, so what many bytes do to the register is the sum of what each does alone. Assumes nothing.
use mathlib.Core.Path.{◌≡◌, refl, sym, ap, ap₂, ◌∙◌}
use mathlib.Core.List.{List, [], ◌∷◌}
use Prim.Native.Nat.{ℕ, zero, suc, ◌+◌, ◌*◌, ◌/◌, ◌%◌, ◌^◌, ◌<◌}
use native.Mathlib.Nat.{mod-lt, zero-lt-suc, suc-add, zero-add, mul_assoc, pow-suc, mul-div_cancel, mul-mod_left}
use native.Mathlib.Omega.{arith}
use lib.Bits.{bit_xor, differ, xor_self, xor_zero_r, xor_comm, xor_lt, xor_shifted}
use lib.Dec.{lit<}
use lib.ListN.{get_or}
use Rattle.crc32c.specs.Crc.{polynomial, all_ones, pick, step, steps, run, crc_of}
use Rattle.bits.specs.Xor.{bit_ind, xor_half, xor_odd, xor_swap, xor_left_comm}

two : 0 < 2
two = zero-lt-suc 1

pick_differ : (a x y : ℕ) → x < 2 → y < 2 → pick (differ x y) a ≡ bit_xor (pick x a) (pick y a)
pick_differ a x y hx hy =
    bit_ind (λ x. pick (differ x y) a ≡ bit_xor (pick x a) (pick y a)) refl
    (bit_ind (λ y. pick (differ 1 y) a ≡ bit_xor a (pick y a)) (sym (xor_zero_r a)) (sym (xor_self a)) y hy) x hx

pub step_xor : (a b : ℕ) → step (bit_xor a b) ≡ bit_xor (step a) (step b)
unfolding step
step_xor a b =
    ap₂ (λ (x y : ℕ). bit_xor x (pick y polynomial)) (xor_half a b) (xor_odd a b)
    ∙ ap (bit_xor (bit_xor (a / 2) (b / 2))) (pick_differ polynomial (a % 2) (b % 2) (mod-lt a two) (mod-lt b two))
    ∙ xor_swap (a / 2) (b / 2) (pick (a % 2) polynomial) (pick (b % 2) polynomial)

pub steps_xor : (n a b : ℕ) → steps n (bit_xor a b) ≡ bit_xor (steps n a) (steps n b)
unfolding steps
steps_xor zero a b = refl
steps_xor (suc n) a b = ap (steps n) (step_xor a b) ∙ steps_xor n (step a) (step b)

pub steps_add : (m n a : ℕ) → steps (m + n) a ≡ steps n (steps m a)
unfolding steps
steps_add zero n a = ap (λ (k : ℕ). steps k a) (zero-add n)
steps_add (suc m) n a = ap (λ (k : ℕ). steps k a) (suc-add m n) ∙ steps_add m n (step a)

pub step_steps : (n a : ℕ) → step (steps n a) ≡ steps n (step a)
unfolding steps
step_steps zero a = refl
step_steps (suc n) a = step_steps n (step a)

pub step_even : (a : ℕ) → step (a * 2) ≡ a
unfolding step
step_even a =
    ap₂ (λ (x y : ℕ). bit_xor x (pick y polynomial)) (mul-div_cancel a two) (mul-mod_left a 2) ∙ xor_zero_r a

pub steps_shift : (n a : ℕ) → steps n (a * 2 ^ n) ≡ a
unfolding steps
steps_shift zero a = omega arith
steps_shift (suc n) a =
    ap (λ (x : ℕ). steps n (step x)) (ap (λ (x : ℕ). a * x) (pow-suc 2 n) ∙ sym (mul_assoc a (2 ^ n) 2))
    ∙ ap (steps n) (step_even (a * 2 ^ n)) ∙ steps_shift n a

step_lt : (a : ℕ) → a < 4294967296 → step a < 4294967296
unfolding step
step_lt a h =
    xor_lt 32 (a / 2) (pick (a % 2) polynomial) (omega arith)
    (bit_ind (λ d. pick d polynomial < 4294967296) (omega arith) (omega arith) (a % 2) (mod-lt a two))

pub steps_lt : (n a : ℕ) → a < 4294967296 → steps n a < 4294967296
unfolding steps
steps_lt zero a h = h
steps_lt (suc n) a h = steps_lt n (step a) (step_lt a h)

-- ---- a byte taken off

byte_join : (x y : ℕ) → y < 256 → bit_xor (x * 256) y ≡ y + x * 256
byte_join x y h = let e : x * 256 + y ≡ y + x * 256 = omega arith in xor_shifted x 8 y h ∙ e

over : (n x : ℕ) → steps (8 + n) (x * 256) ≡ steps n x
over n x = steps_add 8 n (x * 256) ∙ ap (steps n) (steps_shift 8 x)

pub steps_split : (n x : ℕ) → steps (8 + n) x ≡ bit_xor (steps n (x / 256)) (steps (8 + n) (x % 256))
steps_split n x =
    let e : x % 256 + x / 256 * 256 ≡ x = omega arith in
    ap (steps (8 + n)) (sym (byte_join (x / 256) (x % 256) (omega arith) ∙ e)) ∙ steps_xor (8 + n) (x / 256 * 256) (x % 256)
    ∙ ap (λ (y : ℕ). bit_xor y (steps (8 + n) (x % 256))) (over n (x / 256))

-- a byte into the register, then y: as one number, the byte lowest
pub steps_join : (n c b y : ℕ) → b < 256 → steps n (bit_xor (steps 8 (bit_xor c b)) y) ≡ steps (8 + n) (bit_xor c (b + y * 256))
steps_join n c b y h =
    ap (steps n)
    (xor_comm (steps 8 (bit_xor c b)) y ∙ ap (λ (x : ℕ). bit_xor x (steps 8 (bit_xor c b))) (sym (steps_shift 8 y))
    ∙ sym (steps_xor 8 (y * 256) (bit_xor c b)))
    ∙ sym (steps_add 8 n (bit_xor (y * 256) (bit_xor c b)))
    ∙ ap (steps (8 + n)) (xor_left_comm (y * 256) c b ∙ ap (bit_xor c) (byte_join y b h))

-- ---- a checksum of bytes has 32 bits

run_lt : (c : ℕ) (l : List ℕ) → c < 4294967296 → ((k : ℕ) → get_or l k 0 < 256) → run c l < 4294967296
unfolding run
run_lt c [] h small = h
run_lt c (b ∷ l) h small =
    run_lt (steps 8 (bit_xor c b)) l (steps_lt 8 (bit_xor c b) (xor_lt 32 c b h (omega (arith, small 0)))) (λ k. small (suc k))

pub crc_lt : (l : List ℕ) → ((k : ℕ) → get_or l k 0 < 256) → crc_of l < 4294967296
unfolding crc_of
crc_lt l small = xor_lt 32 (run all_ones l) all_ones (run_lt all_ones l (lit< tt) small) (lit< tt)
