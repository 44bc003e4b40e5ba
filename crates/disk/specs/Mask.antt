-- Masks of slots: slot d is in a mask where bit d is set. Putting a slot in and taking it out change that bit alone; a
-- test makes a mask, and the mask tells the test; the count of set bits is the count of slots. Assumes nothing.
use Rattle.std.specs.Prelude.{◌≡◌, refl, Bool, true, false, ◌&&◌, ◌||◌, cond, not, ℕ, zero, suc, ◌+◌, ◌*◌, ◌-◌, ◌≤◌, ◌<◌, ◌/◌, ◌%◌, ◌^◌, eqb}
use Rattle.std.proofs.Common.{sym, ap, ap₂, ◌∙◌, ⊎_elim, div-one, pow-suc, mod-lt, lt_of_lt_of_le, eq-zero-or-pos, eq-or-lt_of_le, le_of_suc-le-suc, zero-mul, arith, pow_pos, pow_mono, shr-shr, lit<, eqb-true, eq-eqb, ne_eqb}
use Rattle.std.proofs.Math.Nat.{pow-succ', div-div-eq-div-mul, div-eq_of_lt, div-eq-sub-div}
use Rattle.std.proofs.Math.Arith.{lt-one, bin_ind}
use Rattle.std.proofs.Math.Pow.{split}
use Rattle.std.proofs.Math.Dec.{eqb-zero-suc, eqb-suc-zero, eqb-suc-suc}
use Rattle.std.specs.Int.Count.{ones, ones_in, ones_step}
use Rattle.disk.specs.Image.{lt_or_ge}
use Rattle.std.proofs.lemmas.Bool.{eqb-false}

abbrev digit : ℕ → ℕ → ℕ
digit m d = m / 2 ^ d % 2

-- slot d is in the mask
unfoldable pub in_mask : ℕ → ℕ → Bool
in_mask mask d = eqb (mask / 2 ^ d % 2) 1

-- the mask with slot d in it
unfoldable pub with_slot : ℕ → ℕ → ℕ
with_slot mask d = cond (in_mask mask d) mask (mask + 2 ^ d)

-- the mask without slot d
unfoldable pub without_slot : ℕ → ℕ → ℕ
without_slot mask d = cond (in_mask mask d) (mask - 2 ^ d) mask

-- the slots below n of which p holds
unfoldable pub mask_of : (ℕ → Bool) → ℕ → ℕ
mask_of p zero = 0
mask_of p (suc n) = cond (p n) (with_slot (mask_of p n) n) (mask_of p n)

-- how many of the first n slots are in the mask
unfoldable pub tally : (ℕ → Bool) → ℕ → ℕ
tally p zero = 0
tally p (suc n) = cond (p 0) 1 0 + tally (λ i. p (suc i)) n

-- ---- digits, one at a time

digit_zero : (m : ℕ) → digit m 0 ≡ m % 2
digit_zero m = ap (λ (x : ℕ). x % 2) (div-one m)

digit_suc : (m d : ℕ) → digit m (suc d) ≡ digit (m / 2) d
digit_suc m d = ap (λ (x : ℕ). x % 2) (ap (λ (x : ℕ). m / x) (pow-succ' 2 d) ∙ sym (div-div-eq-div-mul m 2 (2 ^ d)))

digit_lt : (m d : ℕ) → digit m d < 2
digit_lt m d = mod-lt (m / 2 ^ d) (lit< tt)

-- one bit more, where it was not set
digit_add : (d e m : ℕ) → digit m d ≡ 0 → digit (m + 2 ^ d) e ≡ cond (eqb e d) 1 (digit m e)
digit_add zero zero m h = digit_zero (m + 1) ∙ (let k : m % 2 ≡ 0 = sym (digit_zero m) ∙ h in omega arith)
digit_add zero (suc e) m h =
    let k : m % 2 ≡ 0 = sym (digit_zero m) ∙ h in
    let q : (m + 1) / 2 ≡ m / 2 = omega arith in
    digit_suc (m + 1) e ∙ ap (λ (x : ℕ). digit x e) q ∙ sym (digit_suc m e)
    ∙ ap (λ (b : Bool). cond b 1 (digit m (suc e))) (sym (eqb-suc-zero e))
digit_add (suc d) zero m h =
    let q : (m + 2 ^ suc d) % 2 ≡ m % 2 = omega (arith, pow-suc 2 d) in
    digit_zero (m + 2 ^ suc d) ∙ q ∙ sym (digit_zero m) ∙ ap (λ (b : Bool). cond b 1 (digit m 0)) (sym (eqb-zero-suc d))
digit_add (suc d) (suc e) m h =
    let q : (m + 2 ^ suc d) / 2 ≡ m / 2 + 2 ^ d = omega (arith, pow-suc 2 d) in
    digit_suc (m + 2 ^ suc d) e ∙ ap (λ (x : ℕ). digit x e) q ∙ digit_add d e (m / 2) (sym (digit_suc m d) ∙ h)
    ∙ ap₂ (λ (b : Bool) (x : ℕ). cond b 1 x) (sym (eqb-suc-suc e d)) (sym (digit_suc m e))

off : (x : ℕ) → x < 2 → (x ≡ 1 → ⊥) → x ≡ 0
off x l h = ⊎_elim (λ (e : x ≡ 0). e) (λ (p : 0 < x). absurd (h (omega arith))) (eq-zero-or-pos x)

-- a set bit can be taken off
take_off : (m d : ℕ) → digit m d ≡ 1 → (2 ^ d ≤ m) × (digit (m - 2 ^ d) d ≡ 0)
take_off m d h =
    let P : ℕ = 2 ^ d in
    let le : P ≤ m = at_least P (pow_pos d) h in
    (le, omega (arith, div-eq-sub-div {m = P} {n = m} (pow_pos d) le))
  where
    at_least : (P : ℕ) → 0 < P → m / P % 2 ≡ 1 → P ≤ m
    at_least P pos e = ⊎_elim (λ (l : m < P). absurd (omega (arith, div-eq_of_lt l))) (λ (g : P ≤ m). g) (lt_or_ge m P)

-- a bit that is not set can be added within the width
add_fits : (d w m : ℕ) → d < w → digit m d ≡ 0 → m < 2 ^ w → m + 2 ^ d < 2 ^ w
add_fits d zero m l z h = absurd (omega arith)
add_fits zero (suc w) m l z h = let k : m % 2 ≡ 0 = sym (digit_zero m) ∙ z in omega (arith, pow-suc 2 w)
add_fits (suc d) (suc w) m l z h =
    omega (arith, pow-suc 2 w, pow-suc 2 d, add_fits d w (m / 2) (omega arith) (sym (digit_suc m d) ∙ z) (omega (arith, pow-suc 2 w)))

-- a number with no set bit is 0
no_digits : (q : ℕ) → ((e : ℕ) → digit q e ≡ 0) → q ≡ 0
no_digits =
    bin_ind (λ (q : ℕ). ((e : ℕ) → digit q e ≡ 0) → q ≡ 0) (λ h. refl)
    (λ q f h. let z : q / 2 ≡ 0 = f (λ e. sym (digit_suc q e) ∙ h (suc e)) in let k : q % 2 ≡ 0 = sym (digit_zero q) ∙ h 0 in omega arith)

-- ---- one slot more, one slot less

pub in_with : (m d e : ℕ) → in_mask (with_slot m d) e ≡ (eqb e d || in_mask m e)
unfolding in_mask with_slot
in_with m d e = by (eqb (digit m d) 1) refl
  where
    pick : (b : Bool) (x : ℕ) → eqb (cond b 1 x) 1 ≡ (b || eqb x 1)
    pick true x = refl
    pick false x = refl

    here : (b : Bool) → eqb e d ≡ b → digit m d ≡ 1 → eqb (digit m e) 1 ≡ (b || eqb (digit m e) 1)
    here true q h = eq-eqb (digit m e) 1 (ap (digit m) (eqb-true e d q) ∙ h)
    here false q h = refl

    by : (b : Bool) → eqb (digit m d) 1 ≡ b → eqb (digit (cond b m (m + 2 ^ d)) e) 1 ≡ (eqb e d || eqb (digit m e) 1)
    by true q = here (eqb e d) refl (eqb-true (digit m d) 1 q)
    by false q =
        let z : digit m d ≡ 0 = off (digit m d) (digit_lt m d) (eqb-false (digit m d) 1 q) in
        ap (λ (x : ℕ). eqb x 1) (digit_add d e m z) ∙ pick (eqb e d) (digit m e)

pub in_without : (m d e : ℕ) → in_mask (without_slot m d) e ≡ (not (eqb e d) && in_mask m e)
unfolding in_mask without_slot
in_without m d e = by (eqb (digit m d) 1) refl
  where
    pick : (b : Bool) → eqb e d ≡ b → (x : ℕ) → digit x d ≡ 0 → digit m e ≡ cond b 1 (digit x e) → eqb (digit x e) 1 ≡ (not b && eqb (digit m e) 1)
    pick true q x z h = ne_eqb (digit x e) 1 (λ o. omega (arith, ap (digit x) (eqb-true e d q)))
    pick false q x z h = ap (λ (y : ℕ). eqb y 1) (sym h)

    here : (b : Bool) → eqb e d ≡ b → (digit m d ≡ 1 → ⊥) → eqb (digit m e) 1 ≡ (not b && eqb (digit m e) 1)
    here true q h = ne_eqb (digit m e) 1 (λ o. h (sym (ap (digit m) (eqb-true e d q)) ∙ o))
    here false q h = refl

    by : (b : Bool) → eqb (digit m d) 1 ≡ b → eqb (digit (cond b (m - 2 ^ d) m) e) 1 ≡ (not (eqb e d) && eqb (digit m e) 1)
    by true q =
        let o = take_off m d (eqb-true (digit m d) 1 q) in
        let s : m - 2 ^ d + 2 ^ d ≡ m = omega (arith, o.0) in
        pick (eqb e d) refl (m - 2 ^ d) o.1 (ap (λ (x : ℕ). digit x e) (sym s) ∙ digit_add d e (m - 2 ^ d) o.1)
    by false q = here (eqb e d) refl (eqb-false (digit m d) 1 q)

-- a mask of w bits stays one
pub with_lt : (w m d : ℕ) → m < 2 ^ w → d < w → with_slot m d < 2 ^ w
unfolding in_mask with_slot
with_lt w m d h l = by (eqb (digit m d) 1) refl
  where
    by : (b : Bool) → eqb (digit m d) 1 ≡ b → cond b m (m + 2 ^ d) < 2 ^ w
    by true q = h
    by false q = add_fits d w m l (off (digit m d) (digit_lt m d) (eqb-false (digit m d) 1 q)) h

pub without_le : (m d : ℕ) → without_slot m d ≤ m
unfolding without_slot
without_le m d = by (in_mask m d)
  where
    by : (b : Bool) → cond b (m - 2 ^ d) m ≤ m
    by true = omega arith
    by false = omega arith

-- a slot that is in the mask counts for 2^d of it
pub slot_le : (m d : ℕ) → in_mask m d ≡ true → 2 ^ d ≤ m
unfolding in_mask
slot_le m d e = (take_off m d (eqb-true (digit m d) 1 e)).0

-- ---- slots past the mask's width

pub in_past : (n m e : ℕ) → m < 2 ^ n → n ≤ e → in_mask m e ≡ false
unfolding in_mask
in_past n m e h l =
    let z : m / 2 ^ e ≡ 0 = div-eq_of_lt (lt_of_lt_of_le h (pow_mono l)) in
    ne_eqb (m / 2 ^ e % 2) 1 (λ o. omega arith)

-- a mask with no slot from n on is below 2^n
pub slots_below : (n m : ℕ) → ((e : ℕ) → n ≤ e → in_mask m e ≡ false) → m < 2 ^ n
unfolding in_mask
slots_below n m h =
    let q : m / 2 ^ n ≡ 0 = no_digits (m / 2 ^ n) (λ e. ap (λ (x : ℕ). x % 2) (shr-shr m n e) ∙ off (digit m (n + e)) (digit_lt m (n + e)) (eqb-false (digit m (n + e)) 1 (h (n + e) (omega arith)))) in
    omega (arith, split m n, mod-lt m {m = 2 ^ n} (pow_pos n), ap (λ (x : ℕ). x * 2 ^ n) q, zero-mul (2 ^ n))

-- ---- a set of slots, told by a test

pub mask_lt : (p : ℕ → Bool) (n : ℕ) → mask_of p n < 2 ^ n
unfolding mask_of
mask_lt p zero = omega arith
mask_lt p (suc n) = by (p n) (omega (arith, pow-suc 2 n, mask_lt p n))
  where
    by : (b : Bool) → mask_of p n < 2 ^ suc n → cond b (with_slot (mask_of p n) n) (mask_of p n) < 2 ^ suc n
    by true wide = with_lt (suc n) (mask_of p n) n wide (omega arith)
    by false wide = wide

-- below n the mask tells the test
pub mask_below : (p : ℕ → Bool) (n d : ℕ) → d < n → in_mask (mask_of p n) d ≡ p d
unfolding mask_of
mask_below p zero d l = absurd (omega arith)
mask_below p (suc n) d l = ⊎_elim last (λ (h : d < n). before h (mask_below p n d h)) (eq-or-lt_of_le (le_of_suc-le-suc l))
  where
    M : ℕ
    M = mask_of p n

    last : d ≡ n → in_mask (cond (p n) (with_slot M n) M) d ≡ p d
    last e = go (p n) refl
      where
        go : (b : Bool) → p n ≡ b → in_mask (cond b (with_slot M n) M) d ≡ p d
        go true q = in_with M n d ∙ ap (λ (x : Bool). x || in_mask M d) (eq-eqb d n e) ∙ sym (ap p e ∙ q)
        go false q = in_past n M d (mask_lt p n) (omega arith) ∙ sym (ap p e ∙ q)

    before : d < n → in_mask M d ≡ p d → in_mask (cond (p n) (with_slot M n) M) d ≡ p d
    before h q = go (p n)
      where
        go : (b : Bool) → in_mask (cond b (with_slot M n) M) d ≡ p d
        go true = in_with M n d ∙ ap (λ (x : Bool). x || in_mask M d) (ne_eqb d n (λ e. omega arith)) ∙ q
        go false = q

-- and from n on no slot is in it
pub mask_past : (p : ℕ → Bool) (n d : ℕ) → n ≤ d → in_mask (mask_of p n) d ≡ false
mask_past p n d l = in_past n (mask_of p n) d (mask_lt p n) l

-- ---- the count

tally_same : (p q : ℕ → Bool) → ((i : ℕ) → p i ≡ q i) → (n : ℕ) → tally p n ≡ tally q n
unfolding tally
tally_same p q h zero = refl
tally_same p q h (suc n) = ap₂ (λ (b : Bool) (x : ℕ). cond b 1 0 + x) (h 0) (tally_same (λ i. p (suc i)) (λ i. q (suc i)) (λ i. h (suc i)) n)

low_digit : (x : ℕ) → x < 2 → cond (eqb x 1) 1 0 ≡ x
low_digit zero h = refl
low_digit (suc zero) h = refl
low_digit (suc (suc x)) h = absurd (omega arith)

pub count_is : (n m : ℕ) → m < 2 ^ n → ones m ≡ tally (in_mask m) n
unfolding tally in_mask ones ones_in
count_is zero m h = ap ones (lt-one h)
count_is (suc n) m h =
    ones_step m
    ∙ ap₂ (λ (x y : ℕ). x + y)
    (sym (low_digit (m % 2) (mod-lt m (lit< tt))) ∙ ap (λ (x : ℕ). cond (eqb x 1) 1 0) (sym (digit_zero m)))
    (count_is n (m / 2) (omega (arith, pow-suc 2 n)) ∙ tally_same (in_mask (m / 2)) (λ i. in_mask m (suc i)) (λ i. ap (λ (x : ℕ). eqb x 1) (sym (digit_suc m i))) n)
