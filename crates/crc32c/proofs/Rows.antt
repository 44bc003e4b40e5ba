-- The table's rule, by a test that antt computes over the whole table. The rows of 0 and 1 are tested by the definition,
-- the row of each power of 2 by one step to the row of half of it, and the rows behind it are sums. Assumes nothing.
use mathlib.Core.Path.{◌≡◌, refl, sym, ap, ap₂, ◌∙◌, subst}
use mathlib.Core.Bool.{Bool, true, false}
use mathlib.Core.List.{List, [], ◌∷◌}
use mathlib.Core.Logic.{⊎_elim}
use Prim.Native.Nat.{ℕ, zero, suc, ◌+◌, ◌*◌, ◌-◌, ◌/◌, ◌%◌, ◌^◌, ◌≤◌, ◌<◌}
use lib.Pow.{pow_mono}
use native.Mathlib.Nat.{mod-lt, zero-lt-suc, pow-suc, mul-le-mul_left, mul_assoc, mul_comm, add-zero, add-suc, suc-add, le_of_suc-le-suc, not-suc-le-zero, eq-zero-or-pos}
use native.Mathlib.Omega.{arith}
use lib.Bits.{bit_xor, xor_self, xor_zero_r, xor_comm, xor_shr, xor_shifted}
use lib.Dec.{T, eqb, ltb, eqb→eq, ltb→lt}
use lib.ListN.{length, get_or, take, drop}
use lib.Seq.{get_or-take, get_or-drop, length-take-le}
use Rattle.crc32c.specs.Crc.{polynomial, pick, step, steps}
use Rattle.crc32c.specs.Table.{entry, Rows, Filled}
use Rattle.bits.specs.Xor.{bit_ind, xor_assoc}
use Rattle.bits.specs.Below.{both, both_left, both_right, below, at}
use Rattle.crc32c.proofs.Laws.{step_steps, step_even, steps_xor, steps_lt}

-- ---- a step can be taken back

out : (x : ℕ) → x < 4294967296 → step x / 2147483648 ≡ x % 2
unfolding step
out x h =
    let e : x / 2 / 2147483648 ≡ 0 = omega arith in
    xor_shr (x / 2) (pick (x % 2) polynomial) 31
    ∙ ap (λ (y : ℕ). bit_xor y (pick (x % 2) polynomial / 2147483648)) e
    ∙ bit_ind (λ d. pick d polynomial / 2147483648 ≡ d) refl refl (x % 2) (mod-lt x (zero-lt-suc 1))

off : (x : ℕ) → bit_xor (step x) (pick (x % 2) polynomial) ≡ x / 2
unfolding step
off x =
    xor_assoc (x / 2) (pick (x % 2) polynomial) (pick (x % 2) polynomial)
    ∙ ap (bit_xor (x / 2)) (xor_self (pick (x % 2) polynomial)) ∙ xor_zero_r (x / 2)

step_inj : (x y : ℕ) → x < 4294967296 → y < 4294967296 → step x ≡ step y → x ≡ y
step_inj x y hx hy e =
    let d : x % 2 ≡ y % 2 = sym (out x hx) ∙ ap (λ (z : ℕ). z / 2147483648) e ∙ out y hy in
    let h : x / 2 ≡ y / 2 = sym (off x) ∙ ap₂ (λ (z w : ℕ). bit_xor z (pick w polynomial)) e d ∙ off y in
    omega arith

-- ---- the tests

unfoldable pub RowAt : ℕ → List ℕ → Type 0
RowAt a t = (j : ℕ) → j < 16 → get_or t (16 * a + j) 0 ≡ entry a j

-- by the definition
unfoldable pub known : ℕ → List ℕ → ℕ → Bool
known a t j = eqb (get_or t (16 * a + j) 0) (entry a j)

-- one step after the row of 2 * a comes the row of a
unfoldable pub doubles : ℕ → List ℕ → ℕ → Bool
doubles a t j =
    both (ltb (get_or t (16 * (a * 2) + j) 0) 4294967296) (eqb (step (get_or t (16 * (a * 2) + j) 0)) (get_or t (16 * a + j) 0))

-- r begins with l, and c added to it
unfoldable pub added : (ℕ → ℕ) → ℕ → List ℕ → List ℕ → Bool
added c i [] r = true
added c i (x ∷ l) [] = false
added c i (x ∷ l) (y ∷ r) = both (eqb y (bit_xor x (c i))) (added c (suc i) l r)

-- behind the rows below a come the same, with the row of a added
unfoldable pub sums : ℕ → List ℕ → Bool
sums a t = let r = drop (16 * a) t in let p = take 16 r in added (λ i. get_or p (i % 16) 0) 0 (take (16 * a) t) r

-- i more powers of 2 from a on
unfoldable pub powers : ℕ → ℕ → List ℕ → Bool
powers zero a t = sums a t
powers (suc i) a t = both (both (sums a t) (below 16 (doubles a t))) (powers i (a * 2) t)

unfoldable pub right : List ℕ → Bool
right t = both (eqb (length t) 4096) (both (both (below 16 (known 0 t)) (below 16 (known 1 t))) (powers 7 1 t))

-- ---- what they say

row_known : (a : ℕ) (t : List ℕ) → T (below 16 (known a t)) → RowAt a t
unfolding RowAt known
row_known a t h j l = eqb→eq (get_or t (16 * a + j) 0) (entry a j) (at 16 (known a t) h j l)

row_doubled : (a : ℕ) (t : List ℕ) → a ≤ 128 → RowAt a t → T (below 16 (doubles a t)) → RowAt (a * 2) t
unfolding RowAt doubles
row_doubled a t s w h j l =
    let k = at 16 (doubles a t) h j l in
    let y = get_or t (16 * (a * 2) + j) 0 in
    step_inj y (entry (a * 2) j)
    (ltb→lt y 4294967296 (both_left (ltb y 4294967296) (eqb (step y) (get_or t (16 * a + j) 0)) k))
    (steps_lt (8 + 8 * j) (a * 2) (omega arith))
    (eqb→eq (step y) (get_or t (16 * a + j) 0) (both_right (ltb y 4294967296) (eqb (step y) (get_or t (16 * a + j) 0)) k)
    ∙ w j l ∙ sym (step_steps (8 + 8 * j) (a * 2) ∙ ap (steps (8 + 8 * j)) (step_even a)))

added_at : (c : ℕ → ℕ) (i : ℕ) (l r : List ℕ) → T (added c i l r) → (k : ℕ) → k < length l → get_or r k 0 ≡ bit_xor (get_or l k 0) (c (i + k))
unfolding added
added_at c i [] r h k s = absurd (not-suc-le-zero s)
added_at c i (x ∷ l) [] h k s = absurd h
added_at c i (x ∷ l) (y ∷ r) h zero s =
    eqb→eq y (bit_xor x (c i)) (both_left (eqb y (bit_xor x (c i))) (added c (suc i) l r) h)
    ∙ ap (λ (n : ℕ). bit_xor x (c n)) (sym (add-zero i))
added_at c i (x ∷ l) (y ∷ r) h (suc k) s =
    added_at c (suc i) l r (both_right (eqb y (bit_xor x (c i))) (added c (suc i) l r) h) k (le_of_suc-le-suc s)
    ∙ ap (λ (n : ℕ). bit_xor (get_or l k 0) (c n)) (suc-add i k ∙ sym (add-suc i k))

rows_sums : (a : ℕ) (t : List ℕ) → a ≤ 128 → ((b : ℕ) → b < a → bit_xor a b ≡ a + b) → Rows a t → RowAt a t → T (sums a t) → Rows (a * 2) t
unfolding RowAt sums
rows_sums a t s apart w q h = record { size = w.size; right = λ b j l m. ⊎_elim (λ z. old b j m (omega arith)) (λ p. new b j l m p) (eq-zero-or-pos (b + 1 - a)) }
  where
    old : (b j : ℕ) → j < 16 → b < a → get_or t (16 * b + j) 0 ≡ entry b j
    old b j m l = w.right b j l m

    new : (b j : ℕ) → b < a * 2 → j < 16 → 0 < b + 1 - a → get_or t (16 * b + j) 0 ≡ entry b j
    new b j l m p =
        let d : ℕ = b - a in
        let k : ℕ = 16 * d + j in
        let e : a + d ≡ b = omega arith in
        let n : 16 * b + j ≡ 16 * a + k = omega arith in
        let o : (0 + k) % 16 ≡ j = omega arith in
        let u : length (take (16 * a) t) ≡ 16 * a = length-take-le (16 * a) t (omega (arith, w.size)) in
        ap (λ (i : ℕ). get_or t i 0) n ∙ sym (get_or-drop (16 * a) t k 0)
        ∙ added_at (λ i. get_or (take 16 (drop (16 * a) t)) (i % 16) 0) 0 (take (16 * a) t) (drop (16 * a) t) h k (omega arith)
        ∙ ap₂ bit_xor (get_or-take (16 * a) t k 0 (omega arith) ∙ w.right d j (omega arith) m)
        (ap (λ (i : ℕ). get_or (take 16 (drop (16 * a) t)) i 0) o ∙ get_or-take 16 (drop (16 * a) t) j 0 m ∙ get_or-drop (16 * a) t j 0 ∙ q j m)
        ∙ xor_comm (entry d j) (entry a j) ∙ sym (steps_xor (8 + 8 * j) a d) ∙ ap (steps (8 + 8 * j)) (apart d (omega arith) ∙ e)

-- ---- powers of 2

power_apart : (e n : ℕ) → n ≡ 2 ^ e → (b : ℕ) → b < n → bit_xor n b ≡ n + b
power_apart e n p b h =
    let o : n ≡ 1 * 2 ^ e = omega arith in
    ap (λ (x : ℕ). bit_xor x b) o ∙ xor_shifted 1 e b (omega arith) ∙ ap (λ (x : ℕ). x + b) (sym o)

power_next : (e n : ℕ) → n ≡ 2 ^ e → n * 2 ≡ 2 ^ suc e
power_next e n p = ap (λ (x : ℕ). x * 2) p ∙ sym (pow-suc 2 e)

rows_eq : {n m : ℕ} {t : List ℕ} → n ≡ m → Rows n t → Rows m t
rows_eq {n} {m} {t} e w = subst (λ (k : ℕ). Rows k t) e w

rows_powers : (i a e : ℕ) (t : List ℕ) → a * 2 ^ suc i ≤ 256 → a ≡ 2 ^ e → Rows a t → RowAt a t → T (powers i a t) → Rows (a * 2 ^ suc i) t
unfolding powers
rows_powers zero a e t s p w q h = rows_sums a t (omega arith) (power_apart e a p) w q h
rows_powers (suc i) a e t s p w q h =
    let g = both_left (both (sums a t) (below 16 (doubles a t))) (powers i (a * 2) t) h in
    let n : a * 2 * 2 ^ suc i ≡ a * 2 ^ suc (suc i) = mul_assoc a 2 (2 ^ suc i) ∙ ap (λ (x : ℕ). a * x) (mul_comm 2 (2 ^ suc i) ∙ sym (pow-suc 2 (suc i))) in
    let l : a ≤ 128 = omega (arith, pow_two a i) in
    rows_eq n
    (rows_powers i (a * 2) (suc e) t (omega arith) (power_next e a p)
    (rows_sums a t l (power_apart e a p) w q (both_left (sums a t) (below 16 (doubles a t)) g))
    (row_doubled a t l q (both_right (sums a t) (below 16 (doubles a t)) g))
    (both_right (both (sums a t) (below 16 (doubles a t))) (powers i (a * 2) t) h))
  where
    pow_two : (a i : ℕ) → a * 2 ≤ a * 2 ^ suc (suc i)
    pow_two a i = mul-le-mul_left a (pow_mono {i = 1} {j = suc (suc i)} (omega arith))

pub table_right : (t : List ℕ) → T (right t) → Filled t
unfolding RowAt right
table_right t h =
    let k = both_right (eqb (length t) 4096) (both (both (below 16 (known 0 t)) (below 16 (known 1 t))) (powers 7 1 t)) h in
    let g = both_left (both (below 16 (known 0 t)) (below 16 (known 1 t))) (powers 7 1 t) k in
    let z = row_known 0 t (both_left (below 16 (known 0 t)) (below 16 (known 1 t)) g) in
    rows_powers 7 1 0 t (omega arith) refl
    (first (eqb→eq (length t) 4096 (both_left (eqb (length t) 4096) (both (both (below 16 (known 0 t)) (below 16 (known 1 t))) (powers 7 1 t)) h)) z)
    (row_known 1 t (both_right (below 16 (known 0 t)) (below 16 (known 1 t)) g))
    (both_right (both (below 16 (known 0 t)) (below 16 (known 1 t))) (powers 7 1 t) k)
  where
    first : length t ≡ 4096 → RowAt 0 t → Rows 1 t
    first e w = record { size = e; right = λ a j l m. let z : a ≡ 0 = omega arith in subst (λ (x : ℕ). get_or t (16 * x + j) 0 ≡ entry x j) (sym z) (w j m) }
