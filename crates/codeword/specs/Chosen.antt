-- The numbers below n that pass a test: how many there are, and sums over them. Assumes nothing.
use Rattle.std.specs.Prelude.{◌≡◌, refl, Bool, true, false, cond, not, List, [], ◌∷◌, ◌≢◌, ◌⊎◌, ℕ, zero, suc, ◌+◌, ◌≤◌, ◌<◌, eqb, length, get_or, take}
use Rattle.std.proofs.Common.{sym, ap, ap₂, ◌∙◌, true≢false, inl, inr, ⊎_elim, eq-or-lt_of_le, le_of_suc-le-suc, add-zero, add-suc, arith, eqb-true, ne_eqb}
use Rattle.std.specs.Int.Bits.{bit_xor}
use Rattle.std.proofs.lemmas.Bool.{eqb-false}
use Rattle.field.proofs.Bytes.{bytes}
use Rattle.codeword.specs.Sum.{total}
use Rattle.codeword.specs.Stripe.{has}
use Rattle.codeword.specs.Named.{has_none}

-- ---- lists

-- P of each entry
abbrev pub All : (ℕ → Type 0) → List ℕ → Type 0
All P [] = Unit {0}
All P (a ∷ l) = P a × All P l

-- the entries fall, from below n: so they are distinct and all below n
abbrev pub Falling : ℕ → List ℕ → Type 0
Falling n [] = Unit {0}
Falling n (a ∷ l) = (a < n) × Falling a l

pub all_at : (P : ℕ → Type 0) (l : List ℕ) → All P l → (c : ℕ) → c < length l → P (get_or l c 0)
all_at P [] a c h = absurd (omega arith)
all_at P (b ∷ l) a zero h = a.0
all_at P (b ∷ l) a (suc c) h = all_at P l a.1 c (omega arith)

pub falling_at : (n : ℕ) (l : List ℕ) → Falling n l → (c : ℕ) → c < length l → get_or l c 0 < n
falling_at n [] f c h = absurd (omega arith)
falling_at n (a ∷ l) f zero h = f.0
falling_at n (a ∷ l) f (suc c) h = omega (arith, falling_at a l f.1 c (omega arith))

pub falling_on : (n : ℕ) (l : List ℕ) → Falling n l → (i c : ℕ) → i < c → c < length l → get_or l c 0 < get_or l i 0
falling_on n [] f i c l h = absurd (omega arith)
falling_on n (a ∷ l) f i zero g h = absurd (omega arith)
falling_on n (a ∷ l) f zero (suc c) g h = falling_at a l f.1 c (omega arith)
falling_on n (a ∷ l) f (suc i) (suc c) g h = falling_on a l f.1 i c (omega arith) (omega arith)

-- the sum over the entries
abbrev pub over : List ℕ → (ℕ → ℕ) → ℕ
over [] f = 0
over (a ∷ l) f = bit_xor (f a) (over l f)

-- ---- the numbers below n that pass the test p

abbrev pub chosen : (ℕ → Bool) → ℕ → List ℕ
chosen p zero = []
chosen p (suc n) = cond (p n) (n ∷ chosen p n) (chosen p n)

pub chosen_ext : (p q : ℕ → Bool) (n : ℕ) → ((i : ℕ) → i < n → p i ≡ q i) → chosen p n ≡ chosen q n
chosen_ext p q zero h = refl
chosen_ext p q (suc n) h =
    ap₂ (λ (t : Bool) (l : List ℕ). cond t (n ∷ l) l) (h n (omega arith)) (chosen_ext p q n (λ i l. h i (omega arith)))

pub chosen_falls : (p : ℕ → Bool) (n b : ℕ) → n ≤ b → Falling b (chosen p n)
chosen_falls p zero b h = tt
chosen_falls p (suc n) b h = go (p n) (chosen_falls p n n (omega arith)) (chosen_falls p n b (omega arith))
  where
    go : (t : Bool) → Falling n (chosen p n) → Falling b (chosen p n) → Falling b (cond t (n ∷ chosen p n) (chosen p n))
    go true f g = (h, f)
    go false f g = g

-- what holds of each number that passes holds of each entry, and back
pub chosen_all : (p : ℕ → Bool) (P : ℕ → Type 0) (n : ℕ) → ((i : ℕ) → i < n → p i ≡ true → P i) → All P (chosen p n)
chosen_all p P zero h = tt
chosen_all p P (suc n) h = go (p n) (h n (omega arith)) (chosen_all p P n (λ i l. h i (omega arith)))
  where
    go : (t : Bool) → (t ≡ true → P n) → All P (chosen p n) → All P (cond t (n ∷ chosen p n) (chosen p n))
    go true f a = (f refl, a)
    go false f a = a

pub chosen_at : (p : ℕ → Bool) (P : ℕ → Type 0) (n : ℕ) → All P (chosen p n) → (i : ℕ) → i < n → p i ≡ true → P i
chosen_at p P zero a i h = absurd (omega arith)
chosen_at p P (suc n) a i h = go (p n) refl a (λ a l. chosen_at p P n a i l) (eq-or-lt_of_le (le_of_suc-le-suc h))
  where
    go : (t : Bool) → p n ≡ t → All P (cond t (n ∷ chosen p n) (chosen p n)) → (All P (chosen p n) → i < n → p i ≡ true → P i)
        → (i ≡ n) ⊎ (i < n) → p i ≡ true → P i
    go true e a ih (inl q) = λ t. rw q a.0
    go true e a ih (inr l) = ih a.1 l
    go false e a ih (inl q) = λ t. absurd (let z : true ≡ false = cc in true≢false z)
    go false e a ih (inr l) = ih a l

-- a number that passes and is not among the first c is less than those
pub chosen_least : (p : ℕ → Bool) (n c r q : ℕ) → r < n → p r ≡ true → has (take c (chosen p n)) r ≡ false → has (take c (chosen p n)) q ≡ true
    → r < q
chosen_least p zero c r q h = absurd (omega arith)
chosen_least p (suc n) c r q h = go (p n) refl c (λ c l. chosen_least p n c r q l) (eq-or-lt_of_le (le_of_suc-le-suc h))
  where
    front : (c : ℕ) → ((c : ℕ) → r < n → p r ≡ true → has (take c (chosen p n)) r ≡ false → has (take c (chosen p n)) q ≡ true → r < q)
        → (r ≡ n) ⊎ (r < n) → p r ≡ true → (u v : Bool) → eqb n r ≡ u → eqb n q ≡ v
        → cond u true (has (take c (chosen p n)) r) ≡ false → cond v true (has (take c (chosen p n)) q) ≡ true → r < q
    front c ih d t true v eu ev a b = absurd (true≢false a)
    front c ih (inl e) t false v eu ev a b = absurd (eqb-false n r eu (sym e))
    front c ih (inr l) t false true eu ev a b = rw (sym (eqb-true n q ev)) l
    front c ih (inr l) t false false eu ev a b = ih c l t a b

    go : (t : Bool) → p n ≡ t → (c : ℕ)
        → ((c : ℕ) → r < n → p r ≡ true → has (take c (chosen p n)) r ≡ false → has (take c (chosen p n)) q ≡ true → r < q)
        → (r ≡ n) ⊎ (r < n) → p r ≡ true → has (take c (cond t (n ∷ chosen p n) (chosen p n))) r ≡ false
        → has (take c (cond t (n ∷ chosen p n) (chosen p n))) q ≡ true → r < q
    go true e zero ih d t a b = absurd (true≢false (sym b))
    go true e (suc c) ih d t a b = front c ih d t (eqb n r) (eqb n q) refl refl a b
    go false e c ih (inl z) t a b = absurd (let y : true ≡ false = cc in true≢false y)
    go false e c ih (inr l) t a b = ih c l t a b

-- a sum whose other terms are 0
pub chosen_sum : (p : ℕ → Bool) (f : ℕ → ℕ) (n : ℕ) → ((i : ℕ) → i < n → p i ≡ false → f i ≡ 0) → total n f ≡ over (chosen p n) f
unfolding total
chosen_sum p f zero h = refl
chosen_sum p f (suc n) h = go (p n) (h n (omega arith)) (chosen_sum p f n (λ i l. h i (omega arith)))
  where
    go : (t : Bool) → (t ≡ false → f n ≡ 0) → total n f ≡ over (chosen p n) f
        → bit_xor (total n f) (f n) ≡ over (cond t (n ∷ chosen p n) (chosen p n)) f
    go true z ih = bytes.add_comm (total n f) (f n) ∙ ap (bit_xor (f n)) ih
    go false z ih = ap₂ bit_xor ih (z refl) ∙ bytes.add_zero (over (chosen p n) f)

-- ---- counting

abbrev pub count : (ℕ → Bool) → ℕ → ℕ
count p zero = 0
count p (suc n) = cond (p n) 1 0 + count p n

pub chosen_length : (p : ℕ → Bool) (n : ℕ) → length (chosen p n) ≡ count p n
chosen_length p zero = refl
chosen_length p (suc n) = go (p n) (chosen_length p n)
  where
    go : (t : Bool) → length (chosen p n) ≡ count p n → length (cond t (n ∷ chosen p n) (chosen p n)) ≡ cond t 1 0 + count p n
    go true e = omega arith
    go false e = omega arith

-- those below n, and the next m
pub count_split : (p : ℕ → Bool) (n m : ℕ) → count p (n + m) ≡ count p n + count (λ i. p (n + i)) m
count_split p n zero = ap (count p) (add-zero n) ∙ sym (add-zero (count p n))
count_split p n (suc m) = rw add-suc (omega (arith, count_split p n m))

-- those that pass and those that fail
pub count_not : (p : ℕ → Bool) (n : ℕ) → count p n + count (λ i. not (p i)) n ≡ n
count_not p zero = refl
count_not p (suc n) = go (p n) (count_not p n)
  where
    go : (t : Bool) → count p n + count (λ i. not (p i)) n ≡ n → (cond t 1 0 + count p n) + (cond (not t) 1 0 + count (λ i. not (p i)) n) ≡ suc n
    go true e = omega arith
    go false e = omega arith

-- a list has no more numbers than entries
has_early : (a n : ℕ) (l : List ℕ) → n ≤ a → count (has (a ∷ l)) n ≡ count (has l) n
has_early a zero l h = refl
has_early a (suc n) l h =
    ap₂ (λ (t : Bool) (c : ℕ). cond (cond t true (has l n)) 1 0 + c) (ne_eqb a n (λ q. omega arith)) (has_early a n l (omega arith))

has_more : (a n : ℕ) (l : List ℕ) → count (has (a ∷ l)) n ≤ suc (count (has l) n)
has_more a zero l = omega arith
has_more a (suc n) l = go (eqb a n) refl (has_more a n l)
  where
    go : (t : Bool) → eqb a n ≡ t → count (has (a ∷ l)) n ≤ suc (count (has l) n)
        → cond (cond t true (has l n)) 1 0 + count (has (a ∷ l)) n ≤ suc (cond (has l n) 1 0 + count (has l) n)
    go true e h = let q : a ≡ n = eqb-true a n e in omega (arith, has_early a n l (omega arith))
    go false e h = omega arith

pub has_few : (l : List ℕ) (n : ℕ) → count (has l) n ≤ length l
has_few [] zero = omega arith
has_few [] (suc n) = omega (arith, has_few [] n)
has_few (a ∷ l) n = omega (arith, has_more a n l, has_few l n)

-- and exactly as many where they are below n and distinct
has_one : (a n : ℕ) (l : List ℕ) → a < n → has l a ≡ false → count (has (a ∷ l)) n ≡ suc (count (has l) n)
has_one a zero l h e = absurd (omega arith)
has_one a (suc n) l h e = go (eqb a n) refl (λ g. has_one a n l g e)
  where
    go : (t : Bool) → eqb a n ≡ t → (a < n → count (has (a ∷ l)) n ≡ suc (count (has l) n))
        → cond (cond t true (has l n)) 1 0 + count (has (a ∷ l)) n ≡ suc (cond (has l n) 1 0 + count (has l) n)
    go true q ih =
        let z : has l n ≡ false = rw (sym (eqb-true a n q)) e in
        rw z (omega (arith, eqb-true a n q, has_early a n l (omega (arith, eqb-true a n q))))
    go false q ih = omega (arith, ih (⊎_elim (λ (z : a ≡ n). absurd (eqb-false a n q z)) (λ (l : a < n). l) (eq-or-lt_of_le (le_of_suc-le-suc h))))

pub has_exactly : (l : List ℕ) (n : ℕ) → ((c : ℕ) → c < length l → get_or l c 0 < n)
    → ((i c : ℕ) → i < c → c < length l → get_or l i 0 ≢ get_or l c 0) → count (has l) n ≡ length l
has_exactly [] zero h d = refl
has_exactly [] (suc n) h d = omega (arith, has_exactly [] n (λ c g. absurd (omega arith)) (λ i c g k. absurd (omega arith)))
has_exactly (a ∷ l) n h d =
    has_one a n l (h 0 (omega arith)) (has_none l a (λ c g q. d 0 (suc c) (omega arith) (omega arith) (sym q)))
    ∙ ap suc (has_exactly l n (λ c g. h (suc c) (omega arith)) (λ i c g k. d (suc i) (suc c) (omega arith) (omega arith)))
