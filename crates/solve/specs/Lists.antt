-- The turns of the loops over a list of shards, and what a list that is taken means. Assumes nothing.
use Rattle.std.specs.Prelude.{◌≡◌, refl, Bool, true, false, cond, not, ◌&&◌, ◌||◌, List, [], ◌∷◌, ◌≢◌, ℕ, zero, suc, ◌+◌, ◌*◌, ◌≤◌, ◌<◌, eqb, leb, ltb, length, get_or, drop}
use Rattle.std.specs.List.{list_any}
use Rattle.std.proofs.Common.{sym, ap, ap₂, ◌∙◌, add-one, arith, drop_of_length-le, drop-cons, eq-eqb, ne_eqb, lt-ltb, le-ltb, le-leb, ltb-true, leb-true, eqb-true}
use Rattle.std.proofs.lemmas.Bool.{not-true}
use Rattle.codeword.specs.Stripe.{k_least, k_most, m_least, m_most, InRange, has}
use Rattle.codeword.specs.Named.{has_not, has_none}
use Rattle.solve.specs.Lost.{Lost, shards_of, solvable_of}

-- a test of each number
pub has_any : (l : List ℕ) (a : ℕ) → list_any (λ x. eqb x a) l ≡ has l a
has_any [] a = refl
has_any (x ∷ l) a = ap (λ (b : Bool). eqb x a || b) (has_any l a) ∙ or_cond (eqb x a) (has l a)
  where
    or_cond : (b d : Bool) → (b || d) ≡ cond b true d
    or_cond true d = refl
    or_cond false d = refl

module _ (l : List ℕ) (i : ℕ) where
  at_i : i < length l → drop i l ≡ get_or l i 0 ∷ drop (i + 1) l
  at_i h = drop-cons l i 0 h ∙ ap (λ (j : ℕ). get_or l i 0 ∷ drop j l) (sym (add-one i))

  pub has_here : (a : ℕ) → i < length l → get_or l i 0 ≡ a → has (drop i l) a ≡ true
  has_here a h e = ap (λ (t : List ℕ). has t a) (at_i h) ∙ ap (λ (b : Bool). cond b true (has (drop (i + 1) l) a)) (eq-eqb (get_or l i 0) a e)

  pub has_on : (a : ℕ) → i < length l → get_or l i 0 ≢ a → has (drop (i + 1) l) a ≡ has (drop i l) a
  has_on a h n = sym (ap (λ (t : List ℕ). has t a) (at_i h) ∙ ap (λ (b : Bool). cond b true (has (drop (i + 1) l) a)) (ne_eqb (get_or l i 0) a n))

  pub has_end : (a : ℕ) → length l ≤ i → has (drop i l) a ≡ false
  has_end a h = ap (λ (t : List ℕ). has t a) (drop_of_length-le l h)

  -- a number too great, a number named again, the rest
  pub shards_great : (n : ℕ) → i < length l → n ≤ get_or l i 0 → shards_of n (drop i l) ≡ false
  shards_great n h g =
      ap (shards_of n) (at_i h)
      ∙ ap (λ (b : Bool). b && not (has (drop (i + 1) l) (get_or l i 0)) && shards_of n (drop (i + 1) l)) (le-ltb (get_or l i 0) n g)

  pub shards_again : (n : ℕ) → i < length l → get_or l i 0 < n → has (drop (i + 1) l) (get_or l i 0) ≡ true → shards_of n (drop i l) ≡ false
  shards_again n h g e =
      ap (shards_of n) (at_i h)
      ∙ ap₂ (λ (b c : Bool). b && not c && shards_of n (drop (i + 1) l)) (lt-ltb (get_or l i 0) n g) e

  pub shards_on : (n : ℕ) → i < length l → get_or l i 0 < n → has (drop (i + 1) l) (get_or l i 0) ≡ false
      → shards_of n (drop (i + 1) l) ≡ shards_of n (drop i l)
  shards_on n h g e =
      sym (ap (shards_of n) (at_i h)
      ∙ ap₂ (λ (b c : Bool). b && not c && shards_of n (drop (i + 1) l)) (lt-ltb (get_or l i 0) n g) e)

  pub shards_end : (n : ℕ) → length l ≤ i → shards_of n (drop i l) ≡ true
  shards_end n h = ap (shards_of n) (drop_of_length-le l h)

-- ---- what the tests mean

pub and_left : (a b : Bool) → (a && b) ≡ true → a ≡ true
and_left true b e = refl
and_left false b e = e

pub and_right : (a b : Bool) → (a && b) ≡ true → b ≡ true
and_right true b e = e
and_right false b e = absurd (let z : ◌≡◌ {A = ℕ} 0 1 = cc in omega arith)

pub shards_inside : (n : ℕ) (l : List ℕ) → shards_of n l ≡ true → (c : ℕ) → c < length l → get_or l c 0 < n
shards_inside n [] e c h = absurd (omega arith)
shards_inside n (a ∷ l) e zero h = ltb-true a n (and_left (ltb a n) (not (has l a)) (and_left (ltb a n && not (has l a)) (shards_of n l) e))
shards_inside n (a ∷ l) e (suc c) h = shards_inside n l (and_right (ltb a n && not (has l a)) (shards_of n l) e) c (omega arith)

pub shards_apart : (n : ℕ) (l : List ℕ) → shards_of n l ≡ true → (c d : ℕ) → c < length l → d < length l → get_or l c 0 ≡ get_or l d 0 → c ≡ d
shards_apart n [] e c d h k q = absurd (omega arith)
shards_apart n (a ∷ l) e zero zero h k q = refl
shards_apart n (a ∷ l) e zero (suc d) h k q =
    absurd (has_not l a d (not-true (has l a) (and_right (ltb a n) (not (has l a)) (and_left (ltb a n && not (has l a)) (shards_of n l) e))) (omega arith) (sym q))
shards_apart n (a ∷ l) e (suc c) zero h k q =
    absurd (has_not l a c (not-true (has l a) (and_right (ltb a n) (not (has l a)) (and_left (ltb a n && not (has l a)) (shards_of n l) e))) (omega arith) q)
shards_apart n (a ∷ l) e (suc c) (suc d) h k q =
    ap suc (shards_apart n l (and_right (ltb a n && not (has l a)) (shards_of n l) e) c d (omega arith) (omega arith) q)

pub shards_lost : (k m : ℕ) (l : List ℕ) → length l ≤ m → shards_of (k + m) l ≡ true → Lost k m l
shards_lost k m l f e = record { few = f; shards = shards_inside (k + m) l e; distinct = λ i c h g q. omega (arith, shards_apart (k + m) l e i c (omega arith) g q) }

pub lost_one : (k m r : ℕ) → 1 ≤ m → r < k + m → Lost k m (r ∷ [])
lost_one k m r hm hr =
    record { few = hm; shards = at; distinct = λ i c h g e. omega arith }
  where
    at : (c : ℕ) → c < 1 → get_or (r ∷ []) c 0 < k + m
    at zero h = hr
    at (suc c) h = absurd (omega arith)

pub lost_none : (k m : ℕ) → Lost k m []
lost_none k m = record { few = omega arith; shards = λ c h. absurd (omega arith); distinct = λ i c h g e. omega arith }

-- and the other way
pub lost_shards : (n : ℕ) (l : List ℕ) → ((c : ℕ) → c < length l → get_or l c 0 < n)
    → ((i c : ℕ) → i < c → c < length l → get_or l i 0 ≢ get_or l c 0) → shards_of n l ≡ true
lost_shards n [] s d = refl
lost_shards n (a ∷ l) s d =
    ap₂ ◌&&◌ (ap₂ (λ (b c : Bool). b && not c) (lt-ltb a n (s 0 (omega arith))) (has_none l a (λ c h e. d 0 (suc c) (omega arith) (omega arith) (sym e))))
    (lost_shards n l (λ c h. s (suc c) (omega arith)) (λ i c g h. d (suc i) (suc c) (omega arith) (omega arith)))

pub solvable_is : (k m : ℕ) (l : List ℕ) (size : ℕ) → InRange k m → Lost k m l → size ≡ m * (k + m) → solvable_of k m l size ≡ true
unfolding solvable_of
solvable_is k m l size g w e =
    simp (
      le-leb k_least k g.k_least_lem,
      le-leb k k_most g.k_most_lem,
      le-leb m_least m g.m_least_lem,
      le-leb m m_most g.m_most_lem,
      le-leb (length l) m w.few,
      lost_shards (k + m) l w.shards w.distinct,
      eq-eqb size (m * (k + m)) e,
    )

-- what the test's yes means
pub record Solvable (k m : ℕ) (l : List ℕ) (size : ℕ) : Type 0 where
  pub range : InRange k m
  pub lost : Lost k m l
  pub whole : size ≡ m * (k + m)

pub solvable_means : (k m : ℕ) (l : List ℕ) (size : ℕ) → solvable_of k m l size ≡ true → Solvable k m l size
unfolding solvable_of
solvable_means k m l size e =
    let t2 : Bool = leb k_least k && leb k k_most in
    let t3 : Bool = t2 && leb m_least m in
    let t4 : Bool = t3 && leb m m_most in
    let t5 : Bool = t4 && leb (length l) m in
    let t6 : Bool = t5 && shards_of (k + m) l in
    let e6 : t6 ≡ true = and_left t6 (eqb size (m * (k + m))) e in
    let e5 : t5 ≡ true = and_left t5 (shards_of (k + m) l) e6 in
    let e4 : t4 ≡ true = and_left t4 (leb (length l) m) e5 in
    let e3 : t3 ≡ true = and_left t3 (leb m m_most) e4 in
    let e2 : t2 ≡ true = and_left t2 (leb m_least m) e3 in
    record {
      range =
          record {
            k_least_lem = leb-true k_least k (and_left (leb k_least k) (leb k k_most) e2);
            k_most_lem = leb-true k k_most (and_right (leb k_least k) (leb k k_most) e2);
            m_least_lem = leb-true m_least m (and_right t2 (leb m_least m) e3);
            m_most_lem = leb-true m m_most (and_right t3 (leb m m_most) e4);
          };
      lost = shards_lost k m l (leb-true (length l) m (and_right t4 (leb (length l) m) e5)) (and_right t5 (shards_of (k + m) l) e6);
      whole = eqb-true size (m * (k + m)) (and_right t6 (eqb size (m * (k + m))) e);
    }
