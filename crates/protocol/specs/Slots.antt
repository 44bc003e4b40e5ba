-- Lists of slots and of places, and who is in them.
use Rattle.std.specs.Prelude.{ℕ, zero, suc, ◌+◌, ◌≤◌, ◌<◌, ◌≡◌, refl, Bool, true, false, cond, ◌⊎◌, ltb}
use Rattle.std.proofs.Common.{sym, ap, subst, ◌∙◌, ⊎_elim, arith, ltb-true, ltb-false}
use Rattle.std.proofs.lemmas.Bool.{false≢true}
use mathlib.Core.List.{List, [], ◌∷◌, ◌++◌, Memᴰ}
use Rattle.std.proofs.Math.Decide.{ℕ_discrete}
use Rattle.protocol.specs.World.{Place, slot}

-- a, a + 1, .. , n of them
abbrev pub from : ℕ → ℕ → List ℕ
from a zero = []
from a (suc n) = a ∷ from (suc a) n

pub in_from : (n a j : ℕ) → a ≤ j → j < a + n → Memᴰ j (from a n)
in_from zero a j h g = absurd (omega arith)
in_from (suc n) a j h g = go (in_from n (suc a) j) (ℕ_discrete j a)
  where
    go : (suc a ≤ j → j < suc a + n → Memᴰ j (from (suc a) n)) → Dec (j ≡ a) → Memᴰ j (from a (suc n))
    go r (yes e) = mathlib.Core.List.Memᴰ.head e
    go r (no e) = mathlib.Core.List.Memᴰ.tail (r (omega arith) (omega arith))

pub of_from : (n a j : ℕ) → Memᴰ j (from a n) → j < a + n
of_from zero a j m = absurd (mathlib.Core.List.Memᴰ.not-nil m)
of_from (suc n) a j m =
    let r : Memᴰ j (from (suc a) n) → j < suc a + n = of_from n (suc a) j in
    ⊎_elim (λ e. omega arith) (λ q. omega (arith, r q)) (mathlib.Core.List.Memᴰ.cases_cons m)

pub of_from_low : (n a j : ℕ) → Memᴰ j (from a n) → a ≤ j
of_from_low zero a j m = absurd (mathlib.Core.List.Memᴰ.not-nil m)
of_from_low (suc n) a j m =
    let r : Memᴰ j (from (suc a) n) → suc a ≤ j = of_from_low n (suc a) j in
    ⊎_elim (λ e. omega arith) (λ q. omega (arith, r q)) (mathlib.Core.List.Memᴰ.cases_cons m)

-- the slots below n that pass the test, in order
abbrev pub keep : (ℕ → Bool) → List ℕ → List ℕ
keep p [] = []
keep p (d ∷ l) = cond (p d) (d ∷ keep p l) (keep p l)

unfoldable pub slots : ℕ → (ℕ → Bool) → List ℕ
slots n p = keep p (from 0 n)

module _ (p : ℕ → Bool) where
  pub in_keep : (l : List ℕ) (d : ℕ) → Memᴰ d l → p d ≡ true → Memᴰ d (keep p l)
  in_keep [] d m h = m
  in_keep (e ∷ l) d m h =
      let r : Memᴰ d l → Memᴰ d (keep p l) = λ q. in_keep l d q h in
      go r (p e) refl (mathlib.Core.List.Memᴰ.cases_cons m)
    where
      go : (Memᴰ d l → Memᴰ d (keep p l)) → (b : Bool) → p e ≡ b → (d ≡ e) ⊎ Memᴰ d l → Memᴰ d (cond b (e ∷ keep p l) (keep p l))
      go r true q s = ⊎_elim (λ x. mathlib.Core.List.Memᴰ.head x) (λ x. mathlib.Core.List.Memᴰ.tail (r x)) s
      go r false q s = ⊎_elim (λ x. absurd (false≢true (sym q ∙ ap p (sym x) ∙ h))) r s

  pub of_keep : (l : List ℕ) (d : ℕ) → Memᴰ d (keep p l) → Memᴰ d l × (p d ≡ true)
  of_keep [] d m = absurd (mathlib.Core.List.Memᴰ.not-nil m)
  of_keep (e ∷ l) d m =
      let r : Memᴰ d (keep p l) → Memᴰ d l × (p d ≡ true) = of_keep l d in
      go r (p e) refl m
    where
      go : (Memᴰ d (keep p l) → Memᴰ d l × (p d ≡ true)) → (b : Bool) → p e ≡ b → Memᴰ d (cond b (e ∷ keep p l) (keep p l)) → Memᴰ d (e ∷ l) × (p d ≡ true)
      go r true q s = ⊎_elim (λ x. (mathlib.Core.List.Memᴰ.head x, ap p x ∙ q)) (λ x. (mathlib.Core.List.Memᴰ.tail (r x).0, (r x).1)) (mathlib.Core.List.Memᴰ.cases_cons s)
      go r false q s = (mathlib.Core.List.Memᴰ.tail (r s).0, (r s).1)

  pub in_slots : (n d : ℕ) → d < n → p d ≡ true → Memᴰ d (slots n p)
  unfolding slots
  in_slots n d h e = in_keep (from 0 n) d (in_from n 0 d (omega arith) (omega arith)) e

  pub of_slots : (n d : ℕ) → Memᴰ d (slots n p) → (d < n) × (p d ≡ true)
  unfolding slots
  of_slots n d m = let r = of_keep (from 0 n) d m in (omega (arith, of_from n 0 d r.0), r.1)

-- places 0 .. c - 1 of each slot of a list
module _ (mk : ℕ → ℕ → Place) where
  abbrev pub row : ℕ → List ℕ → List Place
  row d [] = []
  row d (j ∷ l) = mk d j ∷ row d l

  abbrev pub rows : List ℕ → List ℕ → List Place
  rows js [] = []
  rows js (d ∷ ds) = row d js ++ rows js ds

  in_row : (d j : ℕ) (js : List ℕ) → Memᴰ j js → Memᴰ (mk d j) (row d js)
  in_row d j [] m = absurd (mathlib.Core.List.Memᴰ.not-nil m)
  in_row d j (i ∷ js) m =
      let r : Memᴰ j js → Memᴰ (mk d j) (row d js) = in_row d j js in
      ⊎_elim (λ e. mathlib.Core.List.Memᴰ.head (ap (mk d) e)) (λ q. mathlib.Core.List.Memᴰ.tail (r q)) (mathlib.Core.List.Memᴰ.cases_cons m)

  of_row : (d : ℕ) (k : Place) (js : List ℕ) → Memᴰ k (row d js) → (j : ℕ) × Memᴰ j js × (k ≡ mk d j)
  of_row d k [] m = absurd (mathlib.Core.List.Memᴰ.not-nil m)
  of_row d k (i ∷ js) m =
      let r : Memᴰ k (row d js) → (j : ℕ) × Memᴰ j js × (k ≡ mk d j) = of_row d k js in
      ⊎_elim (λ e. (i, mathlib.Core.List.Memᴰ.head refl, e)) (λ q. ((r q).0, mathlib.Core.List.Memᴰ.tail (r q).1, (r q).2)) (mathlib.Core.List.Memᴰ.cases_cons m)

  pub in_rows : (js ds : List ℕ) (d j : ℕ) → Memᴰ d ds → Memᴰ j js → Memᴰ (mk d j) (rows js ds)
  in_rows js [] d j m q = absurd (mathlib.Core.List.Memᴰ.not-nil m)
  in_rows js (e ∷ ds) d j m q =
      let r : Memᴰ d ds → Memᴰ (mk d j) (rows js ds) = λ x. in_rows js ds d j x q in
      ⊎_elim (λ x. mathlib.Core.List.Memᴰ.append_left (rows js ds) (subst (λ (y : ℕ). Memᴰ (mk d j) (row y js)) x (in_row d j js q))) (λ x. mathlib.Core.List.Memᴰ.append_right (row e js) (r x)) (mathlib.Core.List.Memᴰ.cases_cons m)

  pub of_rows : (js ds : List ℕ) (k : Place) → Memᴰ k (rows js ds) → (d : ℕ) × (j : ℕ) × Memᴰ d ds × Memᴰ j js × (k ≡ mk d j)
  of_rows js [] k m = absurd (mathlib.Core.List.Memᴰ.not-nil m)
  of_rows js (e ∷ ds) k m =
      let r : Memᴰ k (rows js ds) → (d : ℕ) × (j : ℕ) × Memᴰ d ds × Memᴰ j js × (k ≡ mk d j) = of_rows js ds k in
      ⊎_elim (λ x. let y = of_row e k js x in (e, y.0, mathlib.Core.List.Memᴰ.head refl, y.1, y.2))
      (λ x. let y = r x in (y.0, y.1, mathlib.Core.List.Memᴰ.tail y.2, y.3, y.4)) (mathlib.Core.List.Memᴰ.append_cases (row e js) m)

  -- the rows' slots are those of the list
  pub rows_slots : (js ds : List ℕ) → ((d j : ℕ) → slot (mk d j) ≡ d) → (k : Place) → Memᴰ k (rows js ds) → Memᴰ (slot k) ds
  rows_slots js ds s k m =
      let y = of_rows js ds k m in
      subst (λ (x : ℕ). Memᴰ x ds) (sym (ap slot y.4 ∙ s y.0 y.1)) y.2

-- the slot below n whose key is greatest (the lowest of them)
abbrev pub leader : (ℕ → ℕ) → ℕ → ℕ
leader key zero = 0
leader key (suc n) = cond (ltb (key (leader key n)) (key n)) n (leader key n)

pub leader_top : (key : ℕ → ℕ) (n d : ℕ) → d < n → key d ≤ key (leader key n)
leader_top key zero d h = absurd (omega arith)
leader_top key (suc n) d h = go (leader_top key n d) (ltb (key (leader key n)) (key n)) refl (ℕ_discrete d n)
  where
    go : (d < n → key d ≤ key (leader key n)) → (b : Bool) → ltb (key (leader key n)) (key n) ≡ b → Dec (d ≡ n) → key d ≤ key (cond b n (leader key n))
    go r true e (yes q) = omega (arith, ap key q)
    go r true e (no q) = omega (arith, ltb-true (key (leader key n)) (key n) e, r (omega arith))
    go r false e (yes q) = omega (arith, ap key q, ltb-false (key (leader key n)) (key n) e)
    go r false e (no q) = r (omega arith)

pub leader_below : (key : ℕ → ℕ) (n : ℕ) → 0 < n → leader key n < n
leader_below key zero h = h
leader_below key (suc zero) h = go (ltb (key 0) (key 0))
  where
    go : (b : Bool) → cond b 0 0 < 1
    go true = omega arith
    go false = omega arith
leader_below key (suc (suc n)) h = go (leader_below key (suc n) (omega arith)) (ltb (key (leader key (suc n))) (key (suc n)))
  where
    go : leader key (suc n) < suc n → (b : Bool) → cond b (suc n) (leader key (suc n)) < suc (suc n)
    go r true = omega arith
    go r false = omega arith

-- a test of every member
abbrev pub every : (ℕ → Bool) → List ℕ → Bool
every p [] = true
every p (d ∷ l) = cond (p d) (every p l) false

pub every_of : (p : ℕ → Bool) (l : List ℕ) → every p l ≡ true → (d : ℕ) → Memᴰ d l → p d ≡ true
every_of p [] h d m = absurd (mathlib.Core.List.Memᴰ.not-nil m)
every_of p (e ∷ l) h d m = go (every_of p l) (p e) refl h
  where
    go : (every p l ≡ true → (x : ℕ) → Memᴰ x l → p x ≡ true) → (b : Bool) → p e ≡ b → cond b (every p l) false ≡ true → p d ≡ true
    go r true q g = ⊎_elim (λ x. ap p x ∙ q) (λ x. r g d x) (mathlib.Core.List.Memᴰ.cases_cons m)
    go r false q g = absurd (false≢true g)

pub every_all : (p : ℕ → Bool) (l : List ℕ) → ((d : ℕ) → Memᴰ d l → p d ≡ true) → every p l ≡ true
every_all p [] h = refl
every_all p (e ∷ l) h = rw (h e (mathlib.Core.List.Memᴰ.head refl)) (every_all p l (λ d m. h d (mathlib.Core.List.Memᴰ.tail m)))
