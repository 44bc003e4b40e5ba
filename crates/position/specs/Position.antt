-- One byte position of a stripe: the test of its equations, and the bytes of unknown shards, found by search. The search is a
-- definition that is total and names no method; with at most m unknown shards, what it finds is the one stripe that there can be.
-- Assumes nothing.
use Rattle.std.specs.Prelude.{◌≡◌, Bool, true, false, cond, not, ◌≢◌, ℕ, zero, suc, ◌+◌, ◌-◌, ◌≤◌, ◌<◌, eqb, leb, length, take}
use Rattle.std.proofs.Math.Path.{refl, ap}
use Rattle.std.proofs.Common.{sym, ◌∙◌, true≢false, ⊎_elim, eq-or-lt_of_le, le_of_suc-le-suc, arith, lit<, eqb-true, eq-eqb, ne_eqb, le-leb, leb-true}
use mathlib.Core.List.{List, [], ◌∷◌, ◌++◌}
use Rattle.std.proofs.Math.Seq.{take-append-add}
use Rattle.std.proofs.lemmas.Bool.{eqb-false}
use Rattle.field.specs.Field.{mul_of}
use Rattle.codeword.specs.Sum.{total_ext}
use Rattle.codeword.specs.Stripe.{InRange, coef, parity_of, Holds, Bytes, has}
use Rattle.codeword.specs.Chosen.{chosen}
use Rattle.codeword.specs.Mend.{put, put_at, put_off, put_bytes}
use Rattle.codeword.proofs.Unique.{unique}
use Rattle.position.specs.Search.{all, all_at, all_of, some, some_of, some_ext, first, first_is, first_ext, first_lt}

-- ---- the equations, as a test

unfoldable pub holds : ℕ → ℕ → (ℕ → ℕ) → Bool
holds k m x = all m (λ j. eqb (x (k + j)) (parity_of k m j x))

pub holds_true : (k m : ℕ) (x : ℕ → ℕ) → holds k m x ≡ true → Holds k m x
unfolding holds
holds_true k m x e j l = eqb-true (x (k + j)) (parity_of k m j x) (all_at m (λ j. eqb (x (k + j)) (parity_of k m j x)) e j l)

pub holds_is : (k m : ℕ) (x : ℕ → ℕ) → Holds k m x → holds k m x ≡ true
unfolding holds
holds_is k m x h = all_of m (λ j. eqb (x (k + j)) (parity_of k m j x)) (λ j l. eq-eqb (x (k + j)) (parity_of k m j x) (h j l))

pub parity_ext : (k m j : ℕ) (x y : ℕ → ℕ) → ((i : ℕ) → i < k → x i ≡ y i) → parity_of k m j x ≡ parity_of k m j y
parity_ext k m j x y e = total_ext k (λ i. mul_of (coef m j i) (x i)) (λ i. mul_of (coef m j i) (y i)) (λ i l. ap (mul_of (coef m j i)) (e i l))

-- bytes that are those of a stripe that holds
pub holds_same : (k m : ℕ) (x y : ℕ → ℕ) → ((r : ℕ) → r < k + m → x r ≡ y r) → Holds k m y → Holds k m x
holds_same k m x y e h j l = e (k + j) (omega arith) ∙ h j l ∙ sym (parity_ext k m j x y (λ i g. e i (omega arith)))

-- ---- the search

-- some bytes for the shards of the list make all equations hold
unfoldable pub solvable : ℕ → ℕ → List ℕ → (ℕ → ℕ) → Bool
solvable k m [] x = holds k m x
solvable k m (a ∷ l) x = some 256 (λ v. solvable k m l (put a v x))

-- x with the first such bytes, counted as numbers of several digits are, for the shards of the list; with zeros where there are none
unfoldable pub solved : ℕ → ℕ → List ℕ → (ℕ → ℕ) → ℕ → ℕ
solved k m [] x = x
solved k m (a ∷ l) x = solved k m l (put a (first 256 (λ v. solvable k m l (put a v x))) x)

has_head : (a r : ℕ) (l : List ℕ) → has (a ∷ l) r ≡ false → r ≢ a
has_head a r l e q = true≢false (sym (ap (λ (b : Bool). cond b true (has l r)) (eq-eqb a r (sym q))) ∙ e)

has_tail : (a r : ℕ) (l : List ℕ) → has (a ∷ l) r ≡ false → has l r ≡ false
has_tail a r l = go (eqb a r)
  where
    go : (b : Bool) → cond b true (has l r) ≡ false → has l r ≡ false
    go true e = absurd (true≢false e)
    go false e = e

-- what y has off a :: l, x has with y's byte for a, off l
put_agrees : (n a : ℕ) (l : List ℕ) (x y : ℕ → ℕ) → ((r : ℕ) → r < n → has (a ∷ l) r ≡ false → x r ≡ y r)
    → (r : ℕ) → r < n → has l r ≡ false → put a (y a) x r ≡ y r
put_agrees n a l x y e r h t = go (eqb a r) refl (e r h)
  where
    go : (b : Bool) → eqb a r ≡ b → (cond b true (has l r) ≡ false → x r ≡ y r) → put a (y a) x r ≡ y r
    go true q f = ap (put a (y a) x) (sym (eqb-true a r q)) ∙ put_at a (y a) x ∙ ap y (eqb-true a r q)
    go false q f = put_off a (y a) r x (λ s. eqb-false a r q (sym s)) ∙ f t

-- x and y agree off a :: l: with one byte v for a in both, they agree off l
put_same : (n a v : ℕ) (l : List ℕ) (x y : ℕ → ℕ) → ((r : ℕ) → r < n → has (a ∷ l) r ≡ false → x r ≡ y r)
    → (r : ℕ) → r < n → has l r ≡ false → put a v x r ≡ put a v y r
put_same n a v l x y e r h t = go (eqb a r) refl (e r h)
  where
    go : (b : Bool) → eqb a r ≡ b → (cond b true (has l r) ≡ false → x r ≡ y r) → put a v x r ≡ put a v y r
    go true q f =
        ap (put a v x) (sym (eqb-true a r q)) ∙ put_at a v x ∙ sym (ap (put a v y) (sym (eqb-true a r q)) ∙ put_at a v y)
    go false q f = put_off a v r x (λ s. eqb-false a r q (sym s)) ∙ f t ∙ sym (put_off a v r y (λ s. eqb-false a r q (sym s)))

module _ (k m : ℕ) where
  -- a stripe that holds shows that there are such bytes
  solvable_by : (lost : List ℕ) (x y : ℕ → ℕ) → Bytes y → Holds k m y → ((r : ℕ) → r < k + m → has lost r ≡ false → x r ≡ y r) → solvable k m lost x ≡ true
  unfolding solvable
  solvable_by [] x y b h e = holds_is k m x (holds_same k m x y (λ r l. e r l refl) h)
  solvable_by (a ∷ l) x y b h e =
      some_of 256 (λ v. solvable k m l (put a v x)) (y a) (b a) (solvable_by l (put a (y a) x) y b h (put_agrees (k + m) a l x y e))

  pub solved_holds : (lost : List ℕ) (x : ℕ → ℕ) → solvable k m lost x ≡ true → Holds k m (solved k m lost x)
  unfolding solvable solved
  solved_holds [] x e = holds_true k m x e
  solved_holds (a ∷ l) x e =
      solved_holds l (put a (first 256 (λ v. solvable k m l (put a v x))) x) (first_is 256 (λ v. solvable k m l (put a v x)) e)

  -- the other shards stay
  pub solved_off : (lost : List ℕ) (x : ℕ → ℕ) (r : ℕ) → has lost r ≡ false → solved k m lost x r ≡ x r
  unfolding solved
  solved_off [] x r e = refl
  solved_off (a ∷ l) x r e =
      solved_off l (put a (first 256 (λ v. solvable k m l (put a v x))) x) r (has_tail a r l e)
      ∙ put_off a (first 256 (λ v. solvable k m l (put a v x))) r x (has_head a r l e)

  pub solved_bytes : (lost : List ℕ) (x : ℕ → ℕ) → Bytes x → Bytes (solved k m lost x)
  unfolding solved
  solved_bytes [] x b = b
  solved_bytes (a ∷ l) x b =
      solved_bytes l (put a (first 256 (λ v. solvable k m l (put a v x))) x)
      (put_bytes a (first 256 (λ v. solvable k m l (put a v x))) x (first_lt 256 (λ v. solvable k m l (put a v x)) (lit< tt)) b)

  -- THE SEARCH IS BLIND to what the shards of the list held
  solvable_blind : (lost : List ℕ) (x y : ℕ → ℕ) → ((r : ℕ) → r < k + m → has lost r ≡ false → x r ≡ y r) → solvable k m lost x ≡ solvable k m lost y
  unfolding solvable
  solvable_blind [] x y e = either (holds k m x) refl (holds k m y) refl
    where
      same : (r : ℕ) → r < k + m → x r ≡ y r
      same r l = e r l refl

      either : (a : Bool) → holds k m x ≡ a → (b : Bool) → holds k m y ≡ b → holds k m x ≡ holds k m y
      either true p b q = p ∙ sym (holds_is k m y (holds_same k m y x (λ r l. sym (same r l)) (holds_true k m x p)))
      either false p true q = holds_is k m x (holds_same k m x y same (holds_true k m y q)) ∙ sym q
      either false p false q = p ∙ sym q
  solvable_blind (a ∷ l) x y e =
      some_ext 256 (λ v. solvable k m l (put a v x)) (λ v. solvable k m l (put a v y)) (λ v. solvable_blind l (put a v x) (put a v y) (put_same (k + m) a v l x y e))

  pub solved_blind : (lost : List ℕ) (x y : ℕ → ℕ) → ((r : ℕ) → r < k + m → has lost r ≡ false → x r ≡ y r) → (r : ℕ) → r < k + m → solved k m lost x r ≡ solved k m lost y r
  unfolding solved
  solved_blind [] x y e r l = e r l refl
  solved_blind (a ∷ l) x y e r h =
      solved_blind l (put a (first 256 (λ v. solvable k m l (put a v x))) x) (put a (first 256 (λ v. solvable k m l (put a v x))) y)
      (put_same (k + m) a (first 256 (λ v. solvable k m l (put a v x))) l x y e) r h
      ∙ ap (λ (v : ℕ). solved k m l (put a v y) r)
      (first_ext 256 (λ v. solvable k m l (put a v x)) (λ v. solvable k m l (put a v y)) (λ v. solvable_blind l (put a v x) (put a v y) (put_same (k + m) a v l x y e)))

  -- THE SEARCH FINDS IT: a stripe that holds and has x's bytes off at most m shards is what the search gives
  pub solved_is : InRange k m → (lost : List ℕ) → length lost ≤ m → (x y : ℕ → ℕ) → Bytes x → Bytes y → Holds k m y
      → ((r : ℕ) → r < k + m → has lost r ≡ false → x r ≡ y r) → (r : ℕ) → r < k + m → solved k m lost x r ≡ y r
  solved_is range lost few x y bx by h e =
      unique k m range lost few (solved k m lost x) y (solved_bytes lost x bx) by (solved_holds lost x (solvable_by lost x y by h e)) h
      (λ r l n. solved_off lost x r n ∙ e r l n)

-- ---- which shards are unknown

-- the shards below n that pass the test, in ascending order
unfoldable pub ascending : (ℕ → Bool) → ℕ → List ℕ
ascending p zero = []
ascending p (suc n) = ascending p n ++ cond (p n) (n ∷ []) []

-- the missing shards, and after them the greatest of the others, m in all: what is found goes by the k least shards that are there
unfoldable pub padded : ℕ → ℕ → List ℕ → List ℕ
padded k m missing = take m (missing ++ chosen (λ r. not (has missing r)) (k + m))

has_append : (a b : List ℕ) (r : ℕ) → has (a ++ b) r ≡ cond (has a r) true (has b r)
has_append [] b r = refl
has_append (x ∷ a) b r = go (eqb x r) (has_append a b r)
  where
    go : (t : Bool) → has (a ++ b) r ≡ cond (has a r) true (has b r) → cond t true (has (a ++ b) r) ≡ cond (cond t true (has a r)) true (has b r)
    go true q = refl
    go false q = q

pub ascending_past : (p : ℕ → Bool) (n r : ℕ) → n ≤ r → has (ascending p n) r ≡ false
unfolding ascending
ascending_past p zero r h = refl
ascending_past p (suc n) r h = has_append (ascending p n) (cond (p n) (n ∷ []) []) r ∙ go (p n) (ascending_past p n r (omega arith))
  where
    go : (b : Bool) → has (ascending p n) r ≡ false → cond (has (ascending p n) r) true (has (cond b (n ∷ []) []) r) ≡ false
    go true q = rw (q, ne_eqb n r (λ e. omega arith))
    go false q = rw q

cond_self : (b : Bool) → cond b true false ≡ b
cond_self true = refl
cond_self false = refl

-- the list has the shards that pass
pub ascending_has : (p : ℕ → Bool) (n r : ℕ) → r < n → has (ascending p n) r ≡ p r
unfolding ascending
ascending_has p zero r h = absurd (omega arith)
ascending_has p (suc n) r h =
    has_append (ascending p n) (cond (p n) (n ∷ []) []) r
    ∙ ⊎_elim (λ q. last q (p n) refl) (λ l. early l (p n) (ascending_has p n r l)) (eq-or-lt_of_le (le_of_suc-le-suc h))
  where
    last : r ≡ n → (b : Bool) → p n ≡ b → cond (has (ascending p n) r) true (has (cond b (n ∷ []) []) r) ≡ p r
    last q true e = rw (ascending_past p n r (omega arith), eq-eqb n r (sym q)) (sym (ap p q ∙ e))
    last q false e = rw (ascending_past p n r (omega arith)) (sym (ap p q ∙ e))

    early : r < n → (b : Bool) → has (ascending p n) r ≡ p r → cond (has (ascending p n) r) true (has (cond b (n ∷ []) []) r) ≡ p r
    early l true e = rw (e, ne_eqb n r (λ q. omega arith)) (cond_self (p r))
    early l false e = rw e (cond_self (p r))

-- a list that has an entry of its first part has it
left_off : (a b : List ℕ) (r : ℕ) → has (a ++ b) r ≡ false → has a r ≡ false
left_off a b r e = go (has a r) (sym (has_append a b r) ∙ e)
  where
    go : (t : Bool) → cond t true (has b r) ≡ false → t ≡ false
    go true q = q
    go false q = refl

-- every missing shard is in it
pub padded_off : (k m : ℕ) (missing : List ℕ) → length missing ≤ m → (r : ℕ) → has (padded k m missing) r ≡ false → has missing r ≡ false
unfolding padded
padded_off k m missing h r e =
    let others : List ℕ = chosen (λ r. not (has missing r)) (k + m) in
    let q : m ≡ length missing + (m - length missing) = omega arith in
    left_off missing (take (m - length missing) others) r
    (sym (ap (λ (l : List ℕ). has l r) (ap (λ (i : ℕ). take i (missing ++ others)) q ∙ take-append-add missing others (m - length missing))) ∙ e)

take_few : (i : ℕ) (l : List ℕ) → length (take i l) ≤ i
take_few zero l = omega arith
take_few (suc i) [] = omega arith
take_few (suc i) (x ∷ l) = omega (arith, take_few i l)

pub padded_few : (k m : ℕ) (missing : List ℕ) → length (padded k m missing) ≤ m
unfolding padded
padded_few k m missing = take_few m (missing ++ chosen (λ r. not (has missing r)) (k + m))

-- ---- a position with its missing shards filled in

-- the shards that are there stay; those that are missing are found by search, and are 0 where more than m are
unfoldable pub filled : ℕ → ℕ → List ℕ → (ℕ → ℕ) → ℕ → ℕ
filled k m missing x r = cond (has missing r) (cond (leb (length missing) m) (solved k m (padded k m missing) x r) 0) (x r)

pub filled_off : (k m : ℕ) (missing : List ℕ) (x : ℕ → ℕ) (r : ℕ) → has missing r ≡ false → filled k m missing x r ≡ x r
unfolding filled
filled_off k m missing x r e = ap (λ (b : Bool). cond b (cond (leb (length missing) m) (solved k m (padded k m missing) x r) 0) (x r)) e

pub filled_bytes : (k m : ℕ) (missing : List ℕ) (x : ℕ → ℕ) → Bytes x → Bytes (filled k m missing x)
unfolding filled
filled_bytes k m missing x b r = go (has missing r) (leb (length missing) m)
  where
    go : (s t : Bool) → cond s (cond t (solved k m (padded k m missing) x r) 0) (x r) < 256
    go true true = solved_bytes k m (padded k m missing) x b r
    go true false = lit< tt
    go false t = b r

-- THE MISSING SHARDS are those of the one stripe that holds and has the k least shards that are there, if there is one
pub filled_is : (k m : ℕ) → InRange k m → (missing : List ℕ) → length missing ≤ m → (x y : ℕ → ℕ) → Bytes x → Bytes y → Holds k m y
    → ((r : ℕ) → r < k + m → has (padded k m missing) r ≡ false → x r ≡ y r) → (r : ℕ) → r < k + m → has missing r ≡ true → filled k m missing x r ≡ y r
unfolding filled
filled_is k m range missing few x y bx by h e r l t =
    ap (λ (b : Bool). cond b (cond (leb (length missing) m) (solved k m (padded k m missing) x r) 0) (x r)) t
    ∙ ap (λ (b : Bool). cond b (solved k m (padded k m missing) x r) 0) (le-leb (length missing) m few)
    ∙ solved_is k m range (padded k m missing) (padded_few k m missing) x y bx by h e r l

-- what the missing shards held makes no difference
pub filled_blind : (k m : ℕ) (missing : List ℕ) (x y : ℕ → ℕ) → ((r : ℕ) → r < k + m → has missing r ≡ false → x r ≡ y r)
    → (r : ℕ) → r < k + m → filled k m missing x r ≡ filled k m missing y r
unfolding filled
filled_blind k m missing x y e r l = go (has missing r) refl (leb (length missing) m) refl
  where
    go : (s : Bool) → has missing r ≡ s → (t : Bool) → leb (length missing) m ≡ t
        → cond s (cond t (solved k m (padded k m missing) x r) 0) (x r) ≡ cond s (cond t (solved k m (padded k m missing) y r) 0) (y r)
    go true p true q = solved_blind k m (padded k m missing) x y (λ i h n. e i h (padded_off k m missing (leb-true (length missing) m q) i n)) r l
    go true p false q = refl
    go false p t q = e r l p

-- so where the stripe is sound, every shard is its own
pub filled_back : (k m : ℕ) → InRange k m → (missing : List ℕ) → length missing ≤ m → (x y : ℕ → ℕ) → Bytes x → Bytes y → Holds k m y
    → ((r : ℕ) → r < k + m → has missing r ≡ false → x r ≡ y r) → (r : ℕ) → r < k + m → filled k m missing x r ≡ y r
filled_back k m range missing few x y bx by h e r l = go (has missing r) refl
  where
    go : (b : Bool) → has missing r ≡ b → filled k m missing x r ≡ y r
    go true t = filled_is k m range missing few x y bx by h (λ q g n. e q g (padded_off k m missing few q n)) r l t
    go false t = filled_off k m missing x r t ∙ e r l t
