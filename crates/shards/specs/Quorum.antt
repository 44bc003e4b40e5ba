-- Few slots: at most m of a shelf's n. With k > m this is a quorum in the protocol's sense, and of a mask it is the count of its
-- ones. A stripe's shards are its slots turned round, so few slots are few shards. Assumes nothing.
use Rattle.std.specs.Prelude.{◌≡◌, refl, Bool, true, false, cond, not, ◌≢◌, ◌⊎◌, ℕ, zero, suc, ◌+◌, ◌≤◌, ◌<◌, ◌%◌}
use Rattle.std.proofs.Common.{sym, ap₂, ◌∙◌, true≢false, inl, inr, ⊎_elim, mod-eq_of_lt, zero-add, add-zero, add-suc, eq-or-lt_of_le, le_of_suc-le-suc, arith}
use Rattle.std.proofs.Math.Path.{ap}
use Rattle.std.proofs.Math.Nat.{mod-add-mod, mod_self}
use Rattle.std.proofs.Math.Dec.{leb}
use Rattle.disk.specs.Mask.{tally}
use Rattle.disk.specs.Geometry.{slot_of}
use Rattle.protocol.specs.Count.{count, count_meet}
use Rattle.protocol.specs.Count as Count
use Rattle.codecs.specs.Shelf.{Shelf, slots}

-- ---- counting from the first slot or from the last

count_ext : (p q : ℕ → Bool) (n : ℕ) → ((i : ℕ) → i < n → p i ≡ q i) → count p n ≡ count q n
count_ext p q zero h = refl
count_ext p q (suc n) h = ap₂ (λ (b : Bool) (x : ℕ). Count.tally b + x) (h n (omega arith)) (count_ext p q n (λ i l. h i (omega arith)))

one : (b : Bool) → cond b 1 0 ≡ Count.tally b
one true = refl
one false = refl

count_first : (p : ℕ → Bool) (n : ℕ) → count p (suc n) ≡ Count.tally (p 0) + count (λ i. p (suc i)) n
count_first p zero = refl
count_first p (suc n) = omega (arith, count_first p n)

pub tally_count : (p : ℕ → Bool) (n : ℕ) → tally p n ≡ count p n
unfolding tally
tally_count p zero = refl
tally_count p (suc n) = ap₂ (λ (x y : ℕ). x + y) (one (p 0)) (tally_count (λ i. p (suc i)) n) ∙ sym (count_first p n)

-- none passes; one does
pub count_none : (p : ℕ → Bool) (n : ℕ) → ((i : ℕ) → i < n → p i ≡ false) → count p n ≡ 0
count_none p zero h = refl
count_none p (suc n) h = rw (h n (omega arith)) (omega (arith, count_none p n (λ i l. h i (omega arith))))

pub count_one : (p : ℕ → Bool) (n r : ℕ) → r < n → p r ≡ true → ((i : ℕ) → i < n → i ≢ r → p i ≡ false) → count p n ≡ 1
count_one p zero r h e u = absurd (omega arith)
count_one p (suc n) r h e u = go (λ l. count_one p n r l e (λ i g. u i (omega arith))) (eq-or-lt_of_le (le_of_suc-le-suc h))
  where
    go : (r < n → count p n ≡ 1) → (r ≡ n) ⊎ (r < n) → Count.tally (p n) + count p n ≡ 1
    go ih (inl q) = rw (ap p (sym q) ∙ e) (omega (arith, count_none p n (λ i l. u i (omega arith) (λ s. omega arith))))
    go ih (inr l) = rw (u n (omega arith) (λ s. omega arith)) (omega (arith, ih l))

-- ---- a shelf's quorum

-- so many slots are few: m
abbrev pub most_few : Shelf → ℕ
most_few z = z.m

-- at most m of the slots are in a
unfoldable pub few_of : Shelf → (ℕ → Bool) → Bool
few_of z a = leb (tally a (slots z)) (most_few z)

-- ---- shards and slots

-- one step round
turn_one : (p : ℕ → Bool) (n : ℕ) → count (λ i. p (suc i % suc n)) (suc n) ≡ count p (suc n)
turn_one p n =
    ap₂ (λ (b : Bool) (x : ℕ). Count.tally b + x) (ap p (mod_self (suc n)))
    (count_ext (λ i. p (suc i % suc n)) (λ i. p (suc i)) n (λ i l. ap p (mod-eq_of_lt (omega arith))))
    ∙ sym (count_first p n)

turn : (p : ℕ → Bool) (n t : ℕ) → count (λ i. p ((i + t) % suc n)) (suc n) ≡ count p (suc n)
turn p n zero = count_ext (λ i. p ((i + 0) % suc n)) p (suc n) (λ i l. ap p (ap (λ (x : ℕ). x % suc n) (add-zero i) ∙ mod-eq_of_lt l))
turn p n (suc t) =
    count_ext (λ i. p ((i + suc t) % suc n)) (λ i. p ((suc i % suc n + t) % suc n)) (suc n)
    (λ i l. ap p (ap (λ (x : ℕ). x % suc n) (let q : i + suc t ≡ suc i + t = omega arith in q) ∙ sym (mod-add-mod (suc i) (suc n) t)))
    ∙ turn_one (λ i. p ((i + t) % suc n)) n ∙ turn p n t

-- a stripe's shards in slots of a are as many as the slots of a
pub count_shards : (a : ℕ → Bool) (n t : ℕ) → count (λ r. a (slot_of n t r)) n ≡ count a n
unfolding slot_of
count_shards a zero t = refl
count_shards a (suc n) t = turn a n t

-- ---- how many fail

count_le : (p : ℕ → Bool) (n : ℕ) → count p n ≤ n
count_le p zero = omega arith
count_le p (suc n) = go (p n) (count_le p n)
  where
    go : (b : Bool) → count p n ≤ n → Count.tally b + count p n ≤ suc n
    go true h = omega arith
    go false h = omega arith

-- where one fails, not all pass
count_miss : (p : ℕ → Bool) (n i : ℕ) → i < n → p i ≡ false → count p n < n
count_miss p zero i h e = absurd (omega arith)
count_miss p (suc n) i h e = go (p n) refl (λ l. count_miss p n i l e) (eq-or-lt_of_le (le_of_suc-le-suc h))
  where
    go : (b : Bool) → p n ≡ b → (i < n → count p n < n) → (i ≡ n) ⊎ (i < n) → Count.tally b + count p n < suc n
    go true q ih (inl s) = absurd (true≢false (sym q ∙ ap p (sym s) ∙ e))
    go true q ih (inr l) = omega (arith, ih l)
    go false q ih s = omega (arith, count_le p n)

-- where all fail from k on, those below k count
count_below : (p : ℕ → Bool) (k m : ℕ) → ((i : ℕ) → k ≤ i → i < k + m → p i ≡ false) → count p (k + m) ≡ count p k
count_below p k zero h = ap (count p) (add-zero k)
count_below p k (suc m) h =
    ap (count p) (add-suc k m) ∙ ap₂ (λ (b : Bool) (x : ℕ). Count.tally b + x) (h (k + m) (omega arith) (omega arith)) (count_below p k m (λ i a b. h i a (omega arith)))
    ∙ zero-add (count p k)

-- a set of shards that has a data shard and every parity shard is no part of few shards
pub broad_shards : (k m i : ℕ) (p a : ℕ → Bool) → i < k → p i ≡ true → ((r : ℕ) → k ≤ r → r < k + m → p r ≡ true) → count a (k + m) ≤ m → (r : ℕ) × (r < k + m) × (a r ≡ false) × (p r ≡ true)
broad_shards k m i p a h e f few =
    ⊎_elim (λ r. (r.0, r.1, r.2, yes_of (p r.0) r.3))
    (λ r. absurd (omega (arith, count_below off k m (λ r x y. ap not (f r x y)), count_miss off k i h (ap not e))))
    (count_meet a off (k + m))
  where
    off : ℕ → Bool
    off r = not (p r)

    yes_of : (b : Bool) → not b ≡ false → b ≡ true
    yes_of true q = refl
    yes_of false q = sym q
