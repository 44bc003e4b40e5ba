-- Stamps: epoch and count, each of 8 bytes, at a sector's beginning; greater stamps are later, the epoch first.
-- Assumes nothing.
use Rattle.std.specs.Prelude.{◌≡◌, refl, ◌⊎◌, Bool, true, false, ◌&&◌, ◌||◌, List, [], ◌++◌, ℕ, ◌≤◌, ◌<◌, ◌^◌, ltb, eqb, length, drop, replicate}
use Rattle.std.proofs.Common.{sym, ap, ap₂, ◌∙◌, inl, inr, ⊎_elim, append_assoc, arith, length-drop, drop-drop, ltb-true, eqb-true, lt-ltb, le-ltb, eq-eqb}
use Rattle.disk.specs.Limits.{sector_bytes}
use Rattle.disk.specs.Tests.{and_left, and_right}
use Rattle.disk.specs.Image.{lt_or_ge}
use Rattle.disk.specs.Number.{number_at, with_number, bytes_of, with_append}
use Rattle.disk.proofs.NumberLaws.{number_append}
use Rattle.record.specs.Layout.{stamp_length}
use Rattle.record.specs.declared.stamp.Stamp.{Stamp}

-- the stamp with which a sector begins
unfoldable pub stamp_at : List ℕ → Stamp
stamp_at b = record { epoch = number_at 8 b 0; count = number_at 8 b 8 }

-- its bytes
unfoldable pub stamp_bytes : Stamp → List ℕ
stamp_bytes a = bytes_of 8 a.epoch ++ bytes_of 8 a.count

-- a sector with the stamp at its beginning
unfoldable pub with_stamp : List ℕ → Stamp → List ℕ
with_stamp b a = with_number 8 (with_number 8 b 0 a.epoch) 8 a.count

unfoldable pub zero_stamp : Stamp → Bool
zero_stamp a = eqb a.epoch 0 && eqb a.count 0

unfoldable pub same_stamp : Stamp → Stamp → Bool
same_stamp a b = eqb a.epoch b.epoch && eqb a.count b.count

-- a is later than b
unfoldable pub later_of : Stamp → Stamp → Bool
later_of a b = ltb b.epoch a.epoch || (eqb a.epoch b.epoch && ltb b.count a.count)

-- both numbers have 8 bytes
pub record StampFits (a : Stamp) : Type 0 where
  pub epochs : a.epoch < 2 ^ 64
  pub counts : a.count < 2 ^ 64

-- ---- bytes and stamps

pub length_stamp : (a : Stamp) → length (stamp_bytes a) ≡ stamp_length
unfolding stamp_bytes bytes_of
length_stamp a = refl

-- what is written reads back
pub stamp_back : (a : Stamp) (q : List ℕ) → StampFits a → stamp_at (stamp_bytes a ++ q) ≡ a
unfolding stamp_at stamp_bytes bytes_of
stamp_back a q f =
    ap₂ {C = Stamp} (λ (e n : ℕ). record { epoch = e; count = n })
    (number_append 8 [] (bytes_of 8 a.count ++ q) a.epoch f.epochs)
    (number_append 8 (bytes_of 8 a.epoch) q a.count f.counts)

pub with_stamp_lem : (b : List ℕ) (a : Stamp) → stamp_length ≤ length b → with_stamp b a ≡ stamp_bytes a ++ drop stamp_length b
unfolding with_stamp stamp_bytes bytes_of
with_stamp_lem b a h =
    let r : List ℕ = drop 8 b in
    let e : List ℕ = bytes_of 8 a.epoch in
    ap (λ (x : List ℕ). with_number 8 x 8 a.count) (with_append 8 [] b a.epoch (omega arith))
    ∙ with_append 8 e r a.count (omega (arith, length-drop 8 b))
    ∙ ap (λ (x : List ℕ). e ++ (bytes_of 8 a.count ++ x)) (drop-drop 8 8 b)
    ∙ sym (append_assoc e (bytes_of 8 a.count) (drop 16 b))

-- a sector of zeros has the stamp of zeros
pub stamp_zeros : zero_stamp (stamp_at (replicate sector_bytes 0)) ≡ true
unfolding stamp_at zero_stamp number_at
stamp_zeros = refl

-- ---- tests

pub stamp_ext : (a b : Stamp) → a.epoch ≡ b.epoch → a.count ≡ b.count → a ≡ b
stamp_ext a b p q = ap₂ {C = Stamp} (λ (e n : ℕ). record { epoch = e; count = n }) p q

pub same_true : (a b : Stamp) → same_stamp a b ≡ true → a ≡ b
unfolding same_stamp
same_true a b e =
    let p : Bool = eqb a.epoch b.epoch in
    let q : Bool = eqb a.count b.count in
    stamp_ext a b (eqb-true a.epoch b.epoch (and_left p q e)) (eqb-true a.count b.count (and_right p q e))

pub same_refl : (a : Stamp) → same_stamp a a ≡ true
unfolding same_stamp
same_refl a = ap₂ (λ (p q : Bool). p && q) (eq-eqb a.epoch a.epoch refl) (eq-eqb a.count a.count refl)

-- ---- the order

-- later, said of the numbers
pub later_is : (a b : Stamp) → later_of a b ≡ true → (b.epoch < a.epoch) ⊎ ((a.epoch ≡ b.epoch) × (b.count < a.count))
unfolding later_of
later_is a b e = by (ltb b.epoch a.epoch) refl e
  where
    by : (p : Bool) → ltb b.epoch a.epoch ≡ p → (p || (eqb a.epoch b.epoch && ltb b.count a.count)) ≡ true
        → (b.epoch < a.epoch) ⊎ ((a.epoch ≡ b.epoch) × (b.count < a.count))
    by true p e = inl (ltb-true b.epoch a.epoch p)
    by false p e =
        let q : Bool = eqb a.epoch b.epoch in
        let r : Bool = ltb b.count a.count in
        inr (eqb-true a.epoch b.epoch (and_left q r e), ltb-true b.count a.count (and_right q r e))

pub is_later : (a b : Stamp) → (b.epoch < a.epoch) ⊎ ((a.epoch ≡ b.epoch) × (b.count < a.count)) → later_of a b ≡ true
unfolding later_of
is_later a b =
    ⊎_elim
    (λ (l : b.epoch < a.epoch). ap (λ (p : Bool). p || (eqb a.epoch b.epoch && ltb b.count a.count)) (lt-ltb b.epoch a.epoch l))
    (λ (h : (a.epoch ≡ b.epoch) × (b.count < a.count)).
    ap₂ (λ (p q : Bool). p || q) (le-ltb b.epoch a.epoch (omega (arith, h.0)))
    (ap₂ (λ (p q : Bool). p && q) (eq-eqb a.epoch b.epoch h.0) (lt-ltb b.count a.count h.1)))

-- no stamp is later than itself; later than a later one is later; of two, one is later or they are one
pub later_not_self : (a : Stamp) → later_of a a ≡ false
unfolding later_of
later_not_self a =
    ap₂ (λ (p q : Bool). p || (eqb a.epoch a.epoch && q)) (le-ltb a.epoch a.epoch (omega arith)) (le-ltb a.count a.count (omega arith))
    ∙ ap (λ (p : Bool). p && false) (eq-eqb a.epoch a.epoch refl)

pub later_trans : (a b c : Stamp) → later_of a b ≡ true → later_of b c ≡ true → later_of a c ≡ true
later_trans a b c h k =
    is_later a c
    (⊎_elim
    (λ (l : b.epoch < a.epoch). ⊎_elim (λ (m : c.epoch < b.epoch). inl (omega arith)) (λ (m : (b.epoch ≡ c.epoch) × (c.count < b.count)). inl (omega (arith, m.0))) (later_is b c k))
    (λ (l : (a.epoch ≡ b.epoch) × (b.count < a.count)).
    ⊎_elim (λ (m : c.epoch < b.epoch). inl (omega (arith, l.0)))
    (λ (m : (b.epoch ≡ c.epoch) × (c.count < b.count)). inr (l.0 ∙ m.0, omega (arith, l.1, m.1))) (later_is b c k))
    (later_is a b h))

pub later_or : (a b : Stamp) → (later_of a b ≡ true) ⊎ ((later_of b a ≡ true) ⊎ (a ≡ b))
later_or a b =
    ⊎_elim (λ (l : a.epoch < b.epoch). inr (inl (is_later b a (inl l))))
    (λ (g : b.epoch ≤ a.epoch).
    ⊎_elim (λ (l : b.epoch < a.epoch). inl (is_later a b (inl l)))
    (λ (e : a.epoch ≤ b.epoch).
    let p : a.epoch ≡ b.epoch = omega arith in
    ⊎_elim (λ (l : a.count < b.count). inr (inl (is_later b a (inr (sym p, l)))))
    (λ (f : b.count ≤ a.count).
    ⊎_elim (λ (l : b.count < a.count). inl (is_later a b (inr (p, l))))
    (λ (q : a.count ≤ b.count). inr (inr (stamp_ext a b p (omega arith))))
    (lt_or_ge b.count a.count))
    (lt_or_ge a.count b.count))
    (lt_or_ge b.epoch a.epoch))
    (lt_or_ge a.epoch b.epoch)
