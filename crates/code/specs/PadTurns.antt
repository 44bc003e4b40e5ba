-- The turns of the loop that pads a list. Assumes nothing.
use Rattle.std.specs.Prelude.{◌≡◌, Bool, true, false, cond, not, List, [], ◌∷◌, ◌++◌, ◌⊎◌, ℕ, suc, ◌+◌, ◌-◌, ◌≤◌, ◌<◌, length, take, drop, set, get_or}
use Rattle.std.proofs.Common.{sym, ap, ap₂, ◌∙◌, subst, append_assoc, append-nil, inl, inr, add-one, arith, length-set, length-append, length-drop, take_all, take-suc-set, length-take-le, take-suc}
use Rattle.std.proofs.Math.Seq.{take-nil}
use Rattle.std.proofs.lemmas.List.{take_at}
use Rattle.codeword.specs.Stripe.{has}
use Rattle.solve.specs.Lost.{Lost}
use Rattle.code.specs.Lists.{below_or_not}
use Rattle.code.specs.Padded.{unnamed, padded, padded_is, padded_length}

-- ---- the lost shards are copied
-- the one list stands at the beginning of the other
pub record Copied (from to after : List ℕ) : Type 0 where
  pub same : length after ≡ length to
  pub front : take (length from) after ≡ from

-- ---- pad: c are there, and the others below k + m + 1 - i are to come

pub record Padding (k m : ℕ) (lost : List ℕ) (c i : ℕ) (all : List ℕ) : Type 0 where
  pub size : length all ≡ m
  pub most : c ≤ m
  pub begun : 1 ≤ i
  pub rest : take c all ++ take (m - c) (unnamed lost (k + m + 1 - i)) ≡ padded k m lost

pub padding_first : (k m : ℕ) (lost all to : List ℕ) → Lost k m lost → length to ≡ m → Copied lost to all → Padding k m lost (length lost) 1 all
padding_first k m lost all to l s w =
    record {
      size = w.same ∙ s;
      most = l.few;
      begun = omega arith;
      rest =
          let q : k + m + 1 - 1 ≡ k + m = omega arith in
          ap₂ (λ (t : List ℕ) (n : ℕ). t ++ take (m - length lost) (unnamed lost n)) w.front q ∙ sym (padded_is k m lost l);
    }

module _ (k m : ℕ) (lost : List ℕ) (l : Lost k m lost) (c i : ℕ) (all : List ℕ) (p : Padding k m lost c i all) (h : c < m) where
  -- where a place is left, a shard is left
  pub padding_more : i ≤ k + m
  padding_more = go (below_or_not i (k + m + 1))
    where
      go : (i < k + m + 1) ⊎ (k + m + 1 ≤ i) → i ≤ k + m
      go (inl a) = omega arith
      go (inr a) =
          let q : k + m + 1 - i ≡ 0 = omega arith in
          let none : take (m - c) (unnamed lost (k + m + 1 - i)) ≡ [] =
          ap (λ (n : ℕ). take (m - c) (unnamed lost n)) q ∙ take-nil (m - c) in
          let short : take c all ≡ padded k m lost =
          sym (append-nil (take c all)) ∙ ap (λ (t : List ℕ). take c all ++ t) (sym none) ∙ p.rest in
          omega (arith, ap length short, length-take-le c all (omega (arith, p.size)), padded_length k m lost l)

  next : k + m + 1 - i ≡ suc (k + m - i)
  next = omega (arith, padding_more)

  later : k + m + 1 - (i + 1) ≡ k + m - i
  later = omega arith

  -- a shard that is named is passed over
  pub padding_skip : has lost (k + m - i) ≡ true → Padding k m lost c (i + 1) all
  padding_skip e =
      record {
        size = p.size;
        most = p.most;
        begun = omega arith;
        rest = ap (λ (n : ℕ). take c all ++ take (m - c) (unnamed lost n)) later ∙ ap (λ (t : List ℕ). take c all ++ take (m - c) t) (sym passed) ∙ p.rest;
      }
    where
      passed : unnamed lost (k + m + 1 - i) ≡ unnamed lost (k + m - i)
      passed =
          ap (unnamed lost) next
          ∙ ap (λ (b : Bool). cond (not b) ((k + m - i) ∷ unnamed lost (k + m - i)) (unnamed lost (k + m - i))) e

  -- another is written
  pub padding_turn : has lost (k + m - i) ≡ false → Padding k m lost (c + 1) (i + 1) (set all c (k + m - i))
  padding_turn e =
      record {
        size = length-set all c (k + m - i) ∙ p.size;
        most = omega arith;
        begun = omega arith;
        rest =
            ap₂ (λ (t : List ℕ) (n : ℕ). t ++ take (m - (c + 1)) (unnamed lost n)) written later
            ∙ append_assoc (take c all) ((k + m - i) ∷ []) (take (m - (c + 1)) (unnamed lost (k + m - i)))
            ∙ ap (λ (t : List ℕ). take c all ++ t) (sym taken) ∙ p.rest;
      }
    where
      a : ℕ
      a = k + m - i

      written : take (c + 1) (set all c a) ≡ take c all ++ (a ∷ [])
      written = ap (λ (n : ℕ). take n (set all c a)) (add-one c) ∙ take-suc-set all c a (omega (arith, p.size))

      taken : take (m - c) (unnamed lost (k + m + 1 - i)) ≡ a ∷ take (m - (c + 1)) (unnamed lost a)
      taken =
          let q : m - c ≡ suc (m - (c + 1)) = omega arith in
          ap₂ (λ (n r : ℕ). take n (unnamed lost r)) q next
          ∙ ap (λ (b : Bool). take (suc (m - (c + 1))) (cond (not b) (a ∷ unnamed lost a) (unnamed lost a))) e

pub padding_done : (k m : ℕ) (lost : List ℕ) (c i : ℕ) (all : List ℕ) → Padding k m lost c i all → m ≤ c → all ≡ padded k m lost
padding_done k m lost c i all p h =
    let q : m - c ≡ 0 = omega arith in
    sym (append-nil all)
    ∙ ap₂ (λ (t : List ℕ) (n : ℕ). t ++ take n (unnamed lost (k + m + 1 - i))) (sym (take_all c all (omega (arith, p.size)))) (sym q) ∙ p.rest

-- ---- the same with the next shard's number x = a - 1: the others below a are to come

module _ (k m : ℕ) (lost : List ℕ) (l : Lost k m lost) where
  pub padding_start : (all new : List ℕ) → length all ≡ m → new ≡ lost → Padding k m lost (length lost) (k + m + 1 - (k + m)) (new ++ drop (length lost) all)
  padding_start all new s e =
      let size : length (new ++ drop (length lost) all) ≡ length all =
      length-append new (drop (length lost) all) ∙ omega (arith, ap length e, length-drop (length lost) all, l.few) in
      let one : 1 ≡ k + m + 1 - (k + m) = omega arith in
      subst (λ (i : ℕ). Padding k m lost (length lost) i (new ++ drop (length lost) all)) one
      (padding_first k m lost (new ++ drop (length lost) all) all l s
      (record { same = size; front = take_at new (drop (length lost) all) (length lost) (ap length e) ∙ e }))

  module _ (c a x : ℕ) (all : List ℕ) (h : 0 < a) (g : a ≤ k + m) (e : x ≡ a - 1) (p : Padding k m lost c (k + m + 1 - a) all) where
    this : k + m - (k + m + 1 - a) ≡ x
    this = omega arith

    below : k + m + 1 - a + 1 ≡ k + m + 1 - (a - 1)
    below = omega arith

    pub padding_put : c < m → has lost x ≡ false → Padding k m lost (c + 1) (k + m + 1 - (a - 1)) (set all c x)
    padding_put f n =
        subst (λ (i : ℕ). Padding k m lost (c + 1) i (set all c x)) below
        (subst (λ (y : ℕ). Padding k m lost (c + 1) (k + m + 1 - a + 1) (set all c y)) this
        (padding_turn k m lost l c (k + m + 1 - a) all p f (ap (has lost) this ∙ n)))

    pub padding_past : c < m → has lost x ≡ true → Padding k m lost c (k + m + 1 - (a - 1)) all
    padding_past f n =
        subst (λ (i : ℕ). Padding k m lost c i all) below (padding_skip k m lost l c (k + m + 1 - a) all p f (ap (has lost) this ∙ n))

  pub padding_end : (c a : ℕ) (all : List ℕ) → a ≤ 0 → Padding k m lost c (k + m + 1 - a) all → all ≡ padded k m lost
  padding_end c a all z p = go (below_or_not c m)
    where
      go : (c < m) ⊎ (m ≤ c) → all ≡ padded k m lost
      go (inl f) = absurd (omega (arith, padding_more k m lost l c (k + m + 1 - a) all p f))
      go (inr f) = padding_done k m lost c (k + m + 1 - a) all p f

-- ---- a copy, byte by byte: the first i are there

pub copy_turn : (from to : List ℕ) (i : ℕ) → i < length from → i < length to → take i to ≡ take i from
    → take (i + 1) (set to i (get_or from i 0)) ≡ take (i + 1) from
copy_turn from to i h g e =
    ap (λ (n : ℕ). take n (set to i (get_or from i 0))) (add-one i) ∙ take-suc-set to i (get_or from i 0) g
    ∙ ap (λ (t : List ℕ). t ++ (get_or from i 0 ∷ [])) e ∙ sym (take-suc from i 0 h) ∙ ap (λ (n : ℕ). take n from) (sym (add-one i))

pub copy_done : (from to : List ℕ) (i : ℕ) → i ≤ length from → length from ≤ i → take i to ≡ take i from → take (length from) to ≡ from
copy_done from to i h g e =
    let q : length from ≡ i = omega arith in
    ap (λ (n : ℕ). take n to) q ∙ e ∙ take_all i from g
