-- By which shards a stripe is rebuilt: the k least of those that are not missing. Assumes nothing.
use Rattle.std.specs.Prelude.{◌≡◌, refl, Bool, true, false, cond, not, List, ◌++◌, ◌≢◌, ◌⊎◌, ℕ, ◌+◌, ◌-◌, ◌*◌, ◌≤◌, ◌<◌}
use Rattle.std.proofs.Common.{sym, ap₂, ◌∙◌, inl, inr}
use Rattle.std.proofs.Math.Path.{ap}
use native.Mathlib.Omega.{arith}
use Rattle.std.proofs.Math.ListN.{length, get_or, take, length-append, get_or-append}
use Rattle.std.proofs.Math.Seq.{get_or-take, get_or-append-add, length-take-le, take-append-add}
use Rattle.std.proofs.lemmas.Bool.{not-true}
use Rattle.codeword.specs.Stripe.{has}
use Rattle.codeword.specs.Table.{SolvedFor}
use Rattle.codeword.specs.Named.{has_not, has_append}
use Rattle.codeword.specs.Chosen.{Falling, chosen, chosen_ext, chosen_all, chosen_falls, chosen_length, chosen_least, count, count_not, has_few, has_exactly, all_at, falling_at, falling_on}
use Rattle.solve.specs.Lost.{Lost}
use Rattle.code.specs.Lists.{below_or_not}

-- the numbers below n that a list doesn't name, the greatest first
abbrev pub unnamed : List ℕ → ℕ → List ℕ
unnamed l n = chosen (λ r. not (has l r)) n

-- the shards that a rebuild doesn't look at: those that are missing, and after them the greatest of the others, m in all. So it goes
-- by the k least of those that are not missing
unfoldable pub padded : ℕ → ℕ → List ℕ → List ℕ
padded k m missing = take m (missing ++ unnamed missing (k + m))

module _ (k m : ℕ) (missing : List ℕ) (l : Lost k m missing) where
  abbrev others : List ℕ
  others = unnamed missing (k + m)

  -- a list names no more shards than it has entries
  enough : k + m ≤ length missing + length others
  enough = omega (arith, chosen_length (λ r. not (has missing r)) (k + m), count_not (has missing) (k + m), has_few missing (k + m))

  pub padded_is : padded k m missing ≡ missing ++ take (m - length missing) (unnamed missing (k + m))
  unfolding padded
  padded_is =
      let q : m ≡ length missing + (m - length missing) = omega (arith, l.few) in
      ap (λ (n : ℕ). take n (missing ++ others)) q ∙ take-append-add missing others (m - length missing)

  -- exactly m
  pub padded_length : length (padded k m missing) ≡ m
  unfolding padded
  padded_length = length-take-le m (missing ++ others) (omega (arith, length-append missing others, enough))

  -- the missing ones come first
  pub padded_first : (c : ℕ) → c < length missing → get_or (padded k m missing) c 0 ≡ get_or missing c 0
  unfolding padded
  padded_first c h =
      get_or-take m (missing ++ others) c 0 (omega (arith, l.few)) ∙ get_or-append missing others 0 c h

  -- the greatest others after them
  then : (c : ℕ) → length missing ≤ c → c < m → get_or (padded k m missing) c 0 ≡ get_or others (c - length missing) 0
  unfolding padded
  then c h g =
      let q : c ≡ length missing + (c - length missing) = omega arith in
      get_or-take m (missing ++ others) c 0 g ∙ ap (λ (i : ℕ). get_or (missing ++ others) i 0) q ∙ get_or-append-add missing others (c - length missing) 0

  falls : Falling (k + m) others
  falls = chosen_falls (λ r. not (has missing r)) (k + m) (k + m) (omega arith)

  -- the others are no missing ones
  apart : (c : ℕ) → c < length others → has missing (get_or others c 0) ≡ false
  apart =
      all_at (λ r. has missing r ≡ false) others
      (chosen_all (λ r. not (has missing r)) (λ r. has missing r ≡ false) (k + m) (λ i h e. not-true (has missing i) e))

  pub padded_lost : Lost k m (padded k m missing)
  padded_lost =
      record {
        few = omega (arith, padded_length);
        shards = λ c h. at c (omega (arith, padded_length)) (below_or_not c (length missing));
        distinct = λ i c g h. two i c g (omega (arith, padded_length)) (below_or_not i (length missing)) (below_or_not c (length missing));
      }
    where
      at : (c : ℕ) → c < m → (c < length missing) ⊎ (length missing ≤ c) → get_or (padded k m missing) c 0 < k + m
      at c h (inl g) = omega (arith, padded_first c g, l.shards c g)
      at c h (inr g) = omega (arith, then c g h, falling_at (k + m) others falls (c - length missing) (omega (arith, enough)))

      two : (i c : ℕ) → i < c → c < m → (i < length missing) ⊎ (length missing ≤ i) → (c < length missing) ⊎ (length missing ≤ c)
          → get_or (padded k m missing) i 0 ≢ get_or (padded k m missing) c 0
      two i c g h (inl a) (inl b) e = l.distinct i c g b (sym (padded_first i a) ∙ e ∙ padded_first c b)
      two i c g h (inl a) (inr b) e =
          has_not missing (get_or others (c - length missing) 0) i (apart (c - length missing) (omega (arith, enough))) a
          (sym (padded_first i a) ∙ e ∙ then c b h)
      two i c g h (inr a) (inl b) e = omega arith
      two i c g h (inr a) (inr b) e =
          omega (
            arith,
            then i a (omega arith),
            then c b h,
            falling_on (k + m) others falls (i - length missing) (c - length missing) (omega arith) (omega (arith, enough)),
          )

  -- a shard that it goes by is not missing
  pub padded_off : (r : ℕ) → has (padded k m missing) r ≡ false → has missing r ≡ false
  padded_off r e =
      go (has missing r) (sym (has_append missing (take (m - length missing) others) r) ∙ ap (λ (t : List ℕ). has t r) (sym padded_is) ∙ e)
    where
      go : (b : Bool) → cond b true (has (take (m - length missing) others) r) ≡ false → b ≡ false
      go true q = q
      go false q = refl

  -- it goes by exactly k shards
  pub goes_by_k : count (λ r. not (has (padded k m missing) r)) (k + m) ≡ k
  goes_by_k =
      omega (
        arith,
        count_not (has (padded k m missing)) (k + m),
        has_exactly (padded k m missing) (k + m) padded_lost.shards padded_lost.distinct,
        padded_length,
      )

  -- and these are the least: each is less than each survivor that it doesn't go by
  pub least : (r q : ℕ) → r < k + m → has (padded k m missing) r ≡ false → has (padded k m missing) q ≡ true → has missing q ≡ false → r < q
  least r q h a b n =
      chosen_least (λ i. not (has missing i)) (k + m) (m - length missing) r q h (ap not (padded_off r a))
      (rest r false (padded_off r a) a) (rest q true n b)
    where
      rest : (i : ℕ) (t : Bool) → has missing i ≡ false → has (padded k m missing) i ≡ t → has (take (m - length missing) others) i ≡ t
      rest i t e f =
          ap (λ (b : Bool). cond b true (has (take (m - length missing) others) i)) (sym e)
          ∙ sym (has_append missing (take (m - length missing) others) i) ∙ ap (λ (t : List ℕ). has t i) (sym padded_is) ∙ f

  -- a table solved for the padded list is solved for the list
  pub solved_first : (e : List ℕ) → SolvedFor k m (padded k m missing) e → SolvedFor k m missing e
  solved_first e s =
      record {
        same = s.same;
        units =
            λ c h j g.
            ap (λ (a : ℕ). get_or e (j * (k + m) + a) 0) (sym (padded_first c h)) ∙ s.units c (omega (arith, padded_length, l.few)) j g;
      }

-- in whichever order the list names the missing shards, these are the same shards
pub any_order : (k m : ℕ) (a b : List ℕ) → Lost k m a → Lost k m b → ((r : ℕ) → r < k + m → has a r ≡ has b r)
    → (r : ℕ) → r < k + m → has (padded k m a) r ≡ has (padded k m b) r
any_order k m a b la lb e r h =
    parts a la ∙ ap₂ (λ (u v : Bool). cond u true v) (e r h) (ap₂ (λ (c : ℕ) (t : List ℕ). has (take (m - c) t) r) many same) ∙ sym (parts b lb)
  where
    parts : (l : List ℕ) → Lost k m l → has (padded k m l) r ≡ cond (has l r) true (has (take (m - length l) (unnamed l (k + m))) r)
    parts l w = ap (λ (t : List ℕ). has t r) (padded_is k m l w) ∙ has_append l (take (m - length l) (unnamed l (k + m))) r

    same : unnamed a (k + m) ≡ unnamed b (k + m)
    same = chosen_ext (λ i. not (has a i)) (λ i. not (has b i)) (k + m) (λ i g. ap not (e i g))

    many : length a ≡ length b
    many =
        sym (has_exactly a (k + m) la.shards la.distinct) ∙ sym (chosen_length (has a) (k + m))
        ∙ ap length (chosen_ext (has a) (has b) (k + m) e) ∙ chosen_length (has b) (k + m) ∙ has_exactly b (k + m) lb.shards lb.distinct
