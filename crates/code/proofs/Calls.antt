-- What calls of `solve` and `kernel` give where the shape is in range. Assumes nothing.
use mathlib.Core.Path.{◌≡◌, ◌∙◌, subst}
use mathlib.Core.Bool.{Bool, true, false, ◌&&◌}
use mathlib.Core.List.{List}
use Prim.Native.Nat.{ℕ, ◌+◌, ◌-◌, ◌*◌, ◌≤◌, ◌<◌}
use lib.Dec.{ltb}
use lib.ListN.{length}
use native.Mathlib.Omega.{arith}
use Rattle.std.specs.Bool.{MatchBool}
use Rattle.std.specs.List.{AllWithin, HoldsAt, range_with_len}
use Rattle.std.proofs.lemmas.List.FromFn.{length-range_with_len, get_or-range_with_len}
use Rattle.codeword.specs.Stripe.{InRange, len_most}
use Rattle.codeword.specs.Table.{SolvedFor}
use Rattle.kernel.specs.Kernel.{fits_of, Shards, RowZero, Tests, Combined, Combines}
use Rattle.kernel.specs.Fits.{fits_is, fits_with}
use Rattle.solve.specs.Lost.{Lost, Solves, solvable_of}
use Rattle.solve.specs.Lists.{solvable_is}
use Rattle.code.specs.Padded.{padded, padded_lost}
use Rattle.code.specs.Blame.{RowsZero, row_fits}

-- the table is solved for the list, and as long as before
pub solved : (k m : ℕ) (lost e new : List ℕ) → InRange k m → Lost k m lost → length e ≡ m * (k + m)
    → Solves (solvable_of k m lost (length e)) k m lost e new → SolvedFor k m lost new × (length new ≡ length e)
solved k m lost e new g l s h = subst (λ (b : Bool). Solves b k m lost e new) (solvable_is k m lost (length e) g l s) h

-- the same for a padded list
pub solved_padded : (k m : ℕ) (lost all e new : List ℕ) → InRange k m → Lost k m lost → all ≡ padded k m lost → length e ≡ m * (k + m)
    → Solves (solvable_of k m all (length e)) k m all e new → SolvedFor k m (padded k m lost) new × (length new ≡ length e)
solved_padded k m lost all e new g l w s h =
    solved k m (padded k m lost) e new g (padded_lost k m lost l) s (subst (λ (a : List ℕ). Solves (solvable_of k m a (length e)) k m a e new) w h)

pub shards : (k m len size : ℕ) → InRange k m → len ≤ len_most → size ≡ (k + m) * len → Shards (k + m) len size
shards k m len size g l w = record { few = omega (arith, g.k_most_lem, g.m_most_lem); short = l; fits = omega arith }

-- rows of the table of a stripe: what the test of row j says, and of all from `a` to b
module _ (k m len : ℕ) (s table : List ℕ) where
  abbrev pub Tested : Bool → ℕ → Type 0
  Tested b j = Tests (fits_of (k + m) len (length s) (j * (k + m)) (length table)) b (k + m) len s table (j * (k + m))

  row : (j : ℕ) (b : Bool) → Shards (k + m) len (length s) → length table ≡ m * (k + m) → j < m → Tested b j → RowZero b (k + m) len s table (j * (k + m))
  row j b h t l =
      subst (λ (f : Bool). Tests f b (k + m) len s table (j * (k + m)))
      (fits_is (k + m) len (length s) (j * (k + m)) (length table) h (omega (arith, row_fits j m (k + m) l)))

  pub rows_all : (a b : ℕ) (r : Bool) → Shards (k + m) len (length s) → length table ≡ m * (k + m) → b ≤ m
      → MatchBool r (AllWithin (Tested true) (range_with_len a (b - a)) 0 (length (range_with_len a (b - a))))
      ((i : ℕ) × (i < length (range_with_len a (b - a))) × HoldsAt (Tested false) (range_with_len a (b - a)) i)
      → RowsZero a b (k + m) len table s r
  rows_all a b true f t l h =
      λ j lo hi.
      let e : a + (j - a) ≡ j = omega arith in
      row j true f t (omega arith)
      (subst (Tested true) (get_or-range_with_len a (b - a) (j - a) 0 (omega arith) ∙ e) (h (j - a) 0 (omega arith) (omega (arith, length-range_with_len a (b - a)))))
  rows_all a b false f t l h =
      let i : h.0 < b - a = omega (arith, length-range_with_len a (b - a), h.1) in
      (a + h.0, omega arith, omega arith, row (a + h.0) false f t (omega arith) (subst (Tested false) (get_or-range_with_len a (b - a) h.0 0 i) (h.2 0)))

-- row c of the table gives shard a
pub combined : (k m len c a : ℕ) (s new table : List ℕ) → Shards (k + m) len (length s) → length table ≡ m * (k + m) → c < m → a < k + m
    → Combines (fits_of (k + m) len (length s) (c * (k + m)) (length table) && ltb a (k + m)) (k + m) len a table (c * (k + m)) s new
    → Combined (k + m) len a table (c * (k + m)) s new
combined k m len c a s new table f t h g =
    subst (λ (b : Bool). Combines b (k + m) len a table (c * (k + m)) s new)
    (fits_with (k + m) len (length s) (c * (k + m)) (length table) a f (omega (arith, row_fits c m (k + m) h)) g)
