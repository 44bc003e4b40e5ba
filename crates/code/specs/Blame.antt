-- Rows of a table at all positions of a stripe, and what they say of one shard. Assumes nothing.
use Rattle.std.specs.Prelude.{◌≡◌, Bool, true, false, List, [], ◌∷◌, ◌≢◌, ◌⊎◌, ℕ, ◌+◌, ◌*◌, ◌≤◌, ◌<◌, length}
use Rattle.std.proofs.Common.{sym, subst, inl, inr, suc-mul, mul-le-mul_right, eq-or-lt_of_le, arith}
use Rattle.codeword.specs.Stripe.{byte_at, Sound, AgreeOff}
use Rattle.codeword.specs.Table.{row_sum, SolvedFor}
use Rattle.codeword.specs.Mend.{others, others_byte}
use Rattle.codeword.proofs.Mend.{mends, blamed}
use Rattle.codeword.specs.Unique.{AllBytes}
use Rattle.code.specs.Padded.{padded}
use Rattle.code.specs.Stripes.{Accuses}
use Rattle.code.specs.declared.Verdict.{Verdict}
use Rattle.code.specs.declared.Verdict.TheVariants as verdict

-- the rows from `from` to m are 0 at every position, or not
abbrev pub RowsZero : ℕ → ℕ → ℕ → ℕ → List ℕ → List ℕ → Bool → Type 0
RowsZero from m n len table stripe true =
    (j : ℕ) → from ≤ j → j < m → (p : ℕ) → p < len → row_sum n table j (byte_at len stripe p) ≡ 0
RowsZero from m n len table stripe false =
    (j : ℕ) × (from ≤ j) × (j < m) × ((p : ℕ) × (p < len) × (row_sum n table j (byte_at len stripe p) ≢ 0))

abbrev pub Blamed : ℕ → ℕ → ℕ → List ℕ → ℕ → Bool → Type 0
Blamed k m len s r true = Accuses k m len s r
Blamed k m len s r false = Accuses k m len s r → ⊥

-- the first shard that is accused, or none is
abbrev pub Located : ℕ → ℕ → ℕ → List ℕ → Verdict → Type 0
Located k m len s verdict.Sound = ⊥
Located k m len s (verdict.Accused r) = Accuses k m len s r
Located k m len s verdict.Unsound = (r : ℕ) → Accuses k m len s r → ⊥

-- a verdict on a stripe of the right shape
abbrev pub Judged : ℕ → ℕ → ℕ → List ℕ → Verdict → Type 0
Judged k m len s verdict.Sound = Sound k m len s
Judged k m len s (verdict.Accused r) = (Sound k m len s → ⊥) × (2 ≤ m) × Accuses k m len s r
Judged k m len s verdict.Unsound = (Sound k m len s → ⊥) × (2 ≤ m → (r : ℕ) → Accuses k m len s r → ⊥)

-- the lost shards are filled in from the k least of the others: by a table solved for all but these, whose first rows, one for each
-- lost shard, are now 0
pub record Filled (k m len : ℕ) (lost before after : List ℕ) : Type 0 where
  pub same : length after ≡ length before
  pub survivors : AgreeOff (k + m) len lost after before
  pub table : List ℕ
  pub solved : SolvedFor k m (padded k m lost) table
  pub rows : (c : ℕ) → c < length lost → (p : ℕ) → p < len → row_sum (k + m) table c (byte_at len after p) ≡ 0

-- row j of m rows of n
pub row_fits : (j m n : ℕ) → j < m → j * n + n ≤ m * n
row_fits j m n h = subst (λ (x : ℕ). x ≤ m * n) (suc-mul j n) (mul-le-mul_right n h)

module _ (from m n len : ℕ) (table stripe : List ℕ) where
  -- the rows below j are 0 at every position
  abbrev pub ZeroTo : ℕ → Type 0
  ZeroTo j = (i : ℕ) → from ≤ i → i < j → (p : ℕ) → p < len → row_sum n table i (byte_at len stripe p) ≡ 0

  pub zero_on : (j : ℕ) → ZeroTo j → ((p : ℕ) → p < len → row_sum n table j (byte_at len stripe p) ≡ 0) → ZeroTo (j + 1)
  zero_on j z h i hf hi p hp = go (eq-or-lt_of_le (omega arith))
    where
      go : (i ≡ j) ⊎ (i < j) → row_sum n table i (byte_at len stripe p) ≡ 0
      go (inl e) = subst (λ (x : ℕ). row_sum n table x (byte_at len stripe p) ≡ 0) (sym e) (h p hp)
      go (inr l) = z i hf l p hp

-- what the rows but the first of a table solved for r say of shard r
pub blames_is : (k m len r : ℕ) (table stripe : List ℕ) (b : Bool) → 1 ≤ m → r < k + m → AllBytes stripe → SolvedFor k m (r ∷ []) table
    → RowsZero 1 m (k + m) len table stripe b → Blamed k m len stripe r b
blames_is k m len r table stripe true hm hr hb s z = (
  hr,
  (
    λ p. others (k + m) table 0 r (byte_at len stripe p),
    λ p hp. (
      others_byte (k + m) table 0 r (byte_at len stripe p),
      mends k m r table s hm hr (byte_at len stripe p) (λ q. hb (q * len + p)) (λ j l h. z j l h p hp),
    ),
  ),
)
blames_is k m len r table stripe false hm hr hb s z =
    λ a. z.3.2 (blamed k m r table s hm hr (byte_at len stripe z.3.0) (λ q. hb (q * len + z.3.0)) (a.1.0 z.3.0, (a.1.1 z.3.0 z.3.1).0, (a.1.1 z.3.0 z.3.1).1) z.0 z.1 z.2)
