-- What a solved table is for: a row gives its lost shard from the others, and whether one shard alone can be to blame for a
-- position is told by the rows that leave it out. Assumes nothing.
use Rattle.std.specs.Prelude.{◌≡◌, List, [], ◌∷◌, ◌⊎◌, ℕ, ◌+◌, ◌≤◌, ◌<◌}
use Rattle.std.proofs.Common.{sym, ◌∙◌, subst, inl, inr, eq-zero-or-pos, arith, lit<}
use Rattle.field.proofs.Bytes.{bytes}
use Rattle.codeword.specs.Stripe.{Holds, Bytes}
use Rattle.codeword.specs.Table.{row_sum, SolvedFor}
use Rattle.codeword.specs.Mend.{put, put_bytes, Mended, others, others_byte, solved_row, solved_other}

-- ---- a table solved for one shard: it is to blame exactly where the other rows are 0

module _ (k m a : ℕ) (e : List ℕ) (s : SolvedFor k m (a ∷ []) e) (hm : 1 ≤ m) (ha : a < k + m) where
  -- with the byte that row 0 gives, the equations hold
  pub mends : (x : ℕ → ℕ) → Bytes x → ((j : ℕ) → 1 ≤ j → j < m → row_sum (k + m) e j x ≡ 0) → Holds k m (put a (others (k + m) e 0 a x) x)
  mends x b z =
      s.same.back (put a v x) (put_bytes a v x (others_byte (k + m) e 0 a x) b)
      (λ j hj. row j hj (eq-zero-or-pos j))
    where
      v : ℕ
      v = others (k + m) e 0 a x

      row : (j : ℕ) → j < m → (j ≡ 0) ⊎ (0 < j) → row_sum (k + m) e j (put a v x) ≡ 0
      row j hj (inl q) =
          subst (λ (i : ℕ). row_sum (k + m) e i (put a v x) ≡ 0) (sym q)
          (solved_row k m (a ∷ []) e s 0 v x (lit< tt) (omega arith) ha (others_byte (k + m) e 0 a x) ∙ bytes.add_self v)
      row j hj (inr l) = solved_other k m (a ∷ []) e s 0 j v x (lit< tt) hj (λ q. omega arith) ha ∙ z j l hj

  -- and where some byte does that, the other rows are 0
  pub blamed : (x : ℕ → ℕ) → Bytes x → Mended k m x a → (j : ℕ) → 1 ≤ j → j < m → row_sum (k + m) e j x ≡ 0
  blamed x b w j l hj =
      sym (solved_other k m (a ∷ []) e s 0 j w.0 x (lit< tt) hj (λ q. omega arith) ha)
      ∙ s.same.forth (put a w.0 x) (put_bytes a w.0 x w.1 b) w.2 j hj
