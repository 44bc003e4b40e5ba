-- Any k shards can be completed: a table solved for m shards gives these from the others, so that the equations hold. Assumes
-- nothing.
use Rattle.std.specs.Prelude.{◌≡◌, Bool, true, false, List, ◌≢◌, ◌⊎◌, length, get_or}
use Rattle.std.proofs.Math.Path.{refl}
use Rattle.std.proofs.Common.{sym, ap, ◌∙◌, inl, inr, eq-or-lt_of_le, le_of_suc-le-suc, arith}
use Prim.Native.Nat.{ℕ, zero, suc, ◌+◌, ◌≤◌, ◌<◌}
use Rattle.field.specs.Field.{mul_of}
use Rattle.field.proofs.Bytes.{bytes}
use Rattle.codeword.specs.Sum.{total_ext, except, except_ext}
use Rattle.codeword.specs.Stripe.{Bytes, has}
use Rattle.codeword.specs.Unit.{unit_other}
use Rattle.codeword.specs.Table.{entry, row_sum, SolvedFor}
use Rattle.codeword.specs.Named.{has_not, has_index}
use Rattle.codeword.specs.Mend.{put, put_off, put_bytes, others, others_byte, by_zero, solved_row, solved_other, row_gives}

-- x with the list's first c shards as their rows give them
unfoldable pub completed : ℕ → List ℕ → List ℕ → (ℕ → ℕ) → ℕ → ℕ → ℕ
completed n lost e x zero = x
completed n lost e x (suc c) =
    put (get_or lost c 0) (others n e c (get_or lost c 0) (completed n lost e x c)) (completed n lost e x c)

module _ (k m : ℕ) (lost e : List ℕ) (s : SolvedFor k m lost e) (few : length lost ≤ m)
    (inside : (c : ℕ) → c < length lost → get_or lost c 0 < k + m) where
  -- two positions that agree off the list agree in its shard c where row c is 0 of both
  pub row_same : (c : ℕ) (x y : ℕ → ℕ) → c < length lost → Bytes x → Bytes y → row_sum (k + m) e c x ≡ 0 → row_sum (k + m) e c y ≡ 0
      → ((r : ℕ) → r < k + m → has lost r ≡ false → x r ≡ y r) → x (get_or lost c 0) ≡ y (get_or lost c 0)
  row_same c x y hc bx by zx zy ag =
      row_gives k m lost e s c x hc (omega arith) (inside c hc) (bx a) zx
      ∙ total_ext (k + m) (except a (λ i. mul_of (entry (k + m) e c i) (x i))) (except a (λ i. mul_of (entry (k + m) e c i) (y i)))
      (λ i hi. except_ext a (λ i. mul_of (entry (k + m) e c i) (x i)) (λ i. mul_of (entry (k + m) e c i) (y i)) i
      (λ q. term i hi q (has lost i) refl))
      ∙ sym (row_gives k m lost e s c y hc (omega arith) (inside c hc) (by a) zy)
    where
      a : ℕ
      a = get_or lost c 0

      -- another shard of the list is not in row c
      term : (i : ℕ) → i < k + m → i ≢ a → (t : Bool) → has lost i ≡ t → mul_of (entry (k + m) e c i) (x i) ≡ mul_of (entry (k + m) e c i) (y i)
      term i hi q false t = ap (mul_of (entry (k + m) e c i)) (ag i hi t)
      term i hi q true t =
          let d = has_index lost i t in
          let z : entry (k + m) e c i ≡ 0 =
          ap (entry (k + m) e c) (sym d.2) ∙ s.units d.0 d.1 c (omega arith)
          ∙ unit_other c d.0 (λ g. q (sym d.2 ∙ ap (λ (z : ℕ). get_or lost z 0) (sym g))) in
          by_zero (entry (k + m) e c i) (x i) z ∙ sym (by_zero (entry (k + m) e c i) (y i) z)

  module _ (x : ℕ → ℕ) (b : Bytes x) where
    pub completed_bytes : (c : ℕ) → Bytes (completed (k + m) lost e x c)
    unfolding completed
    completed_bytes zero = b
    completed_bytes (suc c) =
        put_bytes (get_or lost c 0) (others (k + m) e c (get_or lost c 0) (completed (k + m) lost e x c)) (completed (k + m) lost e x c)
        (others_byte (k + m) e c (get_or lost c 0) (completed (k + m) lost e x c)) (completed_bytes c)

    pub completed_off : (c : ℕ) → c ≤ length lost → (r : ℕ) → has lost r ≡ false → completed (k + m) lost e x c r ≡ x r
    unfolding completed
    completed_off zero h r n = refl
    completed_off (suc c) h r n =
        put_off (get_or lost c 0) (others (k + m) e c (get_or lost c 0) (completed (k + m) lost e x c)) r (completed (k + m) lost e x c)
        (λ q. has_not lost r c n h (sym q))
        ∙ completed_off c (omega arith) r n

    pub completed_rows : (c : ℕ) → c ≤ length lost → (i : ℕ) → i < c → row_sum (k + m) e i (completed (k + m) lost e x c) ≡ 0
    unfolding completed
    completed_rows zero h i l = absurd (omega arith)
    completed_rows (suc c) h i l = go (eq-or-lt_of_le (le_of_suc-le-suc l)) (completed_rows c (omega arith) i)
      where
        y : ℕ → ℕ
        y = completed (k + m) lost e x c

        v : ℕ
        v = others (k + m) e c (get_or lost c 0) y

        go : (i ≡ c) ⊎ (i < c) → (i < c → row_sum (k + m) e i y ≡ 0) → row_sum (k + m) e i (put (get_or lost c 0) v y) ≡ 0
        go (inl q) ih =
            ap (λ (j : ℕ). row_sum (k + m) e j (put (get_or lost c 0) v y)) q
            ∙ solved_row k m lost e s c v y h (omega arith) (inside c h) (others_byte (k + m) e c (get_or lost c 0) y) ∙ bytes.add_self v
        go (inr q) ih = solved_other k m lost e s c i v y h (omega arith) (λ z. omega arith) (inside c h) ∙ ih q
