-- Any k shards can be completed, whatever they hold: the elimination, carried out on tables as lists, shows that there is a table solved
-- for the other m. So a position has a stripe that meets the equations and has the bytes of the k least shards that are there; the data
-- shards that are there are among these. Assumes nothing.
use Rattle.std.specs.Prelude.{◌≡◌, refl, Bool, true, false, cond, not, ◌&&◌, ◌≢◌, ◌⊎◌, eqb, ltb, leb, length, get_or}
use Rattle.std.proofs.Common.{sym, ap, ◌∙◌, subst, true≢false, inl, inr, mul-le-mul_right, arith, lit<, eqb-true, eq-eqb, ne_eqb, leb-true, le-leb}
use Rattle.std.proofs.Math.Path.{ap₂}
use mathlib.Core.List.{List}
use Prim.Native.Nat.{ℕ, zero, suc, ◌+◌, ◌-◌, ◌*◌, ◌/◌, ◌%◌, ◌≤◌, ◌<◌}
use Rattle.std.proofs.Math.Arith.{digits_lt, digits_div, digits_mod}
use Rattle.std.specs.Int.Bits.{bit_xor}
use Rattle.std.proofs.Math.ListN.{get_or-eq_default}
use Rattle.std.proofs.lemmas.Bool.{eqb-false, not-true}
use Rattle.disk.specs.Tests.{and_left, and_right, both}
use Rattle.field.specs.Field.{mul_of, inverse_of}
use Rattle.field.proofs.Bytes.{bytes}
use Rattle.field.proofs.QuotientLaws.{quotient_times}
use Rattle.codeword.specs.Stripe.{InRange, coef, Holds, Bytes, has}
use Rattle.codeword.specs.Table.{column, entry, SolvedFor}
use Rattle.codeword.specs.Unique.{AllBytes}
use Rattle.codeword.specs.Chosen.{count, count_split, count_not}
use Rattle.codeword.specs.Complete.{completed, completed_bytes, completed_off}
use Rattle.codeword.proofs.Complete.{completed_holds}
use Rattle.solve.specs.Lost.{Lost}
use Rattle.solve.specs.Rows.{Added, Exchanged, Turned, swap}
use Rattle.solve.specs.Solving.{SolvedTo, clearing, solved_none, solved_last, exchanged_solved, step_solved}
use Rattle.solve.specs.Pivot.{pivot_found}
use Rattle.code.specs.Lists.{below_or_not}
use Rattle.code.specs.Padded.{padded_lost, padded_length, goes_by_k, least}
use Rattle.code.specs.Padded as code
use Rattle.position.specs.Row.{listed, listed_length, listed_at}
use Rattle.position.specs.Search.{some, some_of, first, first_is, first_lt}
use Rattle.position.specs.Position.{padded}
use Rattle.position.specs.Rebuild.{same_padding}

-- ---- tables by their entries

-- m rows of n
unfoldable table_of : ℕ → ℕ → (ℕ → ℕ → ℕ) → List ℕ
table_of m n f = listed (m * n) (λ i. f (i / n) (i % n))

module _ (m n : ℕ) (f : ℕ → ℕ → ℕ) where
  table_length : length (table_of m n f) ≡ m * n
  unfolding table_of
  table_length = listed_length (m * n) (λ i. f (i / n) (i % n))

  table_at : (j r : ℕ) → j < m → r < n → entry n (table_of m n f) j r ≡ f j r
  unfolding table_of
  table_at j r hj hr = listed_at (m * n) (λ i. f (i / n) (i % n)) (j * n + r) (digits_lt hj hr) ∙ ap₂ f (digits_div j hr) (digits_mod j hr)

  table_bytes : ((j r : ℕ) → f j r < 256) → AllBytes (table_of m n f)
  unfolding table_of
  table_bytes h i = go (below_or_not i (m * n))
    where
      l : List ℕ
      l = listed (m * n) (λ i. f (i / n) (i % n))

      go : (i < m * n) ⊎ (m * n ≤ i) → get_or l i 0 < 256
      go (inl a) = subst (λ (x : ℕ). x < 256) (sym (listed_at (m * n) (λ i. f (i / n) (i % n)) i a)) (h (i / n) (i % n))
      go (inr a) = omega (arith, get_or-eq_default l 0 {n = i} (omega (arith, table_length)))

-- there are no more rows
past : (m n j r : ℕ) (e : List ℕ) → length e ≡ m * n → m ≤ j → entry n e j r ≡ 0
past m n j r e s h = get_or-eq_default e 0 {n = j * n + r} (omega (arith, mul-le-mul_right n h))

-- ---- the steps of the elimination

column_byte : (k m r j : ℕ) → column k m r j < 256
unfolding coef
column_byte k m r j = go (ltb r k) (eqb r (k + j))
  where
    go : (a b : Bool) → cond a (coef m j r) (cond b 1 0) < 256
    go true b = bytes.power_byte (r * j)
    go false true = lit< tt
    go false false = lit< tt

swap_second : (c j : ℕ) → swap c j j ≡ c
swap_second c j = go (eqb j c) refl
  where
    go : (b : Bool) → eqb j c ≡ b → cond b j (cond (eqb j j) c j) ≡ c
    go true e = eqb-true j c e
    go false e = ap (λ (b : Bool). cond b c j) (eq-eqb j j refl)

module _ (m n c : ℕ) (e : List ℕ) (size : length e ≡ m * n) (hc : c < m) where
  -- rows c and j change places
  exchange : (j : ℕ) → j < m → Exchanged n c j e (table_of m n (λ i r. entry n e (swap c j i) r))
  exchange j hj =
      record {
        same = table_length m n f ∙ sym size;
        first = λ r h. table_at m n f c r hc h ∙ ap (λ (i : ℕ). entry n e i r) (ap (λ (b : Bool). cond b j (cond (eqb c j) c c)) (eq-eqb c c refl));
        second = λ r h. table_at m n f j r hj h ∙ ap (λ (i : ℕ). entry n e i r) (swap_second c j);
        other = λ i r h a b. go i r h a b (below_or_not i m);
      }
    where
      f : ℕ → ℕ → ℕ
      f i r = entry n e (swap c j i) r

      go : (i r : ℕ) → r < n → i ≢ c → i ≢ j → (i < m) ⊎ (m ≤ i) → entry n (table_of m n f) i r ≡ entry n e i r
      go i r h a b (inl l) =
          table_at m n f i r l h
          ∙ ap (λ (i : ℕ). entry n e i r) (ap₂ (λ (u v : Bool). cond u j (cond v c i)) (ne_eqb i c a) (ne_eqb i j b))
      go i r h a b (inr l) = past m n i r (table_of m n f) (table_length m n f) l ∙ sym (past m n i r e size l)

  -- row c plus q times itself
  abbrev scaled : ℕ → ℕ → ℕ → ℕ
  scaled q j r = cond (eqb j c) (bit_xor (entry n e c r) (mul_of q (entry n e c r))) (entry n e j r)

  scale : (q : ℕ) → Added n c c q e (table_of m n (scaled q))
  scale q =
      record {
        same = table_length m n (scaled q) ∙ sym size;
        row = λ r h. table_at m n (scaled q) c r hc h ∙ ap (λ (b : Bool). cond b (bit_xor (entry n e c r) (mul_of q (entry n e c r))) (entry n e c r)) (eq-eqb c c refl);
        other = λ j r h a. go j r h a (below_or_not j m);
      }
    where
      go : (j r : ℕ) → r < n → j ≢ c → (j < m) ⊎ (m ≤ j) → entry n (table_of m n (scaled q)) j r ≡ entry n e j r
      go j r h a (inl l) = table_at m n (scaled q) j r l h ∙ ap (λ (b : Bool). cond b (bit_xor (entry n e c r) (mul_of q (entry n e c r))) (entry n e j r)) (ne_eqb j c a)
      go j r h a (inr l) = past m n j r (table_of m n (scaled q)) (table_length m n (scaled q)) l ∙ sym (past m n j r e size l)

  scaled_byte : AllBytes e → (q j r : ℕ) → scaled q j r < 256
  scaled_byte b q j r = go (eqb j c)
    where
      go : (u : Bool) → cond u (bit_xor (entry n e c r) (mul_of q (entry n e c r))) (entry n e j r) < 256
      go true = bytes.add_byte (entry n e c r) (mul_of q (entry n e c r)) (b (c * n + r)) (bytes.mul_byte q (entry n e c r))
      go false = b (j * n + r)

  -- multiples of row c added to every row
  turn : (d : ℕ → ℕ) → Turned m n c d e (table_of m n (λ j r. bit_xor (entry n e j r) (mul_of (d j) (entry n e c r))))
  turn d =
      record {
        same = table_length m n (λ j r. bit_xor (entry n e j r) (mul_of (d j) (entry n e c r))) ∙ sym size;
        each = λ j r h g. table_at m n (λ j r. bit_xor (entry n e j r) (mul_of (d j) (entry n e c r))) j r h g;
      }

module _ (k m : ℕ) (range : InRange k m) (lost : List ℕ) (l : Lost k m lost) where
  abbrev n : ℕ
  n = k + m

  -- a row from c on that is not 0 at the column of the list's shard c
  pivot : (c : ℕ) (e : List ℕ) → SolvedTo k m c lost e → c < length lost → (j : ℕ) × (c ≤ j) × (j < m) × (entry n e j (get_or lost c 0) ≢ 0)
  pivot c e t h = go (some m test) refl
    where
      a : ℕ
      a = get_or lost c 0

      test : ℕ → Bool
      test j = leb c j && not (eqb (entry n e j a) 0)

      go : (b : Bool) → some m test ≡ b → (j : ℕ) × (c ≤ j) × (j < m) × (entry n e j a ≢ 0)
      go true q =
          let j : ℕ = first m test in
          let y = first_is m test q in (
            j,
            leb-true c j (and_left (leb c j) (not (eqb (entry n e j a) 0)) y),
            first_lt m test (omega (arith, range.m_least_lem)),
            eqb-false (entry n e j a) 0 (not-true (eqb (entry n e j a) 0) (and_right (leb c j) (not (eqb (entry n e j a) 0)) y)),
          )
      go false q =
          let x : m < m =
          pivot_found k m c lost e range l t h m
          (record {
            from = omega (arith, l.few);
            most = omega arith;
            passed = λ i p s. zero_at i p s (eqb (entry n e i a) 0) refl;
            found = λ s. absurd (omega arith);
          }) in
          absurd (omega arith)
        where
          zero_at : (i : ℕ) → c ≤ i → i < m → (b : Bool) → eqb (entry n e i a) 0 ≡ b → entry n e i a ≡ 0
          zero_at i p s true y = eqb-true (entry n e i a) 0 y
          zero_at i p s false y = absurd (true≢false (sym (some_of m test i s (both (leb c i) (not (eqb (entry n e i a) 0)) (le-leb c i p) (ap not y))) ∙ q))

  -- solved for one shard more
  further : (c : ℕ) → c < length lost → (e : List ℕ) → SolvedTo k m c lost e → AllBytes e → (new : List ℕ) × SolvedTo k m (c + 1) lost new × AllBytes new
  further c h e t b = (
    e3,
    step_solved k m c lost l h q e1 e2 e3 t1 (bytes.mul_byte (bit_xor 1 x) (inverse_of x)) (b1 (c * n + a)) (quotient_times (bit_xor 1 x) x ne (bytes.add_byte 1 x (lit< tt) (b1 (c * n + a))) (b1 (c * n + a)))
        (scale m n c e1 t1.size hc q) b2 (turn m n c e2 s2 hc d),
    b3,
  )
    where
      a : ℕ
      a = get_or lost c 0

      hc : c < m
      hc = omega (arith, l.few)

      y : (j : ℕ) × (c ≤ j) × (j < m) × (entry n e j a ≢ 0)
      y = pivot c e t h

      j : ℕ
      j = y.0

      e1 : List ℕ
      e1 = table_of m n (λ i r. entry n e (swap c j i) r)

      w1 : Exchanged n c j e e1
      w1 = exchange m n c e t.size hc j y.2

      b1 : AllBytes e1
      b1 = table_bytes m n (λ i r. entry n e (swap c j i) r) (λ i r. b (swap c j i * n + r))

      t1 : SolvedTo k m c lost e1
      t1 = exchanged_solved k m c lost l h j e e1 t y.1 y.2 w1

      x : ℕ
      x = entry n e1 c a

      ne : x ≢ 0
      ne o = y.3 (sym (w1.first a (l.shards c h)) ∙ o)

      q : ℕ
      q = mul_of (bit_xor 1 x) (inverse_of x)

      e2 : List ℕ
      e2 = table_of m n (scaled m n c e1 t1.size hc q)

      s2 : length e2 ≡ m * n
      s2 = table_length m n (scaled m n c e1 t1.size hc q)

      b2 : AllBytes e2
      b2 = table_bytes m n (scaled m n c e1 t1.size hc q) (λ j r. scaled_byte m n c e1 t1.size hc b1 q j r)

      d : ℕ → ℕ
      d = clearing n c a e2

      e3 : List ℕ
      e3 = table_of m n (λ j r. bit_xor (entry n e2 j r) (mul_of (d j) (entry n e2 c r)))

      b3 : AllBytes e3
      b3 =
          table_bytes m n (λ j r. bit_xor (entry n e2 j r) (mul_of (d j) (entry n e2 c r)))
          (λ j r. bytes.add_byte (entry n e2 j r) (mul_of (d j) (entry n e2 c r)) (b2 (j * n + r)) (bytes.mul_byte (d j) (entry n e2 c r)))

  solved_to : (c : ℕ) → c ≤ length lost → (e : List ℕ) × SolvedTo k m c lost e × AllBytes e
  solved_to zero h =
      let f : ℕ → ℕ → ℕ = λ j r. column k m r j in
      (table_of m n f, solved_none k m lost (table_of m n f) (table_length m n f) (λ j hj r hr. table_at m n f j r hj hr), table_bytes m n f (λ j r. column_byte k m r j))
  solved_to (suc c) h =
      let e = solved_to c (omega arith) in
      let y = further c h e.0 e.1 e.2 in
      let s : c + 1 ≡ suc c = omega arith in
      (y.0, subst (λ (i : ℕ). SolvedTo k m i lost y.0) s y.1, y.2)

  -- A SOLVED TABLE there is, for every list of shards that a rebuild takes
  pub solved_table : (e : List ℕ) × SolvedFor k m lost e
  solved_table = let y = solved_to (length lost) (omega arith) in (y.0, solved_last k m (length lost) lost y.0 y.1 (omega arith))

-- ---- the stripe that a rebuild goes by

-- none passes
count_none : (p : ℕ → Bool) (n : ℕ) → ((i : ℕ) → i < n → p i ≡ false) → count p n ≡ 0
count_none p zero h = refl
count_none p (suc n) h = rw (h n (omega arith)) (omega (arith, count_none p n (λ i l. h i (omega arith))))

module _ (k m : ℕ) (range : InRange k m) (missing : List ℕ) (l : Lost k m missing) where
  -- the k least shards that are there, completed
  pub completed_least : (x : ℕ → ℕ) → Bytes x → (y : ℕ → ℕ) × Bytes y × Holds k m y × ((r : ℕ) → has (padded k m missing) r ≡ false → x r ≡ y r)
  completed_least x b = (
    completed (k + m) lost t.0 x (length lost),
    completed_bytes k m lost t.0 t.1 w.few w.shards x b (length lost),
    completed_holds k m lost t.0 t.1 w.few w.shards x b (padded_length k m missing l),
    λ r e. sym (completed_off k m lost t.0 t.1 w.few w.shards x b (length lost) (omega arith) r (ap (λ (s : List ℕ). has s r) (same_padding k m missing) ∙ e)),
  )
    where
      lost : List ℕ
      lost = code.padded k m missing

      w : Lost k m lost
      w = padded_lost k m missing l

      t : (e : List ℕ) × SolvedFor k m lost e
      t = solved_table k m range lost w

  -- a data shard that is there is one of these k
  pub data_least : (i : ℕ) → i < k → has missing i ≡ false → has (padded k m missing) i ≡ false
  data_least i hi e = ap (λ (s : List ℕ). has s i) (sym (same_padding k m missing)) ∙ go (has lost i) refl
    where
      lost : List ℕ
      lost = code.padded k m missing

      by : ℕ → Bool
      by r = not (has lost r)

      go : (b : Bool) → has lost i ≡ b → has lost i ≡ false
      go false q = q
      go true q =
          let rest : i + (k + m - i) ≡ k + m = omega arith in
          absurd
          (omega (
            arith,
            goes_by_k k m missing l,
            ap (count by) rest,
            count_split by i (k + m - i),
            count_not by i,
            count_none (λ r. by (i + r)) (k + m - i) (λ r h. none r h (has lost (i + r)) refl),
          ))
        where
          none : (r : ℕ) → r < k + m - i → (b : Bool) → has lost (i + r) ≡ b → not (has lost (i + r)) ≡ false
          none r h true s = ap not s
          none r h false s = absurd (omega (arith, least k m missing l (i + r) i (omega arith) s q e))
