-- The turns of the loops over a table: what is done, and what is left. Assumes nothing.
use Rattle.std.specs.Prelude.{◌≡◌, refl, Option, Some, None, MatchOption, unwrap_or, List, ◌≢◌, ℕ, zero, suc, ◌+◌, ◌-◌, ◌*◌, ◌/◌, ◌%◌, ◌≤◌, ◌<◌, length, get_or, set, Ok, Err}
use Rattle.std.proofs.Common.{sym, ap, ap₂, ◌∙◌, subst, ⊎_elim, eq-zero-or-pos, suc-mul, mul-le-mul_right, arith, length-set, get_or-set_same, get_or-set_other, below_more}
use Rattle.std.specs.Int.Bits.{bit_xor}
use Rattle.std.specs.List.{SwappedAt}
use Rattle.std.specs.Result.{result_unwrap_or}
use Rattle.std.proofs.Math.Arith.{digits_lt, digits_div, digits_mod}
use Rattle.field.specs.Field.{mul_of}
use Rattle.field.proofs.Bytes.{bytes}
use Rattle.field.specs.Quotient.{quotient_of, Quotient}
use Rattle.field.proofs.QuotientLaws.{quotient_times}
use Rattle.codeword.specs.Table.{unit, column, entry, Columns}
use Rattle.codeword.specs.Unit.{zero_times, unit_same, one_times}
use Rattle.solve.specs.Rows.{Added, Turned, Exchanged, same_row, same_column, cancel_first, cancel_last}
use Rattle.solve.specs.Solving.{clearing}
use Rattle.solve.specs.Pivot.{Pivot}

-- row j of m ends within the table
pub row_end : (m n j : ℕ) (e : List ℕ) → length e ≡ m * n → j < m → j * n + n ≤ length e
row_end m n j e s h =
    let l : suc j * n ≤ m * n = mul-le-mul_right n h in
    omega (arith, suc-mul j n)

pub entry_in : (m n j r : ℕ) (e : List ℕ) → length e ≡ m * n → j < m → r < n → j * n + r < length e
entry_in m n j r e s h l = subst (λ (x : ℕ). j * n + r < x) (sym s) (digits_lt h l)

-- ---- fill: the places below p have their entry

pub record Filling (k m p : ℕ) (e new : List ℕ) : Type 0 where
  pub same : length new ≡ length e
  pub done : (q : ℕ) → q < p → get_or new q 0 ≡ column k m (q % (k + m)) (q / (k + m))

pub filling_turn : (k m p v : ℕ) (e new : List ℕ) → Filling k m p e new → p < length new → v ≡ column k m (p % (k + m)) (p / (k + m))
    → Filling k m (p + 1) e (set new p v)
filling_turn k m p v e new f h w =
    record {
      same = length-set new p v ∙ f.same;
      done =
          below_more (λ q. get_or (set new p v) q 0 ≡ column k m (q % (k + m)) (q / (k + m))) p
          (λ q l. get_or-set_other new p q v 0 (omega arith) ∙ f.done q l) (get_or-set_same new p v 0 h ∙ w);
    }

pub filling_done : (k m p : ℕ) (e new : List ℕ) → Filling k m p e new → length new ≤ p → length e ≡ m * (k + m) → Columns k m new
filling_done k m p e new f h s j l r q =
    f.done (j * (k + m) + r) (omega (arith, f.same, entry_in m (k + m) j r e s l q))
    ∙ ap₂ (column k m) (digits_mod j q) (digits_div j q)

-- ---- add_row: the row's entries below i have the new value, all else the old one

pub record Adding (n dst src c i : ℕ) (e new : List ℕ) : Type 0 where
  pub most : i ≤ n
  pub same : length new ≡ length e
  pub done : (r : ℕ) → r < i → entry n new dst r ≡ bit_xor (entry n e dst r) (mul_of c (entry n e src r))
  pub left : (p : ℕ) → ((r : ℕ) → r < i → p ≢ dst * n + r) → get_or new p 0 ≡ get_or e p 0

module _ (n dst src c : ℕ) (e : List ℕ) where
  pub adding_none : c ≡ 0 → Added n dst src c e e
  adding_none z =
      record {
        same = refl;
        row =
            λ r l.
            sym (ap (λ (x : ℕ). bit_xor (entry n e dst r) (mul_of x (entry n e src r))) z
            ∙ ap (bit_xor (entry n e dst r)) (zero_times (entry n e src r)) ∙ bytes.add_zero (entry n e dst r));
        other = λ j r l ne. refl;
      }

  pub adding_first : Adding n dst src c 0 e e
  adding_first = record { most = omega arith; same = refl; done = λ r h. absurd (omega arith); left = λ p h. refl }

  pub adding_turn : (i v : ℕ) (new : List ℕ) → Adding n dst src c i e new → i < n → dst * n + n ≤ length e
      → v ≡ bit_xor (get_or new (dst * n + i) 0) (mul_of c (get_or new (src * n + i) 0))
      → Adding n dst src c (i + 1) e (set new (dst * n + i) v)
  adding_turn i v new b h fit w =
      record {
        most = omega arith;
        same = length-set new (dst * n + i) v ∙ b.same;
        done =
            below_more (λ r. entry n (set new (dst * n + i) v) dst r ≡ bit_xor (entry n e dst r) (mul_of c (entry n e src r))) i
            (λ r l. get_or-set_other new (dst * n + i) (dst * n + r) v 0 (λ q. omega arith) ∙ b.done r l)
            (get_or-set_same new (dst * n + i) v 0 (omega (arith, b.same)) ∙ w
            ∙ ap₂ (λ (x y : ℕ). bit_xor x (mul_of c y)) (b.left (dst * n + i) (λ r l q. omega arith))
            (b.left (src * n + i) (λ r l q. omega (arith, same_column n src i dst r h (omega arith) q))));
        left =
            λ p f. get_or-set_other new (dst * n + i) p v 0 (f i (omega arith)) ∙ b.left p (λ r l. f r (omega arith));
      }

  pub adding_done : (i : ℕ) (new : List ℕ) → Adding n dst src c i e new → n ≤ i → Added n dst src c e new
  adding_done i new b h =
      record {
        same = b.same;
        row = λ r l. b.done r (omega arith);
        other = λ j r l ne. b.left (j * n + r) (λ s q p. ne (same_row n j r dst s l (omega (arith, b.most)) p));
      }

-- ---- pivot: the first row whose entry is not 0

pub pivot_is : (n m c a : ℕ) (e : List ℕ) (r : Option ℕ) → c ≤ m
    → MatchOption r ((k : ℕ) → c ≤ k → k < m → entry n e k a ≡ 0) (λ j. (c ≤ j) × (j < m) × (entry n e j a ≢ 0) × ((k : ℕ) → c ≤ k → k < j → entry n e k a ≡ 0))
    → Pivot n m c a e (unwrap_or r m)
pivot_is n m c a e None h z = record { from = h; most = omega arith; passed = z; found = λ q. absurd (omega arith) }
pivot_is n m c a e (Some j) h z = record { from = z.0; most = omega arith; passed = z.3; found = λ q. z.2 }

-- ---- exchange: nothing, or the rows' entries below i have changed places, and all else has the old value

pub exchange_none : (n c j : ℕ) (e : List ℕ) → c ≡ j → Exchanged n c j e e
exchange_none n c j e h =
    record {
      same = refl;
      first = λ r l. ap (λ (i : ℕ). entry n e i r) h;
      second = λ r l. ap (λ (i : ℕ). entry n e i r) (sym h);
      other = λ i r l p q. refl;
    }

pub record Exchanging (n c j i : ℕ) (e new : List ℕ) : Type 0 where
  pub same : length new ≡ length e
  pub first : (r : ℕ) → r < i → entry n new c r ≡ entry n e j r
  pub second : (r : ℕ) → r < i → entry n new j r ≡ entry n e c r
  pub left : (p : ℕ) → ((r : ℕ) → r < i → (p ≢ c * n + r) × (p ≢ j * n + r)) → get_or new p 0 ≡ get_or e p 0

module _ (n c j : ℕ) (e : List ℕ) where
  pub exchanging_first : Exchanging n c j 0 e e
  exchanging_first = record { same = refl; first = λ r h. absurd (omega arith); second = λ r h. absurd (omega arith); left = λ p f. refl }

  pub exchanging_turn : (i : ℕ) (new next : List ℕ) → Exchanging n c j i e new → i < n → length next ≡ length new
      → SwappedAt new next (c * n + i) (j * n + i) → Exchanging n c j (i + 1) e next
  exchanging_turn i new next b h s w =
      record {
        same = s ∙ b.same;
        first =
            below_more (λ r. entry n next c r ≡ entry n e j r) i (λ r l. w.2 (c * n + r) 0 (apart c r c l) (apart c r j l) ∙ b.first r l)
            (w.0 0 ∙ b.left (j * n + i) (λ r l. (λ q. apart c r j l (sym q), λ q. apart j r j l (sym q))));
        second =
            below_more (λ r. entry n next j r ≡ entry n e c r) i (λ r l. w.2 (j * n + r) 0 (apart j r c l) (apart j r j l) ∙ b.second r l)
            (w.1 0 ∙ b.left (c * n + i) (λ r l. (λ q. apart c r c l (sym q), λ q. apart j r c l (sym q))));
        left = λ p f. w.2 p 0 (f i (omega arith)).0 (f i (omega arith)).1 ∙ b.left p (λ r l. f r (omega arith));
      }
    where
      -- an earlier column is another place
      apart : (x r y : ℕ) → r < i → x * n + r ≢ y * n + i
      apart x r y l q = omega (arith, same_column n x r y i (omega arith) h q)

  pub exchanging_done : (i : ℕ) (new : List ℕ) → Exchanging n c j i e new → i ≡ n → Exchanged n c j e new
  exchanging_done i new b h =
      record {
        same = b.same;
        first = λ r l. b.first r (omega arith);
        second = λ r l. b.second r (omega arith);
        other = λ x r l p q. b.left (x * n + r) (λ s t. (λ z. p (same_row n x r c s l (omega arith) z), λ z. q (same_row n x r j s l (omega arith) z)));
      }

-- ---- clear_column: the rows below J are cleared

pub record Clearing (n c a J : ℕ) (e new : List ℕ) : Type 0 where
  pub same : length new ≡ length e
  pub done : (j : ℕ) → j < J → (r : ℕ) → r < n → entry n new j r ≡ bit_xor (entry n e j r) (mul_of (clearing n c a e j) (entry n e c r))
  pub left : (j : ℕ) → J ≤ j → (r : ℕ) → r < n → entry n new j r ≡ entry n e j r

module _ (n c a : ℕ) (e : List ℕ) where
  pub clearing_first : Clearing n c a 0 e e
  clearing_first = record { same = refl; done = λ j h. absurd (omega arith); left = λ j h r l. refl }

  -- row c is not changed
  clearing_row : (J : ℕ) (new : List ℕ) → Clearing n c a J e new → entry n e c a ≡ 1 → (r : ℕ) → r < n → entry n new c r ≡ entry n e c r
  clearing_row J new b o r l =
      ⊎_elim (λ (z : J - c ≡ 0). b.left c (omega arith) r l)
      (λ (p : 0 < J - c). b.done c (omega arith) r l
      ∙ ap₂ (λ (u v : ℕ). bit_xor (entry n e c r) (mul_of (bit_xor u v) (entry n e c r))) o (unit_same c)
      ∙ ap (bit_xor (entry n e c r)) (zero_times (entry n e c r)) ∙ bytes.add_zero (entry n e c r)) (eq-zero-or-pos (J - c))

  pub clearing_turn : (J v : ℕ) (new next : List ℕ) → Clearing n c a J e new → a < n → entry n e c a ≡ 1
      → v ≡ bit_xor (entry n new J a) (unit J c) → Added n J c v new next → Clearing n c a (J + 1) e next
  clearing_turn J v new next b h o w t =
      record {
        same = t.same ∙ b.same;
        done =
            below_more (λ j. (r : ℕ) → r < n → entry n next j r ≡ bit_xor (entry n e j r) (mul_of (clearing n c a e j) (entry n e c r))) J
            (λ j q r l. t.other j r l (λ p. omega arith) ∙ b.done j q r l)
            (λ r l. t.row r l
            ∙ ap₂ (λ (x y : ℕ). bit_xor (entry n new J r) (mul_of x y)) (w ∙ ap (λ (x : ℕ). bit_xor x (unit J c)) (b.left J (omega arith) a h))
            (clearing_row J new b o r l) ∙ ap (λ (x : ℕ). bit_xor x (mul_of (clearing n c a e J) (entry n e c r))) (b.left J (omega arith) r l));
        left = λ j q r l. t.other j r l (λ p. omega arith) ∙ b.left j (omega arith) r l;
      }

  pub clearing_done : (m J : ℕ) (new : List ℕ) → Clearing n c a J e new → m ≤ J → Turned m n c (clearing n c a e) e new
  clearing_done m J new b h = record { same = b.same; each = λ j r q l. b.done j (omega arith) r l }

-- ---- quotient

pub quotient_value : (a b : ℕ) → b ≢ 0 → a < 256 → b < 256 → mul_of b (result_unwrap_or (quotient_of a b) 0) ≡ a
quotient_value a zero n ha hb = absurd (n refl)
quotient_value a (suc b) n ha hb = quotient_times a (suc b) n ha hb

-- ---- an exchange by three sums, and the value of a quotient

pub exchange_done : (n c j : ℕ) (e₀ e₁ e₂ e₃ : List ℕ) → c ≢ j → ((p : ℕ) → get_or e₀ p 0 < 256) → ((p : ℕ) → get_or e₁ p 0 < 256)
    → Added n c j 1 e₀ e₁ → Added n j c 1 e₁ e₂ → Added n c j 1 e₂ e₃ → Exchanged n c j e₀ e₃
exchange_done n c j e₀ e₁ e₂ e₃ ne b₀ b₁ x y z =
    record {
      same = z.same ∙ y.same ∙ x.same;
      first = λ r l. at_c₃ r l;
      second = λ r l. z.other j r l (λ q. ne (sym q)) ∙ at_j₂ r l;
      other = λ i r l p q. z.other i r l p ∙ y.other i r l q ∙ x.other i r l p;
    }
  where
    at_c₁ : (r : ℕ) → r < n → entry n e₁ c r ≡ bit_xor (entry n e₀ c r) (entry n e₀ j r)
    at_c₁ r l = x.row r l ∙ ap (bit_xor (entry n e₀ c r)) (one_times (entry n e₀ j r) (b₀ (j * n + r)))

    at_j₂ : (r : ℕ) → r < n → entry n e₂ j r ≡ entry n e₀ c r
    at_j₂ r l =
        y.row r l ∙ ap₂ bit_xor (x.other j r l (λ q. ne (sym q))) (one_times (entry n e₁ c r) (b₁ (c * n + r)) ∙ at_c₁ r l)
        ∙ cancel_first (entry n e₀ j r) (entry n e₀ c r)

    at_c₃ : (r : ℕ) → r < n → entry n e₃ c r ≡ entry n e₀ j r
    at_c₃ r l =
        z.row r l
        ∙ ap₂ (λ (u v : ℕ). bit_xor u (mul_of 1 v)) (y.other c r l ne ∙ at_c₁ r l) (at_j₂ r l)
        ∙ ap (bit_xor (bit_xor (entry n e₀ c r) (entry n e₀ j r))) (one_times (entry n e₀ c r) (b₀ (c * n + r)))
        ∙ cancel_last (entry n e₀ c r) (entry n e₀ j r)

abbrev pub value_of : Quotient → ℕ
value_of (Ok q) = q
value_of (Err x) = 0

pub value_times : (a b : ℕ) → b ≢ 0 → a < 256 → b < 256 → mul_of b (value_of (quotient_of a b)) ≡ a
value_times a zero n ha hb = absurd (n refl)
value_times a (suc b) n ha hb = quotient_times a (suc b) n ha hb
