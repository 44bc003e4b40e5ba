-- Row operations on tables of n columns, row after row in a list: what they change, and that a table keeps saying the same.
-- Assumes nothing.
use Rattle.std.specs.Prelude.{◌≡◌, refl, Bool, true, false, cond, List, [], ◌∷◌, ◌≢◌, ◌⊎◌, ℕ, ◌+◌, ◌*◌, ◌/◌, ◌%◌, ◌<◌, eqb, length}
use Rattle.std.proofs.Common.{sym, ap, ap₂, ◌∙◌, subst, inl, inr, ⊎_elim, lit<, eqb-true, eq-eqb, ne_eqb}
use Rattle.std.specs.Int.Bits.{bit_xor}
use Rattle.std.proofs.Math.Arith.{digits_div, digits_mod}
use Rattle.std.proofs.lemmas.Bool.{eqb-false}
use Rattle.algebra.specs.Ring.{◌⊕◌, ◌⊗◌}
use Rattle.algebra.specs.Field.{X, Y, Z, P}
use Rattle.field.specs.Field.{mul_of}
use Rattle.field.proofs.Bytes.{bytes}
use Rattle.field.proofs.Solve.{solve}
use Rattle.codeword.specs.Sum.{total_ext, total_byte, total_add, total_mul}
use Rattle.codeword.specs.Table.{entry, row_sum, AllZero, Equivalent}
use Rattle.codeword.specs.Unit.{zero_times, sum_zero}

-- ---- what is meant

-- c times row src is added to row dst
pub record Added (n dst src c : ℕ) (e new : List ℕ) : Type 0 where
  pub same : length new ≡ length e
  pub row : (r : ℕ) → r < n → entry n new dst r ≡ bit_xor (entry n e dst r) (mul_of c (entry n e src r))
  pub other : (j r : ℕ) → r < n → j ≢ dst → entry n new j r ≡ entry n e j r

-- rows c and j change places
pub record Exchanged (n c j : ℕ) (e new : List ℕ) : Type 0 where
  pub same : length new ≡ length e
  pub first : (r : ℕ) → r < n → entry n new c r ≡ entry n e j r
  pub second : (r : ℕ) → r < n → entry n new j r ≡ entry n e c r
  pub other : (i r : ℕ) → r < n → i ≢ c → i ≢ j → entry n new i r ≡ entry n e i r

-- d j times row s is added to each row j
pub record Turned (m n s : ℕ) (d : ℕ → ℕ) (e new : List ℕ) : Type 0 where
  pub same : length new ≡ length e
  pub each : (j r : ℕ) → j < m → r < n → entry n new j r ≡ bit_xor (entry n e j r) (mul_of (d j) (entry n e s r))

-- ---- small facts

pub cancel_first : (a b : ℕ) → bit_xor a (bit_xor b a) ≡ b
cancel_first a b = solve (a ∷ b ∷ []) (X ⊕ (Y ⊕ X)) Y tt

pub cancel_last : (a b : ℕ) → bit_xor (bit_xor a b) a ≡ b
cancel_last a b = solve (a ∷ b ∷ []) ((X ⊕ Y) ⊕ X) Y tt

pub same_or_not : (i j : ℕ) → (i ≡ j) ⊎ (i ≢ j)
same_or_not i j = go (eqb i j) refl
  where
    go : (b : Bool) → eqb i j ≡ b → (i ≡ j) ⊎ (i ≢ j)
    go true h = inl (eqb-true i j h)
    go false h = inr (eqb-false i j h)

-- a place of the list is one place of the table
pub same_row : (n j r i s : ℕ) → r < n → s < n → j * n + r ≡ i * n + s → j ≡ i
same_row n j r i s hr hs h = sym (digits_div j hr) ∙ ap (λ (p : ℕ). p / n) h ∙ digits_div i hs

pub same_column : (n j r i s : ℕ) → r < n → s < n → j * n + r ≡ i * n + s → r ≡ s
same_column n j r i s hr hs h = sym (digits_mod j hr) ∙ ap (λ (p : ℕ). p % n) h ∙ digits_mod i hs

-- ---- d j times row s to each row j

module _ (m n s : ℕ) (d : ℕ → ℕ) (e new : List ℕ) (t : Turned m n s d e new) where
  pub turned_sum : (x : ℕ → ℕ) (j : ℕ) → j < m → row_sum n new j x ≡ bit_xor (row_sum n e j x) (mul_of (d j) (row_sum n e s x))
  turned_sum x j h =
      total_ext n (λ r. mul_of (entry n new j r) (x r)) (λ r. bit_xor (mul_of (entry n e j r) (x r)) (mul_of (d j) (mul_of (entry n e s r) (x r))))
      (λ r l. ap (λ (v : ℕ). mul_of v (x r)) (t.each j r h l)
      ∙ solve (entry n e j r ∷ d j ∷ entry n e s r ∷ x r ∷ []) ((X ⊕ Y ⊗ Z) ⊗ P) (X ⊗ P ⊕ Y ⊗ (Z ⊗ P)) tt)
      ∙ total_add n (λ r. mul_of (entry n e j r) (x r)) (λ r. mul_of (d j) (mul_of (entry n e s r) (x r)))
      ∙ ap (bit_xor (row_sum n e j x)) (total_mul n (d j) (λ r. mul_of (entry n e s r) (x r)))

  -- a column that is 0 in row s stays
  pub turned_stays : (j r : ℕ) → j < m → r < n → entry n e s r ≡ 0 → entry n new j r ≡ entry n e j r
  turned_stays j r h l z =
      t.each j r h l ∙ ap (λ (v : ℕ). bit_xor (entry n e j r) (mul_of (d j) v)) z
      ∙ ap (bit_xor (entry n e j r)) (bytes.mul_zero (d j)) ∙ bytes.add_zero (entry n e j r)

  pub turned_forth : (x : ℕ → ℕ) → s < m → AllZero m n e x → AllZero m n new x
  turned_forth x h z j l =
      turned_sum x j l ∙ ap₂ (λ (u v : ℕ). bit_xor u (mul_of (d j) v)) (z j l) (z s h) ∙ bytes.mul_zero (d j)

  -- where row s itself does not become 0
  pub turned_back : (x : ℕ → ℕ) → s < m → d s < 256 → d s ≢ 1 → AllZero m n new x → AllZero m n e x
  turned_back x h b ne z j l =
      sum_zero (row_sum n e j x) 0
      (ap (bit_xor (row_sum n e j x)) (sym (bytes.mul_zero (d j)) ∙ ap (mul_of (d j)) (sym row_s)) ∙ sym (turned_sum x j l) ∙ z j l)
    where
      small : row_sum n e s x < 256
      small = total_byte n (λ r. mul_of (entry n e s r) (x r)) (λ r q. bytes.mul_byte (entry n e s r) (x r))

      product : mul_of (bit_xor 1 (d s)) (row_sum n e s x) ≡ 0
      product =
          bytes.mul_comm (bit_xor 1 (d s)) (row_sum n e s x) ∙ bytes.mul_add (row_sum n e s x) 1 (d s)
          ∙ ap₂ bit_xor (bytes.mul_one (row_sum n e s x) small) (bytes.mul_comm (row_sum n e s x) (d s))
          ∙ sym (turned_sum x s h) ∙ z s h

      row_s : row_sum n e s x ≡ 0
      row_s =
          ⊎_elim (λ q. absurd (ne (sym (sum_zero 1 (d s) q)))) (λ q. q)
          (bytes.no_divisors (bit_xor 1 (d s)) (row_sum n e s x) (bytes.add_byte 1 (d s) (lit< tt) b) small product)

pub turned_kept : (k m s : ℕ) (d : ℕ → ℕ) (e new : List ℕ) → Turned m (k + m) s d e new → s < m → d s < 256 → d s ≢ 1
    → Equivalent k m e → Equivalent k m new
turned_kept k m s d e new t h b ne q =
    record {
      forth = λ x hx z. turned_forth m (k + m) s d e new t x h (q.forth x hx z);
      back = λ x hx z. q.back x hx (turned_back m (k + m) s d e new t x h b ne z);
    }

-- c at dst, and 0 elsewhere
abbrev pub only : ℕ → ℕ → ℕ → ℕ
only dst c j = cond (eqb j dst) c 0

pub added_turned : (m n dst src c : ℕ) (e new : List ℕ) → Added n dst src c e new → Turned m n src (only dst c) e new
added_turned m n dst src c e new a = record { same = a.same; each = λ j r h l. go j r l (same_or_not j dst) }
  where
    go : (j r : ℕ) → r < n → (j ≡ dst) ⊎ (j ≢ dst) → entry n new j r ≡ bit_xor (entry n e j r) (mul_of (only dst c j) (entry n e src r))
    go j r l (inl q) =
        ap (λ (i : ℕ). entry n new i r) q ∙ a.row r l
        ∙ ap₂ (λ (i : ℕ) (b : Bool). bit_xor (entry n e i r) (mul_of (cond b c 0) (entry n e src r))) (sym q) (sym (eq-eqb j dst q))
    go j r l (inr q) =
        a.other j r l q ∙ sym (bytes.add_zero (entry n e j r))
        ∙ ap (bit_xor (entry n e j r)) (sym (zero_times (entry n e src r)))
        ∙ ap (λ (b : Bool). bit_xor (entry n e j r) (mul_of (cond b c 0) (entry n e src r))) (sym (ne_eqb j dst q))

-- ---- rows change places

-- the row that comes to be row i where c and j change places
abbrev pub swap : ℕ → ℕ → ℕ → ℕ
swap c j i = cond (eqb i c) j (cond (eqb i j) c i)

-- what holds of c and j, of j and c, and of any other row and itself, holds of any row and the one that comes there
pub by_swap : (c j : ℕ) (P : ℕ → ℕ → Type 0) → P c j → P j c → ((i : ℕ) → i ≢ c → i ≢ j → P i i) → (i : ℕ) → P i (swap c j i)
by_swap c j P p q f i = go (same_or_not i c) (same_or_not i j)
  where
    go : (i ≡ c) ⊎ (i ≢ c) → (i ≡ j) ⊎ (i ≢ j) → P i (swap c j i)
    go (inl a) b = subst (λ (t : Bool). P i (cond t j (cond (eqb i j) c i))) (sym (eq-eqb i c a)) (subst (λ (i : ℕ). P i j) (sym a) p)
    go (inr a) (inl b) =
        subst (λ (t : Bool). P i (cond t j (cond (eqb i j) c i))) (sym (ne_eqb i c a))
        (subst (λ (t : Bool). P i (cond t c i)) (sym (eq-eqb i j b)) (subst (λ (i : ℕ). P i c) (sym b) q))
    go (inr a) (inr b) =
        subst (λ (t : Bool). P i (cond t j (cond (eqb i j) c i))) (sym (ne_eqb i c a))
        (subst (λ (t : Bool). P i (cond t c i)) (sym (ne_eqb i j b)) (f i a b))

pub swap_row : (m c j : ℕ) → c < m → j < m → (i : ℕ) → i < m → swap c j i < m
swap_row m c j hc hj = by_swap c j (λ i s. i < m → s < m) (λ l. hj) (λ l. hc) (λ i p q l. l)

pub exchanged_each : (n c j : ℕ) (e new : List ℕ) → Exchanged n c j e new → (i r : ℕ) → r < n → entry n new i r ≡ entry n e (swap c j i) r
exchanged_each n c j e new w i =
    by_swap c j (λ i s. (r : ℕ) → r < n → entry n new i r ≡ entry n e s r) w.first w.second (λ i p q r l. w.other i r l p q) i

exchanged_forth : (m n c j : ℕ) (e new : List ℕ) → Exchanged n c j e new → c < m → j < m
    → (x : ℕ → ℕ) → AllZero m n e x → AllZero m n new x
exchanged_forth m n c j e new w hc hj x z i l =
    total_ext n (λ r. mul_of (entry n new i r) (x r)) (λ r. mul_of (entry n e (swap c j i) r) (x r))
    (λ r q. ap (λ (v : ℕ). mul_of v (x r)) (exchanged_each n c j e new w i r q)) ∙ z (swap c j i) (swap_row m c j hc hj i l)

exchanged_sym : (n c j : ℕ) (e new : List ℕ) → Exchanged n c j e new → Exchanged n c j new e
exchanged_sym n c j e new w =
    record {
      same = sym w.same;
      first = λ r h. sym (w.second r h);
      second = λ r h. sym (w.first r h);
      other = λ i r h p q. sym (w.other i r h p q);
    }

pub exchanged_kept : (k m c j : ℕ) (e new : List ℕ) → Exchanged (k + m) c j e new → c < m → j < m → Equivalent k m e → Equivalent k m new
exchanged_kept k m c j e new w hc hj q =
    record {
      forth = λ x hx z. exchanged_forth m (k + m) c j e new w hc hj x (q.forth x hx z);
      back = λ x hx z. q.back x hx (exchanged_forth m (k + m) c j new e (exchanged_sym (k + m) c j e new w) hc hj x z);
    }
