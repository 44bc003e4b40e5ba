-- The elimination: what holds after c steps, and that a step leads on. Assumes nothing.
use Rattle.std.specs.Prelude.{◌≡◌, refl, Bool, cond, List, ◌≢◌, ℕ, ◌+◌, ◌*◌, ◌≤◌, ◌<◌, length, get_or}
use Rattle.std.proofs.Common.{sym, ap, ap₂, ◌∙◌, subst, ⊎_elim, arith, lit<, below_more, eq-eqb}
use Rattle.std.specs.Int.Bits.{bit_xor}
use Rattle.field.specs.Field.{mul_of}
use Rattle.field.proofs.Bytes.{bytes}
use Rattle.codeword.specs.Table.{unit, entry, Columns, Equivalent, SolvedFor}
use Rattle.codeword.specs.Unit.{unit_same, unit_other}
use Rattle.solve.specs.Rows.{Added, Exchanged, Turned, only, swap, by_swap, swap_row, cancel_first, same_or_not, turned_stays, turned_kept, added_turned, exchanged_each, exchanged_kept}
use Rattle.solve.specs.Lost.{Lost}
use Rattle.solve.specs.Own.{columns_same}

-- a table that is solved for the list's first c shards
pub record SolvedTo (k m c : ℕ) (lost e : List ℕ) : Type 0 where
  pub size : length e ≡ m * (k + m)
  pub same : Equivalent k m e
  pub units : (i : ℕ) → i < c → (j : ℕ) → j < m → entry (k + m) e j (get_or lost i 0) ≡ unit j i

-- the multiple of row c that makes row j's entry at column a that of row c's unit column
abbrev pub clearing : ℕ → ℕ → ℕ → List ℕ → ℕ → ℕ
clearing n c a e j = bit_xor (entry n e j a) (unit j c)

-- ---- before the first step, and after the last

pub solved_none : (k m : ℕ) (lost e : List ℕ) → length e ≡ m * (k + m) → Columns k m e → SolvedTo k m 0 lost e
solved_none k m lost e s w = record { size = s; same = columns_same k m e w; units = λ i h. absurd (omega arith) }

pub solved_last : (k m c : ℕ) (lost e : List ℕ) → SolvedTo k m c lost e → length lost ≤ c → SolvedFor k m lost e
solved_last k m c lost e t h = record { same = t.same; units = λ i l. t.units i (omega arith) }

-- ---- a step

-- row c plus (1 + x) / x times itself, for its entry x at column a, has 1 there
pub scaled_one : (n c a q : ℕ) (e new : List ℕ) → a < n → mul_of (entry n e c a) q ≡ bit_xor 1 (entry n e c a) → Added n c c q e new → entry n new c a ≡ 1
scaled_one n c a q e new l f w =
    w.row a l ∙ ap (bit_xor (entry n e c a)) (bytes.mul_comm q (entry n e c a) ∙ f) ∙ cancel_first (entry n e c a) 1

-- and is not lost
scaled_not_one : (x q : ℕ) → x < 256 → mul_of x q ≡ bit_xor 1 x → q ≢ 1
scaled_not_one x q b f z =
    let same : ◌≡◌ {A = ℕ} 0 1 =
    sym (bytes.add_self x) ∙ ap (bit_xor x) (sym (bytes.mul_one x b) ∙ ap (mul_of x) (sym z) ∙ f) ∙ cancel_first x 1 in
    omega arith

unit_byte : (j c : ℕ) → unit j c < 256
unit_byte j c =
    ⊎_elim (λ (q : j ≡ c). omega (arith, unit_same c, ap (λ (x : ℕ). unit x c) q)) (λ (q : j ≢ c). omega (arith, unit_other j c q)) (same_or_not j c)

module _ (k m c : ℕ) (lost : List ℕ) (s : Lost k m lost) (h : c < length lost) where
  -- rows from c on may change places: they are 0 at the columns that are solved
  pub exchanged_solved : (j : ℕ) (e new : List ℕ) → SolvedTo k m c lost e → c ≤ j → j < m → Exchanged (k + m) c j e new → SolvedTo k m c lost new
  exchanged_solved j e new t le l w =
      record {
        size = w.same ∙ t.size;
        same = exchanged_kept k m c j e new w (omega (arith, s.few)) l t.same;
        units =
            λ i q r p.
            exchanged_each (k + m) c j e new w r (get_or lost i 0) (s.shards i (omega arith))
            ∙ t.units i q (swap c j r) (swap_row m c j (omega (arith, s.few)) l r p)
            ∙ by_swap c j (λ r s. unit s i ≡ unit r i) (later i j q le ∙ sym (later i c q (omega arith)))
            (later i c q (omega arith) ∙ sym (later i j q le)) (λ r a b. refl) r;
      }
    where
      later : (i r : ℕ) → i < c → c ≤ r → unit r i ≡ 0
      later i r q p = unit_other r i (λ z. omega arith)

  -- row c may be added to any row
  turned_solved : (d : ℕ → ℕ) (e new : List ℕ) → SolvedTo k m c lost e → d c < 256 → d c ≢ 1 → Turned m (k + m) c d e new → SolvedTo k m c lost new
  turned_solved d e new t b ne w =
      record {
        size = w.same ∙ t.size;
        same = turned_kept k m c d e new w (omega (arith, s.few)) b ne t.same;
        units =
            λ i q r p.
            turned_stays m (k + m) c d e new w r (get_or lost i 0) p (s.shards i (omega arith))
            (t.units i q c (omega (arith, s.few)) ∙ unit_other c i (λ z. omega arith)) ∙ t.units i q r p;
      }

  scaled_solved : (q : ℕ) (e new : List ℕ) → SolvedTo k m c lost e → q < 256 → q ≢ 1 → Added (k + m) c c q e new → SolvedTo k m c lost new
  scaled_solved q e new t b ne w =
      turned_solved (only c q) e new t (subst (λ (x : ℕ). x < 256) (sym at_c) b) (λ z. ne (sym at_c ∙ z)) (added_turned m (k + m) c c q e new w)
    where
      at_c : only c q c ≡ q
      at_c = ap (λ (b : Bool). cond b q 0) (eq-eqb c c refl)

  -- once every other row is cleared at the column of the list's shard c, the table is solved for it too
  cleared_solved : (e new : List ℕ) → SolvedTo k m c lost e → ((p : ℕ) → get_or e p 0 < 256) → entry (k + m) e c (get_or lost c 0) ≡ 1
      → Turned m (k + m) c (clearing (k + m) c (get_or lost c 0) e) e new → SolvedTo k m (c + 1) lost new
  cleared_solved e new t b o w =
      let kept : SolvedTo k m c lost new =
      turned_solved (clearing (k + m) c (get_or lost c 0) e) e new t (subst (λ (x : ℕ). x < 256) (sym none_c) (lit< tt))
      (λ z. omega (arith, none_c)) w in
      record {
        size = kept.size;
        same = kept.same;
        units = below_more (λ i. (j : ℕ) → j < m → entry (k + m) new j (get_or lost i 0) ≡ unit j i) c kept.units last;
      }
    where
      none_c : clearing (k + m) c (get_or lost c 0) e c ≡ 0
      none_c = ap₂ bit_xor o (unit_same c)

      last : (j : ℕ) → j < m → entry (k + m) new j (get_or lost c 0) ≡ unit j c
      last j l =
          let x : ℕ = entry (k + m) e j (get_or lost c 0) in
          w.each j (get_or lost c 0) l (s.shards c h)
          ∙ ap (λ (y : ℕ). bit_xor x (mul_of (clearing (k + m) c (get_or lost c 0) e j) y)) o
          ∙ ap (bit_xor x)
          (bytes.mul_one (bit_xor x (unit j c)) (bytes.add_byte x (unit j c) (b (j * (k + m) + get_or lost c 0)) (unit_byte j c)) ∙ bytes.add_comm x (unit j c))
          ∙ cancel_first x (unit j c)

  pub step_solved : (q : ℕ) (e next new : List ℕ) → SolvedTo k m c lost e → q < 256 → entry (k + m) e c (get_or lost c 0) < 256
      → mul_of (entry (k + m) e c (get_or lost c 0)) q ≡ bit_xor 1 (entry (k + m) e c (get_or lost c 0)) → Added (k + m) c c q e next
      → ((p : ℕ) → get_or next p 0 < 256) → Turned m (k + m) c (clearing (k + m) c (get_or lost c 0) next) next new → SolvedTo k m (c + 1) lost new
  step_solved q e next new t b bx f w bn u =
      let a : ℕ = get_or lost c 0 in
      cleared_solved next new
      (scaled_solved q e next t b (scaled_not_one (entry (k + m) e c a) q bx f) w) bn
      (scaled_one (k + m) c a q e next (s.shards c h) f w) u
