-- Laws of the steps. Assumes nothing.
use Rattle.std.specs.Prelude.{◌≡◌, refl, Bool, true, false, cond, List, [], ◌∷◌, ◌++◌, ◌≢◌, ◌⊎◌, ℕ, zero, suc, ◌+◌, ◌-◌, ◌*◌, ◌/◌, ◌%◌, ◌^◌, ◌≤◌, ◌<◌, eqb, length, get_or, set, not}
use Rattle.std.proofs.Math.Path.{sym, ap}
use Rattle.std.proofs.Common.{ap₂, ◌∙◌, subst, eqb→eq, pow-suc, pow_pos, inl, inr, ⊎_elim, add-one, eq-eqb, ne_eqb, eq-zero-or-pos, arith, lit<, length-set, get_or-set_same, get_or-set_other, lt-ltb, le-ltb, add_assoc}
use Rattle.std.proofs.Math.Nat.{div-div-eq-div-mul, div-le_self}
use Rattle.std.proofs.lemmas.Bool.{cases_lt}
use Rattle.std.proofs.lemmas.List.{length-append, get_or_append_left}
use Rattle.std.proofs.Math.Seq.{get_or-append_seam}
use Rattle.std.proofs.lemmas.List.FromFn.{length-range_with_len, get_or-range_with_len}
use Rattle.std.specs.Int.{div_ceil}
use Rattle.std.proofs.lemmas.Grind.{div_ceil_times}
use Rattle.std.specs.Bool.{MatchBool}
use Rattle.std.specs.List.{AllWithin, HoldsAt, range_with_len}
use Rattle.std.specs.Int.Bits.{bit_xor, bit_or, or_zero_l}
use Rattle.std.proofs.lemmas.Nat.{xor_comm, le_or_l, le_or_r}
use Rattle.algebra.specs.Ring.{◌⊗◌}
use Rattle.algebra.specs.Field.{X, Y, Z}
use Rattle.bits.specs.Below.{at as below}
use Rattle.field.specs.Field.{mul_of, g, pick}
use Rattle.field.proofs.Bytes.{bytes}
use Rattle.field.proofs.Solve.{solve}
use Rattle.field.specs.Turns.{pick_pos}
use Rattle.codeword.specs.Sum.{total, total_ext, total_zero, total_add, total_mul}
use Rattle.codeword.specs.Stripe.{Bytes, byte_at}
use Rattle.kernel.specs.Kernel.{weight, Replaced, row_at, RowZero}
use Rattle.kernel.specs.KernelTurns.{peel, zero_times, weight_other, weighed, lt_or_ge}
use Rattle.kernel.specs.Steps.{columns, step_of, made_by, Are, Pushed, chosen, Plan, start_of, Zeros, BlockZero}

-- ---- one step

step_shard : (n : ℕ) (x : ℕ → ℕ) (y s : ℕ) → s < n → step_of n x y s ≡ bit_xor y (x s)
step_shard n x y s h = ap (λ (b : Bool). cond b (bit_xor y (x s)) (mul_of g y)) (lt-ltb s n h)

step_double : (n : ℕ) (x : ℕ → ℕ) (y s : ℕ) → n ≤ s → step_of n x y s ≡ mul_of g y
step_double n x y s h = ap (λ (b : Bool). cond b (bit_xor y (x s)) (mul_of g y)) (le-ltb s n h)

-- the steps before a place don't change with the step at it
made_set : (n : ℕ) (s : List ℕ) (x : ℕ → ℕ) (m v i : ℕ) → i ≤ m → made_by n (set s m v) x i ≡ made_by n s x i
unfolding made_by
made_set n s x m v zero h = refl
made_set n s x m v (suc i) h = ap₂ (step_of n x) (made_set n s x m v i (omega arith)) (get_or-set_other s m i v 0 (omega arith))

made_push : (n : ℕ) (s : List ℕ) (x : ℕ → ℕ) (m v : ℕ) → m < length s → made_by n (set s m v) x (m + 1) ≡ step_of n x (made_by n s x m) v
unfolding made_by
made_push n s x m v h =
    ap (made_by n (set s m v) x) (add-one m) ∙ ap₂ (step_of n x) (made_set n s x m v m (omega arith)) (get_or-set_same s m v 0 h)

-- ---- steps put behind others

pub double_stays : (n m : ℕ) (s : List ℕ) → m ≡ 0 → Pushed n m m 1 s s (λ x y. mul_of g y)
unfolding made_by
double_stays n m s e =
    record {
      same = refl;
      few = omega arith;
      makes = λ x. ap (made_by n s x) e ∙ sym (ap (λ (k : ℕ). mul_of g (made_by n s x k)) e ∙ bytes.mul_zero g);
    }

pub double_one : (n m v : ℕ) (s : List ℕ) → m < length s → n ≤ v → Pushed n m (m + 1) 1 s (set s m v) (λ x y. mul_of g y)
double_one n m v s h l =
    record {
      same = length-set s m v;
      few = omega arith;
      makes = λ x. made_push n s x m v h ∙ step_double n x (made_by n s x m) v l;
    }

pub shard_none : (n m r bit : ℕ) (s : List ℕ) → bit ≡ 0 → Pushed n m m 1 s s (λ x y. bit_xor y (pick bit (x r)))
shard_none n m r bit s e =
    record {
      same = refl;
      few = omega arith;
      makes = λ x. sym (ap (λ (b : ℕ). bit_xor (made_by n s x m) (pick b (x r))) e ∙ bytes.add_zero (made_by n s x m));
    }

pub shard_one : (n m r bit : ℕ) (s : List ℕ) → m < length s → r < n → bit ≢ 0
    → Pushed n m (m + 1) 1 s (set s m r) (λ x y. bit_xor y (pick bit (x r)))
shard_one n m r bit s h l b =
    record {
      same = length-set s m r;
      few = omega arith;
      makes = λ x. made_push n s x m r h ∙ step_shard n x (made_by n s x m) r l ∙ ap (bit_xor (made_by n s x m)) (pick_pos bit (x r) b);
    }

module _ (n : ℕ) (table : List ℕ) (at a bit : ℕ) where
  pub shards_none : (m : ℕ) (s : List ℕ) → Pushed n m m 0 s s (λ x y. bit_xor y (chosen 0 table at a bit x))
  unfolding total
  shards_none m s = record { same = refl; few = omega arith; makes = λ x. sym (bytes.add_zero (made_by n s x m)) }

  pub shards_turn : (m k l r b : ℕ) (s t u : List ℕ) → b ≡ weight table at a r / bit % 2
      → Pushed n m k r s t (λ x y. bit_xor y (chosen r table at a bit x)) → Pushed n k l 1 t u (λ x y. bit_xor y (pick b (x r)))
      → Pushed n m l (r + 1) s u (λ x y. bit_xor y (chosen (r + 1) table at a bit x))
  unfolding total
  shards_turn m k l r b s t u e p q =
      record {
        same = q.same ∙ p.same;
        few = omega (arith, p.few, q.few);
        makes = λ x.
            q.makes x ∙ ap (λ (y : ℕ). bit_xor y (pick b (x r))) (p.makes x)
            ∙ bytes.add_assoc (made_by n s x m) (chosen r table at a bit x) (pick b (x r))
            ∙ ap (bit_xor (made_by n s x m))
            (ap (λ (y : ℕ). bit_xor (chosen r table at a bit x) (pick y (x r))) e
            ∙ ap (λ (i : ℕ). chosen i table at a bit x) (sym (add-one r)));
      }

  pub bit_done : (m k l : ℕ) (s t u : List ℕ) → n ≤ 64 → Pushed n m k 1 s t (λ x y. mul_of g y)
      → Pushed n k l n t u (λ x y. bit_xor y (chosen n table at a bit x))
      → Pushed n m l 65 s u (λ x y. bit_xor (mul_of g y) (chosen n table at a bit x))
  bit_done m k l s t u h p q =
      record {
        same = q.same ∙ p.same;
        few = omega (arith, p.few, q.few);
        makes = λ x. q.makes x ∙ ap (λ (y : ℕ). bit_xor y (chosen n table at a bit x)) (p.makes x);
      }

-- ---- the whole row: the bits above a place are done

-- the lowest bit of y at the end
bit_up : (x y : ℕ) → x < 256 → y < 256 → mul_of y x ≡ bit_xor (mul_of g (mul_of (y / 2) x)) (pick (y % 2) x)
bit_up x y hx hy =
    bytes.mul_comm y x ∙ peel x (mul_of g x) y hx hy refl ∙ xor_comm (pick (y % 2) x) (mul_of (mul_of g x) (y / 2))
    ∙ ap (λ (u : ℕ). bit_xor u (pick (y % 2) x)) (solve (g ∷ x ∷ (y / 2) ∷ []) ((X ⊗ Y) ⊗ Z) (X ⊗ (Z ⊗ Y)) tt)

-- the bits of a byte, the highest first
abbrev pub bits : List ℕ
bits = 128 ∷ 64 ∷ 32 ∷ 16 ∷ 8 ∷ 4 ∷ 2 ∷ 1 ∷ []

bit_is : (i : ℕ) → i < 8 → get_or bits i 0 ≡ 2 ^ (8 - (i + 1))
bit_is i h = eqb→eq (get_or bits i 0) (2 ^ (8 - (i + 1))) (below 8 (λ i. eqb (get_or bits i 0) (2 ^ (8 - (i + 1)))) tt i h)

pub bit_pos : (i : ℕ) → i < 8 → 0 < get_or bits i 0
bit_pos i h = subst (λ (x : ℕ). 0 < x) (sym (bit_is i h)) (pow_pos (8 - (i + 1)))

-- the first m steps make the sum of the row's coefficients divided by d
abbrev pub Above : ℕ → List ℕ → ℕ → ℕ → ℕ → List ℕ → ℕ → Type 0
Above n table at a d steps m = (x : ℕ → ℕ) → Bytes x → made_by n steps x m ≡ total n (λ r. mul_of (weight table at a r / d) (x r))

module _ (n : ℕ) (table : List ℕ) (at a : ℕ) (small : (i : ℕ) → get_or table i 0 < 256) where
  weight_byte : (r : ℕ) → weight table at a r < 256
  weight_byte r = go (eqb r a)
    where
      go : (b : Bool) → cond b 0 (get_or table (at + r) 0) < 256
      go true = lit< tt
      go false = small (at + r)

  pub above_none : (s : List ℕ) → Above n table at a 256 s 0
  unfolding made_by
  above_none s x hx =
      sym (total_zero n (λ r. mul_of (weight table at a r / 256) (x r))
      (λ r l. zero_times (weight table at a r / 256) (x r) (omega (arith, weight_byte r))))

  pub above_turn : (d e m k : ℕ) (s t : List ℕ) → ((w : ℕ) → w / e / 2 ≡ w / d) → ((w : ℕ) → w < 256 → w / e < 256)
      → Above n table at a d s m → Pushed n m k 65 s t (λ x y. bit_xor (mul_of g y) (chosen n table at a e x)) → Above n table at a e t k
  above_turn d e m k s t half less u p x hx =
      p.makes x
      ∙ ap (λ (y : ℕ). bit_xor y (chosen n table at a e x)) (ap (mul_of g) (u x hx) ∙ sym (total_mul n g (λ r. mul_of (weight table at a r / d) (x r))))
      ∙ sym (total_add n (λ r. mul_of g (mul_of (weight table at a r / d) (x r))) (λ r. pick (weight table at a r / e % 2) (x r)))
      ∙ total_ext n (λ r. bit_xor (mul_of g (mul_of (weight table at a r / d) (x r))) (pick (weight table at a r / e % 2) (x r)))
      (λ r. mul_of (weight table at a r / e) (x r))
      (λ r l. sym (bit_up (x r) (weight table at a r / e) (hx r) (less (weight table at a r) (weight_byte r))
      ∙ ap (λ (v : ℕ). bit_xor (mul_of g (mul_of v (x r))) (pick (weight table at a r / e % 2) (x r))) (half (weight table at a r))))

  -- the next bit's double and shards
  pub above_bit : (i m k l : ℕ) (s t u : List ℕ) → i < 8 → n ≤ 64 → Above n table at a (2 ^ (8 - i)) s m
      → Pushed n m k 1 s t (λ x y. mul_of g y)
      → Pushed n k l n t u (λ x y. bit_xor y (chosen n table at a (get_or bits i 0) x))
      → Above n table at a (2 ^ (8 - (i + 1))) u l
  above_bit i m k l s t u h few v p q =
      above_turn (2 ^ (8 - i)) (2 ^ (8 - (i + 1))) m l s u half less v
      (subst (λ (b : ℕ). Pushed n m l 65 s u (λ x y. bit_xor (mul_of g y) (chosen n table at a b x))) (bit_is i h)
      (bit_done n table at a (get_or bits i 0) m k l s t u few p q))
    where
      next : suc (8 - (i + 1)) ≡ 8 - i
      next = omega arith

      half : (w : ℕ) → w / 2 ^ (8 - (i + 1)) / 2 ≡ w / 2 ^ (8 - i)
      half w =
          div-div-eq-div-mul w (2 ^ (8 - (i + 1))) 2
          ∙ ap (λ (z : ℕ). w / z) (sym (pow-suc 2 (8 - (i + 1))) ∙ ap (λ (z : ℕ). 2 ^ z) next)

      less : (w : ℕ) → w < 256 → w / 2 ^ (8 - (i + 1)) < 256
      less w l = omega (arith, div-le_self w (2 ^ (8 - (i + 1))))

  pub above_done : (s : List ℕ) (m : ℕ) → Above n table at a 1 s m → Plan n table at a s m
  above_done s m u x hx =
      u x hx ∙ total_ext n (λ r. mul_of (weight table at a r / 1) (x r)) (λ r. mul_of (weight table at a r) (x r))
      (λ r l. let e : weight table at a r / 1 ≡ weight table at a r = omega arith in ap (λ (v : ℕ). mul_of v (x r)) e)

-- ---- a block

pub block_turn : (n i s : ℕ) (steps y z : List ℕ) (x : ℕ → ℕ → ℕ) → s ≡ get_or steps i 0 → Are y (λ j. made_by n steps (x j) i)
    → Are z (λ j. step_of n (x j) (get_or y j 0) s) → Are z (λ j. made_by n steps (x j) (i + 1))
unfolding made_by
block_turn n i s steps y z x e u q j l =
    q j l ∙ ap₂ (step_of n (x j)) (u j l) e ∙ ap (made_by n steps (x j)) (sym (add-one i))

-- ---- block after block

-- the part at `at` is right below p
pub record Filled (at p len : ℕ) (f : ℕ → ℕ) (b e : List ℕ) : Type 0 where
  pub same : length e ≡ length b
  pub inside : (i : ℕ) → i < p → get_or e (at + i) 0 ≡ f i
  pub before : (i : ℕ) → i < at → get_or e i 0 ≡ get_or b i 0
  pub after : (i : ℕ) → at + len ≤ i → get_or e i 0 ≡ get_or b i 0

module _ (at len : ℕ) (f : ℕ → ℕ) (b : List ℕ) where
  pub filled_turn : (p q : ℕ) (h : ℕ → ℕ) (d e : List ℕ) → q ≤ p → q + columns ≤ len → Replaced (at + q) columns h d e
      → ((j : ℕ) → j < columns → h j ≡ f (q + j)) → Filled at p len f b d → Filled at (q + columns) len f b e
  filled_turn p q h d e lo hi r eq m =
      record {
        same = r.same ∙ m.same;
        inside = λ i l. go i l (cases_lt i q);
        before = λ i l. r.before i (omega arith) ∙ m.before i l;
        after = λ i l. r.after i (omega arith) ∙ m.after i l;
      }
    where
      go : (i : ℕ) → i < q + columns → (i < q) ⊎ (q ≤ i) → get_or e (at + i) 0 ≡ f i
      go i l (inl k) = r.before (at + i) (omega arith) ∙ m.inside i (omega arith)
      go i l (inr k) =
          let w : at + i ≡ at + q + (i - q) = omega arith in
          let v : q + (i - q) ≡ i = omega arith in
          ap (λ (x : ℕ). get_or e x 0) w ∙ r.inside (i - q) (omega arith) ∙ eq (i - q) (omega arith) ∙ ap f v

-- the block at q of the stripe as it is now holds the sums of the stripe as it was, but for shard a
pub block_is : (n len a q m p : ℕ) (table : List ℕ) (at : ℕ) (steps y : List ℕ) (f : ℕ → ℕ) (b e : List ℕ)
    → ((i : ℕ) → get_or e i 0 < 256) → q + columns ≤ len → Plan n table at a steps m → Filled (a * len) p len f b e
    → Are y (λ j. made_by n steps (byte_at len e (q + j)) m)
    → Are y (λ j. total n (λ r. mul_of (weight table at a r) (byte_at len b (q + j) r)))
block_is n len a q m p table at steps y f b e small hi pl fi u j l =
    u j l ∙ pl (byte_at len e (q + j)) (λ r. small (r * len + (q + j)))
    ∙ total_ext n (λ r. mul_of (weight table at a r) (byte_at len e (q + j) r)) (λ r. mul_of (weight table at a r) (byte_at len b (q + j) r))
    (λ r k. weighed r len a (q + j) table at (λ i. get_or e (a * len + i) 0) b e (omega arith)
    (record { same = fi.same; inside = λ i h. refl; before = fi.before; after = fi.after }))

-- with no shard left out, the block holds the row's sums
pub block_row : (n len q m : ℕ) (table : List ℕ) (at : ℕ) (steps y s : List ℕ) → ((i : ℕ) → get_or s i 0 < 256)
    → Plan n table at n steps m → Are y (λ j. made_by n steps (byte_at len s (q + j)) m) → Are y (λ j. row_at n len s table at (q + j))
block_row n len q m table at steps y s small pl u j l =
    u j l ∙ pl (byte_at len s (q + j)) (λ r. small (r * len + (q + j)))
    ∙ total_ext n (λ r. mul_of (weight table at n r) (byte_at len s (q + j) r)) (λ r. mul_of (get_or table (at + r) 0) (byte_at len s (q + j) r))
    (λ r k. ap (λ (w : ℕ). mul_of w (byte_at len s (q + j) r)) (weight_other table at n r (λ e. omega arith)))

pub block_zero : (b : Bool) (q : ℕ) (f : ℕ → ℕ) (y : List ℕ) → Are y (λ j. f (q + j)) → Zeros b columns y → BlockZero b q f
block_zero true q f y u z = λ j h. sym (u j h) ∙ z j h
block_zero false q f y u z = (z.0, z.1, λ e. z.2 (u z.0 z.1 ∙ e))

-- each block is 0, or there is one that isn't
pub rows_blocks : (b : Bool) (n len : ℕ) (s table : List ℕ) (at : ℕ) → columns ≤ len
    → MatchBool b
    (AllWithin (λ i. BlockZero true (start_of i len) (row_at n len s table at)) (range_with_len 0 (div_ceil len columns)) 0
    (length (range_with_len 0 (div_ceil len columns))))
    ((k : ℕ) × (k < length (range_with_len 0 (div_ceil len columns)))
    × HoldsAt (λ i. BlockZero false (start_of i len) (row_at n len s table at)) (range_with_len 0 (div_ceil len columns)) k)
    → RowZero b n len s table at
rows_blocks true n len s table at c m = λ p h.
    let f : ℕ → ℕ = row_at n len s table at in
    let i : ℕ = p / columns in
    let l : i < div_ceil len columns = omega (arith, div_ceil_times len columns) in
    let e : get_or (range_with_len 0 (div_ceil len columns)) i 0 ≡ i = get_or-range_with_len 0 (div_ceil len columns) i 0 l ∙ (omega arith) in
    let z : BlockZero true (start_of i len) f =
    subst (λ (k : ℕ). BlockZero true (start_of k len) f) e (m i 0 (omega arith) (omega (arith, length-range_with_len 0 (div_ceil len columns)))) in
    let v : start_of i len + (p - start_of i len) ≡ p = omega arith in
    ap f (sym v) ∙ z (p - start_of i len) (omega arith)
rows_blocks false n len s table at c m =
    let f : ℕ → ℕ = row_at n len s table at in
    let l : m.0 < div_ceil len columns = omega (arith, m.1, length-range_with_len 0 (div_ceil len columns)) in
    let e : get_or (range_with_len 0 (div_ceil len columns)) m.0 0 ≡ m.0 = get_or-range_with_len 0 (div_ceil len columns) m.0 0 l ∙ (omega arith) in
    let z : BlockZero false (start_of m.0 len) f = subst (λ (k : ℕ). BlockZero false (start_of k len) f) e (m.2 0) in
    (start_of m.0 len + z.0, omega (arith, z.1), z.2)

-- ---- whether a block's bytes are all 0

-- the bits of the bytes of ys, all in one byte: it is 0 only where they all are
pub record AnyBits (ys : List ℕ) (bits : ℕ) : Type 0 where
  pub zeros : bits ≡ 0 → Zeros true (length ys) ys
  pub others : bits ≢ 0 → Zeros false (length ys) ys

pub any_none : AnyBits [] 0
any_none = record { zeros = λ e j h. absurd (omega arith); others = λ n. absurd (n refl) }

pub any_turn : (ys : List ℕ) (a x b : ℕ) → b ≡ bit_or a x → AnyBits ys a → AnyBits (ys ++ x ∷ []) b
any_turn ys a x b e s =
    record {
      zeros = λ z i l.
          ⊎_elim (λ (k : i < length ys). get_or_append_left ys (x ∷ []) 0 i k ∙ s.zeros (omega (arith, le_or_l a x)) i k)
          (λ (k : length ys ≤ i).
          let v : i ≡ length ys = omega (arith, length-append ys (x ∷ [])) in
          ap (λ (t : ℕ). get_or (ys ++ x ∷ []) t 0) v ∙ get_or-append_seam ys x [] 0 ∙ (omega (arith, le_or_r a x))) (cases_lt i (length ys));
      others = λ n.
          ⊎_elim
          (λ (k : 0 < a).
          let w : Zeros false (length ys) ys = s.others (λ z. omega arith) in
          (w.0, omega (arith, w.1, length-append ys (x ∷ [])), λ z. w.2 (sym (get_or_append_left ys (x ∷ []) 0 w.0 w.1) ∙ z)))
          (λ (k : a ≤ 0).
          let o : a ≡ 0 = omega arith in
          (length ys, omega (arith, length-append ys (x ∷ [])), λ z. n (e ∙ ap (λ (t : ℕ). bit_or t x) o ∙ or_zero_l x ∙ sym (get_or-append_seam ys x [] 0) ∙ z)))
          (cases_lt 0 a);
    }

pub zeros_of : (y : List ℕ) (bits : ℕ) → length y ≡ columns → AnyBits y bits → Zeros (eqb bits 0) columns y
zeros_of y bits q s =
    ⊎_elim
    (λ (k : bits ≡ 0). subst (λ (b : Bool). Zeros b columns y) (sym (eq-eqb bits 0 k)) (λ j h. s.zeros k j (omega arith)))
    (λ (k : 0 < bits).
    let w : Zeros false (length y) y = s.others (λ e. omega arith) in
    subst (λ (b : Bool). Zeros b columns y) (sym (ne_eqb bits 0 (λ e. omega arith))) (w.0, omega (arith, w.1), w.2))
    (eq-zero-or-pos bits)

-- ---- laws of steps, of blocks one after the other, and of sums of bytes, for any walk over a stripe

pub double_none : (n m : ℕ) (s : List ℕ) → m ≡ 0 → Pushed n m 0 1 s s (λ x y. mul_of g y)
unfolding made_by
double_none n m s e =
    record {
      same = refl;
      few = omega arith;
      makes = λ x. sym (ap (λ (k : ℕ). mul_of g (made_by n s x k)) e ∙ bytes.mul_zero g);
    }

pub step_add : (n len p s : ℕ) (b y z : List ℕ) → s < n → Are z (λ j. bit_xor (get_or y j 0) (get_or b (s * len + p + j) 0))
    → Are z (λ j. step_of n (byte_at len b (p + j)) (get_or y j 0) s)
step_add n len p s b y z h q j l =
    q j l ∙ ap (λ (i : ℕ). bit_xor (get_or y j 0) (get_or b i 0)) (add_assoc (s * len) p j)
    ∙ sym (step_shard n (byte_at len b (p + j)) (get_or y j 0) s h)

pub step_twice : (n len p s : ℕ) (b y z : List ℕ) → n ≤ s → Are z (λ j. mul_of g (get_or y j 0))
    → Are z (λ j. step_of n (byte_at len b (p + j)) (get_or y j 0) s)
step_twice n len p s b y z h q j l = q j l ∙ sym (step_double n (byte_at len b (p + j)) (get_or y j 0) s h)

module _ (at len : ℕ) (f : ℕ → ℕ) (b : List ℕ) where
  pub filled_none : Filled at 0 len f b b
  filled_none = record { same = refl; inside = λ i h. absurd (omega arith); before = λ i h. refl; after = λ i h. refl }

  pub filled_done : (p : ℕ) (e : List ℕ) → len ≤ p → Filled at p len f b e → Replaced at len f b e
  filled_done p e h m = record { same = m.same; inside = λ i l. m.inside i (omega arith); before = m.before; after = m.after }

pub rows_turn : (p q : ℕ) (f : ℕ → ℕ) (y : List ℕ) → q ≤ p → Are y (λ j. f (q + j)) → Zeros true columns y
    → ((i : ℕ) → i < p → f i ≡ 0) → (i : ℕ) → i < q + columns → f i ≡ 0
rows_turn p q f y lo u z m i l =
    ⊎_elim (λ (k : i < q). m i (omega arith))
    (λ (k : q ≤ i).
    let v : q + (i - q) ≡ i = omega arith in
    ap f (sym v) ∙ sym (u (i - q) (omega arith)) ∙ z (i - q) (omega arith)) (lt_or_ge i q)

pub rows_left : (q len : ℕ) (f : ℕ → ℕ) (y : List ℕ) → q + columns ≤ len → Are y (λ j. f (q + j)) → Zeros false columns y
    → (p : ℕ) × (p < len) × (f p ≢ 0)
rows_left q len f y hi u z = (q + z.0, omega (arith, z.1), λ e. z.2 (u z.0 z.1 ∙ e))

-- the sum of the first j bytes is 0 only where they all are
pub record Summed (j sum : ℕ) (y : List ℕ) : Type 0 where
  pub small : sum ≤ 255 * j
  pub zeros : sum ≡ 0 → Zeros true j y
  pub others : sum ≢ 0 → Zeros false j y

pub summed_none : (y : List ℕ) → Summed 0 0 y
summed_none y = record { small = omega arith; zeros = λ e j h. absurd (omega arith); others = λ n. absurd (n refl) }

pub summed_turn : (j sum x : ℕ) (y : List ℕ) → x < 256 → x ≡ get_or y j 0 → Summed j sum y → Summed (j + 1) (sum + x) y
summed_turn j sum x y h e s =
    record {
      small = omega (arith, s.small);
      zeros = λ z i l.
          ⊎_elim (λ (k : i < j). s.zeros (omega arith) i k)
          (λ (k : j ≤ i). let v : i ≡ j = omega arith in ap (λ (t : ℕ). get_or y t 0) v ∙ sym e ∙ (omega arith)) (lt_or_ge i j);
      others = λ n.
          ⊎_elim (λ (k : 0 < sum). let w : Zeros false j y = s.others (λ z. omega arith) in (w.0, omega (arith, w.1), w.2))
          (λ (k : sum ≤ 0). (j, omega arith, λ z. n (omega arith))) (lt_or_ge 0 sum);
    }

pub not_of : (b d : Bool) → not b ≡ d → b ≡ not d
not_of true d e = ap not e
not_of false d e = ap not e
