-- Laws of the loops over the bytes of a stripe. Assumes nothing.
use Rattle.std.specs.Prelude.{◌≡◌, refl, Bool, true, false, cond, List, [], ◌∷◌, ◌++◌, ◌≢◌, ◌⊎◌, ℕ, ◌+◌, ◌-◌, ◌*◌, ◌/◌, ◌%◌, ◌≤◌, ◌<◌, eqb, length, get_or, set, take, drop, slice_range}
use Rattle.std.proofs.Common.{sym, ap, ap₂, ◌∙◌, subst, inl, inr, ⊎_elim, div-add-mod', mod-lt, zero-lt-suc, eq-or-lt_of_le, suc-mul, mul-le-mul_right, add-one, arith, length-set, length-take, length-drop, get_or-take, get_or-drop, get_or-set_same, get_or-set_other, eq-eqb, ne_eqb, eq-zero-or-pos}
use Rattle.std.proofs.Math.Arith.{digits_lt}
use Rattle.std.proofs.lemmas.Bool.{cases_lt}
use Rattle.std.proofs.lemmas.List.FromFn.{length-range_with_len, get_or-range_with_len}
use Rattle.std.specs.Bool.{MatchBool}
use Rattle.std.specs.List.{AllWithin, HoldsAt, range_with_len}
use Rattle.std.proofs.lemmas.List.{length-append, length-take-le, get_or-append_right, get_or_append_left}
use borrow.Rule.Slice.PartMut.{put_mid, post_of}
use Rattle.std.specs.Int.Bits.{bit_xor, xor_shifted}
use Rattle.std.proofs.lemmas.Nat.{xor_comm}
use Rattle.algebra.specs.Ring.{◌⊗◌}
use Rattle.algebra.specs.Field.{X, Y, Z}
use Rattle.bits.specs.Xor.{bit_ind}
use Rattle.field.specs.Field.{mul_of, g, pick}
use Rattle.field.proofs.Power.{twice}
use Rattle.field.proofs.Bytes.{bytes}
use Rattle.field.proofs.Turns.{double_byte}
use Rattle.field.proofs.Solve.{solve}
use Rattle.codeword.specs.Sum.{total, total_ext}
use Rattle.codeword.specs.Stripe.{byte_at}
use Rattle.kernel.specs.Kernel.{Multiples, MultiplesOf, times_of, Replaced, added, MulAdded, Cleared, Parts, Shards, weight, Combined, row_at, RowZero}

-- ---- a product by its bits

pick_times : (b c : ℕ) → b < 2 → c < 256 → mul_of c b ≡ pick b c
pick_times b c h l = bit_ind (λ b. mul_of c b ≡ pick b c) (bytes.mul_zero c) (bytes.mul_one c l) b h

-- the lowest bit of y, and the rest
pub peel : (c d y : ℕ) → c < 256 → y < 256 → d ≡ mul_of g c → mul_of c y ≡ bit_xor (pick (y % 2) c) (mul_of d (y / 2))
peel c d y l h e =
    let b : y % 2 < 2 = mod-lt y (zero-lt-suc 1) in
    let s : y / 2 * 2 ≡ mul_of g (y / 2) = sym (twice (y / 2) (omega arith)) in
    ap (mul_of c) (sym (div-add-mod' y 2) ∙ sym (xor_shifted (y / 2) 1 (y % 2) b) ∙ xor_comm (y / 2 * 2) (y % 2)
    ∙ ap (bit_xor (y % 2)) s)
    ∙ bytes.mul_add c (y % 2) (mul_of g (y / 2))
    ∙ ap₂ bit_xor (pick_times (y % 2) c b l)
    (solve (c ∷ g ∷ (y / 2) ∷ []) (X ⊗ (Y ⊗ Z)) ((Y ⊗ X) ⊗ Z) tt ∙ ap (λ (u : ℕ). mul_of u (y / 2)) (sym e))

-- the bits below y's are added up already
turn : (s c d y z : ℕ) → c < 256 → y < 256 → d ≡ mul_of g c → z ≡ y / 2
    → bit_xor s (mul_of c y) ≡ bit_xor (bit_xor s (pick (y % 2) c)) (mul_of d z)
turn s c d y z l h e q =
    ap (bit_xor s) (peel c d y l h e ∙ ap (λ (u : ℕ). bit_xor (pick (y % 2) c) (mul_of d u)) (sym q))
    ∙ sym (bytes.add_assoc s (pick (y % 2) c) (mul_of d z))

-- the multiples of c at the bits of x add up to c times x
pub times_is : (c : ℕ) (t : Multiples) (x : ℕ) → c < 256 → MultiplesOf c t → x < 256 → times_of t x ≡ mul_of c x
unfolding times_of
times_is c t x l m h =
    let s1 : ℕ = pick (x % 2) t.c0 in
    let s2 : ℕ = bit_xor s1 (pick (x / 2 % 2) t.c1) in
    let s3 : ℕ = bit_xor s2 (pick (x / 4 % 2) t.c2) in
    let s4 : ℕ = bit_xor s3 (pick (x / 8 % 2) t.c3) in
    let s5 : ℕ = bit_xor s4 (pick (x / 16 % 2) t.c4) in
    let s6 : ℕ = bit_xor s5 (pick (x / 32 % 2) t.c5) in
    let s7 : ℕ = bit_xor s6 (pick (x / 64 % 2) t.c6) in
    let last : x / 128 % 2 ≡ x / 128 = omega arith in
    sym (ap (λ (u : ℕ). mul_of u x) (sym m.at0)
    ∙ turn 0 t.c0 t.c1 x (x / 2) (omega (arith, m.at0)) h m.at1 refl
    ∙ turn s1 t.c1 t.c2 (x / 2) (x / 4) (double_byte _ _ m.at1) (omega arith) m.at2 (omega arith)
    ∙ turn s2 t.c2 t.c3 (x / 4) (x / 8) (double_byte _ _ m.at2) (omega arith) m.at3 (omega arith)
    ∙ turn s3 t.c3 t.c4 (x / 8) (x / 16) (double_byte _ _ m.at3) (omega arith) m.at4 (omega arith)
    ∙ turn s4 t.c4 t.c5 (x / 16) (x / 32) (double_byte _ _ m.at4) (omega arith) m.at5 (omega arith)
    ∙ turn s5 t.c5 t.c6 (x / 32) (x / 64) (double_byte _ _ m.at5) (omega arith) m.at6 (omega arith)
    ∙ turn s6 t.c6 t.c7 (x / 64) (x / 128) (double_byte _ _ m.at6) (omega arith) m.at7 (omega arith)
    ∙ ap (bit_xor s7) (pick_times (x / 128) t.c7 (omega arith) (double_byte _ _ m.at7) ∙ ap (λ (u : ℕ). pick u t.c7) (sym last)))

-- ---- small facts

pub zero_times : (w x : ℕ) → w ≡ 0 → mul_of w x ≡ 0
zero_times w x z = ap (λ (u : ℕ). mul_of u x) z ∙ bytes.mul_comm 0 x ∙ bytes.mul_zero x

eq_or_ne : (x y : ℕ) → (x ≡ y) ⊎ (x ≢ y)
eq_or_ne x y =
    ⊎_elim (λ (l : x < y). inr (λ e. omega arith))
    (λ (l : y ≤ x). ⊎_elim (λ (e : y ≡ x). inl (sym e)) (λ (k : y < x). inr (λ e. omega arith)) (eq-or-lt_of_le l)) (cases_lt x y)

-- ---- parts of a slice

pub replaced_none : (at : ℕ) (f : ℕ → ℕ) (b : List ℕ) → Replaced at 0 f b b
replaced_none at f b = record { same = refl; inside = λ i h. absurd (omega arith); before = λ i h. refl; after = λ i h. refl }

pub replaced_turn : (at i v : ℕ) (f : ℕ → ℕ) (b e : List ℕ) → at + i < length b → v ≡ f i → Replaced at i f b e
    → Replaced at (i + 1) f b (set e (at + i) v)
replaced_turn at i v f b e h q m =
    record {
      same = length-set e (at + i) v ∙ m.same;
      inside = λ k l. go k (eq-or-lt_of_le (omega arith));
      before = λ k l. get_or-set_other e (at + i) k v 0 (omega arith) ∙ m.before k l;
      after = λ k l. get_or-set_other e (at + i) k v 0 (omega arith) ∙ m.after k (omega arith);
    }
  where
    go : (k : ℕ) → (k ≡ i) ⊎ (k < i) → get_or (set e (at + i) v) (at + k) 0 ≡ f k
    go k (inl p) =
        subst (λ (x : ℕ). get_or (set e (at + i) v) (at + x) 0 ≡ f x) (sym p)
        (get_or-set_same e (at + i) v 0 (omega (arith, m.same)) ∙ q)
    go k (inr l) = get_or-set_other e (at + i) (at + k) v 0 (omega arith) ∙ m.inside k l

pub replaced_done : (at i len : ℕ) (f : ℕ → ℕ) (b e : List ℕ) → i ≡ len → Replaced at i f b e → Replaced at len f b e
replaced_done at i len f b e q m = subst (λ (k : ℕ). Replaced at k f b e) q m

-- the part at `at` written over by ys
pub replaced_part : (at k len : ℕ) (f : ℕ → ℕ) (b ys : List ℕ) → k ≡ len → length ys ≡ len → at + len ≤ length b
    → ((i : ℕ) → i < len → get_or ys i 0 ≡ f i) → Replaced at len f b (put_mid at k b ys)
replaced_part at k len f b ys q l h e =
    let m : length (take at b) ≡ at = length-take-le at b (omega arith) in
    let d : length (post_of at k b) ≡ length b - at - k = length-drop k (drop at b) ∙ ap (λ (x : ℕ). x - k) (length-drop at b) in
    record {
      same = omega (arith, m, d, length-append (take at b) (ys ++ post_of at k b), length-append ys (post_of at k b));
      inside = λ i j.
          let v : at + i - at ≡ i = omega arith in
          get_or-append_right (take at b) (ys ++ post_of at k b) at (at + i) 0 m (omega arith)
          ∙ ap (λ (x : ℕ). get_or (ys ++ post_of at k b) x 0) v ∙ get_or_append_left ys (post_of at k b) 0 i (omega arith) ∙ e i j;
      before = λ i j. get_or_append_left (take at b) (ys ++ post_of at k b) 0 i (omega arith) ∙ get_or-take at b i 0 j;
      after = λ i j.
          let v : at + (k + (i - at - len)) ≡ i = omega arith in
          get_or-append_right (take at b) (ys ++ post_of at k b) at i 0 m (omega arith)
          ∙ get_or-append_right ys (post_of at k b) len (i - at) 0 l (omega arith)
          ∙ get_or-drop k (drop at b) (i - at - len) 0 ∙ get_or-drop at b (k + (i - at - len)) 0 ∙ ap (λ (x : ℕ). get_or b x 0) v;
    }

-- what is not inside is as it was
pub untouched : (at len k : ℕ) (f : ℕ → ℕ) (b e : List ℕ) → Replaced at len f b e → ((i : ℕ) → i < len → at + i ≢ k) → get_or e k 0 ≡ get_or b k 0
untouched at len k f b e m h =
    ⊎_elim (m.before k)
    (λ (l : at ≤ k). ⊎_elim (λ (u : k < at + len). absurd (h (k - at) (omega arith) (omega arith))) (m.after k) (cases_lt k (at + len)))
    (cases_lt k at)

-- one place more has the sum
pub product_turn : (c dst src len i x : ℕ) (b e : List ℕ) → Parts dst src len (length b) → i < len
    → x ≡ mul_of c (get_or e (src + i) 0) → MulAdded c dst src i b e
    → MulAdded c dst src (i + 1) b (set e (dst + i) (bit_xor (get_or e (dst + i) 0) x))
product_turn c dst src len i x b e p h q r =
    replaced_turn dst i (bit_xor (get_or e (dst + i) 0) x) (added c dst src b) b e (omega (arith, p.dst_fits))
    (ap₂ bit_xor (r.after (dst + i) (omega arith))
    (q ∙ ap (mul_of c) (untouched dst i (src + i) (added c dst src b) b e r (λ j k. p.apart j i (omega arith) h))))
    r

-- and so by the multiples of c
pub added_turn : (c dst src len i x : ℕ) (t : Multiples) (b e : List ℕ) → Parts dst src len (length b) → i < len → c < 256
    → MultiplesOf c t → get_or e (src + i) 0 < 256 → x ≡ times_of t (get_or e (src + i) 0) → MulAdded c dst src i b e
    → MulAdded c dst src (i + 1) b (set e (dst + i) (bit_xor (get_or e (dst + i) 0) x))
added_turn c dst src len i x t b e p h l m y q r = product_turn c dst src len i x b e p h (q ∙ times_is c t (get_or e (src + i) 0) l m y) r

-- ---- shards

pub shard_lt : (r n len p : ℕ) → r < n → p < len → r * len + p < n * len
shard_lt r n len p h l = digits_lt h l

pub shard_le : (r n len : ℕ) → r < n → r * len + len ≤ n * len
shard_le r n len h = subst (λ (x : ℕ). x ≤ n * len) (suc-mul r len) (mul-le-mul_right len h)

-- two shards have no byte in common
pub shard_parts : (a r n len size : ℕ) → Shards n len size → a < n → r < n → a ≢ r → Parts (a * len) (r * len) len size
shard_parts a r n len size s ha hr ne =
    record {
      dst_fits = omega (arith, s.fits, shard_le a n len ha);
      src_fits = omega (arith, s.fits, shard_le r n len hr);
      apart = λ i j hi hj e.
          ⊎_elim (λ (k : a < r). omega (arith, shard_le a r len k))
          (λ (k : r ≤ a). let q : r < a = omega arith in omega (arith, shard_le r a len q)) (cases_lt a r);
    }

-- another shard is as it was
pub other_shard : (a r len p : ℕ) (f : ℕ → ℕ) (b e : List ℕ) → r ≢ a → p < len → Replaced (a * len) len f b e
    → byte_at len e p r ≡ byte_at len b p r
other_shard a r len p f b e ne l m =
    ⊎_elim (λ (k : r < a). m.before (r * len + p) (shard_lt r a len p k l))
    (λ (k : a ≤ r). let q : a < r = omega arith in m.after (r * len + p) (omega (arith, shard_le a r len q))) (cases_lt r a)

-- 0 times a shard adds nothing
pub added_zero : (w dst src len : ℕ) (b : List ℕ) → w ≡ 0 → MulAdded w dst src len b b
added_zero w dst src len b z =
    record {
      same = refl;
      inside = λ i h. sym (ap (bit_xor (get_or b (dst + i) 0)) (zero_times w (get_or b (src + i) 0) z) ∙ bytes.add_zero (get_or b (dst + i) 0));
      before = λ i h. refl;
      after = λ i h. refl;
    }

-- ---- combine

pub weight_own : (table : List ℕ) (at a r : ℕ) → r ≡ a → weight table at a r ≡ 0
weight_own table at a r e = ap (λ (b : Bool). cond b 0 (get_or table (at + r) 0)) (eq-eqb r a e)

pub weight_other : (table : List ℕ) (at a r : ℕ) → r ≢ a → weight table at a r ≡ get_or table (at + r) 0
weight_other table at a r n = ap (λ (b : Bool). cond b 0 (get_or table (at + r) 0)) (ne_eqb r a n)

pub combined_none : (len a : ℕ) (table : List ℕ) (at : ℕ) (b e : List ℕ) → Cleared (a * len) len b e → Combined 0 len a table at b e
unfolding total
combined_none len a table at b e c = record { same = c.same; inside = c.inside; before = c.before; after = c.after }

-- shard a has no weight, and the other shards are as they were
pub weighed : (r len a p : ℕ) (table : List ℕ) (at : ℕ) (f : ℕ → ℕ) (b e : List ℕ) → p < len → Replaced (a * len) len f b e
    → mul_of (weight table at a r) (byte_at len e p r) ≡ mul_of (weight table at a r) (byte_at len b p r)
weighed r len a p table at f b e l m = go (eq_or_ne r a)
  where
    go : (r ≡ a) ⊎ (r ≢ a) → mul_of (weight table at a r) (byte_at len e p r) ≡ mul_of (weight table at a r) (byte_at len b p r)
    go (inl k) =
        zero_times (weight table at a r) (byte_at len e p r) (weight_own table at a r k)
        ∙ sym (zero_times (weight table at a r) (byte_at len b p r) (weight_own table at a r k))
    go (inr k) = ap (mul_of (weight table at a r)) (other_shard a r len p f b e k l m)

pub combined_turn : (r len a w : ℕ) (table : List ℕ) (at : ℕ) (b e e' : List ℕ) → w ≡ weight table at a r
    → MulAdded w (a * len) (r * len) len e e' → Combined r len a table at b e → Combined (r + 1) len a table at b e'
unfolding total
combined_turn r len a w table at b e e' q m c =
    record {
      same = m.same ∙ c.same;
      inside = λ p l.
          m.inside p l
          ∙ ap₂ bit_xor (c.inside p l) (ap (λ (u : ℕ). mul_of u (byte_at len e p r)) q ∙ weighed r len a p table at _ b e l c)
          ∙ ap (λ (k : ℕ). total k (λ r. mul_of (weight table at a r) (byte_at len b p r))) (sym (add-one r));
      before = λ i l. m.before i l ∙ c.before i l;
      after = λ i l. m.after i l ∙ c.after i l;
    }

-- every other shard is as it was
pub combined_other : (n len a : ℕ) (table : List ℕ) (at : ℕ) (b e : List ℕ) → Combined n len a table at b e
    → (r p : ℕ) → r ≢ a → p < len → byte_at len e p r ≡ byte_at len b p r
combined_other n len a table at b e c r p ne l = other_shard a r len p _ b e ne l c

-- ---- rows

pub row_turn : (r x : ℕ) (f : ℕ → ℕ) (s : ℕ) → s ≡ total r f → x ≡ f r → bit_xor s x ≡ total (r + 1) f
unfolding total
row_turn r x f s e q = ap₂ bit_xor e q ∙ ap (λ (k : ℕ). total k f) (sym (add-one r))

-- ---- a row by itself, and as a part of a table

pub row_get : (table : List ℕ) (at n r : ℕ) → r < n → get_or (slice_range table at (at + n)) (0 + r) 0 ≡ get_or table (at + r) 0
row_get table at n r h =
    let i : at + (0 + r) ≡ at + r = omega arith in
    get_or-take (at + n - at) (drop at table) (0 + r) 0 (omega arith) ∙ get_or-drop at table (0 + r) 0 ∙ ap (λ (k : ℕ). get_or table k 0) i

pub part_length : (table : List ℕ) (at n : ℕ) → at + n ≤ length table → length (slice_range table at (at + n)) ≡ n
part_length table at n h = omega (arith, length-take (at + n - at) (drop at table), length-drop at table)

pub shards_row : (row : List ℕ) (n len size : ℕ) → length row ≡ n → Shards n len size → Shards (length row) len size
shards_row row n len size q s = subst (λ (k : ℕ). Shards k len size) (sym q) s

module _ (n len : ℕ) (table row : List ℕ) (at : ℕ) (q : length row ≡ n) (e : (r : ℕ) → r < n → get_or row (0 + r) 0 ≡ get_or table (at + r) 0) where
  pub combined_row : (a : ℕ) (b d : List ℕ) → Combined (length row) len a row 0 b d → Combined n len a table at b d
  combined_row a b d c =
      record {
        same = c.same;
        inside = λ p l.
            c.inside p l ∙ ap (λ (k : ℕ). total k (λ r. mul_of (weight row 0 a r) (byte_at len b p r))) q
            ∙ total_ext n (λ r. mul_of (weight row 0 a r) (byte_at len b p r)) (λ r. mul_of (weight table at a r) (byte_at len b p r))
            (λ r h. ap (λ (w : ℕ). mul_of (cond (eqb r a) 0 w) (byte_at len b p r)) (e r h));
        before = c.before;
        after = c.after;
      }

  row_same : (s : List ℕ) (p : ℕ) → row_at (length row) len s row 0 p ≡ row_at n len s table at p
  row_same s p =
      ap (λ (k : ℕ). row_at k len s row 0 p) q
      ∙ total_ext n (λ r. mul_of (get_or row (0 + r) 0) (byte_at len s p r)) (λ r. mul_of (get_or table (at + r) 0) (byte_at len s p r))
      (λ r h. ap (λ (w : ℕ). mul_of w (byte_at len s p r)) (e r h))

  pub row_zero_row : (x : Bool) (s : List ℕ) → RowZero x (length row) len s row 0 → RowZero x n len s table at
  row_zero_row true s z = λ p h. sym (row_same s p) ∙ z p h
  row_zero_row false s z = (z.0, z.1, λ k. z.2 (row_same s z.0 ∙ k))

-- each position is 0, or there is one that isn't
pub rows_all : (b : Bool) (n len : ℕ) (s table : List ℕ) (at : ℕ)
    → MatchBool b (AllWithin (λ p. row_at n len s table at p ≡ 0) (range_with_len 0 len) 0 (length (range_with_len 0 len)))
    ((k : ℕ) × (k < length (range_with_len 0 len)) × HoldsAt (λ p. row_at n len s table at p ≢ 0) (range_with_len 0 len) k)
    → RowZero b n len s table at
rows_all true n len s table at m = λ p h.
    let i : 0 + p ≡ p = omega arith in
    subst (λ (x : ℕ). row_at n len s table at x ≡ 0) (get_or-range_with_len 0 len p 0 h ∙ i)
    (m p 0 (omega arith) (omega (arith, length-range_with_len 0 len)))
rows_all false n len s table at m =
    let h : m.0 < len = omega (arith, m.1, length-range_with_len 0 len) in
    let i : 0 + m.0 ≡ m.0 = omega arith in
    (m.0, h, subst (λ (x : ℕ). row_at n len s table at x ≢ 0) (get_or-range_with_len 0 len m.0 0 h ∙ i) (m.2 0))

pub lt_or_ge : (x y : ℕ) → (x < y) ⊎ (y ≤ x)
lt_or_ge x y = ⊎_elim (λ e. inr (omega arith)) (λ l. inl (omega arith)) (eq-zero-or-pos (y - x))
