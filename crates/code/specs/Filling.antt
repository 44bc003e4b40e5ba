-- From rows of a table to stripes: what filling in, scrubbing and mending come to. Assumes nothing.
use Rattle.std.specs.Prelude.{◌≡◌, refl, Bool, true, false, cond, List, [], ◌∷◌, ◌≢◌, ◌⊎◌, ℕ, ◌+◌, ◌*◌, ◌≤◌, ◌<◌, eqb, length, get_or, Ok}
use Rattle.std.proofs.Common.{sym, ap, ◌∙◌, subst, inl, inr, ⊎_elim, suc-mul, mul-le-mul_right, eq-or-lt_of_le, eq-zero-or-pos, arith, lit<, eqb-true}
use Rattle.std.proofs.lemmas.Bool.{eqb-false}
use Rattle.field.specs.Field.{mul_of}
use Rattle.field.proofs.Bytes.{bytes}
use Rattle.codeword.specs.Sum.{total, total_ext, except, except_at, except_off}
use Rattle.codeword.specs.Stripe.{Bytes, byte_at, Sound, AgreeOff, Agree, has}
use Rattle.codeword.specs.Table.{entry, row_sum, Equivalent, SolvedFor}
use Rattle.codeword.specs.Unit.{unit_other}
use Rattle.codeword.specs.Named.{has_not, has_index}
use Rattle.codeword.specs.Complete.{completed, completed_bytes, completed_off, completed_rows, row_same}
use Rattle.codeword.proofs.Complete.{completed_holds}
use Rattle.codeword.specs.Laid.{laid, laid_at, laid_bytes}
use Rattle.codeword.proofs.Laid.{laid_sound}
use Rattle.codeword.specs.Mend.{put, put_at, put_off, others, others_byte, by_zero, solved_row, solved_other}
use Rattle.codeword.proofs.Mend.{blamed}
use Rattle.code.specs.Shape.{shaped_of}
use Rattle.solve.specs.Lost.{Lost}
use Rattle.solve.specs.Lists.{lost_one}
use Rattle.code.specs.Lists.{below_or_not}
use Rattle.code.specs.Padded.{padded, padded_length, padded_first, padded_lost, padded_off, solved_first}
use Rattle.kernel.specs.Kernel.{weight, Combined}
use Rattle.codeword.specs.Unique.{AllBytes}
use Rattle.code.specs.Stripes.{GoesBy, Accuses, Says, Mends}
use Rattle.code.specs.Blame.{RowsZero, Located, Judged, Filled}
use Rattle.code.specs.declared.Verdict.{Verdict}
use Rattle.code.specs.declared.Verdict.TheVariants as verdict

-- ---- scrubbing

pub sound_yes : (k m len : ℕ) (e s : List ℕ) → Equivalent k m e → AllBytes s → RowsZero 0 m (k + m) len e s true → Sound k m len s
sound_yes k m len e s q b z p hp = q.back (byte_at len s p) (λ r. b (r * len + p)) (λ j hj. z j (omega arith) hj p hp)

pub sound_no : (k m len : ℕ) (e s : List ℕ) → Equivalent k m e → AllBytes s → RowsZero 0 m (k + m) len e s false → Sound k m len s → ⊥
sound_no k m len e s q b z h =
    let p : ℕ = z.3.0 in
    z.3.2 (q.forth (byte_at len s p) (λ r. b (r * len + p)) (h p z.3.1) z.0 z.2)

pub judged : (k m len : ℕ) (s : List ℕ) (v : Verdict) → (Sound k m len s → ⊥) → 2 ≤ m → Located k m len s v → Judged k m len s v
judged k m len s verdict.Sound n h l = absurd l
judged k m len s (verdict.Accused r) n h l = (n, h, l)
judged k m len s verdict.Unsound n h l = (n, λ g. l)

pub says : (k m len : ℕ) (s : List ℕ) (v : Verdict) → shaped_of k m len (length s) ≡ true → Judged k m len s v → Says k m len s (Ok v)
says k m len s verdict.Sound e j = (e, j)
says k m len s (verdict.Accused r) e j = (e, j.0, j.1, j.2)
says k m len s verdict.Unsound e j = (e, j.0, j.1)

-- ---- a stripe in which one shard was combined from the others

shard_below : (r a len p : ℕ) → r < a → p < len → r * len + p < a * len
shard_below r a len p h hp =
    let g : r * len + len ≤ a * len = subst (λ (x : ℕ). x ≤ a * len) (suc-mul r len) (mul-le-mul_right len h) in
    omega arith

shard_above : (r a len p : ℕ) → a < r → a * len + len ≤ r * len + p
shard_above r a len p h =
    let g : a * len + len ≤ r * len = subst (λ (x : ℕ). x ≤ r * len) (suc-mul a len) (mul-le-mul_right len h) in
    omega arith

less_or_more : (r a : ℕ) → r ≢ a → (r < a) ⊎ (a < r)
less_or_more r a n = go (below_or_not r a)
  where
    go : (r < a) ⊎ (a ≤ r) → (r < a) ⊎ (a < r)
    go (inl h) = inl h
    go (inr h) = ⊎_elim (λ (e : a ≡ r). absurd (n (sym e))) (λ (l : a < r). inr l) (eq-or-lt_of_le h)

-- the sum that `combine` makes is that of the row over the other shards
combined_others : (n : ℕ) (e : List ℕ) (j a : ℕ) (x : ℕ → ℕ) → total n (λ r. mul_of (weight e (j * n) a r) (x r)) ≡ others n e j a x
combined_others n e j a x =
    total_ext n (λ r. mul_of (weight e (j * n) a r) (x r)) (except a (λ r. mul_of (entry n e j r) (x r)))
    (λ r h. at r (eqb r a) refl)
  where
    at : (r : ℕ) (b : Bool) → eqb r a ≡ b → mul_of (weight e (j * n) a r) (x r) ≡ except a (λ r. mul_of (entry n e j r) (x r)) r
    at r true q =
        by_zero (weight e (j * n) a r) (x r) (ap (λ (b : Bool). cond b 0 (entry n e j r)) q)
        ∙ sym (ap (except a (λ r. mul_of (entry n e j r) (x r))) (eqb-true r a q) ∙ except_at a (λ r. mul_of (entry n e j r) (x r)))
    at r false q =
        ap (λ (b : Bool). mul_of (cond b 0 (entry n e j r)) (x r)) q
        ∙ sym (except_off a r (λ r. mul_of (entry n e j r) (x r)) (eqb-false r a q))

module _ (n len a j : ℕ) (e before after : List ℕ) (w : Combined n len a e (j * n) before after) where
  pub combined_at : (p : ℕ) → p < len → byte_at len after p a ≡ others n e j a (byte_at len before p)
  combined_at p hp = w.inside p hp ∙ combined_others n e j a (byte_at len before p)

  pub combined_off : (p r : ℕ) → p < len → r ≢ a → byte_at len after p r ≡ byte_at len before p r
  combined_off p r hp q =
      ⊎_elim (λ (h : r < a). w.before (r * len + p) (shard_below r a len p h hp))
      (λ (h : a < r). w.after (r * len + p) (shard_above r a len p h)) (less_or_more r a q)

  combined_put : (p r : ℕ) → p < len → byte_at len after p r ≡ put a (others n e j a (byte_at len before p)) (byte_at len before p) r
  combined_put p r hp = go (eqb r a) refl
    where
      go : (b : Bool) → eqb r a ≡ b → byte_at len after p r ≡ put a (others n e j a (byte_at len before p)) (byte_at len before p) r
      go true q =
          ap (byte_at len after p) (eqb-true r a q) ∙ combined_at p hp
          ∙ sym (ap (put a (others n e j a (byte_at len before p)) (byte_at len before p)) (eqb-true r a q) ∙ put_at a (others n e j a (byte_at len before p)) (byte_at len before p))
      go false q =
          combined_off p r hp (eqb-false r a q)
          ∙ sym (put_off a (others n e j a (byte_at len before p)) r (byte_at len before p) (eqb-false r a q))

  pub combined_row : (p i : ℕ) → p < len
      → row_sum n e i (byte_at len after p) ≡ row_sum n e i (put a (others n e j a (byte_at len before p)) (byte_at len before p))
  combined_row p i hp =
      total_ext n (λ r. mul_of (entry n e i r) (byte_at len after p r))
      (λ r. mul_of (entry n e i r) (put a (others n e j a (byte_at len before p)) (byte_at len before p) r))
      (λ r h. ap (mul_of (entry n e i r)) (combined_put p r hp))

-- ---- filling in, shard after shard

-- the lost shards below c are filled in
pub record FilledTo (k m len c : ℕ) (lost e before now : List ℕ) : Type 0 where
  pub same : length now ≡ length before
  pub survivors : AgreeOff (k + m) len lost now before
  pub rows : (i : ℕ) → i < c → (p : ℕ) → p < len → row_sum (k + m) e i (byte_at len now p) ≡ 0

pub filled_to_none : (k m len : ℕ) (lost e before : List ℕ) → FilledTo k m len 0 lost e before before
filled_to_none k m len lost e before =
    record { same = refl; survivors = λ r h n p hp. refl; rows = λ i h. absurd (omega arith) }

pub filled_to_turn : (k m len c : ℕ) (lost e before now after : List ℕ) → Lost k m lost → SolvedFor k m lost e → c < length lost
    → FilledTo k m len c lost e before now → Combined (k + m) len (get_or lost c 0) e (c * (k + m)) now after
    → FilledTo k m len (c + 1) lost e before after
filled_to_turn k m len c lost e before now after l s h f w =
    record {
      same = w.same ∙ f.same;
      survivors = λ r hr n p hp.
          combined_off (k + m) len a c e now after w p r hp (λ q. has_not lost r c n h (sym q)) ∙ f.survivors r hr n p hp;
      rows = λ i hi p hp. combined_row (k + m) len a c e now after w p i hp ∙ row i p hp (eq-or-lt_of_le (omega arith));
    }
  where
    a : ℕ
    a = get_or lost c 0

    ha : a < k + m
    ha = l.shards c h

    hc : c < m
    hc = omega (arith, l.few)

    row : (i p : ℕ) → p < len → (i ≡ c) ⊎ (i < c)
        → row_sum (k + m) e i (put a (others (k + m) e c a (byte_at len now p)) (byte_at len now p)) ≡ 0
    row i p hp (inl q) =
        ap (λ (z : ℕ). row_sum (k + m) e z (put a (others (k + m) e c a (byte_at len now p)) (byte_at len now p))) q
        ∙ solved_row k m lost e s c (others (k + m) e c a (byte_at len now p)) (byte_at len now p) h hc ha (others_byte (k + m) e c a (byte_at len now p))
        ∙ bytes.add_self (others (k + m) e c a (byte_at len now p))
    row i p hp (inr q) =
        solved_other k m lost e s c i (others (k + m) e c a (byte_at len now p)) (byte_at len now p) h (omega arith) (λ z. omega arith) ha
        ∙ f.rows i q p hp

pub filled_to_done : (k m len c : ℕ) (lost e before now : List ℕ) → SolvedFor k m (padded k m lost) e → length lost ≤ c → FilledTo k m len c lost e before now
    → Filled k m len lost before now
filled_to_done k m len c lost e before now s h f =
    record { same = f.same; survivors = f.survivors; table = e; solved = s; rows = λ i hi p hp. f.rows i (omega arith) p hp }

-- ---- what is filled in goes by the k least of the others

module _ (k m len : ℕ) (lost before after : List ℕ) (l : Lost k m lost) (b : AllBytes after) (f : Filled k m len lost before after) where
  -- a position that row c is 0 of and that has these k bytes has the byte that was filled in
  filled_row : (c p : ℕ) (y : ℕ → ℕ) → c < length lost → p < len → Bytes y → row_sum (k + m) f.table c y ≡ 0
      → ((r : ℕ) → r < k + m → has (padded k m lost) r ≡ false → byte_at len before p r ≡ y r) → byte_at len after p (get_or lost c 0) ≡ y (get_or lost c 0)
  filled_row c p y hc hp by z ag =
      subst (λ (a : ℕ). byte_at len after p a ≡ y a) (padded_first k m lost l c hc)
      (row_same k m (padded k m lost) f.table f.solved (padded_lost k m lost l).few (padded_lost k m lost l).shards c (byte_at len after p) y
      (omega (arith, padded_length k m lost l, l.few)) (λ r. b (r * len + p)) by (f.rows c hc p hp) z
      (λ r hr n. f.survivors r hr (padded_off k m lost l r n) p hp ∙ ag r hr n))

  -- what is filled in is the shards of every sound stripe with these survivors
  pub filled_rebuilt : (o : List ℕ) → AllBytes o → Sound k m len o → AgreeOff (k + m) len lost before o → Agree (k + m) len after o
  filled_rebuilt o bo so ag r hr t p hp = go (has lost r) refl
    where
      go : (t : Bool) → has lost r ≡ t → byte_at len after p r ≡ byte_at len o p r
      go false n = f.survivors r hr n p hp ∙ ag r hr n p hp
      go true n =
          let d = has_index lost r n in
          subst (λ (z : ℕ). byte_at len after p z ≡ byte_at len o p z) d.2
          (filled_row d.0 p (byte_at len o p) d.1 hp (λ i. bo (i * len + p))
          (f.solved.same.forth (byte_at len o p) (λ i. bo (i * len + p)) (so p hp) d.0 (omega (arith, l.few)))
          (λ i hi g. ag i hi (padded_off k m lost l i g) p hp))

  pub filled_goes_by : 1 ≤ len → AllBytes before → GoesBy k m len lost before after
  filled_goes_by hl bb =
      record {
        stripe = laid (k + m) len whole;
        bytes = laid_bytes (k + m) len whole hl (λ p r hp. whole_bytes p r);
        sound = laid_sound k m len whole (λ p hp. completed_holds k m all e f.solved known.few known.shards (byte_at len before p) (λ r. bb (r * len + p)) (padded_length k m lost l));
        agrees = λ r hr n p hp. sym (laid_at (k + m) len whole p r hp hr ∙ off p r n);
        filled = λ c hc p hp.
            filled_row c p (whole p) hc hp (whole_bytes p)
            (completed_rows k m all e f.solved known.few known.shards (byte_at len before p) (λ r. bb (r * len + p)) (length all) (omega arith) c (omega (arith, padded_length k m lost l, l.few)))
            (λ r hr n. sym (off p r n))
            ∙ sym (laid_at (k + m) len whole p (get_or lost c 0) hp (l.shards c hc));
      }
    where
      all : List ℕ
      all = padded k m lost

      known : Lost k m all
      known = padded_lost k m lost l

      e : List ℕ
      e = f.table

      -- the k bytes of a position, and what the table gives from them
      whole : ℕ → ℕ → ℕ
      whole p = completed (k + m) all e (byte_at len before p) (length all)

      whole_bytes : (p : ℕ) → Bytes (whole p)
      whole_bytes p = completed_bytes k m all e f.solved known.few known.shards (byte_at len before p) (λ r. bb (r * len + p)) (length all)

      off : (p r : ℕ) → has all r ≡ false → whole p r ≡ byte_at len before p r
      off p r n = completed_off k m all e f.solved known.few known.shards (byte_at len before p) (λ r. bb (r * len + p)) (length all) (omega arith) r n

-- where as many are filled in as there are rows, the stripe is sound
pub filled_sound : (k m len : ℕ) (lost before after : List ℕ) → AllBytes after → length lost ≡ m → Filled k m len lost before after → Sound k m len after
filled_sound k m len lost before after b q f p hp =
    f.solved.same.back (byte_at len after p) (λ r. b (r * len + p)) (λ j hj. f.rows j (omega arith) p hp)

-- an accused shard filled in from the others
pub filled_mends : (k m len r : ℕ) (before after : List ℕ) → 1 ≤ m → AllBytes before → AllBytes after → Accuses k m len before r
    → Filled k m len (r ∷ []) before after → Mends k m len (Ok (verdict.Accused r)) before after
filled_mends k m len r before after hm bb ba a f = (f.same, λ q hq n p hp. sym (f.survivors q hq n p hp), sound)
  where
    e : List ℕ
    e = f.table

    solved : SolvedFor k m (r ∷ []) e
    solved = solved_first k m (r ∷ []) (lost_one k m r hm a.0) e f.solved

    same_row : (p j : ℕ) → p < len → 1 ≤ j → j < m → row_sum (k + m) e j (byte_at len after p) ≡ row_sum (k + m) e j (byte_at len before p)
    same_row p j hp l hj =
        total_ext (k + m) (λ i. mul_of (entry (k + m) e j i) (byte_at len after p i)) (λ i. mul_of (entry (k + m) e j i) (byte_at len before p i))
        (λ i hi. at i hi (eqb r i) refl)
      where
        at : (i : ℕ) → i < k + m → (b : Bool) → eqb r i ≡ b → mul_of (entry (k + m) e j i) (byte_at len after p i) ≡ mul_of (entry (k + m) e j i) (byte_at len before p i)
        at i hi true q =
            let z : entry (k + m) e j i ≡ 0 =
            ap (entry (k + m) e j) (sym (eqb-true r i q)) ∙ solved.units 0 (lit< tt) j hj ∙ unit_other j 0 (λ g. omega arith) in
            by_zero (entry (k + m) e j i) (byte_at len after p i) z ∙ sym (by_zero (entry (k + m) e j i) (byte_at len before p i) z)
        at i hi false q =
            ap (mul_of (entry (k + m) e j i)) (f.survivors i hi (ap (λ (b : Bool). cond b true false) q) p hp)

    row : (p j : ℕ) → p < len → j < m → (j ≡ 0) ⊎ (0 < j) → row_sum (k + m) e j (byte_at len after p) ≡ 0
    row p j hp hj (inl q) = ap (λ (z : ℕ). row_sum (k + m) e z (byte_at len after p)) q ∙ f.rows 0 (lit< tt) p hp
    row p j hp hj (inr l) =
        same_row p j hp l hj
        ∙ blamed k m r e solved hm a.0 (byte_at len before p) (λ i. bb (i * len + p)) (a.1.0 p, (a.1.1 p hp).0, (a.1.1 p hp).1) j l hj

    sound : Sound k m len after
    sound p hp = f.solved.same.back (byte_at len after p) (λ i. ba (i * len + p)) (λ j hj. row p j hp hj (eq-zero-or-pos j))
