-- Wrong shards: what a stripe that is not sound tells about them, and for m = 2 what it can't. The theorems come from `determined`
-- alone. Assumes nothing.
use Rattle.std.specs.Prelude.{◌≡◌, refl, Bool, true, false, cond, List, [], ◌∷◌, ◌≢◌, ℕ, zero, suc, ◌+◌, ◌≤◌, ◌<◌, eqb, length, set}
use Rattle.std.proofs.Common.{sym, ap, ◌∙◌, true≢false, arith, lit<, eqb-true, ne_eqb}
use Rattle.std.specs.Int.Bits.{bit_xor}
use Rattle.std.proofs.lemmas.Bool.{eqb-false}
use Rattle.field.specs.Field.{mul_of, power_of}
use Rattle.field.proofs.Bytes.{bytes}
use Rattle.field.proofs.Vectors.{power_bit, g_times_7b, g3_times_7a}
use Rattle.codeword.specs.Sum.{total_ext, total_four}
use Rattle.codeword.specs.Stripe.{InRange, coef, parity_of, byte_at, Sound, has, AgreeOff, Agree}
use Rattle.codeword.specs.Unit.{one_times}
use Rattle.codeword.specs.Unique.{AllBytes}
use Rattle.codeword.proofs.Unique.{determined}
use Rattle.codeword.specs.Liars.{Differ, found}

-- ---- agreement

-- off a list: off its first entry, and off the rest
off_first : (a r : ℕ) (l : List ℕ) → has (a ∷ l) r ≡ false → has (a ∷ []) r ≡ false
off_first a r l = go (eqb a r)
  where
    go : (b : Bool) → cond b true (has l r) ≡ false → cond b true false ≡ false
    go true e = e
    go false e = refl

off_rest : (a r : ℕ) (l : List ℕ) → has (a ∷ l) r ≡ false → has l r ≡ false
off_rest a r l = go (eqb a r)
  where
    go : (b : Bool) → cond b true (has l r) ≡ false → has l r ≡ false
    go true e = absurd (true≢false e)
    go false e = e

off_other : (a r : ℕ) → a ≢ r → has (a ∷ []) r ≡ false
off_other a r n = ap (λ (b : Bool). cond b true false) (ne_eqb a r n)

module _ (k m len : ℕ) (range : InRange k m) where
  -- two sound stripes that agree with s, one off r, one off l
  both : (r : ℕ) (l s t o : List ℕ) → length (r ∷ l) ≤ m → AllBytes t → AllBytes o → Sound k m len t → Sound k m len o
      → AgreeOff (k + m) len (r ∷ []) s t → AgreeOff (k + m) len l s o → Agree (k + m) len t o
  both r l s t o few bt bo ht ho at ao =
      determined k m len range (r ∷ l) few t o bt bo ht ho (λ i h n p q. sym (at i h (off_first r i l n) p q) ∙ ao i h (off_rest r i l n) p q)

  -- what agrees with a sound stripe is sound
  sound_same : (s t : List ℕ) → Agree (k + m) len s t → Sound k m len t → Sound k m len s
  sound_same s t e h p l j q =
      e (k + j) (omega arith) refl p l ∙ h p l j q
      ∙ sym (total_ext k (λ i. mul_of (coef m j i) (byte_at len s p i)) (λ i. mul_of (coef m j i) (byte_at len t p i)) (λ i g. ap (mul_of (coef m j i)) (e i (omega arith) refl p l)))

  -- ---- at most one sound stripe agrees with s off shard r
  pub repaired_once : (r : ℕ) (s t u : List ℕ) → AllBytes t → AllBytes u → Sound k m len t → Sound k m len u
      → AgreeOff (k + m) len (r ∷ []) s t → AgreeOff (k + m) len (r ∷ []) s u → Agree (k + m) len t u
  repaired_once r s t u bt bu ht hu at au =
      determined k m len range (r ∷ []) (omega arith) t u bt bu ht hu (λ i h n p q. sym (at i h n p q) ∙ au i h n p q)

  -- ---- where changing shard r alone makes s sound, and changing shard q alone does, they are the same shard
  pub one_accused : 2 ≤ m → (r q : ℕ) (s t u : List ℕ) → (Sound k m len s → ⊥) → AllBytes t → AllBytes u → Sound k m len t → Sound k m len u
      → AgreeOff (k + m) len (r ∷ []) s t → AgreeOff (k + m) len (q ∷ []) s u → r ≡ q
  one_accused h r q s t u bad bt bu ht hu at au = go (eqb r q) refl
    where
      same : Agree (k + m) len t u
      same = both r (q ∷ []) s t u (omega arith) bt bu ht hu at au

      here : r ≢ q → (i : ℕ) → i < k + m → (p : ℕ) → p < len → (b : Bool) → eqb r i ≡ b → byte_at len s p i ≡ byte_at len t p i
      here n i h p l true e = au i h (off_other q i (λ w. n (eqb-true r i e ∙ sym w))) p l ∙ sym (same i h refl p l)
      here n i h p l false e = at i h (off_other r i (eqb-false r i e)) p l

      go : (b : Bool) → eqb r q ≡ b → r ≡ q
      go true e = eqb-true r q e
      go false e = absurd (bad (sound_same s t (λ i h n p l. here (eqb-false r q e) i h p l (eqb r i) refl) ht))

  -- ---- where s differs from a sound stripe in two shards and nowhere else, no change of a single shard makes it sound
  pub innocent : 3 ≤ m → (a b : ℕ) → a < k + m → b < k + m → a ≢ b → (s o : List ℕ) → AllBytes o → Sound k m len o
      → AgreeOff (k + m) len (a ∷ b ∷ []) s o → Differ len a s o → Differ len b s o
      → (r : ℕ) (t : List ℕ) → AllBytes t → Sound k m len t → AgreeOff (k + m) len (r ∷ []) s t → ⊥
  innocent h a b ha hb n s o bo ho ao da db r t bt ht at = go (eqb r a) refl
    where
      same : Agree (k + m) len t o
      same = both r (a ∷ b ∷ []) s t o (omega arith) bt bo ht ho at ao

      clash : (i : ℕ) → i < k + m → r ≢ i → Differ len i s o → ⊥
      clash i h w d = d.2 (at i h (off_other r i w) d.0 d.1 ∙ same i h refl d.0 d.1)

      go : (c : Bool) → eqb r a ≡ c → ⊥
      go true e = clash b hb (λ w. n (sym (eqb-true r a e) ∙ w)) db
      go false e = clash a ha (eqb-false r a e) da

-- g^0 times a byte is the byte
plain : (a : ℕ) → a < 256 → mul_of (power_of 0) a ≡ a
plain a h = ap (λ (c : ℕ). mul_of c a) bytes.power_zero ∙ one_times a h

-- the sums of its two rows with d for shard 3: the syndromes 0x7a and 0xf7, and what d adds to them
pub first_sum : (d : ℕ) → d < 256 → parity_of 4 2 0 (byte_at 1 (set found 3 d) 0) ≡ bit_xor 0x7a d
unfolding coef
first_sum d h =
    total_four (λ i. mul_of (coef 2 0 i) (byte_at 1 (set found 3 d) 0 i)) (plain 0x01 (lit< tt)) (plain 0x7b (lit< tt)) (plain 0 (lit< tt)) (plain d h)

second_sum : (d : ℕ) → parity_of 4 2 1 (byte_at 1 (set found 3 d) 0) ≡ bit_xor 0xf7 (mul_of 8 d)
unfolding coef
second_sum d =
    total_four (λ i. mul_of (coef 2 1 i) (byte_at 1 (set found 3 d) 0 i))
    (plain 0x01 (lit< tt))
    (ap (λ (c : ℕ). mul_of c 0x7b) bytes.power_one ∙ g_times_7b)
    (bytes.mul_zero (power_of 2))
    (ap (λ (c : ℕ). mul_of c d) (power_bit 3 (lit< tt)))

pub third_accused : Sound 4 2 1 (set found 3 0x7a)
third_accused (suc p) l j h = absurd (omega arith)
third_accused zero l zero h = sym (first_sum 0x7a (lit< tt))
third_accused zero l (suc zero) h = sym (second_sum 0x7a ∙ ap (bit_xor 0xf7) g3_times_7a)
third_accused zero l (suc (suc j)) h = absurd (omega arith)
