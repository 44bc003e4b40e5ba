-- What a prepared write has: the stripe is sound, block i is the data, the other data shards are those of the restored stripe; and where
-- something was lost, the restored stripe is the one that is shown. Assumes nothing.
use Rattle.std.specs.Prelude.{◌≡◌, refl, Bool, true, false, cond, List, [], ◌≢◌, ◌⊎◌, ℕ, ◌+◌, ◌-◌, ◌*◌, ◌≤◌, ◌<◌, length, get_or, take, drop, Ok, Err}
use Rattle.std.proofs.Common.{ap, ◌∙◌, inl, inr, ⊎_elim, suc-mul, mul-le-mul_right, arith}
use Rattle.std.proofs.Math.Seq.{paste}
use Rattle.std.proofs.lemmas.List.Edits.{length-paste}
use Rattle.field.specs.declared.Refusal.TheVariants.{BadShape}
use Rattle.disk.specs.Geometry.{InRange, Splits}
use Rattle.disk.specs.Image.{lt_or_ge, get_or_paste_inside, get_or_paste_other}
use Rattle.disk.specs.declared.geometry.Geometry.{Geometry}
use Rattle.codeword.specs.Stripe.{byte_at, Sound}
use Rattle.code.specs.Stripes.{Said, Mends}
use Rattle.code.specs.declared.Verdict.TheVariants as verdict
use Rattle.strips.specs.Seen.{shard_bytes, shard_shown}
use Rattle.strips.specs.Answers.{few_lost}
use Rattle.strips.specs.Laws.{row_bytes, row_shaped, rebuilt_shown}
use Rattle.strips.specs.Turns.{row_fits}
use Rattle.strips.specs.Whole.{stripe_seen, none_lost, Restored, PreparedBy}

mends_length : (k m len : ℕ) (v : Said) (before after : List ℕ) → Mends k m len v before after → length after ≡ length before
mends_length k m len (Ok verdict.Sound) before after h = ap length h
mends_length k m len (Ok (verdict.Accused r)) before after h = h.0
mends_length k m len (Ok verdict.Unsound) before after h = ap length h
mends_length k m len (Err x) before after h = ap length h

pub restored_length : (n k t there len : ℕ) (all : Bool) (before after : List ℕ) → Restored n k t there len all before after → length after ≡ length before
restored_length n k t there len all before after w = go (none_lost n t there) refl
  where
    go : (b : Bool) → none_lost n t there ≡ b → length after ≡ length before
    go true e = let h = w.repaired e in mends_length k (n - k) len (Ok h.0) before after h.1.mends
    go false e = (w.rebuilt e).1.same

-- shards do not overlap
shards_apart : (len j i p : ℕ) → j ≢ i → p < len → (j * len + p < i * len) ⊎ (i * len + len ≤ j * len + p)
shards_apart len j i p n h =
    ⊎_elim (λ (l : j < i). inl (omega (arith, suc-mul j len, mul-le-mul_right len l)))
    (λ (g : i ≤ j). inr (omega (arith, row_fits j i len (strict g)))) (lt_or_ge j i)
  where
    strict : i ≤ j → i < j
    strict g = ⊎_elim (λ (l : i < j). l) (λ (e : j ≤ i). absurd (n (omega arith))) (lt_or_ge i j)

module _ (g : Geometry) (k : ℕ) (img : List ℕ) (there t i : ℕ) (bytes : List ℕ) (all : Bool) (after : List ℕ) (w : PreparedBy g k img there t i bytes all after)
    (range : InRange g) (split : Splits g.n k) (hi : i < k) (whole : length bytes ≡ shard_bytes g) where
  abbrev len : ℕ
  len = shard_bytes g

  stripe_length : length w.stripe ≡ g.n * len
  stripe_length =
      restored_length g.n k t there len all (stripe_seen g img there t) w.stripe w.restored ∙ row_bytes g img there 0 [] t 0 g.c

  -- shard i lies within
  inside : i * len + len ≤ length w.stripe
  inside = omega (arith, stripe_length, row_fits g.n i len (omega (arith, split.parity)))

  abbrev put : List ℕ
  put = paste w.stripe (i * len) bytes len

  put_length : length put ≡ g.n * len
  put_length = length-paste w.stripe (i * len) bytes len inside (omega arith) ∙ stripe_length

  -- the encode is not refused
  pub prepared_done : w.answer ≡ Ok tt
  prepared_done =
      w.encoded.answers
      ∙ ap (λ (b : Bool). cond b (Ok tt) (Err BadShape))
      (row_shaped g.n k len (length put) split (omega (arith, range.some)) (omega (arith, range.short)) put_length)

  pub prepared_length : length after ≡ g.n * len
  prepared_length = w.encoded.same ∙ put_length

  -- THE STRIPE IS SOUND
  pub prepared_sound : Sound k (g.n - k) len after
  prepared_sound = w.encoded.sound prepared_done

  -- BLOCK i IS THE DATA
  pub prepared_block : (p : ℕ) → p < len → byte_at len after p i ≡ get_or bytes p 0
  prepared_block p hp = w.encoded.kept prepared_done i hi p hp ∙ get_or_paste_inside w.stripe (i * len) bytes len inside (omega arith) p hp

  -- THE OTHER BLOCKS are those of the restored stripe
  pub prepared_others : (j : ℕ) → j < k → j ≢ i → (p : ℕ) → p < len → byte_at len after p j ≡ byte_at len w.stripe p j
  prepared_others j hj n p hp =
      w.encoded.kept prepared_done j hj p hp
      ∙ get_or_paste_other w.stripe (i * len) bytes len inside (omega arith) (j * len + p) (shards_apart len j i p n hp)

  -- WHERE SOMETHING IS LOST, the restored stripe is what is shown
  pub prepared_shown : none_lost g.n t there ≡ false → few_lost g.n k t there ≡ true → (r : ℕ) → r < g.n
      → take len (drop (r * len) w.stripe) ≡ shard_shown g k img there 0 [] t 0 g.c r
  prepared_shown lost few r hr =
      let h = w.restored.rebuilt lost in
      rebuilt_shown g k img there 0 [] t 0 g.c split range.some (omega (arith, range.short)) few h.0 (stripe_seen g img there t) w.stripe refl h.1 r hr
