-- The scrub's and the repair's answers in the other direction: what is so of a stripe is what is said of it. A shard is accused
-- exactly where some sound stripe has the other shards; so at most one is, and two wrong shards of three parities accuse nobody.
-- Assumes nothing.
use Rattle.std.specs.Prelude.{◌≡◌, refl, Bool, true, false, cond, List, [], ◌∷◌, ◌≢◌, ℕ, zero, suc, ◌+◌, ◌*◌, ◌≤◌, ◌<◌, eqb, length, set, Ok, Err}
use Rattle.std.proofs.Common.{sym, ap, ◌∙◌, arith, lit<, eqb-true}
use Rattle.std.proofs.lemmas.Bool.{eqb-false}
use Rattle.codeword.specs.Stripe.{byte_at, Sound, AgreeOff, Agree}
use Rattle.codeword.specs.Unique.{AllBytes}
use Rattle.codeword.specs.Liars.{Differ, found, third_alone}
use Rattle.codeword.proofs.Liars.{one_accused, innocent, repaired_once, first_sum, third_accused}
use Rattle.codeword.specs.Named.{has_not}
use Rattle.codeword.specs.Laid.{laid, laid_at, laid_bytes}
use Rattle.codeword.proofs.Laid.{laid_sound, holds_ext}
use Rattle.codeword.specs.Mend.{put, put_at, put_off, put_bytes}
use Rattle.code.specs.Shape.{shaped_of, Shaped}
use Rattle.code.specs.Lists.{shaped_means}
use Rattle.code.specs.Stripes.{Said, Accuses, Says, Repaired}
use Rattle.code.specs.declared.Verdict.{Verdict}
use Rattle.code.specs.declared.Verdict.TheVariants as verdict

module _ (k m len : ℕ) (s : List ℕ) (r : ℕ) where
  -- a sound stripe that agrees with s but for shard r
  abbrev pub Remedy : Type 0
  Remedy = (t : List ℕ) × AllBytes t × Sound k m len t × AgreeOff (k + m) len (r ∷ []) s t

  pub remedy : 1 ≤ len → AllBytes s → Accuses k m len s r → Remedy
  remedy hl b a = (laid (k + m) len x, laid_bytes (k + m) len x hl x_bytes, laid_sound k m len x (λ p hp. (a.1.1 p hp).1), agree)
    where
      v : ℕ → ℕ
      v = a.1.0

      x : ℕ → ℕ → ℕ
      x p = put r (v p) (byte_at len s p)

      x_bytes : (p q : ℕ) → p < len → x p q < 256
      x_bytes p q hp = put_bytes r (v p) (byte_at len s p) (a.1.1 p hp).0 (λ i. b (i * len + p)) q

      agree : AgreeOff (k + m) len (r ∷ []) s (laid (k + m) len x)
      agree q hq h p hp =
          sym (laid_at (k + m) len x p q hp hq ∙ put_off r (v p) q (byte_at len s p) (λ e. has_not (r ∷ []) q 0 h (lit< tt) (sym e)))

-- and the other way round
pub accused_by : (k m len : ℕ) (s : List ℕ) (r : ℕ) → r < k + m → Remedy k m len s r → Accuses k m len s r
accused_by k m len s r hr w = (
  hr,
  (
    λ p. byte_at len w.0 p r,
    λ p hp. (
      w.1 (r * len + p),
      holds_ext k m (byte_at len w.0 p) (put r (byte_at len w.0 p r) (byte_at len s p)) (λ q hq. at p q hp hq (eqb r q) refl) (w.2 p hp),
    ),
  ),
)
  where
    at : (p q : ℕ) → p < len → q < k + m → (c : Bool) → eqb r q ≡ c → byte_at len w.0 p q ≡ put r (byte_at len w.0 p r) (byte_at len s p) q
    at p q hp hq true e =
        ap (byte_at len w.0 p) (sym (eqb-true r q e))
        ∙ sym (ap (put r (byte_at len w.0 p r) (byte_at len s p)) (sym (eqb-true r q e)) ∙ put_at r (byte_at len w.0 p r) (byte_at len s p))
    at p q hp hq false e =
        sym (put_off r (byte_at len w.0 p r) q (byte_at len s p) (λ z. eqb-false r q e (sym z))
        ∙ w.3 q hq (ap (λ (c : Bool). cond c true false) e) p hp)

-- ---- the verdict is what is so

never : {A : Type 0} → ◌≡◌ {A = Bool} true false → A
never e = absurd (let z : ◌≡◌ {A = ℕ} 0 1 = cc in omega arith)

-- one answer has one verdict
pub said_one : {v w : Verdict} → ◌≡◌ {A = Said} (Ok v) (Ok w) → v ≡ w
said_one e = cc

module _ (k m len : ℕ) (s : List ℕ) (fits : shaped_of k m len (length s) ≡ true) (b : AllBytes s) where
  shape : Shaped k m len (length s)
  shape = shaped_means k m len (length s) fits

  pub scrub_sound : (v : Said) → Says k m len s v → Sound k m len s → v ≡ Ok verdict.Sound
  scrub_sound (Ok verdict.Sound) h g = refl
  scrub_sound (Ok (verdict.Accused r)) h g = absurd (h.1 g)
  scrub_sound (Ok verdict.Unsound) h g = absurd (h.1 g)
  scrub_sound (Err x) h g = never (sym fits ∙ h.0)

  pub at_most_one : 2 ≤ m → (Sound k m len s → ⊥) → (r q : ℕ) → Accuses k m len s r → Accuses k m len s q → r ≡ q
  at_most_one hm n r q ar aq =
      let t = remedy k m len s r shape.len_least b ar in
      let u = remedy k m len s q shape.len_least b aq in
      one_accused k m len shape.range hm r q s t.0 u.0 n t.1 u.1 t.2 u.2 t.3 u.3

  pub scrub_accused : (v : Said) → Says k m len s v → 2 ≤ m → (Sound k m len s → ⊥) → (r : ℕ) → Accuses k m len s r → v ≡ Ok (verdict.Accused r)
  scrub_accused (Ok verdict.Sound) h hm n r a = absurd (n h.1)
  scrub_accused (Ok (verdict.Accused q)) h hm n r a = ap (λ (i : ℕ). Ok (verdict.Accused i)) (at_most_one hm n q r h.3 a)
  scrub_accused (Ok verdict.Unsound) h hm n r a = absurd (h.2 hm r a)
  scrub_accused (Err x) h hm n r a = never (sym fits ∙ h.0)

  pub scrub_unsound : (v : Said) → Says k m len s v → (Sound k m len s → ⊥) → (2 ≤ m → (r : ℕ) → Accuses k m len s r → ⊥) → v ≡ Ok verdict.Unsound
  scrub_unsound (Ok verdict.Sound) h n u = absurd (n h.1)
  scrub_unsound (Ok (verdict.Accused q)) h n u = absurd (u h.2 q h.3)
  scrub_unsound (Ok verdict.Unsound) h n u = refl
  scrub_unsound (Err x) h n u = never (sym fits ∙ h.0)

  -- two wrong shards, three parities: nobody is accused
  pub two_liars : 3 ≤ m → (a c : ℕ) → a < k + m → c < k + m → a ≢ c → (o : List ℕ) → AllBytes o → Sound k m len o
      → AgreeOff (k + m) len (a ∷ c ∷ []) s o → Differ len a s o → Differ len c s o → (r : ℕ) → Accuses k m len s r → ⊥
  two_liars hm a c ha hc q o bo so ag da dc r acc =
      let t = remedy k m len s r shape.len_least b acc in
      innocent k m len shape.range hm a c ha hc q s o bo so ag da dc r t.0 t.1 t.2 t.3

  -- the repaired stripe is the only sound one with these other shards
  pub repaired_only : (r : ℕ) (t u : List ℕ) → Repaired k m len (Ok (verdict.Accused r)) s t → AllBytes t → AllBytes u → Sound k m len u
      → AgreeOff (k + m) len (r ∷ []) s u → Agree (k + m) len t u
  repaired_only r t u w bt bu su au =
      repaired_once k m len shape.range r s t u bt bu w.mends.2 su w.mends.1 au

-- ---- what it can't do: with two parities the two wrong shards of document 01, section 4, accuse an innocent third

abbrev mended : List ℕ
mended = set found 3 0x7a

mended_bytes : AllBytes mended
mended_bytes zero = lit< tt
mended_bytes (suc zero) = lit< tt
mended_bytes (suc (suc zero)) = lit< tt
mended_bytes (suc (suc (suc zero))) = lit< tt
mended_bytes (suc (suc (suc (suc zero)))) = lit< tt
mended_bytes (suc (suc (suc (suc (suc zero))))) = lit< tt
mended_bytes (suc (suc (suc (suc (suc (suc i)))))) = lit< tt

pub innocent_third : (Sound 4 2 1 found → ⊥) × Accuses 4 2 1 found 3
innocent_third = (
  λ h. let z : ◌≡◌ {A = ℕ} 0 0x7a = h 0 (lit< tt) 0 (lit< tt) ∙ first_sum 0 (lit< tt) in omega arith,
  accused_by 4 2 1 found 3 (lit< tt) (mended, mended_bytes, third_accused, third_alone),
)
