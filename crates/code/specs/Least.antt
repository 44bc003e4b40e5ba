-- What rebuild makes of survivors that contradict each other is a function of k, m, the list and the k least survivors alone: of the
-- shards in `padded` nothing is looked at (`least`, `goes_by_k` of specs/Padded.antt say which these are). Assumes nothing.
use Rattle.std.specs.Prelude.{◌≡◌, refl, Bool, true, false, cond, List, ℕ, ◌+◌, ◌<◌, leb, length, get_or, Ok, Err}
use Rattle.std.proofs.Common.{sym, ◌∙◌, arith, leb-true}
use Rattle.field.specs.declared.Refusal.TheVariants.{BadShape, TooMany, BadShard}
use Rattle.field.specs.Refusal.{Answer}
use Rattle.codeword.specs.Stripe.{InRange, byte_at, Sound, AgreeOff}
use Rattle.codeword.specs.Unique.{AllBytes}
use Rattle.codeword.proofs.Unique.{determined}
use Rattle.solve.specs.Lost.{shards_of, Lost}
use Rattle.code.specs.Shape.{shaped_of}
use Rattle.solve.specs.Lists.{shards_lost}
use Rattle.code.specs.Lists.{shaped_means}
use Rattle.code.specs.Padded.{padded, padded_lost}
use Rattle.code.specs.Stripes.{Rebuilt}

module _ (k m len : ℕ) (missing before after : List ℕ) (w : Rebuilt k m len missing (Ok tt) before after) where
  -- what was not refused
  taken : InRange k m × Lost k m missing
  taken = go (shaped_of k m len (length before)) (leb (length missing) m) (shards_of (k + m) missing) refl refl refl w.answers
    where
      go : (a b c : Bool) → shaped_of k m len (length before) ≡ a → leb (length missing) m ≡ b → shards_of (k + m) missing ≡ c
          → ◌≡◌ {A = Answer} (Ok tt) (cond a (cond b (cond c (Ok tt) (Err BadShard)) (Err TooMany)) (Err BadShape)) → InRange k m × Lost k m missing
      go false b c ea eb ec e = absurd (let z : ◌≡◌ {A = ℕ} 0 1 = cc in omega arith)
      go true false c ea eb ec e = absurd (let z : ◌≡◌ {A = ℕ} 0 1 = cc in omega arith)
      go true true false ea eb ec e = absurd (let z : ◌≡◌ {A = ℕ} 0 1 = cc in omega arith)
      go true true true ea eb ec e =
          ((shaped_means k m len (length before) ea).range, shards_lost k m missing (leb-true (length missing) m eb) ec)

  -- every sound stripe that has the k least survivors has the shards filled in
  pub every : (o : List ℕ) → AllBytes o → Sound k m len o → AgreeOff (k + m) len (padded k m missing) before o
      → (c : ℕ) → c < length missing → (p : ℕ) → p < len → byte_at len after p (get_or missing c 0) ≡ byte_at len o p (get_or missing c 0)
  every o bo so ag c hc p hp =
      let g = w.goes_by refl in
      g.filled c hc p hp
      ∙ determined k m len taken.0 (padded k m missing) (padded_lost k m missing taken.1).few g.stripe o g.bytes bo g.sound so
      (λ r hr n q hq. sym (g.agrees r hr n q hq) ∙ ag r hr n q hq) (get_or missing c 0) (taken.1.shards c hc) refl p hp

-- two stripes that have the same k least survivors, whatever else they have, get the same shards filled in
pub fixed : (k m len : ℕ) (missing s s' t t' : List ℕ) → Rebuilt k m len missing (Ok tt) s t → Rebuilt k m len missing (Ok tt) s' t'
    → AgreeOff (k + m) len (padded k m missing) s s'
    → (c : ℕ) → c < length missing → (p : ℕ) → p < len → byte_at len t p (get_or missing c 0) ≡ byte_at len t' p (get_or missing c 0)
fixed k m len missing s s' t t' w w' ag c hc p hp =
    let g = w'.goes_by refl in
    every k m len missing s t w g.stripe g.bytes g.sound (λ r hr n q hq. ag r hr n q hq ∙ g.agrees r hr n q hq) c hc p hp
    ∙ sym (g.filled c hc p hp)
