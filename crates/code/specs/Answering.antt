-- Each way out of encode, rebuild and repair meets its contract. Assumes nothing.
use Rattle.std.specs.Prelude.{◌≡◌, refl, true, false, List, [], ◌∷◌, ℕ, zero, suc, ◌+◌, ◌≤◌, ◌<◌, length, get_or, take, Ok, Err}
use Rattle.std.specs.Result.{IsOk}
use Rattle.std.proofs.Common.{sym, ◌∙◌, subst, arith, get_or-take, le-leb, true≢false}
use Rattle.std.proofs.lemmas.Bool.{lt-leb}
use Rattle.codeword.specs.Unique.{AllBytes}
use Rattle.codeword.specs.Stripe.{InRange, has}
use Rattle.codeword.specs.Named.{has_none}
use Rattle.field.specs.declared.Refusal.{Refusal}
use Rattle.field.specs.declared.Refusal.TheVariants.{BadShape, TooMany, BadShard}
use Rattle.field.specs.Refusal.{Answer}
use Rattle.solve.specs.Lost.{shards_of, Lost}
use Rattle.code.specs.Shape.{shaped_of, rebuild_answer}
use Rattle.solve.specs.Lists.{shards_lost}
use Rattle.code.specs.Lists.{shaped_means}
use Rattle.code.specs.Stripes.{Said, Says, Encoded, Rebuilt}
use Rattle.code.specs.Blame.{Filled}
use Rattle.code.specs.Filling.{filled_rebuilt, filled_sound, filled_goes_by}

not_done : {A : Type 0} (x : Refusal) → ◌≡◌ {A = Answer} (Err x) (Ok tt) → A
not_done x e = absurd (let z : ◌≡◌ {A = ℕ} 0 1 = cc in omega arith)

-- where there is such a stripe, a scrub is not refused
pub scrub_done : (k m len : ℕ) (s : List ℕ) (v : Said) → shaped_of k m len (length s) ≡ true → Says k m len s v → IsOk v
scrub_done k m len s (Ok v) e h = refl
scrub_done k m len s (Err x) e h = absurd (true≢false (sym e ∙ h.0))

module _ (k m len : ℕ) (missing s : List ℕ) where
  refused_is : (x : _) → Err x ≡ rebuild_answer k m len (length s) missing → Rebuilt k m len missing (Err x) s s
  refused_is x e =
      record { answers = e; same = refl; refused = λ y q. refl; survivors = λ q. not_done x q; rebuilt = λ q. not_done x q; sound = λ q. not_done x q; goes_by = λ q. not_done x q }

  pub rebuilt_shape : shaped_of k m len (length s) ≡ false → Rebuilt k m len missing (Err BadShape) s s
  rebuilt_shape e = refused_is BadShape (simp e)

  pub rebuilt_many : shaped_of k m len (length s) ≡ true → m < length missing → Rebuilt k m len missing (Err TooMany) s s
  rebuilt_many e h = refused_is TooMany (simp (e, lt-leb (length missing) m h))

  pub rebuilt_shard : shaped_of k m len (length s) ≡ true → length missing ≤ m → shards_of (k + m) missing ≡ false
      → Rebuilt k m len missing (Err BadShard) s s
  rebuilt_shard e h q = refused_is BadShard (simp (e, le-leb (length missing) m h, q))

  pub rebuilt_done : (t : List ℕ) → shaped_of k m len (length s) ≡ true → length missing ≤ m → shards_of (k + m) missing ≡ true → AllBytes s → AllBytes t
      → Filled k m len missing s t → Rebuilt k m len missing (Ok tt) s t
  rebuilt_done t e h q bs b f =
      record {
        answers = simp (e, le-leb (length missing) m h, q);
        same = f.same;
        refused = λ x z. not_done x (sym z);
        survivors = λ z. f.survivors;
        rebuilt = λ z. filled_rebuilt k m len missing s t (shards_lost k m missing h q) b f;
        sound = λ z n. filled_sound k m len missing s t b n f;
        goes_by = λ z. filled_goes_by k m len missing s t (shards_lost k m missing h q) b f (shaped_means k m len (length s) e).len_least bs;
      }

-- ---- the parity shards, as a list

abbrev pub parities : ℕ → ℕ → List ℕ
parities k m = take m (k ∷ (k + 1) ∷ (k + 2) ∷ [])

pub parities_many : (k m : ℕ) → InRange k m → length (parities k m) ≡ m
parities_many k zero g = refl
parities_many k (suc zero) g = refl
parities_many k (suc (suc zero)) g = refl
parities_many k (suc (suc (suc zero))) g = refl
parities_many k (suc (suc (suc (suc m)))) g = absurd (omega (arith, g.m_most_lem))

parity_at : (k c : ℕ) → c < 3 → get_or (k ∷ (k + 1) ∷ (k + 2) ∷ []) c 0 ≡ k + c
parity_at k zero h = omega arith
parity_at k (suc zero) h = refl
parity_at k (suc (suc zero)) h = refl
parity_at k (suc (suc (suc c))) h = absurd (omega arith)

pub parities_lost : (k m : ℕ) → InRange k m → Lost k m (parities k m)
parities_lost k m g =
    record {
      few = omega (arith, parities_many k m g);
      shards = λ c h. subst (λ (x : ℕ). x < k + m) (sym (at c h)) (omega (arith, parities_many k m g));
      distinct = λ i c h l e. omega (arith, at i (omega arith), at c l);
    }
  where
    at : (c : ℕ) → c < length (parities k m) → get_or (parities k m) c 0 ≡ k + c
    at c h =
        get_or-take m (k ∷ (k + 1) ∷ (k + 2) ∷ []) c 0 (omega (arith, parities_many k m g))
        ∙ parity_at k c (omega (arith, parities_many k m g, g.m_most_lem))

pub parities_off : (k m r : ℕ) → InRange k m → r < k → has (parities k m) r ≡ false
parities_off k m r g h =
    has_none (parities k m) r
    (λ c i q. omega (
      arith,
      get_or-take m (k ∷ (k + 1) ∷ (k + 2) ∷ []) c 0 (omega (arith, parities_many k m g)),
      parity_at k c (omega (arith, parities_many k m g, g.m_most_lem)),
    ))

module _ (k m len : ℕ) (s : List ℕ) where
  pub encoded_shape : shaped_of k m len (length s) ≡ false → Encoded k m len (Err BadShape) s s
  encoded_shape e =
      record { answers = simp e; same = refl; refused = λ x q. refl; kept = λ q. not_done BadShape q; sound = λ q. not_done BadShape q }

  pub encoded_done : (t : List ℕ) → shaped_of k m len (length s) ≡ true → InRange k m → AllBytes t → Filled k m len (parities k m) s t
      → Encoded k m len (Ok tt) s t
  encoded_done t e g b f =
      record {
        answers = simp e;
        same = f.same;
        refused = λ x z. not_done x (sym z);
        kept = λ z r h p hp. f.survivors r (omega arith) (parities_off k m r g h) p hp;
        sound = λ z. filled_sound k m len (parities k m) s t b (parities_many k m g) f;
      }
