-- The unknown shards in ascending order are a list that a rebuild takes: each is a shard, and none is named twice. Assumes nothing.
use Rattle.std.specs.Prelude.{◌≡◌, refl, Bool, true, false, cond, not, ◌&&◌, List, [], ◌∷◌, ◌++◌, ℕ, zero, suc, ◌≤◌, ◌<◌, eqb, ltb}
use Rattle.std.proofs.Common.{sym, ap, ap₂, ◌∙◌, true≢false, append-nil, arith, ne_eqb, lt-ltb}
use Rattle.std.proofs.lemmas.Bool.{eqb-false, not-true}
use Rattle.codeword.specs.Stripe.{has}
use Rattle.codeword.specs.Named.{has_append}
use Rattle.solve.specs.Lost.{shards_of}
use Rattle.solve.specs.Lists.{and_left, and_right}
use Rattle.position.specs.Position.{ascending, ascending_past}

-- one more number that is below n and not named yet
shards_more : (n a : ℕ) (l : List ℕ) → shards_of n l ≡ true → has l a ≡ false → a < n → shards_of n (l ++ a ∷ []) ≡ true
shards_more n a [] e f h = rw (lt-ltb a n h)
shards_more n a (x ∷ l) e f h = go (eqb x a) refl f (λ g. shards_more n a l (and_right (ltb x n && not (has l x)) (shards_of n l) e) g h)
  where
    first : (ltb x n && not (has l x)) ≡ true
    first = and_left (ltb x n && not (has l x)) (shards_of n l) e

    go : (b : Bool) → eqb x a ≡ b → cond b true (has l a) ≡ false → (has l a ≡ false → shards_of n (l ++ a ∷ []) ≡ true)
        → (ltb x n && not (has (l ++ a ∷ []) x) && shards_of n (l ++ a ∷ [])) ≡ true
    go true q f ih = absurd (true≢false f)
    go false q f ih =
        ap₂ (λ (u v : Bool). ltb x n && not u && v)
        (has_append l (a ∷ []) x
        ∙ ap₂ (λ (u v : Bool). cond u true (cond v true false)) (not-true (has l x) (and_right (ltb x n) (not (has l x)) first)) (ne_eqb a x (λ s. eqb-false x a q (sym s))))
        (ih f)
        ∙ ap (λ (u : Bool). u && true && true) (and_left (ltb x n) (not (has l x)) first)

pub ascending_shards : (p : ℕ → Bool) (n N : ℕ) → n ≤ N → shards_of N (ascending p n) ≡ true
unfolding ascending
ascending_shards p zero N h = refl
ascending_shards p (suc n) N h = go (p n) (ascending_shards p n N (omega arith))
  where
    go : (b : Bool) → shards_of N (ascending p n) ≡ true → shards_of N (ascending p n ++ cond b (n ∷ []) []) ≡ true
    go true e = shards_more N n (ascending p n) e (ascending_past p n n (omega arith)) h
    go false e = ap (shards_of N) (append-nil (ascending p n)) ∙ e
