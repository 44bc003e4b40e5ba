-- How many shards are unknown, in the protocol's count. Assumes nothing.
use Rattle.std.specs.Prelude.{◌≡◌, refl, Bool, true, false, cond, [], ◌∷◌, ℕ, zero, suc, ◌+◌, length}
use Rattle.std.proofs.Common.{◌∙◌, arith, length-append}
use Rattle.protocol.specs.Count.{count}
use Rattle.protocol.specs.Count as Count
use Rattle.position.specs.Position.{ascending}

pub ascending_length : (p : ℕ → Bool) (n : ℕ) → length (ascending p n) ≡ count p n
unfolding ascending
ascending_length p zero = refl
ascending_length p (suc n) = length-append (ascending p n) (cond (p n) (n ∷ []) []) ∙ go (p n) (ascending_length p n)
  where
    go : (b : Bool) → length (ascending p n) ≡ count p n → length (ascending p n) + length (cond b (n ∷ []) []) ≡ Count.tally b + count p n
    go true e = omega arith
    go false e = omega arith
