-- Any k shards can be completed: a table solved for m shards gives these from the others, so that the equations hold. Assumes
-- nothing.
use Rattle.std.specs.Prelude.{◌≡◌, List, length, get_or}
use Rattle.std.proofs.Common.{arith}
use Prim.Native.Nat.{ℕ, ◌+◌, ◌≤◌, ◌<◌}
use Rattle.codeword.specs.Stripe.{Holds, Bytes}
use Rattle.codeword.specs.Table.{SolvedFor}
use Rattle.codeword.specs.Complete.{completed, completed_bytes, completed_rows}

module _ (k m : ℕ) (lost e : List ℕ) (s : SolvedFor k m lost e) (few : length lost ≤ m)
    (inside : (c : ℕ) → c < length lost → get_or lost c 0 < k + m) where
  module _ (x : ℕ → ℕ) (b : Bytes x) where
    -- with all m shards of the list given, the equations hold
    pub completed_holds : length lost ≡ m → Holds k m (completed (k + m) lost e x (length lost))
    completed_holds q =
        s.same.back (completed (k + m) lost e x (length lost)) ((completed_bytes k m lost e s few inside x b) (length lost))
        (λ j hj. (completed_rows k m lost e s few inside x b) (length lost) (omega arith) j (omega arith))
