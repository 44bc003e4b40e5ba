-- The codes of document 01, section 7. Assumes nothing.
use Rattle.std.specs.Prelude.{ℕ, ◌≤◌, Result}
use Rattle.std.proofs.Common.{lit≤}
use Rattle.field.specs.declared.Refusal as declared
use Rattle.field.specs.declared.Refusal.TheVariants.{BadShape, TooMany, BadShard, Zero}

-- what became of a request that changes a slice
abbrev pub Answer : Type 0
Answer = Result (Unit {0}) declared.Refusal

abbrev pub number_of : declared.Refusal → ℕ
number_of BadShape = 1
number_of TooMany = 2
number_of BadShard = 3
number_of Zero = 4

pub number_small : (x : declared.Refusal) → number_of x ≤ 4
number_small BadShape = lit≤ tt
number_small TooMany = lit≤ tt
number_small BadShard = lit≤ tt
number_small Zero = lit≤ tt
