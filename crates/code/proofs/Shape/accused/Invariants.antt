use Prim.Native.Nat.{ℕ, ◌<◌, ◌+◌, ◌*◌}
use mathlib.Core.Path.{◌≡◌}
use lib.ListN.{length}
use Rattle.code.specs.Stripes.{Accuses}
use Rattle.code.proofs.Shape.accused.Given as goal

abbrev pub invariant-loop-r : goal.invariant-loop-r
invariant-loop-r l = (length l.table ≡ l.self.m * (l.self.k + l.self.m)) × ((i : ℕ) → i < l.r → Accuses l.self.k l.self.m l.self.len l.stripe i → ⊥)
