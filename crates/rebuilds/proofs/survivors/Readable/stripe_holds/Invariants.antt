-- `stripe_holds` meets its contract. The loop's invariant: the sectors passed hold, and the row keeps its length. Assumes nothing.
use mathlib.Core.Path.{◌≡◌}
use mathlib.Core.Bool.{true}
use Rattle.position.specs.Search.{all}
use Rattle.rebuilds.specs.Survivors.{sector_holds}
use lib.ListN.{length}
use Rattle.rebuilds.proofs.survivors.Readable.stripe_holds.Given as goal

abbrev pub invariant-loop-j : goal.invariant-loop-j
invariant-loop-j l = (all l.j (sector_holds l.self.from.g l.self.k l.self.from.image.now l.self.from.there l.self.t) ≡ true) × (length l.row ≡ length l.initial.row)
