use mathlib.Core.Path.{◌≡◌}
use lib.ListN.{drop}
use Rattle.solve.specs.Lost.{shards_of}
use Rattle.solve.proofs.shards.Given as goal

abbrev pub invariant-loop-i : goal.invariant-loop-i
invariant-loop-i l = shards_of l.n (drop l.i l.list) ≡ shards_of l.n l.list
