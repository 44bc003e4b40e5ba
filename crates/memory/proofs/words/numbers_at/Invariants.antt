-- The loop's invariant: what is read and what is left make the whole.
use mathlib.Core.Path.{◌≡◌}
use mathlib.Core.List.{◌++◌}
use Prim.Native.Nat.{◌-◌, ◌*◌}
use lib.ListN.{length, take}
use Rattle.memory.specs.Words.{numbers_at}
use Rattle.memory.specs.Numbers.{number_count}
use Rattle.memory.proofs.words.numbers_at.Given as goal

abbrev pub invariant-loop-i : goal.invariant-loop-i
invariant-loop-i l = (length l.a ≡ number_count) × (take l.i l.a ++ numbers_at (number_count - l.i) l.bytes (8 * l.i) ≡ numbers_at number_count l.bytes 0)
