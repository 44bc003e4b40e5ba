-- The loop's invariant: the numbers that are left make the whole.
use mathlib.Core.Path.{◌≡◌}
use Prim.Native.Nat.{◌+◌, ◌*◌}
use lib.ListN.{length, drop}
use Rattle.memory.specs.Words.{with_words}
use Rattle.memory.proofs.words.put_numbers.Given as goal

abbrev pub invariant-loop-i : goal.invariant-loop-i
invariant-loop-i l = (length l.bytes ≡ length l.initial.bytes) × (with_words (drop l.i l.a) l.bytes (8 * (l.from + l.i)) ≡ with_words l.a l.initial.bytes (8 * l.from))
