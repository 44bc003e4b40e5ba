-- The loop's invariant: the leader of the slots passed.
use mathlib.Core.Path.{◌≡◌}
use Rattle.redo.specs.Decide.{key_of, leader_of}
use Rattle.redo.proofs.tails.Logs.leader.Given as goal

abbrev pub invariant-loop-d : goal.invariant-loop-d
invariant-loop-d l = l.first ≡ leader_of (key_of l.self.g l.self.image.now l.self.l) l.d
