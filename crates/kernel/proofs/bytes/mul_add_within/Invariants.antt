use Rattle.kernel.specs.Kernel.{MulAdded}
use Rattle.kernel.proofs.bytes.mul_add_within.Given as goal

abbrev pub invariant-loop-i : goal.invariant-loop-i
invariant-loop-i l = MulAdded l.c l.dst l.src l.i l.initial.buf l.buf
