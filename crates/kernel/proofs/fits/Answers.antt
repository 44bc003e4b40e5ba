use native.Mathlib.Omega.{arith}
use borrow.Author.Tests.{lt-leb, le-leb}
use native.Mathlib.Nat.{mul-le-mul}
use Rattle.kernel.specs.Kernel.{fits_of}
use Rattle.kernel.proofs.fits.Goals as goal

pub returns-then-n-gt-N_MOST : goal.returns-then-n-gt-N_MOST
unfolding fits_of
returns-then-n-gt-N_MOST c = simp (lt-leb _ _ c.if-n-gt-N_MOST.true)

pub returns-then-len-gt-LEN_MOST : goal.returns-then-len-gt-LEN_MOST
unfolding fits_of
returns-then-len-gt-LEN_MOST c = simp (le-leb _ _ c.if-n-gt-N_MOST.false, lt-leb _ _ c.if-len-gt-LEN_MOST.true)

pub overflow_mul-n : goal.overflow_mul-n
overflow_mul-n c = record { fits = omega (arith, mul-le-mul c.if-n-gt-N_MOST.false c.if-len-gt-LEN_MOST.false) }

pub returns-then-size-n : goal.returns-then-size-n
unfolding fits_of
returns-then-size-n c = simp (le-leb _ _ c.if-n-gt-N_MOST.false, le-leb _ _ c.if-len-gt-LEN_MOST.false, lt-leb _ _ c.if-size-n.true)

pub returns-then-room-n : goal.returns-then-room-n
unfolding fits_of
returns-then-room-n c = simp (le-leb _ _ c.if-n-gt-N_MOST.false, le-leb _ _ c.if-len-gt-LEN_MOST.false, le-leb _ _ c.if-size-n.false, lt-leb _ _ c.if-room-n.true)

pub returns : goal.returns
unfolding fits_of
returns c = simp (le-leb _ _ c.if-n-gt-N_MOST.false, le-leb _ _ c.if-len-gt-LEN_MOST.false, le-leb _ _ c.if-size-n.false, le-leb _ _ c.if-room-n.false)
