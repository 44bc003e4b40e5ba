-- A mask of 64 bits is below 2^n from 64 on.
use borrow.Author.Tests.{lt-ltb, le-leb}
use mathlib.Core.Path.{sym, ap, ◌∙◌}
use native.Mathlib.Omega.{arith}
use Prim.Native.Nat.{◌^◌}
use lib.Pow.{shl_exact, pow_mono}
use native.Mathlib.Nat.{one-mul}
use lib.Dec.{ltb}
use Rattle.disk.proofs.mask.all_below.Goals as goal

pub returns-then-n-ge-MASK_BITS : goal.returns-then-n-ge-MASK_BITS
returns-then-n-ge-MASK_BITS c = let a = c.args in
    le-leb _ _ c.if-n-ge-MASK_BITS.true ∙ sym (lt-ltb a.mask (2 ^ a.n) (omega (arith, pow_mono c.if-n-ge-MASK_BITS.true)))

pub returns-else-n-ge-MASK_BITS : goal.returns-else-n-ge-MASK_BITS
returns-else-n-ge-MASK_BITS c = ap (ltb c.args.mask) (shl_exact {a = 1} 1 c.args.n 64 (omega arith) (omega arith) ∙ one-mul (2 ^ c.args.n))
