-- 2^d is added where the bit is not set; the sum has 64 bits.
use borrow.Author.Tests.{le-ltb, lt-ltb}
use mathlib.Core.Path.{◌≡◌, sym, ◌∙◌}
use native.Mathlib.Omega.{arith}
use Prim.Native.Nat.{◌%◌, ◌^◌, ◌+◌, ◌*◌}
use lib.Pow.{shl_exact}
use native.Mathlib.Nat.{one-mul}
use Rattle.disk.specs.Mask.{with_slot, with_lt}
use Rattle.disk.proofs.mask.with_slot.Goals as goal

pub returns-then-d-ge-MASK_BITS : goal.returns-then-d-ge-MASK_BITS
returns-then-d-ge-MASK_BITS c = rw (le-ltb _ _ c.if-d-ge-MASK_BITS.true)

pub returns-then-has : goal.returns-then-has
unfolding with_slot
returns-then-has c = rw (lt-ltb _ _ c.if-d-ge-MASK_BITS.false, sym c.has.ensures ∙ c.if-has.true)

pub overflow_add-result : goal.overflow_add-result
unfolding with_slot
overflow_add-result c =
    let bit : ((1 * 2 ^ c.args.d) % 2 ^ 64 ≡ 2 ^ c.args.d) = let a = c.args in shl_exact {a = 1} 1 a.d 64 (omega arith) (omega arith) ∙ one-mul (2 ^ a.d) in
    let sum : (let a = c.args in with_slot a.mask a.d ≡ a.mask + 2 ^ a.d) = rw (sym c.has.ensures ∙ c.if-has.false) in
    let a = c.args in
    omega (arith, bit, sum, with_lt 64 a.mask a.d (omega arith) (omega arith))

pub returns : goal.returns
unfolding with_slot
returns c =
    let bit : ((1 * 2 ^ c.args.d) % 2 ^ 64 ≡ 2 ^ c.args.d) = let a = c.args in shl_exact {a = 1} 1 a.d 64 (omega arith) (omega arith) ∙ one-mul (2 ^ a.d) in
    let sum : (let a = c.args in with_slot a.mask a.d ≡ a.mask + 2 ^ a.d) = rw (sym c.has.ensures ∙ c.if-has.false) in
    let a = c.args in
    rw (lt-ltb _ _ c.if-d-ge-MASK_BITS.false, bit) (sym (sum))
