-- 2^d is taken away where the bit is set.
use mathlib.Core.Path.{◌≡◌, sym, ◌∙◌}
use native.Mathlib.Omega.{arith}
use Prim.Native.Nat.{◌%◌, ◌^◌, ◌*◌}
use lib.Pow.{shl_exact}
use native.Mathlib.Nat.{one-mul}
use Rattle.disk.specs.Mask.{without_slot, in_past, slot_le}
use Rattle.disk.proofs.mask.without_slot.Goals as goal

pub returns-then-d-ge-MASK_BITS : goal.returns-then-d-ge-MASK_BITS
unfolding without_slot
returns-then-d-ge-MASK_BITS c = rw (in_past 64 c.args.mask c.args.d (omega arith) c.if-d-ge-MASK_BITS.true)

pub overflow_sub-result : goal.overflow_sub-result
overflow_sub-result c =
    let bit : ((1 * 2 ^ c.args.d) % 2 ^ 64 ≡ 2 ^ c.args.d) = let a = c.args in shl_exact {a = 1} 1 a.d 64 (omega arith) (omega arith) ∙ one-mul (2 ^ a.d) in
    omega (arith, bit, slot_le _ _ (sym c.has.ensures ∙ c.if-has.true))

pub returns-then-has : goal.returns-then-has
unfolding without_slot
returns-then-has c =
    let bit : ((1 * 2 ^ c.args.d) % 2 ^ 64 ≡ 2 ^ c.args.d) = let a = c.args in shl_exact {a = 1} 1 a.d 64 (omega arith) (omega arith) ∙ one-mul (2 ^ a.d) in
    rw (sym c.has.ensures ∙ c.if-has.true, bit)

pub returns : goal.returns
unfolding without_slot
returns c = rw (sym c.has.ensures ∙ c.if-has.false)
