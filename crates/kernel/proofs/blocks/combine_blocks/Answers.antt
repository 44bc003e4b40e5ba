use Rattle.std.proofs.Common.{◌≡◌, List, ℕ, ◌+◌, ◌-◌, ◌*◌, ◌≤◌, ap, subst, min, length, get_or, arith}
use borrow.Rule.Slice.PartMut.{put_mid}
use Rattle.field.specs.Field.{mul_of}
use Rattle.codeword.specs.Sum.{total}
use Rattle.codeword.specs.Stripe.{byte_at}
use Rattle.kernel.specs.Kernel.{weight}
use Rattle.kernel.specs.Steps.{columns}
use Rattle.kernel.specs.KernelTurns.{replaced_part, part_length, shard_le}
use Rattle.kernel.specs.StepsTurns.{Filled, filled_turn, block_is}
use Rattle.kernel.proofs.blocks.combine_blocks.Goals as goal

pub loop-i-preserved : goal.loop-i-preserved
loop-i-preserved c = let a = c.args in
    let l = c.loop-i in
    let n = length a.row.now in
    let st = c.plan in
    let q = c.block_start-p.result in
    let y = c.block-y.result in
    let f : ℕ → ℕ = λ q. total n (λ r. mul_of (weight a.row.now 0 a.a r) (byte_at a.len a.buf.now q r)) in
    let at = a.a * a.len + q in
    let hi : q + columns ≤ a.len = omega (arith, c.block_start-p.ensures, c.requires.2) in
    let fit : at + 64 ≤ length l.buf = omega (arith, c.requires.0.fits, hi, l.auto.buf, shard_le a.a n a.len c.requires.1) in
    let next : q + columns ≡ min ((l.i + 1) * columns) a.len = omega (arith, c.block_start-p.ensures, c.requires.2) in
    let e : List ℕ = put_mid at (at + 64 - at) l.buf c.copy_from_slice.new.self in
    let r = replaced_part at (at + 64 - at) 64 (λ j. get_or y j 0) l.buf c.copy_from_slice.new.self (omega arith) (omega (arith, c.copy_from_slice.ensures.len, part_length l.buf at 64 fit)) fit
    (λ i h. ap (λ (z : List ℕ). get_or z i 0) c.copy_from_slice.ensures.after) in (
      λ i. omega (arith, c.type_inv.buf i),
      subst (λ (p : ℕ). Filled (a.a * a.len) p a.len f a.buf.now e) next
          (filled_turn (a.a * a.len) a.len f a.buf.now (min (l.i * columns) a.len) q (λ j. get_or y j 0) l.buf e
          (omega (arith, c.block_start-p.ensures)) hi r
          (block_is n a.len a.a q st.new.self.len (min (l.i * columns) a.len) a.row.now 0 st.new.self.list y f a.buf.now l.buf
          l.invariant.0 hi st.ensures l.invariant.1 c.block-y.ensures) l.invariant.1),
    )
