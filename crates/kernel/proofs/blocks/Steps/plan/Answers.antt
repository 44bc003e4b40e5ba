use Rattle.std.proofs.Common.{◌≡◌, ℕ, ◌-◌, ◌^◌, length, unwrap_or, subst, arith}
use Rattle.kernel.specs.StepsTurns.{above_none, bit_pos, above_bit, above_done, Above}
use Rattle.kernel.proofs.blocks.Steps.plan.Goals as goal

pub loop-bit-init : goal.loop-bit-init
loop-bit-init c = let a = c.args in
    let n = length a.row.now in
    (omega arith, rw c.requires.0 (above_none n a.row.now 0 (unwrap_or a.left_out n) (λ i. omega (arith, c.type_inv.row i)) _))

pub push_shards-requires : goal.push_shards-requires
push_shards-requires c = let l = c.loop-bit in
    (omega (arith, l.invariant.0, (c.push_double.ensures (length c.args.row.now) c.requires.1).few), c.requires.1, bit_pos l.bit-index c.loop-bit-test.true)

pub loop-bit-preserved : goal.loop-bit-preserved
loop-bit-preserved c = let a = c.args in
    let n = length a.row.now in
    let l = c.loop-bit in
    let d = c.push_double.ensures n c.requires.1 in
    let s = c.push_shards.ensures in (
      omega (arith, l.invariant.0, d.few, s.few),
      above_bit n a.row.now 0 (unwrap_or a.left_out n) (λ i. omega (arith, c.type_inv.row i)) l.bit-index _ _ _ _ _ _ c.loop-bit-test.true c.requires.1 l.invariant.1 d s,
    )

pub returns : goal.returns
returns c = let a = c.args in
    let n = length a.row.now in
    let l = c.loop-bit in
    let e : l.bit-index ≡ 8 = omega arith in
    above_done n a.row.now 0 (unwrap_or a.left_out n) (λ i. omega (arith, c.type_inv.row i)) _ _
    (subst (λ (i : ℕ). Above n a.row.now 0 (unwrap_or a.left_out n) (2 ^ (8 - i)) l.self.list l.self.len) e l.invariant.1)
