use Rattle.std.proofs.Common.{◌≡◌, List, ℕ, ◌+◌, ◌*◌, ◌≤◌, ◌∙◌, sym, ap, subst, length, get_or, arith}
use Rattle.std.proofs.Math.ListN.{get_or-replicate}
use Rattle.kernel.specs.Kernel.{Combined}
use Rattle.kernel.specs.KernelTurns.{replaced_part, part_length, shard_le, shard_parts, weight_own, added_zero, combined_none, combined_turn}
use Rattle.kernel.proofs.bytes.combine_bytes.Goals.{then-w-ne0, else-w-ne0}
use Rattle.kernel.proofs.bytes.combine_bytes.Goals as goal

pub loop-r-init : goal.loop-r-init
loop-r-init c = let a = c.args in λ b z. combined_none a.len a.a a.row.now 0 b _ z

pub mul_add_within-requires : goal.mul_add_within-requires
mul_add_within-requires c = let a = c.args in
    let l = c.loop-r in
    let n = length a.row.now in
    let s = c.requires.0 in
    shard_parts a.a l.r n a.len _ (record { few = s.few; short = s.short; fits = omega (arith, s.fits, l.auto.buf, c.fill.ensures.len) }) c.requires.1 c.loop-r-test.true
    (λ e. c.if-w-ne0.true (c.weight_of-w.ensures ∙ weight_own a.row.now 0 a.a l.r (sym e)))

pub loop-r-preserved : goal.loop-r-preserved
loop-r-preserved c = let a = c.args in
    let l = c.loop-r in
    let w = c.weight_of-w in
    λ b z. elim c.if-w-ne0.branch [
      | then-w-ne0 t ↦ combined_turn l.r a.len a.a w.result a.row.now 0 b l.buf _ w.ensures (rw t.buf-is t.mul_add_within.ensures) (l.invariant b z)
      | else-w-ne0 t ↦
          combined_turn l.r a.len a.a w.result a.row.now 0 b l.buf _ w.ensures
          (rw t.buf-is (added_zero w.result (a.a * a.len) (l.r * a.len) a.len l.buf t.if-w-ne0.false)) (l.invariant b z)
    ]

pub returns : goal.returns
returns c = let a = c.args in
    let l = c.loop-r in
    let e : l.r ≡ length a.row.now = omega arith in
    let fit : a.a * a.len + a.len ≤ length a.buf.now = omega (arith, c.requires.0.fits, shard_le a.a (length a.row.now) a.len c.requires.1) in
    let filled = c.fill.ensures.after (λ y q. q) in
    let cleared = replaced_part (a.a * a.len) _ a.len (λ i. 0) a.buf.now c.fill.new.self (omega arith) (omega (arith, c.fill.ensures.len)) fit
    (λ i h. ap (λ (y : List ℕ). get_or y i 0) filled ∙ get_or-replicate _ i 0 0 (omega (arith, h, part_length a.buf.now (a.a * a.len) a.len fit))) in
    subst (λ (k : ℕ). Combined k a.len a.a a.row.now 0 a.buf.now l.buf) e (l.invariant a.buf.now cleared)
