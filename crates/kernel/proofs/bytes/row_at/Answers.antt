use Rattle.std.proofs.Common.{◌≡◌, ℕ, ◌+◌, refl, ap₂, ◌∙◌, get_or, arith}
use Rattle.field.specs.Field.{mul_of}
use Rattle.codeword.specs.Sum.{total}
use Rattle.kernel.specs.KernelTurns.{row_turn}
use Rattle.kernel.proofs.bytes.row_at.Goals as goal

pub loop-r-init : goal.loop-r-init
unfolding total
loop-r-init c = refl

pub loop-r-preserved : goal.loop-r-preserved
loop-r-preserved c = let l = c.loop-r in
    let s = c.args.shards.now in
    let z : l.r ≡ 0 + l.r = omega arith in
    row_turn l.r _ _ l.sum l.invariant
    (c.mul-sum.ensures ∙ ap₂ (λ (i j : ℕ). mul_of (get_or s.row.now i 0) (get_or s.stripe.now j 0)) z c.place.ensures.0)
