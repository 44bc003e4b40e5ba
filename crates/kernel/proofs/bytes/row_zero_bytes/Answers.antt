use Rattle.std.proofs.Common.{rules, ◌≡◌, ◌≢◌, length, refl, arith}
use borrow.Author.Tests.{tests}
use Rattle.std.proofs.lemmas.Iterator.{cases_from_all, YieldsList-from_range}
use Rattle.kernel.specs.Kernel.{row_at}
use Rattle.kernel.specs.KernelTurns.{rows_all}
use Rattle.kernel.proofs.bytes.row_zero_bytes.Goals as goal

pub returns : goal.returns
returns c = let s = c.args.shards.now in
    let n = length s.row.now in
    rows_all c.all.result n s.len s.stripe.now s.row.now 0 (cases_from_all _ _ _ (λ p. row_at n s.len s.stripe.now s.row.now 0 p ≡ 0) (λ p. row_at n s.len s.stripe.now s.row.now 0 p ≢ 0)
    c.all.ensures.ran (YieldsList-from_range 0 s.len s.len refl (omega arith)) (λ x q k. search (rules, tests)) (λ x q k. search (rules, tests)))
