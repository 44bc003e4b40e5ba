use Rattle.disk.specs.Limits.{sector_bytes}
use Rattle.std.proofs.Common.{◌≡◌, ℕ, ◌+◌, ◌*◌, refl, ap, ◌∙◌, Bor, cond, ltb, length, List, []}
use native.Mathlib.Omega.{arith}
use Rattle.shelf.specs.Fill.{stripe_in}
use Rattle.shelf.specs.Says.{cut_as}
use Rattle.shelf.proofs.Parts.{part_or_none}
use Rattle.shelf.proofs.fill.stripe_in.Goals as goal

pub returns : goal.returns
unfolding stripe_in
returns c = let a = c.args in
    let e : ℕ = a.g.n * (a.g.c * sector_bytes) in
    let z : e ≡ 0 + e = omega arith in
    ap (λ (x : Bor (List ℕ)). x.now) c.unwrap_or.ensures ∙ part_or_none a.work.now 0 e (omega arith) c.get.result _ _ refl c.get.ensures.lookup.0
    ∙ ap (λ (x : List ℕ). cond (ltb (length a.work.now) e) [] x) (cut_as 0 e e a.work.now z)
