use native.Mathlib.Omega.{arith}
use Rattle.std.proofs.Common.{ℕ, refl, sym, ap, ◌∙◌, ◌*◌, ◌+◌, Bor, cond, ltb, length, List, []}
use Rattle.disk.specs.Geometry.{Found}
use Rattle.disk.specs.Limits.{sector_bytes}
use Rattle.shelf.specs.Says.{cut_as, shard_low, shard_end}
use Rattle.shelf.proofs.Parts.{part_or_none, kept_nowhere}
use Rattle.shelf.specs.Kept.{kept_of, shard_at}
use Rattle.shelf.proofs.kept.kept.Goals as goal

pub returns-in_default : goal.returns-in_default
returns-in_default c = let a = c.args in sym (kept_nowhere a.g a.stripe a.d a.work.now c.shard.result c.shard.ensures c.in_default.not-Ok)

pub overflow_mul-at : goal.overflow_mul-at
overflow_mul-at c = let a = c.args in let l = shard_low a.g a.stripe a.d _ (sym c.shard.ensures ∙ c.in-Ok.is) in omega (arith, (shard_end _ a.g.c l c.requires).0)

pub overflow_mul-at-2 : goal.overflow_mul-at-2
overflow_mul-at-2 c = let a = c.args in let l = shard_low a.g a.stripe a.d _ (sym c.shard.ensures ∙ c.in-Ok.is) in omega (arith, (shard_end _ a.g.c l c.requires).1)

pub overflow_add-at : goal.overflow_add-at
overflow_add-at c = let a = c.args in let l = shard_low a.g a.stripe a.d _ (sym c.shard.ensures ∙ c.in-Ok.is) in omega (arith, (shard_end _ a.g.c l c.requires).1)

pub returns : goal.returns
unfolding kept_of
returns c = let a = c.args in
    let at : ℕ = c.in-Ok.r * a.g.c * sector_bytes in
    ap (λ (x : Bor (List ℕ)). x.now) c.unwrap_or.ensures ∙ part_or_none a.work.now at (at + a.g.c * sector_bytes) (omega arith) c.get.result _ _ refl c.get.ensures.lookup.0
    ∙ ap (λ (x : List ℕ). cond (ltb (length a.work.now) (at + a.g.c * sector_bytes)) [] x) (cut_as at (a.g.c * sector_bytes) _ a.work.now refl)
    ∙ sym (ap (λ (x : Found). shard_at x a.g a.work.now) (sym c.shard.ensures ∙ c.in-Ok.is))
