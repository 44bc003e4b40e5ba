use Rattle.std.proofs.Common.{ℕ, refl, ap, ◌∙◌, ◌*◌, ◌+◌, Bor, cond, ltb, length, List, []}
use native.Mathlib.Omega.{arith}
use Rattle.disk.specs.Limits.{sector_bytes}
use Rattle.record.specs.Log.{part}
use Rattle.shelf.specs.Kept.{part_of}
use Rattle.shelf.specs.Says.{cut_as}
use Rattle.shelf.proofs.Parts.{part_or_none}
use Rattle.shelf.proofs.kept.part_of.Goals as goal

pub returns : goal.returns
unfolding part_of part
returns c = let a = c.args in
    ap (λ (x : Bor (List ℕ)). x.now) c.unwrap_or.ensures ∙ part_or_none a.strip.now (a.j * sector_bytes) (a.j * sector_bytes + sector_bytes) (omega arith) c.get.result _ _ refl c.get.ensures.lookup.0
    ∙ ap (λ (x : List ℕ). cond (ltb (length a.strip.now) (a.j * sector_bytes + sector_bytes)) [] x) (cut_as (a.j * sector_bytes) sector_bytes _ a.strip.now refl)
