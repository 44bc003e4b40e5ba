-- The whole part is copied.
use mathlib.Core.Path.{◌∙◌}
use Prim.Native.Nat.{ℕ}
use native.Mathlib.Omega.{arith}
use Rattle.disk.specs.Image.{place}
use lib.ListN.{take, drop}
use mathlib.Core.Path.{ap}
use Rattle.strips.proofs.seen.copy_sectors.Goals as goal

pub returns : goal.returns
returns c = let a = c.args in
    let at : ℕ = place a.per a.d a.s in
    c.copy_from_slice.ensures.after ∙ ap (λ (i : ℕ). take i (drop at a.from.now)) (omega arith)
