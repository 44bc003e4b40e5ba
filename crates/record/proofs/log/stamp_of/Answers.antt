-- The sector is a part of the area.
use mathlib.Core.Path.{◌≡◌, ap, ◌∙◌}
use native.Mathlib.Omega.{arith}
use lib.ListN.{take, drop}
use Prim.Native.Nat.{ℕ, ◌-◌, ◌+◌, ◌*◌}
use Rattle.record.specs.Stamp.{stamp_at}
use Rattle.record.specs.Log.{part}
use Rattle.disk.specs.Limits.{sector_bytes}
use Rattle.record.proofs.log.stamp_of.Goals as goal

pub returns : goal.returns
unfolding part
returns c = let a = c.args in
    let at : ℕ = a.s * sector_bytes in
    let e : at + sector_bytes - at ≡ sector_bytes = omega arith in
    c.stamp_at.ensures ∙ ap (λ (k : ℕ). stamp_at (take k (drop at a.area.now))) e
