-- The sector lies within the image, so that no number on the way wraps.
use mathlib.Core.Path.{◌≡◌, ap}
use native.Mathlib.Omega.{arith}
use lib.ListN.{take, drop}
use Prim.Native.Nat.{ℕ, ◌-◌, ◌+◌}
use Rattle.disk.specs.Limits.{sector_bytes}
use Rattle.disk.specs.Image.{place, sector}
use Rattle.disk.proofs.sector.get_sector.Goals as goal

pub returns : goal.returns
unfolding sector
returns c = let a = c.args in
    let at : ℕ = place a.sectors a.d a.s in
    let e : at + sector_bytes - at ≡ sector_bytes = omega arith in
    ap (λ (k : ℕ). take k (drop at a.image.now)) e
