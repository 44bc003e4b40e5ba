-- The part that is lent comes back as the bytes, and the whole is then the image with these bytes at the sector's place.
use mathlib.Core.Path.{refl, ap, ◌∙◌}
use native.Mathlib.Omega.{arith}
use Prim.Native.Nat.{ℕ, ◌-◌, ◌+◌}
use borrow.Rule.Slice.PartMut.{put_mid}
use Rattle.disk.specs.Limits.{sector_bytes}
use Rattle.disk.specs.Image.{place, put_sector, back}
use Rattle.disk.proofs.sector.put_sector.Goals as goal

pub returns : goal.returns
unfolding put_sector
returns c = let a = c.args in
    let at : ℕ = place a.sectors a.d a.s in
    ap (put_mid at (at + sector_bytes - at) a.image.now) c.copy_from_slice.ensures.after ∙ back a.image.now a.bytes.now at (at + sector_bytes) sector_bytes refl (omega arith)
