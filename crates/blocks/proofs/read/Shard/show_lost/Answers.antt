-- There is room for a sector of every shard.
use Prim.Native.Nat.{ℕ, ◌*◌}
use mathlib.Core.Path.{◌≡◌, sym}
use native.Mathlib.Omega.{arith}
use lib.ListN.{length, take, replicate, length-replicate}
use lib.Seq.{length-take-le}
use Rattle.disk.specs.Limits.{sector_bytes}
use Rattle.disk.specs.Image.{fits_image_lem}
use Rattle.blocks.proofs.read.Shard.show_lost.Goals as goal

pub overflow_mul-wide : goal.overflow_mul-wide
overflow_mul-wide c = omega (arith, (fits_image_lem c.args.self.now.from.g c.args.self.now.from.image.now c.args.self.now.can.image).0.few)

pub slice_bounds-room-end : goal.slice_bounds-room-end
slice_bounds-room-end c = omega (arith, (fits_image_lem c.args.self.now.from.g c.args.self.now.from.image.now c.args.self.now.can.image).0.few)

pub slice_bounds-show_sectors-end : goal.slice_bounds-show_sectors-end
slice_bounds-show_sectors-end c = sym (length-take-le (c.args.self.now.from.g.n * sector_bytes) (replicate 9728 0) (omega (arith, length-replicate {A = ℕ} 9728 0, (fits_image_lem c.args.self.now.from.g c.args.self.now.from.image.now c.args.self.now.can.image).0.few)))

pub show_sectors-requires : goal.show_sectors-requires
show_sectors-requires c = let a = c.args in
    let w : length {A = ℕ} (take (a.self.now.from.g.n * sector_bytes) (replicate 9728 0)) ≡ a.self.now.from.g.n * sector_bytes = length-take-le (a.self.now.from.g.n * sector_bytes) (replicate 9728 0) (omega (arith, length-replicate {A = ℕ} 9728 0, (fits_image_lem a.self.now.from.g a.self.now.from.image.now c.args.self.now.can.image).0.few)) in
    (w, c.requires)
