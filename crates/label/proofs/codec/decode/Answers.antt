-- `label::codec::decode` meets its contract. The checksum is of the bytes before it. Assumes nothing.
use mathlib.Core.Path.{sym}
use native.Mathlib.Omega.{arith}
use lib.Seq.{length-take-le}
use Rattle.label.proofs.codec.decode.Goals as goal

pub slice_bounds-crc32c-end : goal.slice_bounds-crc32c-end
slice_bounds-crc32c-end c = sym (length-take-le _ c.args.sector.now (omega (arith, c.if-sector-ne-SECTOR.false)))
