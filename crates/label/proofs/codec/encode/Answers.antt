-- `label::codec::encode` meets its contract. The checksum of the first 508 bytes goes behind them, and the whole over the sector. Assumes nothing.
use mathlib.Core.Path.{ap, sym, ◌∙◌}
use native.Mathlib.Omega.{arith}
use borrow.Author.Rules.{rules}
use borrow.Author.Tests.{tests}
use lib.ListN.{length}
use lib.Seq.{length-take-le}
use Rattle.label.proofs.Build.{length_unsealed, copied}
use Rattle.label.specs.Bytes.{encode_answer}
use Rattle.label.proofs.codec.encode.Goals as goal

pub slice_bounds-crc32c-end : goal.slice_bounds-crc32c-end
slice_bounds-crc32c-end c = let u = c.unsealed_of-b in
    sym (length-take-le _ u.result (omega (arith, ap length u.ensures ∙ length_unsealed c.args.l)))

pub returns : goal.returns
unfolding encode_answer
returns c = let a = c.args in (
  search (rules, tests),
  c.copy_from_slice.ensures.after
      ∙ copied a.l c.unsealed_of-b.result _ c.crc32c-checksum.result c.unsealed_of-b.ensures c.crc32c-checksum.ensures (rw c.from.ensures at c.put_u32.ensures),
)
