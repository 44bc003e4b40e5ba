-- `label::codec::label_at` meets its contract. Each field is what is read at its offset. Assumes nothing.
use Rattle.label.specs.Valid.{label_at}
use Rattle.label.proofs.codec.label_at.Goals as goal

pub returns : goal.returns
unfolding label_at
returns c = simp (
  c.u32_at-3.ensures.0,
  c.byte_at-5.ensures.0,
  c.u32_at-2.ensures.0,
  c.u64_at-2.ensures,
  c.u64_at.ensures,
  c.u32_at.ensures.0,
  c.byte_at-4.ensures.0,
  c.byte_at-3.ensures.0,
  c.byte_at-2.ensures.0,
  c.byte_at.ensures.0,
)
