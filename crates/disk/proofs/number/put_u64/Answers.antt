use mathlib.Core.Path.{ap, ◌∙◌}
use Rattle.disk.specs.Number.{with_bytes}
use Rattle.disk.proofs.NumberLaws.{number_bytes, le_bytes_are}
use Rattle.disk.proofs.number.put_u64.Goals as goal

pub returns : goal.returns
returns c = let a = c.args in
    c.put_bytes.ensures ∙ ap (with_bytes a.b.now a.at) (c.to_le_bytes.ensures ∙ le_bytes_are a.x) ∙ number_bytes 8 a.b.now a.at a.x
