use Rattle.field.specs.Turns.{pick_pos}
use Rattle.field.proofs.select.Goals as goal

pub returns-else-bit-eq0 : goal.returns-else-bit-eq0
returns-else-bit-eq0 c = pick_pos _ _ c.if-bit-eq0.false
