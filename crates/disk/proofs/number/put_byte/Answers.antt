-- Past the end nothing is written.
use mathlib.Core.Path.{sym}
use lib.Seq.{set_out}
use Rattle.disk.proofs.number.put_byte.Goals as goal

pub returns-else-at-b : goal.returns-else-at-b
returns-else-at-b c = sym (set_out _ _ _ c.if-at-b.false)
