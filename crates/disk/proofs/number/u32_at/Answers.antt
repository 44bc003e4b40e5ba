use native.Mathlib.Omega.{arith}
use Rattle.disk.specs.Number.{number_at}
use Rattle.disk.proofs.NumberLaws.{number_moved}
use Rattle.disk.proofs.number.u32_at.Goals as goal

pub returns : goal.returns
unfolding number_at
returns c = (omega (arith, number_moved 4 c.bytes_at.result c.args.b.now c.args.at c.bytes_at.ensures), omega arith)
