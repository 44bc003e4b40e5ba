use native.Mathlib.Omega.{arith}
use Rattle.disk.specs.Geometry.{in_range_lem}
use Rattle.redo.proofs.tails.Logs.tail_sector.Goals as goal

pub overflow_add-self : goal.overflow_add-self
overflow_add-self c = omega (arith, (in_range_lem c.args.self.now.g c.args.self.now.in_range).short)
