use mathlib.Core.Path.{◌∙◌}
use Rattle.solve.specs.Solving.{solved_none}
use Rattle.solve.proofs.Shape.eliminate.Goals as goal

pub loop-c-init : goal.loop-c-init
loop-c-init c = solved_none c.args.self.k c.args.self.m c.args.lost.now c.fill.new.e (c.fill.auto.e ∙ c.requires.e_len) c.fill.ensures
