use Rattle.shelf.specs.Says.{strips_say}
use mathlib.Core.Path.{sym, ◌∙◌}
use native.Mathlib.Omega.{arith}
use Rattle.shelf.proofs.act.Turn.fill.Goals as goal

pub nonzero_div-t : goal.nonzero_div-t
nonzero_div-t c = omega (arith, (strips_say c.args.first c.args.count c.args.self.shelf.c c.args.self.state.cursor.sector c.args.self.short (sym c.in_strips.ensures ∙ c.if-not-in_strips.false)).some)

pub overflow_add-t : goal.overflow_add-t
overflow_add-t c = let h = strips_say c.args.first c.args.count c.args.self.shelf.c c.args.self.state.cursor.sector c.args.self.short (sym c.in_strips.ensures ∙ c.if-not-in_strips.false) in omega (arith, h.low, h.strip, c.args.self.low)

pub nonzero_rem-x : goal.nonzero_rem-x
nonzero_rem-x c = omega (arith, (strips_say c.args.first c.args.count c.args.self.shelf.c c.args.self.state.cursor.sector c.args.self.short (sym c.in_strips.ensures ∙ c.if-not-in_strips.false)).some)

pub overflow_mul-to : goal.overflow_mul-to
overflow_mul-to c = omega (arith, (strips_say c.args.first c.args.count c.args.self.shelf.c c.args.self.state.cursor.sector c.args.self.short (sym c.in_strips.ensures ∙ c.if-not-in_strips.false)).before)

pub overflow_add-to : goal.overflow_add-to
overflow_add-to c = omega (arith, (strips_say c.args.first c.args.count c.args.self.shelf.c c.args.self.state.cursor.sector c.args.self.short (sym c.in_strips.ensures ∙ c.if-not-in_strips.false)).before)

pub overflow_add-to-2 : goal.overflow_add-to-2
overflow_add-to-2 c = omega (arith, (strips_say c.args.first c.args.count c.args.self.shelf.c c.args.self.state.cursor.sector c.args.self.short (sym c.in_strips.ensures ∙ c.if-not-in_strips.false)).before, c.args.self.low)

pub overflow_mul-count : goal.overflow_mul-count
overflow_mul-count c = omega (arith, (strips_say c.args.first c.args.count c.args.self.shelf.c c.args.self.state.cursor.sector c.args.self.short (sym c.in_strips.ensures ∙ c.if-not-in_strips.false)).width)
