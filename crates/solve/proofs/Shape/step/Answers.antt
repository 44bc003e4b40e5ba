-- what `lead` left
use borrow.Author.Rules.{rules}
use Prim.Native.Nat.{◌<◌, ◌+◌, ◌*◌}
use mathlib.Core.Path.{◌∙◌}
use native.Mathlib.Omega.{arith}
use lib.ListN.{get_or}
use Rattle.solve.specs.Solving.{scaled_one, step_solved}
use Rattle.solve.proofs.Shape.step.Goals as goal

pub clear_column-requires : goal.clear_column-requires
clear_column-requires c = let a = c.requires.lost.shards c.args.c c.requires.c_in_bounds in
    let one = scaled_one (c.args.self.k + c.args.self.m) c.args.c (get_or c.args.lost.now c.args.c 0) c.quotient.result
    (c.lead.new.e) c.add_row.new.e a (rw c.from-a.ensures at c.quotient.ensures) c.add_row.ensures in record { e_len = c.add_row.auto.e ∙ c.lead.ensures.solved_to_2.size; c_lt_m = (omega (arith, c.requires.lost.few), rw c.from-a.ensures a); a_value = rw c.from-a.ensures one }

pub returns : goal.returns
returns c = let a = c.args.self in
    let i = c.args.c in
    let x : get_or c.lead.new.e (i * (a.k + a.m) + c.from-a.result) 0 < 256 = omega arith in
    step_solved a.k a.m i c.args.lost.now c.requires.lost c.requires.c_in_bounds c.quotient.result
    c.lead.new.e c.add_row.new.e c.clear_column.new.e c.lead.ensures.solved_to_2 (omega (arith, c.quotient.type_inv))
    (rw c.from-a.ensures at x)
    (rw c.from-a.ensures at c.quotient.ensures) c.add_row.ensures (λ p. search rules)
    (rw c.from-a.ensures at c.clear_column.ensures)
