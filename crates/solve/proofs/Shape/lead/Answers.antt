-- the pivot is a row
use Prim.Native.Nat.{◌<◌, ◌+◌}
use mathlib.Core.Path.{sym, ◌∙◌}
use native.Mathlib.Omega.{arith}
use lib.ListN.{get_or}
use Rattle.solve.specs.Pivot.{Pivot, pivot_found}
use Rattle.solve.specs.Solving.{exchanged_solved}
use Rattle.solve.specs.SolveTurns.{row_end}
use Rattle.solve.proofs.Shape.lead.Goals as goal

pub pivot-requires : goal.pivot-requires
pivot-requires c = record { e_len = c.requires.solved_to.size; c_le_m = (omega (arith, c.args.self.in_range.m_least_lem, c.requires.lost.few), rw c.from.ensures (c.requires.lost.shards c.args.c c.requires.c_in_bounds)) }

pub exchange-requires : goal.exchange-requires
exchange-requires c = let a = c.args.self in
    let p : Pivot (a.k + a.m) a.m c.args.c (get_or c.args.lost.now c.args.c 0) c.args.e.now c.in-Some.j = rw (c.in-Some.is, c.from.ensures) at c.pivot.ensures in
    let found : c.in-Some.j < a.m = pivot_found a.k a.m c.args.c c.args.lost.now c.args.e.now a.in_range c.requires.lost c.requires.solved_to c.requires.c_in_bounds _ p in
    let ends = row_end a.m (a.k + a.m) in
    let size = c.requires.solved_to.size in
    record { n_in_bounds = ends c.args.c c.args.e.now size (omega arith); n_in_bounds_2 = ends c.in-Some.j c.args.e.now size found }

pub returns-in-Some : goal.returns-in-Some
returns-in-Some c = let a = c.args.self in
    let p : Pivot (a.k + a.m) a.m c.args.c (get_or c.args.lost.now c.args.c 0) c.args.e.now c.in-Some.j = rw (c.in-Some.is, c.from.ensures) at c.pivot.ensures in
    let found : c.in-Some.j < a.m = pivot_found a.k a.m c.args.c c.args.lost.now c.args.e.now a.in_range c.requires.lost c.requires.solved_to c.requires.c_in_bounds _ p in
    record {
      solved_to_2 = exchanged_solved a.k a.m c.args.c c.args.lost.now c.requires.lost c.requires.c_in_bounds c.in-Some.j c.args.e.now c.exchange.new.e
          c.requires.solved_to p.from found c.exchange.ensures;
      c_nonzero = λ q. p.found found (sym (c.exchange.ensures.first (get_or c.args.lost.now c.args.c 0) (c.requires.lost.shards c.args.c c.requires.c_in_bounds)) ∙ q);
    }

pub returns-in_default : goal.returns-in_default
returns-in_default c = let a = c.args.self in
    let p : Pivot (a.k + a.m) a.m c.args.c (get_or c.args.lost.now c.args.c 0) c.args.e.now a.m = rw (c.in_default.is, c.from.ensures) at c.pivot.ensures in
    absurd (omega (arith, pivot_found a.k a.m c.args.c c.args.lost.now c.args.e.now a.in_range c.requires.lost c.requires.solved_to c.requires.c_in_bounds _ p))
