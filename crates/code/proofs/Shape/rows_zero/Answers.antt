use mathlib.Core.Path.{refl}
use mathlib.Core.Bool.{true, false}
use borrow.Author.Rules.{rules}
use borrow.Author.Tests.{tests}
use lib.ListN.{length}
use Rattle.std.proofs.lemmas.Iterator.{cases_from_all, YieldsList-from_range}
use Rattle.code.proofs.Calls.{shards, Tested, rows_all}
use Rattle.code.proofs.Shape.rows_zero.Goals as goal

pub returns : goal.returns
returns c = let a = c.args in let s = a.self in
    rows_all s.k s.m s.len a.stripe.now a.table.now a.rows.start a.rows.end c.all.result
    (shards s.k s.m s.len (length a.stripe.now) s.in_range s.len_most_lem c.requires.stripe_len) c.requires.table_len c.requires.rows_in_table
    (cases_from_all _ _ _ (Tested s.k s.m s.len a.stripe.now a.table.now true) (Tested s.k s.m s.len a.stripe.now a.table.now false) c.all.ensures.ran
    (YieldsList-from_range a.rows.start a.rows.end _ refl refl) (λ x q k. search (rules, tests)) (λ x q k. search (rules, tests)))
