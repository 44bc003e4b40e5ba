-- What is not refused is gathered.
use mathlib.Core.Path.{sym}
use lib.ListN.{length}
use Rattle.strips.specs.Answers.{fetch_done}
use Rattle.strips.proofs.seen.Source.fetch.Goals as goal

pub invariant_of-gather : goal.invariant_of-gather
invariant_of-gather c = let a = c.args in
    record { part = (fetch_done a.self.now.g a.self.now.image.now a.self.now.kept.now a.t a.first a.count (length a.to.now) (sym c.in_ok-fetch_answer.ensures)).0 }

pub gather-requires : goal.gather-requires
gather-requires c = let a = c.args in (fetch_done a.self.now.g a.self.now.image.now a.self.now.kept.now a.t a.first a.count (length a.to.now) (sym c.in_ok-fetch_answer.ensures)).1
