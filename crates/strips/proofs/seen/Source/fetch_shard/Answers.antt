-- What is not refused is taken.
use mathlib.Core.Path.{sym}
use lib.ListN.{length}
use Rattle.strips.specs.Answers.{shard_done}
use Rattle.strips.proofs.seen.Source.fetch_shard.Goals as goal

pub invariant_of-take_shard : goal.invariant_of-take_shard
invariant_of-take_shard c = let a = c.args in
    record { part = (shard_done a.self.now.g a.self.now.image.now a.self.now.kept.now a.t a.r (length a.to.now) (sym c.in_ok-shard_answer.ensures)).0 }

pub take_shard-requires : goal.take_shard-requires
take_shard-requires c = let a = c.args in
    let h = shard_done a.self.now.g a.self.now.image.now a.self.now.kept.now a.t a.r (length a.to.now) (sym c.in_ok-shard_answer.ensures) in
    (h.1, h.2)
