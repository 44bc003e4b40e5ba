-- A shard that is there is taken, one that is lost is rebuilt.
use mathlib.Core.Path.{sym, ◌∙◌}
use native.Mathlib.Omega.{arith}
use lib.ListN.{length}
use Rattle.disk.specs.Geometry.{slot_of}
use Rattle.strips.specs.Answers.{shown_done, stripe_small}
use Rattle.strips.specs.Laws.{shown_there}
use Rattle.strips.proofs.seen.Source.shown.Goals as goal

pub overflow_add-r : goal.overflow_add-r
overflow_add-r c = let a = c.args in
    let h = shown_done a.self.now.g a.k a.self.now.image.now a.self.now.kept.now a.t a.r a.first a.count a.self.now.there (length a.room.now) (length a.out.now) (sym c.in_ok-shown_answer.ensures) in
    omega (arith, h.3, h.0.range.few, stripe_small a.self.now.g a.self.now.image.now a.self.now.kept.now a.t a.first a.count h.0)

pub nonzero_rem-r : goal.nonzero_rem-r
nonzero_rem-r c = let a = c.args in
    let h = shown_done a.self.now.g a.k a.self.now.image.now a.self.now.kept.now a.t a.r a.first a.count a.self.now.there (length a.room.now) (length a.out.now) (sym c.in_ok-shown_answer.ensures) in
    omega (arith, h.3)

pub invariant_of-seen : goal.invariant_of-seen
invariant_of-seen c = let a = c.args in
    let h = shown_done a.self.now.g a.k a.self.now.image.now a.self.now.kept.now a.t a.r a.first a.count a.self.now.there (length a.room.now) (length a.out.now) (sym c.in_ok-shown_answer.ensures) in
    record { part = h.0 }

pub take_shard-requires : goal.take_shard-requires
take_shard-requires c = let a = c.args in
    let h = shown_done a.self.now.g a.k a.self.now.image.now a.self.now.kept.now a.t a.r a.first a.count a.self.now.there (length a.room.now) (length a.out.now) (sym c.in_ok-shown_answer.ensures) in
    (h.3, h.5)

pub invariant_of-seen-else-has : goal.invariant_of-seen-else-has
invariant_of-seen-else-has c = let a = c.args in
    let h = shown_done a.self.now.g a.k a.self.now.image.now a.self.now.kept.now a.t a.r a.first a.count a.self.now.there (length a.room.now) (length a.out.now) (sym c.in_ok-shown_answer.ensures) in
    record { part = h.0 }

pub rebuild_shard-requires : goal.rebuild_shard-requires
rebuild_shard-requires c = let a = c.args in
    let h = shown_done a.self.now.g a.k a.self.now.image.now a.self.now.kept.now a.t a.r a.first a.count a.self.now.there (length a.room.now) (length a.out.now) (sym c.in_ok-shown_answer.ensures) in
    (h.1, h.2, h.3, h.4, h.5)

pub returns-then-has : goal.returns-then-has
unfolding slot_of
returns-then-has c = let a = c.args in
    let h = shown_done a.self.now.g a.k a.self.now.image.now a.self.now.kept.now a.t a.r a.first a.count a.self.now.there (length a.room.now) (length a.out.now) (sym c.in_ok-shown_answer.ensures) in (
      c.in_ok-shown_answer.ensures,
      c.take_shard.ensures ∙ shown_there a.self.now.g a.k a.self.now.image.now a.self.now.there a.self.now.over a.self.now.kept.now a.t a.first a.count a.r h.3 (sym c.has.ensures ∙ c.if-has.true),
    )
