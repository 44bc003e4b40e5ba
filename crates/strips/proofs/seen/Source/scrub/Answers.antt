-- What is not refused is gathered and scrubbed.
use mathlib.Core.Path.{sym, ◌∙◌, subst}
use mathlib.Core.List.{List}
use Prim.Native.Nat.{ℕ, ◌-◌}
use native.Mathlib.Omega.{arith}
use lib.ListN.{length}
use Rattle.code.specs.Stripes.{Says}
use Rattle.code.specs.Answering.{scrub_done}
use Rattle.strips.specs.Seen.{shard_bytes}
use Rattle.strips.specs.Laws.{row_shaped}
use Rattle.strips.specs.Whole.{whole_done}
use Rattle.strips.proofs.seen.Source.scrub.Goals as goal

pub invariant_of-gather : goal.invariant_of-gather
invariant_of-gather c = let a = c.args in
    let h = whole_done a.self.now.g a.k a.self.now.image.now a.t a.self.now.there (length a.self.now.kept.now) (length a.room.now) (sym c.in_ok-whole_answer.ensures) in
    record { part = record { range = h.0.range; whole = h.0.whole; stripe = h.0.stripe; some = h.0.range.some; within = omega arith; keeps = h.2 } }

pub gather-requires : goal.gather-requires
gather-requires c = let a = c.args in
    let h = whole_done a.self.now.g a.k a.self.now.image.now a.t a.self.now.there (length a.self.now.kept.now) (length a.room.now) (sym c.in_ok-whole_answer.ensures) in
    h.3

pub overflow_sub-g : goal.overflow_sub-g
overflow_sub-g c = let a = c.args in
    let h = whole_done a.self.now.g a.k a.self.now.image.now a.t a.self.now.there (length a.self.now.kept.now) (length a.room.now) (sym c.in_ok-whole_answer.ensures) in
    omega (arith, h.1.parity)

pub unwrap-requires : goal.unwrap-requires
unwrap-requires c = let a = c.args in
    let h = whole_done a.self.now.g a.k a.self.now.image.now a.t a.self.now.there (length a.self.now.kept.now) (length a.room.now) (sym c.in_ok-whole_answer.ensures) in
    scrub_done a.k (a.self.now.g.n - a.k) (shard_bytes a.self.now.g) _ _ (row_shaped a.self.now.g.n a.k (shard_bytes a.self.now.g) _ h.1 (omega (arith, h.0.range.some)) (omega (arith, h.0.range.short)) (c.gather.auto.to ∙ h.3)) c.scrub.ensures

pub returns : goal.returns
returns c = let a = c.args in (
  sym c.in_ok-whole_answer.ensures,
  subst (Says a.k (a.self.now.g.n - a.k) (shard_bytes a.self.now.g) _) c.unwrap.ensures
      (subst (λ (s : List ℕ). Says a.k (a.self.now.g.n - a.k) (shard_bytes a.self.now.g) s c.scrub.result) c.gather.ensures c.scrub.ensures),
)
