-- What is not refused is gathered and repaired.
use mathlib.Core.Path.{sym, ◌∙◌, subst}
use mathlib.Core.List.{List}
use Prim.Native.Nat.{ℕ, ◌-◌}
use native.Mathlib.Omega.{arith}
use lib.ListN.{length}
use Rattle.code.specs.Stripes.{Said, Repaired}
use Rattle.code.specs.Answering.{scrub_done}
use Rattle.strips.specs.Seen.{shard_bytes}
use Rattle.strips.specs.Laws.{row_shaped}
use Rattle.strips.specs.Whole.{whole_done, stripe_seen}
use Rattle.strips.proofs.seen.Source.mend.Goals as goal

pub gather_stripe-requires : goal.gather_stripe-requires
gather_stripe-requires c = let a = c.args in
    let h = whole_done a.self.now.g a.k a.self.now.image.now a.t a.self.now.there (length a.stripe.now) (length a.stripe.now) (sym c.in_ok-whole_answer.ensures) in
    (h.0, h.2)

pub overflow_sub-g : goal.overflow_sub-g
overflow_sub-g c = let a = c.args in
    let h = whole_done a.self.now.g a.k a.self.now.image.now a.t a.self.now.there (length a.stripe.now) (length a.stripe.now) (sym c.in_ok-whole_answer.ensures) in
    omega (arith, h.1.parity)

pub overflow_mul-g : goal.overflow_mul-g
overflow_mul-g c = let a = c.args in
    let h = whole_done a.self.now.g a.k a.self.now.image.now a.t a.self.now.there (length a.stripe.now) (length a.stripe.now) (sym c.in_ok-whole_answer.ensures) in
    omega (arith, h.0.range.short)

pub unwrap-requires : goal.unwrap-requires
unwrap-requires c = let a = c.args in
    let h = whole_done a.self.now.g a.k a.self.now.image.now a.t a.self.now.there (length a.stripe.now) (length a.stripe.now) (sym c.in_ok-whole_answer.ensures) in
    scrub_done a.k (a.self.now.g.n - a.k) (shard_bytes a.self.now.g) _ _ (row_shaped a.self.now.g.n a.k (shard_bytes a.self.now.g) _ h.1 (omega (arith, h.0.range.some)) (omega (arith, h.0.range.short)) (c.gather_stripe.auto.to ∙ h.2))
    c.repair.ensures.says

pub returns : goal.returns
returns c = let a = c.args in (
  sym c.in_ok-whole_answer.ensures,
  subst (λ (v : Said). Repaired a.k (a.self.now.g.n - a.k) (shard_bytes a.self.now.g) v (stripe_seen a.self.now.g a.self.now.image.now a.self.now.there a.t) c.repair.new.stripe) c.unwrap.ensures
      (subst (λ (s : List ℕ). Repaired a.k (a.self.now.g.n - a.k) (shard_bytes a.self.now.g) c.repair.result s c.repair.new.stripe) c.gather_stripe.ensures c.repair.ensures),
)
