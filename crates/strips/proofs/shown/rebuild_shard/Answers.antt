-- What is seen is rebuilt, and the shard is copied out of it.
use mathlib.Core.Path.{ap, ◌∙◌, ◌≡◌, subst}
use mathlib.Core.List.{List}
use Prim.Native.Nat.{ℕ, ◌-◌, ◌*◌}
use native.Mathlib.Omega.{arith}
use lib.ListN.{take, drop, length}
use Rattle.disk.specs.Limits.{sector_bytes}
use Rattle.code.specs.Stripes.{Rebuilt}
use Rattle.strips.specs.Answers.{stripe_small}
use Rattle.strips.specs.Laws.{rebuilt_shown}
use Rattle.strips.proofs.shown.rebuild_shard.Goals as goal

pub among-requires : goal.among-requires
among-requires c = let s = c.args.of in
    (s.part.range.few, stripe_small s.from.g s.from.image.now s.from.kept.now s.t s.first s.count s.part)

pub overflow_sub-of : goal.overflow_sub-of
overflow_sub-of c = omega (arith, c.requires.0.parity)

pub returns : goal.returns
returns c =
    let a = c.args in
    let s = a.of in
    let long : length c.rebuild.new.stripe ≡ length a.room.now = c.rebuild.auto.stripe ∙ c.gather.auto.to in
    let w : ℕ = s.count * sector_bytes in
    let row : List ℕ = c.rebuild.new.stripe in
    c.copy_from_slice.ensures.after ∙ ap (λ (i : ℕ). take i (drop (a.r * w) row)) (omega arith)
    ∙ rebuilt_shown s.from.g a.k s.from.image.now s.from.there s.from.over s.from.kept.now s.t s.first s.count c.requires.0 s.part.some
    (omega (arith, s.part.within, s.part.range.short)) c.requires.1 c.rebuild.result c.gather.new.to row c.gather.ensures
    (subst (λ (x : List ℕ). Rebuilt a.k (s.from.g.n - a.k) w x c.rebuild.result c.gather.new.to row) c.among.ensures c.rebuild.ensures) a.r c.requires.2
