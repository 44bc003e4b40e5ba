-- Three ways to see a shard.
use mathlib.Core.Path.{sym, ap, ◌∙◌}
use Prim.Native.Nat.{ℕ, ◌+◌}
use native.Mathlib.Nat.{mul_assoc}
use native.Mathlib.Omega.{arith}
use lib.ListN.{take, drop, replicate}
use Rattle.disk.specs.Limits.{sector_bytes}
use Rattle.disk.specs.Geometry.{slot_of, strip_of, stripes_le, slot_lt}
use Rattle.disk.proofs.GeometryLaws.{strip_inside}
use Rattle.disk.specs.Image.{place}
use Rattle.strips.specs.Laws.{inside, seen_over, seen_there, seen_none}
use Rattle.strips.proofs.seen.Seen.take_shard.Goals as goal

pub overflow_add-d : goal.overflow_add-d
overflow_add-d c = let b = c.args.self.part in
    omega (arith, c.requires.0, b.range.few, b.range.most, b.stripe, stripes_le c.args.self.from.g)

pub copy_sectors-requires : goal.copy_sectors-requires
copy_sectors-requires c = let s = c.args.self in
    omega (arith, inside s.from.g.n s.from.g.c c.args.r s.first s.count c.requires.0 s.part.within, s.part.keeps, mul_assoc s.from.g.n s.from.g.c sector_bytes, c.requires.1)

pub returns-then-has : goal.returns-then-has
unfolding slot_of
returns-then-has c = let a = c.args in
    let s = a.self in
    c.copy_sectors.ensures ∙ ap (λ (k : ℕ). take k (drop (place s.from.g.c a.r s.first) s.from.kept.now)) c.requires.1
    ∙ seen_over s.from.g s.from.image.now s.from.there s.from.over s.from.kept.now s.t s.first s.count s.part a.r c.requires.0
    (sym c.has.ensures ∙ c.if-has.true)

pub overflow_mul-self : goal.overflow_mul-self
unfolding strip_of
overflow_mul-self c = let s = c.args.self in
    omega (arith, strip_inside s.from.g s.part.range s.t s.part.stripe, s.part.range.most)

pub overflow_add-self : goal.overflow_add-self
unfolding strip_of
overflow_add-self c = let s = c.args.self in
    omega (arith, strip_inside s.from.g s.part.range s.t s.part.stripe, s.part.range.most)

pub overflow_add-self-then-has-2 : goal.overflow_add-self-then-has-2
unfolding strip_of
overflow_add-self-then-has-2 c = let s = c.args.self in
    omega (arith, strip_inside s.from.g s.part.range s.t s.part.stripe, s.part.range.most, s.part.within)

pub copy_sectors-requires-then-has-2 : goal.copy_sectors-requires-then-has-2
unfolding slot_of strip_of
copy_sectors-requires-then-has-2 c = let a = c.args in
    let s = a.self in
    let b = s.part in
    let d : ℕ = slot_of s.from.g.n s.t a.r in
    omega (
      arith,
      inside s.from.g.n s.from.g.sectors d (strip_of s.from.g s.t + s.first) s.count (slot_lt s.from.g.n s.t (omega (arith, c.requires.0)) a.r)
          (omega (arith, strip_inside s.from.g b.range s.t b.stripe, b.within)),
      b.whole,
      c.requires.1,
    )

pub returns-then-has-2 : goal.returns-then-has-2
unfolding slot_of strip_of
returns-then-has-2 c = let a = c.args in
    let s = a.self in
    c.copy_sectors-then-has-2.ensures ∙ ap (λ (k : ℕ). take k (drop (place s.from.g.sectors (slot_of s.from.g.n s.t a.r) (strip_of s.from.g s.t + s.first)) s.from.image.now)) c.requires.1
    ∙ seen_there s.from.g s.from.image.now s.from.there s.from.over s.from.kept.now s.t s.first s.count s.part a.r c.requires.0
    (sym c.has.ensures ∙ c.if-has.false) (sym c.has-2.ensures ∙ c.if-has-2.true)

pub returns : goal.returns
unfolding slot_of
returns c = let a = c.args in
    let s = a.self in
    c.fill.ensures.after (λ y e. e) ∙ ap (λ (k : ℕ). replicate k 0) c.requires.1
    ∙ seen_none s.from.g s.from.image.now s.from.there s.from.over s.from.kept.now s.t s.first s.count a.r
    (sym c.has.ensures ∙ c.if-has.false) (sym c.has-2.ensures ∙ c.if-has-2.false)
