-- A shard that is there is shown as it is seen, one that is lost is rebuilt.
use mathlib.Core.Path.{sym, ap, ◌∙◌}
use native.Mathlib.Omega.{arith}
use Rattle.blocks.specs.Read.{fetch_goes, whole_shown}
use Rattle.disk.specs.Geometry.{slot_of, stripes_le}
use Rattle.disk.specs.Image.{fits_image_lem}
use Rattle.disk.specs.Refusal.{Outcome}
use Rattle.strips.specs.Answers.{after_shard}
use Rattle.strips.specs.Laws.{shown_there}
use Rattle.blocks.proofs.read.Shard.show_block.Goals as goal

pub overflow_add-self : goal.overflow_add-self
overflow_add-self c = let g = (fits_image_lem c.args.self.now.from.g c.args.self.now.from.image.now c.args.self.now.can.image).0 in
    omega (arith, c.args.self.now.can.shard, g.few, c.args.self.now.can.stripe, stripes_le c.args.self.now.from.g, g.most)

pub nonzero_rem-self : goal.nonzero_rem-self
nonzero_rem-self c = omega (arith, c.args.self.now.can.shard)

pub returns-then-has : goal.returns-then-has
unfolding slot_of
returns-then-has c = let a = c.args in
    let e = c.fetch_shard.ensures in
    e.1 ∙ ap (λ (x : Outcome). after_shard x a.self.now.from.g a.self.now.from.image.now a.self.now.from.there a.self.now.from.over a.self.now.from.kept.now a.self.now.t a.self.now.r a.bytes.now)
    (e.0 ∙ fetch_goes a.self.now.from.g a.self.now.k a.self.now.from.image.now a.self.now.from.there a.self.now.from.kept.now a.self.now.t a.self.now.r c.args.self.now.can _ c.requires)
    ∙ shown_there a.self.now.from.g a.self.now.k a.self.now.from.image.now a.self.now.from.there a.self.now.from.over a.self.now.from.kept.now a.self.now.t 0 a.self.now.from.g.c a.self.now.r c.args.self.now.can.shard (sym c.has.ensures ∙ c.if-has.true)
    ∙ whole_shown a.self.now.from.g a.self.now.k a.self.now.from.image.now a.self.now.from.there a.self.now.from.over a.self.now.from.kept.now a.self.now.t a.self.now.r
