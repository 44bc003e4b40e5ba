-- A slot that is believed holds a shard of the stripe.
use Rattle.std.proofs.Common.{rules, ◌≡◌, ◌&&◌, Bool, true, sym, ap, ap₂, ◌∙◌, ltb, lt-ltb}
use Rattle.std.proofs.lemmas.Result.{MatchResult-at_ok}
use Rattle.disk.specs.Tests.{both, and_right}
use Rattle.disk.specs.Geometry.{in_range, found, stripes_of, shard_of}
use Rattle.redo.specs.Decide.{believed, involved}
use Rattle.redo.specs.Laws.{looked_below, believed_looked, believed_below}
use Rattle.redo.proofs.settle.Write.is_involved.Goals as goal

pub returns-then-believes : goal.returns-then-believes
unfolding involved
returns-then-believes c =
    let a = c.args.self.now in
    let g = a.logs.g in
    let l = a.logs.l in
    let d = c.args.d in
    let t = a.tail.stripe in
    let seen : believed g l d t ≡ true = and_right (in_range g) (believed g l d t) (sym c.believes.ensures ∙ c.if-believes.true) in
    let there : (ltb t (stripes_of g) && ltb d g.n) ≡ true =
    both (ltb t (stripes_of g)) (ltb d g.n) (lt-ltb t (stripes_of g) (believed_below g l d t seen))
    (lt-ltb d g.n (looked_below g l d (believed_looked g l d t seen))) in
    let ran = MatchResult-at_ok _ _ (shard_of g.n t d) (c.shard.ensures ∙ ap₂ (λ (x y : Bool). found x y (shard_of g.n t d)) a.logs.in_range there) c.is_ok_and.ensures in
    rw seen (search rules)

pub returns-else-believes : goal.returns-else-believes
unfolding involved
returns-else-believes c =
    let a = c.args.self.now in
    let unseen = sym (c.believes.ensures ∙ ap (λ (b : Bool). b && believed a.logs.g a.logs.l c.args.d a.tail.stripe) a.logs.in_range) ∙ c.if-believes.false in
    rw unseen c.if-believes.false
