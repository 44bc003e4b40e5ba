use mathlib.Core.Path.{◌≡◌, refl, sym, ap, ap₂, ◌∙◌}
use native.Mathlib.Omega.{arith}
use Rattle.record.specs.Stamp.{later_of}
use Rattle.redo.specs.Decide.{key_of, leader_of, lead_of}
use Rattle.redo.proofs.Turns.{leader_turn}
use Rattle.redo.proofs.tails.Logs.leader.Goals.{then-later, else-later}
use Rattle.redo.proofs.tails.Logs.leader.Goals as goal

pub loop-d-init : goal.loop-d-init
unfolding leader_of
loop-d-init c = refl

pub loop-d-preserved : goal.loop-d-preserved
loop-d-preserved c =
    let a = c.args.self.now in
    let l = c.loop-d in
    let e = sym (c.later.ensures ∙ ap₂ later_of c.key.ensures c.key-in-loop-d.ensures) in
    leader_turn (key_of a.g a.image.now a.l) l.first l.d c.if-later.first l.invariant
    (elim c.if-later.branch [ then-later w ↦ rw (e ∙ w.if-later.true) w.first-is | else-later w ↦ rw (e ∙ w.if-later.false) w.first-is ])

pub returns : goal.returns
unfolding lead_of
returns c =
    let a = c.args.self.now in
    let e : c.loop-d.d ≡ a.g.n = omega arith in
    c.loop-d.invariant ∙ ap (leader_of (key_of a.g a.image.now a.l)) e
