use mathlib.Core.Path.{refl, ap, sym, ◌∙◌, ◌≡◌}
use mathlib.Core.Bool.{Bool, true, false, not}
use mathlib.Core.List.{List}
use Prim.Native.Nat.{ℕ}
use native.Mathlib.Omega.{arith}
use lib.ListN.{take, replicate}
use lib.Seq.{take_at}
use Rattle.disk.specs.Geometry.{slot_of}
use Rattle.disk.specs.Mask.{in_mask}
use Rattle.position.specs.Position.{ascending}
use Rattle.strips.specs.Seen.{lost_of}
use Rattle.strips.specs.Turns.{lost_turn}
use Rattle.strips.proofs.lost.Lost.among.Goals.{then-not-has, else-not-has}
use Rattle.strips.proofs.lost.Lost.among.Goals as goal

pub loop-r-init : goal.loop-r-init
unfolding ascending
loop-r-init c = (omega arith, refl, refl)

pub loop-r-preserved : goal.loop-r-preserved
unfolding slot_of
loop-r-preserved c = let l = c.loop-r in
    let a = c.args in
    let j = c.if-not-has in
    let p : ℕ → Bool = λ i. not (in_mask a.there (slot_of a.n a.t i)) in
    let start : List ℕ = replicate 19 0 in
    elim c.if-not-has.branch [
      | then-not-has w ↦
          let q = lost_turn p l.r l.many j.many l.list j.list start true (ap not (sym w.if-not-has.true ∙ c.has.ensures)) l.invariant.1 l.invariant.2 (omega (arith, l.invariant.0)) w.many-is w.list-is in
          (omega (arith, w.many-is, l.invariant.0), q.0, q.1)
      | else-not-has w ↦
          let q = lost_turn p l.r l.many j.many l.list j.list start false (ap not (sym w.if-not-has.false ∙ c.has.ensures)) l.invariant.1 l.invariant.2 (omega (arith, l.invariant.0)) w.many-is w.list-is in
          (omega (arith, w.many-is, l.invariant.0), q.0, q.1)
    ]

pub returns : goal.returns
unfolding lost_of
returns c = let l = c.loop-r in
    let a = c.args in
    let p : ℕ → Bool = λ i. not (in_mask a.there (slot_of a.n a.t i)) in
    let e : l.r ≡ a.n = omega arith in
    ap (take l.many) l.invariant.2 ∙ take_at (ascending p l.r) _ l.many (sym l.invariant.1) ∙ ap (ascending p) e
