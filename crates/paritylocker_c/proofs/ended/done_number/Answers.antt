-- 3, unless strips were being rebuilt. Assumes nothing.
use mathlib.Core.Path.{◌≡◌, refl, sym, ap, ◌∙◌}
use mathlib.Core.Bool.{Bool, true, false, not, cond}
use Prim.Native.Nat.{ℕ}
use lib.Dec.{eqb}
use denote.Enum.Bare.{sameb}
use Rattle.stages.specs.contracts.state.Kind.{the_type}
use Rattle.stages.specs.declared.state.Kind.{Kind}
use Rattle.stages.specs.declared.state.Kind.TheVariants.{Nothing, Idle, Creating, Starting, Labelling, Writing, Beginning, Filling}
use Rattle.paritylocker_c.specs.Ended.{is_filling, rebuilt_number, filled_number, number_done}
use Rattle.paritylocker_c.proofs.ended.done_number.Goals as goal

other : (k : Kind) → is_filling k ≡ sameb the_type k Filling
other Nothing = refl
other Idle = refl
other Creating = refl
other Starting = refl
other Labelling = refl
other Writing = refl
other Beginning = refl
other Filling = refl

turned : (b c : Bool) → not b ≡ not c → b ≡ c
turned true true e = refl
turned false false e = refl
turned true false e = sym e
turned false true e = sym e

pub returns-then-ne : goal.returns-then-ne
unfolding number_done
returns-then-ne c = let a = c.args in
    sym (ap (λ (b : Bool). cond b (filled_number a.now a.next a.marks) 3) (other a.kind ∙ turned _ false (sym c.ne.ensures ∙ c.if-ne.true)))

pub returns : goal.returns
unfolding number_done
returns c = let a = c.args in
    c.rebuilt_number.ensures ∙ ap (λ (x : ℕ). rebuilt_number (eqb a.next.rebuilding 255) a.marks.forward x) c.mark_reached-mark.ensures
    ∙ sym (ap (λ (b : Bool). cond b (filled_number a.now a.next a.marks) 3) (other a.kind ∙ turned _ true (sym c.ne.ensures ∙ c.if-ne.false)))
