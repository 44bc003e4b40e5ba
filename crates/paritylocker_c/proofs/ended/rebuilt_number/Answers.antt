-- By whether the slot is healthy, and then by whether survivors contradicted each other. What a branch gives is told by arithmetic. Assumes nothing.
use mathlib.Core.Path.{◌≡◌, refl, sym, ap, ap₂, ◌∙◌}
use mathlib.Core.Bool.{Bool, true, false, cond}
use Prim.Native.Nat.{ℕ, ◌+◌, ◌*◌, ◌%◌}
use native.Mathlib.Omega.{arith}
use mir.Val.{bool_byte}
use Rattle.paritylocker_c.specs.Ended.{rebuilt_number}
use Rattle.paritylocker_c.proofs.ended.rebuilt_number.Goals.{then-healed, else-healed}
use Rattle.paritylocker_c.proofs.ended.rebuilt_number.Goals as goal

torn_too : (h t : Bool) (x : ℕ) → cond h 4 3 + 256 * bool_byte t + x ≡ cond h 4 3 + cond t 256 0 + x
torn_too h true x = refl
torn_too h false x = refl

pub returns : goal.returns
unfolding rebuilt_number
returns c =
    let a = c.args in
    let ended : c.if-healed.ended ≡ cond a.healed 4 3 =
    elim c.if-healed.branch [ then-healed w ↦ omega (arith, w.ended-is) ∙ sym (ap (λ (b : Bool). cond b 4 3) w.if-healed.true) | else-healed w ↦ omega (arith, w.ended-is) ∙ sym (ap (λ (b : Bool). cond b 4 3) w.if-healed.false) ] in
    ap₂ (λ (e t : ℕ). e + 256 * t + 65536 * (a.mark % 4294967296)) ended c.from.ensures ∙ torn_too a.healed a.torn (65536 * (a.mark % 4294967296))
