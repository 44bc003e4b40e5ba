use mathlib.Core.Path.{◌≡◌, refl, ap, ◌∙◌}
use mathlib.Core.List.{List}
use lib.Seq.{length-take-le}
use Rattle.std.proofs.Common.{length-drop}
use native.Mathlib.Omega.{arith}
use lib.ListN.{length, take, drop}
use Prim.Native.Nat.{ℕ, ◌-◌, ◌+◌, ◌*◌}
use Rattle.record.specs.Tail.{pasted, pasted_turn}
use Rattle.record.specs.Layout.{body, rest, rests_at}
use Rattle.disk.specs.Limits.{sector_bytes}
use Rattle.record.proofs.Places.{copied}
use Rattle.record.proofs.tail.put_rests.Goals as goal

pub loop-s-init : goal.loop-s-init
unfolding pasted
loop-s-init c = refl

pub loop-s-preserved : goal.loop-s-preserved
loop-s-preserved c =
    let l = c.loop-s in
    let a = c.args in
    let at : ℕ = l.s * sector_bytes + body in
    let to : ℕ = rests_at + l.s * rest in
    let y : List ℕ = take (at + rest - at) (drop at a.strip.now) in
    let e : at + rest - at ≡ rest = omega arith in
    let ly : length y ≡ rest = length-take-le (at + rest - at) (drop at a.strip.now) (omega (arith, length-drop at a.strip.now)) ∙ e in
    copied l.out y _ to (to + rest) c.copy_from_slice.ensures.after (omega (arith, ly))
    ∙ pasted_turn l.s a.strip.now a.out.now l.out y l.invariant (ap (λ (k : ℕ). take k (drop at a.strip.now)) e) (omega arith)
