use mathlib.Core.Path.{refl, sym, ap, ◌∙◌}
use mathlib.Core.List.{◌++◌}
use Prim.Native.Nat.{ℕ, ◌-◌, ◌+◌, ◌*◌}
use native.Mathlib.Omega.{arith}
use lib.ListN.{take, set, length-set}
use Rattle.memory.specs.Words.{numbers_at, read_turn, read_done}
use Rattle.memory.specs.Numbers.{number_count}
use Rattle.memory.proofs.words.numbers_at.Goals as goal

pub loop-i-init : goal.loop-i-init
loop-i-init c = (refl, refl)

pub loop-i-preserved : goal.loop-i-preserved
loop-i-preserved c = let l = c.loop-i in
    let b = c.args.bytes.now in
    let v = c.u64_at.ensures in (
      length-set l.a l.i _ ∙ l.invariant.0,
      ap (λ (x : ℕ). take (l.i + 1) (set l.a l.i x) ++ numbers_at (number_count - (l.i + 1)) b (8 * (l.i + 1))) v
          ∙ read_turn l.a b l.i number_count (omega arith) (omega arith)
          ∙ l.invariant.1,
    )

pub returns : goal.returns
returns c = let l = c.loop-i in
    let b = c.args.bytes.now in
    sym (read_done l.a b l.i number_count (8 * l.i) (omega arith) (omega arith)) ∙ l.invariant.1
