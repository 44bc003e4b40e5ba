use mathlib.Core.Path.{◌≡◌, refl, sym, ap, ◌∙◌}
use mathlib.Core.List.{List}
use Prim.Native.Nat.{ℕ, ◌+◌, ◌*◌}
use native.Mathlib.Omega.{arith}
use lib.ListN.{length, drop}
use Rattle.disk.specs.Number.{length_with}
use Rattle.memory.specs.Words.{with_words, write_turn, write_done}
use Rattle.memory.proofs.words.put_numbers.Goals as goal

pub loop-i-init : goal.loop-i-init
loop-i-init c = let a = c.args in
    let e : a.from + 0 ≡ a.from = omega arith in
    (refl, ap (λ (k : ℕ). with_words a.a.now a.bytes.now (8 * k)) e)

pub loop-i-preserved : goal.loop-i-preserved
loop-i-preserved c = let l = c.loop-i in
    let a = c.args in (
      ap length c.put_u64.ensures ∙ length_with 8 l.bytes _ _ ∙ l.invariant.0,
      ap (λ (u : List ℕ). with_words (drop (l.i + 1) a.a.now) u (8 * (a.from + (l.i + 1)))) c.put_u64.ensures
          ∙ write_turn a.a.now l.bytes l.i a.from (omega arith)
          ∙ l.invariant.1,
    )

pub returns : goal.returns
returns c = let l = c.loop-i in
    let a = c.args in
    (sym (write_done a.a.now l.bytes l.i (8 * (a.from + l.i)) (omega arith)) ∙ l.invariant.1, λ i. omega (arith, c.type_inv.a i))
