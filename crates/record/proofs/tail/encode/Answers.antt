-- Zeros, the fields, and the last bytes.
use borrow.Author.Rules.{rules}
use borrow.Author.Tests.{tests}
use mathlib.Core.Path.{sym, ap, ◌∙◌}
use lib.ListN.{replicate}
use Rattle.disk.specs.Geometry.{strip_length_lem}
use mathlib.Core.List.{List}
use native.Mathlib.Omega.{arith}
use Prim.Native.Nat.{ℕ}
use Rattle.record.specs.Tail.{with_tail, pasted, tail_answer, tail_built}
use Rattle.record.proofs.tail.encode.Goals as goal

pub put_rests-requires : goal.put_rests-requires
put_rests-requires c =
    (omega (arith, c.fill.ensures.len), omega arith, (strip_length_lem _ (sym c.strip_length.ensures ∙ c.if-not-strip_length.false)).1)

pub returns : goal.returns
unfolding tail_answer
returns c = let a = c.args in (
  search (rules, tests),
  c.put_rests.ensures
      ∙ ap (pasted a.c a.strip.now)
      (c.put_fields.ensures ∙ ap (λ (x : List ℕ). with_tail x a.tail) (c.fill.ensures.after (λ y e. e) ∙ ap (λ (n : ℕ). replicate n 0) c.if-out-ne-SECTOR.false))
      ∙ tail_built a.tail a.c a.strip.now (omega arith),
)
