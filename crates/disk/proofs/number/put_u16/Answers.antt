use mathlib.Core.Path.{ap, ◌∙◌}
use mathlib.Core.List.{List}
use Prim.Native.Nat.{ℕ}
use lib.ListN.{take}
use Rattle.disk.specs.Number.{with_bytes, bytes_of}
use Rattle.disk.proofs.NumberLaws.{number_bytes, le_bytes_are}
use Rattle.disk.proofs.number.put_u16.Goals as goal

pub returns : goal.returns
unfolding bytes_of
returns c = let a = c.args in
    c.put_bytes.ensures ∙ ap (λ (ys : List ℕ). with_bytes a.b.now a.at (take 2 ys)) (c.to_le_bytes.ensures ∙ le_bytes_are a.x) ∙ number_bytes 2 a.b.now a.at a.x
