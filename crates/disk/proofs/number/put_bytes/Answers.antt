use mathlib.Core.Path.{◌≡◌, sym, ap₂, ◌∙◌}
use mathlib.Core.List.{List, ◌++◌}
use native.Mathlib.Omega.{arith}
use Prim.Native.Nat.{ℕ, ◌+◌, ◌-◌}
use lib.ListN.{take, drop}
use Rattle.disk.proofs.NumberLaws.{bytes_none, bytes_put}
use Rattle.disk.proofs.number.put_bytes.Goals as goal

pub returns : goal.returns
returns c = let a = c.args in
    let n = c.min-count.result in
    let e : a.at + n - a.at ≡ n = omega arith in
    ap₂ (λ (k : ℕ) (ys : List ℕ). take a.at a.b.now ++ (ys ++ drop k (drop a.at a.b.now))) e c.copy_from_slice.ensures.after
    ∙ sym (bytes_put a.b.now a.at a.bytes.now n (omega arith) c.min-count.ensures)

pub returns-then-b-at : goal.returns-then-b-at
returns-then-b-at c = sym (bytes_none _ _ _ c.if-b-at.true)
