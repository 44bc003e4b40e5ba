-- `crc32c::Steps::word_in` meets its contract. Byte after byte taken off, the lowest first. Assumes nothing.
use mathlib.Core.List.{List}
use mathlib.Core.Path.{ap, ap₂, ◌∙◌}
use Prim.Native.Nat.{ℕ}
use lib.Bits.{bit_xor}
use lib.ListN.{get_or}
use native.Mathlib.Omega.{arith}
use Rattle.crc32c.proofs.Slices.{word_in}
use Rattle.crc32c.proofs.Steps.word_in.Goals as goal

pub returns : goal.returns
returns c = let b = c.to_le_bytes.ensures in
    ap₂ bit_xor (ap₂ bit_xor (ap₂ bit_xor c.after.ensures c.after-2.ensures) c.after-3.ensures) c.after-4.ensures
    ∙ word_in c.args.j c.args.w _ _ _ _ (omega arith)
    (ap (λ (l : List ℕ). get_or l 3 0) b) (ap (λ (l : List ℕ). get_or l 2 0) b) (ap (λ (l : List ℕ). get_or l 1 0) b) (ap (λ (l : List ℕ). get_or l 0 0) b)
