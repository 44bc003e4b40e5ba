-- `crc32c::Steps::byte_in` meets its contract. The byte that falls out picks the row. Assumes nothing.
use mathlib.Core.List.{List}
use mathlib.Core.Path.{ap, ◌∙◌}
use Prim.Native.Nat.{ℕ, ◌/◌, ◌%◌}
use lib.Bits.{bit_xor}
use lib.ListN.{get_or}
use native.Mathlib.Omega.{arith}
use Rattle.crc32c.proofs.Slices.{byte_in}
use Rattle.crc32c.proofs.Steps.byte_in.Goals as goal

pub returns : goal.returns
returns c = let a = c.args in
    ap (bit_xor (a.c / 256)) c.after.ensures
    ∙ byte_in a.c a.x _ (omega arith) (ap (λ (l : List ℕ). get_or l 0 0) c.to_le_bytes.ensures ∙ ap (λ (x : ℕ). bit_xor a.c x % 256) c.from.ensures)
