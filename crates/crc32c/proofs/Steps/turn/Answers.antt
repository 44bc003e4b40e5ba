-- `crc32c::Steps::turn` meets its contract. Four words, each by what it becomes alone. Assumes nothing.
use mathlib.Core.Path.{ap, ap₂, ◌∙◌}
use Prim.Native.Nat.{ℕ}
use lib.Bits.{bit_xor}
use native.Mathlib.Omega.{arith}
use Rattle.crc32c.specs.Table.{entry}
use Rattle.crc32c.proofs.Slices.{turn}
use Rattle.crc32c.proofs.Steps.turn.Goals as goal

pub returns : goal.returns
returns c = let a = c.args in
    ap₂ bit_xor
    (ap₂ bit_xor
    (ap₂ bit_xor
    (c.word_in.ensures ∙ ap (λ (w : ℕ). entry w 3) c.from_le_bytes.ensures)
    (c.word_in-2.ensures ∙ ap (λ (w : ℕ). entry w 7) (omega (arith, c.from_le_bytes-2.ensures))))
    (c.word_in-3.ensures ∙ ap (λ (w : ℕ). entry w 11) c.from_le_bytes-3.ensures))
    (c.word_in-4.ensures ∙ ap (λ (w : ℕ). entry (bit_xor a.c w) 15) c.from_le_bytes-4.ensures)
    ∙ turn a.bytes.now c.as_chunks.result.0.now (λ k. omega (arith, c.fits-bytes k)) a.c c.told-bytes c.as_chunks.ensures.front
