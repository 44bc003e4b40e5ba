-- The two values that document 03 gives, of the definition itself. Assumes nothing.
use mathlib.Core.Path.{◌≡◌, refl}
use mathlib.Core.List.{[], ◌∷◌}
use lib.ListN.{replicate}
use Rattle.crc32c.specs.Crc.{step, steps, run, crc_of}

-- "123456789"
pub digits : crc_of (49 ∷ 50 ∷ 51 ∷ 52 ∷ 53 ∷ 54 ∷ 55 ∷ 56 ∷ 57 ∷ []) ≡ 0xe3069283
unfolding step steps run crc_of
digits = refl

pub zeros : crc_of (replicate 512 0) ≡ 0x30fcedc0
unfolding step steps run crc_of
zeros = refl
