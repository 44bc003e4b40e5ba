-- What the protocol asks of its medium beyond the two codecs, as far as it is about bytes: which labels and records fit,
-- which stamps belong to an epoch, and what zeros are; and so the medium as a whole, for every code that makes zeros of zeros.
-- Assumes nothing.
use Rattle.std.specs.Prelude.{Bool, ◌*◌}
use Rattle.std.proofs.Common.{suc-mul, mul-le-mul_right, arith}
use Rattle.label.specs.Bytes.{all_zero}
use Rattle.protocol.specs.Program.{Stamps}
use Rattle.codecs.specs.Sector.{Sector}
use Rattle.codecs.specs.Records.{counts}

-- the stamps of epoch e: those with e in front
abbrev pub stamps : Stamps
stamps = record { base = λ e. e * counts; rises = λ e. omega (arith, suc-mul e counts); grows = λ e g l. mul-le-mul_right counts l }

-- ---- zeros

unfoldable pub is_zeros : Sector → Bool
is_zeros x = all_zero x.bytes
