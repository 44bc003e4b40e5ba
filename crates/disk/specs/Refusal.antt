-- The codes of the shelf's refusals. Assumes nothing.
use Rattle.std.specs.Prelude.{ℕ, Result}
use Rattle.disk.specs.declared.refusal.Refusal.{Refusal}
use Rattle.disk.specs.declared.refusal.Refusal.TheVariants.{BadImage, NoLabel, TooFew, BadBlock, Busy, NotNow, BadBuffer}

-- a request was carried out, or why not
abbrev pub Outcome : Type 0
Outcome = Result (Unit {0}) Refusal

abbrev pub number_of : Refusal → ℕ
number_of BadImage = 10
number_of NoLabel = 11
number_of TooFew = 12
number_of BadBlock = 13
number_of Busy = 14
number_of NotNow = 15
number_of BadBuffer = 16
