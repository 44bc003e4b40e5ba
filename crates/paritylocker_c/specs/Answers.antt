-- Answers as numbers. Assumes nothing.
use Rattle.std.specs.Prelude.{◌≡◌, List, length, ℕ, ◌+◌, ◌<◌, Ok, Err}
use Rattle.std.proofs.Common.{arith}
use Rattle.field.specs.Quotient.{quotient_of}
use Rattle.field.specs.Refusal.{number_of}
use Rattle.field.specs.Quotient.{Quotient}
use Rattle.field.specs.Refusal.{Answer}
use Rattle.code.specs.Stripes.{Said, Says}
use Rattle.code.specs.Lists.{shaped_means}
use Rattle.code.specs.declared.Verdict.{Verdict}
use Rattle.code.specs.declared.Verdict.TheVariants as verdict

-- a quotient: below 256 a byte, and from 256 on a refusal's code
abbrev pub as_number : Quotient → ℕ
as_number (Ok q) = q
as_number (Err x) = 256 + number_of x

abbrev pub div_answer : ℕ → ℕ → ℕ
div_answer a b = as_number (quotient_of a b)

-- 0, or the refusal's code
abbrev pub number_of_answer : Answer → ℕ
number_of_answer (Ok tt) = 0
number_of_answer (Err x) = number_of x

-- 256 sound; 512 + r accused; 768 not sound or more than one
abbrev pub number_of_verdict : Verdict → ℕ
number_of_verdict verdict.Sound = 256
number_of_verdict (verdict.Accused r) = 512 + r
number_of_verdict verdict.Unsound = 768

-- or the refusal's code
abbrev pub number_of_said : Said → ℕ
number_of_said (Ok v) = number_of_verdict v
number_of_said (Err x) = number_of x

-- r is the number of an answer for which P holds
pub record Answered (P : Answer → Type 0) (r : ℕ) : Type 0 where
  pub answer : Answer
  pub number : r ≡ number_of_answer answer
  pub holds : P answer

pub record Judged (P : Said → Type 0) (r : ℕ) : Type 0 where
  pub said : Said
  pub number : r ≡ number_of_said said
  pub holds : P said

-- an accused shard's number is small
abbrev pub Small : Verdict → Type 0
Small verdict.Sound = Unit {0}
Small (verdict.Accused r) = r < 256
Small verdict.Unsound = Unit {0}

abbrev pub SmallSaid : Said → Type 0
SmallSaid (Ok v) = Small v
SmallSaid (Err x) = Unit {0}

pub small : (k m len : ℕ) (s : List ℕ) (v : Said) → Says k m len s v → SmallSaid v
small k m len s (Ok verdict.Sound) h = tt
small k m len s (Ok (verdict.Accused r)) h =
    let g = (shaped_means k m len (length s) h.0).range in
    omega (arith, h.3.0, g.k_most_lem, g.m_most_lem)
small k m len s (Ok verdict.Unsound) h = tt
small k m len s (Err x) h = tt
