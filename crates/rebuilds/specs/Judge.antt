-- The refusals of both requests, in the order of the table. Assumes nothing.
use Rattle.std.specs.Prelude.{◌≡◌, refl, Bool, true, false, cond, ℕ, ◌+◌, ◌<◌, leb, ltb, eqb, Ok, Err}
use Rattle.std.proofs.Common.{arith, leb-false}
use Rattle.std.specs.Int.Bits.{bit_or}
use Rattle.std.specs.Int.Count.{ones}
use Rattle.disk.specs.declared.refusal.Refusal.{Refusal}
use Rattle.disk.specs.declared.refusal.Refusal.TheVariants.{TooFew, BadBlock, Busy, NotNow, BadBuffer}
use Rattle.disk.specs.Refusal.{Outcome}
use Rattle.label.specs.Fields.{most_generation}
use Rattle.label.specs.declared.fields.Label.{Label}
use Rattle.requests.specs.Begun.{work_bytes, first}

-- more than m slots are out or absent
unfoldable pub too_few : Label → ℕ → Bool
too_few l absent = ltb l.m (ones (bit_or l.out absent))

-- no generation is left
unfoldable pub last_one : Label → Bool
last_one l = leb most_generation l.generation

-- a work area of so many bytes is the shelf's
unfoldable pub sized : Label → ℕ → Bool
sized l room = eqb room (work_bytes (l.k + l.m) l.c)

-- too few: TOO_FEW; no such slot: BAD_BLOCK; another request under way: BUSY; not the time: NOT_NOW; another work area: BAD_BUFFER
unfoldable pub judged : Bool → Bool → Bool → Bool → Bool → Outcome
judged few beyond idle never fits =
    cond few (Err TooFew)
    (cond beyond (Err BadBlock) (cond idle (cond never (Err NotNow) (cond fits (Ok tt) (Err BadBuffer))) (Err Busy)))

-- nothing of it applies
pub record Passed (few beyond idle never fits : Bool) : Type 0 where
  pub enough : few ≡ false
  pub there : beyond ≡ false
  pub free : idle ≡ true
  pub time : never ≡ false
  pub room : fits ≡ true

not_done : {A : Type 0} (why : Refusal) → ◌≡◌ {A = Outcome} (Err why) (Ok tt) → A
not_done why e = let z : ◌≡◌ {A = ℕ} 0 1 = cc in absurd (omega arith)

pub judged_done : (few beyond idle never fits : Bool) → judged few beyond idle never fits ≡ Ok tt → Passed few beyond idle never fits
unfolding judged
judged_done true beyond idle never fits e = not_done TooFew e
judged_done false true idle never fits e = not_done BadBlock e
judged_done false false false never fits e = not_done Busy e
judged_done false false true true fits e = not_done NotNow e
judged_done false false true false false e = not_done BadBuffer e
judged_done false false true false true e = record { enough = refl; there = refl; free = refl; time = refl; room = refl }

pub first_done : (o p : Outcome) → first o p ≡ Ok tt → (o ≡ Ok tt) × (p ≡ Ok tt)
first_done (Ok tt) p e = (refl, e)
first_done (Err why) p e = not_done why e

-- a generation is left
pub one_more : (l : Label) → last_one l ≡ false → l.generation < most_generation
unfolding last_one
one_more l e = leb-false most_generation l.generation e
