-- Definitions of the requests by those of the crates below. Assumes nothing.
use Rattle.std.specs.Prelude.{◌≡◌, refl, Bool, true, false, cond, not, ℕ, zero, suc, ◌+◌, ◌≤◌}
use Rattle.std.proofs.Common.{ap, arith}
use Rattle.disk.specs.Mask.{in_mask, with_slot, mask_of}
use Rattle.disk.specs.Limits.{most_n}
use Rattle.label.specs.Fields.{fits_of, calls_out}
use Rattle.label.proofs.Fits.{fits_says}
use Rattle.label.specs.declared.fields.Label.{Label}
use Rattle.requests.specs.Begun.{joined, slots_but}
use Rattle.requests.specs.TakeOut.{plainly_out}

-- a shelf has no more slots than a mask
pub few_slots : (l : Label) → fits_of l ≡ true → l.k + l.m ≤ most_n
few_slots l e = (fits_says l e).range.few

-- a label calls the slots out that are plainly out
pub plainly_called : (l : Label) (d : ℕ) → calls_out l d ≡ plainly_out l d
unfolding calls_out plainly_out
plainly_called l d = grind arith

-- the slots that are not absent
pub slots_mask : (absent n : ℕ) → mask_of (λ d. not (in_mask absent d)) n ≡ slots_but absent n
unfolding slots_but joined mask_of
slots_mask absent zero = refl
slots_mask absent (suc n) = by (in_mask absent n) (slots_mask absent n)
  where
    M : ℕ
    M = mask_of (λ d. not (in_mask absent d)) n

    N : ℕ
    N = slots_but absent n

    by : (b : Bool) → M ≡ N → cond (not b) (with_slot M n) M ≡ cond b N (with_slot N n)
    by true e = e
    by false e = ap (λ (x : ℕ). with_slot x n) e
