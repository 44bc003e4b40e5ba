-- What a turn of each loop adds. Assumes nothing.
use mathlib.Core.Path.{◌≡◌, sym, ap, ◌∙◌}
use mathlib.Core.Bool.{cond}
use Prim.Native.Nat.{ℕ, ◌+◌}
use native.Mathlib.Numerals.{add-one}
use Rattle.record.specs.Stamp.{later_of}
use Rattle.record.specs.declared.stamp.Stamp.{Stamp}
use Rattle.redo.specs.Decide.{leader_of}

-- the slot that a turn chooses
pub leader_turn : (key : ℕ → Stamp) (f d r : ℕ) → f ≡ leader_of key d → r ≡ cond (later_of (key d) (key f)) d f → r ≡ leader_of key (d + 1)
unfolding leader_of
leader_turn key f d r e h =
    h ∙ ap (λ (x : ℕ). cond (later_of (key d) (key x)) d x) e ∙ ap (leader_of key) (sym (add-one d))
