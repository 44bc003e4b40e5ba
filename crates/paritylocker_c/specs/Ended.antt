-- The number of a request that is done. Assumes nothing.
use Rattle.std.specs.Prelude.{Bool, true, false, cond, ℕ, ◌+◌, ◌*◌, ◌%◌, eqb}
use Rattle.label.specs.declared.fields.Label.{Label}
use Rattle.stages.specs.declared.state.Kind.{Kind}
use Rattle.stages.specs.declared.state.Kind.TheVariants.{Nothing, Idle, Creating, Starting, Labelling, Writing, Beginning, Filling}
use Rattle.stages.specs.declared.state.Marks.{Marks}
use Rattle.stages.specs.declared.state.State.{State}

-- strips are being rebuilt
abbrev pub is_filling : Kind → Bool
is_filling Nothing = false
is_filling Idle = false
is_filling Creating = false
is_filling Starting = false
is_filling Labelling = false
is_filling Writing = false
is_filling Beginning = false
is_filling Filling = true

-- the mark that is reached: the next label's, or where the slot is healthy the mark before and the strips behind it
unfoldable pub mark_reached : Bool → ℕ → ℕ → ℕ → ℕ
mark_reached healed mark strips next = cond healed (mark % 4294967296 + strips % 4294967296) next

-- a rebuild: 4 where the slot is healthy, else 3; 256 more where survivors contradicted each other; and 65536 * the mark
unfoldable pub rebuilt_number : Bool → Bool → ℕ → ℕ
rebuilt_number healed torn mark = cond healed 4 3 + cond torn 256 0 + 65536 * (mark % 4294967296)

abbrev pub filled_number : Label → Label → Marks → ℕ
filled_number l next marks =
    let healed = eqb next.rebuilding 255 in
    rebuilt_number healed marks.forward (mark_reached healed l.mark marks.stripe next.mark)

unfoldable pub number_done : Kind → Label → Label → Marks → ℕ
number_done kind l next marks = cond (is_filling kind) (filled_number l next marks) 3

-- the number of a request that is done, from the state before its last step
abbrev pub done_number : State → ℕ
done_number s = number_done s.kind s.now s.next s.marks
