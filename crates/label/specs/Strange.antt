-- Labels of another shelf or slot. Assumes nothing.
use Rattle.std.specs.Prelude.{Bool, ◌&&◌, cond, List, ℕ, eqb, Some, None}
use Rattle.label.specs.Valid.{label_at, decode_of}
use Rattle.label.specs.Newest.{same_shelf}
use Rattle.label.specs.declared.fields.Label.{Label}
use Rattle.label.specs.Fields.{Decoded}

-- x is of l's shelf and of slot d
unfoldable pub own : Label → ℕ → Label → Bool
own l d x = same_shelf l x && eqb x.slot d

-- the generation of a label that is not
abbrev pub strange_in : Label → ℕ → Decoded → ℕ
strange_in l d None = 0
strange_in l d (Some x) = cond (own l d x) 0 x.generation

-- valid with the slot number that it carries itself, in the sector that its generation calls for
unfoldable pub strange_of : List ℕ → Label → ℕ → ℕ → ℕ
strange_of b l d s = strange_in l d (decode_of b (label_at b).slot s)
