-- What each changing request is refused for first. Assumes nothing.
use Rattle.std.specs.Prelude.{Bool, true, false, cond, not, ◌&&◌, ◌||◌, List, ℕ, ◌+◌, eqb, length, Ok, Err, Some, None}
use Rattle.disk.specs.Image.{fits_image}
use Rattle.disk.specs.Mask.{in_mask}
use Rattle.disk.specs.declared.geometry.Geometry.{Geometry}
use Rattle.disk.specs.declared.refusal.Refusal.TheVariants.{BadImage, NoLabel, NotNow}
use Rattle.disk.specs.Refusal.{Outcome}
use Rattle.label.specs.Fields.{geometry_of, fits_of}
use Rattle.label.specs.Newest.{disk_label, same_shelf, all_of}
use Rattle.label.specs.declared.fields.Label.{Label}
use Rattle.label.specs.Fields.{Decoded}
use Rattle.shelf.specs.Act.{named}
use Rattle.stages.specs.declared.state.Kind.{Kind}
use Rattle.stages.specs.declared.state.Kind.TheVariants.{Nothing, Idle, Creating, Starting, Labelling, Writing, Beginning, Filling}

abbrev pub is_nothing : Kind → Bool
is_nothing Nothing = true
is_nothing Idle = false
is_nothing Creating = false
is_nothing Starting = false
is_nothing Labelling = false
is_nothing Writing = false
is_nothing Beginning = false
is_nothing Filling = false

abbrev pub is_idle : Kind → Bool
is_idle Nothing = false
is_idle Idle = true
is_idle Creating = false
is_idle Starting = false
is_idle Labelling = false
is_idle Writing = false
is_idle Beginning = false
is_idle Filling = false

-- a shelf is started, or about to be, and its label is in range
unfoldable pub has_shelf : Label → Kind → Bool
has_shelf l kind = not (is_nothing kind) && fits_of l

-- two labels are equal in every field: see `same_label_lem`
unfoldable pub same_label : Label → Label → Bool
same_label x y =
    same_shelf x y
    && (eqb x.slot y.slot
    && (eqb x.generation y.generation
    && (eqb x.out y.out && (eqb x.rebuilding y.rebuilding && eqb x.mark y.mark))))

abbrev pub is_label : Label → Decoded → Bool
is_label l (Some x) = same_label l x
is_label l None = false

-- slot d is absent, or its disk has the label l with its own number
unfoldable pub holding : Geometry → List ℕ → ℕ → Label → ℕ → Bool
holding g img absent l d = in_mask absent d || is_label (named l d) (disk_label g img d)

-- no shelf: NOT_NOW; another image: BAD_IMAGE; while nothing is under way, a present disk with another label than the state's:
-- NO_LABEL
unfoldable pub ready_of : Label → Kind → ℕ → List ℕ → Outcome
ready_of l kind absent img =
    cond (has_shelf l kind)
    (cond (fits_image (geometry_of l) (length img))
    (cond (is_idle kind) (cond (all_of (holding (geometry_of l) img absent l) (l.k + l.m)) (Ok tt) (Err NoLabel)) (Ok tt)) (Err BadImage)) (Err NotNow)
