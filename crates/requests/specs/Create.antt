-- Create: which numbers and images it takes, and the state that it begins with. Assumes nothing.
use Rattle.std.specs.Prelude.{Bool, cond, ◌&&◌, List, ℕ, ◌+◌, ◌-◌, ◌^◌, leb, eqb, length, Ok, Err}
use Rattle.disk.specs.Limits.{least_k, most_k, least_m, most_m}
use Rattle.disk.specs.Image.{fits_image}
use Rattle.disk.specs.declared.refusal.Refusal.TheVariants.{BadImage, NotNow, BadBuffer}
use Rattle.disk.specs.Refusal.{Outcome}
use Rattle.label.specs.Fields.{no_slot}
use Rattle.label.specs.Bytes.{all_zero}
use Rattle.label.specs.declared.fields.Label.{Label}
use Rattle.requests.specs.Begun.{work_bytes, begun, marks_of}
use Rattle.stages.specs.declared.state.State.{State}
use Rattle.stages.specs.declared.state.Marks.{Marks}
use Rattle.stages.specs.declared.state.Kind.TheVariants.{Creating}
use Rattle.requests.specs.Begun.{Begun}

-- k data shards and m parity shards
unfoldable pub shards_fit : ℕ → ℕ → Bool
shards_fit k m = leb least_k k && (leb k most_k && (leb least_m m && leb m most_m))

-- a slice of `len` bytes is the image of a shelf with these numbers
unfoldable pub shelf_fits : ℕ → ℕ → ℕ → ℕ → ℕ → Bool
shelf_fits k m c S len = shards_fit k m && fits_image (record { n = k + m; c = c; sectors = S }) len

-- numbers or a length that are no shelf's: BAD_IMAGE; an image that is not zeros throughout: NOT_NOW; another work area: BAD_BUFFER
unfoldable pub create_answer : ℕ → ℕ → ℕ → ℕ → List ℕ → ℕ → Outcome
create_answer k m c S img room =
    cond (shelf_fits k m c S (length img))
    (cond (all_zero img) (cond (eqb room (work_bytes (k + m) c)) (Ok tt) (Err BadBuffer)) (Err NotNow)) (Err BadImage)

-- the label of generation 1: nothing out, nothing being rebuilt
abbrev pub first_label : ℕ → ℕ → ℕ → ℕ → ℕ → Label
first_label k m c S shelf =
    record {
      k = k;
      m = m;
      slot = 0;
      c = c;
      sectors = S;
      shelf = shelf;
      generation = 1;
      out = 0;
      rebuilding = no_slot;
      mark = 0;
    }

-- nothing is absent, nothing was written
abbrev pub shelf_of : Label → Marks → State
shelf_of l marks =
    record {
      now = l;
      next = l;
      absent = 0;
      epoch = 1;
      count = 0;
      marks = marks;
      kind = Creating;
      cursor = record { stage = 0; slot = 0; sector = 0 };
    }

-- every slot is present
abbrev pub created : ℕ → ℕ → ℕ → ℕ → ℕ → State
created k m c S shelf = shelf_of (first_label k m c S shelf) (marks_of (2 ^ (k + m) - 1))

abbrev pub create_of : ℕ → ℕ → ℕ → ℕ → ℕ → List ℕ → ℕ → Begun
create_of k m c S shelf img room = begun (create_answer k m c S img room) (created k m c S shelf)
