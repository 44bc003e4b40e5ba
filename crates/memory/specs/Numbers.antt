-- A state as a row of numbers, in the order of its declaration, and a row of numbers as a state. Assumes nothing.
use Rattle.std.specs.Prelude.{◌≡◌, refl, Bool, true, false, cond, not, List, [], ◌∷◌, ◌++◌, ℕ, ◌+◌, eqb, length, get_or}
use Rattle.label.specs.declared.fields.Label.{Label}
use Rattle.stages.specs.declared.state.State.{State}
use Rattle.stages.specs.declared.state.Marks.{Marks}
use Rattle.stages.specs.declared.state.Kind.{Kind}
use Rattle.stages.specs.declared.state.Kind.TheVariants.{Nothing, Idle, Creating, Starting, Labelling, Writing, Beginning, Filling}
use Rattle.memory.specs.Words.{Fit, fit_append}

-- how many numbers a state has
abbrev pub number_count : ℕ
number_count = 35

abbrev pub kind_number : Kind → ℕ
kind_number Nothing = 0
kind_number Idle = 1
kind_number Creating = 2
kind_number Starting = 3
kind_number Labelling = 4
kind_number Writing = 5
kind_number Beginning = 6
kind_number Filling = 7

-- a number that is no kind's is Nothing's
unfoldable pub kind_of : ℕ → Kind
kind_of x =
    cond (eqb x 1) Idle (cond (eqb x 2) Creating (cond (eqb x 3) Starting (cond (eqb x 4) Labelling (cond (eqb x 5) Writing (cond (eqb x 6) Beginning (cond (eqb x 7) Filling Nothing))))))

abbrev pub bool_number : Bool → ℕ
bool_number true = 1
bool_number false = 0

-- a label's numbers, in the order of its declaration
abbrev pub label_numbers : Label → List ℕ
label_numbers l = l.k ∷ l.m ∷ l.slot ∷ l.c ∷ l.sectors ∷ l.shelf ∷ l.generation ∷ l.out ∷ l.rebuilding ∷ l.mark ∷ []

-- the numbers of a state behind those of its two labels
abbrev pub rest_numbers : State → List ℕ
rest_numbers s =
    s.absent ∷ s.epoch ∷ s.count
    ∷ s.marks.present ∷ s.marks.parts ∷ s.marks.late ∷ s.marks.prep ∷ s.marks.zeroed ∷ s.marks.redo ∷ s.marks.stripe ∷ bool_number s.marks.forward
    ∷ kind_number s.kind
    ∷ s.cursor.stage ∷ s.cursor.slot ∷ s.cursor.sector ∷ []

-- a state's numbers, in the order of the declaration
unfoldable pub numbers_of : State → List ℕ
numbers_of s = label_numbers s.now ++ (label_numbers s.next ++ rest_numbers s)

-- each number of the state has 8 bytes. So it is with every state of the code, whose fields are u64 or usize: `write`
-- asks for nothing, and says that what it wrote reads back
abbrev pub StateFits : State → Type 0
StateFits s = Fit (numbers_of s)

-- the label whose numbers begin at number i
abbrev pub label_of : List ℕ → ℕ → Label
label_of a i =
    record {
      k = get_or a i 0;
      m = get_or a (i + 1) 0;
      slot = get_or a (i + 2) 0;
      c = get_or a (i + 3) 0;
      sectors = get_or a (i + 4) 0;
      shelf = get_or a (i + 5) 0;
      generation = get_or a (i + 6) 0;
      out = get_or a (i + 7) 0;
      rebuilding = get_or a (i + 8) 0;
      mark = get_or a (i + 9) 0;
    }

-- the marks, whose numbers begin at number 23
abbrev pub marks_of : List ℕ → Marks
marks_of a =
    record {
      present = get_or a 23 0;
      parts = get_or a 24 0;
      late = get_or a 25 0;
      prep = get_or a 26 0;
      zeroed = get_or a 27 0;
      redo = get_or a 28 0;
      stripe = get_or a 29 0;
      forward = not (eqb (get_or a 30 0) 0);
    }

-- the state whose numbers they are
unfoldable pub state_of : List ℕ → State
state_of a =
    record {
      now = label_of a 0;
      next = label_of a 10;
      absent = get_or a 20 0;
      epoch = get_or a 21 0;
      count = get_or a 22 0;
      marks = marks_of a;
      kind = kind_of (get_or a 31 0);
      cursor = record { stage = get_or a 32 0; slot = get_or a 33 0; sector = get_or a 34 0 };
    }

-- ---- laws

pub length_numbers : (s : State) → length (numbers_of s) ≡ number_count
unfolding numbers_of
length_numbers s = refl

pub kind_back : (x : Kind) → kind_of (kind_number x) ≡ x
unfolding kind_of
kind_back Nothing = refl
kind_back Idle = refl
kind_back Creating = refl
kind_back Starting = refl
kind_back Labelling = refl
kind_back Writing = refl
kind_back Beginning = refl
kind_back Filling = refl

pub bool_back : (b : Bool) → not (eqb (bool_number b) 0) ≡ b
bool_back true = refl
bool_back false = refl

-- a state is what its numbers are
pub numbers_back : (s : State) → state_of (numbers_of s) ≡ s
unfolding state_of numbers_of
numbers_back s =
    λ i. record {
      now = s.now;
      next = s.next;
      absent = s.absent;
      epoch = s.epoch;
      count = s.count;
      marks = record {
        present = s.marks.present;
        parts = s.marks.parts;
        late = s.marks.late;
        prep = s.marks.prep;
        zeroed = s.marks.zeroed;
        redo = s.marks.redo;
        stripe = s.marks.stripe;
        forward = bool_back s.marks.forward i;
      };
      kind = kind_back s.kind i;
      cursor = s.cursor;
    }

-- a state fits where its parts do
pub parts_fit : (s : State) → Fit (label_numbers s.now) → Fit (label_numbers s.next) → Fit (rest_numbers s) → StateFits s
unfolding numbers_of
parts_fit s p q r =
    fit_append (label_numbers s.now) (label_numbers s.next ++ rest_numbers s) p (fit_append (label_numbers s.next) (rest_numbers s) q r)
