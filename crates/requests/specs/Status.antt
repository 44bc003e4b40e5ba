-- The status: eleven numbers, or a refusal. Assumes nothing.
use Rattle.std.specs.Prelude.{◌≡◌, refl, cond, List, [], ◌∷◌, ℕ, eqb, length, set, Ok, Err}
use Rattle.std.proofs.Common.{arith}
use Rattle.disk.specs.declared.refusal.Refusal.TheVariants.{NotNow, BadBuffer}
use Rattle.disk.specs.Refusal.{Outcome}
use Rattle.label.specs.declared.fields.Label.{Label}
use Rattle.requests.specs.Ready.{has_shelf}
use Rattle.stages.specs.declared.state.State.{State}
use Rattle.stages.specs.declared.state.Kind.{Kind}
use Rattle.stages.specs.declared.state.Kind.TheVariants.{Nothing, Idle, Creating, Starting, Labelling, Writing, Beginning, Filling}

abbrev pub status_count : ℕ
status_count = 11

-- 1 when create or start-up has answered
abbrev pub ready_number : Kind → ℕ
ready_number Nothing = 0
ready_number Idle = 1
ready_number Creating = 0
ready_number Starting = 0
ready_number Labelling = 1
ready_number Writing = 1
ready_number Beginning = 1
ready_number Filling = 1

-- ready, k, m, c, S, shelf, generation, out, absent, rebuilding, mark
abbrev pub status_fields : ℕ → Label → ℕ → List ℕ
status_fields ready l absent =
    ready ∷ l.k ∷ l.m ∷ l.c ∷ l.sectors ∷ l.shelf ∷ l.generation ∷ l.out ∷ absent ∷ l.rebuilding ∷ l.mark ∷ []

-- no shelf: NOT_NOW; room for another count of numbers: BAD_BUFFER
unfoldable pub status_answer : State → ℕ → Outcome
status_answer s count = cond (has_shelf s.now s.kind) (cond (eqb count status_count) (Ok tt) (Err BadBuffer)) (Err NotNow)

-- and what it leaves
abbrev pub after_status : Outcome → State → List ℕ → List ℕ
after_status (Ok tt) s f = status_fields (ready_number s.kind) s.now s.absent
after_status (Err why) s f = f

pub eleven : (f : List ℕ) (a b c d e g h i j k l : ℕ) → length f ≡ status_count
    → set (set (set (set (set (set (set (set (set (set (set f 0 a) 1 b) 2 c) 3 d) 4 e) 5 g) 6 h) 7 i) 8 j) 9 k) 10 l
    ≡ a ∷ b ∷ c ∷ d ∷ e ∷ g ∷ h ∷ i ∷ j ∷ k ∷ l ∷ []
eleven (x0 ∷ x1 ∷ x2 ∷ x3 ∷ x4 ∷ x5 ∷ x6 ∷ x7 ∷ x8 ∷ x9 ∷ y ∷ []) a b c d e g h i j k l q = refl
eleven (x0 ∷ x1 ∷ x2 ∷ x3 ∷ x4 ∷ x5 ∷ x6 ∷ x7 ∷ x8 ∷ x9 ∷ y ∷ z ∷ f) a b c d e g h i j k l q = absurd (omega arith)
eleven [] a b c d e g h i j k l q = absurd (omega arith)
eleven (x0 ∷ []) a b c d e g h i j k l q = absurd (omega arith)
eleven (x0 ∷ x1 ∷ []) a b c d e g h i j k l q = absurd (omega arith)
eleven (x0 ∷ x1 ∷ x2 ∷ []) a b c d e g h i j k l q = absurd (omega arith)
eleven (x0 ∷ x1 ∷ x2 ∷ x3 ∷ []) a b c d e g h i j k l q = absurd (omega arith)
eleven (x0 ∷ x1 ∷ x2 ∷ x3 ∷ x4 ∷ []) a b c d e g h i j k l q = absurd (omega arith)
eleven (x0 ∷ x1 ∷ x2 ∷ x3 ∷ x4 ∷ x5 ∷ []) a b c d e g h i j k l q = absurd (omega arith)
eleven (x0 ∷ x1 ∷ x2 ∷ x3 ∷ x4 ∷ x5 ∷ x6 ∷ []) a b c d e g h i j k l q = absurd (omega arith)
eleven (x0 ∷ x1 ∷ x2 ∷ x3 ∷ x4 ∷ x5 ∷ x6 ∷ x7 ∷ []) a b c d e g h i j k l q = absurd (omega arith)
eleven (x0 ∷ x1 ∷ x2 ∷ x3 ∷ x4 ∷ x5 ∷ x6 ∷ x7 ∷ x8 ∷ []) a b c d e g h i j k l q = absurd (omega arith)
eleven (x0 ∷ x1 ∷ x2 ∷ x3 ∷ x4 ∷ x5 ∷ x6 ∷ x7 ∷ x8 ∷ x9 ∷ []) a b c d e g h i j k l q = absurd (omega arith)
