-- What the C functions of the shelf answer, and what they leave in the lent state. Assumes nothing.
use Rattle.std.specs.Prelude.{◌≡◌, refl, Bool, true, false, cond, List, [], ℕ, ◌+◌, ◌*◌, ◌%◌, eqb, length, Ok, Err}
use Rattle.std.proofs.Common.{sym, ap, ap₂, ◌∙◌, eq-eqb, ne_eqb}
use Rattle.disk.specs.Refusal.{number_of}
use Rattle.disk.specs.Refusal.{Outcome}
use Rattle.memory.specs.Bytes.{state_length, state_at, write_answer, after_write}
use Rattle.requests.specs.Status.{status_answer, after_status}
use Rattle.requests.specs.Begun.{Begun, outcome_of, state_of}
use Rattle.stages.specs.declared.state.State.{State}
use Rattle.stages.specs.Told.{Answer}
use Rattle.stages.specs.Told.{Put, Flush, Done, Refused}
use Rattle.paritylocker_c.specs.Labels.{number_of_outcome}

-- the work area counts for nothing where the state can't be kept: a step is then BAD_BUFFER, or refused for another reason
unfoldable pub area_of : List ℕ → ℕ → List ℕ
area_of work state = cond (eqb state state_length) work []

-- a request: 0 where it is under way; its refusal; BAD_BUFFER where the state can't be kept
abbrev pub number_begun : Outcome → ℕ → ℕ
number_begun (Ok tt) len = number_of_outcome (write_answer len)
number_begun (Err why) len = number_of why

abbrev pub begun_number : Begun → ℕ → ℕ
begun_number b len = number_begun (outcome_of b) len

-- and the state's bytes after it: a refusal changes none
abbrev pub bytes_begun : Outcome → State → List ℕ → List ℕ
bytes_begun (Ok tt) s bytes = after_write (write_answer (length bytes)) s bytes
bytes_begun (Err why) s bytes = bytes

abbrev pub after_begun : Begun → List ℕ → List ℕ
after_begun (Ok s) bytes = after_write (write_answer (length bytes)) s bytes
after_begun (Err why) bytes = bytes

-- by its outcome and the state that is held after it
pub after_begun_is : (s : State) (b : Begun) (bytes : List ℕ) → after_begun b bytes ≡ bytes_begun (outcome_of b) (state_of s b) bytes
after_begun_is s (Ok t) bytes = refl
after_begun_is s (Err why) bytes = refl

-- a step: kind + 256 * slot + 65536 * sector, or the number of the request that is done
abbrev pub answer_number : ℕ → Answer → ℕ
answer_number done (Put d s) = 1 + 256 * (d % 256) + 65536 * (s % 4294967296)
answer_number done (Flush d) = 2 + 256 * (d % 256)
answer_number done Done = done
answer_number done (Refused why) = 256 * number_of why

abbrev pub is_refused : Answer → Bool
is_refused (Put d s) = false
is_refused (Flush d) = false
is_refused Done = false
is_refused (Refused why) = true

-- the state's bytes after it: a refusal changes none
unfoldable pub kept_after : Bool → State → List ℕ → List ℕ
kept_after refused s bytes = cond refused bytes (after_write (write_answer (length bytes)) s bytes)

abbrev pub after_answer : Answer → State → List ℕ → List ℕ
after_answer answer s bytes = kept_after (is_refused answer) s bytes

-- the status: BAD_BUFFER where a size is wrong
abbrev pub status_number : List ℕ → ℕ → ℕ
status_number bytes count = cond (eqb (length bytes) state_length) (number_of_outcome (status_answer (state_at bytes) count)) 16

abbrev pub status_leaves : List ℕ → List ℕ → List ℕ
status_leaves bytes fields = cond (eqb (length bytes) state_length) (after_status (status_answer (state_at bytes) (length fields)) (state_at bytes) fields) fields

-- ---- by cases

pub kept_not : (refused : Bool) (s : State) (bytes : List ℕ) → refused ≡ true → bytes ≡ kept_after refused s bytes
unfolding kept_after
kept_not refused s bytes e = sym (ap (λ (b : Bool). cond b bytes (after_write (write_answer (length bytes)) s bytes)) e)

pub kept_is : (refused : Bool) (s : State) (bytes : List ℕ) → refused ≡ false → after_write (write_answer (length bytes)) s bytes ≡ kept_after refused s bytes
unfolding kept_after
kept_is refused s bytes e = sym (ap (λ (b : Bool). cond b bytes (after_write (write_answer (length bytes)) s bytes)) e)

pub area_right : (work : List ℕ) (state : ℕ) → state ≡ state_length → work ≡ area_of work state
unfolding area_of
area_right work state e = sym (ap (λ (b : Bool). cond b work []) (eq-eqb state state_length e))

pub area_wrong : (work : List ℕ) (state : ℕ) → (state ≡ state_length → ⊥) → [] ≡ area_of work state
unfolding area_of
area_wrong work state h = sym (ap (λ (b : Bool). cond b work []) (ne_eqb state state_length h))

module _ (bytes fields : List ℕ) where
  pub status_short : (length bytes ≡ state_length → ⊥) → (16 ≡ status_number bytes (length fields)) × (fields ≡ status_leaves bytes fields)
  status_short h = let e = ne_eqb (length bytes) state_length h in (simp e, simp e)

  pub status_told : (s : State) (r : Outcome) (after : List ℕ) → length bytes ≡ state_length → s ≡ state_at bytes → r ≡ status_answer s (length fields) → after ≡ after_status r s fields
      → (number_of_outcome r ≡ status_number bytes (length fields)) × (after ≡ status_leaves bytes fields)
  status_told s r after h e a b =
      let q = eq-eqb (length bytes) state_length h in
      let t : r ≡ status_answer (state_at bytes) (length fields) = a ∙ ap (λ (x : State). status_answer x (length fields)) e in (
        ap number_of_outcome t ∙ sym (ap (λ (c : Bool). cond c (number_of_outcome (status_answer (state_at bytes) (length fields))) 16) q),
        b ∙ ap₂ (λ (x : Outcome) (y : State). after_status x y fields) t e ∙ sym (ap (λ (c : Bool). cond c (after_status (status_answer (state_at bytes) (length fields)) (state_at bytes) fields) fields) q),
      )
