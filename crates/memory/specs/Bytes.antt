-- A state as bytes, 8 for each of its numbers, and any bytes as a state. What is written reads back. Assumes nothing.
use Rattle.std.specs.Prelude.{◌≡◌, cond, List, [], ◌++◌, ℕ, ◌*◌, eqb, length, Ok, Err}
use Rattle.std.proofs.Common.{sym, ap, ap₂, ◌∙◌, append-nil, arith, drop_of_length-le}
use Rattle.disk.specs.declared.refusal.Refusal.{Refusal}
use Rattle.disk.specs.declared.refusal.Refusal.TheVariants.{BadBuffer}
use Rattle.disk.specs.Refusal.{Outcome}
use Rattle.stages.specs.declared.state.State.{State}
use Rattle.memory.specs.Words.{words, numbers_at, with_words, length_words, words_append, numbers_append}
use Rattle.memory.specs.Numbers.{number_count, label_numbers, rest_numbers, numbers_of, state_of, StateFits, length_numbers, numbers_back}

-- how many bytes a state has
abbrev pub state_length : ℕ
state_length = number_count * 8

-- the state that the bytes are; a byte past the end counts as 0
unfoldable pub state_at : List ℕ → State
state_at b = state_of (numbers_at number_count b 0)

-- the state's bytes
unfoldable pub state_bytes : State → List ℕ
state_bytes s = words (numbers_of s)

-- BAD_BUFFER where the slice has another length
unfoldable pub write_answer : ℕ → Outcome
write_answer len = cond (eqb len state_length) (Ok tt) (Err BadBuffer)

-- and what it leaves
abbrev pub after_write : Outcome → State → List ℕ → List ℕ
after_write (Ok tt) s b = state_bytes s
after_write (Err why) s b = b

-- ---- laws

pub length_state : (s : State) → length (state_bytes s) ≡ state_length
unfolding state_bytes
length_state s = length_words (numbers_of s) ∙ ap (λ (n : ℕ). 8 * n) (length_numbers s)

-- a state's bytes read as it
pub state_back : (s : State) → StateFits s → state_at (state_bytes s) ≡ s
unfolding state_at state_bytes
state_back s h =
    ap state_of
    (ap₂ (λ (n : ℕ) (b : List ℕ). numbers_at n b 0) (sym (length_numbers s)) (sym (append-nil (words (numbers_of s))))
    ∙ numbers_append (numbers_of s) [] [] h)
    ∙ numbers_back s

-- the numbers written over a whole slice, part by part
pub whole : (s : State) (b : List ℕ) {l m r x y z : List ℕ} → length b ≡ state_length
    → l ≡ label_numbers s.now → x ≡ with_words l b 0
    → m ≡ label_numbers s.next → y ≡ with_words m x 80
    → r ≡ rest_numbers s → z ≡ with_words r y 160
    → z ≡ state_bytes s
unfolding state_bytes with_words numbers_of
whole s b h el ex em ey er ez =
    let n : 8 * length (numbers_of s) ≡ state_length = ap (λ (k : ℕ). 8 * k) (length_numbers s) in
    ez
    ∙ ap₂ (λ (u v : List ℕ). with_words u v 160) er (ey ∙ ap₂ (λ (u v : List ℕ). with_words u v 80) em (ex ∙ ap (λ (u : List ℕ). with_words u b 0) el))
    ∙ words_append (numbers_of s) [] b (omega arith)
    ∙ ap (λ (u : List ℕ). words (numbers_of s) ++ u) (drop_of_length-le b {i = 8 * length (numbers_of s)} (omega arith))
    ∙ append-nil (words (numbers_of s))

pub not_done : {why : Refusal} → ◌≡◌ {A = Outcome} (Err why) (Ok tt) → ⊥
not_done e = let z : ◌≡◌ {A = ℕ} 0 1 = cc in omega arith
