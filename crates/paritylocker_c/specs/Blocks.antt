-- What the C functions of blocks and stripes answer, and what they leave in the lent state and work area. Assumes nothing.
use Rattle.std.specs.Prelude.{◌≡◌, refl, Bool, cond, List, ℕ, eqb, length, Ok, Err}
use Rattle.std.proofs.Common.{sym, ap, subst, ◌∙◌, eq-eqb, ne_eqb}
use Rattle.code.specs.declared.Verdict.{Verdict}
use Rattle.disk.specs.Refusal.{number_of}
use Rattle.disk.specs.Refusal.{Outcome}
use Rattle.disk.specs.declared.refusal.Refusal.TheVariants.{BadBuffer}
use Rattle.memory.specs.Bytes as memory
use Rattle.memory.specs.Bytes.{state_length, state_at, state_bytes}
use Rattle.requests.specs.Begun.{Begun, outcome_of, state_of}
use Rattle.stages.specs.declared.state.State.{State}
use Rattle.strips.specs.Whole.{Scrubbed}
use Rattle.blocks.specs.Read.{read_answer, after_read, laid_over}
use Rattle.blocks.specs.Write.{write_answer, Written, AfterWrite}
use Rattle.blocks.specs.Scrub.{scrub_answer, SaysOf, ScrubbedBy}
use Rattle.blocks.specs.Repair.{Repairs, repair_refused}
use Rattle.paritylocker_c.specs.Answers.{number_of_verdict, Small, small}
use Rattle.paritylocker_c.specs.Labels.{number_of_outcome}
use Rattle.paritylocker_c.specs.Shelf.{number_begun, bytes_begun}

-- BAD_BUFFER where the state is of another size, before anything else; otherwise what the shelf answers
unfoldable pub sized_or : ℕ → Outcome → Outcome
sized_or len o = cond (eqb len state_length) o (Err BadBuffer)

-- the answers on lent bytes of a state
abbrev pub read_of : State → ℕ → ℕ → ℕ → ℕ → Outcome
read_of s block len bytes room = read_answer s.now s.kind s.absent block len bytes room

abbrev pub read_with : List ℕ → ℕ → ℕ → ℕ → ℕ → Outcome
read_with st block len bytes room = sized_or (length st) (read_of (state_at st) block len bytes room)

abbrev pub write_of : State → ℕ → List ℕ → ℕ → ℕ → Outcome
write_of s block img bytes room = write_answer s.now s.kind s.absent s.count img block bytes room

abbrev pub write_with : List ℕ → ℕ → List ℕ → ℕ → ℕ → Outcome
write_with st block img bytes room = sized_or (length st) (write_of (state_at st) block img bytes room)

abbrev pub scrub_of : State → ℕ → ℕ → ℕ → Outcome
scrub_of s t len room = scrub_answer s.now s.kind s.absent t len room

abbrev pub scrub_with : List ℕ → ℕ → ℕ → ℕ → Outcome
scrub_with st t len room = sized_or (length st) (scrub_of (state_at st) t len room)

-- ---- what a request leaves

-- the bytes of a state for which W holds
pub record Kept (W : State → Type 0) (st' : List ℕ) : Type 0 where
  pub state : State
  pub begins : W state
  pub kept : st' ≡ state_bytes state

-- a refusal changes neither state nor work area
abbrev pub Left : Outcome → (State → Type 0) → List ℕ → List ℕ → List ℕ → List ℕ → Type 0
Left (Ok tt) W st st' work after = Kept W st'
Left (Err why) W st st' work after = (st' ≡ st) × (after ≡ work)

-- ---- scrub

-- 256 sound; 512 + r accused; 768 more than one; or the refusal's code
abbrev pub number_of_scrubbed : Scrubbed → ℕ
number_of_scrubbed (Ok v) = number_of_verdict v
number_of_scrubbed (Err why) = number_of why

-- what the code says of stripe t as it is seen, with the write under way laid over
abbrev pub SaysAt : State → ℕ → List ℕ → List ℕ → Verdict → Type 0
SaysAt s t img work v = SaysOf s.now s.absent (laid_over s t) img work t v

-- r is the number of what a scrub with this outcome found, and P holds of the verdict
pub record Scrubs (o : Outcome) (P : Verdict → Type 0) (r : ℕ) : Type 0 where
  pub scrubbed : Scrubbed
  pub number : r ≡ number_of_scrubbed scrubbed
  pub holds : ScrubbedBy o P scrubbed

-- an accused shard's number is small
abbrev pub SmallFound : Scrubbed → Type 0
SmallFound (Ok v) = Small v
SmallFound (Err why) = Unit {0}

-- ---- repair

-- how a repair begins, its number, and what is kept of it
pub record Mends (st : List ℕ) (t : ℕ) (img work : List ℕ) (r : ℕ) (st' after : List ℕ) : Type 0 where
  pub begun : Begun
  pub repairs : length st ≡ state_length → Repairs (state_at st) t img work begun after
  pub number : r ≡ number_of_outcome (sized_or (length st) (outcome_of begun))
  pub left : Left (sized_or (length st) (outcome_of begun)) (λ s. s ≡ state_of (state_at st) begun) st st' work after

-- ---- by cases

pub sized_not : (len : ℕ) (o : Outcome) → (len ≡ state_length → ⊥) → sized_or len o ≡ Err BadBuffer
unfolding sized_or
sized_not len o h = ap (λ (b : Bool). cond b o (Err BadBuffer)) (ne_eqb len state_length h)

pub sized_is : (len : ℕ) (o : Outcome) → len ≡ state_length → sized_or len o ≡ o
unfolding sized_or
sized_is len o h = ap (λ (b : Bool). cond b o (Err BadBuffer)) (eq-eqb len state_length h)

-- a state of the right size is written
pub write_fits : (len : ℕ) → len ≡ state_length → memory.write_answer len ≡ Ok tt
unfolding memory.write_answer
write_fits len h = ap (λ (b : Bool). cond b (Ok tt) (Err BadBuffer)) (eq-eqb len state_length h)

module _ (st : List ℕ) (block : ℕ) (img work buf : List ℕ) where
  pub read_short : (length st ≡ state_length → ⊥)
      → (16 ≡ number_of_outcome (read_with st block (length img) (length buf) (length work)))
      × (buf ≡ after_read (read_with st block (length img) (length buf) (length work)) (state_at st) block img work buf)
  read_short h =
      let e = sized_not (length st) (read_of (state_at st) block (length img) (length buf) (length work)) h in (
        sym (ap number_of_outcome e),
        sym (ap (λ (o : Outcome). after_read o (state_at st) block img work buf) e),
      )

  pub read_told : (s : State) (o : Outcome) (after : List ℕ) → length st ≡ state_length → s ≡ state_at st → o ≡ read_of s block (length img) (length buf) (length work)
      → after ≡ after_read o s block img work buf
      → (number_of_outcome o ≡ number_of_outcome (read_with st block (length img) (length buf) (length work)))
      × (after ≡ after_read (read_with st block (length img) (length buf) (length work)) (state_at st) block img work buf)
  read_told s o after h e a b =
      let q : o ≡ read_with st block (length img) (length buf) (length work) =
      a ∙ ap (λ (x : State). read_of x block (length img) (length buf) (length work)) e ∙ sym (sized_is (length st) (read_of (state_at st) block (length img) (length buf) (length work)) h) in (
        ap number_of_outcome q,
        b ∙ ap (λ (x : State). after_read o x block img work buf) e ∙ ap (λ (x : Outcome). after_read x (state_at st) block img work buf) q,
      )

-- what is refused for the state's size
pub left_short : (st work : List ℕ) (o : Outcome) (W : State → Type 0) → (length st ≡ state_length → ⊥)
    → (16 ≡ number_of_outcome (sized_or (length st) o)) × Left (sized_or (length st) o) W st st work work
left_short st work o W h =
    let e = sized_not (length st) o h in
    (sym (ap number_of_outcome e), subst (λ (x : Outcome). Left x W st st work work) (sym e) (refl, refl))

-- what is kept of a write
module _ (block : ℕ) (bytes img work after st st' : List ℕ) where
  pub write_kept : (o : Outcome) (s s' : State) (r : ℕ) → length st ≡ state_length → AfterWrite o s block bytes img work s' after → r ≡ number_begun o (length st) → st' ≡ bytes_begun o s' st
      → (r ≡ number_of_outcome o) × Left o (λ x. Written s block bytes img work x after) st st' work after
  write_kept (Ok tt) s s' r h p n k =
      let e = write_fits (length st) h in
      (n ∙ ap number_of_outcome e, record { state = s'; begins = p; kept = k ∙ ap (λ (x : Outcome). memory.after_write x s' st) e })
  write_kept (Err why) s s' r h p n k = (n, (k, p.1))

  pub write_left : (o : Outcome) (s s' : State) (r : ℕ) → length st ≡ state_length → s ≡ state_at st → o ≡ write_of s block img (length bytes) (length work)
      → AfterWrite o s block bytes img work s' after → r ≡ number_begun o (length st) → st' ≡ bytes_begun o s' st
      → (r ≡ number_of_outcome (write_with st block img (length bytes) (length work)))
      × Left (write_with st block img (length bytes) (length work)) (λ x. Written (state_at st) block bytes img work x after) st st' work after
  write_left o s s' r h e a p n k =
      let q : o ≡ write_with st block img (length bytes) (length work) =
      a ∙ ap (λ (x : State). write_of x block img (length bytes) (length work)) e ∙ sym (sized_is (length st) (write_of (state_at st) block img (length bytes) (length work)) h) in
      let z = write_kept o s s' r h p n k in (
        z.0 ∙ ap number_of_outcome q,
        subst (λ (x : State). Left (write_with st block img (length bytes) (length work)) (λ y. Written x block bytes img work y after) st st' work after) e
            (subst (λ (x : Outcome). Left x (λ y. Written s block bytes img work y after) st st' work after) q z.1),
      )

-- what a scrub finds
pub small_found : (o : Outcome) (s : State) (t : ℕ) (img work : List ℕ) (f : Scrubbed) → ScrubbedBy o (SaysAt s t img work) f → SmallFound f
small_found o s t img work (Ok v) p = small _ _ _ _ (Ok v) p.1
small_found o s t img work (Err why) p = tt

module _ (st : List ℕ) (t : ℕ) (img work : List ℕ) where
  pub scrub_short : (length st ≡ state_length → ⊥) → Scrubs (scrub_with st t (length img) (length work)) (SaysAt (state_at st) t img work) 16
  scrub_short h =
      record {
        scrubbed = Err BadBuffer;
        number = refl;
        holds = sized_not (length st) (scrub_of (state_at st) t (length img) (length work)) h;
      }

  pub scrub_told : (s : State) (f : Scrubbed) (r : ℕ) → length st ≡ state_length → s ≡ state_at st → ScrubbedBy (scrub_of s t (length img) (length work)) (SaysAt s t img work) f
      → r ≡ number_of_scrubbed f → Scrubs (scrub_with st t (length img) (length work)) (SaysAt (state_at st) t img work) r
  scrub_told s f r h e p n =
      record {
        scrubbed = f;
        number = n;
        holds =
            subst (λ (o : Outcome). ScrubbedBy o (SaysAt (state_at st) t img work) f) (sym (sized_is (length st) (scrub_of (state_at st) t (length img) (length work)) h))
            (subst (λ (x : State). ScrubbedBy (scrub_of x t (length img) (length work)) (SaysAt x t img work) f) e p);
      }

-- what is kept of a repair
module _ (st : List ℕ) (t : ℕ) (img work : List ℕ) where
  pub mends_short : (length st ≡ state_length → ⊥) → Mends st t img work 16 st work
  mends_short h =
      let z = left_short st work (Err BadBuffer) (λ s. s ≡ state_at st) h in
      record {
        begun = Err BadBuffer;
        repairs = λ e. absurd (h e);
        number = z.0;
        left = z.1;
      }

  pub mends_kept : (b : Begun) (s : State) (st' after : List ℕ) (r : ℕ) (o : Outcome) → outcome_of b ≡ o → length st ≡ state_length → Repairs s t img work b after
      → r ≡ number_begun o (length st) → st' ≡ bytes_begun o (state_of s b) st → (r ≡ number_of_outcome o) × Left o (λ x. x ≡ state_of s b) st st' work after
  mends_kept b s st' after r (Ok tt) q h w n k =
      let e = write_fits (length st) h in
      (n ∙ ap number_of_outcome e, record { state = state_of s b; begins = refl; kept = k ∙ ap (λ (x : Outcome). memory.after_write x (state_of s b) st) e })
  mends_kept b s st' after r (Err why) q h w n k = (n, (k, (repair_refused s t img work b after w why q).1))

  pub mends : (b : Begun) (s : State) (st' after : List ℕ) (r : ℕ) → length st ≡ state_length → s ≡ state_at st → Repairs s t img work b after
      → r ≡ number_begun (outcome_of b) (length st) → st' ≡ bytes_begun (outcome_of b) (state_of s b) st → Mends st t img work r st' after
  mends b s st' after r h e w n k =
      let z = mends_kept b s st' after r (outcome_of b) refl h w n k in
      let q = sym (sized_is (length st) (outcome_of b) h) in
      record {
        begun = b;
        repairs = λ y. subst (λ (x : State). Repairs x t img work b after) e w;
        number = z.0 ∙ ap number_of_outcome q;
        left =
            subst (λ (y : State). Left (sized_or (length st) (outcome_of b)) (λ x. x ≡ state_of y b) st st' work after) e
            (subst (λ (o : Outcome). Left o (λ x. x ≡ state_of s b) st st' work after) q z.1);
      }
