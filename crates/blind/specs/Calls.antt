-- A CALL of any public function of the shelf's code, and what its contract says of it. Assumes nothing.
use Rattle.std.specs.Prelude.{◌≡◌, List, ℕ, length}
use Rattle.disk.specs.Mask.{without_slot}
use Rattle.disk.specs.declared.geometry.Geometry.{Geometry}
use Rattle.disk.specs.Refusal.{Outcome}
use Rattle.label.specs.Fields.{geometry_of}
use Rattle.stages.specs.declared.state.State.{State}
use Rattle.stages.specs.Told.{Answer}
use Rattle.requests.specs.Create.{create_of}
use Rattle.requests.specs.Start.{start_of}
use Rattle.requests.specs.TakeOut.{take_out_of}
use Rattle.requests.specs.Status.{status_answer, after_status}
use Rattle.requests.specs.Step.{step_with}
use Rattle.requests.specs.Begun.{Begun, outcome_of, state_of}
use Rattle.strips.specs.Whole.{Scrubbed}
use Rattle.rebuilds.specs.Begin.{begin_of}
use Rattle.rebuilds.specs.On.{on_of}
use Rattle.blocks.specs.Read as blocks
use Rattle.blocks.specs.Write.{write_answer, AfterWrite}
use Rattle.blocks.specs.Scrub as blocks_scrub
use Rattle.blocks.specs.Repair.{Repairs}
use Rattle.blind.specs.Create.{new_shelf}

-- what is asked. `room`: how long the work area is said to be.
pub data Call : Type 0 where
  create : (k m c S shelf room : ℕ) → Call
  start : (g : Geometry) (absent room : ℕ) → Call
  take_out : (d room : ℕ) → Call
  begin : (d room : ℕ) → Call
  rebuild_on : (batch room : ℕ) → Call
  step : Call
  status : (fields : List ℕ) → Call
  read : (block : ℕ) (buf : List ℕ) → Call
  write : (block : ℕ) (bytes : List ℕ) → Call
  scrub : (t : ℕ) → Call
  repair : (t : ℕ) → Call

-- what is answered: whether a request is accepted; what a step did; whether, and what, the buffer then holds; what a scrub found
pub data Said : Type 0 where
  began : Outcome → Said
  did : Answer → Said
  gave : Outcome → List ℕ → Said
  found : Scrubbed → Said

-- all that the caller gets: the answer, the state, the work area
pub record Reply : Type 0 where
  pub said : Said
  pub state : State
  pub work : List ℕ

abbrev pub reply : Said → State → List ℕ → Reply
reply said s work = record { said = said; state = s; work = work }

-- a request that touches neither work area nor image
abbrev pub Begins : Begun → State → List ℕ → List ℕ → Reply → List ℕ → Type 0
Begins b s work img r after = (r ≡ reply (began (outcome_of b)) (state_of s b) work) × (after ≡ img)

-- WHAT A CALL MAY MAKE of a state, a work area and an image: the contracts, each in its crate's own words
abbrev pub Makes : Call → State → List ℕ → List ℕ → Reply → List ℕ → Type 0
Makes (create k m c S shelf room) s work img r after = Begins (create_of k m c S shelf img room) s work img r after
Makes (start g absent room) s work img r after = Begins (start_of g absent img room) s work img r after
Makes (take_out d room) s work img r after = Begins (take_out_of s d img room) s work img r after
Makes (begin d room) s work img r after = Begins (begin_of s d img room) s work img r after
Makes (rebuild_on batch room) s work img r after = Begins (on_of s batch img room) s work img r after
Makes step s work img r after =
    let m = step_with s img work in (r ≡ reply (did m.stepped.answer) m.stepped.state work) × (after ≡ m.image)
Makes (status fields) s work img r after =
    let o = status_answer s (length fields) in (r ≡ reply (gave o (after_status o s fields)) s work) × (after ≡ img)
Makes (read block buf) s work img r after =
    let o = blocks.read_answer s.now s.kind s.absent block (length img) (length buf) (length work) in
    (r ≡ reply (gave o (blocks.after_read o s block img work buf)) s work) × (after ≡ img)
Makes (write block bytes) s work img r after =
    let o = write_answer s.now s.kind s.absent s.count img block (length bytes) (length work) in
    (r.said ≡ began o) × AfterWrite o s block bytes img work r.state r.work × (after ≡ img)
Makes (scrub t) s work img r after =
    let o = blocks_scrub.scrub_answer s.now s.kind s.absent t (length img) (length work) in
    ((v : Scrubbed) × (r ≡ reply (found v) s work) × blocks_scrub.ScrubbedBy o (blocks_scrub.SaysOf s.now s.absent (blocks.laid_over s t) img work t) v) × (after ≡ img)
Makes (repair t) s work img r after =
    ((b : Begun) × (r.said ≡ began (outcome_of b)) × (r.state ≡ state_of s b) × Repairs s t img work b r.work) × (after ≡ img)

-- ---- what a call looks at

-- the shelf: what create and start-up are told, else the state's
abbrev pub shelf_of : Call → State → Geometry
shelf_of (create k m c S shelf room) s = new_shelf k m c S
shelf_of (start g absent room) s = g
shelf_of (take_out d room) s = geometry_of s.now
shelf_of (begin d room) s = geometry_of s.now
shelf_of (rebuild_on batch room) s = geometry_of s.now
shelf_of step s = geometry_of s.now
shelf_of (status fields) s = geometry_of s.now
shelf_of (read block buf) s = geometry_of s.now
shelf_of (write block bytes) s = geometry_of s.now
shelf_of (scrub t) s = geometry_of s.now
shelf_of (repair t) s = geometry_of s.now

-- the slots that count as absent: with create none; with start-up those that it is told; with begin the state's but its own slot, whose
-- disk it looks at; else the state's
abbrev pub hidden : Call → State → ℕ
hidden (create k m c S shelf room) s = 0
hidden (start g absent room) s = absent
hidden (take_out d room) s = s.absent
hidden (begin d room) s = without_slot s.absent d
hidden (rebuild_on batch room) s = s.absent
hidden step s = s.absent
hidden (status fields) s = s.absent
hidden (read block buf) s = s.absent
hidden (write block bytes) s = s.absent
hidden (scrub t) s = s.absent
hidden (repair t) s = s.absent
