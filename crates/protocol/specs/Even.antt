-- WHERE TWO SETS OF FEW SLOTS CAN BE ALL SLOTS (k <= m). The program is the same one, and its own test of few slots is any test at all: "at most m", say. As long as the sets of slots that are left
-- out by accepted start-ups and take-outs lie in one family of which any two sets leave a slot out (a Quorum), it does what the program does whose test is that family. (What is asked of the world
-- there, and the promise: Since.)
use Rattle.std.specs.Prelude.{ℕ, suc, ◌≡◌, Bool, cond, not, ◌||◌, ltb, leb}
use Rattle.std.proofs.Common.{sym, ap, ◌∙◌}
use Rattle.std.proofs.Math.Bool.{true, false}
use Rattle.std.proofs.lemmas.Bool.{false≢true}
use mathlib.Core.List.{List, [], ◌∷◌, Memᴰ, ◌++◌}
use Rattle.protocol.specs.World.{Image, World}
use Rattle.protocol.specs.Log.{RecordCodec}
use Rattle.protocol.specs.Label.{plainly_out, Size, Quorum, LabelCodec}
use Rattle.protocol.specs.Startup.{labelled, M}
use Rattle.protocol.specs.Request.{outed}
use Rattle.protocol.specs.Host.{Code}
use Rattle.protocol.specs.Program.{Stamps, Medium, Refusal, NO_LABEL, TOO_FEW, BAD_BLOCK, BUSY, NOT_NOW, Verdict, clear, because, first, Own, Memory, nothing, idle, doing, Input, create, start, read_block, write, take_out, begin, rebuild_on, scrub_stripe, repair, step, Reply, accepted, refused, did, safe, done, block, found, beyond, mask, left_out, generations_left, answer, asked_start, asked_out, from_nothing, from_idle, from_doing, unseen}
use Rattle.protocol.specs.Machine.{Machine, at, effect, Event, ask, Outside}

-- ---- the same events, but for which refusal it was of which request: nothing comes of a refusal

pub data Alike {X : Type 0} : List (Event X) → List (Event X) → Type 0 where
  none : Alike [] []
  same_event : {e : Event X} {l l' : List (Event X)} → Alike l l' → Alike (e ∷ l) (e ∷ l')
  both_refused : {i j : Input X} {r s : Refusal} {l l' : List (Event X)} → Alike l l' → Alike (ask i (refused r) ∷ l) (ask j (refused s) ∷ l')

-- WHAT IS ASKED OF THE WORLD, with the sets of slots that are left out in a run: they are all in the family
abbrev pub Shared : ((ℕ → Bool) → Bool) → List (ℕ → Bool) → Type 0
Shared family l = (s : ℕ → Bool) → Memᴰ s l → family s ≡ true

-- an answer that is no refusal, a verdict that refuses nothing
unfoldable pub is_accepted : {X : Type 0} → Reply X → Bool
is_accepted accepted = true
is_accepted (refused why) = false
is_accepted (did a) = false
is_accepted safe = false
is_accepted (done k) = false
is_accepted (block b) = false
is_accepted (found x) = false

pub not_accepted : {X : Type 0} (r : Reply X) (why : Refusal) → r ≡ refused why → r ≡ accepted → ⊥
unfolding is_accepted
not_accepted r why e q = false≢true (sym (ap is_accepted e) ∙ ap is_accepted q)

module _ {X : Type 0} (z : Size) (W : Quorum z.n) (C : LabelCodec X z.n) (K : RecordCodec X) (E : Code X z.n K.c W) (S : Stamps) (R : Medium z W C K E S) (test : (ℕ → Bool) → Bool) where
  -- ---- THE PROGRAM WITH ITS OWN TEST: in the words of Program, with the test in the place of W's few slots
  abbrev pub may_start_by : (ℕ → Bool) → Image X → Verdict
  may_start_by A f =
      first
      (record { why = NO_LABEL; holds = not (labelled z C A f) }
      ∷ record { why = TOO_FEW; holds = not (test (left_out z W C K E S R A f)) }
      ∷ record { why = NOT_NOW; holds = not (leb (suc (suc (M z C A f))) R.greatest) }
      ∷ [])

  abbrev pub may_out_by : Bool → Own → ℕ → Verdict
  may_out_by b o d =
      first
      (record { why = TOO_FEW; holds = not (test (outed z.n o.now d).out) }
      ∷ record { why = BAD_BLOCK; holds = not (ltb d z.n) }
      ∷ record { why = BUSY; holds = b }
      ∷ record { why = NOT_NOW; holds = plainly_out o.now d || not (generations_left z W C K E S R o) }
      ∷ [])

  -- it is asked in two places; every other request goes as before
  abbrev pub from_nothing_by : Image X → Input X → Memory X × Reply X
  from_nothing_by f create = from_nothing z W C K E S R f create
  from_nothing_by f (start A) = answer z W C K E S R nothing (may_start_by (beyond z.n A) f) (asked_start z W C K E S R (beyond z.n A) f) accepted
  from_nothing_by f (read_block t i) = from_nothing z W C K E S R f (read_block t i)
  from_nothing_by f (write t ch) = from_nothing z W C K E S R f (write t ch)
  from_nothing_by f (take_out d) = from_nothing z W C K E S R f (take_out d)
  from_nothing_by f (begin d) = from_nothing z W C K E S R f (begin d)
  from_nothing_by f (rebuild_on b) = from_nothing z W C K E S R f (rebuild_on b)
  from_nothing_by f (scrub_stripe t) = from_nothing z W C K E S R f (scrub_stripe t)
  from_nothing_by f (repair t) = from_nothing z W C K E S R f (repair t)
  from_nothing_by f step = from_nothing z W C K E S R f step

  abbrev pub from_idle_by : Own → Image X → Input X → Memory X × Reply X
  from_idle_by o f create = from_idle z W C K E S R o f create
  from_idle_by o f (start A) = from_idle z W C K E S R o f (start A)
  from_idle_by o f (read_block t i) = from_idle z W C K E S R o f (read_block t i)
  from_idle_by o f (write t ch) = from_idle z W C K E S R o f (write t ch)
  from_idle_by o f (take_out d) = answer z W C K E S R (idle o) (may_out_by false o d) (asked_out z W C K E S R o d) accepted
  from_idle_by o f (begin d) = from_idle z W C K E S R o f (begin d)
  from_idle_by o f (rebuild_on b) = from_idle z W C K E S R o f (rebuild_on b)
  from_idle_by o f (scrub_stripe t) = from_idle z W C K E S R o f (scrub_stripe t)
  from_idle_by o f (repair t) = from_idle z W C K E S R o f (repair t)
  from_idle_by o f step = from_idle z W C K E S R o f step

  abbrev pub choose_by : Memory X → Image X → Input X → Memory X × Reply X
  choose_by nothing f i = from_nothing_by f i
  choose_by (idle o) f i = from_idle_by o f i
  choose_by (doing k l o o') f create = from_doing z W C K E S R k l o o' f create
  choose_by (doing k l o o') f (start A) = from_doing z W C K E S R k l o o' f (start A)
  choose_by (doing k l o o') f (read_block t i) = from_doing z W C K E S R k l o o' f (read_block t i)
  choose_by (doing k l o o') f (write t ch) = from_doing z W C K E S R k l o o' f (write t ch)
  choose_by (doing k l o o') f (take_out d) = answer z W C K E S R (doing k l o o') (may_out_by true o d) (doing k l o o') accepted
  choose_by (doing k l o o') f (begin d) = from_doing z W C K E S R k l o o' f (begin d)
  choose_by (doing k l o o') f (rebuild_on b) = from_doing z W C K E S R k l o o' f (rebuild_on b)
  choose_by (doing k l o o') f (scrub_stripe t) = from_doing z W C K E S R k l o o' f (scrub_stripe t)
  choose_by (doing k l o o') f (repair t) = from_doing z W C K E S R k l o o' f (repair t)
  choose_by (doing k l o o') f step = from_doing z W C K E S R k l o o' f step

  unfoldable pub program_by : Memory X → Image X → Input X → Memory X × Reply X
  program_by m f i = choose_by m (mask z W C K E S R (unseen z W C K E S R m i) f) i

  -- the set of slots that a request leaves out, if it is accepted: those that start-up's label will call out, those that are out after a take_out; the other requests leave none out
  abbrev pub leaves_nothing : Image X → Input X → List (ℕ → Bool)
  leaves_nothing f create = []
  leaves_nothing f (start A) = left_out z W C K E S R (beyond z.n A) (mask z W C K E S R (beyond z.n A) f) ∷ []
  leaves_nothing f (read_block t i) = []
  leaves_nothing f (write t ch) = []
  leaves_nothing f (take_out d) = []
  leaves_nothing f (begin d) = []
  leaves_nothing f (rebuild_on b) = []
  leaves_nothing f (scrub_stripe t) = []
  leaves_nothing f (repair t) = []
  leaves_nothing f step = []

  abbrev pub leaves_idle : Own → Input X → List (ℕ → Bool)
  leaves_idle o create = []
  leaves_idle o (start A) = []
  leaves_idle o (read_block t i) = []
  leaves_idle o (write t ch) = []
  leaves_idle o (take_out d) = (outed z.n o.now d).out ∷ []
  leaves_idle o (begin d) = []
  leaves_idle o (rebuild_on b) = []
  leaves_idle o (scrub_stripe t) = []
  leaves_idle o (repair t) = []
  leaves_idle o step = []

  abbrev pub leaves : Memory X → Image X → Input X → List (ℕ → Bool)
  leaves nothing f i = leaves_nothing f i
  leaves (idle o) f i = leaves_idle o i
  leaves (doing k l o o') f i = []

  -- if the request is accepted, the set that it leaves out is in the family
  abbrev pub Common : ((ℕ → Bool) → Bool) → Memory X → Image X → Input X → Type 0
  Common family m f i = (program_by m f i).1 ≡ accepted → (s : ℕ → Bool) → Memᴰ s (leaves m f i) → family s ≡ true

  -- a refusal, and nothing comes of it
  abbrev pub Refused : Memory X → Memory X × Reply X → Type 0
  Refused m r = (why : Refusal) × (r ≡ (m, refused why))

  -- the verdict with the test t, and with u where that holds too
  abbrev pub start_verdict : Bool → Bool → Bool → Verdict
  start_verdict a t b = cond (not a) (because NO_LABEL) (cond (not t) (because TOO_FEW) (cond (not b) (because NOT_NOW) clear))

  abbrev pub out_verdict : Bool → Bool → Bool → Bool → Verdict
  out_verdict t a b c = cond (not t) (because TOO_FEW) (cond (not a) (because BAD_BLOCK) (cond b (because BUSY) (cond c (because NOT_NOW) clear)))

  -- what a start-up sees and looks at; why a take_out may not be now
  abbrev pub sight : (ℕ → Bool) → Image X → Image X
  sight A f = mask z W C K E S R (beyond z.n A) f

  abbrev pub set_start : (ℕ → Bool) → Image X → ℕ → Bool
  set_start A f = left_out z W C K E S R (beyond z.n A) (sight A f)

  abbrev pub some_label : (ℕ → Bool) → Image X → Bool
  some_label A f = labelled z C (beyond z.n A) (sight A f)

  abbrev pub some_room : (ℕ → Bool) → Image X → Bool
  some_room A f = leb (suc (suc (M z C (beyond z.n A) (sight A f)))) R.greatest

  abbrev pub no_need : Own → ℕ → Bool
  no_need o d = plainly_out o.now d || not (generations_left z W C K E S R o)

  -- ---- THE MACHINE WITH THAT PROGRAM: nothing is asked of the world yet but what is asked of it for k > m
  pub data HappensBy : Machine X → Event X → Machine X → Type 1 where
    from_outside : {m m' : Machine X} {e : Event X} → Outside z W C K E S R m e m' → HappensBy m e m'
    from_host : {w : World X} {m : Memory X} (i : Input X) → HappensBy (at w m) (ask i (program_by m w.cur i).1) (at (effect w (program_by m w.cur i).1) (program_by m w.cur i).0)

  pub data RunsBy : Machine X → List (Event X) → Machine X → Type 1 where
    stays : {m : Machine X} → RunsBy m [] m
    goes : {m m' m'' : Machine X} {e : Event X} {l : List (Event X)} → HappensBy m e m' → RunsBy m' l m'' → RunsBy m (e ∷ l) m''

  -- THE SETS OF SLOTS THAT ARE LEFT OUT in a run, by its accepted start-ups and take-outs
  abbrev pub left_one : {m m' : Machine X} {e : Event X} → HappensBy m e m' → List (ℕ → Bool)
  left_one (from_outside x) = []
  left_one (from_host {w = w} {m = m} i) = cond (is_accepted (program_by m w.cur i).1) (leaves m w.cur i) []

  abbrev pub left_by : {m m' : Machine X} {l : List (Event X)} → RunsBy m l m' → List (ℕ → Bool)
  left_by stays = []
  left_by (goes s r) = left_one s ++ left_by r

  -- a request that is refused in every state: one that asks for a step where nothing is under way, and for a create where something is
  unfoldable pub refusable : Memory X → Input X
  refusable nothing = step
  refusable (idle o) = step
  refusable (doing k l o o') = create
