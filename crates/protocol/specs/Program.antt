-- THE PROGRAM: a function from what it remembers and what it sees to what it remembers next and its reply. It sees the sectors of the present slots
-- alone: all others read as zeros to it. When it accepts a request it makes the whole list of the request's actions; each step then carries out
-- one of them, a put of one sector or a flush of one slot. Nothing here is assumed; that it keeps the promise is shown in Promise.
use Rattle.std.specs.Prelude.{ℕ, zero, suc, ◌+◌, ◌-◌, ◌≤◌, ◌<◌, ◌≡◌, Bool, not, ◌&&◌, ◌||◌, List, [], ◌∷◌, ◌++◌, eqb, ltb, leb}
use Rattle.std.proofs.Math.Bool.{true, false, cond}
use Rattle.protocol.specs.World.{label, log, strip, slot, Image, Action}
use Rattle.protocol.specs.Batch.{flushes}
use Rattle.protocol.specs.Slots.{from, slots, every}
use Rattle.protocol.specs.Log.{Write, RecordCodec}
use Rattle.protocol.specs.Write.{log_write, store}
use Rattle.protocol.specs.Label.{Label, plainly_out, Size, believed, belief, Quorum, LabelCodec, round}
use Rattle.protocol.specs.Startup.{labelled, gone, L, M}
use Rattle.protocol.specs.Decide.{settled, startup}
use Rattle.protocol.specs.Request.{outed}
use Rattle.protocol.specs.Rebuild.{begun, raised, healed, beginning, fill}
use Rattle.protocol.specs.Host.{Finding, blames, unsound, Change, Code, proper, read, read_through, write_of, strips_of, accused_slot, repair_of, whole_change, rebuilt}

-- Stamps are numbers; those of an epoch lie between its base and the base of the next one. (As bytes: epoch and count.)
pub record Stamps : Type 0 where
  pub base : ℕ → ℕ
  pub rises : (e : ℕ) → base e < base (suc e)
  pub grows : (e g : ℕ) → e ≤ g → base e ≤ base g

-- A label as document 03 has it: no slot beyond n is out, the slot being rebuilt is out, n stands for none, the mark is at most T, and 0 where none is being rebuilt.
pub record Proper (z : Size) (l : Label) : Type 0 where
  pub inside : (d : ℕ) → z.n ≤ d → l.out d ≡ false
  pub slot_or_none : l.rebuilding ≤ z.n
  pub also_out : l.rebuilding < z.n → l.out l.rebuilding ≡ true
  pub mark_T : l.mark ≤ z.T
  pub unmarked : l.rebuilding ≡ z.n → l.mark ≡ 0

-- What the sectors can hold: every proper label up to the greatest generation, and every record up to the stamps of that epoch; and what zeros mean.
pub record Medium {X : Type 0} (z : Size) (W : Quorum z.n) (C : LabelCodec X z.n) (K : RecordCodec X) (E : Code X z.n K.c W) (S : Stamps) : Type 0 where
  pub greatest : ℕ
  pub fits : (l : Label) → Proper z l → 0 < l.generation → l.generation ≤ greatest → C.Fits l
  pub is_proper : (l : Label) → C.Fits l → Proper z l × (l.generation ≤ greatest)
  pub fits_record : (σ : ℕ) (w : Write X) → σ < S.base (suc greatest) → w.stripe < z.T → ((d : ℕ) → w.changes d ≡ true → d < z.n) → K.Fits σ w
  pub is_zeros : X → Bool
  pub zeros_of : (x : X) → is_zeros x ≡ true → x ≡ K.zeros
  pub zeros_are : is_zeros K.zeros ≡ true
  pub same_zeros : C.zeros ≡ K.zeros
  pub zeros_label : (d : ℕ) (b : Bool) → (C.decode d b K.zeros).generation ≡ 0
  pub zeros_shard : (t d j : ℕ) → d < z.n → j < K.c → E.shard t (λ i l. K.zeros) d j ≡ K.zeros

-- the refusals of document 03 that concern the disks (BAD_IMAGE and BAD_BUFFER are of the caller's slices), in its order
pub data Refusal : Type 0 where
  NO_LABEL : Refusal
  TOO_FEW : Refusal
  BAD_BLOCK : Refusal
  BUSY : Refusal
  NOT_NOW : Refusal

pub data Verdict : Type 0 where
  clear : Verdict
  because : Refusal → Verdict

pub record Test : Type 0 where
  pub why : Refusal
  pub holds : Bool

-- the first that applies is answered, and what none names is carried out
abbrev pub first : List Test → Verdict
first [] = clear
first (t ∷ l) = cond t.holds (because t.why) (first l)

-- what the program knows between requests: the settled label, the absent slots, the epoch (the generation that start-up settled), the last stamp
pub record Own : Type 0 where
  pub now : Label
  pub absent : ℕ → Bool
  pub epoch : ℕ
  pub count : ℕ

-- what is under way; a write is first logged, then stored
pub data Kind (X : Type 0) : Type 0 where
  creating : Kind X
  starting : Kind X
  logging : Write X → Kind X
  storing : Write X → Kind X
  labelling : Kind X

-- what the program remembers: nothing (before create or start-up), its own state, or a request under way: the actions that are left of it, the
-- state that reads are answered from meanwhile, and the state that it ends with
pub data Memory (X : Type 0) : Type 0 where
  nothing : Memory X
  idle : Own → Memory X
  doing : Kind X → List (Action X) → Own → Own → Memory X

-- what the host may ask (block b of document 03 is block b mod k of stripe b / k)
pub data Input (X : Type 0) : Type 0 where
  create : Input X
  start : (ℕ → Bool) → Input X
  read_block : ℕ → ℕ → Input X
  write : ℕ → Change X → Input X
  take_out : ℕ → Input X
  begin : ℕ → Input X
  rebuild_on : ℕ → Input X
  scrub_stripe : ℕ → Input X
  repair : ℕ → Input X
  step : Input X

-- what it answers. `safe` is the answer of the one step of a write that does nothing: its log is flushed, and from here on the write will survive.
pub data Reply (X : Type 0) : Type 0 where
  accepted : Reply X
  refused : Refusal → Reply X
  did : Action X → Reply X
  safe : Reply X
  done : Kind X → Reply X
  block : (ℕ → X) → Reply X
  found : Finding → Reply X

-- the label of a new shelf
abbrev pub new_label : ℕ → ℕ → Label
new_label n g = record { generation = g; out = λ d. false; rebuilding = n; mark = 0 }

-- slots beyond the shelf count as absent
abbrev pub beyond : ℕ → (ℕ → Bool) → ℕ → Bool
beyond n absent d = absent d || not (ltb d n)

module _ {X : Type 0} (z : Size) (W : Quorum z.n) (C : LabelCodec X z.n) (K : RecordCodec X) (E : Code X z.n K.c W) (S : Stamps) (R : Medium z W C K E S) where
  -- what is seen of an image
  unfoldable pub mask : (ℕ → Bool) → Image X → Image X
  mask absent f k = cond (absent (slot k)) K.zeros (f k)

  abbrev pub present : (ℕ → Bool) → List ℕ
  present absent = slots z.n (λ d. not (absent d))

  -- what start-up and create flush before anything else: what was read is then certain
  unfoldable pub flushed_first : (ℕ → Bool) → List ℕ
  flushed_first absent = present absent

  -- CREATE, on an image that is zeros throughout: label 1 to every slot
  abbrev pub blank_slot : Image X → ℕ → Bool
  blank_slot f d =
      (R.is_zeros (f (label d false)) && R.is_zeros (f (label d true)))
      && (every (λ j. R.is_zeros (f (log d j))) (from 0 (suc K.c)) && every (λ t. every (λ j. R.is_zeros (f (strip d t j))) (from 0 K.c)) (from 0 z.T))

  abbrev pub blank : Image X → Bool
  blank f = every (blank_slot f) (from 0 z.n)

  abbrev pub created : Own
  created = record { now = new_label z.n 1; absent = beyond z.n (λ d. false); epoch = 1; count = S.base 1 }

  abbrev pub asked_create : Memory X
  asked_create = doing creating (flushes (flushed_first (beyond z.n (λ d. false))) ++ round C (new_label z.n 1) (from 0 z.n)) created created

  abbrev pub may_create : Image X → Verdict
  may_create f = first (record { why = NOT_NOW; holds = not (blank f) } ∷ record { why = NOT_NOW; holds = not (leb 1 R.greatest) } ∷ [])

  -- START-UP with the absent slots A; f is what is seen
  abbrev pub started : (ℕ → Bool) → Image X → Own
  started A f = record { now = settled z C K A f; absent = A; epoch = (settled z C K A f).generation; count = S.base (settled z C K A f).generation }

  abbrev pub asked_start : (ℕ → Bool) → Image X → Memory X
  asked_start A f = doing starting (flushes (flushed_first A) ++ startup z C K A f) (started A f) (started A f)

  -- the slots that the settled label will call out
  unfoldable pub left_out : (ℕ → Bool) → Image X → ℕ → Bool
  left_out A f d = (L z C A f).out d || gone z C A f d

  -- document 03's table: a present disk without a valid label; more than m slots absent or out (or stale); and no generations left
  abbrev pub may_start : (ℕ → Bool) → Image X → Verdict
  may_start A f =
      first
      (record { why = NO_LABEL; holds = not (labelled z C A f) }
      ∷ record { why = TOO_FEW; holds = not (W.few (left_out A f)) }
      ∷ record { why = NOT_NOW; holds = not (leb (suc (suc (M z C A f))) R.greatest) }
      ∷ [])

  -- WRITE
  abbrev pub ask_log : Own → Write X → Memory X
  ask_log o w = doing (logging w) (log_write K (belief z o.now) (suc o.count) w) o (record { now = o.now; absent = o.absent; epoch = o.epoch; count = suc o.count })

  -- no slot is out, nor absent
  abbrev pub all_in : Own → Bool
  all_in o = every (λ d. not (o.now.out d)) (from 0 z.n)

  -- every strip of stripe t is believed: no slot is out, or the one being rebuilt alone, and t is below its mark
  abbrev pub all_believed : Own → ℕ → Bool
  all_believed o t = every (λ d. believed z o.now d t) (from 0 z.n)

  -- the stripe as it is found
  abbrev pub finding : Image X → ℕ → Finding
  finding f t = E.scrub t (strips_of z W K E f t)

  -- where all shards are believed and contradict each other, the whole stripe is written
  unfoldable pub change_made : Own → Image X → ℕ → Change X → Change X
  change_made o f t ch = cond (all_believed o t && unsound (finding f t)) (whole_change z W K E o.now f t ch) ch

  abbrev pub asked_write : Own → Image X → ℕ → Change X → Memory X
  asked_write o f t ch = ask_log o (write_of z W K E o.now f t (change_made o f t ch))

  -- REPAIR: the accused shard's strip
  abbrev pub asked_repair : Own → Image X → ℕ → Memory X
  asked_repair o f t = ask_log o (repair_of z W K E f t (accused_slot z W K E t (finding f t)))

  abbrev pub asked_store : Write X → Own → Own → Memory X
  asked_store w o o' = doing (storing w) (store K (belief z o.now) w.stripe w.changes w.new) o o'

  -- LABEL CHANGES
  abbrev pub relabelled : Own → Label → Own
  relabelled o l = record { now = l; absent = o.absent; epoch = o.epoch; count = o.count }

  -- every present slot is told a label
  unfoldable pub told_to : (ℕ → Bool) → List ℕ
  told_to absent = present absent

  abbrev pub asked_out : Own → ℕ → Memory X
  asked_out o d = doing labelling (round C (outed z.n o.now d) (told_to o.absent)) o (relabelled o (outed z.n o.now d))

  -- from here on the slot counts as present
  abbrev pub back_in : (ℕ → Bool) → ℕ → ℕ → Bool
  back_in absent d e = absent e && not (eqb e d)

  abbrev pub asked_begin : Own → Image X → ℕ → Memory X
  asked_begin o f d =
      doing labelling (beginning K C f o.now d (told_to (back_in o.absent d))) o
      (record { now = begun o.now d; absent = back_in o.absent d; epoch = o.epoch; count = o.count })

  abbrev pub at_least_one : ℕ → ℕ
  at_least_one zero = 1
  at_least_one (suc b) = suc b

  abbrev pub filling : Own → Image X → ℕ → List (Action X)
  filling o f more = fill K o.now more (rebuilt z W K E o.now f o.now.rebuilding)

  abbrev pub asked_raise : Own → Image X → ℕ → Memory X
  asked_raise o f more = doing labelling (filling o f more ++ round C (raised o.now (o.now.mark + more)) (told_to o.absent)) o (relabelled o (raised o.now (o.now.mark + more)))

  abbrev pub asked_heal : Own → Image X → Memory X
  asked_heal o f = doing labelling (filling o f (z.T - o.now.mark) ++ round C (healed z.n o.now) (told_to o.absent)) o (relabelled o (healed z.n o.now))

  -- the batch of strips reaches the end: then the slot is healthy
  abbrev pub last_batch : Own → ℕ → Bool
  last_batch o b = leb z.T (o.now.mark + at_least_one b)

  abbrev pub asked_on : Own → Image X → ℕ → Memory X
  asked_on o f b = cond (last_batch o b) (asked_heal o f) (asked_raise o f (at_least_one b))

  -- whether a request is refused. busy: another changing request is under way
  abbrev pub generations_left : Own → Bool
  generations_left o = leb (suc o.now.generation) R.greatest

  abbrev pub may : Bool → Own → Input X → Verdict
  may b o create = first (record { why = BUSY; holds = b } ∷ record { why = NOT_NOW; holds = true } ∷ [])
  may b o (start A) = first (record { why = BUSY; holds = b } ∷ record { why = NOT_NOW; holds = true } ∷ [])
  may b o (read_block t i) = first (record { why = BAD_BLOCK; holds = not (ltb t z.T && ltb i E.k) } ∷ [])
  may b o (write t ch) =
      first
      (record { why = BAD_BLOCK; holds = not (ltb t z.T && proper z W K E ch) }
      ∷ record { why = BUSY; holds = b }
      ∷ record { why = NOT_NOW; holds = not (ltb (suc o.count) (S.base (suc o.epoch))) }
      ∷ [])
  may b o (take_out d) =
      first
      (record { why = TOO_FEW; holds = not (W.few (outed z.n o.now d).out) }
      ∷ record { why = BAD_BLOCK; holds = not (ltb d z.n) }
      ∷ record { why = BUSY; holds = b }
      ∷ record { why = NOT_NOW; holds = plainly_out o.now d || not (generations_left o) }
      ∷ [])
  may b o (begin d) =
      first
      (record { why = BAD_BLOCK; holds = not (ltb d z.n) }
      ∷ record { why = BUSY; holds = b }
      ∷ record { why = NOT_NOW; holds = not (o.now.out d) || ((ltb o.now.rebuilding z.n && not (eqb o.now.rebuilding d)) || not (generations_left o)) }
      ∷ [])
  may b o (rebuild_on x) =
      first
      (record { why = BUSY; holds = b }
      ∷ record { why = NOT_NOW; holds = not (ltb o.now.rebuilding z.n) || not (generations_left o) }
      ∷ [])
  may b o (scrub_stripe t) =
      first
      (record { why = BAD_BLOCK; holds = not (ltb t z.T) }
      ∷ record { why = NOT_NOW; holds = not (all_in o) }
      ∷ [])
  may b o (repair t) =
      first
      (record { why = BAD_BLOCK; holds = not (ltb t z.T) }
      ∷ record { why = BUSY; holds = b }
      ∷ record { why = NOT_NOW; holds = not (all_in o) || not (ltb (suc o.count) (S.base (suc o.epoch))) }
      ∷ [])
  may b o step = first (record { why = NOT_NOW; holds = true } ∷ [])

  -- a repair is also refused where the scrub accuses nobody
  abbrev pub also : Verdict → Bool → Verdict
  also clear b = first (record { why = NOT_NOW; holds = b } ∷ [])
  also (because why) b = because why

  abbrev pub may_repair : Bool → Own → Image X → ℕ → Verdict
  may_repair b o f t = also (may b o (repair t)) (not (blames (finding f t)))

  -- a refusal is an answer and leaves everything as it was
  abbrev pub answer : Memory X → Verdict → Memory X → Reply X → Memory X × Reply X
  answer m clear m' r = (m', r)
  answer m (because why) m' r = (m, refused why)

  -- nothing is known yet
  abbrev pub from_nothing : Image X → Input X → Memory X × Reply X
  from_nothing f create = answer nothing (may_create f) asked_create accepted
  from_nothing f (start A) = answer nothing (may_start (beyond z.n A) f) (asked_start (beyond z.n A) f) accepted
  from_nothing f (read_block t i) = (nothing, refused NOT_NOW)
  from_nothing f (write t ch) = (nothing, refused NOT_NOW)
  from_nothing f (take_out d) = (nothing, refused NOT_NOW)
  from_nothing f (begin d) = (nothing, refused NOT_NOW)
  from_nothing f (rebuild_on b) = (nothing, refused NOT_NOW)
  from_nothing f (scrub_stripe t) = (nothing, refused NOT_NOW)
  from_nothing f (repair t) = (nothing, refused NOT_NOW)
  from_nothing f step = (nothing, refused NOT_NOW)

  -- ready
  abbrev pub from_idle : Own → Image X → Input X → Memory X × Reply X
  from_idle o f create = answer (idle o) (may false o create) (idle o) accepted
  from_idle o f (start A) = answer (idle o) (may false o (start A)) (idle o) accepted
  from_idle o f (read_block t i) = answer (idle o) (may false o (read_block t i)) (idle o) (block (read z W K E o.now f t i))
  from_idle o f (write t ch) = answer (idle o) (may false o (write t ch)) (asked_write o f t ch) accepted
  from_idle o f (take_out d) = answer (idle o) (may false o (take_out d)) (asked_out o d) accepted
  from_idle o f (begin d) = answer (idle o) (may false o (begin d)) (asked_begin o f d) accepted
  from_idle o f (rebuild_on b) = answer (idle o) (may false o (rebuild_on b)) (asked_on o f b) accepted
  from_idle o f (scrub_stripe t) = answer (idle o) (may false o (scrub_stripe t)) (idle o) (found (E.scrub t (λ d j. f (strip d t j))))
  from_idle o f (repair t) = answer (idle o) (may_repair false o f t) (asked_repair o f t) accepted
  from_idle o f step = answer (idle o) (may false o step) (idle o) accepted

  -- a step of a request under way
  abbrev pub one_step : Kind X → List (Action X) → Own → Own → Memory X × Reply X
  one_step k (a ∷ l) o o' = (doing k l o o', did a)
  one_step creating [] o o' = (idle o', done creating)
  one_step starting [] o o' = (idle o', done starting)
  one_step (logging w) [] o o' = (asked_store w o o', safe)
  one_step (storing w) [] o o' = (idle o', done (storing w))
  one_step labelling [] o o' = (idle o', done labelling)

  -- a read meanwhile: from the disks, with the shards of a write that is safe laid over
  abbrev pub meanwhile : Kind X → Own → Image X → ℕ → ℕ → Verdict → Reply X
  meanwhile k o f t i (because why) = refused why
  meanwhile creating o f t i clear = refused NOT_NOW
  meanwhile starting o f t i clear = refused NOT_NOW
  meanwhile (logging w) o f t i clear = block (read z W K E o.now f t i)
  meanwhile (storing w) o f t i clear = block (read_through z W K E w o.now f t i)
  meanwhile labelling o f t i clear = block (read z W K E o.now f t i)

  -- a scrub meanwhile
  abbrev pub scrubbed : Kind X → Own → Image X → ℕ → Verdict → Reply X
  scrubbed k o f t (because why) = refused why
  scrubbed creating o f t clear = refused NOT_NOW
  scrubbed starting o f t clear = refused NOT_NOW
  scrubbed (logging w) o f t clear = found (E.scrub t (λ d j. f (strip d t j)))
  scrubbed (storing w) o f t clear = found (E.scrub t (λ d j. cond (eqb t w.stripe && w.changes d) (w.new d j) (f (strip d t j))))
  scrubbed labelling o f t clear = found (E.scrub t (λ d j. f (strip d t j)))

  -- under way
  abbrev pub from_doing : Kind X → List (Action X) → Own → Own → Image X → Input X → Memory X × Reply X
  from_doing k l o o' f create = answer (doing k l o o') (may true o create) (doing k l o o') accepted
  from_doing k l o o' f (start A) = answer (doing k l o o') (may true o (start A)) (doing k l o o') accepted
  from_doing k l o o' f (read_block t i) = (doing k l o o', meanwhile k o f t i (may true o (read_block t i)))
  from_doing k l o o' f (write t ch) = answer (doing k l o o') (may true o (write t ch)) (doing k l o o') accepted
  from_doing k l o o' f (take_out d) = answer (doing k l o o') (may true o (take_out d)) (doing k l o o') accepted
  from_doing k l o o' f (begin d) = answer (doing k l o o') (may true o (begin d)) (doing k l o o') accepted
  from_doing k l o o' f (rebuild_on b) = answer (doing k l o o') (may true o (rebuild_on b)) (doing k l o o') accepted
  from_doing k l o o' f (scrub_stripe t) = (doing k l o o', scrubbed k o f t (may true o (scrub_stripe t)))
  from_doing k l o o' f (repair t) = answer (doing k l o o') (may_repair true o f t) (doing k l o o') accepted
  from_doing k l o o' f step = one_step k l o o'

  abbrev pub choose : Memory X → Image X → Input X → Memory X × Reply X
  choose nothing f i = from_nothing f i
  choose (idle o) f i = from_idle o f i
  choose (doing k l o o') f i = from_doing k l o o' f i

  -- the slots whose sectors it does not see
  abbrev pub unseen_idle : Own → Input X → ℕ → Bool
  unseen_idle o create = o.absent
  unseen_idle o (start A) = o.absent
  unseen_idle o (read_block t i) = o.absent
  unseen_idle o (write t ch) = o.absent
  unseen_idle o (take_out d) = o.absent
  unseen_idle o (begin d) = back_in o.absent d
  unseen_idle o (rebuild_on b) = o.absent
  unseen_idle o (scrub_stripe t) = o.absent
  unseen_idle o (repair t) = o.absent
  unseen_idle o step = o.absent

  abbrev pub unseen_nothing : Input X → ℕ → Bool
  unseen_nothing create = beyond z.n (λ d. false)
  unseen_nothing (start A) = beyond z.n A
  unseen_nothing (read_block t i) = beyond z.n (λ d. false)
  unseen_nothing (write t ch) = beyond z.n (λ d. false)
  unseen_nothing (take_out d) = beyond z.n (λ d. false)
  unseen_nothing (begin d) = beyond z.n (λ d. false)
  unseen_nothing (rebuild_on b) = beyond z.n (λ d. false)
  unseen_nothing (scrub_stripe t) = beyond z.n (λ d. false)
  unseen_nothing (repair t) = beyond z.n (λ d. false)
  unseen_nothing step = beyond z.n (λ d. false)

  abbrev pub unseen : Memory X → Input X → ℕ → Bool
  unseen nothing i = unseen_nothing i
  unseen (idle o) i = unseen_idle o i
  unseen (doing k l o o') i = o.absent

  -- THE PROGRAM
  unfoldable pub program : Memory X → Image X → Input X → Memory X × Reply X
  program m f i = choose m (mask (unseen m i) f) i
