-- Repair: when it is refused, the state with which it begins, and what it leaves in the work area. The stripe is scrubbed and mended before
-- the work area is touched, so that a stripe in which no shard is accused is refused (NOT_NOW) before a work area of another size
-- (BAD_BUFFER), as the document orders the two. Assumes nothing.
use Rattle.std.specs.Prelude.{◌≡◌, refl, Bool, true, false, cond, ◌&&◌, List, [], ◌++◌, ℕ, ◌+◌, ◌-◌, ◌*◌, ◌≤◌, ◌<◌, ltb, length, take, drop, Ok, Err}
use Rattle.std.proofs.Common.{sym, ap, ap₂, subst, ◌∙◌, append-nil, arith, drop_of_length-le, length-take-le, take_at, drop_at, ltb-true}
use Rattle.std.proofs.Math.Seq.{take-length}
use Rattle.code.specs.Stripes.{Said, Says, Repaired}
use Rattle.code.specs.declared.Verdict.{Verdict}
use Rattle.code.specs.declared.Verdict.TheVariants as verdict
use Rattle.disk.specs.Limits.{most_sectors, sector_bytes}
use Rattle.disk.specs.Geometry.{slot_of, stripes_le}
use Rattle.disk.specs.Mask.{with_slot}
use Rattle.disk.specs.declared.geometry.Geometry.{Geometry}
use Rattle.disk.specs.declared.refusal.Refusal.{Refusal}
use Rattle.disk.specs.declared.refusal.Refusal.TheVariants.{NotNow, BadBuffer}
use Rattle.disk.specs.Refusal.{Outcome}
use Rattle.label.specs.Fields.{geometry_of, fits_of}
use Rattle.label.proofs.Fits.{fits_says}
use Rattle.label.specs.declared.fields.Label.{Label}
use Rattle.requests.specs.Begun.{Begun, begun, outcome_of, state_of, begun_says, first}
use Rattle.requests.specs.Ready.{is_idle, ready_of}
use Rattle.requests.specs.Accepted.{ready_done}
use Rattle.stages.specs.declared.state.State.{State}
use Rattle.stages.specs.declared.state.Kind.{Kind}
use Rattle.strips.specs.Seen.{shard_bytes}
use Rattle.strips.specs.Whole.{whole_answer, stripe_seen, FoundBy}
use Rattle.strips.specs.Whole.{Scrubbed}
use Rattle.blocks.specs.Slots.{none_missing, all_slots, none_lost_lem}
use Rattle.blocks.specs.Answers.{sized_of, stripe_answer, first_done, never}
use Rattle.blocks.specs.Write.{most_count, stamp_left, write_marks, stamped_with, ready_image}
use Rattle.blocks.specs.Scrub.{ScrubbedBy, Lies, stripe_done, found_with}

-- the bytes of a stripe: half of the work area
unfoldable pub stripe_bytes : Label → ℕ
stripe_bytes l = (l.k + l.m) * (l.c * sector_bytes)

-- what every changing request is refused for; more than m slots missing TOO_FEW; no such stripe BAD_BLOCK; a request under way BUSY; no stamp
-- left, or a slot missing, NOT_NOW
abbrev pub may_repair : Label → Kind → ℕ → ℕ → ℕ → List ℕ → Outcome
may_repair l kind absent count t img =
    first (ready_of l kind absent img) (stripe_answer l absent (is_idle kind) (stamp_left count && none_missing l absent) true t)

-- another work area: BAD_BUFFER
unfoldable pub sized_answer : Label → ℕ → Outcome
sized_answer l room = cond (sized_of l room) (Ok tt) (Err BadBuffer)

-- no shard accused: NOT_NOW
abbrev pub mend_answer : Verdict → Label → ℕ → Outcome
mend_answer (verdict.Accused r) l room = sized_answer l room
mend_answer verdict.Sound l room = Err NotNow
mend_answer verdict.Unsound l room = Err NotNow

-- ---- the state

-- the write of shard r of stripe t at its beginning: the shard, its slot, and the stripe
abbrev pub mending : State → ℕ → ℕ → State
mending s t r = stamped_with s (write_marks (with_slot 0 r) (with_slot 0 (slot_of (s.now.k + s.now.m) t r)) t)

-- by the verdict
abbrev pub mended : State → ℕ → Verdict → State
mended s t (verdict.Accused r) = mending s t r
mended s t verdict.Sound = s
mended s t verdict.Unsound = s

-- ---- the work area

-- what the code says of stripe t as it lies on the disks, and the stripe with an accused shard mended
abbrev pub RepairedOf : Label → List ℕ → ℕ → Said → List ℕ → Type 0
RepairedOf l img t v stripe =
    Repaired l.k l.m (l.c * sector_bytes) v (stripe_seen (geometry_of l) img (all_slots (l.k + l.m)) t) stripe

-- a request that is accepted leaves the stripe in the first half, and the second half as it was; a refusal leaves both
abbrev pub leaves : Outcome → Label → List ℕ → List ℕ → List ℕ
leaves (Ok tt) l stripe work = stripe ++ drop (stripe_bytes l) work
leaves (Err why) l stripe work = work

-- shard r is to be written
pub record Begins (s : State) (t r : ℕ) (stripe work : List ℕ) (b : Begun) (after : List ℕ) : Type 0 where
  pub answers : b ≡ begun (sized_answer s.now (length work)) (mending s t r)
  pub left : after ≡ leaves (outcome_of b) s.now stripe work

-- the same by the verdict
pub record Settles (s : State) (t : ℕ) (v : Verdict) (stripe work : List ℕ) (b : Begun) (after : List ℕ) : Type 0 where
  pub answers : b ≡ begun (mend_answer v s.now (length work)) (mended s t v)
  pub left : after ≡ leaves (outcome_of b) s.now stripe work

-- what the verdict is settled by
pub record Settling (s : State) (t : ℕ) (v : Verdict) (stripe : List ℕ) : Type 0 where
  pub fits : fits_of s.now ≡ true
  pub small : t ≤ most_sectors
  pub stamp : s.count < most_count
  pub whole : length stripe ≡ stripe_bytes s.now
  pub below : (r : ℕ) → v ≡ verdict.Accused r → r < s.now.k + s.now.m

-- a repair whose stripe was looked at
pub record Mended (s : State) (t : ℕ) (img work : List ℕ) (b : Begun) (after : List ℕ) : Type 0 where
  pub found : Verdict
  pub stripe : List ℕ
  pub repaired : RepairedOf s.now img t (Ok found) stripe × (length stripe ≡ stripe_bytes s.now)
  pub settles : Settles s t found stripe work b after

-- THE REPAIR: the verdict on the stripe, the answer, and the work area
pub record Repairs (s : State) (t : ℕ) (img work : List ℕ) (b : Begun) (after : List ℕ) : Type 0 where
  pub found : Verdict
  pub stripe : List ℕ
  pub repaired : may_repair s.now s.kind s.absent s.count t img ≡ Ok tt → RepairedOf s.now img t (Ok found) stripe × (length stripe ≡ stripe_bytes s.now)
  pub answers : b ≡ begun (first (may_repair s.now s.kind s.absent s.count t img) (mend_answer found s.now (length work))) (mended s t found)
  pub left : after ≡ leaves (outcome_of b) s.now stripe work

-- ---- what the tests of a repair that is not refused say

pub record MayMend (s : State) (img : List ℕ) (t : ℕ) : Type 0 where
  pub lies : Lies s.now img t
  pub stamp : s.count < most_count

pub may_done : (s : State) (img : List ℕ) (t : ℕ) → may_repair s.now s.kind s.absent s.count t img ≡ Ok tt → MayMend s img t
unfolding stamp_left
may_done s img t e =
    let l = s.now in
    let left : Bool = ltb s.count most_count in
    let p = first_done (ready_of l s.kind s.absent img) (stripe_answer l s.absent (is_idle s.kind) (left && none_missing l s.absent) true t) e in
    let r = stripe_done l s.absent (is_idle s.kind) left true img t (ready_done l s.kind s.absent img p.0) (ready_image l s.kind s.absent img p.0) p.1 in
    record { lies = r.lies; stamp = ltb-true _ _ r.makes_sense }

-- a stripe that there is has a small number
pub stripe_small : (l : Label) (img : List ℕ) (t : ℕ) → Lies l img t → t ≤ most_sectors
stripe_small l img t h = omega (arith, h.stripe, stripes_le (geometry_of l), (fits_says l h.fits).range.most)

-- an accused shard is one of the stripe's
pub accused_lt : (l : Label) (img : List ℕ) (t : ℕ) (v : Said) (stripe : List ℕ) → RepairedOf l img t v stripe → (r : ℕ) → v ≡ Ok (verdict.Accused r) → r < l.k + l.m
accused_lt l img t v stripe p r e =
    let says = subst (λ (x : Said). Says l.k l.m (l.c * sector_bytes) (stripe_seen (geometry_of l) img (all_slots (l.k + l.m)) t) x) e p.says in
    says.3.0

pub mend_with : (l : Label) (img : List ℕ) (t : ℕ) → Lies l img t → (g : Geometry) (d : ℕ) → g ≡ geometry_of l → d ≡ all_slots g.n → (a : ℕ) → a ≡ stripe_bytes l
    → (stripe : List ℕ) (Q : Type 0) (r : Scrubbed)
    → FoundBy (whole_answer g l.k (length img) t d a a) (λ v. Repaired l.k (g.n - l.k) (shard_bytes g) (Ok v) (stripe_seen g img d t) stripe) Q r
    → ScrubbedBy (Ok tt) (λ v. RepairedOf l img t (Ok v) stripe) r
unfolding stripe_bytes
mend_with l img t h g d ge de a ae stripe =
    let q : a ≡ g.n * shard_bytes g = ae ∙ sym (ap (λ (x : Geometry). x.n * shard_bytes x) ge) in
    found_with l img t h (λ x. all_slots x.n) (none_lost_lem (l.k + l.m) t (omega (arith, (fits_says l h.fits).range.least))) g d ge de
    (λ x y m v. Repaired l.k m (shard_bytes x) (Ok v) (stripe_seen x img y t) stripe) a a q q

-- ---- the two ways out

pub repairs_refused : (s : State) (t : ℕ) (img work : List ℕ) (why : Refusal) → may_repair s.now s.kind s.absent s.count t img ≡ Err why
    → Repairs s t img work (Err why) work
repairs_refused s t img work why e =
    record {
      found = verdict.Sound;
      stripe = [];
      repaired = λ d. absurd (never why (sym e ∙ d));
      answers = sym (ap (λ (o : Outcome). begun (first o (mend_answer verdict.Sound s.now (length work))) s) e);
      left = refl;
    }

pub repairs_mended : (s : State) (t : ℕ) (img work : List ℕ) (b : Begun) (after : List ℕ) → may_repair s.now s.kind s.absent s.count t img ≡ Ok tt
    → Mended s t img work b after → Repairs s t img work b after
repairs_mended s t img work b after e w =
    record {
      found = w.found;
      stripe = w.stripe;
      repaired = λ d. w.repaired;
      answers = w.settles.answers ∙ sym (ap (λ (o : Outcome). begun (first o (mend_answer w.found s.now (length work))) (mended s t w.found)) e);
      left = w.settles.left;
    }

-- a copy over a part of its own length is the source
pub copied_first : (v d : List ℕ) (h : ℕ) → length v ≡ h → h ≤ length d → take (length v) v ++ drop (length v) (take h d) ≡ v
copied_first v d h e le =
    ap₂ (λ (x y : List ℕ). x ++ y) (take-length v) (drop_of_length-le (take h d) {i = length v} (omega (arith, length-take-le h d le))) ∙ append-nil v

pub begins_short : (s : State) (t r : ℕ) (stripe work : List ℕ) → sized_of s.now (length work) ≡ false
    → Begins s t r stripe work (Err BadBuffer) work
unfolding sized_answer
begins_short s t r stripe work e =
    record {
      answers = sym (ap (λ (b : Bool). begun (cond b (Ok tt) (Err BadBuffer)) (mending s t r)) e);
      left = refl;
    }

pub begins_goes : (s : State) (t r : ℕ) (stripe work : List ℕ) (x : State) (ys : List ℕ) → sized_of s.now (length work) ≡ true → x ≡ mending s t r → ys ≡ stripe
    → Begins s t r stripe work (Ok x) (ys ++ drop ((s.now.k + s.now.m) * (s.now.c * sector_bytes)) work)
unfolding sized_answer stripe_bytes
begins_goes s t r stripe work x ys e f q =
    record {
      answers = ap Ok f ∙ sym (ap (λ (b : Bool). begun (cond b (Ok tt) (Err BadBuffer)) (mending s t r)) e);
      left = ap (λ (y : List ℕ). y ++ drop ((s.now.k + s.now.m) * (s.now.c * sector_bytes)) work) q;
    }

pub settles_not : (s : State) (t : ℕ) (v : Verdict) (stripe work : List ℕ) → mend_answer v s.now (length work) ≡ Err NotNow
    → Settles s t v stripe work (Err NotNow) work
settles_not s t v stripe work e = record { answers = sym (ap (λ (o : Outcome). begun o (mended s t v)) e); left = refl }

pub settles_begins : (s : State) (t : ℕ) (v : Verdict) (r : ℕ) (stripe work : List ℕ) (b : Begun) (after : List ℕ) → v ≡ verdict.Accused r
    → Begins s t r stripe work b after → Settles s t v stripe work b after
settles_begins s t v r stripe work b after e w =
    record {
      answers = w.answers ∙ sym (ap (λ (x : Verdict). begun (mend_answer x s.now (length work)) (mended s t x)) e);
      left = w.left;
    }

-- what a mend that is never refused says
module _ (s : State) (img : List ℕ) (t : ℕ) (stripe : List ℕ) (r : Scrubbed) (m : MayMend s img t) (whole : length stripe ≡ stripe_bytes s.now)
    (p : ScrubbedBy (Ok tt) (λ v. RepairedOf s.now img t (Ok v) stripe) r) where
  pub mend_found : (v : Verdict) → r ≡ Ok v → RepairedOf s.now img t (Ok v) stripe
  mend_found v e = (subst (λ (x : Scrubbed). ScrubbedBy (Ok tt) (λ v. RepairedOf s.now img t (Ok v) stripe) x) e p).1

  pub mend_never : (why : Refusal) → r ≡ Err why → ⊥
  mend_never why e = never why (sym (subst (λ (x : Scrubbed). ScrubbedBy (Ok tt) (λ v. RepairedOf s.now img t (Ok v) stripe) x) e p))

  pub settling : (v : Verdict) → r ≡ Ok v → Settling s t v stripe
  settling v e =
      record {
        fits = m.lies.fits;
        small = stripe_small s.now img t m.lies;
        stamp = m.stamp;
        whole = whole;
        below = λ q f. accused_lt s.now img t (Ok v) stripe (mend_found v e) q (ap Ok f);
      }

  pub mended_by : (v : Verdict) → r ≡ Ok v → (work : List ℕ) (b : Begun) (after : List ℕ) → Settles s t v stripe work b after → Mended s t img work b after
  mended_by v e work b after w = record { found = v; stripe = stripe; repaired = (mend_found v e, whole); settles = w }

-- ---- what an accepted repair comes to

accused : (v : Verdict) (l : Label) (room : ℕ) → mend_answer v l room ≡ Ok tt → (r : ℕ) × (v ≡ verdict.Accused r)
accused (verdict.Accused r) l room e = (r, refl)
accused verdict.Sound l room e = absurd (never NotNow e)
accused verdict.Unsound l room e = absurd (never NotNow e)

module _ (s : State) (t : ℕ) (img work : List ℕ) (b : Begun) (after : List ℕ) (w : Repairs s t img work b after) (done : outcome_of b ≡ Ok tt) where
  answered_so : first (may_repair s.now s.kind s.absent s.count t img) (mend_answer w.found s.now (length work)) ≡ Ok tt
  answered_so = sym (begun_says _ (mended s t w.found)) ∙ sym (ap (λ (x : Begun). outcome_of x) w.answers) ∙ done

  may : may_repair s.now s.kind s.absent s.count t img ≡ Ok tt
  may = (first_done (may_repair s.now s.kind s.absent s.count t img) (mend_answer w.found s.now (length work)) answered_so).0

  -- A SHARD IS ACCUSED, AND IT IS THE ONE THAT IS WRITTEN
  pub repair_accuses : (r : ℕ) × (w.found ≡ verdict.Accused r) × (state_of s b ≡ mending s t r)
  repair_accuses =
      let a = accused w.found s.now (length work) (first_done (may_repair s.now s.kind s.absent s.count t img) (mend_answer w.found s.now (length work)) answered_so).1 in
      let e : state_of s b ≡ mended s t w.found =
      ap (state_of s) w.answers ∙ ap (λ (o : Outcome). state_of s (begun o (mended s t w.found))) answered_so in
      (a.0, a.1, e ∙ ap (mended s t) a.1)

  left_so : after ≡ w.stripe ++ drop (stripe_bytes s.now) work
  left_so = w.left ∙ ap (λ (o : Outcome). leaves o s.now w.stripe work) done

  -- THE FIRST HALF OF THE WORK AREA IS THE MENDED STRIPE
  pub repair_half : RepairedOf s.now img t (Ok w.found) (take (stripe_bytes s.now) after)
  repair_half =
      subst (λ (x : List ℕ). RepairedOf s.now img t (Ok w.found) x)
      (sym (ap (take (stripe_bytes s.now)) left_so ∙ take_at w.stripe (drop (stripe_bytes s.now) work) (stripe_bytes s.now) (w.repaired may).1))
      (w.repaired may).0

  -- ITS SECOND HALF IS AS IT WAS
  pub repair_rest : drop (stripe_bytes s.now) after ≡ drop (stripe_bytes s.now) work
  repair_rest = ap (drop (stripe_bytes s.now)) left_so ∙ drop_at w.stripe (drop (stripe_bytes s.now) work) (stripe_bytes s.now) (w.repaired may).1

-- A REFUSAL CHANGES NOTHING
pub repair_refused : (s : State) (t : ℕ) (img work : List ℕ) (b : Begun) (after : List ℕ) → Repairs s t img work b after → (why : Refusal) → outcome_of b ≡ Err why
    → (state_of s b ≡ s) × (after ≡ work)
repair_refused s t img work b after w why e =
    let o = first (may_repair s.now s.kind s.absent s.count t img) (mend_answer w.found s.now (length work)) in
    let x : State = mended s t w.found in
    let f : o ≡ Err why = sym (begun_says o x) ∙ sym (ap (λ (y : Begun). outcome_of y) w.answers) ∙ e in
    (ap (state_of s) w.answers ∙ ap (λ (y : Outcome). state_of s (begun y x)) f, w.left ∙ ap (λ (y : Outcome). leaves y s.now w.stripe work) e)
