-- Write: when it is refused, the state with which it begins, and what it leaves in the work area. Assumes nothing.
use Rattle.std.specs.Prelude.{◌≡◌, Bool, true, false, List, ◌++◌, ℕ, ◌+◌, ◌*◌, ◌<◌, ◌/◌, ◌%◌, ltb, length, take, drop, Ok, Err}
use Rattle.std.proofs.Common.{sym, ap, subst, ◌∙◌, arith, length-take-le, take_at, drop_at, ltb-true, lt-ltb, eq-eqb}
use Rattle.disk.specs.Limits.{sector_bytes}
use Rattle.disk.specs.Geometry.{stripes_of, blocks_of, block_inside}
use Rattle.disk.specs.Image.{fits_image}
use Rattle.disk.specs.declared.geometry.Geometry.{Geometry}
use Rattle.disk.specs.Refusal.{Outcome}
use Rattle.disk.specs.declared.refusal.Refusal.TheVariants.{NotNow, BadImage}
use Rattle.label.specs.Fields.{geometry_of}
use Rattle.label.proofs.Fits.{fits_says}
use Rattle.label.specs.declared.fields.Label.{Label}
use Rattle.requests.specs.Begun.{first}
use Rattle.requests.specs.Ready.{is_idle, has_shelf, ready_of}
use Rattle.requests.specs.Accepted.{passed, ready_done}
use Rattle.stages.specs.declared.state.State.{State}
use Rattle.stages.specs.declared.state.Marks.{Marks}
use Rattle.stages.specs.declared.state.Kind.{Kind}
use Rattle.stages.specs.declared.state.Kind.TheVariants.{Writing}
use Rattle.strips.specs.Seen.{shard_bytes}
use Rattle.strips.specs.Whole.{prepare_answer, PreparedBy}
use Rattle.blocks.specs.Slots.{too_few, there, changed_shards, changed_slots}
use Rattle.blocks.specs.Answers.{answered_done, sizes, block_answer, first_done, half_le}
use Rattle.blocks.specs.Read.{Shows, shows, shows_block, half_of}

-- the greatest count of a stamp
abbrev pub most_count : ℕ
most_count = 18446744073709551615

-- there is a stamp left for one more write: the count never wraps
unfoldable pub stamp_left : ℕ → Bool
stamp_left count = ltb count most_count

abbrev pub write_answer : Label → Kind → ℕ → ℕ → List ℕ → ℕ → ℕ → ℕ → Outcome
write_answer l kind absent count img block bytes room =
    first (ready_of l kind absent img) (block_answer l absent (is_idle kind) (stamp_left count) block bytes room)

-- ---- the state

abbrev pub write_marks : ℕ → ℕ → ℕ → Marks
write_marks parts redo stripe =
    record {
      present = 0;
      parts = parts;
      late = 0;
      prep = 0;
      zeroed = 0;
      redo = redo;
      stripe = stripe;
      forward = false;
    }

-- a write at its beginning, with the next stamp
abbrev pub stamped_with : State → Marks → State
stamped_with s marks =
    record {
      now = s.now;
      next = s.now;
      absent = s.absent;
      epoch = s.epoch;
      count = s.count + 1;
      marks = marks;
      kind = Writing;
      cursor = record { stage = 0; slot = 0; sector = 0 };
    }

-- of these shards of stripe t, as far as their slots are there
abbrev pub changing : State → ℕ → ℕ → State
changing s t parts =
    stamped_with s (write_marks parts (changed_slots (s.now.k + s.now.m) t (there (geometry_of s.now) s.now s.absent t) parts) t)

-- ---- the work area

-- its first half holds the stripe that the write puts on the disks, its second half is as it was
pub record PreparedIn (l : Label) (absent : ℕ) (img : List ℕ) (block : ℕ) (bytes work : List ℕ) (all : Bool) (after : List ℕ) : Type 0 where
  pub stripe : PreparedBy (geometry_of l) l.k img (there (geometry_of l) l absent (block / l.k)) (block / l.k) (block % l.k) bytes all (half_of (geometry_of l) after)
  pub rest : drop ((l.k + l.m) * (l.c * sector_bytes)) after ≡ drop ((l.k + l.m) * (l.c * sector_bytes)) work

-- a write that is accepted: whether all shards change, the stripe, and the state
pub record Written (s : State) (block : ℕ) (bytes img work : List ℕ) (s' : State) (after : List ℕ) : Type 0 where
  pub all : Bool
  pub prepared : PreparedIn s.now s.absent img block bytes work all after
  pub becomes : s' ≡ changing s (block / s.now.k) (changed_shards (s.now.k + s.now.m) s.now.k (block % s.now.k) all)

abbrev pub AfterWrite : Outcome → State → ℕ → List ℕ → List ℕ → List ℕ → State → List ℕ → Type 0
AfterWrite (Ok tt) s block bytes img work s' after = Written s block bytes img work s' after
AfterWrite (Err why) s block bytes img work s' after = (s' ≡ s) × (after ≡ work)

-- ---- what the tests of a write that is not refused say

pub ready_image : (l : Label) (kind : Kind) (absent : ℕ) (img : List ℕ) → ready_of l kind absent img ≡ Ok tt → fits_image (geometry_of l) (length img) ≡ true
unfolding ready_of
ready_image l kind absent img e = (passed (fits_image (geometry_of l) (length img)) _ BadImage (passed (has_shelf l kind) _ NotNow e).1).0

pub write_done : (l : Label) (kind : Kind) (absent count : ℕ) (img : List ℕ) (block : ℕ) (bytes work : List ℕ)
    → write_answer l kind absent count img block (length bytes) (length work) ≡ Ok tt → Shows l absent img work block bytes × (count < most_count)
unfolding block_answer stamp_left
write_done l kind absent count img block bytes work e =
    let p = first_done (ready_of l kind absent img) (block_answer l absent (is_idle kind) (stamp_left count) block (length bytes) (length work)) e in (
      shows l absent (is_idle kind) (stamp_left count) img work block bytes (ready_done l kind absent img p.0) (ready_image l kind absent img p.0) p.1,
      ltb-true count most_count (answered_done (too_few l absent) (ltb block (blocks_of (geometry_of l) l.k)) (is_idle kind) (ltb count most_count) (sizes (l.k + l.m) l.c (length bytes) (length work)) p.1).makes_sense,
    )

plain : (l : Label) (absent : ℕ) (img work : List ℕ) (block : ℕ) (bytes : List ℕ) → Shows l absent img work block bytes → (a : ℕ) → a ≡ (l.k + l.m) * (l.c * sector_bytes)
    → prepare_answer (geometry_of l) l.k (length img) (block / l.k) (block % l.k) (there (geometry_of l) l absent (block / l.k)) (length bytes) a ≡ Ok tt
unfolding prepare_answer
plain l absent img work block bytes h a ae =
    let z = shows_block l absent img work block bytes h in
    let f = fits_says l h.fits in
    let in_k : block % l.k < l.k = (block_inside (geometry_of l) l.k block (omega (arith, f.split.least)) h.inside).1 in
    simp (
      z.image,
      z.split,
      lt-ltb (block / l.k) (stripes_of (geometry_of l)) z.stripe,
      lt-ltb (block % l.k) l.k in_k,
      z.few,
      eq-eqb (length bytes) (l.c * sector_bytes) h.sized,
      eq-eqb a ((l.k + l.m) * (l.c * sector_bytes)) ae,
    )

-- then no preparation is refused
pub prepare_goes : (l : Label) (absent : ℕ) (img work : List ℕ) (block : ℕ) (bytes : List ℕ) → Shows l absent img work block bytes → (g : Geometry) (d a : ℕ)
    → g ≡ geometry_of l → d ≡ there g l absent (block / l.k) → a ≡ g.n * shard_bytes g
    → prepare_answer g l.k (length img) (block / l.k) (block % l.k) d (length bytes) a ≡ Ok tt
prepare_goes l absent img work block bytes h g d a ge de ae =
    ap (λ (y : ℕ). prepare_answer g l.k (length img) (block / l.k) (block % l.k) y (length bytes) a) de
    ∙ ap (λ (x : Geometry). prepare_answer x l.k (length img) (block / l.k) (block % l.k) (there x l absent (block / l.k)) (length bytes) a) ge
    ∙ plain l absent img work block bytes h a (ae ∙ ap (λ (x : Geometry). x.n * shard_bytes x) ge)

-- what is prepared in the first half
pub prepared_in : (l : Label) (absent : ℕ) (img work : List ℕ) (block : ℕ) (bytes : List ℕ) → Shows l absent img work block bytes → (g : Geometry) (d : ℕ)
    → g ≡ geometry_of l → d ≡ there g l absent (block / l.k) → (all : Bool) (ys after : List ℕ) → PreparedBy g l.k img d (block / l.k) (block % l.k) bytes all ys
    → length ys ≡ length (take (g.n * shard_bytes g) work) → after ≡ ys ++ drop (g.n * shard_bytes g) work → PreparedIn l absent img block bytes work all after
unfolding half_of
prepared_in l absent img work block bytes h g d ge de all ys after p same e =
    let H : ℕ = (l.k + l.m) * (l.c * sector_bytes) in
    let he : g.n * shard_bytes g ≡ H = ap (λ (x : Geometry). x.n * shard_bytes x) ge in
    let len : length ys ≡ g.n * shard_bytes g = same ∙ length-take-le (g.n * shard_bytes g) work (omega (arith, he, half_le l (length work) h.fits h.whole)) in
    let e' : after ≡ ys ++ drop H work = e ∙ ap (λ (n : ℕ). ys ++ drop n work) he in
    let q : take H after ≡ ys = ap (take H) e' ∙ take_at ys (drop H work) H (len ∙ he) in
    record {
      stripe =
          subst (λ (y : List ℕ). PreparedBy (geometry_of l) l.k img (there (geometry_of l) l absent (block / l.k)) (block / l.k) (block % l.k) bytes all y) (sym q)
          (subst (λ (x : Geometry). PreparedBy x l.k img (there x l absent (block / l.k)) (block / l.k) (block % l.k) bytes all ys) ge
          (subst (λ (y : ℕ). PreparedBy g l.k img y (block / l.k) (block % l.k) bytes all ys) de p));
      rest = ap (drop H) e' ∙ drop_at ys (drop H work) H (len ∙ he);
    }
