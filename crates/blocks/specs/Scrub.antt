-- Scrub: when it is refused, and what is said of the stripe as it is seen. Assumes nothing.
use Rattle.std.specs.Prelude.{◌≡◌, refl, Bool, true, ◌&&◌, List, ℕ, ◌+◌, ◌-◌, ◌*◌, ◌≤◌, ◌<◌, ltb, eqb, length, take, replicate, Ok, Err}
use Rattle.std.proofs.Common.{sym, ap, subst, ◌∙◌, arith, length-take-le, ltb-true, eqb-true, lt-ltb, eq-eqb}
use Rattle.std.proofs.lemmas.List.{length-replicate}
use Rattle.code.specs.Stripes.{Says}
use Rattle.code.specs.declared.Verdict.{Verdict}
use Rattle.disk.specs.Limits.{sector_bytes}
use Rattle.disk.specs.Geometry.{stripes_of}
use Rattle.disk.specs.Image.{fits_image}
use Rattle.disk.specs.Tests.{and_left, and_right}
use Rattle.disk.specs.declared.geometry.Geometry.{Geometry}
use Rattle.disk.specs.Refusal.{Outcome}
use Rattle.label.specs.Fields.{geometry_of, fits_of}
use Rattle.label.proofs.Fits.{fits_says}
use Rattle.label.specs.declared.fields.Label.{Label}
use Rattle.requests.specs.Begun.{work_bytes, first}
use Rattle.stages.specs.declared.state.Kind.{Kind}
use Rattle.strips.specs.Seen.{shard_bytes, row_seen}
use Rattle.strips.specs.Whole.{whole_answer, none_lost, FoundBy}
use Rattle.strips.specs.Whole.{Scrubbed}
use Rattle.blocks.specs.Slots.{too_few, none_missing, there}
use Rattle.blocks.specs.Counted.{nothing_lost}
use Rattle.blocks.specs.Answers.{serves, look_answer, sized_of, stripe_answer, look_done, first_done, answered_done, never, splits_of, most_stripe}
use Rattle.blocks.specs.Read.{half_of}

-- no shelf NOT_NOW; another image BAD_IMAGE; more than m slots missing TOO_FEW; no such stripe BAD_BLOCK; create or start-up under way, or a
-- slot missing, NOT_NOW; another work area BAD_BUFFER
abbrev pub scrub_answer : Label → Kind → ℕ → ℕ → ℕ → ℕ → Outcome
scrub_answer l kind absent t len room =
    first (look_answer l kind len) (stripe_answer l absent true (serves kind && none_missing l absent) (sized_of l room) t)

-- what the code says of stripe t as it is seen on a shelf with this label
abbrev pub SaysOf : Label → ℕ → ℕ → List ℕ → List ℕ → ℕ → Verdict → Type 0
SaysOf l absent over img work t v =
    Says l.k (l.k + l.m - l.k) (l.c * sector_bytes)
    (row_seen (geometry_of l) img (there (geometry_of l) l absent t) over (half_of (geometry_of l) work) t 0 l.c) (Ok v)

-- found, and then P of the verdict; or refused
abbrev pub ScrubbedBy : Outcome → (Verdict → Type 0) → Scrubbed → Type 0
ScrubbedBy o P (Ok v) = (o ≡ Ok tt) × P v
ScrubbedBy o P (Err why) = o ≡ Err why

-- ---- what the tests of a request of a stripe that is not refused say

-- a stripe of a shelf
pub record Lies (l : Label) (img : List ℕ) (t : ℕ) : Type 0 where
  pub fits : fits_of l ≡ true
  pub image : fits_image (geometry_of l) (length img) ≡ true
  pub stripe : t < stripes_of (geometry_of l)

-- nothing is missing, and the other tests hold
pub record Taken (l : Label) (absent : ℕ) (more sized : Bool) (img : List ℕ) (t : ℕ) : Type 0 where
  pub lies : Lies l img t
  pub all_there : none_missing l absent ≡ true
  pub makes_sense : more ≡ true
  pub fit : sized ≡ true

pub stripe_done : (l : Label) (absent : ℕ) (idle more sized : Bool) (img : List ℕ) (t : ℕ) → fits_of l ≡ true → fits_image (geometry_of l) (length img) ≡ true
    → stripe_answer l absent idle (more && none_missing l absent) sized t ≡ Ok tt → Taken l absent more sized img t
unfolding stripe_answer
stripe_done l absent idle more sized img t f i e =
    let p = answered_done (too_few l absent) (ltb t (stripes_of (geometry_of l))) idle (more && none_missing l absent) sized e in
    record {
      lies = record { fits = f; image = i; stripe = ltb-true _ _ p.there_is };
      all_there = and_right more (none_missing l absent) p.makes_sense;
      makes_sense = and_left more (none_missing l absent) p.makes_sense;
      fit = p.fit;
    }

-- a scrub: nothing is missing, and the work area has its size
pub record Scrubs (l : Label) (absent : ℕ) (img work : List ℕ) (t : ℕ) : Type 0 where
  pub lies : Lies l img t
  pub all_there : none_missing l absent ≡ true
  pub whole : length work ≡ work_bytes (l.k + l.m) l.c

pub scrub_done : (l : Label) (kind : Kind) (absent t : ℕ) (img work : List ℕ) → scrub_answer l kind absent t (length img) (length work) ≡ Ok tt → Scrubs l absent img work t
unfolding sized_of
scrub_done l kind absent t img work e =
    let sized : Bool = eqb (length work) (work_bytes (l.k + l.m) l.c) in
    let p = first_done (look_answer l kind (length img)) (stripe_answer l absent true (serves kind && none_missing l absent) sized t) e in
    let q = look_done l kind (length img) p.0 in
    let r = stripe_done l absent true (serves kind) sized img t q.0 q.1 p.1 in
    record { lies = r.lies; all_there = r.all_there; whole = eqb-true _ _ r.fit }

-- ---- a stripe of which no shard is lost

-- there is room for it
pub room_holds : (h : ℕ) → h ≤ most_stripe → length {A = ℕ} (take h (replicate most_stripe 0)) ≡ h
room_holds h le = length-take-le h (replicate most_stripe 0) (omega (arith, length-replicate {A = ℕ} most_stripe 0))

plain : (l : Label) (img : List ℕ) (t : ℕ) → Lies l img t → (d : ℕ) → none_lost (l.k + l.m) t d ≡ true
    → (a b : ℕ) → a ≡ (l.k + l.m) * (l.c * sector_bytes) → b ≡ (l.k + l.m) * (l.c * sector_bytes) → whole_answer (geometry_of l) l.k (length img) t d a b ≡ Ok tt
unfolding whole_answer
plain l img t h d all a b ae be =
    let H : ℕ = (l.k + l.m) * (l.c * sector_bytes) in
    simp (
      h.image,
      splits_of l h.fits,
      lt-ltb t (stripes_of (geometry_of l)) h.stripe,
      all,
      eq-eqb a H ae,
      eq-eqb b H be,
    )

-- then the code is asked, and what it says is said in the label's numbers; `slots` are those that are there
module _ (l : Label) (img : List ℕ) (t : ℕ) (h : Lies l img t) (slots : Geometry → ℕ) (all : none_lost (l.k + l.m) t (slots (geometry_of l)) ≡ true)
    (g : Geometry) (d : ℕ) (ge : g ≡ geometry_of l) (de : d ≡ slots g) where
  whole_goes : (a b : ℕ) → a ≡ g.n * shard_bytes g → b ≡ g.n * shard_bytes g → whole_answer g l.k (length img) t d a b ≡ Ok tt
  whole_goes a b ae be =
      let he = ap (λ (x : Geometry). x.n * shard_bytes x) ge in
      ap (λ (y : ℕ). whole_answer g l.k (length img) t y a b) de
      ∙ ap (λ (x : Geometry). whole_answer x l.k (length img) t (slots x) a b) ge
      ∙ plain l img t h (slots (geometry_of l)) all a b (ae ∙ he) (be ∙ he)

  with_label : (P : Geometry → ℕ → ℕ → Type 0) → P g d (g.n - l.k) → P (geometry_of l) (slots (geometry_of l)) l.m
  with_label P p =
      let e : l.k + l.m - l.k ≡ l.m = omega arith in
      subst (P (geometry_of l) (slots (geometry_of l))) e
      (subst (λ (x : Geometry). P x (slots x) (x.n - l.k)) ge (subst (λ (y : ℕ). P g y (g.n - l.k)) de p))

  pub found_with : (P : Geometry → ℕ → ℕ → Verdict → Type 0) (a b : ℕ) → a ≡ g.n * shard_bytes g → b ≡ g.n * shard_bytes g → (Q : Type 0) (r : Scrubbed)
      → FoundBy (whole_answer g l.k (length img) t d a b) (P g d (g.n - l.k)) Q r → ScrubbedBy (Ok tt) (P (geometry_of l) (slots (geometry_of l)) l.m) r
  found_with P a b ae be Q (Ok v) p = (refl, with_label (λ x y m. P x y m v) p.1)
  found_with P a b ae be Q (Err why) p = absurd (never why (sym p.0 ∙ whole_goes a b ae be))

pub scrub_with : (l : Label) (absent over : ℕ) (img work : List ℕ) (t : ℕ) → Scrubs l absent img work t → (g : Geometry) (d : ℕ) → g ≡ geometry_of l → d ≡ there g l absent t
    → (a b : ℕ) → a ≡ g.n * shard_bytes g → b ≡ g.n * shard_bytes g → (Q : Type 0) (r : Scrubbed)
    → FoundBy (whole_answer g l.k (length img) t d a b) (λ v. Says l.k (g.n - l.k) (shard_bytes g) (row_seen g img d over (take (g.n * shard_bytes g) work) t 0 g.c) (Ok v)) Q r
    → ScrubbedBy (Ok tt) (SaysOf l absent over img work t) r
unfolding half_of
scrub_with l absent over img work t h g d ge de =
    found_with l img t h.lies (λ x. there x l absent t) (nothing_lost l absent t (fits_says l h.lies.fits) h.lies.stripe h.all_there) g d ge de
    (λ x y m v. Says l.k (x.n - l.k) (shard_bytes x) (row_seen x img y over (take (x.n * shard_bytes x) work) t 0 x.c) (Ok v))
