-- A whole stripe: scrubbed, mended, and prepared for a write of one block. What is refused is a function; what is done to the stripe as it
-- is seen is said in the words of the code's own contracts. Assumes nothing.
use Rattle.std.specs.Prelude.{◌≡◌, refl, Bool, true, false, cond, ◌&&◌, List, [], ℕ, ◌+◌, ◌-◌, ◌*◌, ◌≤◌, ◌<◌, ltb, eqb, length, get_or, take, Ok, Err, Result}
use Rattle.std.specs.Result.{IsOk, is_ok}
use Rattle.std.proofs.Common.{sym, ap, ◌∙◌, true≢false, mul_assoc, mul-le-mul_left, arith, lit<, length-take-le, ltb-true, eqb-true}
use Rattle.std.proofs.Math.Seq.{paste}
use Rattle.field.specs.Refusal.{Answer}
use Rattle.disk.specs.Limits.{sector_bytes}
use Rattle.disk.specs.Tests.{and_left, and_right}
use Rattle.disk.specs.Geometry.{splits, stripes_of, strip_of, slot_of, InRange, Splits, may_split}
use Rattle.disk.specs.Image.{place, fits_image, Shape, fits_image_lem}
use Rattle.disk.specs.Mask.{in_mask, in_past}
use Rattle.disk.specs.declared.geometry.Geometry.{Geometry}
use Rattle.disk.specs.declared.refusal.Refusal.TheVariants.{BadImage, TooFew, BadBlock, NotNow, BadBuffer}
use Rattle.disk.specs.Refusal.{Outcome}
use Rattle.code.specs.Stripes.{Encoded, Rebuilt, Repaired}
use Rattle.code.specs.declared.Verdict.{Verdict}
use Rattle.code.specs.declared.Verdict.TheVariants as verdict
use Rattle.position.specs.Row.{in_row, listed}
use Rattle.strips.specs.Seen.{shard_bytes, lost_of, seen, shard_seen, row_seen}
use Rattle.strips.specs.Answers.{few_lost, gate, Part}
use Rattle.disk.specs.declared.refusal.Refusal.{Refusal}

-- what a scrub found, or why there was none
abbrev pub Scrubbed : Type 0
Scrubbed = Result Verdict Refusal

-- ---- the stripe as it lies on the disks

-- stripe t of the image, with nothing laid over it
abbrev pub stripe_seen : Geometry → List ℕ → ℕ → ℕ → List ℕ
stripe_seen g img there t = row_seen g img there 0 [] t 0 g.c

seen_plain : (g : Geometry) (img : List ℕ) (there : ℕ) (kept : List ℕ) (t r q : ℕ) → seen g img there 0 kept t r q ≡ seen g img there 0 [] t r q
unfolding seen
seen_plain g img there kept t r q =
    let d : ℕ = slot_of g.n t r in
    let x : ℕ = cond (in_mask there d) (get_or img (place g.sectors d (strip_of g t) + q) 0) 0 in
    let e : in_mask 0 d ≡ false = in_past 0 0 d (lit< tt) (omega arith) in
    ap (λ (b : Bool). cond b (get_or kept (r * shard_bytes g + q) 0) x) e
    ∙ sym (ap (λ (b : Bool). cond b (get_or [] (r * shard_bytes g + q) 0) x) e)

-- with nothing laid over it, what is kept makes no difference
pub row_plain : (g : Geometry) (img : List ℕ) (there : ℕ) (kept : List ℕ) (t first count : ℕ) → row_seen g img there 0 kept t first count ≡ row_seen g img there 0 [] t first count
unfolding row_seen shard_seen
row_plain g img there kept t first count =
    λ i. in_row g.n (λ r. listed (count * sector_bytes) (λ p. seen_plain g img there kept t r (first * sector_bytes + p) i))

pub record Lies (g : Geometry) (img : List ℕ) (t : ℕ) : Type 0 where
  pub range : InRange g
  pub whole : length img ≡ g.n * g.sectors * sector_bytes
  pub stripe : t < stripes_of g

-- a stripe's bytes are no more than the image's
pub stripe_fits : (g : Geometry) (img : List ℕ) (t : ℕ) → Lies g img t → g.n * shard_bytes g ≤ length img
stripe_fits g img t l =
    let h : g.c ≤ g.sectors = omega (arith, l.range.room) in
    omega (arith, l.whole, mul_assoc g.n g.c sector_bytes, mul-le-mul_left g.n h)

-- so its beginning serves as what is kept
pub plain_part : (g : Geometry) (img : List ℕ) (t : ℕ) → Lies g img t → Part g img (take (g.n * shard_bytes g) img) t 0 g.c
plain_part g img t l =
    record {
      range = l.range;
      whole = l.whole;
      stripe = l.stripe;
      some = l.range.some;
      within = omega arith;
      keeps = length-take-le (g.n * shard_bytes g) img (stripe_fits g img t l);
    }

-- ---- scrub, and mend

-- no shard is lost
unfoldable pub none_lost : ℕ → ℕ → ℕ → Bool
none_lost n t there = eqb (length (lost_of n t there)) 0

-- a scrub, with a and b bytes in its two buffers; a mend has one
unfoldable pub whole_answer : Geometry → ℕ → ℕ → ℕ → ℕ → ℕ → ℕ → Outcome
whole_answer g k len t there a b =
    cond (fits_image g len && splits g.n k)
    (cond (ltb t (stripes_of g))
    (cond (none_lost g.n t there)
    (cond (eqb a (g.n * shard_bytes g) && eqb b (g.n * shard_bytes g)) (Ok tt) (Err BadBuffer))
    (Err NotNow))
    (Err BadBlock))
    (Err BadImage)

-- what is answered: found, by a request that is not refused, and then P of the verdict; or refused, and then Q
abbrev pub FoundBy : Outcome → (Verdict → Type 0) → Type 0 → Scrubbed → Type 0
FoundBy o P Q (Ok v) = (o ≡ Ok tt) × P v
FoundBy o P Q (Err why) = (o ≡ Err why) × Q

pub whole_done : (g : Geometry) (k : ℕ) (img : List ℕ) (t there a b : ℕ) → whole_answer g k (length img) t there a b ≡ Ok tt
    → Lies g img t × Splits g.n k × (a ≡ g.n * shard_bytes g) × (b ≡ g.n * shard_bytes g)
unfolding whole_answer Shape
whole_done g k img t there a b h =
    let x : Bool = eqb a (g.n * shard_bytes g) in
    let y : Bool = eqb b (g.n * shard_bytes g) in
    let p = gate (fits_image g (length img) && splits g.n k) _ BadImage h in
    let q = gate (ltb t (stripes_of g)) _ BadBlock p.1 in
    let f = gate (none_lost g.n t there) _ NotNow q.1 in
    let s = gate (x && y) (Ok tt) BadBuffer f.1 in
    let u = fits_image_lem g img (and_left (fits_image g (length img)) (splits g.n k) p.0) in (
      record { range = u.0; whole = u.1; stripe = ltb-true t (stripes_of g) q.0 },
      may_split g.n k (and_right (fits_image g (length img)) (splits g.n k) p.0),
      eqb-true _ _ (and_left x y s.0),
      eqb-true _ _ (and_right x y s.0),
    )

-- ---- a write of one block

-- block i, with a bytes of data and room for b
unfoldable pub prepare_answer : Geometry → ℕ → ℕ → ℕ → ℕ → ℕ → ℕ → ℕ → Outcome
prepare_answer g k len t i there a b =
    cond (fits_image g len && splits g.n k)
    (cond (ltb t (stripes_of g) && ltb i k)
    (cond (few_lost g.n k t there)
    (cond (eqb a (shard_bytes g) && eqb b (g.n * shard_bytes g)) (Ok tt) (Err BadBuffer))
    (Err TooFew))
    (Err BadBlock))
    (Err BadImage)

-- a stripe that is not sound is put in order by the write, so that all its shards change
abbrev pub changes : Verdict → Bool
changes verdict.Sound = false
changes (verdict.Accused r) = true
changes verdict.Unsound = true

-- what is lost of a stripe is rebuilt; a stripe of which nothing is lost is repaired
pub record Restored (n k t there len : ℕ) (all : Bool) (before after : List ℕ) : Type 0 where
  pub repaired : none_lost n t there ≡ true → (v : Verdict) × Repaired k (n - k) len (Ok v) before after × (all ≡ changes v)
  pub rebuilt : none_lost n t there ≡ false → (a : Answer) × Rebuilt k (n - k) len (lost_of n t there) a before after × (all ≡ false)

-- the stripe as it is seen is restored, the data is put at shard i, and the parity is computed
pub record PreparedBy (g : Geometry) (k : ℕ) (img : List ℕ) (there t i : ℕ) (bytes : List ℕ) (all : Bool) (after : List ℕ) : Type 0 where
  pub stripe : List ℕ
  pub restored : Restored g.n k t there (shard_bytes g) all (stripe_seen g img there t) stripe
  pub answer : Answer
  pub encoded : Encoded k (g.n - k) (shard_bytes g) answer (paste stripe (i * shard_bytes g) bytes (shard_bytes g)) after

-- what is answered: whether the write changes all shards, and then the stripe is prepared; or refused, and then it is as it was
abbrev pub AfterPrepare : Outcome → Geometry → ℕ → List ℕ → ℕ → ℕ → ℕ → List ℕ → Result Bool Refusal → List ℕ → List ℕ → Type 0
AfterPrepare o g k img there t i bytes (Ok all) before after = (o ≡ Ok tt) × PreparedBy g k img there t i bytes all after
AfterPrepare o g k img there t i bytes (Err why) before after = (o ≡ Err why) × (after ≡ before)

-- a write that is not refused is prepared
pub prepare_goes_on : (o : Outcome) (g : Geometry) (k : ℕ) (img : List ℕ) (there t i : ℕ) (bytes : List ℕ) (r : Result Bool Refusal) (before after : List ℕ)
    → o ≡ Ok tt → AfterPrepare o g k img there t i bytes r before after → IsOk r
prepare_goes_on o g k img there t i bytes (Ok all) before after e h = refl
prepare_goes_on o g k img there t i bytes (Err why) before after e h = absurd (true≢false (ap is_ok (sym e ∙ h.0)))

pub prepare_done : (g : Geometry) (k : ℕ) (img : List ℕ) (t i there a b : ℕ) → prepare_answer g k (length img) t i there a b ≡ Ok tt
    → Lies g img t × Splits g.n k × (i < k) × (few_lost g.n k t there ≡ true) × (a ≡ shard_bytes g) × (b ≡ g.n * shard_bytes g)
unfolding prepare_answer Shape
prepare_done g k img t i there a b h =
    let x : Bool = eqb a (shard_bytes g) in
    let y : Bool = eqb b (g.n * shard_bytes g) in
    let p = gate (fits_image g (length img) && splits g.n k) _ BadImage h in
    let q = gate (ltb t (stripes_of g) && ltb i k) _ BadBlock p.1 in
    let f = gate (few_lost g.n k t there) _ TooFew q.1 in
    let s = gate (x && y) (Ok tt) BadBuffer f.1 in
    let u = fits_image_lem g img (and_left (fits_image g (length img)) (splits g.n k) p.0) in (
      record { range = u.0; whole = u.1; stripe = ltb-true t (stripes_of g) (and_left (ltb t (stripes_of g)) (ltb i k) q.0) },
      may_split g.n k (and_right (fits_image g (length img)) (splits g.n k) p.0),
      ltb-true i k (and_right (ltb t (stripes_of g)) (ltb i k) q.0),
      f.0,
      eqb-true _ _ (and_left x y s.0),
      eqb-true _ _ (and_right x y s.0),
    )
