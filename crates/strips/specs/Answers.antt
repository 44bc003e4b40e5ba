-- What is refused, in this order: an image that is not this shelf's; a stripe, a shard or sectors of a strip that there are not; more
-- lost shards than there is parity; a buffer of another size. A refusal changes nothing. Assumes nothing.
use Rattle.std.specs.Prelude.{◌≡◌, refl, Bool, true, false, cond, ◌&&◌, List, [], ℕ, ◌+◌, ◌-◌, ◌*◌, ◌≤◌, ◌<◌, leb, ltb, eqb, length, Ok, Err}
use Rattle.std.proofs.Common.{sym, ap, ◌∙◌, true≢false, leb-true, ltb-true, eqb-true, arith}
use Rattle.disk.specs.Limits.{sector_bytes, most_n, most_sectors}
use Rattle.disk.specs.Tests.{and_left, and_right}
use Rattle.disk.specs.Geometry.{in_range, splits, stripes_of, image_bytes, InRange, in_range_lem, Splits, may_split, stripes_le}
use Rattle.disk.specs.Image.{fits_image, Shape, fits_image_lem}
use Rattle.disk.specs.declared.geometry.Geometry.{Geometry}
use Rattle.disk.specs.declared.refusal.Refusal.{Refusal}
use Rattle.disk.specs.declared.refusal.Refusal.TheVariants.{BadImage, TooFew, BadBlock, BadBuffer}
use Rattle.disk.specs.Refusal.{Outcome}
use Rattle.strips.specs.Seen.{shard_bytes, lost_of, shard_seen, row_seen, shard_shown}

-- there is a stripe t, and its strips have the sectors first .. first + count, of which there is one at least
unfoldable pub part_of : Geometry → ℕ → ℕ → ℕ → Bool
part_of g t first count = ltb t (stripes_of g) && (leb 1 count && leb (first + count) g.c)

-- fetch: kept has a bytes, and there is room for b
unfoldable pub fetch_answer : Geometry → ℕ → ℕ → ℕ → ℕ → ℕ → ℕ → Outcome
fetch_answer g len t first count a b =
    cond (fits_image g len)
    (cond (part_of g t first count)
    (cond (eqb a (g.n * shard_bytes g) && eqb b (g.n * (count * sector_bytes))) (Ok tt) (Err BadBuffer))
    (Err BadBlock))
    (Err BadImage)

-- and what it leaves of a buffer
abbrev pub after_fetch : Outcome → Geometry → List ℕ → ℕ → ℕ → List ℕ → ℕ → ℕ → ℕ → List ℕ → List ℕ
after_fetch (Ok tt) g img there over kept t first count to = row_seen g img there over kept t first count
after_fetch (Err why) g img there over kept t first count to = to

-- fetch of shard r alone, all its sectors: kept has a bytes, and there is room for b
unfoldable pub shard_answer : Geometry → ℕ → ℕ → ℕ → ℕ → ℕ → Outcome
shard_answer g len t r a b =
    cond (fits_image g len)
    (cond (part_of g t 0 g.c && ltb r g.n)
    (cond (eqb a (g.n * shard_bytes g) && eqb b (shard_bytes g)) (Ok tt) (Err BadBuffer))
    (Err BadBlock))
    (Err BadImage)

abbrev pub after_shard : Outcome → Geometry → List ℕ → ℕ → ℕ → List ℕ → ℕ → ℕ → List ℕ → List ℕ
after_shard (Ok tt) g img there over kept t r to = shard_seen g img there over kept t 0 g.c r
after_shard (Err why) g img there over kept t r to = to

-- at most as many shards are lost as there is parity
unfoldable pub few_lost : ℕ → ℕ → ℕ → ℕ → Bool
few_lost n k t there = leb (length (lost_of n t there)) (n - k)

-- shown: kept has a bytes, there is room for b to work in, and for e
unfoldable pub shown_answer : Geometry → ℕ → ℕ → ℕ → ℕ → ℕ → ℕ → ℕ → ℕ → ℕ → ℕ → Outcome
shown_answer g k len t r first count there a b e =
    cond (fits_image g len && splits g.n k)
    (cond (part_of g t first count && ltb r g.n)
    (cond (few_lost g.n k t there)
    (cond (eqb a (g.n * shard_bytes g) && (eqb b (g.n * (count * sector_bytes)) && eqb e (count * sector_bytes))) (Ok tt) (Err BadBuffer))
    (Err TooFew))
    (Err BadBlock))
    (Err BadImage)

abbrev pub after_shown : Outcome → Geometry → ℕ → List ℕ → ℕ → ℕ → List ℕ → ℕ → ℕ → ℕ → ℕ → List ℕ → List ℕ
after_shown (Ok tt) g k img there over kept t first count r out = shard_shown g k img there over kept t first count r
after_shown (Err why) g k img there over kept t first count r out = out

-- the lost shards, where there is such a stripe, and room for n of them
unfoldable pub lost_in : Geometry → ℕ → ℕ → ℕ → List ℕ
lost_in g t there room = cond (in_range g && (ltb t (stripes_of g) && leb g.n room)) (lost_of g.n t there) []

-- ---- what the tests say

pub record Part (g : Geometry) (img kept : List ℕ) (t first count : ℕ) : Type 0 where
  pub range : InRange g
  pub whole : length img ≡ g.n * g.sectors * sector_bytes
  pub stripe : t < stripes_of g
  pub some : 1 ≤ count
  pub within : first + count ≤ g.c
  pub keeps : length kept ≡ g.n * shard_bytes g

pub part_means : (g : Geometry) (t first count : ℕ) → part_of g t first count ≡ true → (t < stripes_of g) × (1 ≤ count) × (first + count ≤ g.c)
unfolding part_of
part_means g t first count e =
    let f = and_right (ltb t (stripes_of g)) (leb 1 count && leb (first + count) g.c) e in (
      ltb-true t (stripes_of g) (and_left (ltb t (stripes_of g)) (leb 1 count && leb (first + count) g.c) e),
      leb-true 1 count (and_left (leb 1 count) (leb (first + count) g.c) f),
      leb-true (first + count) g.c (and_right (leb 1 count) (leb (first + count) g.c) f),
    )

pub part_is : (g : Geometry) (img kept : List ℕ) (t first count : ℕ) → fits_image g (length img) ≡ true → part_of g t first count ≡ true
    → length kept ≡ g.n * shard_bytes g → Part g img kept t first count
unfolding Shape
part_is g img kept t first count e f h =
    let a = fits_image_lem g img e in
    let b = part_means g t first count f in
    record { range = a.0; whole = a.1; stripe = b.0; some = b.1; within = b.2; keeps = h }

is_done : Outcome → Bool
is_done (Ok tt) = true
is_done (Err why) = false

-- what is not refused has passed the test
pub gate : (x : Bool) (o : Outcome) (why : Refusal) → cond x o (Err why) ≡ Ok tt → (x ≡ true) × (o ≡ Ok tt)
unfolding is_done
gate true o why e = (refl, e)
gate false o why e = absurd (true≢false (sym (ap is_done e)))

pub fetch_done : (g : Geometry) (img kept : List ℕ) (t first count b : ℕ) → fetch_answer g (length img) t first count (length kept) b ≡ Ok tt
    → Part g img kept t first count × (b ≡ g.n * (count * sector_bytes))
unfolding fetch_answer
fetch_done g img kept t first count b e =
    let x : Bool = eqb (length kept) (g.n * shard_bytes g) in
    let y : Bool = eqb b (g.n * (count * sector_bytes)) in
    let p = gate (fits_image g (length img)) _ BadImage e in
    let q = gate (part_of g t first count) _ BadBlock p.1 in
    let s = gate (x && y) (Ok tt) BadBuffer q.1 in
    (part_is g img kept t first count p.0 q.0 (eqb-true _ _ (and_left x y s.0)), eqb-true _ _ (and_right x y s.0))

pub shard_done : (g : Geometry) (img kept : List ℕ) (t r b : ℕ) → shard_answer g (length img) t r (length kept) b ≡ Ok tt
    → Part g img kept t 0 g.c × (r < g.n) × (b ≡ shard_bytes g)
unfolding shard_answer
shard_done g img kept t r b e =
    let x : Bool = eqb (length kept) (g.n * shard_bytes g) in
    let y : Bool = eqb b (shard_bytes g) in
    let p = gate (fits_image g (length img)) _ BadImage e in
    let q = gate (part_of g t 0 g.c && ltb r g.n) _ BadBlock p.1 in
    let s = gate (x && y) (Ok tt) BadBuffer q.1 in (
      part_is g img kept t 0 g.c p.0 (and_left (part_of g t 0 g.c) (ltb r g.n) q.0) (eqb-true _ _ (and_left x y s.0)),
      ltb-true r g.n (and_right (part_of g t 0 g.c) (ltb r g.n) q.0),
      eqb-true _ _ (and_right x y s.0),
    )

pub shown_done : (g : Geometry) (k : ℕ) (img kept : List ℕ) (t r first count there b e : ℕ) → shown_answer g k (length img) t r first count there (length kept) b e ≡ Ok tt
    → Part g img kept t first count × Splits g.n k × (few_lost g.n k t there ≡ true) × (r < g.n) × (b ≡ g.n * (count * sector_bytes)) × (e ≡ count * sector_bytes)
unfolding shown_answer
shown_done g k img kept t r first count there b e h =
    let x : Bool = eqb (length kept) (g.n * shard_bytes g) in
    let y : Bool = eqb b (g.n * (count * sector_bytes)) in
    let z : Bool = eqb e (count * sector_bytes) in
    let p = gate (fits_image g (length img) && splits g.n k) _ BadImage h in
    let q = gate (part_of g t first count && ltb r g.n) _ BadBlock p.1 in
    let f = gate (few_lost g.n k t there) _ TooFew q.1 in
    let s = gate (x && (y && z)) (Ok tt) BadBuffer f.1 in (
      part_is g img kept t first count (and_left (fits_image g (length img)) (splits g.n k) p.0) (and_left (part_of g t first count) (ltb r g.n) q.0)
          (eqb-true _ _ (and_left x (y && z) s.0)),
      may_split g.n k (and_right (fits_image g (length img)) (splits g.n k) p.0),
      f.0,
      ltb-true r g.n (and_right (part_of g t first count) (ltb r g.n) q.0),
      eqb-true _ _ (and_left y z (and_right x (y && z) s.0)),
      eqb-true _ _ (and_right y z (and_right x (y && z) s.0)),
    )

pub lists_means : (g : Geometry) (t room : ℕ) → (in_range g && (ltb t (stripes_of g) && leb g.n room)) ≡ true → (g.n ≤ most_n) × (g.n ≤ room) × (t ≤ most_sectors)
lists_means g t room e =
    let f = and_right (in_range g) (ltb t (stripes_of g) && leb g.n room) e in
    let r = in_range_lem g (and_left (in_range g) (ltb t (stripes_of g) && leb g.n room) e) in (
      r.few,
      leb-true g.n room (and_right (ltb t (stripes_of g)) (leb g.n room) f),
      omega (arith, ltb-true t (stripes_of g) (and_left (ltb t (stripes_of g)) (leb g.n room) f), stripes_le g, r.most),
    )

-- a stripe that there is has a small number
pub stripe_small : (g : Geometry) (img kept : List ℕ) (t first count : ℕ) → Part g img kept t first count → t ≤ most_sectors
stripe_small g img kept t first count b = omega (arith, b.stripe, stripes_le g, b.range.most)

-- on a shelf's image, whether there is a stripe is told by its number
pub stripe_told : (g : Geometry) (len t : ℕ) (b : Bool) → fits_image g len ≡ true → (in_range g && ltb t (stripes_of g)) ≡ b → ltb t (stripes_of g) ≡ b
unfolding fits_image
stripe_told g len t b e f = ap (λ (x : Bool). x && ltb t (stripes_of g)) (sym (and_left (in_range g) (eqb len (image_bytes g)) e)) ∙ f
