-- Read: a block as it is shown, whatever is missing. Assumes nothing.
use Rattle.std.specs.Prelude.{◌≡◌, refl, Bool, true, false, cond, ◌&&◌, List, [], ◌∷◌, ◌++◌, ℕ, zero, suc, ◌+◌, ◌*◌, ◌<◌, ◌/◌, ◌%◌, leb, ltb, eqb, length, take, Ok, Err}
use Rattle.std.proofs.Common.{sym, ◌∙◌, zero-add, suc-add, arith, length-take-le, ltb-true, eqb-true, lt-ltb, le-leb, eq-eqb}
use Rattle.std.proofs.Math.Path.{ap, subst}
use Rattle.disk.specs.Limits.{sector_bytes}
use Rattle.disk.specs.Geometry.{splits, stripes_of, blocks_of, block_inside}
use Rattle.disk.specs.Image.{fits_image, fits_image_lem}
use Rattle.disk.specs.Tests.{and_left, and_right}
use Rattle.disk.specs.declared.geometry.Geometry.{Geometry}
use Rattle.disk.specs.Refusal.{Outcome}
use Rattle.label.specs.Fields.{geometry_of, fits_of}
use Rattle.label.proofs.Fits.{fits_says}
use Rattle.label.specs.declared.fields.Label.{Label}
use Rattle.position.specs.Row.{in_row, listed, listed_length}
use Rattle.requests.specs.Begun.{work_bytes, first}
use Rattle.stages.specs.declared.state.State.{State}
use Rattle.stages.specs.declared.state.Kind.{Kind}
use Rattle.stages.specs.declared.state.Kind.TheVariants.{Nothing, Idle, Creating, Starting, Labelling, Writing, Beginning, Filling}
use Rattle.strips.specs.Seen.{shard_bytes, shown_byte, shard_shown}
use Rattle.strips.specs.Answers.{part_of, few_lost, shard_answer, shown_answer}
use Rattle.blocks.specs.Slots.{too_few, there}
use Rattle.blocks.specs.Counted.{few_lost_lem}
use Rattle.blocks.specs.Answers.{serves, look_answer, sizes, block_answer, look_done, first_done, answered_done, splits_of, half_le}

-- ---- the write under way

abbrev pub is_writing : Kind → Bool
is_writing Nothing = false
is_writing Idle = false
is_writing Creating = false
is_writing Starting = false
is_writing Labelling = false
is_writing Writing = true
is_writing Beginning = false
is_writing Filling = false

-- the stage of a write at which its strips are being written: its log is flushed
abbrev pub stored : ℕ
stored = 2

-- the slots whose shards of stripe t are taken from the work area: those of a write to this stripe whose log is flushed
unfoldable pub laid_by : Kind → ℕ → ℕ → ℕ → ℕ → ℕ
laid_by kind stage redo stripe t = cond (is_writing kind && (leb stored stage && eqb stripe t)) redo 0

abbrev pub laid_over : State → ℕ → ℕ
laid_over s t = laid_by s.kind s.cursor.stage s.marks.redo s.marks.stripe t

-- ---- the block that is shown

-- shard r of stripe t, byte by byte
unfoldable pub block_shown : Geometry → ℕ → List ℕ → ℕ → ℕ → List ℕ → ℕ → ℕ → List ℕ
block_shown g k img there over kept t r = listed (shard_bytes g) (shown_byte g k img there over kept t r)

-- the half of the work area that holds the stripe of the write under way
unfoldable pub half_of : Geometry → List ℕ → List ℕ
half_of g work = take (g.n * shard_bytes g) work

-- a block of a shelf with this label: block b is data shard b mod k of stripe b / k
unfoldable pub shown_of : Label → ℕ → ℕ → List ℕ → List ℕ → ℕ → List ℕ
shown_of l absent over img work block =
    block_shown (geometry_of l) l.k img (there (geometry_of l) l absent (block / l.k)) over (half_of (geometry_of l) work) (block / l.k) (block % l.k)

-- ---- what is answered

abbrev pub read_answer : Label → Kind → ℕ → ℕ → ℕ → ℕ → ℕ → Outcome
read_answer l kind absent block len bytes room = first (look_answer l kind len) (block_answer l absent true (serves kind) block bytes room)

-- and what it leaves of the buffer: a refusal changes nothing
abbrev pub after_read : Outcome → State → ℕ → List ℕ → List ℕ → List ℕ → List ℕ
after_read (Ok tt) s block img work buf = shown_of s.now s.absent (laid_over s (block / s.now.k)) img work block
after_read (Err why) s block img work buf = buf

-- ---- what the tests of a read that is not refused say

pub record Shows (l : Label) (absent : ℕ) (img work : List ℕ) (block : ℕ) (buf : List ℕ) : Type 0 where
  pub fits : fits_of l ≡ true
  pub image : fits_image (geometry_of l) (length img) ≡ true
  pub enough : too_few l absent ≡ false
  pub inside : block < blocks_of (geometry_of l) l.k
  pub whole : length work ≡ work_bytes (l.k + l.m) l.c
  pub sized : length buf ≡ l.c * sector_bytes

pub shows : (l : Label) (absent : ℕ) (idle sense : Bool) (img work : List ℕ) (block : ℕ) (buf : List ℕ) → fits_of l ≡ true → fits_image (geometry_of l) (length img) ≡ true
    → block_answer l absent idle sense block (length buf) (length work) ≡ Ok tt → Shows l absent img work block buf
unfolding block_answer sizes
shows l absent idle sense img work block buf f i e =
    let x : Bool = eqb (length work) (work_bytes (l.k + l.m) l.c) in
    let y : Bool = eqb (length buf) (l.c * sector_bytes) in
    let p = answered_done (too_few l absent) (ltb block (blocks_of (geometry_of l) l.k)) idle sense (x && y) e in
    record {
      fits = f;
      image = i;
      enough = p.enough;
      inside = ltb-true _ _ p.there_is;
      whole = eqb-true _ _ (and_left x y p.fit);
      sized = eqb-true _ _ (and_right x y p.fit);
    }

pub read_done : (l : Label) (kind : Kind) (absent block : ℕ) (img work buf : List ℕ) → read_answer l kind absent block (length img) (length buf) (length work) ≡ Ok tt
    → Shows l absent img work block buf
read_done l kind absent block img work buf e =
    let p = first_done (look_answer l kind (length img)) (block_answer l absent true (serves kind) block (length buf) (length work)) e in
    let q = look_done l kind (length img) p.0 in
    shows l absent true (serves kind) img work block buf q.0 q.1 p.1

-- ---- the sectors of a shard, one by one and all at once

listed_append : (a b : ℕ) (f : ℕ → ℕ) → listed (a + b) f ≡ listed a f ++ listed b (λ p. f (a + p))
unfolding listed
listed_append zero b f =
    let e : 0 + b ≡ b = omega arith in
    ap (λ (n : ℕ). listed n f) e ∙ sym (ap (λ (h : ℕ → ℕ). listed b h) (λ i p. f (zero-add p i)))
listed_append (suc a) b f =
    let e : suc a + b ≡ suc (a + b) = omega arith in
    ap (λ (n : ℕ). listed n f) e ∙ ap (λ (l : List ℕ). f 0 ∷ l) (listed_append a b (λ i. f (suc i)))
    ∙ ap (λ (h : ℕ → ℕ). listed (suc a) f ++ listed b h) (λ i p. f (sym (suc-add a p) i))

listed_none : (f : ℕ → ℕ) → listed (0 * sector_bytes) f ≡ []
unfolding listed
listed_none f = refl

-- a sector has its bytes
pub shown_length : (g : Geometry) (k : ℕ) (img : List ℕ) (there over : ℕ) (kept : List ℕ) (t j r : ℕ) → length (shard_shown g k img there over kept t j 1 r) ≡ sector_bytes
unfolding shard_shown
shown_length g k img there over kept t j r = listed_length sector_bytes (λ p. shown_byte g k img there over kept t r (j * sector_bytes + p))

-- the sectors one behind the other are the shard
pub sectors_shown : (g : Geometry) (k : ℕ) (img : List ℕ) (there over : ℕ) (kept : List ℕ) (t r : ℕ)
    → in_row g.c (λ j. shard_shown g k img there over kept t j 1 r) ≡ block_shown g k img there over kept t r
unfolding shard_shown block_shown
sectors_shown g k img there over kept t r = go g.c
  where
    f : ℕ → ℕ
    f = shown_byte g k img there over kept t r

    go : (n : ℕ) → in_row n (λ j. listed (1 * sector_bytes) (λ p. f (j * sector_bytes + p))) ≡ listed (n * sector_bytes) f
    go zero = sym (listed_none f)
    go (suc n) =
        let e : n * sector_bytes + sector_bytes ≡ suc n * sector_bytes = omega arith in
        ap (λ (l : List ℕ). l ++ listed sector_bytes (λ p. f (n * sector_bytes + p))) (go n)
        ∙ sym (listed_append (n * sector_bytes) sector_bytes f)
        ∙ ap (λ (m : ℕ). listed m f) e

-- all at once
pub whole_shown : (g : Geometry) (k : ℕ) (img : List ℕ) (there over : ℕ) (kept : List ℕ) (t r : ℕ)
    → shard_shown g k img there over kept t 0 g.c r ≡ block_shown g k img there over kept t r
unfolding shard_shown block_shown
whole_shown g k img there over kept t r =
    ap (λ (h : ℕ → ℕ). listed (shard_bytes g) h) (λ i p. shown_byte g k img there over kept t r (zero-add p i))

-- what `show_block` needs of what it is given
pub record Showing (g : Geometry) (k : ℕ) (img : List ℕ) (there : ℕ) (kept : List ℕ) (t r : ℕ) : Type 0 where
  pub image : fits_image g (length img) ≡ true
  pub split : splits g.n k ≡ true
  pub stripe : t < stripes_of g
  pub few : few_lost g.n k t there ≡ true
  pub shard : r < g.n
  pub keeps : length kept ≡ g.n * shard_bytes g

-- then no sector is refused
pub sector_goes : (g : Geometry) (k : ℕ) (img : List ℕ) (there : ℕ) (kept : List ℕ) (t r : ℕ) → Showing g k img there kept t r
    → (j a b : ℕ) → j < g.c → a ≡ g.n * sector_bytes → b ≡ sector_bytes → shown_answer g k (length img) t r j 1 there (length kept) a b ≡ Ok tt
unfolding shown_answer part_of
sector_goes g k img there kept t r h j a b hj ha hb =
    simp (
      h.image,
      h.split,
      lt-ltb t (stripes_of g) h.stripe,
      le-leb (j + 1) g.c (omega arith),
      lt-ltb r g.n h.shard,
      h.few,
      eq-eqb (length kept) (g.n * shard_bytes g) h.keeps,
      eq-eqb a (g.n * (1 * sector_bytes)) ha,
      eq-eqb b (1 * sector_bytes) hb,
    )

-- nor the shard, where it is taken as it lies
pub fetch_goes : (g : Geometry) (k : ℕ) (img : List ℕ) (there : ℕ) (kept : List ℕ) (t r : ℕ) → Showing g k img there kept t r
    → (b : ℕ) → b ≡ shard_bytes g → shard_answer g (length img) t r (length kept) b ≡ Ok tt
unfolding shard_answer part_of
fetch_goes g k img there kept t r h b hb =
    simp (
      h.image,
      lt-ltb t (stripes_of g) h.stripe,
      le-leb 1 g.c (fits_image_lem g img h.image).0.some,
      le-leb (0 + g.c) g.c (omega arith),
      lt-ltb r g.n h.shard,
      eq-eqb (length kept) (g.n * shard_bytes g) h.keeps,
      eq-eqb b (shard_bytes g) hb,
    )

-- so what a read that is not refused needs is there
pub shows_block : (l : Label) (absent : ℕ) (img work : List ℕ) (block : ℕ) (buf : List ℕ) → Shows l absent img work block buf
    → Showing (geometry_of l) l.k img (there (geometry_of l) l absent (block / l.k)) (half_of (geometry_of l) work) (block / l.k) (block % l.k)
unfolding half_of
shows_block l absent img work block buf h =
    let f = fits_says l h.fits in
    let b = block_inside (geometry_of l) l.k block (omega (arith, f.split.least)) h.inside in
    record {
      image = h.image;
      split = splits_of l h.fits;
      stripe = b.0;
      few = few_lost_lem l absent (block / l.k) f b.0 h.enough;
      shard = omega (arith, b.1);
      keeps = length-take-le ((l.k + l.m) * (l.c * sector_bytes)) work (half_le l (length work) h.fits h.whole);
    }

-- the same with the geometry and the slots that were found
module _ (l : Label) (absent over : ℕ) (img work : List ℕ) (block : ℕ) (g : Geometry) (d : ℕ) (ge : g ≡ geometry_of l) (de : d ≡ there g l absent (block / l.k)) where
  pub shows_with : (buf : List ℕ) → Shows l absent img work block buf → Showing g l.k img d (take (g.n * shard_bytes g) work) (block / l.k) (block % l.k)
  unfolding half_of
  shows_with buf h =
      subst (λ (y : ℕ). Showing g l.k img y (take (g.n * shard_bytes g) work) (block / l.k) (block % l.k)) (sym de)
      (subst (λ (x : Geometry). Showing x l.k img (there x l absent (block / l.k)) (take (x.n * shard_bytes x) work) (block / l.k) (block % l.k)) (sym ge)
      (shows_block l absent img work block buf h))

  pub shown_with : block_shown g l.k img d over (take (g.n * shard_bytes g) work) (block / l.k) (block % l.k) ≡ shown_of l absent over img work block
  unfolding shown_of half_of
  shown_with =
      ap (λ (y : ℕ). block_shown g l.k img y over (take (g.n * shard_bytes g) work) (block / l.k) (block % l.k)) de
      ∙ ap (λ (x : Geometry). block_shown x l.k img (there x l absent (block / l.k)) over (take (x.n * shard_bytes x) work) (block / l.k) (block % l.k)) ge
