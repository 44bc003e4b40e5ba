-- EVERY BLOCK CAN BE READ. Along every chain of calls from an image of zeros on, whatever was cut, taken out or exchanged on it, a read at rest of any block of the shelf, with a block's buffer and the chain's
-- work area, is answered Done: at most m slots are out or absent, and the state's label is in range. With Serves: at rest every block reads as its entry of the host's list. And a write of
-- any block is accepted where each present disk holds the state's label. What is asked is what Promise asks. Assumes nothing.
use Rattle.std.specs.Prelude.{◌≡◌, not, ◌&&◌, ◌||◌, List, length, Ok, Err}
use Rattle.std.proofs.Math.Path.{refl, ap, ap₂}
use Rattle.std.proofs.Common.{sym, ◌∙◌, arith}
use Rattle.std.proofs.Math.Bool.{Bool, true, false, cond}
use Prim.Native.Nat.{ℕ, ◌+◌, ◌*◌, ◌<◌}
use Rattle.std.proofs.Math.Dec.{eqb, ltb}
use Rattle.std.specs.Int.Count.{ones}
use borrow.Author.Tests.{lt-ltb, le-ltb, eq-eqb}
use Rattle.disk.specs.Limits.{sector_bytes}
use Rattle.disk.specs.Mask.{in_mask, mask_of, mask_lt, mask_below, count_is}
use Rattle.disk.specs.Tests.{both}
use Rattle.disk.specs.Geometry.{blocks_of}
use Rattle.disk.specs.Image.{fits_image}
use Rattle.disk.specs.declared.geometry.Geometry.{Geometry}
use Rattle.disk.specs.declared.refusal.Refusal.TheVariants.{BadImage, TooFew, BadBlock, Busy, NotNow, BadBuffer}
use Rattle.label.specs.Fields.{geometry_of, fits_of}
use Rattle.label.proofs.Counts.{same_says}
use Rattle.label.specs.declared.fields.Label as bytes
use Rattle.protocol.specs.Machine.{View}
use Rattle.protocol.specs.Count.{count, count_part}
use Rattle.codecs.specs.Sector.{Sector}
use Rattle.codecs.specs.Shelf.{Shelf, slots, geometry}
use Rattle.codecs.specs.Labels.{fields_of, no_label, ours}
use Rattle.shards.specs.Quorum.{few_of, tally_count}
use Rattle.shards.proofs.Quorum.{few_count}
use Rattle.stages.specs.declared.state.Kind.{Kind}
use Rattle.stages.specs.declared.state.Kind.TheVariants.{Idle}
use Rattle.requests.specs.Begun.{work_bytes, first}
use Rattle.requests.specs.Ready.{is_nothing, is_idle, has_shelf}
use Rattle.blocks.specs.Slots.{missing_at, missing, too_few}
use Rattle.blocks.specs.Answers.{serves, look_answer, answered, sizes, block_answer}
use Rattle.blocks.specs.Read.{read_answer}
use Rattle.refine.specs.Family.{Family}
use Rattle.refine.specs.Disks.{Disks, image_fits}
use Rattle.refine.specs.Given.{shelf_geometry}
use Rattle.refine.specs.Steps.{Fair}
use Rattle.refine.specs.Hosts.{Held, none, has, Time, at}

-- ---- THE STATE'S LABELS ARE IN RANGE, the one that holds and the one that the request under way is to settle

abbrev pub InRange : Held → Type 0
InRange none = Unit {0}
InRange (has s work) = (fits_of s.now ≡ true) × (fits_of s.next ≡ true)

abbrev pub InRangeAt : Time → Type 0
InRangeAt (at w img h) = InRange h

-- a request under way can be carried out
abbrev Orderly : Shelf → List ℕ → Held → Type 0
Orderly z img none = Unit {0}
Orderly z img (has s work) = is_idle s.kind ≡ false → Fair z s work img

-- for some family and view
abbrev pub Fairly : Shelf → Time → Type 0
Fairly z (at w img h) = Family z × View Sector × Orderly z img h

-- a label of this shelf that is in range
module _ (z : Shelf) (l : bytes.Label) (own : ours z l ≡ true) (fit : fits_of l ≡ true) (absent : ℕ) where
  pub n_is : l.k + l.m ≡ slots z
  n_is = ap (λ (g : Geometry). g.n) (shelf_geometry z l own)

  -- at most m slots are out, and every absent one is: no more are missing
  pub enough : few_of z (in_mask l.out) ≡ true → ((d : ℕ) → d < slots z → in_mask absent d ≡ true → in_mask l.out d ≡ true) → too_few l absent ≡ false
  unfolding too_few missing missing_at
  enough few gone =
      let n : ℕ = l.k + l.m in
      let p : ℕ → Bool = λ d. in_mask l.out d || in_mask absent d in
      let a = count_is n (mask_of p n) (mask_lt p n) in
      let b = tally_count (in_mask (mask_of p n)) n in
      let part = count_part (in_mask (mask_of p n)) (in_mask l.out) n (λ d i e. by d (omega (arith, n_is)) (in_mask l.out d) refl (sym (mask_below p n d i) ∙ e)) in
      let same : count (in_mask l.out) n ≡ count (in_mask l.out) (slots z) = ap (count (in_mask l.out)) n_is in
      le-ltb l.m (ones (mask_of p n)) (omega (arith, a, b, part, same, few_count z (in_mask l.out) few, (same_says (fields_of z 0 (no_label z)) l own).same_m))
    where
      by : (d : ℕ) → d < slots z → (x : Bool) → in_mask l.out d ≡ x → (x || in_mask absent d) ≡ true → in_mask l.out d ≡ true
      by d i true q e = q
      by d i false q e = gone d i e

  module _ (few : too_few l absent ≡ false) (b : ℕ) (buf work : List ℕ) (inner : b < blocks_of (geometry z) z.k) (whole : length buf ≡ z.c * sector_bytes) (room : length work ≡ work_bytes (slots z) z.c) where
    -- a block of the shelf, with a block's buffer and the work area
    pub block_goes : (idle sense : Bool) → idle ≡ true → sense ≡ true → block_answer l absent idle sense b (length buf) (length work) ≡ Ok tt
    unfolding block_answer answered sizes
    block_goes idle sense p q =
        let s = same_says (fields_of z 0 (no_label z)) l own in
        let there : ltb b (blocks_of (geometry_of l) l.k) ≡ true = ap₂ (λ (g : Geometry) (k : ℕ). ltb b (blocks_of g k)) (shelf_geometry z l own) (sym s.same_k) ∙ lt-ltb b (blocks_of (geometry z) z.k) inner in
        let sized : (eqb (length work) (work_bytes (l.k + l.m) l.c) && eqb (length buf) (l.c * sector_bytes)) ≡ true =
        both (eqb (length work) (work_bytes (l.k + l.m) l.c)) (eqb (length buf) (l.c * sector_bytes)) (eq-eqb (length work) _ (room ∙ ap₂ work_bytes (sym n_is) s.same_c))
        (eq-eqb (length buf) _ (whole ∙ ap (λ (c : ℕ). c * sector_bytes) s.same_c)) in
        λ i. cond (few i) (Err TooFew) (cond (there i) (cond (p i) (cond (q i) (cond (sized i) (Ok tt) (Err BadBuffer)) (Err NotNow)) (Err Busy)) (Err BadBlock))

    -- is read at rest
    pub read_goes : (kind : Kind) → kind ≡ Idle → (img : List ℕ) → Disks z img → read_answer l kind absent b (length img) (length buf) (length work) ≡ Ok tt
    unfolding look_answer has_shelf
    read_goes kind e img disks =
        let fits : fits_image (geometry_of l) (length img) ≡ true = ap (λ (g : Geometry). fits_image g (length img)) (shelf_geometry z l own) ∙ image_fits z img disks in
        let look : look_answer l kind (length img) ≡ (Ok tt) = λ i. cond (not (is_nothing (e i)) && fit i) (cond (fits i) (Ok tt) (Err BadImage)) (Err NotNow) in
        ap₂ first look (block_goes true (serves kind) refl (ap serves e))
