-- A record is complete with a stamp where each of its c + 1 sectors, read from the image, begins with that very stamp. A
-- write is whole where each slot that it changes, and that is believed, has such a record. Assumes nothing.
use Rattle.std.specs.Prelude.{◌≡◌, Bool, ◌||◌, ℕ, zero, suc, ◌+◌, ◌*◌, ◌≤◌, ◌<◌, leb, length, take, drop}
use Rattle.std.proofs.Math.Path.{refl, sym, ap}
use Rattle.std.proofs.Common.{◌∙◌, arith, length-drop, length-take-le}
use Rattle.std.proofs.Math.Bool.{true, false, not}
use mathlib.Core.List.{List}
use borrow.Author.Tests.{lt-ltb}
use Rattle.disk.specs.Limits.{least_n, most_n, sector_bytes, first_log}
use Rattle.disk.specs.Tests.{and_left, and_right, both}
use Rattle.disk.specs.Geometry.{in_range, strip_length}
use Rattle.disk.specs.Image.{place, Shape, fits_image, on_shelf, read_of, fits_image_lem}
use Rattle.disk.proofs.Image.{place_fits}
use Rattle.disk.specs.declared.geometry.Geometry.{Geometry}
use Rattle.label.specs.Newest.{all_of}
use Rattle.label.specs.declared.fields.Label.{Label}
use Rattle.label.proofs.Counts.{all_at}
use Rattle.record.specs.Stamp.{stamp_at, zero_stamp, same_stamp, same_true, same_refl}
use Rattle.record.specs.Log.{part, area_of, complete_of, area_part, complete_is, is_complete}
use Rattle.record.specs.declared.stamp.Stamp.{Stamp}
use Rattle.record.specs.declared.tail.Tail.{Tail}
use Rattle.redo.specs.Decide.{looked, believed, log_at, involved, complete_with, serves, whole_of}
use Rattle.redo.specs.Laws.{looked_below, believed_looked}

-- c of a geometry in range is a strip's
strip_fits : (g : Geometry) (len : ℕ) → fits_image g len ≡ true → strip_length g.c ≡ true
unfolding fits_image in_range
strip_fits g len e =
    and_left (strip_length g.c) _ (and_right (leb g.n most_n) _ (and_right (leb least_n g.n) _ (and_left (in_range g) _ e)))

-- of an image that is this shelf's, and one of its slots
module _ (g : Geometry) (img : List ℕ) (d : ℕ) (fits : fits_image g (length img) ≡ true) (below : d < g.n) where
  inside : place g.sectors d first_log + (g.c + 1) * sector_bytes ≤ length img
  unfolding Shape
  inside =
      let f = fits_image_lem g img fits in
      omega (arith, f.1, place_fits g.n g.sectors d (first_log + g.c) below (omega (arith, f.0.room)))

  area_is : area_of g img d ≡ take ((g.c + 1) * sector_bytes) (drop (place g.sectors d first_log) img)
  unfolding area_of
  area_is = rw (fits, lt-ltb d g.n below)

  pub length_area : length (area_of g img d) ≡ (g.c + 1) * sector_bytes
  length_area =
      ap length area_is
      ∙ length-take-le ((g.c + 1) * sector_bytes) (drop (place g.sectors d first_log) img) (omega (arith, inside, length-drop (place g.sectors d first_log) img))

  -- the sectors of the area are those of the record
  pub area_sector : (j : ℕ) → j ≤ g.c → part (area_of g img d) j ≡ log_at g img d j
  unfolding log_at read_of on_shelf
  area_sector j h =
      let f = fits_image_lem g img fits in
      ap (λ (x : List ℕ). part x j) area_is ∙ area_part g.sectors d g.c j img inside h
      ∙ sym (rw (fits, lt-ltb d g.n below, lt-ltb (first_log + j) g.sectors (omega (arith, f.0.room))))

  pub complete_stamps : (a : Stamp) → complete_with g img a d ≡ true → (j : ℕ) → j ≤ g.c → stamp_at (log_at g img d j) ≡ a
  unfolding complete_with
  complete_stamps a e j h =
      let t = same_true (stamp_at (log_at g img d g.c)) a (and_right (complete_of (area_of g img d) g.c) _ e) in
      let k = (complete_is (area_of g img d) g.c (and_left (complete_of (area_of g img d) g.c) _ e)).1 j h in
      ap stamp_at (sym (area_sector j h)) ∙ k ∙ ap stamp_at (area_sector g.c (omega arith)) ∙ t

  pub stamps_complete : (a : Stamp) → zero_stamp a ≡ false → ((j : ℕ) → j ≤ g.c → stamp_at (log_at g img d j) ≡ a) → complete_with g img a d ≡ true
  unfolding complete_with
  stamps_complete a z h =
      let at : (j : ℕ) → j ≤ g.c → stamp_at (part (area_of g img d) j) ≡ a = λ j k. ap stamp_at (area_sector j k) ∙ h j k in
      let last = at g.c (omega arith) in
      both (complete_of (area_of g img d) g.c) _
      (is_complete (area_of g img d) g.c (strip_fits g (length img) fits) length_area (ap zero_stamp last ∙ z) (λ j k. at j (omega arith) ∙ sym last))
      (ap (λ (b : Stamp). same_stamp b a) (h g.c (omega arith)) ∙ same_refl a)

-- ---- a write that is whole

all_is : (p : ℕ → Bool) (n : ℕ) → ((d : ℕ) → d < n → p d ≡ true) → all_of p n ≡ true
unfolding all_of
all_is p zero h = refl
all_is p (suc n) h = both (all_of p n) (p n) (all_is p n (λ d k. h d (omega arith))) (h n (omega arith))

module _ (g : Geometry) (img : List ℕ) (l : Label) (a : Stamp) (x : Tail) where
  -- a slot that the write changes is looked at
  pub involved_looked : (d : ℕ) → involved g l x d ≡ true → looked g l d ≡ true
  unfolding involved
  involved_looked d e = believed_looked g l d x.stripe (and_left (believed g l d x.stripe) _ e)

  pub whole_says : whole_of g img l a x ≡ true → (d : ℕ) → involved g l x d ≡ true → complete_with g img a d ≡ true
  unfolding whole_of serves
  whole_says e d i =
      sym (ap (λ (b : Bool). not b || complete_with g img a d) i)
      ∙ all_at (serves g img l a x) g.n e d (looked_below g l d (involved_looked d i))

  pub says_whole : ((d : ℕ) → involved g l x d ≡ true → complete_with g img a d ≡ true) → whole_of g img l a x ≡ true
  unfolding whole_of serves
  says_whole h = all_is (serves g img l a x) g.n (λ d k. by d (involved g l x d) refl)
    where
      by : (d : ℕ) (b : Bool) → involved g l x d ≡ b → (not b || complete_with g img a d) ≡ true
      by d true e = h d e
      by d false e = refl
