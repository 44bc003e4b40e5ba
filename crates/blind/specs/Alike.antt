-- TWO IMAGES ARE ALIKE, with these slots absent: they have one length, and every sector of every slot that is not absent is the same on
-- both. What the absent slots hold is not asked. Assumes nothing.
use Rattle.std.specs.Prelude.{◌≡◌, Bool, ◌&&◌, ℕ, ◌+◌, ◌*◌, ◌≤◌, ◌<◌, ◌/◌, ◌%◌, length, take, drop}
use Rattle.std.proofs.Math.Path.{refl, sym, ap}
use Rattle.std.proofs.Common.{subst, ◌∙◌, div-add-mod', div-lt_iff_lt-mul, mod-lt, arith, lit<}
use Rattle.std.proofs.Math.Bool.{true, false, cond}
use mathlib.Core.List.{List, []}
use Rattle.std.proofs.Math.ListN.{get_or}
use Rattle.std.proofs.Math.Seq.{get_or-take, get_or-drop, ext_get_or}
use Rattle.disk.specs.Limits.{sector_bytes}
use Rattle.disk.specs.Geometry.{stripes_of, strip_of, InRange}
use Rattle.disk.proofs.GeometryLaws.{strip_inside}
use Rattle.disk.specs.Mask.{in_mask, in_past}
use Rattle.disk.specs.Image.{place, sector, fits_image, on_shelf, read_of, Shape, fits_image_lem, on_shelf_lem}
use Rattle.disk.specs.declared.geometry.Geometry.{Geometry}
use Rattle.strips.specs.Seen.{shard_bytes}

pub record Alike (g : Geometry) (absent : ℕ) (a b : List ℕ) : Type 0 where
  pub lengths : length a ≡ length b
  pub sectors : (d s : ℕ) → d < g.n → s < g.sectors → in_mask absent d ≡ false → sector g.sectors a d s ≡ sector g.sectors b d s

-- no slot is in the empty mask
pub in_none : (d : ℕ) → in_mask 0 d ≡ false
in_none d = in_past 0 0 d (lit< tt) (omega arith)

-- with more slots absent less is asked
pub alike_under : (g : Geometry) (few many : ℕ) (a b : List ℕ) → ((d : ℕ) → in_mask many d ≡ false → in_mask few d ≡ false) → Alike g few a b → Alike g many a b
alike_under g few many a b e h = record { lengths = h.lengths; sectors = λ d s hd hs p. h.sectors d s hd hs (e d p) }

pub alike_back : (g : Geometry) (absent : ℕ) (a b : List ℕ) → Alike g absent a b → Alike g absent b a
alike_back g absent a b h = record { lengths = sym h.lengths; sectors = λ d s hd hs p. sym (h.sectors d s hd hs p) }

pub alike_through : (g : Geometry) (absent : ℕ) (a b c : List ℕ) → Alike g absent a b → Alike g absent b c → Alike g absent a c
alike_through g absent a b c h k = record { lengths = h.lengths ∙ k.lengths; sectors = λ d s hd hs p. h.sectors d s hd hs p ∙ k.sectors d s hd hs p }

module _ (g : Geometry) (absent : ℕ) (a b : List ℕ) (h : Alike g absent a b) where
  pub fits_alike : fits_image g (length a) ≡ fits_image g (length b)
  fits_alike = ap (fits_image g) h.lengths

  -- a read of a present slot gives the same
  pub read_alike : (d s : ℕ) → in_mask absent d ≡ false → read_of g a d s ≡ read_of g b d s
  unfolding read_of
  read_alike d s e =
      ap (λ (f : Bool). cond (f && on_shelf g d s) (sector g.sectors a d s) []) fits_alike ∙ by (fits_image g (length b)) (on_shelf g d s) refl
    where
      by : (f o : Bool) → on_shelf g d s ≡ o → cond (f && o) (sector g.sectors a d s) [] ≡ cond (f && o) (sector g.sectors b d s) []
      by true true q = let l = on_shelf_lem g d s q in h.sectors d s l.0 l.1 e
      by true false q = refl
      by false o q = refl

  -- byte by byte
  byte_alike : (d s p : ℕ) → d < g.n → s < g.sectors → p < sector_bytes → in_mask absent d ≡ false
      → get_or a (place g.sectors d s + p) 0 ≡ get_or b (place g.sectors d s + p) 0
  unfolding sector
  byte_alike d s p hd hs hp e = sym (at a) ∙ ap (λ (v : List ℕ). get_or v p 0) (h.sectors d s hd hs e) ∙ at b
    where
      at : (x : List ℕ) → get_or (take sector_bytes (drop (place g.sectors d s) x)) p 0 ≡ get_or x (place g.sectors d s + p) 0
      at x = get_or-take sector_bytes (drop (place g.sectors d s) x) p 0 hp ∙ get_or-drop (place g.sectors d s) x p 0

  -- the bytes of a present slot's strip
  pub strip_alike : InRange g → (t d q : ℕ) → t < stripes_of g → d < g.n → q < shard_bytes g → in_mask absent d ≡ false
      → get_or a (place g.sectors d (strip_of g t) + q) 0 ≡ get_or b (place g.sectors d (strip_of g t) + q) 0
  strip_alike r t d q ht hd hq e =
      let u : ℕ = strip_of g t + q / sector_bytes in
      let low : u < g.sectors = omega (arith, strip_inside g r t ht) in
      let at : place g.sectors d u + q % sector_bytes ≡ place g.sectors d (strip_of g t) + q = omega arith in
      subst (λ (i : ℕ). get_or a i 0 ≡ get_or b i 0) at (byte_alike d u (q % sector_bytes) hd low (omega arith) e)

  -- with no slot absent the images are the same
  pub alike_same : fits_image g (length a) ≡ true → ((d : ℕ) → in_mask absent d ≡ false) → a ≡ b
  unfolding Shape
  alike_same f none = ext_get_or 0 a b h.lengths (λ i l. at i (omega (arith, (fits_image_lem g a f).1)))
    where
      range : InRange g
      range = (fits_image_lem g a f).0

      some : 1 ≤ g.sectors
      some = omega (arith, range.room)

      at : (i : ℕ) → i < g.n * g.sectors * sector_bytes → get_or a i 0 ≡ get_or b i 0
      at i l =
          let u : ℕ = i / sector_bytes in
          let hu : u < g.n * g.sectors = omega arith in
          let d : ℕ = u / g.sectors in
          let s : ℕ = u % g.sectors in
          let hd : d < g.n = (div-lt_iff_lt-mul {k = g.sectors} {x = u} {y = g.n} some).1 hu in
          let e : place g.sectors d s + i % sector_bytes ≡ i = omega (arith, div-add-mod' u g.sectors) in
          subst (λ (j : ℕ). get_or a j 0 ≡ get_or b j 0) e (byte_alike d s (i % sector_bytes) hd (mod-lt u some) (omega arith) (none d))
