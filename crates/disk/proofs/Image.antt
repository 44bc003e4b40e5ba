-- The lent image: sector s of slot d begins at (d * S + s) * 512. Reading a sector, putting one, and the laws that later
-- proofs live on: after a put that sector is the new one; every other sector of every slot, the length, and every byte
-- outside the 512 are as before. They hold for every n and S. Assumes nothing.
use Rattle.std.specs.Prelude.{◌≡◌, ◌⊎◌, true, get_or}
use Rattle.std.proofs.Common.{sym, ◌∙◌, ⊎_elim, arith, length-drop, length-take-le, drop_at}
use Rattle.std.proofs.Math.Path.{ap}
use Rattle.std.proofs.Math.Logic.{inl, inr}
use mathlib.Core.List.{List, ◌++◌, append_assoc}
use Prim.Native.Nat.{ℕ, ◌+◌, ◌*◌, ◌≤◌, ◌<◌, ◌/◌, ◌%◌}
use Rattle.std.proofs.Math.Arith.{digits_lt, digits_div, digits_mod}
use Rattle.std.proofs.Math.ListN.{length, take, drop}
use Rattle.std.proofs.Math.Seq.{paste, length-paste, take_at, take_all}
use Rattle.disk.specs.Limits.{sector_bytes}
use Rattle.disk.specs.Image.{place, sector, put_sector, Shape, fits_image, on_shelf, fits_image_lem, on_shelf_lem, lt_or_ge, get_or_paste_other, part_ext}
use Rattle.disk.specs.declared.geometry.Geometry.{Geometry}

-- a sector in range lies within the image
pub place_fits : (n S d s : ℕ) → d < n → s < S → place S d s + sector_bytes ≤ n * S * sector_bytes
place_fits n S d s hd hs = let h : d * S + s < n * S = digits_lt hd hs in omega arith

pub sector_fits : (g : Geometry) (img : List ℕ) (d s : ℕ) → fits_image g (length img) ≡ true → on_shelf g d s ≡ true
    → place g.sectors d s + sector_bytes ≤ length img
unfolding Shape
sector_fits g img d s e f =
    let h = on_shelf_lem g d s f in
    omega (arith, (fits_image_lem g img e).1, place_fits g.n g.sectors d s h.0 h.1)

-- ---- sectors

-- two sectors in range that are not the same do not overlap: one ends before the other begins
pub apart : (S d s e u : ℕ) → s < S → u < S → ((d ≡ e) × (s ≡ u) → ⊥)
    → (place S d s + sector_bytes ≤ place S e u) ⊎ (place S e u + sector_bytes ≤ place S d s)
apart S d s e u hs hu ne =
    ⊎_elim (λ (l : d * S + s < e * S + u). inl (omega arith))
    (λ (g : e * S + u ≤ d * S + s).
    ⊎_elim (λ (l : e * S + u < d * S + s). inr (omega arith))
    (λ (q : d * S + s ≤ e * S + u).
    let eq : d * S + s ≡ e * S + u = omega arith in
    absurd (ne (sym (digits_div d hs) ∙ ap (λ (x : ℕ). x / S) eq ∙ digits_div e hu, sym (digits_mod d hs) ∙ ap (λ (x : ℕ). x % S) eq ∙ digits_mod e hu)))
    (lt_or_ge (e * S + u) (d * S + s)))
    (lt_or_ge (d * S + s) (e * S + u))

module _ (n S : ℕ) (img v : List ℕ) (sh : Shape n S img) (hv : length v ≡ sector_bytes) (d s : ℕ) (hd : d < n) (hs : s < S) where
  fits : place S d s + sector_bytes ≤ length img
  unfolding Shape
  fits = omega (arith, place_fits n S d s hd hs)

  pub length_put : length (put_sector S img d s v) ≡ length img
  unfolding put_sector
  length_put = length-paste img (place S d s) v sector_bytes fits (omega arith)

  pub shape_put : Shape n S (put_sector S img d s v)
  unfolding Shape
  shape_put = length_put ∙ sh

  pub sector_put : sector S (put_sector S img d s v) d s ≡ v
  unfolding sector put_sector
  sector_put =
      let at : ℕ = place S d s in
      ap (λ (x : List ℕ). take sector_bytes (drop at x)) (append_assoc (take at img) (take sector_bytes v) (drop (at + sector_bytes) img))
      ∙ ap (take sector_bytes) (drop_at (take at img) (take sector_bytes v ++ drop (at + sector_bytes) img) at (length-take-le at img (omega (arith, fits))))
      ∙ take_at (take sector_bytes v) (drop (at + sector_bytes) img) sector_bytes (length-take-le sector_bytes v (omega arith))
      ∙ take_all sector_bytes v (omega arith)

  pub sector_put_other : (e u : ℕ) → e < n → u < S → ((e ≡ d) × (u ≡ s) → ⊥) → sector S (put_sector S img d s v) e u ≡ sector S img e u
  unfolding sector put_sector Shape
  sector_put_other e u he hu ne =
      let at : ℕ = place S d s in
      let k : ℕ = place S e u in
      let f : k + sector_bytes ≤ length img = omega (arith, place_fits n S e u he hu) in
      part_ext (paste img at v sector_bytes) img k sector_bytes (omega (arith, length-paste img at v sector_bytes fits (omega arith))) f
      (λ i l. get_or_paste_other img at v sector_bytes fits (omega arith) (k + i)
      (⊎_elim (λ (b : k + sector_bytes ≤ at). inl (omega arith)) (λ (a : at + sector_bytes ≤ k). inr (omega arith)) (apart S e u d s hu hs ne)))

  -- no byte outside the sector changes
  pub byte_put_other : (i : ℕ) → (i < place S d s) ⊎ (place S d s + sector_bytes ≤ i) → get_or (put_sector S img d s v) i 0 ≡ get_or img i 0
  unfolding put_sector
  byte_put_other i h = get_or_paste_other img (place S d s) v sector_bytes fits (omega arith) i h

-- a sector in range has 512 bytes
pub length_sector : (n S : ℕ) (img : List ℕ) → Shape n S img → (d s : ℕ) → d < n → s < S → length (sector S img d s) ≡ sector_bytes
unfolding sector Shape
length_sector n S img sh d s hd hs =
    length-take-le sector_bytes (drop (place S d s) img) (omega (arith, length-drop (place S d s) img, place_fits n S d s hd hs))
