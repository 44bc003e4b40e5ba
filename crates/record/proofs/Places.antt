-- Where a record's area lies, and what copies into parts of a sector leave. Assumes nothing.
use Rattle.std.specs.Prelude.{◌≡◌, refl, true, List, [], ◌++◌, ℕ, ◌+◌, ◌*◌, ◌-◌, ◌≤◌, ◌<◌, length, drop}
use Rattle.std.proofs.Common.{sym, ap, ap₂, ◌∙◌, arith, length-append, length-drop}
use Rattle.std.proofs.Math.Seq.{paste}
use borrow.Rule.Slice.PartMut.{put_mid}
use Rattle.disk.specs.Limits.{sector_bytes, first_log}
use Rattle.disk.specs.Image.{place, Shape, fits_image, fits_image_lem, back}
use Rattle.disk.specs.declared.geometry.Geometry.{Geometry}
use Rattle.disk.proofs.Image.{place_fits}
use Rattle.record.specs.Layout.{body, rest}
use Rattle.record.specs.Tail.{paste_seam}

-- the c + 1 sectors lie before the first strip, and so within the image
pub area_fits : (g : Geometry) (img : List ℕ) (d : ℕ) → fits_image g (length img) ≡ true → d < g.n
    → place g.sectors d first_log + (g.c + 1) * sector_bytes ≤ length img
unfolding Shape
area_fits g img d e h =
    let f = fits_image_lem g img e in
    omega (arith, f.1, place_fits g.n g.sectors d (first_log + g.c) h (omega (arith, f.0.room)))

-- a copy of ys into the part from `at` on
pub copied : (out ys new : List ℕ) (at e : ℕ) → new ≡ ys → e ≡ at + length ys → put_mid at (e - at) out new ≡ paste out at ys (length ys)
copied out ys new at e h q = ap (put_mid at (e - at) out) h ∙ back out ys at e (length ys) q refl

-- the first bytes, then the last
pub both_copied : (out y z first last : List ℕ) → first ≡ y → last ≡ z → length y ≡ body → length z ≡ rest → length out ≡ sector_bytes
    → put_mid body (length (first ++ drop body out) - body) (first ++ drop body out) last ≡ paste (paste out 0 y (length y)) body z (length z)
both_copied out y z first last p q ly lz lo =
    let n : ℕ = length (first ++ drop body out) in
    let s : first ++ drop body out ≡ paste out 0 y (length y) =
    ap₂ (λ (x : List ℕ) (k : ℕ). x ++ drop k out) p (sym ly) ∙ sym (paste_seam [] out y 0 (length y) refl refl) in
    copied (first ++ drop body out) z last body n q (omega (arith, length-append first (drop body out), ap length p, length-drop body out))
    ∙ ap (λ (x : List ℕ). paste x body z (length z)) s
