-- A label of this shelf, told to a slot: its bytes are those that the protocol's label has there. Assumes nothing.
use Rattle.std.specs.Prelude.{◌≡◌, true, ℕ, ◌+◌}
use Rattle.std.proofs.Common.{sym}
use Rattle.label.specs.Fields.{geometry_of, fits_of}
use Rattle.label.specs.Bytes.{sealed}
use Rattle.label.specs.Newest.{same_shelf}
use Rattle.label.specs.declared.fields.Label.{Label}
use Rattle.label.proofs.Counts.{same_says}
use Rattle.codecs.specs.Shelf.{Shelf, geometry}
use Rattle.codecs.specs.Labels.{fields_of, no_label, label_of, ours}
use Rattle.codecs.proofs.Labels.{encode_label}
use Rattle.shelf.specs.Act.{named}
use Rattle.refine.specs.Told.{told_is}

-- a label of this shelf has its n, c and S
pub shelf_geometry : (z : Shelf) (l : Label) → ours z l ≡ true → geometry_of l ≡ geometry z
shelf_geometry z l e =
    let t = same_says (fields_of z 0 (no_label z)) l e in
    sym (λ i. record { n = t.same_k i + t.same_m i; c = t.same_c i; sectors = t.same_sectors i })

pub sealed_is : (z : Shelf) (l : Label) → ours z l ≡ true → (d : ℕ) → fits_of (named l d) ≡ true → sealed (named l d) ≡ (encode_label z d (label_of z l)).bytes
unfolding same_shelf
sealed_is z l e d fit = sym (told_is z (named l d) e fit)
