-- The strips of the lent image, as the protocol's program sees them, are those that what is shown of a stripe goes by; and a mask of the
-- slots that the label believes at a stripe is the protocol's belief. So what `views` says holds of the image. Assumes nothing.
use Rattle.std.specs.Prelude.{◌≡◌, ℕ, ◌<◌}
use Rattle.std.proofs.Common.{sym, ◌∙◌}
use Rattle.disk.specs.Mask.{in_mask, mask_of, mask_below}
use Rattle.label.specs.declared.fields.Label as bytes
use Rattle.redo.specs.Decide.{believed}
use Rattle.protocol.specs.Label as Label
use Rattle.codecs.specs.Shelf.{Shelf, slots, geometry, size}
use Rattle.codecs.specs.Labels.{label_of}
use Rattle.refine.specs.Redo.{believe_is}

-- the slots that a label believes at stripe t
pub mask_believed : (z : Shelf) (l : bytes.Label) (t d : ℕ) → d < slots z
    → in_mask (mask_of (λ d. believed (geometry z) l d t) (slots z)) d ≡ Label.believed (size z) (label_of z l) d t
mask_believed z l t d h = mask_below (λ d. believed (geometry z) l d t) (slots z) d h ∙ sym (believe_is z l d t)
