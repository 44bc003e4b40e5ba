-- The strips of the lent image, as the protocol's program sees them, are those that what is shown of a stripe goes by; and a mask of the
-- slots that the label believes at a stripe is the protocol's belief. So what `views` says holds of the image. Assumes nothing.
use Rattle.std.specs.Prelude.{◌≡◌, Bool, true, false, List, ℕ, ◌<◌}
use Rattle.std.proofs.Common.{sym, ap, ◌∙◌}
use Rattle.disk.specs.Geometry.{stripes_of}
use Rattle.disk.specs.Mask.{in_mask}
use Rattle.protocol.specs.World.{strip}
use Rattle.protocol.specs.Host.{strips_of}
use Rattle.protocol.specs.Pairs.{no_sets}
use Rattle.codecs.specs.Sector.{Sector}
use Rattle.codecs.specs.Shelf.{Shelf, slots, geometry, size}
use Rattle.codecs.proofs.Records.{records}
use Rattle.shards.proofs.Even.{any_code}
use Rattle.views.specs.Seen.{Lying}
use Rattle.refine.specs.Places.{sector_of, strip_is_inside}
use Rattle.refine.specs.Disks.{Disks, seen_of}
use Rattle.refine.proofs.Disks.{cur_bytes, seen_present}

-- with the slots of A absent, of which none is in `there`
pub lying_seen : (z : Shelf) (img : List ℕ) → Disks z img → (A : ℕ → Bool) (t there : ℕ) → t < stripes_of (geometry z) → ((d : ℕ) → d < slots z → in_mask there d ≡ true → A d ≡ false)
    → Lying z t img there (strips_of (size z) (no_sets (slots z)) (records z) (any_code z) (seen_of z A img) t)
unfolding sector_of
lying_seen z img disks A t there ht dark d j hd hj e =
    sym (ap (λ (x : Sector). x.bytes) (seen_present z A img (strip d t j) (dark d hd e)) ∙ cur_bytes z img disks (strip d t j) (strip_is_inside z d t j hd ht hj))
