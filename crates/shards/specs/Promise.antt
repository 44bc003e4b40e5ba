-- THE PROMISE AT REAL SECTORS: what the protocol promises of its program, with any labels, records and code, is so with document 03's
-- labels, the log records' bytes and document 01's code, on sectors of 512 bytes, for every shelf within the limits that has more data
-- disks than parity disks (k > m). No law of these is left to be assumed; what is assumed of the world stands in the protocol's
-- `Outside`. Not said here: that code that runs is this program, or computes these blocks and findings. Assumes nothing.
use Rattle.std.specs.Prelude.{◌≡◌, Bool, ◌⊎◌, ◌≢◌, List, ℕ, ◌<◌}
use Rattle.std.proofs.Common.{lit<}
use Rattle.protocol.specs.World.{Image, World, label, Sane, During}
use Rattle.protocol.specs.Label.{Label}
use Rattle.protocol.specs.Rebuild.{begun, beginning}
use Rattle.protocol.specs.Strangers.{Fate}
use Rattle.protocol.proofs.Strangers as Strangers
use Rattle.codecs.specs.Sector.{Sector}
use Rattle.codecs.specs.Shelf.{Shelf, slots, least}
use Rattle.codecs.proofs.Labels.{labels, strangers}
use Rattle.codecs.proofs.Records.{records}

-- A DISK OF ANOTHER SHELF, or of another slot, that begins to be rebuilt in slot d: for its old shelf it is as it was, or has no label
pub old_shelf : (z z' : Shelf) (d d' : ℕ) → (z.number ≢ z'.number) ⊎ (d ≢ d') → d < slots z → (f : Image Sector) (w : World Sector) → Sane w → ((b : Bool) → f (label d b) ≡ w.cur (label d b)) → (Q : Label) (ds : List ℕ) → (labels z).Fits Q → (labels z).Fits (begun Q d)
    → During w (beginning (records z) (labels z) f Q d ds) (Fate (labels z) (labels z') d d' w)
old_shelf z z' d d' apart i f w sane agree Q ds fits fit = Strangers.old_shelf (labels z) (labels z') d d' (strangers z z' d d' apart) f w sane agree (records z) Q ds i fits fit

-- there is such a shelf
pub enough : least.m < least.k
unfolding least
enough = lit< tt
