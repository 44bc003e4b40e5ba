-- THE STRIPE AS A STATE SEES IT: the slots whose strip is believed and which are not absent. At rest no absent slot is believed, so
-- these are the protocol's believed ones, and what is read or prepared goes by the strips that its program sees. Assumes nothing.
use Rattle.std.specs.Prelude.{◌≡◌, List, ℕ, ◌<◌}
use Rattle.std.proofs.Common.{◌∙◌}
use Rattle.std.proofs.Math.Bool.{true}
use Rattle.disk.specs.Geometry.{stripes_of}
use Rattle.disk.specs.Mask.{in_mask}
use Rattle.label.specs.declared.fields.Label as bytes
use Rattle.protocol.specs.Host.{strips_of}
use Rattle.protocol.specs.Program.{beyond}
use Rattle.protocol.specs.Pairs.{no_sets}
use Rattle.codecs.specs.Shelf.{Shelf, slots, geometry, size}
use Rattle.codecs.specs.Labels.{ours}
use Rattle.codecs.proofs.Records.{records}
use Rattle.shards.proofs.Even.{any_code}
use Rattle.views.specs.Seen.{Lying}
use Rattle.refine.specs.Disks.{Disks, seen_of}
use Rattle.refine.specs.Rounds.{beyond_below}
use Rattle.refine.proofs.Strips.{lying_seen}
use Rattle.refine.specs.Sees.{seen_slots, there_present}

-- ---- the slots that are there

module _ (z : Shelf) (l : bytes.Label) (own : ours z l ≡ true) (absent t : ℕ) where
  -- their strips are those that the protocol's program sees
  pub there_lying : (img : List ℕ) → Disks z img → t < stripes_of (geometry z)
      → Lying z t img (seen_slots z l own absent t) (strips_of (size z) (no_sets (slots z)) (records z) (any_code z) (seen_of z (beyond (slots z) (in_mask absent)) img) t)
  there_lying img disks i =
      lying_seen z img disks (beyond (slots z) (in_mask absent)) t (seen_slots z l own absent t) i (λ d h e. beyond_below (slots z) absent d h ∙ (there_present z l own absent t) d h e)
