-- WHAT EVERY CHAIN OF CALLS KEEPS, in the words of the bytes, from an image of zeros on, whatever is called: create, start, take out, begin, rebuild on, write, repair and step, with power cuts and deaths of
-- the caller in between. No label on any disk lies, names another shelf or loses its shape; the state's own label is true, whatever a cut leaves, and so is the answer Done of a step; no step touches an absent
-- slot; what was accepted is carried out. For every shelf, where any two of the sets of slots that accepted start-ups and take-outs leave out from one moment of rest to the next leave a slot out in common (Since); for k > m nothing is asked
-- (`nothing_asked`). (Where they leave none, no start-up can tell what was written: the protocol's Limits.) What reads show meanwhile is in Serves. Assumes nothing.
use Rattle.std.specs.Prelude.{◌≡◌, refl, ℕ, zero, suc, ◌*◌, leb, length, replicate, Ok, Err}
use Rattle.std.proofs.Common.{arith, le-leb, eq-eqb}
use Rattle.std.proofs.Math.Path.{ap}
use Rattle.std.proofs.Math.Bool.{true, cond}
use mathlib.Core.List.{List}
use Rattle.std.proofs.Math.ListN.{length-replicate}
use Rattle.disk.specs.Limits.{least_k, most_k, least_m, most_m, sector_bytes}
use Rattle.disk.specs.Tests.{both}
use Rattle.disk.specs.Image.{fits_image}
use Rattle.disk.specs.Image as image
use Rattle.disk.specs.declared.refusal.Refusal.TheVariants.{BadImage, BadBuffer, NotNow}
use Rattle.disk.specs.Refusal.{Outcome}
use Rattle.label.specs.Bytes.{all_zero}
use Rattle.protocol.specs.World.{after}
use Rattle.codecs.proofs.Sector.{bytes_zeros}
use Rattle.codecs.specs.Shelf.{Shelf, slots, geometry, limits, few_data, few_parity}
use Rattle.stages.specs.declared.state.State.{State}
use Rattle.requests.specs.Begun.{work_bytes, begun}
use Rattle.requests.specs.Create.{shards_fit, shelf_fits, create_answer, created, create_of}
use Rattle.refine.specs.Disks.{Disks, image_fits, cur_of}
use Rattle.refine.specs.Hosts.{none, has, Time, at, held, HostChain}

-- ---- CHAINS OF CALLS, from an image of zeros on

module _ (z : Shelf) (first : List ℕ) (disks : Disks z first) (blank : all_zero first ≡ true) where
  -- what may happen before: chains from disks that hold zeros, with nothing in their caches and no state, to here
  abbrev pub ComesTo : Time → Type 1
  ComesTo = HostChain z (at (after (cur_of z first)) first none)

-- ---- THERE ARE SUCH CHAINS: the image of zeros is one to begin with, and create is accepted on it

all_zero_lem : (n : ℕ) → all_zero (replicate n 0) ≡ true
unfolding all_zero
all_zero_lem zero = refl
all_zero_lem (suc n) = all_zero_lem n

module _ (z : Shelf) where
  abbrev pub new_image : List ℕ
  new_image = replicate (slots z * z.sectors * sector_bytes) 0

  pub new_disks : Disks z new_image × (all_zero new_image ≡ true)
  unfolding image.Shape
  new_disks = (record { shape = length-replicate (slots z * z.sectors * sector_bytes) 0; small = bytes_zeros (slots z * z.sectors * sector_bytes) }, all_zero_lem (slots z * z.sectors * sector_bytes))

  module _ (s : State) (work : List ℕ) (room : length work ≡ work_bytes (slots z) z.c) where
    pub create_goes : held none (create_of z.k z.m z.c z.sectors z.number new_image (length work)) work ≡ has (created z.k z.m z.c z.sectors z.number) work
    unfolding create_answer shelf_fits shards_fit
    create_goes =
        let some = (limits z).1 in
        let shards : shards_fit z.k z.m ≡ true =
        both (leb least_k z.k) _ (le-leb least_k z.k some.least) (both (leb z.k most_k) _ (le-leb z.k most_k (few_data z)) (both (leb least_m z.m) (leb z.m most_m) (le-leb least_m z.m (omega (arith, some.parity))) (le-leb z.m most_m (few_parity z)))) in
        let fits = both (shards_fit z.k z.m) (fits_image (geometry z) (length new_image)) shards (image_fits z new_image new_disks.0) in
        let yes : create_answer z.k z.m z.c z.sectors new_image (length work) ≡ (Ok tt) =
        λ i. cond (fits i) (cond (new_disks.1 i) (cond (eq-eqb (length work) (work_bytes (slots z) z.c) room i) (Ok tt) (Err BadBuffer)) (Err NotNow)) (Err BadImage) in
        ap (λ (o : Outcome). held none (begun o (created z.k z.m z.c z.sectors z.number)) work) yes
