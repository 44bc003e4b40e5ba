-- THE PROMISE AT REAL SECTORS FOR EVERY SHELF within the limits, k <= m among them (2 + 2, 2 + 3, 3 + 3), if the world does what is then asked of it: any two of the sets of slots that
-- accepted start-ups and take-outs leave out from one moment of rest to the next, and of the set that the label calls out which is settled at the first, leave a slot out in common. The program's own
-- test is "at most m" throughout. For k > m it is the same program, and nothing is asked. Assumes nothing.
use Rattle.std.specs.Prelude.{◌≡◌, Bool, true, false, ℕ, ◌<◌, leb}
use Rattle.std.proofs.Math.Path.{refl}
use Rattle.std.proofs.lemmas.Bool.{false≢true}
use mathlib.Core.List.{List, Memᴰ}
use Rattle.std.proofs.Common.{arith, lit<}
use Rattle.disk.specs.Geometry.{slot_of, strip_length, in_range, splits, in_range_with}
use Rattle.protocol.specs.World.{Image, World, Sane, Always}
use Rattle.protocol.specs.Host.{Code, read, read_through, write_of, whole_change, repair_of, rebuilt}
use Rattle.protocol.specs.Count.{count_part}
use Rattle.protocol.specs.Program.{Medium, Memory, nothing, idle, doing, Input, create, start, read_block, write, take_out, begin, rebuild_on, scrub_stripe, repair, step, Reply, mask, change_made, left_out, flushed_first, told_to, program}
use Rattle.protocol.specs.Machine.{Machine, at, Event, View, sure, Views}
use Rattle.protocol.specs.Promise.{Zeros}
use Rattle.protocol.specs.Even.{program_by, RunsBy, left_by}
use Rattle.protocol.proofs.Even.{all_passed}
use Rattle.protocol.specs.Pairs.{Parts, AnyTwo, no_sets, Mends}
use Rattle.protocol.specs.Since as Since
use Rattle.protocol.proofs.Since as Since_laws
use Rattle.protocol.specs.Exchange.{Disks, Room, room, Strange}
use Rattle.protocol.specs.Pool.{BefellBy, sets_all}
use Rattle.protocol.specs.Pool as Pool
use Rattle.protocol.proofs.Pool as Pool_laws
use Rattle.codecs.specs.Sector.{Sector}
use Rattle.codecs.proofs.Sector.{zeros}
use Rattle.codecs.specs.Shelf.{Shelf, slots, size, some_slots}
use Rattle.codecs.proofs.Labels.{labels}
use Rattle.codecs.proofs.Records.{records}
use Rattle.codecs.specs.Media.{stamps}
use Rattle.codecs.proofs.Media.{medium}
use Rattle.shards.specs.Quorum.{few_of}
use Rattle.shards.proofs.Quorum.{few_count, count_few, few_none, quorum}
use Rattle.shards.specs.Strips.{shard_in, blocks_from, touched_in, scrub_of}
use Rattle.shards.proofs.Strips.{touched_inside, blocks_back, shard_equal, shard_kept, scrub_right, touched_broad, zeros_in}
use Rattle.shards.specs.Code.{mended_in, home}
use Rattle.shards.proofs.CodeLaws.{mended_right, accused_there, told, code}
use Rattle.shards.proofs.Promise.{sectors}

-- there are shelves with k <= m: two data disks and two for parity
unfoldable pub even : Shelf
unfolding in_range_with in_range strip_length splits
even = record { k = 2; m = 2; c = 1; sectors = 67; number = 0; range = refl; number_fits = lit< tt }

module _ (z : Shelf) where
  -- the code's functions, whatever k and m are; and what they mend
  abbrev pub any_code : Code Sector (slots z) z.c (no_sets (slots z))
  any_code =
      record {
        k = z.k;
        shard = shard_in z;
        blocks = blocks_from z;
        touched = touched_in z;
        touched_n = touched_inside z;
        back = λ t bad b g few. absurd (false≢true few);
        shard_same = shard_equal z;
        keeps = shard_kept z;
        scrub = scrub_of z;
        scrub_sound = scrub_right z;
        broad = λ t i h a few. absurd (false≢true few);
        lies = slot_of (slots z);
        mended = mended_in z;
        at_home = home z;
        mends = mended_right z;
        accuses_it = λ t d r b g h e. accused_there z t d b g h e r;
        sharp = leb 2 z.m;
        tells = λ two t d b g h e. told z t d b g h e two;
      }

  pub mends : Mends (few_of z) any_code
  mends = record { back = blocks_back z; broad = touched_broad z }

  unfoldable pub any_sectors : Medium (size z) (no_sets (slots z)) (labels z) (records z) any_code stamps
  any_sectors = medium z (no_sets (slots z)) any_code (λ t d j h l. zeros_in z t d j)

  pub few_parts : Parts (slots z) (few_of z)
  few_parts a b h e = count_few z a (omega (arith, count_part a b (slots z) h, few_count z b e))

  -- the shelf's program: its test is "at most m"
  abbrev pub shelf_program : Memory Sector → Image Sector → Input Sector → Memory Sector × Reply Sector
  shelf_program = program_by (size z) (no_sets (slots z)) (labels z) (records z) any_code stamps any_sectors (few_of z)

  abbrev pub ShelfRuns : Machine Sector → List (Event Sector) → Machine Sector → Type 1
  ShelfRuns = RunsBy (size z) (no_sets (slots z)) (labels z) (records z) any_code stamps any_sectors (few_of z)

  abbrev pub ShelfZeros : Image Sector → Type 0
  ShelfZeros = Zeros (size z) (no_sets (slots z)) (labels z) (records z) any_code stamps any_sectors

  -- the sets of slots that a run's accepted start-ups and take-outs leave out
  abbrev pub left : {a b : Machine Sector} {l : List (Event Sector)} → ShelfRuns a l b → List (ℕ → Bool)
  left r = left_by (size z) (no_sets (slots z)) (labels z) (records z) any_code stamps any_sectors (few_of z) r

  -- histories with exchanged disks; the sets that their accepted start-ups and take-outs leave out, and those of the slots that are absent or hold another disk than their last
  abbrev pub ShelfBefell : Room Sector → List (Event Sector) → Room Sector → Type 1
  ShelfBefell = BefellBy (size z) (labels z) (records z) any_code stamps any_sectors (few_of z)

  abbrev pub sets : {r r' : Room Sector} {l : List (Event Sector)} → ShelfBefell r l r' → List (ℕ → Bool)
  sets b = sets_all (size z) (labels z) (records z) any_code stamps any_sectors (few_of z) b

  -- any two of those that are left out from one moment of rest to the next, and of what the label calls out that is settled at the first, leave a slot out
  abbrev pub AnyTwoSince : {a b : Machine Sector} {l : List (Event Sector)} → ShelfRuns a l b → Type 0
  AnyTwoSince r = Since.AnyTwoSince (size z) (labels z) (records z) any_code stamps any_sectors (few_of z) mends r

  -- THE PROMISE, where it is so
  pub since_promised : (w : World Sector) → Sane w → Always w ShelfZeros → {a : Machine Sector} {l : List (Event Sector)} (r : ShelfRuns (at w nothing) l a) → AnyTwoSince r → (p : View Sector) × Views z.c (sure (λ t i j. zeros)) l p
  since_promised w sane h r two = Since_laws.since_promised (size z) (labels z) (records z) any_code stamps any_sectors (few_of z) mends few_parts (few_none z) (some_slots z) w sane h r two

  -- it is so where any two of all sets of the history leave a slot out,
  pub pairs_since : (w : World Sector) → Sane w → Always w ShelfZeros → {a : Machine Sector} {l : List (Event Sector)} (r : ShelfRuns (at w nothing) l a) → AnyTwo (slots z) (left r) → AnyTwoSince r
  pairs_since w sane h r two = Since_laws.pairs_since (size z) (labels z) (records z) any_code stamps any_sectors (few_of z) mends few_parts (few_none z) (some_slots z) w sane h r two

  -- so where one slot always takes part;
  pub slot_since : (v : ℕ) → v < slots z → (w : World Sector) → Sane w → Always w ShelfZeros → {a : Machine Sector} {l : List (Event Sector)} (r : ShelfRuns (at w nothing) l a) → ((s : ℕ → Bool) → Memᴰ s (left r) → s v ≡ false) → AnyTwoSince r
  slot_since v i w sane h r takes = pairs_since w sane h r (λ s t a b. (v, i, takes s a, takes t b))

  -- and for k > m: nothing is asked
  pub nothing_asked : z.m < z.k → (w : World Sector) → Sane w → Always w ShelfZeros → {a : Machine Sector} {l : List (Event Sector)} (r : ShelfRuns (at w nothing) l a) → AnyTwoSince r
  nothing_asked more w sane h r = pairs_since w sane h r (λ s t i j. (quorum z more).meet s t (passed s i) (passed t j))
    where
      passed : (s : ℕ → Bool) → Memᴰ s (left r) → few_of z s ≡ true
      passed = all_passed (size z) (no_sets (slots z)) (labels z) (records z) any_code stamps any_sectors (few_of z) r

  -- WITH EXCHANGED DISKS the same is asked, with one more set for an accepted start-up: the slots that are absent or hold another disk than their last. It does not count where every slot has its
  -- last disk, nor where start-up sees the newest label that there is on any disk.
  abbrev pub ExchangeSince : {r r' : Room Sector} {l : List (Event Sector)} → ShelfBefell r l r' → Type 0
  ExchangeSince b = Pool.ExchangeSince (size z) (labels z) (records z) any_code stamps any_sectors (few_of z) b

  pub exchange_promised : (w : World Sector) (x : Disks Sector) → Sane w → Always w ShelfZeros → x.made ≡ false → Strange (size z) (labels z) x → {r : Room Sector} {l : List (Event Sector)} (b : ShelfBefell (room w nothing x) l r) → ExchangeSince b → (p : View Sector) × Views z.c (sure (λ t i j. zeros)) l p
  exchange_promised w x sane h made strange b two = Pool_laws.exchange_since_promised (size z) (labels z) (records z) any_code stamps any_sectors (few_of z) mends few_parts (few_none z) (some_slots z) w x sane h made strange b two

  -- it is so where any two of all sets of the history leave a slot out; where one slot always takes part with its last disk, say
  pub exchange_pairs_since : (w : World Sector) (x : Disks Sector) → Sane w → Always w ShelfZeros → x.made ≡ false → Strange (size z) (labels z) x → {r : Room Sector} {l : List (Event Sector)} (b : ShelfBefell (room w nothing x) l r) → AnyTwo (slots z) (sets b) → ExchangeSince b
  exchange_pairs_since w x sane h made strange b two = Pool_laws.exchange_pairs_since (size z) (labels z) (records z) any_code stamps any_sectors (few_of z) mends few_parts (few_none z) (some_slots z) w x sane h made strange b two

  -- for k > m it is the program that Promise is about
  pub same_program : (more : z.m < z.k) (m : Memory Sector) (f : Image Sector) (i : Input Sector) → shelf_program m f i ≡ program (size z) (quorum z more) (labels z) (records z) (code z more) stamps (sectors z more) m f i
  unfolding program_by program mask left_out flushed_first told_to read read_through write_of change_made whole_change repair_of rebuilt sectors any_sectors medium
  same_program more nothing f create = refl
  same_program more nothing f (start A) = refl
  same_program more nothing f (read_block t i) = refl
  same_program more nothing f (write t ch) = refl
  same_program more nothing f (take_out d) = refl
  same_program more nothing f (begin d) = refl
  same_program more nothing f (rebuild_on b) = refl
  same_program more nothing f (scrub_stripe t) = refl
  same_program more nothing f (repair t) = refl
  same_program more nothing f step = refl
  same_program more (idle o) f create = refl
  same_program more (idle o) f (start A) = refl
  same_program more (idle o) f (read_block t i) = refl
  same_program more (idle o) f (write t ch) = refl
  same_program more (idle o) f (take_out d) = refl
  same_program more (idle o) f (begin d) = refl
  same_program more (idle o) f (rebuild_on b) = refl
  same_program more (idle o) f (scrub_stripe t) = refl
  same_program more (idle o) f (repair t) = refl
  same_program more (idle o) f step = refl
  same_program more (doing k l o o') f create = refl
  same_program more (doing k l o o') f (start A) = refl
  same_program more (doing k l o o') f (read_block t i) = refl
  same_program more (doing k l o o') f (write t ch) = refl
  same_program more (doing k l o o') f (take_out d) = refl
  same_program more (doing k l o o') f (begin d) = refl
  same_program more (doing k l o o') f (rebuild_on b) = refl
  same_program more (doing k l o o') f (scrub_stripe t) = refl
  same_program more (doing k l o o') f (repair t) = refl
  same_program more (doing k l o o') f step = refl
