-- What start-up decides about the log, once the label l is settled. The greatest stamp among the tails decides; none:
-- nothing. Complete, with that stamp, on every slot that its write changes, as far as that is believed: forward.
-- Otherwise: kill. Said of the bytes of one image, and taken apart as the protocol's `redo` is; the protocol knows no
-- garbage among the tails, here it counts as none. Assumes nothing.
use Rattle.std.specs.Prelude.{Bool, ◌&&◌, ◌||◌, cond, not, List, ℕ, zero, suc, ◌+◌, ltb, eqb, length, Some, None}
use Rattle.disk.specs.Limits.{first_log}
use Rattle.disk.specs.Geometry.{stripes_of, shard_of}
use Rattle.disk.specs.Image.{fits_image, read_of}
use Rattle.disk.specs.Mask.{in_mask, mask_of}
use Rattle.disk.specs.declared.geometry.Geometry.{Geometry}
use Rattle.label.specs.Newest.{all_of}
use Rattle.label.specs.declared.fields.Label.{Label}
use Rattle.record.specs.Stamp.{stamp_at, zero_stamp, same_stamp, later_of}
use Rattle.record.specs.Tail.{tail_at, decode_of}
use Rattle.record.specs.Log.{area_of, complete_of}
use Rattle.record.specs.declared.stamp.Stamp.{Stamp}
use Rattle.record.specs.declared.tail.Tail.{Tail}
use Rattle.record.specs.Tail.{Found}
use Rattle.redo.specs.declared.Redo as declared
use Rattle.redo.specs.declared.Redo.TheVariants.{Nothing, Forward, Kill}

-- ---- slots

-- the label calls slot d out, and it is not the one being rebuilt
unfoldable pub plainly_out : Label → ℕ → Bool
plainly_out l d = in_mask l.out d && not (eqb d l.rebuilding)

-- slot d's tail is looked at
unfoldable pub looked : Geometry → Label → ℕ → Bool
looked g l d = ltb d g.n && not (plainly_out l d)

-- slot d's strip of stripe t is believed: all strips of a slot that is not out, those below the mark of the one being rebuilt
unfoldable pub believed : Geometry → Label → ℕ → ℕ → Bool
believed g l d t = looked g l d && (ltb t (stripes_of g) && (not (in_mask l.out d) || ltb t l.mark))

-- ---- the tail that decides

-- sector j of slot d's record; sector c is its tail
unfoldable pub log_at : Geometry → List ℕ → ℕ → ℕ → List ℕ
log_at g img d j = read_of g img d (first_log + j)

-- slot d's tail, where it is looked at and is no garbage
unfoldable pub tail_found : Geometry → List ℕ → Label → ℕ → Found
tail_found g img l d = cond (looked g l d) (decode_of (log_at g img d g.c) (stripes_of g) g.n l.generation) None

-- no write's stamp
abbrev pub no_stamp : Stamp
no_stamp = record { epoch = 0; count = 0 }

-- the stamp of what was found
abbrev pub stamp_found : Found → Stamp
stamp_found (Some x) = x.stamp
stamp_found None = no_stamp

unfoldable pub key_of : Geometry → List ℕ → Label → ℕ → Stamp
key_of g img l d = stamp_found (tail_found g img l d)

-- the slot below n whose key is greatest (the lowest of them)
unfoldable pub leader_of : (ℕ → Stamp) → ℕ → ℕ
leader_of key zero = 0
leader_of key (suc n) = cond (later_of (key n) (key (leader_of key n))) n (leader_of key n)

unfoldable pub lead_of : Geometry → List ℕ → Label → ℕ
lead_of g img l = leader_of (key_of g img l) g.n

-- ---- what it decides

-- slot d's shard is one that the write changes, and it is believed
unfoldable pub involved : Geometry → Label → Tail → ℕ → Bool
involved g l x d = believed g l d x.stripe && in_mask x.shards (shard_of g.n x.stripe d)

-- slot d's record is complete, with this stamp
unfoldable pub complete_with : Geometry → List ℕ → Stamp → ℕ → Bool
complete_with g img a d = complete_of (area_of g img d) g.c && same_stamp (stamp_at (log_at g img d g.c)) a

-- if the write changes slot d, its record is complete
unfoldable pub serves : Geometry → List ℕ → Label → Stamp → Tail → ℕ → Bool
serves g img l a x d = not (involved g l x d) || complete_with g img a d

unfoldable pub whole_of : Geometry → List ℕ → Label → Stamp → Tail → Bool
whole_of g img l a x = all_of (serves g img l a x) g.n

-- slot d's tail, garbage or not, has this stamp: it is to be wiped
unfoldable pub marked : Geometry → List ℕ → Label → Stamp → ℕ → Bool
marked g img l a d = looked g l d && same_stamp (stamp_at (log_at g img d g.c)) a

-- forward: the stripe, and the slots whose strips are written from their records; kill: the slots whose tails are wiped
unfoldable pub settled : Geometry → List ℕ → Label → Stamp → Tail → declared.Redo
settled g img l a x =
    cond (whole_of g img l a x) (Forward x.stripe (mask_of (involved g l x) g.n)) (Kill (mask_of (marked g img l a) g.n))

-- by the leader's key and tail
unfoldable pub decided : Geometry → List ℕ → Label → ℕ → declared.Redo
decided g img l d = cond (zero_stamp (key_of g img l d)) Nothing (settled g img l (key_of g img l d) (tail_at (log_at g img d g.c)))

unfoldable pub redo_of : Geometry → List ℕ → Label → declared.Redo
redo_of g img l = cond (fits_image g (length img)) (decided g img l (lead_of g img l)) Nothing
