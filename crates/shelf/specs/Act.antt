-- One action of a stage, on one slot: the answer, the state and the image that it leaves. Assumes nothing.
use Rattle.std.specs.Prelude.{Bool, cond, ◌&&◌, List, ℕ, ◌+◌, ◌*◌, ◌/◌, ◌%◌, leb, ltb, length, replicate, Ok, Err}
use Rattle.disk.specs.Limits.{sector_bytes, most_sectors, first_log, first_strip}
use Rattle.disk.specs.Geometry.{in_range, stripes_of, strip_of, found}
use Rattle.disk.specs.Image.{put_sector, put_answer}
use Rattle.disk.specs.Mask.{in_mask}
use Rattle.disk.specs.declared.geometry.Geometry.{Geometry}
use Rattle.disk.specs.Geometry.{Found}
use Rattle.disk.specs.declared.refusal.Refusal.{Refusal}
use Rattle.disk.specs.declared.refusal.Refusal.TheVariants.{NotNow}
use Rattle.disk.specs.Refusal.{Outcome}
use Rattle.label.specs.Fields.{fits_of}
use Rattle.label.specs.Bytes.{sealed}
use Rattle.label.specs.declared.fields.Label.{Label}
use Rattle.record.specs.Log.{area_of, restore_answer, after_restore}
use Rattle.record.specs.declared.tail.Tail.{Tail}
use Rattle.shelf.specs.Fill.{rebuild_answer, rebuilt_sector}
use Rattle.shelf.specs.Kept.{kept_of, part_of, record_sector, logged_answer}
use Rattle.stages.specs.State.{moved}
use Rattle.stages.specs.declared.state.State.{State}
use Rattle.stages.specs.Told.{Told}
use Rattle.stages.specs.Told.{Put, Flush, Refused}
use Rattle.stages.specs.declared.stage.Stage.{Stage}
use Rattle.stages.specs.declared.stage.Stage.TheVariants as stage

pub record Move : Type 0 where
  pub stepped : Told
  pub image : List ℕ

-- the state after one of `count` sectors was put on slot d
unfoldable pub onward : State → ℕ → ℕ → State
onward s d count =
    cond (ltb (s.cursor.sector + 1) count) (moved s s.cursor.stage d (s.cursor.sector + 1)) (moved s s.cursor.stage (d + 1) 0)

abbrev pub refusal : State → Refusal → Told
refusal s why = record { state = s; answer = Refused why }

abbrev pub refuses : State → Refusal → List ℕ → Move
refuses s why img = record { stepped = refusal s why; image = img }

-- sector s of slot d is put; nothing, where that is refused
abbrev pub by_outcome : Outcome → State → Geometry → ℕ → ℕ → ℕ → List ℕ → List ℕ → Move
by_outcome (Ok tt) s g d to count v img =
    record { stepped = record { state = onward s d count; answer = Put d to }; image = put_sector g.sectors img d to v }
by_outcome (Err why) s g d to count v img = refuses s why img

unfoldable pub put_move : State → Geometry → ℕ → ℕ → ℕ → List ℕ → List ℕ → Move
put_move s g d to count v img =
    cond (in_mask s.absent d) (refuses s NotNow img) (by_outcome (put_answer g (length img) d to (length v)) s g d to count v img)

-- slot d is to be flushed
unfoldable pub flush_move : State → ℕ → Told
flush_move s d = cond (in_mask s.absent d) (refusal s NotNow) (record { state = onward s d 1; answer = Flush d })

-- the label for slot d
abbrev pub named : Label → ℕ → Label
named l d =
    record {
      k = l.k;
      m = l.m;
      slot = d;
      c = l.c;
      sectors = l.sectors;
      shelf = l.shelf;
      generation = l.generation;
      out = l.out;
      rebuilding = l.rebuilding;
      mark = l.mark;
    }

-- the label to the sector that its generation calls for, or zeros there
unfoldable pub give_move : State → Geometry → ℕ → ℕ → Label → List ℕ → Move
give_move s g d zeroed l img =
    cond (in_mask zeroed d) (put_move s g d (l.generation % 2) 1 (replicate sector_bytes 0) img)
    (cond (fits_of (named l d)) (put_move s g d (l.generation % 2) 1 (sealed (named l d)) img) (refuses s NotNow img))

-- zeros over the tail of the record
unfoldable pub wipe_move : State → Geometry → ℕ → List ℕ → Move
wipe_move s g d img = put_move s g d (first_log + g.c) 1 (replicate sector_bytes 0) img

-- the next sector of the strip that begins there, from the record
abbrev pub by_strip : Found → State → Geometry → ℕ → List ℕ → Move
by_strip (Ok p) s g d img =
    put_move s g d (p + s.cursor.sector) g.c (after_restore (Ok tt) (area_of g img d) g.c s.cursor.sector (replicate sector_bytes 0)) img
by_strip (Err why) s g d img = refuses s NotNow img

-- where the record can give it back, and there is such a strip
abbrev pub by_restored : Outcome → State → Geometry → ℕ → ℕ → List ℕ → Move
by_restored (Ok tt) s g d t img = by_strip (found (in_range g) (ltb t (stripes_of g)) (strip_of g t)) s g d img
by_restored (Err why) s g d t img = refuses s NotNow img

unfoldable pub restore_move : State → Geometry → ℕ → ℕ → List ℕ → Move
restore_move s g d t img =
    by_restored (restore_answer g.c s.cursor.sector (length (area_of g img d)) sector_bytes) s g d t img

-- the tail of the write's record
abbrev pub tail_of : State → ℕ → ℕ → Tail
tail_of s t shards = record { stamp = record { epoch = s.epoch; count = s.count }; stripe = t; shards = shards }

-- the next sector of the record of the shard v
abbrev pub by_logged : Outcome → State → Geometry → ℕ → ℕ → ℕ → List ℕ → List ℕ → Move
by_logged (Ok tt) s g d t shards v img =
    put_move s g d (first_log + s.cursor.sector) (g.c + 1) (record_sector (tail_of s t shards) g.c s.cursor.sector v) img
by_logged (Err why) s g d t shards v img = refuses s NotNow img

unfoldable pub log_move : State → Geometry → ℕ → ℕ → ℕ → List ℕ → List ℕ → Move
log_move s g d t shards work img =
    by_logged (logged_answer g.c s.cursor.sector (kept_of g t d work) (replicate sector_bytes 0)) s g d t shards (kept_of g t d work) img

-- the next sector of the strip that begins there, of the shard v
abbrev pub by_stored : Found → State → Geometry → ℕ → List ℕ → List ℕ → Move
by_stored (Ok p) s g d v img = put_move s g d (p + s.cursor.sector) g.c (part_of v s.cursor.sector) img
by_stored (Err why) s g d v img = refuses s NotNow img

unfoldable pub store_move : State → Geometry → ℕ → ℕ → List ℕ → List ℕ → Move
store_move s g d t work img = by_stored (found (in_range g) (ltb t (stripes_of g)) (strip_of g t)) s g d (kept_of g t d work) img

-- zeros over the next sector of the record
unfoldable pub clear_move : State → Geometry → ℕ → List ℕ → Move
clear_move s g d img =
    cond (ltb g.c s.cursor.sector) (refuses s NotNow img) (put_move s g d (first_log + s.cursor.sector) (g.c + 1) (replicate sector_bytes 0) img)

-- the label's sector of odd generations, or of even ones
abbrev pub odd_sector : Bool → ℕ
odd_sector odd = cond odd 1 0

-- zeros over it
unfoldable pub erase_move : State → Geometry → ℕ → Bool → List ℕ → Move
erase_move s g d odd img = put_move s g d (odd_sector odd) 1 (replicate sector_bytes 0) img

-- sector x is one of `count` strips of c sectors, from strip `first` on
unfoldable pub in_strips : ℕ → ℕ → ℕ → ℕ → Bool
in_strips first count c x = leb first most_sectors && (leb count most_sectors && ltb x (count * c))

-- the next sector of these strips, computed from what is believed of the others
abbrev pub by_rebuilt : Outcome → State → Geometry → ℕ → ℕ → ℕ → List ℕ → List ℕ → Move
by_rebuilt (Ok tt) s g d first count work img =
    put_move s g d (first_strip + first * g.c + s.cursor.sector) (count * g.c)
    (rebuilt_sector s.now s.absent g d (first + s.cursor.sector / g.c) (s.cursor.sector % g.c) work img) img
by_rebuilt (Err why) s g d first count work img = refuses s NotNow img

unfoldable pub fill_move : State → Geometry → ℕ → ℕ → ℕ → List ℕ → List ℕ → Move
fill_move s g d first count work img =
    cond (in_strips first count g.c s.cursor.sector)
    (by_rebuilt (rebuild_answer s.now s.absent g d (first + s.cursor.sector / g.c) (s.cursor.sector % g.c) work img) s g d first count work img)
    (refuses s NotNow img)

abbrev pub act_move : State → Geometry → Stage → ℕ → List ℕ → List ℕ → Move
act_move s g (stage.Flush slots) d work img = record { stepped = flush_move s d; image = img }
act_move s g (stage.Give slots zeroed l) d work img = give_move s g d zeroed l img
act_move s g (stage.Wipe slots) d work img = wipe_move s g d img
act_move s g (stage.Restore slots t) d work img = restore_move s g d t img
act_move s g (stage.Log slots t shards) d work img = log_move s g d t shards work img
act_move s g (stage.Store slots t) d work img = store_move s g d t work img
act_move s g (stage.Clear slots) d work img = clear_move s g d img
act_move s g (stage.Erase slots odd) d work img = erase_move s g d odd img
act_move s g (stage.Fill slots first count) d work img = fill_move s g d first count work img
act_move s g stage.End d work img = refuses s NotNow img
