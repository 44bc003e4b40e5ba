-- WHOSE A STATE IS: of a shelf with these numbers and these slots absent. A step keeps that. Assumes nothing.
use Rattle.std.specs.Prelude.{◌≡◌, Bool, cond, ◌&&◌, List, ltb, length, replicate, Ok, Err}
use Rattle.std.proofs.Math.Bool.{true, false}
use Prim.Native.Nat.{ℕ, zero, suc, ◌+◌, ◌*◌, ◌/◌, ◌%◌}
use Rattle.disk.specs.Limits.{sector_bytes, first_log, first_strip}
use Rattle.disk.specs.Geometry.{in_range, stripes_of, strip_of, found}
use Rattle.disk.specs.Mask.{in_mask}
use Rattle.disk.specs.Image.{fits_image, put_answer}
use Rattle.disk.specs.declared.geometry.Geometry.{Geometry}
use Rattle.disk.specs.Geometry.{Found}
use Rattle.disk.specs.declared.refusal.Refusal.TheVariants.{BadImage, NotNow, BadBuffer}
use Rattle.disk.specs.Refusal.{Outcome}
use Rattle.label.specs.Fields.{geometry_of, fits_of}
use Rattle.label.specs.Bytes.{sealed}
use Rattle.label.specs.declared.fields.Label.{Label}
use Rattle.record.specs.Log.{area_of, restore_answer, after_restore}
use Rattle.stages.specs.Limits.{most_stages}
use Rattle.shelf.specs.Fill.{rebuild_answer, rebuilt_sector}
use Rattle.shelf.specs.Kept.{kept_of, part_of, record_sector, logged_answer}
use Rattle.stages.specs.State.{moved}
use Rattle.stages.specs.Stage.{stage_of}
use Rattle.shelf.specs.Act.{Move, onward, refusal, refuses, by_outcome, put_move, flush_move, named, give_move, wipe_move, by_strip, by_restored, restore_move, tail_of, by_logged, log_move, by_stored, store_move, clear_move, odd_sector, erase_move, in_strips, by_rebuilt, fill_move, act_move}
use Rattle.shelf.specs.Step.{is_end, finished, on_stage, next_slot, walk, by_answer, kept, keeps, sound, step_move}
use Rattle.stages.specs.declared.state.State.{State}
use Rattle.stages.specs.Told.{Told}
use Rattle.stages.specs.Told.{Answer}
use Rattle.stages.specs.Told.{Put, Flush, Done, Refused}
use Rattle.stages.specs.declared.stage.Stage.{Stage}
use Rattle.stages.specs.declared.stage.Stage.TheVariants as stage
use Rattle.requests.specs.Step.{other_work, step_with}

-- the settled label and the one that the request under way settles have the shelf's numbers
pub record Own (g : Geometry) (absent : ℕ) (s : State) : Type 0 where
  pub settled : geometry_of s.now ≡ g
  pub coming : geometry_of s.next ≡ g
  pub lacks : s.absent ≡ absent

module _ (q : Geometry) (absent : ℕ) where
  abbrev Owns : Move → Type 0
  Owns m = Own q absent m.stepped.state

  moved_own : (s : State) (a b c : ℕ) → Own q absent s → Own q absent (moved s a b c)
  moved_own s a b c o = record { settled = o.settled; coming = o.coming; lacks = o.lacks }

  onward_own : (s : State) (d count : ℕ) → Own q absent s → Own q absent (onward s d count)
  unfolding onward
  onward_own s d count o = by (ltb (s.cursor.sector + 1) count)
    where
      by : (b : Bool) → Own q absent (cond b (moved s s.cursor.stage d (s.cursor.sector + 1)) (moved s s.cursor.stage (d + 1) 0))
      by true = moved_own s s.cursor.stage d (s.cursor.sector + 1) o
      by false = moved_own s s.cursor.stage (d + 1) 0 o

  put_own : (s : State) (g : Geometry) (d to count : ℕ) (v img : List ℕ) → Own q absent s → Owns (put_move s g d to count v img)
  unfolding put_move
  put_own s g d to count v img o = by (in_mask s.absent d) (put_answer g (length img) d to (length v))
    where
      by : (b : Bool) (p : Outcome) → Owns (cond b (refuses s NotNow img) (by_outcome p s g d to count v img))
      by true p = o
      by false (Ok tt) = onward_own s d count o
      by false (Err why) = o

  flush_own : (s : State) (d : ℕ) → Own q absent s → Own q absent (flush_move s d).state
  unfolding flush_move
  flush_own s d o = by (in_mask s.absent d)
    where
      by : (b : Bool) → Own q absent (cond {A = Told} b (refusal s NotNow) (record { state = onward s d 1; answer = Flush d })).state
      by true = o
      by false = onward_own s d 1 o

  give_own : (s : State) (g : Geometry) (d zeroed : ℕ) (l : Label) (img : List ℕ) → Own q absent s → Owns (give_move s g d zeroed l img)
  unfolding give_move
  give_own s g d zeroed l img o = by (in_mask zeroed d) (fits_of (named l d))
    where
      by : (b f : Bool)
          → Owns (cond b (put_move s g d (l.generation % 2) 1 (replicate sector_bytes 0) img)
          (cond f (put_move s g d (l.generation % 2) 1 (sealed (named l d)) img) (refuses s NotNow img)))
      by true f = put_own s g d (l.generation % 2) 1 (replicate sector_bytes 0) img o
      by false true = put_own s g d (l.generation % 2) 1 (sealed (named l d)) img o
      by false false = o

  restore_own : (s : State) (g : Geometry) (d t : ℕ) (img : List ℕ) → Own q absent s → Owns (restore_move s g d t img)
  unfolding restore_move
  restore_own s g d t img o = by (restore_answer g.c s.cursor.sector (length (area_of g img d)) sector_bytes)
    where
      on : (f : Found) → Owns (by_strip f s g d img)
      on (Ok p) =
          put_own s g d (p + s.cursor.sector) g.c (after_restore (Ok tt) (area_of g img d) g.c s.cursor.sector (replicate sector_bytes 0)) img o
      on (Err why) = o

      by : (p : Outcome) → Owns (by_restored p s g d t img)
      by (Ok tt) = on (found (in_range g) (ltb t (stripes_of g)) (strip_of g t))
      by (Err why) = o

  log_own : (s : State) (g : Geometry) (d t shards : ℕ) (work img : List ℕ) → Own q absent s → Owns (log_move s g d t shards work img)
  unfolding log_move
  log_own s g d t shards work img o = by (logged_answer g.c s.cursor.sector (kept_of g t d work) (replicate sector_bytes 0))
    where
      by : (p : Outcome) → Owns (by_logged p s g d t shards (kept_of g t d work) img)
      by (Ok tt) =
          put_own s g d (first_log + s.cursor.sector) (g.c + 1) (record_sector (tail_of s t shards) g.c s.cursor.sector (kept_of g t d work)) img o
      by (Err why) = o

  store_own : (s : State) (g : Geometry) (d t : ℕ) (work img : List ℕ) → Own q absent s → Owns (store_move s g d t work img)
  unfolding store_move
  store_own s g d t work img o = by (found (in_range g) (ltb t (stripes_of g)) (strip_of g t))
    where
      by : (f : Found) → Owns (by_stored f s g d (kept_of g t d work) img)
      by (Ok p) = put_own s g d (p + s.cursor.sector) g.c (part_of (kept_of g t d work) s.cursor.sector) img o
      by (Err why) = o

  clear_own : (s : State) (g : Geometry) (d : ℕ) (img : List ℕ) → Own q absent s → Owns (clear_move s g d img)
  unfolding clear_move
  clear_own s g d img o = by (ltb g.c s.cursor.sector)
    where
      by : (b : Bool) → Owns (cond b (refuses s NotNow img) (put_move s g d (first_log + s.cursor.sector) (g.c + 1) (replicate sector_bytes 0) img))
      by true = o
      by false = put_own s g d (first_log + s.cursor.sector) (g.c + 1) (replicate sector_bytes 0) img o

  fill_own : (s : State) (g : Geometry) (d first count : ℕ) (work img : List ℕ) → Own q absent s → Owns (fill_move s g d first count work img)
  unfolding fill_move
  fill_own s g d first count work img o =
      by (in_strips first count g.c s.cursor.sector)
      (rebuild_answer s.now s.absent g d (first + s.cursor.sector / g.c) (s.cursor.sector % g.c) work img)
    where
      by : (b : Bool) (p : Outcome) → Owns (cond b (by_rebuilt p s g d first count work img) (refuses s NotNow img))
      by true (Ok tt) =
          put_own s g d (first_strip + first * g.c + s.cursor.sector) (count * g.c)
          (rebuilt_sector s.now s.absent g d (first + s.cursor.sector / g.c) (s.cursor.sector % g.c) work img) img o
      by true (Err why) = o
      by false p = o

  act_own : (s : State) (g : Geometry) (x : Stage) (d : ℕ) (work img : List ℕ) → Own q absent s → Owns (act_move s g x d work img)
  unfolding wipe_move erase_move
  act_own s g (stage.Flush slots) d work img o = flush_own s d o
  act_own s g (stage.Give slots zeroed a) d work img o = give_own s g d zeroed a img o
  act_own s g (stage.Wipe slots) d work img o = put_own s g d (first_log + g.c) 1 (replicate sector_bytes 0) img o
  act_own s g (stage.Restore slots t) d work img o = restore_own s g d t img o
  act_own s g (stage.Log slots t shards) d work img o = log_own s g d t shards work img o
  act_own s g (stage.Store slots t) d work img o = store_own s g d t work img o
  act_own s g (stage.Clear slots) d work img o = clear_own s g d img o
  act_own s g (stage.Erase slots odd) d work img o = put_own s g d (odd_sector odd) 1 (replicate sector_bytes 0) img o
  act_own s g (stage.Fill slots first count) d work img o = fill_own s g d first count work img o
  act_own s g stage.End d work img o = o

  -- what is done has settled the label that was coming
  finished_own : (s : State) (img : List ℕ) → Own q absent s → Owns (finished s img)
  finished_own s img o = record { settled = o.coming; coming = o.coming; lacks = o.lacks }

  walk_own : (k : ℕ) (s : State) (g : Geometry) (work img : List ℕ) → Own q absent s → Owns (walk k s g work img)
  unfolding walk
  walk_own zero s g work img o = finished_own s img o
  walk_own (suc k) s g work img o =
      by (is_end (stage_of s)) (ltb (next_slot s g) g.n) (walk_own k (on_stage s) g work img (moved_own s (s.cursor.stage + 1) 0 0 o))
    where
      by : (e b : Bool) → Owns (walk k (on_stage s) g work img)
          → Owns (cond e (finished s img) (cond b (act_move s g (stage_of s) (next_slot s g) work img) (walk k (on_stage s) g work img)))
      by true b r = finished_own s img o
      by false true r = act_own s g (stage_of s) (next_slot s g) work img o
      by false false r = r

  kept_own : (s : State) (r : Told) → Own q absent s → Own q absent r.state → Own q absent (kept s r).state
  kept_own s r o p = by r.answer
    where
      by : (a : Answer) → Own q absent (by_answer a s r).state
      by (Put d to) = p
      by (Flush d) = p
      by Done = p
      by (Refused why) = o

  -- A STEP hands out a state of the same shelf
  pub step_own : (s : State) (work img : List ℕ) → Own q absent s → Owns (step_with s img work)
  unfolding step_with step_move
  step_own s work img o = by (sound s && other_work s.now (length img) (length work)) (sound s) (fits_image (geometry_of s.now) (length img))
    where
      g : Geometry
      g = geometry_of s.now

      by : (a b f : Bool)
          → Owns (cond a (refuses s BadBuffer img) (cond b (cond f (keeps s (walk most_stages s g work img)) (refuses s BadImage img)) (refuses s NotNow img)))
      by true b f = o
      by false true true = kept_own s (walk most_stages s g work img).stepped o (walk_own most_stages s g work img o)
      by false true false = o
      by false false f = o
