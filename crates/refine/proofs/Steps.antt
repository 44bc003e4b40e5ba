-- A STEP IS THE NEXT ACTION. What the shelf's step does to a state in order is the first of what is left to do, as the
-- protocol counts it, and the others are left; where nothing is left, the request is done. Assumes nothing.
use Rattle.std.proofs.Math.Path.{◌≡◌, refl, sym, ap, ap₂, subst}
use Rattle.std.proofs.Common.{◌∙◌, ⊎_elim}
use Rattle.std.specs.Prelude.{Bool, leb, length, replicate, Ok}
use Rattle.std.proofs.Math.Bool.{true, false, cond, false≢true}
use mathlib.Core.List.{List, [], ◌∷◌, ◌++◌}
use Prim.Native.Nat.{ℕ, zero, suc, ◌+◌, ◌*◌, ◌≤◌, ◌<◌, ◌%◌}
use native.Mathlib.Omega.{arith}
use Rattle.std.proofs.Math.Dec.{ltb}
use borrow.Author.Tests.{lt-ltb, le-ltb, ltb-true, ltb-false, eq-eqb, leb-true, le-leb}
use Rattle.disk.specs.Limits.{sector_bytes, first_log}
use Rattle.disk.specs.Tests.{and_left, and_right, both}
use Rattle.disk.specs.Geometry.{in_range, stripes_of, strip_of, found}
use Rattle.disk.specs.Image.{put_sector, put_answer, on_shelf, lt_or_ge}
use Rattle.disk.specs.Mask.{in_mask}
use Rattle.disk.specs.declared.geometry.Geometry.{Geometry}
use Rattle.disk.specs.Geometry.{Found}
use Rattle.disk.specs.declared.refusal.Refusal.TheVariants.{NotNow}
use Rattle.disk.specs.Refusal.{Outcome}
use Rattle.label.specs.Fields.{fits_of}
use Rattle.label.specs.Bytes.{sealed}
use Rattle.label.specs.declared.fields.Label as bytes
use Rattle.protocol.specs.World.{Place, log, strip, slot, Image, update, update_other, Action, put, flush}
use Rattle.protocol.specs.Batch.{puts, flushes}
use Rattle.protocol.specs.Slots.{rows}
use Rattle.protocol.specs.Write.{logged, stored}
use Rattle.protocol.specs.Label as Label
use Rattle.protocol.specs.Host as Host
use Rattle.protocol.specs.Pairs.{no_sets}
use Rattle.codecs.specs.Sector.{Sector}
use Rattle.codecs.proofs.Sector.{zeros}
use Rattle.codecs.specs.Shelf.{Shelf, slots, geometry, size, limits, some_sectors, in_limits}
use Rattle.codecs.specs.Labels.{side_of, label_of}
use Rattle.codecs.specs.Records.{stamp_number}
use Rattle.codecs.proofs.Records.{records}
use Rattle.shards.proofs.Even.{any_code}
use Rattle.stages.specs.Limits.{most_stages}
use Rattle.stages.specs.State.{moved}
use Rattle.stages.specs.Stage.{slots_of, stage_at, stage_of}
use Rattle.shelf.specs.Act.{Move, in_strips, by_rebuilt, fill_move, onward, refuses, named, by_outcome, put_move, flush_move, give_move, wipe_move, by_strip, by_restored, restore_move, by_logged, log_move, by_stored, store_move, clear_move, erase_move, act_move}
use Rattle.shelf.specs.Step.{is_end, finished, on_stage, next_slot, walk, keeps, under_way, sound, step_move}
use Rattle.shelf.specs.Says.{when, unless, step_goes}
use Rattle.shelf.specs.Bound.{width_of}
use Rattle.shelf.specs.Kept.{kept_of}
use Rattle.stages.specs.declared.state.State.{State}
use Rattle.stages.specs.Told.{Told}
use Rattle.stages.specs.Told as answer
use Rattle.stages.specs.declared.stage.Stage.{Stage}
use Rattle.stages.specs.declared.stage.Stage.TheVariants.{Flush, Give, Wipe, Restore, Log, Store, Clear, Erase, Fill, End}
use Rattle.refine.specs.Places.{sector_of, inside, slot_below, label_inside, log_inside, strip_is_inside}
use Rattle.refine.proofs.Places.{sector_below}
use Rattle.refine.specs.Disks.{Disks, cur_of, image_fits}
use Rattle.refine.proofs.Disks.{disks_put, cur_put}
use Rattle.refine.specs.Restored.{restores}
use Rattle.refine.proofs.Restored.{piece_is}
use Rattle.refine.specs.Given.{sealed_is, shelf_geometry}
use Rattle.refine.specs.Keeps.{kept_strip, kept_write}
use Rattle.refine.proofs.Keeps.{kept_part, record_is, can_log}
use Rattle.refine.specs.Fills.{Fillable, not_believed, fill_some, fill_short, at_stripe, at_sector, in_strips_lem, can_rebuild}
use Rattle.refine.proofs.Fills.{fill_sector, sector_rebuilt}
use Rattle.refine.specs.ToDo as ToDo
use Rattle.refine.specs.ToDo.{slots_from, told_at, tail_at, copy_at, rows_from, given, restored, fill_at, refilled, stamp_in, Under, under_of, acts_of, left_of, to_do, next_slot_lem, slots_here, stage_same, stage_over, Redoes, redoes, fills, Refills, refills, Alike, alike_same}
use Rattle.refine.proofs.ToDo.{told_sector, tail_sector, copy_sector_lem, given_zeros, given_label, rows_fresh, rows_next, rows_last, left_same, left_at}
use Rattle.refine.specs.Steps.{Tells, Can, Narrow, Fair, Moved, At, Puts, Flushes, Does, G, F, R, D, Has, here_label, here_row, L, logs, t_fill, j_fill}

-- every stage that can be carried out has a first sector, and few
module _ (z : Shelf) (absent : ℕ) (a : Under) (work : List ℕ) where
  pub first_narrow : (x : Stage) → Can z absent a work x → Narrow z.c x 0
  first_narrow (Flush mask) h o = omega arith
  first_narrow (Give mask zeroed l) h o = omega arith
  first_narrow (Wipe mask) h o = omega arith
  first_narrow (Restore mask t) h o = some_sectors z
  first_narrow (Log mask t shards) h o = omega arith
  first_narrow (Store mask t) h o = some_sectors z
  first_narrow (Clear mask) h o = omega arith
  first_narrow (Erase mask odd) h o = omega arith
  first_narrow (Fill mask first count) h o = fill_some z absent a.now work mask first count h.1
  first_narrow End h o = absurd (false≢true (sym o))

  few_wide : (x : Stage) → Can z absent a work x → width_of x z.c < z.sectors
  few_wide (Flush mask) h = omega (arith, (limits z).0.room)
  few_wide (Give mask zeroed l) h = omega (arith, (limits z).0.room)
  few_wide (Wipe mask) h = omega (arith, (limits z).0.room)
  few_wide (Restore mask t) h = omega (arith, (limits z).0.room)
  few_wide (Log mask t shards) h = omega (arith, (limits z).0.room)
  few_wide (Store mask t) h = omega (arith, (limits z).0.room)
  few_wide (Clear mask) h = omega (arith, (limits z).0.room)
  few_wide (Erase mask odd) h = omega (arith, (limits z).0.room)
  few_wide (Fill mask first count) h = fill_short z absent a.now work mask first count h.1
  few_wide End h = omega (arith, (limits z).0.room)

not_none : {a : Action Sector} {l : List (Action Sector)} → a ∷ l ≡ [] → ⊥
not_none {a} {l} e = let q : suc (length l) ≡ 0 = ap length e in omega arith

-- ---- it stays in order

module _ (z : Shelf) (s : State) (work img : List ℕ) (fair : Fair z s work img) where
  fit_now : fits_of s.now ≡ true
  unfolding sound
  fit_now = and_left (fits_of s.now) _ fair.in_range_lem

  busy : under_way s.kind ≡ true
  unfolding sound
  busy = and_left (under_way s.kind) _ (and_right (fits_of s.now) _ fair.in_range_lem)

  staged : s.cursor.stage ≤ most_stages
  unfolding sound
  staged = leb-true _ _ (and_left (leb s.cursor.stage most_stages) _ (and_right (under_way s.kind) _ (and_right (fits_of s.now) _ fair.in_range_lem)))

  -- the sector is one that the stage does
  within : (x : Stage) → stage_of s ≡ x → is_end x ≡ false → s.cursor.sector < width_of x z.c
  within x e o = subst (λ (y : Stage). Narrow z.c y s.cursor.sector) e fair.narrow o

  long : s.now.sectors ≡ z.sectors
  long = ap (λ (g : Geometry). g.sectors) (shelf_geometry z s.now fair.ours_now)

  some_disk : 0 < z.sectors
  some_disk = omega (arith, (limits z).0.room)

  narrow_at : (i : ℕ) → s.cursor.stage ≤ i → Narrow z.c (stage_at s.kind s i) 0
  narrow_at i l = first_narrow z s.absent (under_of s) work (stage_at s.kind s i) (fair.stages i l)

  -- with a later cursor in range, on another image of this shelf
  fair_moved : (to : List ℕ) → Disks z to → (i d j : ℕ) → s.cursor.stage ≤ i → i ≤ most_stages → j < z.sectors → Narrow z.c (stage_at s.kind s i) j → Fair z (moved s i d j) work to
  unfolding sound
  fair_moved to disks i d j l a b n =
      record {
        in_range_lem =
            both (fits_of s.now) _ fit_now
            (both (under_way s.kind) _ busy (both (leb i most_stages) (ltb j s.now.sectors) (le-leb i most_stages a) (lt-ltb j s.now.sectors (omega (arith, long)))));
        ours_now = fair.ours_now;
        disks = disks;
        narrow = subst (λ (x : Stage). Narrow z.c x j) (sym (stage_same s.kind s i d j i)) n;
        stages = λ e h. subst (Can z s.absent (under_of s) work) (sym (stage_same s.kind s i d j e)) (fair.stages e (omega arith));
      }

  -- the state after one of `count` sectors was put on slot d
  fair_onward : (to : List ℕ) → Disks z to → (d count : ℕ) → count ≤ width_of (stage_of s) z.c → Fair z (onward s d count) work to
  unfolding onward
  fair_onward to disks d count l = by (ltb (s.cursor.sector + 1) count) refl
    where
      by : (b : Bool) → ltb (s.cursor.sector + 1) count ≡ b → Fair z (cond b (moved s s.cursor.stage d (s.cursor.sector + 1)) (moved s s.cursor.stage (d + 1) 0)) work to
      by true e =
          let h = ltb-true (s.cursor.sector + 1) count e in
          fair_moved to disks s.cursor.stage d (s.cursor.sector + 1) (omega arith) staged (omega (arith, h, few_wide z s.absent (under_of s) work (stage_of s) (fair.stages s.cursor.stage (omega arith)))) (λ o. omega (arith, h))
      by false e = fair_moved to disks s.cursor.stage (d + 1) 0 (omega arith) staged some_disk (narrow_at s.cursor.stage (omega arith))

  onward_kept : (d count : ℕ) → Moved s (onward s d count)
  unfolding onward
  onward_kept d count = by (ltb (s.cursor.sector + 1) count)
    where
      by : (b : Bool) → Moved s (cond b (moved s s.cursor.stage d (s.cursor.sector + 1)) (moved s s.cursor.stage (d + 1) 0))
      by true = refl
      by false = refl

  onward_stage : (d count : ℕ) → (onward s d count).cursor.stage ≡ s.cursor.stage
  unfolding onward
  onward_stage d count = by (ltb (s.cursor.sector + 1) count)
    where
      by : (b : Bool) → (cond {A = State} b (moved s s.cursor.stage d (s.cursor.sector + 1)) (moved s s.cursor.stage (d + 1) 0)).cursor.stage ≡ s.cursor.stage
      by true = refl
      by false = refl

  -- the only sector of a slot is done
  once : (d : ℕ) → onward s d 1 ≡ moved s s.cursor.stage (d + 1) 0
  unfolding onward
  once d = ap (λ (b : Bool). cond b (moved s s.cursor.stage d (s.cursor.sector + 1)) (moved s s.cursor.stage (d + 1) 0)) (le-ltb (s.cursor.sector + 1) 1 (omega arith))

  -- ---- a put

  -- of a place of a present slot
  put_done : (k : Place) (v : Sector) (count : ℕ) → inside z k ≡ true → in_mask s.absent (slot k) ≡ false
      → put_move s (G z s work img fair) (slot k) (sector_of z k) count v.bytes img
      ≡ record { stepped = record { state = onward s (slot k) count; answer = answer.Put (slot k) (sector_of z k) }; image = put_sector z.sectors img (slot k) (sector_of z k) v.bytes }
  unfolding put_move put_answer on_shelf
  put_done k v count i a =
      let e : put_answer (G z s work img fair) (length img) (slot k) (sector_of z k) (length v.bytes) ≡ (Ok tt) =
      rw (image_fits z img fair.disks, lt-ltb (slot k) (slots z) (slot_below z k i), lt-ltb (sector_of z k) z.sectors (sector_below z k i), eq-eqb (length v.bytes) sector_bytes v.whole) in
      unless (in_mask s.absent (slot k)) _ _ a ∙ ap (λ (o : Outcome). by_outcome o s (G z s work img fair) (slot k) (sector_of z k) count v.bytes img) e

  puts_so : (k : Place) (v : Sector) (count : ℕ) (m : Move) (l : List (Action Sector)) → inside z k ≡ true → in_mask s.absent (slot k) ≡ false → count ≤ width_of (stage_of s) z.c → At z work img s (onward s (slot k) count).cursor.stage
      → m ≡ put_move s (G z s work img fair) (slot k) (sector_of z k) count v.bytes img → left_of z work (update (cur_of z img) k v) most_stages (onward s (slot k) count) ≡ l → Puts z work img s m k v l
  unfolding to_do
  puts_so k v count m l i a few at e r =
      let p = cur_put z img fair.disks k v i in
      record {
        state = onward s (slot k) count;
        kept = onward_kept (slot k) count;
        at = at;
        here = i;
        is = e ∙ put_done k v count i a;
        becomes = p;
        rest = ap (λ (f : Image Sector). left_of z work f most_stages (onward s (slot k) count)) p ∙ r;
        fair = fair_onward (put_sector z.sectors img (slot k) (sector_of z k) v.bytes) (disks_put z img fair.disks k v i) (slot k) count few;
      }

  -- ---- what each stage does to its next slot

  module _ (k : ℕ) (enough : most_stages ≤ suc (s.cursor.stage + 1 + k)) (more : is_end (stage_of s) ≡ false) where
    -- what is left from slot d, sector j of this stage on, on an image with the same records
    left_then : (x : Stage) → stage_of s ≡ x → (g : Image Sector) → Alike z s (F z s work img fair k enough more) g → (d j : ℕ) → left_of z work g most_stages (moved s s.cursor.stage d j) ≡ acts_of z (under_of s) work (F z s work img fair k enough more) x d j ++ (R z s work img fair k enough more)
    unfolding Alike
    left_then x e g h d j =
        left_same z work (F z s work img fair k enough more) g most_stages (moved s s.cursor.stage d j) h ∙ left_at z work (F z s work img fair k enough more) k s d j more enough
        ∙ ap (λ (y : Stage). acts_of z (under_of s) work (F z s work img fair k enough more) y d j ++ (R z s work img fair k enough more)) e

    left_once : (x : Stage) → stage_of s ≡ x → (g : Image Sector) → Alike z s (F z s work img fair k enough more) g → (d : ℕ) → left_of z work g most_stages (onward s d 1) ≡ acts_of z (under_of s) work (F z s work img fair k enough more) x (d + 1) 0 ++ (R z s work img fair k enough more)
    left_once x e g h d = ap (left_of z work g most_stages) (once d) ∙ left_then x e g h (d + 1) 0

    can : (x : Stage) → stage_of s ≡ x → Can z s.absent (under_of s) work x
    can x e = subst (Can z s.absent (under_of s) work) e (fair.stages s.cursor.stage (omega arith))

    -- so many sectors are within a stage
    within_stage : (x : Stage) → stage_of s ≡ x → (n : ℕ) → n ≤ width_of x z.c → n ≤ width_of (stage_of s) z.c
    within_stage x e n l = subst (λ (y : Stage). n ≤ width_of y z.c) (sym e) l

    -- a stage that changes a record: then none is restored
    none_restored : (x : Stage) → stage_of s ≡ x → Redoes (ToDo.restores s.kind s.marks.forward) x
    none_restored x e = subst (Redoes (ToDo.restores s.kind s.marks.forward)) e (redoes s.kind s s.cursor.stage)

    -- one that changes a strip: then none is rebuilt
    none_refilled : (x : Stage) → stage_of s ≡ x → Refills (fills s.kind) x
    none_refilled x e = subst (Refills (fills s.kind)) e (refills s.kind s s.cursor.stage)

    -- a stage with a slot left has an action left
    some_rows : (mk : ℕ → ℕ → Place) (w : ℕ) (value : Place → Sector) (mask : ℕ) → (Has z s work img fair k enough more) mask → s.cursor.sector < w → (r : List (Action Sector))
        → puts value (rows_from mk w s.cursor.sector (slots_from (slots z) mask s.cursor.slot)) ++ r ≡ [] → ⊥
    some_rows mk w value mask h l r q =
        not_none (sym (ap (λ (ds : List ℕ). puts value (rows_from mk w s.cursor.sector ds) ++ r) h.first
        ∙ ap (λ (ks : List Place). puts value ks ++ r) (rows_next mk w s.cursor.sector ((D z s work img fair k enough more) mask) (slots_from (slots z) mask ((D z s work img fair k enough more) mask + 1)) l)) ∙ q)

    some_each : (mk : ℕ → ℕ → Place) (value : Place → Sector) (mask : ℕ) → (Has z s work img fair k enough more) mask → (r : List (Action Sector))
        → puts value (rows mk (0 ∷ []) (slots_from (slots z) mask s.cursor.slot)) ++ r ≡ [] → ⊥
    some_each mk value mask h r q = not_none (sym (ap (λ (ds : List ℕ). puts value (rows mk (0 ∷ []) ds) ++ r) h.first) ∙ q)

    acts_some : (x : Stage) → stage_of s ≡ x → is_end x ≡ false → (Has z s work img fair k enough more) (slots_of x) → (r : List (Action Sector))
        → acts_of z (under_of s) work (F z s work img fair k enough more) x s.cursor.slot s.cursor.sector ++ r ≡ [] → ⊥
    acts_some (Flush mask) e o h r q = not_none (sym (ap (λ (ds : List ℕ). flushes ds ++ r) h.first) ∙ q)
    acts_some (Give mask zeroed l) e o h r q = some_each (told_at l) (given z zeroed l) mask h r q
    acts_some (Wipe mask) e o h r q = some_each (tail_at z) (λ k. zeros) mask h r q
    acts_some (Restore mask t) e o h r q = some_rows (λ d i. strip d t i) z.c (restored z (F z s work img fair k enough more)) mask h (within (Restore mask t) e refl) r q
    acts_some (Log mask t shards) e o h r q =
        some_rows log (z.c + 1) (logged (records z) (stamp_number (stamp_in s)) (kept_write z work t shards)) mask h (within (Log mask t shards) e refl) r q
    acts_some (Store mask t) e o h r q = some_rows (λ d i. strip d t i) z.c (stored (records z) (kept_strip z work t)) mask h (within (Store mask t) e refl) r q
    acts_some (Clear mask) e o h r q = some_rows log (z.c + 1) (λ k. zeros) mask h (within (Clear mask) e refl) r q
    acts_some (Erase mask odd) e o h r q = some_each (copy_at odd) (λ k. zeros) mask h r q
    acts_some (Fill mask first count) e o h r q =
        some_rows (fill_at z first) (count * z.c) (refilled z s.now (F z s work img fair k enough more)) mask h (within (Fill mask first count) e refl) r q
    acts_some End e o h r q = absurd (false≢true (sym o))

    -- so it is the first that has
    at_here : (x : Stage) → stage_of s ≡ x → is_end x ≡ false → (Has z s work img fair k enough more) (slots_of x) → (d count : ℕ) → At z work img s (onward s d count).cursor.stage
    unfolding left_of
    at_here x e o h d count =
        record {
          on = omega (arith, onward_stage d count);
          passed = λ q l. let e : q ≡ 0 = omega (arith, onward_stage d count) in ap (λ (i : ℕ). left_of z work (F z s work img fair k enough more) i s) e;
          begun = λ q l. from q (omega (arith, onward_stage d count));
        }
      where
        from : (q : ℕ) → 0 < q → left_of z work (F z s work img fair k enough more) q s ≡ [] → ⊥
        from zero l q = omega arith
        from (suc p) l q =
            acts_some x e o h (left_of z work (F z s work img fair k enough more) p (on_stage s))
            (sym (ap (λ (y : Stage). acts_of z (under_of s) work (F z s work img fair k enough more) y s.cursor.slot s.cursor.sector ++ left_of z work (F z s work img fair k enough more) p (on_stage s)) e)
            ∙ sym (ap (λ (b : Bool). cond b [] (acts_of z (under_of s) work (F z s work img fair k enough more) (stage_of s) s.cursor.slot s.cursor.sector ++ left_of z work (F z s work img fair k enough more) p (on_stage s))) more) ∙ q)

    flush_does : (mask : ℕ) → stage_of s ≡ Flush mask → (Has z s work img fair k enough more) mask → Does z work img s (act_move s (G z s work img fair) (Flush mask) ((D z s work img fair k enough more) mask) work img) (acts_of z (under_of s) work (F z s work img fair k enough more) (Flush mask) s.cursor.slot s.cursor.sector ++ (R z s work img fair k enough more))
    unfolding flush_move to_do Alike
    flush_does mask e h =
        subst (λ (ds : List ℕ). Does z work img s (act_move s (G z s work img fair) (Flush mask) ((D z s work img fair k enough more) mask) work img) (flushes ds ++ (R z s work img fair k enough more))) (sym h.first)
        (record {
          state = onward s ((D z s work img fair k enough more) mask) 1;
          kept = onward_kept ((D z s work img fair k enough more) mask) 1;
          at = at_here (Flush mask) e refl h ((D z s work img fair k enough more) mask) 1;
          is = ap (λ (x : Told). record { stepped = x; image = img }) (unless (in_mask s.absent ((D z s work img fair k enough more) mask)) _ _ (can (Flush mask) e ((D z s work img fair k enough more) mask) h.below h.set));
          rest = left_once (Flush mask) e (F z s work img fair k enough more) (alike_same z s (F z s work img fair k enough more)) ((D z s work img fair k enough more) mask);
          fair = fair_onward img fair.disks ((D z s work img fair k enough more) mask) 1 (within_stage (Flush mask) e 1 (omega arith));
        })

    module _ (mask zeroed : ℕ) (l : bytes.Label) (e : stage_of s ≡ Give mask zeroed l) (h : (Has z s work img fair k enough more) mask) where
      give_puts : act_move s (G z s work img fair) (Give mask zeroed l) ((D z s work img fair k enough more) mask) work img ≡ put_move s (G z s work img fair) ((D z s work img fair k enough more) mask) (sector_of z (here_label z s work img fair k enough more mask zeroed l e h)) 1 (given z zeroed l (here_label z s work img fair k enough more mask zeroed l e h)).bytes img
      unfolding give_move
      give_puts = by (in_mask zeroed ((D z s work img fair k enough more) mask)) refl
        where
          t : Tells z l
          t = (can (Give mask zeroed l) e).1

          putting : (to : ℕ) (v : List ℕ) → to ≡ sector_of z (here_label z s work img fair k enough more mask zeroed l e h) → v ≡ (given z zeroed l (here_label z s work img fair k enough more mask zeroed l e h)).bytes → put_move s (G z s work img fair) ((D z s work img fair k enough more) mask) to 1 v img ≡ put_move s (G z s work img fair) ((D z s work img fair k enough more) mask) (sector_of z (here_label z s work img fair k enough more mask zeroed l e h)) 1 (given z zeroed l (here_label z s work img fair k enough more mask zeroed l e h)).bytes img
          putting to v p q = ap₂ (λ (x : ℕ) (y : List ℕ). put_move s (G z s work img fair) ((D z s work img fair k enough more) mask) x 1 y img) p q

          by : (b : Bool) → in_mask zeroed ((D z s work img fair k enough more) mask) ≡ b
              → cond (in_mask zeroed ((D z s work img fair k enough more) mask)) (put_move s (G z s work img fair) ((D z s work img fair k enough more) mask) (l.generation % 2) 1 (replicate sector_bytes 0) img)
              (cond (fits_of (named l ((D z s work img fair k enough more) mask))) (put_move s (G z s work img fair) ((D z s work img fair k enough more) mask) (l.generation % 2) 1 (sealed (named l ((D z s work img fair k enough more) mask))) img) (refuses s NotNow img))
              ≡ put_move s (G z s work img fair) ((D z s work img fair k enough more) mask) (sector_of z (here_label z s work img fair k enough more mask zeroed l e h)) 1 (given z zeroed l (here_label z s work img fair k enough more mask zeroed l e h)).bytes img
          by true q =
              when (in_mask zeroed ((D z s work img fair k enough more) mask)) _ _ q
              ∙ putting (l.generation % 2) (replicate sector_bytes 0) (sym (told_sector z l ((D z s work img fair k enough more) mask) 0)) (ap (λ (v : Sector). v.bytes) (sym (given_zeros z zeroed l (here_label z s work img fair k enough more mask zeroed l e h) q)))
          by false q =
              let f = t.fit ((D z s work img fair k enough more) mask) h.below in
              unless (in_mask zeroed ((D z s work img fair k enough more) mask)) _ _ q ∙ when (fits_of (named l ((D z s work img fair k enough more) mask))) _ _ f
              ∙ putting (l.generation % 2) (sealed (named l ((D z s work img fair k enough more) mask))) (sym (told_sector z l ((D z s work img fair k enough more) mask) 0))
              (sealed_is z l t.same ((D z s work img fair k enough more) mask) f ∙ ap (λ (v : Sector). v.bytes) (sym (given_label z zeroed l (here_label z s work img fair k enough more mask zeroed l e h) q)))

      give_does : Does z work img s (act_move s (G z s work img fair) (Give mask zeroed l) ((D z s work img fair k enough more) mask) work img) (acts_of z (under_of s) work (F z s work img fair k enough more) (Give mask zeroed l) s.cursor.slot s.cursor.sector ++ (R z s work img fair k enough more))
      unfolding Alike
      give_does =
          subst (λ (ds : List ℕ). Does z work img s (act_move s (G z s work img fair) (Give mask zeroed l) ((D z s work img fair k enough more) mask) work img) (puts (given z zeroed l) (rows (told_at l) (0 ∷ []) ds) ++ (R z s work img fair k enough more))) (sym h.first)
          (puts_so (here_label z s work img fair k enough more mask zeroed l e h) (given z zeroed l (here_label z s work img fair k enough more mask zeroed l e h)) 1 (act_move s (G z s work img fair) (Give mask zeroed l) ((D z s work img fair k enough more) mask) work img) _ (label_inside z ((D z s work img fair k enough more) mask) (side_of l.generation) h.below) ((can (Give mask zeroed l) e).0 ((D z s work img fair k enough more) mask) h.below h.set) (within_stage (Give mask zeroed l) e 1 (omega arith)) (at_here (Give mask zeroed l) e refl h ((D z s work img fair k enough more) mask) 1) give_puts
          (left_once (Give mask zeroed l) e (update (F z s work img fair k enough more) (here_label z s work img fair k enough more mask zeroed l e h) (given z zeroed l (here_label z s work img fair k enough more mask zeroed l e h))) (
            λ q d j. update_other (F z s work img fair k enough more) (here_label z s work img fair k enough more mask zeroed l e h) (given z zeroed l (here_label z s work img fair k enough more mask zeroed l e h)) (log d j) (λ p. let i : ◌≡◌ {A = ℕ} 0 1 = cc in omega arith),
            λ q d t j b. update_other (F z s work img fair k enough more) (here_label z s work img fair k enough more mask zeroed l e h) (given z zeroed l (here_label z s work img fair k enough more mask zeroed l e h)) (strip d t j) (λ p. let i : ◌≡◌ {A = ℕ} 0 1 = cc in omega arith),
          ) ((D z s work img fair k enough more) mask)))

    wipe_does : (mask : ℕ) → stage_of s ≡ Wipe mask → (Has z s work img fair k enough more) mask → Does z work img s (act_move s (G z s work img fair) (Wipe mask) ((D z s work img fair k enough more) mask) work img) (acts_of z (under_of s) work (F z s work img fair k enough more) (Wipe mask) s.cursor.slot s.cursor.sector ++ (R z s work img fair k enough more))
    unfolding wipe_move Alike
    wipe_does mask e h =
        let here = tail_at z ((D z s work img fair k enough more) mask) 0 in
        let no = none_restored (Wipe mask) e in
        subst (λ (ds : List ℕ). Does z work img s (act_move s (G z s work img fair) (Wipe mask) ((D z s work img fair k enough more) mask) work img) (puts (λ k. zeros) (rows (tail_at z) (0 ∷ []) ds) ++ (R z s work img fair k enough more))) (sym h.first)
        (puts_so here zeros 1 (act_move s (G z s work img fair) (Wipe mask) ((D z s work img fair k enough more) mask) work img) _ (log_inside z ((D z s work img fair k enough more) mask) z.c h.below (omega arith)) (can (Wipe mask) e ((D z s work img fair k enough more) mask) h.below h.set) (within_stage (Wipe mask) e 1 (omega arith)) (at_here (Wipe mask) e refl h ((D z s work img fair k enough more) mask) 1) (ap (λ (to : ℕ). put_move s (G z s work img fair) ((D z s work img fair k enough more) mask) to 1 (replicate sector_bytes 0) img) (sym (tail_sector z ((D z s work img fair k enough more) mask) 0)))
        (left_once (Wipe mask) e (update (F z s work img fair k enough more) here zeros) (λ q d j. absurd (false≢true (sym no ∙ q)), λ q d t j b. update_other (F z s work img fair k enough more) here zeros (strip d t j) (λ p. let i : ◌≡◌ {A = ℕ} 0 1 = cc in omega arith)) ((D z s work img fair k enough more) mask)))

    erase_does : (mask : ℕ) (odd : Bool) → stage_of s ≡ Erase mask odd → (Has z s work img fair k enough more) mask
        → Does z work img s (act_move s (G z s work img fair) (Erase mask odd) ((D z s work img fair k enough more) mask) work img) (acts_of z (under_of s) work (F z s work img fair k enough more) (Erase mask odd) s.cursor.slot s.cursor.sector ++ (R z s work img fair k enough more))
    unfolding erase_move Alike
    erase_does mask odd e h =
        let here = copy_at odd ((D z s work img fair k enough more) mask) 0 in
        subst (λ (ds : List ℕ). Does z work img s (act_move s (G z s work img fair) (Erase mask odd) ((D z s work img fair k enough more) mask) work img) (puts (λ k. zeros) (rows (copy_at odd) (0 ∷ []) ds) ++ (R z s work img fair k enough more))) (sym h.first)
        (puts_so here zeros 1 (act_move s (G z s work img fair) (Erase mask odd) ((D z s work img fair k enough more) mask) work img) _ (label_inside z ((D z s work img fair k enough more) mask) odd h.below) (can (Erase mask odd) e ((D z s work img fair k enough more) mask) h.below h.set) (within_stage (Erase mask odd) e 1 (omega arith)) (at_here (Erase mask odd) e refl h ((D z s work img fair k enough more) mask) 1)
        (ap (λ (to : ℕ). put_move s (G z s work img fair) ((D z s work img fair k enough more) mask) to 1 (replicate sector_bytes 0) img) (sym (copy_sector_lem z odd ((D z s work img fair k enough more) mask) 0)))
        (left_once (Erase mask odd) e (update (F z s work img fair k enough more) here zeros) (λ q d j. update_other (F z s work img fair k enough more) here zeros (log d j) (λ p. let i : ◌≡◌ {A = ℕ} 0 1 = cc in omega arith), λ q d t j b. update_other (F z s work img fair k enough more) here zeros (strip d t j) (λ p. let i : ◌≡◌ {A = ℕ} 0 1 = cc in omega arith)) ((D z s work img fair k enough more) mask)))

    -- a stage that puts w sectors on each slot
    module _ (x : Stage) (e : stage_of s ≡ x) (mask : ℕ) (h : (Has z s work img fair k enough more) mask) (mk : ℕ → ℕ → Place) (w : ℕ) (value : Place → Sector)
        (acts : (d j : ℕ) → acts_of z (under_of s) work (F z s work img fair k enough more) x d j ≡ puts value (rows_from mk w j (slots_from (slots z) mask d))) (wide : w ≤ width_of x z.c) (low : s.cursor.sector < w) (at_stage : (d count : ℕ) → At z work img s (onward s d count).cursor.stage) where
      left_row : (g : Image Sector) → Alike z s (F z s work img fair k enough more) g → left_of z work g most_stages (onward s ((D z s work img fair k enough more) mask) w) ≡ puts value (L z s work img fair k enough more x e mask h mk w value acts wide low at_stage) ++ (R z s work img fair k enough more)
      unfolding onward
      left_row g a = by (ltb (s.cursor.sector + 1) w) refl
        where
          by : (b : Bool) → ltb (s.cursor.sector + 1) w ≡ b
              → left_of z work g most_stages (cond b (moved s s.cursor.stage ((D z s work img fair k enough more) mask) (s.cursor.sector + 1)) (moved s s.cursor.stage ((D z s work img fair k enough more) mask + 1) 0)) ≡ puts value (L z s work img fair k enough more x e mask h mk w value acts wide low at_stage) ++ (R z s work img fair k enough more)
          by true q =
              left_then x e g a ((D z s work img fair k enough more) mask) (s.cursor.sector + 1)
              ∙ ap (λ (l : List (Action Sector)). l ++ (R z s work img fair k enough more)) (acts ((D z s work img fair k enough more) mask) (s.cursor.sector + 1))
              ∙ ap (λ (ds : List ℕ). puts value (rows_from mk w (s.cursor.sector + 1) ds) ++ (R z s work img fair k enough more)) (slots_here mask (slots z) ((D z s work img fair k enough more) mask) h.below h.set)
          by false q =
              left_then x e g a ((D z s work img fair k enough more) mask + 1) 0
              ∙ ap (λ (l : List (Action Sector)). l ++ (R z s work img fair k enough more)) (acts ((D z s work img fair k enough more) mask + 1) 0)
              ∙ ap (λ (ks : List Place). puts value ks ++ (R z s work img fair k enough more))
              (rows_fresh mk w (slots_from (slots z) mask ((D z s work img fair k enough more) mask + 1))
              ∙ sym (rows_last mk w (s.cursor.sector + 1) ((D z s work img fair k enough more) mask) (slots_from (slots z) mask ((D z s work img fair k enough more) mask + 1)) (ltb-false (s.cursor.sector + 1) w q)))

      row_does : slot (here_row z s work img fair k enough more x e mask h mk w value acts wide low at_stage) ≡ (D z s work img fair k enough more) mask → inside z (here_row z s work img fair k enough more x e mask h mk w value acts wide low at_stage) ≡ true → in_mask s.absent ((D z s work img fair k enough more) mask) ≡ false → Alike z s (F z s work img fair k enough more) (update (F z s work img fair k enough more) (here_row z s work img fair k enough more x e mask h mk w value acts wide low at_stage) (value (here_row z s work img fair k enough more x e mask h mk w value acts wide low at_stage)))
          → (m : Move) → m ≡ put_move s (G z s work img fair) ((D z s work img fair k enough more) mask) (sector_of z (here_row z s work img fair k enough more x e mask h mk w value acts wide low at_stage)) w (value (here_row z s work img fair k enough more x e mask h mk w value acts wide low at_stage)).bytes img
          → Does z work img s m (acts_of z (under_of s) work (F z s work img fair k enough more) x s.cursor.slot s.cursor.sector ++ (R z s work img fair k enough more))
      row_does at i a alike m is =
          let p : acts_of z (under_of s) work (F z s work img fair k enough more) x s.cursor.slot s.cursor.sector ++ (R z s work img fair k enough more) ≡ put (here_row z s work img fair k enough more x e mask h mk w value acts wide low at_stage) (value (here_row z s work img fair k enough more x e mask h mk w value acts wide low at_stage)) ∷ (puts value (L z s work img fair k enough more x e mask h mk w value acts wide low at_stage) ++ (R z s work img fair k enough more)) =
          ap (λ (l : List (Action Sector)). l ++ (R z s work img fair k enough more)) (acts s.cursor.slot s.cursor.sector)
          ∙ ap (λ (ds : List ℕ). puts value (rows_from mk w s.cursor.sector ds) ++ (R z s work img fair k enough more)) h.first
          ∙ ap (λ (ks : List Place). puts value ks ++ (R z s work img fair k enough more)) (rows_next mk w s.cursor.sector ((D z s work img fair k enough more) mask) (slots_from (slots z) mask ((D z s work img fair k enough more) mask + 1)) low) in
          subst (Does z work img s m) (sym p)
          (puts_so (here_row z s work img fair k enough more x e mask h mk w value acts wide low at_stage) (value (here_row z s work img fair k enough more x e mask h mk w value acts wide low at_stage)) w m (puts value (L z s work img fair k enough more x e mask h mk w value acts wide low at_stage) ++ (R z s work img fair k enough more)) i (ap (in_mask s.absent) at ∙ a) (within_stage x e w wide) (at_stage (slot (here_row z s work img fair k enough more x e mask h mk w value acts wide low at_stage)) w)
          (is ∙ ap (λ (d : ℕ). put_move s (G z s work img fair) d (sector_of z (here_row z s work img fair k enough more x e mask h mk w value acts wide low at_stage)) w (value (here_row z s work img fair k enough more x e mask h mk w value acts wide low at_stage)).bytes img) (sym at))
          (ap (λ (d : ℕ). left_of z work (update (F z s work img fair k enough more) (here_row z s work img fair k enough more x e mask h mk w value acts wide low at_stage) (value (here_row z s work img fair k enough more x e mask h mk w value acts wide low at_stage))) most_stages (onward s d w)) at ∙ left_row (update (F z s work img fair k enough more) (here_row z s work img fair k enough more x e mask h mk w value acts wide low at_stage) (value (here_row z s work img fair k enough more x e mask h mk w value acts wide low at_stage))) alike))

    -- a strip's place is no record's
    strip_alike : fills s.kind ≡ false → (d t i : ℕ) (v : Sector) → Alike z s (F z s work img fair k enough more) (update (F z s work img fair k enough more) (strip d t i) v)
    unfolding Alike
    strip_alike none d t i v = (λ q e j. update_other (F z s work img fair k enough more) (strip d t i) v (log e j) (λ o. let x : ◌≡◌ {A = ℕ} 0 1 = cc in omega arith), λ q e u j b. absurd (false≢true (sym none ∙ q)))

    module _ (mask t : ℕ) (e : stage_of s ≡ Restore mask t) (h : (Has z s work img fair k enough more) mask) where
      there_restore : t < stripes_of (G z s work img fair)
      there_restore = (can (Restore mask t) e).1 ((D z s work img fair k enough more) mask) h.below h.set

      restore_puts : act_move s (G z s work img fair) (Restore mask t) ((D z s work img fair k enough more) mask) work img
          ≡ put_move s (G z s work img fair) ((D z s work img fair k enough more) mask) (sector_of z (strip ((D z s work img fair k enough more) mask) t s.cursor.sector)) z.c (restored z (F z s work img fair k enough more) (strip ((D z s work img fair k enough more) mask) t s.cursor.sector)).bytes img
      unfolding restore_move sector_of
      restore_puts =
          let there : found (in_range (G z s work img fair)) (ltb t (stripes_of (G z s work img fair))) (strip_of (G z s work img fair) t) ≡ Ok (strip_of (G z s work img fair) t) = rw (in_limits z, lt-ltb t (stripes_of (G z s work img fair)) there_restore) in
          ap (λ (o : Outcome). by_restored o s (G z s work img fair) ((D z s work img fair k enough more) mask) t img) (restores z img fair.disks ((D z s work img fair k enough more) mask) h.below s.cursor.sector (within (Restore mask t) e refl))
          ∙ ap (λ (f : Found). by_strip f s (G z s work img fair) ((D z s work img fair k enough more) mask) img) there
          ∙ ap (λ (b : List ℕ). put_move s (G z s work img fair) ((D z s work img fair k enough more) mask) (strip_of (G z s work img fair) t + s.cursor.sector) z.c b img) (piece_is z img fair.disks ((D z s work img fair k enough more) mask) h.below s.cursor.sector (within (Restore mask t) e refl))

      restore_does : Does z work img s (act_move s (G z s work img fair) (Restore mask t) ((D z s work img fair k enough more) mask) work img) (acts_of z (under_of s) work (F z s work img fair k enough more) (Restore mask t) s.cursor.slot s.cursor.sector ++ (R z s work img fair k enough more))
      restore_does =
          row_does (Restore mask t) e mask h (λ d i. strip d t i) z.c (restored z (F z s work img fair k enough more)) (λ d j. refl) (omega arith) (within (Restore mask t) e refl) (at_here (Restore mask t) e refl h) refl
          (strip_is_inside z ((D z s work img fair k enough more) mask) t s.cursor.sector h.below there_restore (within (Restore mask t) e refl)) ((can (Restore mask t) e).0 ((D z s work img fair k enough more) mask) h.below h.set)
          (strip_alike (none_refilled (Restore mask t) e) ((D z s work img fair k enough more) mask) t s.cursor.sector _) _ restore_puts

    module _ (mask t : ℕ) (e : stage_of s ≡ Store mask t) (h : (Has z s work img fair k enough more) mask) where
      there_store : t < stripes_of (G z s work img fair)
      there_store = (can (Store mask t) e).1 ((D z s work img fair k enough more) mask) h.below h.set

      store_puts : act_move s (G z s work img fair) (Store mask t) ((D z s work img fair k enough more) mask) work img
          ≡ put_move s (G z s work img fair) ((D z s work img fair k enough more) mask) (sector_of z (strip ((D z s work img fair k enough more) mask) t s.cursor.sector)) z.c (kept_strip z work t ((D z s work img fair k enough more) mask) s.cursor.sector).bytes img
      unfolding store_move sector_of
      store_puts =
          let there : found (in_range (G z s work img fair)) (ltb t (stripes_of (G z s work img fair))) (strip_of (G z s work img fair) t) ≡ Ok (strip_of (G z s work img fair) t) = rw (in_limits z, lt-ltb t (stripes_of (G z s work img fair)) there_store) in
          ap (λ (f : Found). by_stored f s (G z s work img fair) ((D z s work img fair k enough more) mask) (kept_of (G z s work img fair) t ((D z s work img fair k enough more) mask) work) img) there
          ∙ ap (λ (b : List ℕ). put_move s (G z s work img fair) ((D z s work img fair k enough more) mask) (strip_of (G z s work img fair) t + s.cursor.sector) z.c b img)
          (kept_part z work (can (Store mask t) e).2 t ((D z s work img fair k enough more) mask) there_store h.below s.cursor.sector (within (Store mask t) e refl))

      store_does : Does z work img s (act_move s (G z s work img fair) (Store mask t) ((D z s work img fair k enough more) mask) work img) (acts_of z (under_of s) work (F z s work img fair k enough more) (Store mask t) s.cursor.slot s.cursor.sector ++ (R z s work img fair k enough more))
      store_does =
          row_does (Store mask t) e mask h (λ d i. strip d t i) z.c (stored (records z) (kept_strip z work t)) (λ d j. refl) (omega arith) (within (Store mask t) e refl) (at_here (Store mask t) e refl h) refl
          (strip_is_inside z ((D z s work img fair k enough more) mask) t s.cursor.sector h.below there_store (within (Store mask t) e refl)) ((can (Store mask t) e).0 ((D z s work img fair k enough more) mask) h.below h.set)
          (strip_alike (none_refilled (Store mask t) e) ((D z s work img fair k enough more) mask) t s.cursor.sector _) _ store_puts

    module _ (mask t shards : ℕ) (e : stage_of s ≡ Log mask t shards) (h : (Has z s work img fair k enough more) mask) where
      in_record : s.cursor.sector ≤ z.c
      in_record = omega (arith, within (Log mask t shards) e refl)

      there_log : t < stripes_of (G z s work img fair)
      there_log = (can (Log mask t shards) e).1 ((D z s work img fair k enough more) mask) h.below h.set

      log_puts : act_move s (G z s work img fair) (Log mask t shards) ((D z s work img fair k enough more) mask) work img
          ≡ put_move s (G z s work img fair) ((D z s work img fair k enough more) mask) (sector_of z (log ((D z s work img fair k enough more) mask) s.cursor.sector)) (z.c + 1) ((logs z s work img fair k enough more mask t shards e h) (log ((D z s work img fair k enough more) mask) s.cursor.sector)).bytes img
      unfolding log_move sector_of
      log_puts =
          let c = can (Log mask t shards) e in
          ap (λ (o : Outcome). by_logged o s (G z s work img fair) ((D z s work img fair k enough more) mask) t shards (kept_of (G z s work img fair) t ((D z s work img fair k enough more) mask) work) img)
          (can_log z work c.4 t ((D z s work img fair k enough more) mask) there_log h.below s.cursor.sector (replicate sector_bytes 0) in_record refl)
          ∙ ap (λ (b : List ℕ). put_move s (G z s work img fair) ((D z s work img fair k enough more) mask) (first_log + s.cursor.sector) (z.c + 1) b img)
          (record_is z work c.4 t ((D z s work img fair k enough more) mask) there_log h.below (stamp_in s) c.3 shards c.2 s.cursor.sector in_record)

      log_does : Does z work img s (act_move s (G z s work img fair) (Log mask t shards) ((D z s work img fair k enough more) mask) work img) (acts_of z (under_of s) work (F z s work img fair k enough more) (Log mask t shards) s.cursor.slot s.cursor.sector ++ (R z s work img fair k enough more))
      unfolding Alike
      log_does =
          let no = none_restored (Log mask t shards) e in
          row_does (Log mask t shards) e mask h log (z.c + 1) (logs z s work img fair k enough more mask t shards e h) (λ d j. refl) (omega arith) (within (Log mask t shards) e refl) (at_here (Log mask t shards) e refl h) refl
          (log_inside z ((D z s work img fair k enough more) mask) s.cursor.sector h.below in_record) ((can (Log mask t shards) e).0 ((D z s work img fair k enough more) mask) h.below h.set)
          (λ q d j. absurd (false≢true (sym no ∙ q)), λ q d t j b. update_other (F z s work img fair k enough more) _ _ (strip d t j) (λ p. let i : ◌≡◌ {A = ℕ} 0 1 = cc in omega arith)) _ log_puts

    module _ (mask : ℕ) (e : stage_of s ≡ Clear mask) (h : (Has z s work img fair k enough more) mask) where
      in_clear : s.cursor.sector ≤ z.c
      in_clear = omega (arith, within (Clear mask) e refl)

      clear_puts : act_move s (G z s work img fair) (Clear mask) ((D z s work img fair k enough more) mask) work img ≡ put_move s (G z s work img fair) ((D z s work img fair k enough more) mask) (sector_of z (log ((D z s work img fair k enough more) mask) s.cursor.sector)) (z.c + 1) zeros.bytes img
      unfolding clear_move sector_of
      clear_puts = unless (ltb z.c s.cursor.sector) _ _ (le-ltb z.c s.cursor.sector in_clear)

      clear_does : Does z work img s (act_move s (G z s work img fair) (Clear mask) ((D z s work img fair k enough more) mask) work img) (acts_of z (under_of s) work (F z s work img fair k enough more) (Clear mask) s.cursor.slot s.cursor.sector ++ (R z s work img fair k enough more))
      unfolding Alike
      clear_does =
          let no = none_restored (Clear mask) e in
          row_does (Clear mask) e mask h log (z.c + 1) (λ k. zeros) (λ d j. refl) (omega arith) (within (Clear mask) e refl) (at_here (Clear mask) e refl h) refl
          (log_inside z ((D z s work img fair k enough more) mask) s.cursor.sector h.below in_clear) (can (Clear mask) e ((D z s work img fair k enough more) mask) h.below h.set)
          (λ q d j. absurd (false≢true (sym no ∙ q)), λ q d t j b. update_other (F z s work img fair k enough more) _ _ (strip d t j) (λ p. let i : ◌≡◌ {A = ℕ} 0 1 = cc in omega arith)) _ clear_puts

    module _ (mask first count : ℕ) (e : stage_of s ≡ Fill mask first count) (h : (Has z s work img fair k enough more) mask) where
      low_fill : s.cursor.sector < count * z.c
      low_fill = within (Fill mask first count) e refl

      fillable : Fillable z s.absent s.now work mask first count
      fillable = (can (Fill mask first count) e).1

      there_fill : (t_fill z s work img fair k enough more mask first count e h) < stripes_of (G z s work img fair)
      there_fill = at_stripe z s.absent s.now work mask first count fillable s.cursor.sector low_fill

      in_fill : (j_fill z s work img fair k enough more mask first count e h) < z.c
      in_fill = at_sector z s.absent s.now work mask first count fillable s.cursor.sector low_fill

      slot_fill : (D z s work img fair k enough more) mask ≡ (label_of z s.now).rebuilding
      slot_fill = fillable.here ((D z s work img fair k enough more) mask) h.below h.set

      -- it is not believed
      off_fill : Label.believed (size z) (label_of z s.now) ((D z s work img fair k enough more) mask) (t_fill z s work img fair k enough more mask first count e h) ≡ false
      off_fill = ap (λ (d : ℕ). Label.believed (size z) (label_of z s.now) d (t_fill z s work img fair k enough more mask first count e h)) slot_fill ∙ not_believed z s.absent s.now work mask first count fillable (t_fill z s work img fair k enough more mask first count e h) (omega (arith, fillable.mark))

      fill_puts : act_move s (G z s work img fair) (Fill mask first count) ((D z s work img fair k enough more) mask) work img
          ≡ put_move s (G z s work img fair) ((D z s work img fair k enough more) mask) (sector_of z (fill_at z first ((D z s work img fair k enough more) mask) s.cursor.sector)) (count * z.c) (refilled z s.now (F z s work img fair k enough more) (fill_at z first ((D z s work img fair k enough more) mask) s.cursor.sector)).bytes img
      unfolding fill_move
      fill_puts =
          when (in_strips first count z.c s.cursor.sector) _ _ (in_strips_lem z s.absent s.now work mask first count fillable s.cursor.sector low_fill)
          ∙ ap (λ (o : Outcome). by_rebuilt o s (G z s work img fair) ((D z s work img fair k enough more) mask) first count work img)
          (can_rebuild z s.absent s.now work mask first count fillable fair.ours_now (t_fill z s work img fair k enough more mask first count e h) there_fill img fair.disks ((D z s work img fair k enough more) mask) h.below off_fill (j_fill z s work img fair k enough more mask first count e h) in_fill)
          ∙ ap₂ (λ (to : ℕ) (v : List ℕ). put_move s (G z s work img fair) ((D z s work img fair k enough more) mask) to (count * z.c) v img) (sym (fill_sector z s.absent s.now work mask first count fillable ((D z s work img fair k enough more) mask) s.cursor.sector))
          (sector_rebuilt z s.absent s.now work mask first count fillable fair.ours_now (t_fill z s work img fair k enough more mask first count e h) there_fill img fair.disks ((D z s work img fair k enough more) mask) h.below off_fill (j_fill z s work img fair k enough more mask first count e h) in_fill
          ∙ ap (λ (d : ℕ). (Host.rebuilt (size z) (no_sets (slots z)) (records z) (any_code z) (label_of z s.now) (F z s work img fair k enough more) d (t_fill z s work img fair k enough more mask first count e h) (j_fill z s work img fair k enough more mask first count e h)).bytes) slot_fill)

      -- what is put there changes no strip that is believed
      fill_alike : (v : Sector) → Alike z s (F z s work img fair k enough more) (update (F z s work img fair k enough more) (fill_at z first ((D z s work img fair k enough more) mask) s.cursor.sector) v)
      unfolding Alike
      fill_alike v = (
        λ q d j. update_other (F z s work img fair k enough more) (fill_at z first ((D z s work img fair k enough more) mask) s.cursor.sector) v (log d j) (λ o. let x : ◌≡◌ {A = ℕ} 0 1 = cc in omega arith),
        λ q d t j b. update_other (F z s work img fair k enough more) (fill_at z first ((D z s work img fair k enough more) mask) s.cursor.sector) v (strip d t j)
            (λ o.
            let p : d ≡ (D z s work img fair k enough more) mask = cc in
            let r : t ≡ (t_fill z s work img fair k enough more mask first count e h) = cc in
            false≢true (sym off_fill ∙ sym (ap₂ (λ (x y : ℕ). Label.believed (size z) (label_of z s.now) x y) p r) ∙ b)),
      )

      fill_does : Does z work img s (act_move s (G z s work img fair) (Fill mask first count) ((D z s work img fair k enough more) mask) work img) (acts_of z (under_of s) work (F z s work img fair k enough more) (Fill mask first count) s.cursor.slot s.cursor.sector ++ (R z s work img fair k enough more))
      fill_does =
          row_does (Fill mask first count) e mask h (fill_at z first) (count * z.c) (refilled z s.now (F z s work img fair k enough more)) (λ d j. refl) (omega arith) low_fill (at_here (Fill mask first count) e refl h) refl
          (strip_is_inside z ((D z s work img fair k enough more) mask) (t_fill z s work img fair k enough more mask first count e h) (j_fill z s work img fair k enough more mask first count e h) h.below there_fill in_fill) ((can (Fill mask first count) e).0 ((D z s work img fair k enough more) mask) h.below h.set)
          (fill_alike _) _ fill_puts

    has : (mask : ℕ) → (D z s work img fair k enough more) mask < slots z → (Has z s work img fair k enough more) mask
    has mask l = ⊎_elim (λ (q : (slots z ≤ (D z s work img fair k enough more) mask) × (slots_from (slots z) mask s.cursor.slot ≡ [])). absurd (omega (arith, q.0))) (λ (h : (Has z s work img fair k enough more) mask). h) (next_slot_lem mask (slots z) s.cursor.slot)

    -- a stage that has a slot left
    act_does : (x : Stage) → stage_of s ≡ x → is_end x ≡ false → (D z s work img fair k enough more) (slots_of x) < slots z → Does z work img s (act_move s (G z s work img fair) x ((D z s work img fair k enough more) (slots_of x)) work img) (acts_of z (under_of s) work (F z s work img fair k enough more) x s.cursor.slot s.cursor.sector ++ (R z s work img fair k enough more))
    act_does (Flush mask) e o l = flush_does mask e (has mask l)
    act_does (Give mask zeroed l) e o h = give_does mask zeroed l e (has mask h)
    act_does (Wipe mask) e o l = wipe_does mask e (has mask l)
    act_does (Restore mask t) e o l = restore_does mask t e (has mask l)
    act_does (Log mask t shards) e o l = log_does mask t shards e (has mask l)
    act_does (Store mask t) e o l = store_does mask t e (has mask l)
    act_does (Clear mask) e o l = clear_does mask e (has mask l)
    act_does (Erase mask odd) e o l = erase_does mask odd e (has mask l)
    act_does (Fill mask first count) e o l = fill_does mask first count e (has mask l)
    act_does End e o l = absurd (false≢true (sym o))

    -- a stage that has none
    none : (mask : ℕ) → slots z ≤ (D z s work img fair k enough more) mask → slots_from (slots z) mask s.cursor.slot ≡ []
    none mask l = ⊎_elim (λ (q : (slots z ≤ (D z s work img fair k enough more) mask) × (slots_from (slots z) mask s.cursor.slot ≡ [])). q.1) (λ (h : (Has z s work img fair k enough more) mask). absurd (omega (arith, h.below))) (next_slot_lem mask (slots z) s.cursor.slot)

    acts_none : (x : Stage) → slots z ≤ (D z s work img fair k enough more) (slots_of x) → acts_of z (under_of s) work (F z s work img fair k enough more) x s.cursor.slot s.cursor.sector ≡ []
    acts_none (Flush mask) l = ap (λ (ds : List ℕ). flushes ds) (none mask l)
    acts_none (Give mask zeroed b) l = ap (λ (ds : List ℕ). puts (given z zeroed b) (rows (told_at b) (0 ∷ []) ds)) (none mask l)
    acts_none (Wipe mask) l = ap (λ (ds : List ℕ). puts (λ k. zeros) (rows (tail_at z) (0 ∷ []) ds)) (none mask l)
    acts_none (Restore mask t) l = ap (λ (ds : List ℕ). puts (restored z (F z s work img fair k enough more)) (rows_from (λ d i. strip d t i) z.c s.cursor.sector ds)) (none mask l)
    acts_none (Log mask t shards) l =
        ap (λ (ds : List ℕ). puts (logged (records z) (stamp_number (stamp_in s)) (kept_write z work t shards)) (rows_from log (z.c + 1) s.cursor.sector ds)) (none mask l)
    acts_none (Store mask t) l = ap (λ (ds : List ℕ). puts (stored (records z) (kept_strip z work t)) (rows_from (λ d i. strip d t i) z.c s.cursor.sector ds)) (none mask l)
    acts_none (Clear mask) l = ap (λ (ds : List ℕ). puts (λ k. zeros) (rows_from log (z.c + 1) s.cursor.sector ds)) (none mask l)
    acts_none (Erase mask odd) l = ap (λ (ds : List ℕ). puts (λ k. zeros) (rows (copy_at odd) (0 ∷ []) ds)) (none mask l)
    acts_none (Fill mask first count) l = ap (λ (ds : List ℕ). puts (refilled z s.now (F z s work img fair k enough more)) (rows_from (fill_at z first) (count * z.c) s.cursor.sector ds)) (none mask l)
    acts_none End l = refl

  -- a stage with an action left is not the last
  not_over : is_end (stage_of s) ≡ false → s.cursor.stage + 1 ≤ most_stages
  not_over e = ⊎_elim (λ (l : s.cursor.stage < most_stages). omega arith) (λ (l : most_stages ≤ s.cursor.stage). absurd (false≢true (sym e ∙ stage_over s.kind s s.cursor.stage (omega arith)))) (lt_or_ge s.cursor.stage most_stages)

-- ---- the step

module _ (z : Shelf) (work img : List ℕ) where
  -- a stage that has nothing left is passed over
  at_on : (s : State) (i : ℕ) → ((k : ℕ) → left_of z work (cur_of z img) (suc k) s ≡ left_of z work (cur_of z img) k (on_stage s)) → At z work img (on_stage s) i → At z work img s i
  unfolding left_of
  at_on s i skip h = record { on = omega (arith, h.on); passed = passed; begun = begun }
    where
      passed : (k : ℕ) → s.cursor.stage + k ≤ i → left_of z work (cur_of z img) k s ≡ []
      passed zero l = refl
      passed (suc k) l = skip k ∙ h.passed k (omega arith)

      begun : (k : ℕ) → i < s.cursor.stage + k → left_of z work (cur_of z img) k s ≡ [] → ⊥
      begun zero l q = omega (arith, h.on)
      begun (suc k) l q = h.begun k (omega arith) (sym (skip k) ∙ q)

  does_on : (s : State) (m : Move) (l : List (Action Sector)) → ((k : ℕ) → left_of z work (cur_of z img) (suc k) s ≡ left_of z work (cur_of z img) k (on_stage s))
      → Does z work img (on_stage s) m l → Does z work img s m l
  does_on s m [] skip h = h
  does_on s m (put k v ∷ l) skip h = record { state = h.state; kept = h.kept; at = at_on s h.state.cursor.stage skip h.at; here = h.here; is = h.is; becomes = h.becomes; rest = h.rest; fair = h.fair }
  does_on s m (flush d ∷ l) skip h = record { state = h.state; kept = h.kept; at = at_on s h.state.cursor.stage skip h.at; is = h.is; rest = h.rest; fair = h.fair }

  walk_does : (k : ℕ) (s : State) → most_stages ≤ suc (s.cursor.stage + k) → Fair z s work img → Does z work img s (walk k s (geometry z) work img) (left_of z work (cur_of z img) k s)
  unfolding walk left_of
  walk_does zero s h fair = refl
  walk_does (suc k) s h fair =
      let r : Fair z (on_stage s) work img → Does z work img (on_stage s) (walk k (on_stage s) (geometry z) work img) (left_of z work (cur_of z img) k (on_stage s)) = walk_does k (on_stage s) (omega arith) in
      go r (is_end (stage_of s)) refl (ltb (next_slot s (geometry z)) (slots z)) refl
    where
      go : (Fair z (on_stage s) work img → Does z work img (on_stage s) (walk k (on_stage s) (geometry z) work img) (left_of z work (cur_of z img) k (on_stage s)))
          → (b : Bool) → is_end (stage_of s) ≡ b → (t : Bool) → ltb (next_slot s (geometry z)) (slots z) ≡ t
          → Does z work img s (cond b (finished s img) (cond t (act_move s (geometry z) (stage_of s) (next_slot s (geometry z)) work img) (walk k (on_stage s) (geometry z) work img)))
          (cond b [] (acts_of z (under_of s) work (cur_of z img) (stage_of s) s.cursor.slot s.cursor.sector ++ left_of z work (cur_of z img) k (on_stage s)))
      go r true e t q = refl
      go r false e true q = act_does z s work img fair k (omega arith) e (stage_of s) refl e (ltb-true (next_slot s (geometry z)) (slots z) q)
      go r false e false q =
          let l = left_of z work (cur_of z img) k (on_stage s) in
          let m = walk k (on_stage s) (geometry z) work img in
          let none = acts_none z s work img fair k (omega arith) e (stage_of s) (ltb-false (next_slot s (geometry z)) (slots z) q) in
          let skip : (i : ℕ) → left_of z work (cur_of z img) (suc i) s ≡ left_of z work (cur_of z img) i (on_stage s) =
          λ i. ap (λ (b : Bool). cond b [] (acts_of z (under_of s) work (cur_of z img) (stage_of s) s.cursor.slot s.cursor.sector ++ left_of z work (cur_of z img) i (on_stage s))) e
          ∙ ap (λ (a : List (Action Sector)). a ++ left_of z work (cur_of z img) i (on_stage s)) none in
          subst (λ (a : List (Action Sector)). Does z work img s m (a ++ l)) (sym none)
          (does_on s m l skip (r (fair_moved z s work img fair img fair.disks (s.cursor.stage + 1) 0 0 (omega arith) (not_over z s work img fair e) (some_disk z s work img fair) (narrow_at z s work img fair (s.cursor.stage + 1) (omega arith)))))

  does_keeps : (s : State) (m : Move) (l : List (Action Sector)) → Does z work img s m l → Does z work img s (keeps s m) l
  does_keeps s m [] h = ap (keeps s) h
  does_keeps s m (put k v ∷ l) h = record { state = h.state; kept = h.kept; at = h.at; here = h.here; is = ap (keeps s) h.is; becomes = h.becomes; rest = h.rest; fair = h.fair }
  does_keeps s m (flush d ∷ l) h = record { state = h.state; kept = h.kept; at = h.at; is = ap (keeps s) h.is; rest = h.rest; fair = h.fair }

  -- A STEP does the first of what is left to do, and the others are left; or the request is done
  pub step_does : (s : State) → Fair z s work img → Does z work img s (step_move s work img) (to_do z s work img)
  unfolding to_do
  step_does s fair =
      subst (λ (m : Move). Does z work img s m (to_do z s work img))
      (sym (step_goes s work img fair.in_range_lem (geometry z) (sym (shelf_geometry z s.now fair.ours_now)) (image_fits z img fair.disks)))
      (does_keeps s (walk most_stages s (geometry z) work img) (to_do z s work img) (walk_does most_stages s (omega arith) fair))

  module _ (s : State) (fair : Fair z s work img) where
    pub step_done : to_do z s work img ≡ [] → step_move s work img ≡ finished s img
    step_done e = subst (Does z work img s (step_move s work img)) e (step_does s fair)

    pub step_puts : (k : Place) (v : Sector) (l : List (Action Sector)) → to_do z s work img ≡ put k v ∷ l → Puts z work img s (step_move s work img) k v l
    step_puts k v l e = subst (Does z work img s (step_move s work img)) e (step_does s fair)

    pub step_flushes : (d : ℕ) (l : List (Action Sector)) → to_do z s work img ≡ flush d ∷ l → Flushes z work img s (step_move s work img) d l
    step_flushes d l e = subst (Does z work img s (step_move s work img)) e (step_does s fair)
