-- THE LISTS OF A WRITE ARE THE PROTOCOL'S: where the state and the work area describe the protocol's write, what is left to do of
-- it is first the protocol's log part, then its store part. Assumes nothing.
use Rattle.std.specs.Prelude.{◌≡◌, Bool, ◌&&◌}
use Rattle.std.proofs.Math.Path.{refl, sym, ap, ap₂, fun_ext}
use Rattle.std.proofs.Common.{◌∙◌, ltb-true}
use Rattle.std.proofs.Math.Bool.{true, false, cond}
use Rattle.std.proofs.lemmas.Bool.{false≢true}
use mathlib.Core.List.{List, [], ◌∷◌, ◌++◌, append-nil, Memᴰ}
use Prim.Native.Nat.{ℕ, zero, suc, ◌+◌, ◌-◌, ◌<◌}
use native.Mathlib.Omega.{arith}
use Rattle.std.proofs.Math.Dec.{ltb}
use Rattle.disk.specs.Mask.{mask_of}
use Rattle.disk.specs.Geometry.{slot_of}
use Rattle.record.specs.Log.{log_sector}
use Rattle.record.specs.Tail.{tail_sector}
use Rattle.record.specs.declared.tail.Tail.{Tail}
use Rattle.protocol.specs.World.{Place, log, strip, Image, Action, put}
use Rattle.protocol.specs.Batch.{puts, flushes}
use Rattle.protocol.specs.Slots as Slots
use Rattle.protocol.specs.Slots.{from, rows, of_rows}
use Rattle.protocol.specs.Walk.{append_assoc}
use Rattle.protocol.specs.Log.{Write}
use Rattle.protocol.specs.Label.{believed, belief}
use Rattle.protocol.specs.Write.{involved, logged, stored, logged_sectors, stored_sectors, stored_of, log_batch, store_batch, log_write, store}
use Rattle.protocol.proofs.Write.{of_involved}
use Rattle.codecs.specs.Sector.{Sector}
use Rattle.codecs.proofs.Sector.{sector_path}
use Rattle.codecs.specs.Shelf.{Shelf, slots, size}
use Rattle.codecs.specs.Labels.{label_of}
use Rattle.codecs.specs.Records.{stamp_number, stamp_of, tail_of}
use Rattle.codecs.proofs.Written.{log_of, end_of, record_sector}
use Rattle.codecs.proofs.Records.{records}
use Rattle.stages.specs.Limits.{most_stages}
use Rattle.stages.specs.State.{moved}
use Rattle.stages.specs.Stage.{write_stage, stage_at, stage_of}
use Rattle.shelf.specs.Step.{is_end, on_stage}
use Rattle.stages.specs.declared.state.State.{State}
use Rattle.stages.specs.declared.state.Kind.{Kind}
use Rattle.stages.specs.declared.stage.Stage.{Stage}
use Rattle.stages.specs.declared.stage.Stage.TheVariants.{Flush, Log, Store}
use Rattle.refine.specs.Keeps.{kept_strip, kept_write}
use Rattle.refine.specs.ToDo.{slots_from, stamp_in, under_of, acts_of, left_of, stage_same, restores, fills, Alike}
use Rattle.refine.proofs.ToDo.{rows_fresh, left_same, left_any, left_ended}
use Rattle.refine.specs.Lists.{slots_are}
use Rattle.refine.specs.WriteList.{Writes, strip_same, B, X}

module _ (z : Shelf) (σ : ℕ) (w u : Write Sector) (stripe : w.stripe ≡ u.stripe) (changes : w.changes ≡ u.changes) (d : ℕ) (new : (j : ℕ) → j < z.c → w.new d j ≡ u.new d j) where
  tail_same : tail_of z σ w ≡ tail_of z σ u
  tail_same = λ i. record { stamp = stamp_of σ; stripe = stripe i; shards = mask_of (λ r. changes i (slot_of (slots z) (stripe i) r)) (slots z) }

  record_same : (j : ℕ) → record_sector z σ w d j ≡ record_sector z σ u d j
  unfolding record_sector log_of end_of
  record_same j = by (ltb j z.c) refl
    where
      by : (b : Bool) → ltb j z.c ≡ b → cond b (log_of z σ w d j) (end_of z σ w d) ≡ cond b (log_of z σ u d j) (end_of z σ u d)
      by true e = sector_path (log_of z σ w d j) (log_of z σ u d j) (ap (λ (x : Sector). log_sector (stamp_of σ) x.bytes) (new j (ltb-true j z.c e)))
      by false e =
          sector_path (end_of z σ w d) (end_of z σ u d)
          (ap₂ (λ (x : Tail) (v : List ℕ). tail_sector x z.c v) tail_same (strip_same (w.new d) (u.new d) z.c new))

puts_same : (v u : Place → Sector) (ks : List Place) → ((k : Place) → Memᴰ k ks → v k ≡ u k) → puts v ks ≡ puts u ks
puts_same v u [] h = refl
puts_same v u (k ∷ ks) h = ap₂ (λ (x : Sector) (l : List (Action Sector)). put k x ∷ l) (h k (Memᴰ.head refl)) (puts_same v u ks (λ l m. h l (Memᴰ.tail m)))

module _ (z : Shelf) (s : State) (work : List ℕ) (w : Write Sector) (h : Writes z s work w) where
  -- the slots that the state names are those that the protocol involves
  slots_is : slots_from (slots z) s.marks.redo 0 ≡ involved (B z s work w h) w.stripe w.changes
  unfolding involved Slots.slots belief
  slots_is = slots_are z s.marks.redo (λ d. believed (size z) (label_of z s.now) d w.stripe && w.changes d) h.involves

  changes_is : (kept_write z work s.marks.stripe s.marks.parts).changes ≡ w.changes
  changes_is = fun_ext h.changes

  module _ (f : Image Sector) where
    log_acts : (X z s work w h f) (Log s.marks.redo s.marks.stripe s.marks.parts)
        ≡ puts (logged (records z) (stamp_number (stamp_in s)) w) (rows log (logged_sectors (records z)) (involved (B z s work w h) w.stripe w.changes))
    unfolding logged_sectors
    log_acts =
        let v = logged (records z) (stamp_number (stamp_in s)) (kept_write z work s.marks.stripe s.marks.parts) in
        let n : z.c + 1 ≡ suc z.c = omega arith in
        let js = from 0 (suc z.c) in
        let ds = involved (B z s work w h) w.stripe w.changes in
        ap (λ (ks : List Place). puts v ks) (rows_fresh log (z.c + 1) (slots_from (slots z) s.marks.redo 0))
        ∙ ap₂ (λ (c : ℕ) (l : List ℕ). puts v (rows log (from 0 c) l)) n slots_is
        ∙ puts_same v (logged (records z) (stamp_number (stamp_in s)) w) (rows log js ds)
        (λ k m.
        let y = of_rows log js ds k m in
        ap v y.4
        ∙ record_same z (stamp_number (stamp_in s)) (kept_write z work s.marks.stripe s.marks.parts) w h.stripe changes_is y.0
        (λ j l. h.strips y.0 j (of_involved (B z s work w h) w.stripe w.changes y.0 y.2).1 l) y.1
        ∙ sym (ap (logged (records z) (stamp_number (stamp_in s)) w) y.4))

    store_acts : (X z s work w h f) (Store s.marks.redo s.marks.stripe)
        ≡ puts (stored (records z) w.new) (rows (λ d j. strip d w.stripe j) (stored_sectors (records z)) (involved (B z s work w h) w.stripe w.changes))
    unfolding stored_sectors
    store_acts =
        let v = stored (records z) (kept_strip z work s.marks.stripe) in
        let js = from 0 z.c in
        let ds = involved (B z s work w h) w.stripe w.changes in
        let mk : ℕ → ℕ → Place = λ d j. strip d w.stripe j in
        ap (λ (ks : List Place). puts v ks) (rows_fresh (λ d j. strip d s.marks.stripe j) z.c (slots_from (slots z) s.marks.redo 0))
        ∙ ap₂ (λ (t : ℕ) (l : List ℕ). puts v (rows (λ d j. strip d t j) js l)) h.stripe slots_is
        ∙ puts_same v (stored (records z) w.new) (rows mk js ds)
        (λ k m.
        let y = of_rows mk js ds k m in
        ap v y.4 ∙ h.strips y.0 y.1 (of_involved (B z s work w h) w.stripe w.changes y.0 y.2).1 (stored_of (records z) y.1 y.3) ∙ sym (ap (stored (records z) w.new) y.4))

    flush_acts : (X z s work w h f) (Flush s.marks.redo) ≡ flushes (involved (B z s work w h) w.stripe w.changes)
    flush_acts = ap (λ (l : List ℕ). flushes l) slots_is

    -- ---- stage by stage

    left_go : (t : State) (k : ℕ) → is_end (stage_of t) ≡ false → left_of z work f (suc k) t ≡ acts_of z (under_of t) work f (stage_of t) t.cursor.slot t.cursor.sector ++ left_of z work f k (on_stage t)
    unfolding left_of
    left_go t k e = ap (λ (b : Bool). cond b [] (acts_of z (under_of t) work f (stage_of t) t.cursor.slot t.cursor.sector ++ left_of z work f k (on_stage t))) e

    stage_is : (i d j : ℕ) → stage_of (moved s i d j) ≡ write_stage s.marks i
    stage_is i d j = stage_same s.kind s i d j i ∙ ap (λ (k : Kind). stage_at k s i) h.kind

    staged : (i k : ℕ) (x : Stage) → write_stage s.marks i ≡ x → is_end x ≡ false → left_of z work f (suc k) (moved s i 0 0) ≡ (X z s work w h f) x ++ left_of z work f k (moved s (i + 1) 0 0)
    staged i k x e o = left_go (moved s i 0 0) k (ap is_end (stage_is i 0 0 ∙ e) ∙ o) ∙ ap (λ (y : Stage). (X z s work w h f) y ++ left_of z work f k (moved s (i + 1) 0 0)) (stage_is i 0 0 ∙ e)

    -- THE LOG PART, from its beginning
    pub log_list : left_of z work f 2 (moved s 0 0 0) ≡ log_write (records z) (B z s work w h) (stamp_number (stamp_in s)) w
    unfolding write_stage log_batch left_of
    log_list =
        staged 0 1 (Log s.marks.redo s.marks.stripe s.marks.parts) refl refl
        ∙ ap (λ (l : List (Action Sector)). (X z s work w h f) (Log s.marks.redo s.marks.stripe s.marks.parts) ++ l) (staged 1 0 (Flush s.marks.redo) refl refl ∙ append-nil ((X z s work w h f) (Flush s.marks.redo)))
        ∙ ap₂ (λ (a b : List (Action Sector)). a ++ b) log_acts flush_acts

    -- THE STORE PART
    pub store_list : left_of z work f most_stages (moved s 2 0 0) ≡ store (records z) (B z s work w h) w.stripe w.changes w.new
    unfolding write_stage store_batch
    store_list =
        let over : left_of z work f (suc 11) (moved s 4 0 0) ≡ [] = left_ended z work f 11 (moved s 4 0 0) (ap is_end (stage_is 4 0 0)) in
        staged 2 13 (Store s.marks.redo s.marks.stripe) refl refl
        ∙ ap (λ (l : List (Action Sector)). (X z s work w h f) (Store s.marks.redo s.marks.stripe) ++ l)
        (staged 3 12 (Flush s.marks.redo) refl refl ∙ ap (λ (l : List (Action Sector)). (X z s work w h f) (Flush s.marks.redo) ++ l) over ∙ append-nil ((X z s work w h f) (Flush s.marks.redo)))
        ∙ ap₂ (λ (a b : List (Action Sector)). a ++ b) store_acts flush_acts

    -- WHAT IS LEFT is the rest of the log part, and the store part
    pub left_split : s.cursor.stage < 2 → left_of z work f most_stages s ≡ left_of z work f (2 - s.cursor.stage) s ++ left_of z work f most_stages (moved s 2 0 0)
    unfolding write_stage left_of
    left_split l = by s.cursor.stage refl l
      where
        rest : List (Action Sector)
        rest = left_of z work f most_stages (moved s 2 0 0)

        acts : List (Action Sector)
        acts = acts_of z (under_of s) work f (stage_of s) s.cursor.slot s.cursor.sector

        this : (i : ℕ) → s.cursor.stage ≡ i → stage_of s ≡ write_stage s.marks i
        this i e = ap (λ (k : Kind). stage_at k s s.cursor.stage) h.kind ∙ ap (write_stage s.marks) e

        by : (i : ℕ) → s.cursor.stage ≡ i → i < 2 → left_of z work f most_stages s ≡ left_of z work f (2 - s.cursor.stage) s ++ rest
        by zero e q =
            let n : 2 - s.cursor.stage ≡ 2 = omega arith in
            let one : s.cursor.stage + 1 ≡ 1 = omega arith in
            let go = ap is_end (this 0 e) in
            let more : (k : ℕ) → left_of z work f k (on_stage s) ≡ left_of z work f k (moved s 1 0 0) = λ k. ap (λ (j : ℕ). left_of z work f k (moved s j 0 0)) one in
            left_go s 13 go
            ∙ ap (λ (x : List (Action Sector)). acts ++ x) (more 13 ∙ staged 1 12 (Flush s.marks.redo) refl refl ∙ ap (λ (x : List (Action Sector)). (X z s work w h f) (Flush s.marks.redo) ++ x) (left_any z work f 12 14 (moved s 2 0 0) (omega arith) (omega arith)))
            ∙ sym (append_assoc acts ((X z s work w h f) (Flush s.marks.redo)) rest)
            ∙ ap (λ (x : List (Action Sector)). x ++ rest)
            (sym (ap (λ (j : ℕ). left_of z work f j s) n ∙ left_go s 1 go ∙ ap (λ (x : List (Action Sector)). acts ++ x) (more 1 ∙ staged 1 0 (Flush s.marks.redo) refl refl ∙ append-nil ((X z s work w h f) (Flush s.marks.redo)))))
        by (suc zero) e q =
            let n : 2 - s.cursor.stage ≡ 1 = omega arith in
            let two : s.cursor.stage + 1 ≡ 2 = omega arith in
            let go = ap is_end (this 1 e) in
            left_go s 13 go
            ∙ ap (λ (x : List (Action Sector)). acts ++ x) (ap (λ (j : ℕ). left_of z work f 13 (moved s j 0 0)) two ∙ left_any z work f 13 14 (moved s 2 0 0) (omega arith) (omega arith))
            ∙ ap (λ (x : List (Action Sector)). x ++ rest) (sym (ap (λ (j : ℕ). left_of z work f j s) n ∙ left_go s 0 go ∙ append-nil acts))
        by (suc (suc i)) e q = absurd (omega arith)

  -- what the disks hold does not matter
  pub left_any_image : (f g : Image Sector) (k : ℕ) → left_of z work g k s ≡ left_of z work f k s
  unfolding Alike restores fills
  left_any_image f g k = left_same z work f g k s (λ q. absurd (false≢true (sym (ap (λ (x : Kind). restores x s.marks.forward) h.kind) ∙ q)), λ q. absurd (false≢true (sym (ap fills h.kind) ∙ q)))
