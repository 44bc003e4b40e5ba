-- A WRITE IS THE PROTOCOL'S WRITE: accepted, it begins as the protocol's, and each step of the code is a step of the protocol's
-- program, or two of them: between the last flush of the log and the first put of a strip the program takes one step that does
-- nothing (`safe`), and the code takes it together with the next one. Assumes nothing.
use Rattle.std.specs.Prelude.{◌≡◌, ◌⊎◌, Bool, true, length}
use Rattle.std.proofs.Math.Path.{refl, sym, ap, ap₂}
use Rattle.std.proofs.Common.{subst, ◌∙◌, inl, inr, arith, length-append, lt-ltb, le-ltb}
use Rattle.std.proofs.Math.Logic.{⊎_elim}
use Rattle.std.proofs.Math.Bool.{cond}
use mathlib.Core.List.{List, [], ◌∷◌, ◌++◌}
use Prim.Native.Nat.{ℕ, suc, ◌-◌, ◌*◌, ◌≤◌, ◌<◌, ◌^◌}
use Rattle.disk.specs.Mask.{in_mask}
use Rattle.disk.specs.Image.{lt_or_ge}
use Rattle.disk.specs.Geometry.{stripes_of}
use Rattle.protocol.specs.World.{Image, update, Action, put, flush}
use Rattle.protocol.specs.Log.{Write}
use Rattle.protocol.specs.Label.{belief}
use Rattle.protocol.specs.Write.{log_write}
use Rattle.protocol.specs.Host.{Change}
use Rattle.protocol.specs.Program.{Memory, idle, doing, logging, storing, did, safe, done, step, beyond, asked_write, asked_store}
use Rattle.protocol.specs.Even.{program_by}
use Rattle.protocol.specs.Pairs.{no_sets}
use Rattle.codecs.specs.Sector.{Sector}
use Rattle.codecs.specs.Shelf.{Shelf, slots, geometry, size}
use Rattle.codecs.specs.Labels.{label_of, ours}
use Rattle.codecs.proofs.Labels.{labels}
use Rattle.codecs.specs.Records.{counts, stamp_number}
use Rattle.codecs.proofs.Records.{records}
use Rattle.codecs.specs.Media.{stamps}
use Rattle.shards.proofs.Even.{any_code, any_sectors}
use Rattle.stages.specs.Limits.{most_stages}
use Rattle.stages.specs.State.{moved}
use Rattle.stages.specs.Stage.{stage_at, stage_of}
use Rattle.shelf.specs.Act.{Move}
use Rattle.shelf.specs.Step.{sound, step_move}
use Rattle.stages.specs.declared.state.State.{State}
use Rattle.stages.specs.declared.state.Kind.{Kind}
use Rattle.stages.specs.declared.state.Kind.TheVariants.{Writing}
use Rattle.refine.specs.Disks.{Disks, cur_of}
use Rattle.refine.specs.Keeps.{Works}
use Rattle.refine.specs.ToDo.{stamp_in, under_of, left_of, to_do, write_each}
use Rattle.refine.specs.Steps.{Present, Can, Narrow, Fair, Moved, At, Does}
use Rattle.refine.proofs.Steps.{first_narrow, step_does}
use Rattle.refine.specs.Tied.{own_of, own_before, write_memory, memory_by, memory_with, program_of}
use Rattle.refine.specs.WriteList.{Writes}
use Rattle.refine.proofs.WriteList.{log_list, store_list, left_split, left_any_image}
use Rattle.refine.specs.Writes.{head_or, rest, TiedWrite, F, N, M, T, Asks, asked_log, write_asked}

cancel : {A : Type 0} (l m b : List A) → l ++ b ≡ m ++ b → l ≡ m
cancel [] [] b e = refl
cancel [] (y ∷ m) b e = absurd (let q : length b ≡ suc (length (m ++ b)) = ap length e in omega (arith, length-append m b))
cancel (x ∷ l) [] b e = absurd (let q : suc (length (l ++ b)) ≡ length b = ap length e in omega (arith, length-append l b))
cancel (x ∷ l) (y ∷ m) b e = ap₂ (λ a c. a ∷ c) (ap (head_or x) e) (cancel l m b (ap rest e))

module _ (z : Shelf) where
  module _ (w : Write Sector) (s : State) (work img : List ℕ) (h : Writes z s work w) where
    -- it is the same write when the cursor has moved
    writes_moved : (t : State) → Moved s t → Writes z t work w
    writes_moved t e =
        subst (λ (x : State). Writes z x work w) (sym e)
        (record { kind = h.kind; stripe = h.stripe; changes = h.changes; strips = h.strips; involves = h.involves; works = h.works })

    by_kind : (t : State) (to : List ℕ) → Moved s t → memory_with z w t work to ≡ write_memory z w t work (cur_of z to)
    by_kind t to e = ap (λ (k : Kind). memory_by k z t (write_memory z w t work (cur_of z to)) (to_do z t work to)) (writes_moved t e).kind

    memory_late : (t : State) (to : List ℕ) (l : List (Action Sector)) → Moved s t → 2 ≤ t.cursor.stage → to_do z t work to ≡ l → memory_with z w t work to ≡ (M z w s work img h) l
    unfolding write_memory to_do
    memory_late t to l e late q =
        by_kind t to e
        ∙ ap (λ (b : Bool). cond b (doing (logging w) (left_of z work (cur_of z to) (2 - t.cursor.stage) t) (own_before z t) (own_of z t t.next))
        (doing (storing w) (left_of z work (cur_of z to) most_stages t) (own_before z t) (own_of z t t.next))) (le-ltb t.cursor.stage 2 late)
        ∙ ap₂ (λ (a : List (Action Sector)) (x : State). doing (storing w) a (own_before z x) (own_of z x x.next)) q e

    memory_early : (t : State) (to : List ℕ) (l : List (Action Sector)) → Moved s t → t.cursor.stage < 2 → left_of z work (cur_of z to) (2 - t.cursor.stage) t ≡ l → memory_with z w t work to ≡ (N z w s work img h) l
    unfolding write_memory
    memory_early t to l e early q =
        by_kind t to e
        ∙ ap (λ (b : Bool). cond b (doing (logging w) (left_of z work (cur_of z to) (2 - t.cursor.stage) t) (own_before z t) (own_of z t t.next))
        (doing (storing w) (left_of z work (cur_of z to) most_stages t) (own_before z t) (own_of z t t.next))) (lt-ltb t.cursor.stage 2 early)
        ∙ ap₂ (λ (a : List (Action Sector)) (x : State). doing (logging w) a (own_before z x) (own_of z x x.next)) q e

    -- of the log part, what is left after a step
    log_rest : (t : State) (to : List ℕ) (l : List (Action Sector)) → Moved s t → t.cursor.stage < 2 → to_do z t work to ≡ l ++ (T z w s work img h) → left_of z work (cur_of z to) (2 - t.cursor.stage) t ≡ l
    unfolding to_do
    log_rest t to l e early q =
        cancel (left_of z work (cur_of z to) (2 - t.cursor.stage) t) l (T z w s work img h)
        (ap (λ (a : List (Action Sector)). left_of z work (cur_of z to) (2 - t.cursor.stage) t ++ a) (sym same)
        ∙ sym (left_split z t work w (writes_moved t e) (cur_of z to) early) ∙ q)
      where
        same : left_of z work (cur_of z to) most_stages (moved t 2 0 0) ≡ (T z w s work img h)
        same = ap (λ (x : State). left_of z work (cur_of z to) most_stages (moved x 2 0 0)) e ∙ left_any_image z (moved s 2 0 0) work w (writes_moved (moved s 2 0 0) refl) (F z w s work img h) (cur_of z to) most_stages

    -- ---- the program's steps

    stores : (a : Action Sector) (l : List (Action Sector)) → program_of z ((M z w s work img h) (a ∷ l)) (F z w s work img h) step ≡ ((M z w s work img h) l, did a)
    unfolding program_by
    stores a l = refl

    logs : (a : Action Sector) (l : List (Action Sector)) → program_of z ((N z w s work img h) (a ∷ l)) (F z w s work img h) step ≡ ((N z w s work img h) l, did a)
    unfolding program_by
    logs a l = refl

    is_safe : program_of z ((N z w s work img h) []) (F z w s work img h) step ≡ (asked_store (size z) (no_sets (slots z)) (labels z) (records z) (any_code z) stamps (any_sectors z) w (own_before z s) (own_of z s s.next), safe)
    unfolding program_by
    is_safe = refl

    ends : program_of z ((M z w s work img h) []) (F z w s work img h) step ≡ (idle (own_of z s s.next), done (storing w))
    unfolding program_by
    ends = refl

    -- ---- the store part

    module _ (m : Move) (b : Memory Sector) (first : (memory_with z w s work img ≡ b) ⊎ (program_of z (memory_with z w s work img) (F z w s work img h) step ≡ (b, safe))) (late : (i : ℕ) → At z work img s i → 2 ≤ i) where
      store_tied : (l : List (Action Sector)) → b ≡ (M z w s work img h) l → Does z work img s m l → (TiedWrite z) w s work img m
      store_tied [] e d =
          record {
            before = b;
            first = first;
            reply = done (storing w);
            of_write = tt;
            steps = ap (λ (x : Memory Sector). program_of z x (F z w s work img h) step) e ∙ ends ∙ sym (ap (λ (x : Move). (memory_with z w x.stepped.state work x.image, done (storing w))) d);
            answers = ap (λ (x : Move). x.stepped.answer) d;
            acts = λ v c. c ∙ sym (ap (λ (x : Move). cur_of z x.image) d);
            goes_on = inr d;
            settles = ap (λ (x : Move). x.stepped.state.next) d;
          }
      store_tied (put k v ∷ l) e d =
          record {
            before = b;
            first = first;
            reply = did (put k v);
            of_write = tt;
            steps =
                ap (λ (x : Memory Sector). program_of z x (F z w s work img h) step) e ∙ stores (put k v) l
                ∙ sym (ap (λ (x : Move). (memory_with z w x.stepped.state work x.image, did (put k v))) d.is
                ∙ ap (λ (x : Memory Sector). (x, did (put k v))) (memory_late d.state _ l d.kept (late d.state.cursor.stage d.at) d.rest));
            answers = (d.here, ap (λ (x : Move). x.stepped.answer) d.is);
            acts = λ u c. ap (λ (f : Image Sector). update f k v) c ∙ sym d.becomes ∙ sym (ap (λ (x : Move). cur_of z x.image) d.is);
            goes_on = inl (subst (λ (x : Move). Fair z x.stepped.state work x.image × Writes z x.stepped.state work w) (sym d.is) (d.fair, writes_moved d.state d.kept));
            settles = ap (λ (x : Move). x.stepped.state.next) d.is ∙ ap (λ (x : State). x.next) d.kept;
          }
      store_tied (flush e ∷ l) q d =
          record {
            before = b;
            first = first;
            reply = did (flush e);
            of_write = tt;
            steps =
                ap (λ (x : Memory Sector). program_of z x (F z w s work img h) step) q ∙ stores (flush e) l
                ∙ sym (ap (λ (x : Move). (memory_with z w x.stepped.state work x.image, did (flush e))) d.is
                ∙ ap (λ (x : Memory Sector). (x, did (flush e))) (memory_late d.state img l d.kept (late d.state.cursor.stage d.at) d.rest));
            answers = ap (λ (x : Move). x.stepped.answer) d.is;
            acts = λ u c. c ∙ sym (ap (λ (x : Move). cur_of z x.image) d.is);
            goes_on = inl (subst (λ (x : Move). Fair z x.stepped.state work x.image × Writes z x.stepped.state work w) (sym d.is) (d.fair, writes_moved d.state d.kept));
            settles = ap (λ (x : Move). x.stepped.state.next) d.is ∙ ap (λ (x : State). x.next) d.kept;
          }

    -- ---- the log part

    module _ (early : s.cursor.stage < 2) (m : Move) where
      -- a stage of the log part acts, where something of it is left
      still : (a : Action Sector) (l : List (Action Sector)) → left_of z work (F z w s work img h) (2 - s.cursor.stage) s ≡ a ∷ l → (i : ℕ) → At z work img s i → i < 2
      still a l e i t =
          ⊎_elim (λ (q : i < 2). q)
          (λ (q : 2 ≤ i).
          let none = t.passed (2 - s.cursor.stage) (omega arith) in
          absurd (let n : suc (length l) ≡ 0 = ap length (sym e ∙ none) in omega arith)) (lt_or_ge i 2)

      -- and a stage of the store part, where nothing is
      over : left_of z work (F z w s work img h) (2 - s.cursor.stage) s ≡ [] → (i : ℕ) → At z work img s i → 2 ≤ i
      over e i t = ⊎_elim (λ (q : i < 2). absurd (t.begun (2 - s.cursor.stage) (omega arith) e)) (λ (q : 2 ≤ i). q) (lt_or_ge i 2)

      log_tied : (l : List (Action Sector)) → left_of z work (F z w s work img h) (2 - s.cursor.stage) s ≡ l → Does z work img s m (l ++ (T z w s work img h)) → (TiedWrite z) w s work img m
      log_tied [] e d =
          store_tied m _ (inr (ap (λ (x : Memory Sector). program_of z x (F z w s work img h) step) (memory_early s img [] refl early e) ∙ is_safe)) (over e) (T z w s work img h)
          (ap (λ (l : List (Action Sector)). (M z w s work img h) l) (sym (store_list z s work w h (F z w s work img h)))) d
      log_tied (put k v ∷ l) e d =
          let t = still (put k v) l e d.state.cursor.stage d.at in
          record {
            before = memory_with z w s work img;
            first = inl refl;
            reply = did (put k v);
            of_write = tt;
            steps =
                ap (λ (x : Memory Sector). program_of z x (F z w s work img h) step) (memory_early s img (put k v ∷ l) refl early e) ∙ logs (put k v) l
                ∙ sym (ap (λ (x : Move). (memory_with z w x.stepped.state work x.image, did (put k v))) d.is
                ∙ ap (λ (x : Memory Sector). (x, did (put k v))) (memory_early d.state _ l d.kept t (log_rest d.state _ l d.kept t d.rest)));
            answers = (d.here, ap (λ (x : Move). x.stepped.answer) d.is);
            acts = λ u c. ap (λ (f : Image Sector). update f k v) c ∙ sym d.becomes ∙ sym (ap (λ (x : Move). cur_of z x.image) d.is);
            goes_on = inl (subst (λ (x : Move). Fair z x.stepped.state work x.image × Writes z x.stepped.state work w) (sym d.is) (d.fair, writes_moved d.state d.kept));
            settles = ap (λ (x : Move). x.stepped.state.next) d.is ∙ ap (λ (x : State). x.next) d.kept;
          }
      log_tied (flush c ∷ l) e d =
          let t = still (flush c) l e d.state.cursor.stage d.at in
          record {
            before = memory_with z w s work img;
            first = inl refl;
            reply = did (flush c);
            of_write = tt;
            steps =
                ap (λ (x : Memory Sector). program_of z x (F z w s work img h) step) (memory_early s img (flush c ∷ l) refl early e) ∙ logs (flush c) l
                ∙ sym (ap (λ (x : Move). (memory_with z w x.stepped.state work x.image, did (flush c))) d.is
                ∙ ap (λ (x : Memory Sector). (x, did (flush c))) (memory_early d.state img l d.kept t (log_rest d.state img l d.kept t d.rest)));
            answers = ap (λ (x : Move). x.stepped.answer) d.is;
            acts = λ u q. q ∙ sym (ap (λ (x : Move). cur_of z x.image) d.is);
            goes_on = inl (subst (λ (x : Move). Fair z x.stepped.state work x.image × Writes z x.stepped.state work w) (sym d.is) (d.fair, writes_moved d.state d.kept));
            settles = ap (λ (x : Move). x.stepped.state.next) d.is ∙ ap (λ (x : State). x.next) d.kept;
          }

    -- THE STEP OF A WRITE is the program's, or two of its steps
    pub write_tied : Fair z s work img → (TiedWrite z) w s work img (step_move s work img)
    unfolding to_do
    write_tied fair = ⊎_elim early late (lt_or_ge s.cursor.stage 2)
      where
        early : s.cursor.stage < 2 → (TiedWrite z) w s work img (step_move s work img)
        early l =
            log_tied l (step_move s work img) (left_of z work (F z w s work img h) (2 - s.cursor.stage) s) refl
            (subst (Does z work img s (step_move s work img)) (left_split z s work w h (F z w s work img h) l) (step_does z work img s fair))

        late : 2 ≤ s.cursor.stage → (TiedWrite z) w s work img (step_move s work img)
        late l =
            store_tied (step_move s work img) (memory_with z w s work img) (inl refl) (λ i t. omega (arith, t.on)) (to_do z s work img) (memory_late s img (to_do z s work img) refl l refl) (step_does z work img s fair)

  -- SO A WRITE BEGINS
  pub log_begins : (i s : State) (work img : List ℕ) (w : Write Sector) → (Asks z) i s work w → memory_with z w s work img ≡ (asked_log z) (own_of z i i.now) w
  unfolding write_memory
  log_begins i s work img w a =
      let at : s ≡ moved s 0 0 0 = λ j. record { now = s.now; next = s.next; absent = s.absent; epoch = s.epoch; count = s.count; marks = s.marks; kind = s.kind; cursor = a.cursor j } in
      let st : s.cursor.stage ≡ 0 = ap (λ (c : _). c.stage) a.cursor in
      let before : stamp_number (stamp_in s) - 1 ≡ (own_of z i i.now).count = omega (arith, ap (λ (e : ℕ). e * counts) a.epoch, a.count) in
      let mine : stamp_number (stamp_in s) ≡ suc (own_of z i i.now).count = omega (arith, ap (λ (e : ℕ). e * counts) a.epoch, a.count) in
      let l : left_of z work (cur_of z img) 2 s ≡ _ = ap (left_of z work (cur_of z img) 2) at ∙ log_list z s work w a.writes (cur_of z img) in
      memory_early w s work img a.writes s img _ refl (omega arith) (ap (λ (n : ℕ). left_of z work (cur_of z img) (2 - n) s) st ∙ l)
      ∙ (λ j. doing (logging w) (log_write (records z) (belief (size z) (label_of z (a.now j))) (mine j) w)
      (record { now = label_of z (a.now j); absent = beyond (slots z) (in_mask (a.absent j)); epoch = a.epoch j; count = before j })
      (record { now = label_of z (a.next j); absent = beyond (slots z) (in_mask (a.absent j)); epoch = a.epoch j; count = mine j }))

  -- A WRITE OF THE HOST'S, accepted in state i, begins as the protocol's
  pub write_begins : (i s : State) (work img : List ℕ) (f : Image Sector) (t : ℕ) (ch : Change Sector) → (Asks z) i s work ((write_asked z) i f t ch)
      → memory_with z ((write_asked z) i f t ch) s work img ≡ asked_write (size z) (no_sets (slots z)) (labels z) (records z) (any_code z) stamps (any_sectors z) (own_of z i i.now) f t ch
  write_begins i s work img f t ch a = log_begins i s work img ((write_asked z) i f t ch) a

  -- AND IT CAN BE CARRIED OUT: the slots that it is to put on are present, the stripe and the set of shards are the shelf's, the count is
  -- one of 8 bytes, and the work area has the stripe
  module _ (s : State) (work img : List ℕ) (in_range_lem : sound s ≡ true) (ours_now : ours z s.now ≡ true) (disks : Disks z img) where
    pub write_fair : s.kind ≡ Writing → s.cursor.sector ≡ 0 → Present z s.absent s.marks.redo → s.marks.stripe < stripes_of (geometry z) → s.marks.parts < 2 ^ slots z → s.count < counts → Works z work
        → Fair z s work img
    write_fair kind first here stripe shards count works =
        let c : (i : ℕ) → Can z s.absent (under_of s) work (stage_at s.kind s i) =
        λ i. subst (λ (k : Kind). Can z s.absent (under_of s) work (stage_at k s i)) (sym kind)
        (write_each (Can z s.absent (under_of s) work) tt s.marks (here, (λ d l e. stripe), shards, count, works) (here, (λ d l e. stripe), works) here i) in
        record {
          in_range_lem = in_range_lem;
          ours_now = ours_now;
          disks = disks;
          narrow = subst (Narrow z.c (stage_of s)) (sym first) (first_narrow z s.absent (under_of s) work (stage_of s) (c s.cursor.stage));
          stages = λ i l. c i;
        }
