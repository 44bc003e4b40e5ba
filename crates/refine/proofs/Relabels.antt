-- A request that ends with a label, whatever it does before: begin, and the rebuild. What is left of it, stage by stage, is begin's
-- list; and each step is the protocol's, whatever the program knew before the request. Assumes nothing.
use Rattle.std.specs.Prelude.{◌≡◌, Bool, true, false, not, ℕ, suc, ◌+◌}
use Rattle.std.proofs.Math.Path.{refl, ap}
use Rattle.std.proofs.Common.{sym, ap₂, subst, ◌∙◌, inl, inr, arith}
use Rattle.std.proofs.Math.Bool.{cond}
use mathlib.Core.List.{List, [], ◌∷◌, ◌++◌, append-nil}
use Rattle.label.specs.declared.fields.Label as bytes
use Rattle.protocol.specs.World.{Place, log, Image, update, Action, put, flush}
use Rattle.protocol.specs.Batch.{puts, flushes}
use Rattle.protocol.specs.Slots.{from, rows}
use Rattle.protocol.specs.Walk.{append_assoc}
use Rattle.protocol.specs.Rebuild.{wipe, wipe_batch, wiped_sectors}
use Rattle.protocol.specs.Program.{Own, idle, doing, labelling, did, done, step}
use Rattle.protocol.specs.Even.{program_by}
use Rattle.codecs.specs.Sector.{Sector}
use Rattle.codecs.proofs.Sector.{zeros}
use Rattle.codecs.specs.Shelf.{Shelf, slots}
use Rattle.codecs.specs.Labels.{ours}
use Rattle.codecs.proofs.Records.{records}
use Rattle.stages.specs.Limits.{most_stages}
use Rattle.stages.specs.State.{moved}
use Rattle.stages.specs.Stage.{round_stage, last_stage, begin_stage, stage_at, stage_of}
use Rattle.shelf.specs.Act.{Move}
use Rattle.shelf.specs.Step.{is_end, sound, step_move}
use Rattle.stages.specs.declared.state.State.{State}
use Rattle.stages.specs.declared.state.Kind.{Kind}
use Rattle.stages.specs.declared.state.Kind.TheVariants.{Beginning}
use Rattle.stages.specs.declared.stage.Stage.{Stage}
use Rattle.stages.specs.declared.stage.Stage.TheVariants.{Flush, Give, Clear, Erase}
use Rattle.refine.specs.Disks.{Disks, cur_of}
use Rattle.refine.specs.ToDo.{slots_from, told_at, copy_at, given, under_of, left_of, to_do, stage_same, begin_each}
use Rattle.refine.proofs.ToDo.{rows_fresh, left_ended}
use Rattle.refine.specs.Steps.{Present, Tells, Can, Narrow, Fair, Does}
use Rattle.refine.proofs.Steps.{first_narrow, step_does}
use Rattle.refine.specs.Tied.{own_of, program_of}
use Rattle.refine.specs.Relabels.{TiedLabel, N, X, erased, gives}

module _ (z : Shelf) where
  module _ (o : Own) (s : State) (work img : List ℕ) where
    does : (a : Action Sector) (l : List (Action Sector)) → program_of z ((N z o s work img) (a ∷ l)) (cur_of z img) step ≡ ((N z o s work img) l, did a)
    unfolding program_by
    does a l = refl

    ends : program_of z ((N z o s work img) []) (cur_of z img) step ≡ (idle (own_of z s s.next), done labelling)
    unfolding program_by
    ends = refl

    tied_by : (m : Move) (l : List (Action Sector)) → to_do z s work img ≡ l → Does z work img s m l → (TiedLabel z) o s work img m
    tied_by m [] e d =
        record {
          after = idle (own_of z s s.next);
          reply = done labelling;
          steps = ap (λ (l : List (Action Sector)). program_of z ((N z o s work img) l) (cur_of z img) step) e ∙ ends;
          answers = ap (λ (x : Move). x.stepped.answer) d;
          acts = λ v c. c ∙ sym (ap (λ (x : Move). cur_of z x.image) d);
          goes_on = inr (d, refl);
          settles = ap (λ (x : Move). x.stepped.state.next) d;
        }
    tied_by m (put k v ∷ l) e d =
        record {
          after = (N z o s work img) l;
          reply = did (put k v);
          steps = ap (λ (y : List (Action Sector)). program_of z ((N z o s work img) y) (cur_of z img) step) e ∙ does (put k v) l;
          answers = (d.here, ap (λ (x : Move). x.stepped.answer) d.is);
          acts = λ u c. ap (λ (f : Image Sector). update f k v) c ∙ sym d.becomes ∙ sym (ap (λ (x : Move). cur_of z x.image) d.is);
          goes_on =
              inl
              (subst
              (λ (x : Move). Fair z x.stepped.state work x.image × (x.stepped.state.kind ≡ s.kind) × (x.stepped.state.now ≡ s.now) × (x.stepped.state.absent ≡ s.absent) × ((N z o s work img) l ≡ doing labelling (to_do z x.stepped.state work x.image) o (own_of z x.stepped.state x.stepped.state.next)))
              (sym d.is) (d.fair, ap (λ (x : State). x.kind) d.kept, ap (λ (x : State). x.now) d.kept, ap (λ (x : State). x.absent) d.kept, sym (ap₂ (λ (y : List (Action Sector)) (x : State). doing labelling y o (own_of z x x.next)) d.rest d.kept)));
          settles = ap (λ (x : Move). x.stepped.state.next) d.is ∙ ap (λ (x : State). x.next) d.kept;
        }
    tied_by m (flush e ∷ l) q d =
        record {
          after = (N z o s work img) l;
          reply = did (flush e);
          steps = ap (λ (y : List (Action Sector)). program_of z ((N z o s work img) y) (cur_of z img) step) q ∙ does (flush e) l;
          answers = ap (λ (x : Move). x.stepped.answer) d.is;
          acts = λ u c. c ∙ sym (ap (λ (x : Move). cur_of z x.image) d.is);
          goes_on =
              inl
              (subst
              (λ (x : Move). Fair z x.stepped.state work x.image × (x.stepped.state.kind ≡ s.kind) × (x.stepped.state.now ≡ s.now) × (x.stepped.state.absent ≡ s.absent) × ((N z o s work img) l ≡ doing labelling (to_do z x.stepped.state work x.image) o (own_of z x.stepped.state x.stepped.state.next)))
              (sym d.is) (d.fair, ap (λ (x : State). x.kind) d.kept, ap (λ (x : State). x.now) d.kept, ap (λ (x : State). x.absent) d.kept, sym (ap₂ (λ (y : List (Action Sector)) (x : State). doing labelling y o (own_of z x x.next)) d.rest d.kept)));
          settles = ap (λ (x : Move). x.stepped.state.next) d.is ∙ ap (λ (x : State). x.next) d.kept;
        }

    -- THE STEP OF SUCH A REQUEST is the program's
    pub label_tied : Fair z s work img → (TiedLabel z) o s work img (step_move s work img)
    label_tied fair = tied_by (step_move s work img) (to_do z s work img) refl (step_does z work img s fair)

  -- ---- begin's list

  module _ (s : State) (work img : List ℕ) (kind : s.kind ≡ Beginning) where
    stage_is : (i : ℕ) → stage_of (moved s i 0 0) ≡ begin_stage s i
    stage_is i = stage_same s.kind s i 0 0 i ∙ ap (λ (k : Kind). stage_at k s i) kind

    staged : (i k : ℕ) (x : Stage) → begin_stage s i ≡ x → is_end x ≡ false
        → left_of z work (cur_of z img) (suc k) (moved s i 0 0) ≡ (X z s work img kind) x ++ left_of z work (cur_of z img) k (moved s (i + 1) 0 0)
    unfolding left_of
    staged i k x e n =
        ap (λ (b : Bool). cond b [] ((X z s work img kind) (stage_of (moved s i 0 0)) ++ left_of z work (cur_of z img) k (moved s (i + 1) 0 0))) (ap is_end (stage_is i ∙ e) ∙ n)
        ∙ ap (λ (y : Stage). (X z s work img kind) y ++ left_of z work (cur_of z img) k (moved s (i + 1) 0 0)) (stage_is i ∙ e)

    -- THE LIST OF BEGIN: a flush; labels of another shelf erased, one copy, flushed, and then the other, flushed; the record cleared, flushed;
    -- the disk prepared, flushed; and the label told to all, flushed
    pub begin_list : s.cursor ≡ record { stage = 0; slot = 0; sector = 0 }
        → to_do z s work img
        ≡ (X z s work img kind) (Flush s.marks.redo) ++ ((X z s work img kind) (Erase s.marks.parts s.marks.forward) ++ ((X z s work img kind) (Flush s.marks.parts)
        ++ ((X z s work img kind) (Erase s.marks.late (not s.marks.forward)) ++ ((X z s work img kind) (Flush s.marks.late)
        ++ ((X z s work img kind) (Clear s.marks.redo) ++ ((X z s work img kind) (Flush s.marks.redo)
        ++ ((X z s work img kind) (Give s.marks.prep s.marks.zeroed s.now) ++ ((X z s work img kind) (Flush s.marks.prep)
        ++ ((X z s work img kind) (Give s.marks.present 0 s.next) ++ (X z s work img kind) (Flush s.marks.present))))))))))
    unfolding to_do begin_stage last_stage round_stage
    begin_list first =
        ap (left_of z work (cur_of z img) most_stages) (λ j. record { now = s.now; next = s.next; absent = s.absent; epoch = s.epoch; count = s.count; marks = s.marks; kind = s.kind; cursor = first j })
        ∙ staged 0 13 (Flush s.marks.redo) refl refl ∙ on (Flush s.marks.redo)
        (staged 1 12 (Erase s.marks.parts s.marks.forward) refl refl ∙ on (Erase s.marks.parts s.marks.forward)
        (staged 2 11 (Flush s.marks.parts) refl refl ∙ on (Flush s.marks.parts)
        (staged 3 10 (Erase s.marks.late (not s.marks.forward)) refl refl ∙ on (Erase s.marks.late (not s.marks.forward))
        (staged 4 9 (Flush s.marks.late) refl refl ∙ on (Flush s.marks.late)
        (staged 5 8 (Clear s.marks.redo) refl refl ∙ on (Clear s.marks.redo)
        (staged 6 7 (Flush s.marks.redo) refl refl ∙ on (Flush s.marks.redo)
        (staged 7 6 (Give s.marks.prep s.marks.zeroed s.now) refl refl ∙ on (Give s.marks.prep s.marks.zeroed s.now)
        (staged 8 5 (Flush s.marks.prep) refl refl ∙ on (Flush s.marks.prep)
        (staged 9 4 (Give s.marks.present 0 s.next) refl refl ∙ on (Give s.marks.present 0 s.next)
        (staged 10 3 (Flush s.marks.present) refl refl ∙ on (Flush s.marks.present) over ∙ append-nil ((X z s work img kind) (Flush s.marks.present))))))))))))
      where
        on : (x : Stage) {a b : List (Action Sector)} → a ≡ b → (X z s work img kind) x ++ a ≡ (X z s work img kind) x ++ b
        on x e = ap (λ (l : List (Action Sector)). (X z s work img kind) x ++ l) e

        over : left_of z work (cur_of z img) (suc 2) (moved s 11 0 0) ≡ []
        over = left_ended z work (cur_of z img) 2 (moved s 11 0 0) (ap is_end (stage_is 11))

    -- a stage and its flush, on these slots, as the protocol has them
    module _ (mask : ℕ) (ds : List ℕ) (are : slots_from (slots z) mask 0 ≡ ds) (others : List (Action Sector)) where
      pub erase_is : (odd : Bool) → (X z s work img kind) (Erase mask odd) ++ ((X z s work img kind) (Flush mask) ++ others) ≡ (puts (λ k. zeros) (rows (copy_at odd) (0 ∷ []) ds) ++ flushes ds) ++ others
      erase_is odd =
          ap (λ (l : List ℕ). puts (λ k. zeros) (rows (copy_at odd) (0 ∷ []) l) ++ (flushes l ++ others)) are
          ∙ sym (append_assoc (puts (λ k. zeros) (rows (copy_at odd) (0 ∷ []) ds)) (flushes ds) others)

      pub give_is : (zeroed : ℕ) (l : bytes.Label)
          → (X z s work img kind) (Give mask zeroed l) ++ ((X z s work img kind) (Flush mask) ++ others) ≡ (puts (given z zeroed l) (rows (told_at l) (0 ∷ []) ds) ++ flushes ds) ++ others
      give_is zeroed l =
          ap (λ (x : List ℕ). puts (given z zeroed l) (rows (told_at l) (0 ∷ []) x) ++ (flushes x ++ others)) are
          ∙ sym (append_assoc (puts (given z zeroed l) (rows (told_at l) (0 ∷ []) ds)) (flushes ds) others)

      pub clear_is : (X z s work img kind) (Clear mask) ++ ((X z s work img kind) (Flush mask) ++ others) ≡ (puts (λ k. zeros) (rows log (from 0 (suc z.c)) ds) ++ flushes ds) ++ others
      clear_is =
          let n : z.c + 1 ≡ suc z.c = omega arith in
          ap (λ (ks : List Place). puts (λ k. zeros) ks ++ ((X z s work img kind) (Flush mask) ++ others)) (rows_fresh log (z.c + 1) (slots_from (slots z) mask 0))
          ∙ ap₂ (λ (c : ℕ) (x : List ℕ). puts (λ k. zeros) (rows log (from 0 c) x) ++ (flushes x ++ others)) n are
          ∙ sym (append_assoc (puts (λ k. zeros) (rows log (from 0 (suc z.c)) ds)) (flushes ds) others)

    -- so clearing the record of one slot is the protocol's wipe
    pub wipe_is : (mask d : ℕ) → slots_from (slots z) mask 0 ≡ d ∷ [] → (others : List (Action Sector)) → (X z s work img kind) (Clear mask) ++ ((X z s work img kind) (Flush mask) ++ others) ≡ wipe (records z) d ++ others
    unfolding wipe_batch wiped_sectors
    wipe_is mask d are others = clear_is mask (d ∷ []) are others

    -- BEGIN OF SLOT d as the protocol's batches: the flush, what is expelled from the one copy and from the other, the wipe, the preparation and
    -- the round; es, fs, ps and ds are the slots of each
    pub begin_batches : s.cursor ≡ record { stage = 0; slot = 0; sector = 0 } → (d : ℕ) (es fs ps ds : List ℕ)
        → slots_from (slots z) s.marks.redo 0 ≡ d ∷ [] → slots_from (slots z) s.marks.parts 0 ≡ es → slots_from (slots z) s.marks.late 0 ≡ fs
        → slots_from (slots z) s.marks.prep 0 ≡ ps → slots_from (slots z) s.marks.present 0 ≡ ds
        → to_do z s work img
        ≡ flushes (d ∷ []) ++ ((erased z s work img kind) s.marks.forward es ++ ((erased z s work img kind) (not s.marks.forward) fs
        ++ (wipe (records z) d ++ ((gives z s work img kind) s.marks.zeroed s.now ps ++ (gives z s work img kind) 0 s.next ds))))
    begin_batches first d es fs ps ds one parts late prep present =
        begin_list first
        ∙ ap₂ (λ (a b : List (Action Sector)). a ++ b) (ap (λ (l : List ℕ). flushes l) one)
        (erase_is s.marks.parts es parts _ s.marks.forward
        ∙ ap (λ (l : List (Action Sector)). (erased z s work img kind) s.marks.forward es ++ l)
        (erase_is s.marks.late fs late _ (not s.marks.forward)
        ∙ ap (λ (l : List (Action Sector)). (erased z s work img kind) (not s.marks.forward) fs ++ l)
        (wipe_is s.marks.redo d one _
        ∙ ap (λ (l : List (Action Sector)). wipe (records z) d ++ l)
        (give_is s.marks.prep ps prep _ s.marks.zeroed s.now
        ∙ ap (λ (l : List (Action Sector)). (gives z s work img kind) s.marks.zeroed s.now ps ++ l)
        (ap (λ (l : List ℕ). puts (given z 0 s.next) (rows (told_at s.next) (0 ∷ []) l) ++ flushes l) present)))))

    -- AND IT CAN BE CARRIED OUT: its slots are present, and its labels can be told
    pub begin_fair : sound s ≡ true → ours z s.now ≡ true → Disks z img → s.cursor.sector ≡ 0 → Present z s.absent s.marks.redo → Present z s.absent s.marks.parts → Present z s.absent s.marks.late
        → Present z s.absent s.marks.prep → Present z s.absent s.marks.present → Tells z s.now → Tells z s.next → Fair z s work img
    begin_fair in_range_lem ours_now disks first redo parts late prep present now next =
        let c : (i : ℕ) → Can z s.absent (under_of s) work (stage_at s.kind s i) =
        λ i. subst (λ (k : Kind). Can z s.absent (under_of s) work (stage_at k s i)) (sym kind)
        (begin_each (Can z s.absent (under_of s) work) tt s redo parts late prep present parts late redo (prep, now) (present, next) i) in
        record {
          in_range_lem = in_range_lem;
          ours_now = ours_now;
          disks = disks;
          narrow = subst (Narrow z.c (stage_of s)) (sym first) (first_narrow z s.absent (under_of s) work (stage_of s) (c s.cursor.stage));
          stages = λ i l. c i;
        }
