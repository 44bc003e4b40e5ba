-- A STEP OF THE CODE IS A STEP OF THE PROTOCOL'S PROGRAM: what the program remembers beside a state of the code, and that the two
-- stay together over a step: the answers say the same, and the disks hold the same. Assumes nothing.
use Rattle.std.specs.Prelude.{◌≡◌, ◌⊎◌, Bool}
use Rattle.std.proofs.Math.Path.{refl, sym, ap, ap₂}
use Rattle.std.proofs.Common.{subst, ◌∙◌}
use Rattle.std.proofs.Math.Logic.{inl, inr}
use Rattle.std.proofs.Math.Bool.{true, cond}
use Rattle.std.proofs.lemmas.Bool.{false≢true}
use mathlib.Core.List.{List, [], ◌∷◌, ◌++◌}
use Prim.Native.Nat.{ℕ, zero, suc}
use Rattle.disk.specs.Tests.{and_left, and_right}
use Rattle.label.specs.Fields.{fits_of}
use Rattle.label.specs.declared.fields.Label as bytes
use Rattle.protocol.specs.World.{Image, update, World, Action, put, flush}
use Rattle.protocol.specs.Program.{Memory, idle, creating, starting, labelling, Reply, did, done, step}
use Rattle.protocol.specs.Machine.{effect}
use Rattle.protocol.specs.Even.{program_by}
use Rattle.codecs.specs.Sector.{Sector}
use Rattle.codecs.specs.Shelf.{Shelf}
use Rattle.stages.specs.State.{moved}
use Rattle.shelf.specs.Act.{Move}
use Rattle.stages.specs.Limits.{most_stages}
use Rattle.stages.specs.Stage.{stage_at, stage_of}
use Rattle.shelf.specs.Step.{is_end, on_stage, finished, under_way, sound, step_move}
use Rattle.stages.specs.declared.state.State.{State}
use Rattle.stages.specs.declared.state.Kind.{Kind}
use Rattle.stages.specs.declared.state.Kind.TheVariants.{Nothing, Idle, Creating, Starting, Labelling, Writing, Beginning, Filling}
use Rattle.stages.specs.declared.stage.Stage.{Stage}
use Rattle.stages.specs.declared.stage.Stage.TheVariants.{Flush, Give, Wipe, Restore, Clear, Erase, End}
use Rattle.stages.specs.Told.{Answer}
use Rattle.stages.specs.Told as answer
use Rattle.refine.specs.Disks.{cur_of}
use Rattle.refine.specs.ToDo.{under_of, acts_of, left_of, to_do, round_each, create_each, start_each, begin_each}
use Rattle.refine.specs.Steps.{Can, Fair, Moved, Does}
use Rattle.refine.proofs.Steps.{step_does}
use Rattle.refine.specs.Tied.{own_of, write_in, write_memory, memory_by, memory_of, plain, Same, program_of, Tied, W}

-- what holds of each stage that does not look there holds of each of theirs
plain_each : (P : Stage → Type 0) → P End → ((m : ℕ) → P (Flush m)) → ((m o : ℕ) (l : bytes.Label) → P (Give m o l)) → ((m : ℕ) → P (Wipe m)) → ((m t : ℕ) → P (Restore m t))
    → ((m : ℕ) → P (Clear m)) → ((m : ℕ) (o : Bool) → P (Erase m o)) → (k : Kind) → plain k ≡ true → (s : State) (i : ℕ) → P (stage_at k s i)
plain_each P end flushed give wipe restore clear erase Nothing e s i = end
plain_each P end flushed give wipe restore clear erase Idle e s i = end
plain_each P end flushed give wipe restore clear erase Creating e s i = create_each P end s (flushed _) (give _ _ _) i
plain_each P end flushed give wipe restore clear erase Starting e s i =
    start_each P end s (flushed _) (flushed _) (flushed _) (flushed _) (flushed _) (give _ _ _) (give _ _ _) (give _ _ _) (give _ _ _) (give _ _ _) (λ q. restore _ _) (λ q. wipe _) i
plain_each P end flushed give wipe restore clear erase Labelling e s i = round_each P end s.marks.present s.next (give _ _ _) (flushed _) i
plain_each P end flushed give wipe restore clear erase Writing e s i = absurd (false≢true e)
plain_each P end flushed give wipe restore clear erase Filling e s i = absurd (false≢true e)
plain_each P end flushed give wipe restore clear erase Beginning e s i =
    begin_each P end s (flushed _) (flushed _) (flushed _) (flushed _) (flushed _) (erase _ _) (erase _ _) (clear _) (give _ _ _) (give _ _ _) i

module _ (z : Shelf) (work other : List ℕ) where
  -- they can be carried out with any work area
  pub fair_work : (s : State) (img : List ℕ) → plain s.kind ≡ true → Fair z s work img → Fair z s other img
  fair_work s img e fair =
      record {
        in_range_lem = fair.in_range_lem;
        ours_now = fair.ours_now;
        disks = fair.disks;
        narrow = fair.narrow;
        stages =
            λ i l.
            plain_each (λ x. Can z s.absent (under_of s) work x → Can z s.absent (under_of s) other x) (λ c. c) (λ m c. c) (λ m o l c. c) (λ m c. c) (λ m t c. c) (λ m c. c) (λ m o c. c) s.kind e s i
            (fair.stages i l);
      }

  -- and do the same with any
  left_work : (f : Image Sector) (k : ℕ) (s : State) → plain s.kind ≡ true → left_of z work f k s ≡ left_of z other f k s
  unfolding left_of
  left_work f zero s e = refl
  left_work f (suc k) s e =
      ap₂ (λ (a l : List (Action Sector)). cond (is_end (stage_of s)) [] (a ++ l))
      (plain_each (λ x. (d j : ℕ) → acts_of z (under_of s) work f x d j ≡ acts_of z (under_of s) other f x d j) (λ d j. refl) (λ m d j. refl) (λ m o l d j. refl) (λ m d j. refl) (λ m t d j. refl) (λ m d j. refl)
      (λ m o d j. refl) s.kind e s s.cursor.stage s.cursor.slot s.cursor.sector)
      (left_work f k (on_stage s) e)

  -- the same is remembered of them
  pub memory_work : (s : State) (img : List ℕ) → plain s.kind ≡ true → memory_of z s work img ≡ memory_of z s other img
  unfolding memory_of to_do
  memory_work s img e = ap (memory_by s.kind z s _) (left_work (cur_of z img) most_stages s e) ∙ by s.kind e
    where
      by : (k : Kind) → plain k ≡ true
          → memory_by k z s (write_memory z (write_in z s work) s work (cur_of z img)) (left_of z other (cur_of z img) most_stages s) ≡ memory_by k z s (write_memory z (write_in z s other) s other (cur_of z img)) (left_of z other (cur_of z img) most_stages s)
      by Nothing q = refl
      by Idle q = refl
      by Creating q = refl
      by Starting q = refl
      by Labelling q = refl
      by Writing q = absurd (false≢true q)
      by Beginning q = refl
      by Filling q = absurd (false≢true q)

module _ (z : Shelf) where
  module _ (s : State) (work img : List ℕ) where
    -- a step with an action left
    steps_on : (k : Kind) → under_way k ≡ true → plain k ≡ true → (w : Memory Sector) (a : Action Sector) (l : List (Action Sector)) → (program_of z) (memory_by k z s w (a ∷ l)) (cur_of z img) step ≡ (memory_by k z s w l, did a)
    unfolding program_by
    steps_on Nothing e p w a l = absurd (false≢true e)
    steps_on Idle e p w a l = absurd (false≢true e)
    steps_on Creating e p w a l = refl
    steps_on Starting e p w a l = refl
    steps_on Labelling e p w a l = refl
    steps_on Writing e p w a l = absurd (false≢true p)
    steps_on Beginning e p w a l = refl
    steps_on Filling e p w a l = absurd (false≢true p)

    -- and with none
    ends : (k : Kind) → under_way k ≡ true → plain k ≡ true → (w : Memory Sector)
        → (r : Reply Sector) × ((program_of z) (memory_by k z s w []) (cur_of z img) step ≡ (idle (own_of z s s.next), r)) × ((a : Answer) → a ≡ answer.Done → Same z a r) × ((v : World Sector) → effect v r ≡ v)
    unfolding program_by
    ends Nothing e p w = absurd (false≢true e)
    ends Idle e p w = absurd (false≢true e)
    ends Creating e p w = (done creating, refl, (λ a q. q), (λ v. refl))
    ends Starting e p w = (done starting, refl, (λ a q. q), (λ v. refl))
    ends Labelling e p w = (done labelling, refl, (λ a q. q), (λ v. refl))
    ends Writing e p w = absurd (false≢true p)
    ends Beginning e p w = (done labelling, refl, (λ a q. q), (λ v. refl))
    ends Filling e p w = absurd (false≢true p)

    -- only the cursor moves: the same is remembered, but for what is left
    memory_moved : (t : State) (to : List ℕ) (w : Memory Sector) (l : List (Action Sector)) → plain s.kind ≡ true → Moved s t → to_do z t work to ≡ l → memory_of z t work to ≡ memory_by s.kind z s w l
    unfolding memory_of
    memory_moved t to w l p e q = ap₂ (λ (x : State) (y : List (Action Sector)). memory_by x.kind z x (write_memory z (write_in z t work) t work (cur_of z to)) y) e q ∙ same s.kind p
      where
        same : (k : Kind) → plain k ≡ true → memory_by k z (moved s t.cursor.stage t.cursor.slot t.cursor.sector) (write_memory z (write_in z t work) t work (cur_of z to)) l ≡ memory_by k z s w l
        same Nothing o = refl
        same Idle o = refl
        same Creating o = refl
        same Starting o = refl
        same Labelling o = refl
        same Writing o = absurd (false≢true o)
        same Beginning o = refl
        same Filling o = absurd (false≢true o)

    tied_by : (m : Move) (l : List (Action Sector)) → under_way s.kind ≡ true → plain s.kind ≡ true → to_do z s work img ≡ l → Does z work img s m l → (Tied z) s work img m
    unfolding memory_of
    tied_by m [] busy p e h =
        let r = ends s.kind busy p (W z s work img) in
        record {
          reply = r.0;
          steps = ap (λ (l : List (Action Sector)). (program_of z) (memory_by s.kind z s (W z s work img) l) (cur_of z img) step) e ∙ r.1 ∙ sym (ap (λ (x : Move). (memory_of z x.stepped.state work x.image, r.0)) h);
          answers = r.2 m.stepped.answer (ap (λ (x : Move). x.stepped.answer) h);
          acts = λ w c. ap (λ (v : World Sector). v.cur) (r.3 w) ∙ c ∙ sym (ap (λ (x : Move). cur_of z x.image) h);
          goes_on = inr h;
          settles = ap (λ (x : Move). x.stepped.state.next) h;
          keeps_plain = ap (λ (x : Move). plain x.stepped.state.kind) h;
        }
    tied_by m (put k v ∷ l) busy p e h =
        record {
          reply = did (put k v);
          steps =
              ap (λ (y : List (Action Sector)). (program_of z) (memory_by s.kind z s (W z s work img) y) (cur_of z img) step) e ∙ steps_on s.kind busy p (W z s work img) (put k v) l
              ∙ sym (ap (λ (x : Move). (memory_of z x.stepped.state work x.image, did (put k v))) h.is ∙ ap (λ (y : Memory Sector). (y, did (put k v))) (memory_moved h.state _ (W z s work img) l p h.kept h.rest));
          answers = (h.here, ap (λ (x : Move). x.stepped.answer) h.is);
          acts = λ w c. ap (λ (f : Image Sector). update f k v) c ∙ sym h.becomes ∙ sym (ap (λ (x : Move). cur_of z x.image) h.is);
          goes_on = inl (subst (λ (x : Move). Fair z x.stepped.state work x.image) (sym h.is) h.fair);
          settles = ap (λ (x : Move). x.stepped.state.next) h.is ∙ ap (λ (x : State). x.next) h.kept;
          keeps_plain = ap (λ (x : Move). plain x.stepped.state.kind) h.is ∙ ap (λ (x : State). plain x.kind) h.kept ∙ p;
        }
    tied_by m (flush d ∷ l) busy p e h =
        record {
          reply = did (flush d);
          steps =
              ap (λ (y : List (Action Sector)). (program_of z) (memory_by s.kind z s (W z s work img) y) (cur_of z img) step) e ∙ steps_on s.kind busy p (W z s work img) (flush d) l
              ∙ sym (ap (λ (x : Move). (memory_of z x.stepped.state work x.image, did (flush d))) h.is ∙ ap (λ (y : Memory Sector). (y, did (flush d))) (memory_moved h.state img (W z s work img) l p h.kept h.rest));
          answers = ap (λ (x : Move). x.stepped.answer) h.is;
          acts = λ w c. c ∙ sym (ap (λ (x : Move). cur_of z x.image) h.is);
          goes_on = inl (subst (λ (x : Move). Fair z x.stepped.state work x.image) (sym h.is) h.fair);
          settles = ap (λ (x : Move). x.stepped.state.next) h.is ∙ ap (λ (x : State). x.next) h.kept;
          keeps_plain = ap (λ (x : Move). plain x.stepped.state.kind) h.is ∙ ap (λ (x : State). plain x.kind) h.kept ∙ p;
        }

    pub busy_in : Fair z s work img → under_way s.kind ≡ true
    unfolding sound
    busy_in fair = and_left (under_way s.kind) _ (and_right (fits_of s.now) _ fair.in_range_lem)

    step_tied_to : plain s.kind ≡ true → Fair z s work img → (Tied z) s work img (step_move s work img)
    step_tied_to p fair = tied_by (step_move s work img) (to_do z s work img) (busy_in fair) p refl (step_does z work img s fair)

  -- what a request keeps in the work area is the same to it, where it keeps nothing
  tied_work : (s : State) (work other img : List ℕ) (m : Move) → plain s.kind ≡ true → (Tied z) s work img m → (Tied z) s other img m
  tied_work s work other img m p h =
      record {
        reply = h.reply;
        steps =
            ap (λ (x : Memory Sector). (program_of z) x (cur_of z img) step) (memory_work z other work s img p) ∙ h.steps
            ∙ ap (λ (x : Memory Sector). (x, h.reply)) (memory_work z work other m.stepped.state m.image h.keeps_plain);
        answers = h.answers;
        acts = h.acts;
        goes_on = on h.goes_on;
        settles = h.settles;
        keeps_plain = h.keeps_plain;
      }
    where
      on : Fair z m.stepped.state work m.image ⊎ (m ≡ finished s img) → Fair z m.stepped.state other m.image ⊎ (m ≡ finished s img)
      on (inl f) = inl (fair_work z work other m.stepped.state m.image h.keeps_plain f)
      on (inr e) = inr e

  -- THE STEP OF THE CODE is the program's, with any work area, where the request keeps nothing there
  pub step_tied : (s : State) (work other img : List ℕ) → plain s.kind ≡ true → Fair z s work img → (Tied z) s work img (step_move s other img)
  step_tied s work other img p fair = tied_work s other work img (step_move s other img) p (step_tied_to s other img p (fair_work z work other s img p fair))
