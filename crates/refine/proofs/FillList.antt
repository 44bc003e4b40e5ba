-- THE REBUILD, as the protocol has it: what is left of it when it begins is the protocol's fill, strip by strip, and then the round with its label;
-- and it can be carried out. So each of its steps is the program's (label-tied). Assumes nothing.
use Rattle.std.specs.Prelude.{◌≡◌, Bool, true, false, not, length}
use Rattle.std.proofs.Math.Path.{refl, sym, ap, subst, fun_ext}
use Rattle.std.proofs.Common.{ap₂, ◌∙◌, suc-mul, arith}
use Rattle.std.proofs.Math.Bool.{cond}
use mathlib.Core.List.{List, [], ◌∷◌, ◌++◌, append-nil}
use Prim.Native.Nat.{ℕ, zero, suc, ◌+◌, ◌-◌, ◌*◌, ◌≤◌, ◌<◌}
use Rattle.std.proofs.Math.Arith.{digits_div, digits_mod}
use Rattle.disk.specs.Limits.{sector_bytes}
use Rattle.protocol.specs.World.{Place, strip, Image, Action}
use Rattle.protocol.specs.Batch.{puts, flushes}
use Rattle.protocol.specs.Slots.{from, row, rows}
use Rattle.protocol.specs.Walk.{append_assoc}
use Rattle.protocol.specs.Label.{Label, believed, round}
use Rattle.protocol.specs.Rebuild.{fill, fill_batch, filled_sectors}
use Rattle.protocol.specs.Program.{doing, labelling, told_to}
use Rattle.protocol.proofs.Phases.{change_phases}
use Rattle.protocol.specs.Pairs.{no_sets}
use Rattle.codecs.specs.Sector.{Sector}
use Rattle.codecs.specs.Shelf.{Shelf, slots, size}
use Rattle.codecs.specs.Labels.{label_of, ours}
use Rattle.codecs.proofs.Labels.{labels}
use Rattle.codecs.proofs.Records.{records}
use Rattle.codecs.specs.Media.{stamps}
use Rattle.shards.proofs.Even.{any_code, any_sectors}
use Rattle.stages.specs.Limits.{most_stages}
use Rattle.stages.specs.State.{moved}
use Rattle.stages.specs.Stage.{round_stage, fill_stage, stage_at, stage_of}
use Rattle.shelf.specs.Step.{is_end, on_stage, sound, step_move}
use Rattle.stages.specs.declared.state.State.{State}
use Rattle.stages.specs.declared.state.Kind.{Kind}
use Rattle.stages.specs.declared.state.Kind.TheVariants.{Filling}
use Rattle.stages.specs.declared.stage.Stage.{Stage}
use Rattle.stages.specs.declared.stage.Stage.TheVariants.{Flush, Give, Fill}
use Rattle.rebuilds.specs.On.{first_stage}
use Rattle.refine.specs.Disks.{Disks, cur_of, seen_of}
use Rattle.refine.proofs.Disks.{seen_present}
use Rattle.refine.specs.Fills.{Fillable}
use Rattle.refine.specs.Lists.{Says}
use Rattle.refine.proofs.Lists.{round_is}
use Rattle.refine.specs.ToDo.{slots_from, rows_from, fill_at, refilled, under_of, acts_of, left_of, to_do, stage_same, fill_later, fill_each, rebuilt_same}
use Rattle.refine.proofs.ToDo.{left_ended}
use Rattle.refine.specs.Steps.{Present, Tells, Can, Narrow, Fair}
use Rattle.refine.proofs.Steps.{first_narrow}
use Rattle.refine.specs.Tied.{own_of, write_in, write_memory, memory_by, memory_of}
use Rattle.refine.specs.Relabels.{TiedLabel}
use Rattle.refine.proofs.Relabels.{label_tied}
use Rattle.refine.specs.FillList.{at, X, Q, Behind, Rebuilt}

-- ---- sectors in a row are strips in a row

from_append : (a n m : ℕ) → from a (n + m) ≡ from a n ++ from (a + n) m
from_append a zero m = let p : 0 + m ≡ m = omega arith in let q : a ≡ a + 0 = omega arith in ap₂ from q p
from_append a (suc n) m =
    let p : suc n + m ≡ suc (n + m) = omega arith in
    let q : suc a + n ≡ a + suc n = omega arith in
    ap (from a) p ∙ ap (λ (l : List ℕ). a ∷ l) (from_append (suc a) n m ∙ ap (λ (b : ℕ). from (suc a) n ++ from b m) q)

row_append : (mk : ℕ → ℕ → Place) (d : ℕ) (a b : List ℕ) → row mk d (a ++ b) ≡ row mk d a ++ row mk d b
row_append mk d [] b = refl
row_append mk d (j ∷ a) b = ap (λ (l : List Place). mk d j ∷ l) (row_append mk d a b)

module _ (z : Shelf) (first d : ℕ) where
  -- the sectors of one strip
  one_strip : (i n j : ℕ) → j + n ≤ z.c → row (fill_at z first) d (from (i * z.c + j) n) ≡ row (at z first d) (first + i) (from j n)
  one_strip i zero j l = refl
  one_strip i (suc n) j l =
      let h : j < z.c = omega arith in
      let q : suc (i * z.c + j) ≡ i * z.c + suc j = omega arith in
      ap₂ (λ (k : Place) (x : List Place). k ∷ x) (ap₂ (λ (t x : ℕ). strip d (first + t) x) (digits_div i h) (digits_mod i h))
      (ap (λ (a : ℕ). row (fill_at z first) d (from a n)) q ∙ one_strip i n (suc j) (omega arith))

  strips_from : (count i : ℕ) → row (fill_at z first) d (from (i * z.c) (count * z.c)) ≡ rows (at z first d) (from 0 z.c) (from (first + i) count)
  strips_from zero i = let q : 0 * z.c ≡ 0 = omega arith in ap (λ (n : ℕ). row (fill_at z first) d (from (i * z.c) n)) q
  strips_from (suc count) i =
      let n : suc count * z.c ≡ z.c + count * z.c = omega (arith, suc-mul count z.c) in
      let a : i * z.c ≡ i * z.c + 0 = omega arith in
      let b : i * z.c + z.c ≡ suc i * z.c = omega (arith, suc-mul i z.c) in
      let c : first + suc i ≡ suc (first + i) = omega arith in
      ap (λ (x : ℕ). row (fill_at z first) d (from (i * z.c) x)) n
      ∙ ap (row (fill_at z first) d) (from_append (i * z.c) z.c (count * z.c))
      ∙ row_append (fill_at z first) d (from (i * z.c) z.c) (from (i * z.c + z.c) (count * z.c))
      ∙ ap₂ (λ (x y : List Place). x ++ y) (ap (λ (x : ℕ). row (fill_at z first) d (from x z.c)) a ∙ one_strip i z.c 0 (omega arith))
      (ap (λ (x : ℕ). row (fill_at z first) d (from x (count * z.c))) b ∙ strips_from count (suc i) ∙ ap (λ (x : ℕ). rows (at z first d) (from 0 z.c) (from x count)) c)

  pub strips_rows : (count : ℕ) → rows_from (fill_at z first) (count * z.c) 0 (d ∷ []) ≡ rows (at z first d) (from 0 z.c) (from first count)
  strips_rows count =
      let n : count * z.c - 0 ≡ count * z.c = omega arith in
      let a : 0 ≡ 0 * z.c = omega arith in
      let f : first + 0 ≡ first = omega arith in
      append-nil (row (fill_at z first) d (from 0 (count * z.c - 0)))
      ∙ ap₂ (λ (x y : ℕ). row (fill_at z first) d (from x y)) a n ∙ strips_from count 0 ∙ ap (λ (x : ℕ). rows (at z first d) (from 0 z.c) (from x count)) f

module _ (z : Shelf) (s : State) (work img : List ℕ) (kind : s.kind ≡ Filling) where
  stage_is : (i : ℕ) → stage_of (moved s i 0 0) ≡ fill_stage s i
  stage_is i = stage_same s.kind s i 0 0 i ∙ ap (λ (k : Kind). stage_at k s i) kind

  staged : (i k : ℕ) (x : Stage) → fill_stage s i ≡ x → is_end x ≡ false
      → left_of z work (cur_of z img) (suc k) (moved s i 0 0) ≡ (X z s work img kind) x ++ left_of z work (cur_of z img) k (moved s (i + 1) 0 0)
  unfolding left_of
  staged i k x e n =
      ap (λ (b : Bool). cond b [] ((X z s work img kind) (stage_of (moved s i 0 0)) ++ left_of z work (cur_of z img) k (moved s (i + 1) 0 0))) (ap is_end (stage_is i ∙ e) ∙ n)
      ∙ ap (λ (y : Stage). (X z s work img kind) y ++ left_of z work (cur_of z img) k (moved s (i + 1) 0 0)) (stage_is i ∙ e)

  behind : (k : ℕ) → left_of z work (cur_of z img) (suc (suc (suc (suc k)))) (moved s 1 0 0) ≡ (Behind z s work img kind)
  unfolding fill_stage round_stage
  behind k =
      staged 1 (suc (suc (suc k))) (Flush s.marks.redo) refl refl ∙ on (Flush s.marks.redo)
      (staged 2 (suc (suc k)) (Give s.marks.present 0 s.next) refl refl ∙ on (Give s.marks.present 0 s.next)
      (staged 3 (suc k) (Flush s.marks.present) refl refl ∙ on (Flush s.marks.present) over))
    where
      on : (x : Stage) {a b : List (Action Sector)} → a ≡ b → (X z s work img kind) x ++ a ≡ (X z s work img kind) x ++ b
      on x e = ap (λ (l : List (Action Sector)). (X z s work img kind) x ++ l) e

      over : left_of z work (cur_of z img) (suc k) (moved s 4 0 0) ≡ []
      over = left_ended z work (cur_of z img) k (moved s 4 0 0) (ap is_end (stage_is 4))

  -- where there are no strips, nothing is put
  no_strips : slots_from (slots z) s.marks.redo 0 ≡ (Q z s work img kind).rebuilding ∷ [] → s.marks.stripe ≡ 0 → (X z s work img kind) (Fill s.marks.redo s.now.mark s.marks.stripe) ≡ []
  no_strips are e =
      ap₂ (λ (ds : List ℕ) (n : ℕ). puts (refilled z s.now (cur_of z img)) (rows_from (fill_at z s.now.mark) (n * z.c) 0 ds)) are e
      ∙ ap (puts (refilled z s.now (cur_of z img))) (strips_rows z s.now.mark (Q z s work img kind).rebuilding 0)

  -- the strips come first, if there are any
  fill_stages : s.cursor ≡ record { stage = first_stage s.marks.stripe; slot = 0; sector = 0 } → slots_from (slots z) s.marks.redo 0 ≡ (Q z s work img kind).rebuilding ∷ []
      → to_do z s work img ≡ (X z s work img kind) (Fill s.marks.redo s.now.mark s.marks.stripe) ++ (Behind z s work img kind)
  unfolding to_do fill_stage
  fill_stages first are =
      ap (left_of z work (cur_of z img) most_stages) (λ j. record { now = s.now; next = s.next; absent = s.absent; epoch = s.epoch; count = s.count; marks = s.marks; kind = s.kind; cursor = first j })
      ∙ by s.marks.stripe refl
    where
      by : (n : ℕ) → s.marks.stripe ≡ n → left_of z work (cur_of z img) most_stages (moved s (first_stage n) 0 0) ≡ (X z s work img kind) (Fill s.marks.redo s.now.mark s.marks.stripe) ++ (Behind z s work img kind)
      by zero e = behind 10 ∙ ap (λ (l : List (Action Sector)). l ++ (Behind z s work img kind)) (sym (no_strips are e))
      by (suc n) e = staged 0 13 (Fill s.marks.redo s.now.mark s.marks.stripe) refl refl ∙ ap (λ (l : List (Action Sector)). (X z s work img kind) (Fill s.marks.redo s.now.mark s.marks.stripe) ++ l) (behind 9)

  -- the strips and their flush are the protocol's fill
  fill_is : slots_from (slots z) s.marks.redo 0 ≡ (Q z s work img kind).rebuilding ∷ [] → (rest : List (Action Sector))
      → (X z s work img kind) (Fill s.marks.redo s.now.mark s.marks.stripe) ++ ((X z s work img kind) (Flush s.marks.redo) ++ rest) ≡ fill (records z) (Q z s work img kind) s.marks.stripe ((Rebuilt z s work img kind) (cur_of z img)) ++ rest
  unfolding fill_batch filled_sectors
  fill_is are rest =
      let v : Place → Sector = refilled z s.now (cur_of z img) in
      ap (λ (ds : List ℕ). puts v (rows_from (fill_at z s.now.mark) (s.marks.stripe * z.c) 0 ds) ++ (flushes ds ++ rest)) are
      ∙ ap (λ (ks : List Place). puts v ks ++ (flushes ((Q z s work img kind).rebuilding ∷ []) ++ rest)) (strips_rows z s.now.mark (Q z s work img kind).rebuilding s.marks.stripe)
      ∙ sym (append_assoc (puts v (rows (λ t j. strip (Q z s work img kind).rebuilding t j) (from 0 z.c) (from s.now.mark s.marks.stripe))) (flushes ((Q z s work img kind).rebuilding ∷ [])) rest)

  -- and go by what is seen of the present slots, where no absent one is believed
  fill_seen : (A : ℕ → Bool) → ((d t : ℕ) → d < slots z → believed (size z) (Q z s work img kind) d t ≡ true → A d ≡ false) → (Rebuilt z s work img kind) (cur_of z img) ≡ (Rebuilt z s work img kind) (seen_of z A img)
  fill_seen A dark = fun_ext (λ t. fun_ext (λ j. rebuilt_same z (Q z s work img kind) (seen_of z A img) (cur_of z img) t (λ d i l e. sym (seen_present z A img (strip d t i) (dark d t l e))) (Q z s work img kind).rebuilding j))

  -- THE LIST OF A REBUILD is the protocol's
  pub fill_list : s.cursor ≡ record { stage = first_stage s.marks.stripe; slot = 0; sector = 0 } → slots_from (slots z) s.marks.redo 0 ≡ (Q z s work img kind).rebuilding ∷ []
      → (A : ℕ → Bool) (N : Label) → ((d t : ℕ) → d < slots z → believed (size z) (Q z s work img kind) d t ≡ true → A d ≡ false) → Says z s.marks.present (λ d. not (A d)) → label_of z s.next ≡ N
      → to_do z s work img
      ≡ fill (records z) (Q z s work img kind) s.marks.stripe ((Rebuilt z s work img kind) (seen_of z A img)) ++ round (labels z) N (told_to (size z) (no_sets (slots z)) (labels z) (records z) (any_code z) stamps (any_sectors z) A)
  fill_list first one A N dark says label_is =
      fill_stages first one ∙ fill_is one _
      ∙ ap₂ (λ (v : ℕ → ℕ → Sector) (l : List (Action Sector)). fill (records z) (Q z s work img kind) s.marks.stripe v ++ l) (fill_seen A dark)
      (round_is z s img s.marks.present (λ d. not (A d)) says s.next N label_is [] ∙ sym (change_phases (size z) (no_sets (slots z)) (labels z) (records z) (any_code z) stamps (any_sectors z) N A))

  -- AND IT CAN BE CARRIED OUT
  pub fill_fair : sound s ≡ true → ours z s.now ≡ true → Disks z img → s.cursor.sector ≡ 0 → Present z s.absent s.marks.redo → Present z s.absent s.marks.present
      → (s.cursor.stage ≤ 0 → Fillable z s.absent s.now work s.marks.redo s.now.mark s.marks.stripe) → Tells z s.next → Fair z s work img
  unfolding fill_stage
  fill_fair in_range_lem ours_now disks first redo present fillable next =
      let c : (i : ℕ) → s.cursor.stage ≤ i → Can z s.absent (under_of s) work (stage_at s.kind s i) =
      λ i l. subst (λ (k : Kind). Can z s.absent (under_of s) work (stage_at k s i)) (sym kind) (each i l) in
      record {
        in_range_lem = in_range_lem;
        ours_now = ours_now;
        disks = disks;
        narrow = subst (Narrow z.c (stage_of s)) (sym first) (first_narrow z s.absent (under_of s) work (stage_of s) (c s.cursor.stage (omega arith)));
        stages = c;
      }
    where
      each : (i : ℕ) → s.cursor.stage ≤ i → Can z s.absent (under_of s) work (fill_stage s i)
      each zero l = (redo, fillable l)
      each (suc i) l = fill_later (Can z s.absent (under_of s) work) tt s redo (present, next) present (suc i) (omega arith)

  -- ---- the steps

  -- what the program remembers: a label change under way
  pub fill_memory : memory_of z s work img ≡ doing labelling (to_do z s work img) (own_of z s s.now) (own_of z s s.next)
  unfolding memory_of
  fill_memory = ap (λ (k : Kind). memory_by k z s (write_memory z (write_in z s work) s work (cur_of z img)) (to_do z s work img)) kind

  -- THE STEP OF A REBUILD is the program's
  pub fill_tied : Fair z s work img → TiedLabel z (own_of z s s.now) s work img (step_move s work img)
  fill_tied fair = label_tied z (own_of z s s.now) s work img fair

  -- what the work area has does not matter, if it has room
  pub fill_work : (other : List ℕ) → slots z * (z.c * sector_bytes) ≤ length other → Fair z s work img → Fair z s other img
  fill_work other room fair =
      record {
        in_range_lem = fair.in_range_lem;
        ours_now = fair.ours_now;
        disks = fair.disks;
        narrow = fair.narrow;
        stages =
            λ i l.
            subst (λ (k : Kind). Can z s.absent (under_of s) work (stage_at k s i) → Can z s.absent (under_of s) other (stage_at k s i)) (sym kind)
            (fill_each (λ x. Can z s.absent (under_of s) work x → Can z s.absent (under_of s) other x) (λ c. c) s (λ c. (c.0, again c.1)) (λ c. c) (λ c. c) (λ c. c) i) (fair.stages i l);
      }
    where
      again : Fillable z s.absent s.now work s.marks.redo s.now.mark s.marks.stripe → Fillable z s.absent s.now other s.marks.redo s.now.mark s.marks.stripe
      again f = record { here = f.here; out = f.out; mark = f.mark; some = f.some; within = f.within; few = f.few; dark = f.dark; room = room }

-- and the same is left to do with any
left_any_work : (z : Shelf) (work other : List ℕ) (f : Image Sector) (k : ℕ) (s : State) → s.kind ≡ Filling → left_of z work f k s ≡ left_of z other f k s
unfolding left_of
left_any_work z work other f zero s kind = refl
left_any_work z work other f (suc k) s kind =
    ap₂ (λ (a l : List (Action Sector)). cond (is_end (stage_of s)) [] (a ++ l))
    (subst (λ (x : Kind). acts_of z (under_of s) work f (stage_at x s s.cursor.stage) s.cursor.slot s.cursor.sector ≡ acts_of z (under_of s) other f (stage_at x s s.cursor.stage) s.cursor.slot s.cursor.sector) (sym kind)
    (fill_each (λ x. (d j : ℕ) → acts_of z (under_of s) work f x d j ≡ acts_of z (under_of s) other f x d j) (λ d j. refl) s (λ d j. refl) (λ d j. refl) (λ d j. refl) (λ d j. refl) s.cursor.stage s.cursor.slot s.cursor.sector))
    (left_any_work z work other f k (on_stage s) kind)

pub fill_same : (z : Shelf) (s : State) (work other img : List ℕ) → s.kind ≡ Filling → to_do z s work img ≡ to_do z s other img
unfolding to_do
fill_same z s work other img kind = left_any_work z work other (cur_of z img) most_stages s kind
