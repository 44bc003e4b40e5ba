-- A request ends: what is left of it falls with every put and every flush, whatever the disks hold in between. So it takes
-- no more of them than are left when it begins: of puts and of flushes each, counted over the slots that its stages go over.
-- Assumes nothing.
use Rattle.std.specs.Prelude.{◌≡◌, Bool, cond, ◌&&◌, List, ltb, eqb, leb, length, replicate, Ok, Err}
use Rattle.std.proofs.Math.Path.{refl, ap, ap₂}
use Rattle.std.proofs.Common.{sym, ◌∙◌, subst, ⊎_elim, suc-mul, zero-mul, mul-zero, mul-add, mul-le-mul_left, mul-le-mul_right, arith, ltb-true, ne_eqb}
use Rattle.std.proofs.Math.Bool.{true, false}
use Prim.Native.Nat.{ℕ, zero, suc, ◌+◌, ◌*◌, ◌-◌, ◌≤◌, ◌<◌, ◌/◌, ◌%◌}
use Rattle.std.proofs.lemmas.Bool.{lt-leb}
use Rattle.disk.specs.Limits.{sector_bytes, most_sectors, first_log, first_strip}
use Rattle.disk.specs.Mask.{in_mask}
use Rattle.disk.specs.Image.{lt_or_ge, fits_image, put_answer}
use Rattle.disk.specs.Geometry.{in_range, stripes_of, strip_of, found}
use Rattle.disk.specs.declared.geometry.Geometry.{Geometry}
use Rattle.disk.specs.Geometry.{Found}
use Rattle.disk.specs.declared.refusal.Refusal.TheVariants.{BadImage, NotNow}
use Rattle.disk.specs.Refusal.{Outcome}
use Rattle.label.specs.Fields.{geometry_of, fits_of}
use Rattle.label.specs.Bytes.{sealed}
use Rattle.label.specs.declared.fields.Label.{Label}
use Rattle.record.specs.Log.{part, area_of, restore_of, restore_answer}
use Rattle.stages.specs.Limits.{most_stages}
use Rattle.stages.specs.State.{moved}
use Rattle.shelf.specs.Fill.{rebuild_answer, rebuilt_sector}
use Rattle.shelf.specs.Kept.{kept_of, part_of, record_sector, logged_answer}
use Rattle.stages.specs.Stage.{slots_of, round_stage, late_stage, start_stage, create_stage, write_stage, last_stage, begin_stage, fill_stage, stage_at, stage_of}
use Rattle.shelf.specs.Act.{Move, refusal, refuses, onward, by_outcome, put_move, flush_move, named, give_move, wipe_move, by_strip, by_restored, restore_move, tail_of, by_logged, log_move, by_stored, store_move, clear_move, odd_sector, erase_move, in_strips, by_rebuilt, fill_move, act_move}
use Rattle.shelf.specs.Step.{seek, is_end, finished, on_stage, next_slot, walk, by_answer, keeps, sound, step_move}
use Rattle.shelf.specs.Says.{unless, sound_says}
use Rattle.stages.specs.declared.state.State.{State}
use Rattle.stages.specs.Told.{Told}
use Rattle.stages.specs.declared.state.Kind.{Kind}
use Rattle.stages.specs.declared.state.Kind.TheVariants.{Nothing, Idle, Creating, Starting, Labelling, Writing, Beginning, Filling}
use Rattle.stages.specs.Told.{Answer}
use Rattle.stages.specs.Told.{Put, Flush, Done, Refused}
use Rattle.stages.specs.declared.stage.Stage.{Stage}
use Rattle.stages.specs.declared.stage.Stage.TheVariants as stage

-- ---- what is left

-- the slots of the shelf
abbrev pub slots : State → ℕ
slots s = s.now.k + s.now.m

-- how many of k slots from d on are in the mask
unfoldable pub many_from : ℕ → ℕ → ℕ → ℕ
many_from mask zero d = 0
many_from mask (suc k) d = cond (in_mask mask d) 1 0 + many_from mask k (suc d)

-- how many slots of the shelf are
abbrev pub many : ℕ → State → ℕ
many mask s = many_from mask (slots s) 0

-- the puts or flushes of one slot in a stage
abbrev pub width_of : Stage → ℕ → ℕ
width_of (stage.Flush slots) c = 1
width_of (stage.Give slots zeroed l) c = 1
width_of (stage.Wipe slots) c = 1
width_of (stage.Restore slots t) c = c
width_of (stage.Log slots t shards) c = c + 1
width_of (stage.Store slots t) c = c
width_of (stage.Clear slots) c = c + 1
width_of (stage.Erase slots odd) c = 1
width_of (stage.Fill slots first count) c = count * c
width_of stage.End c = 0

-- which of the two they are
abbrev pub puts : Stage → Bool
puts (stage.Flush slots) = false
puts (stage.Give slots zeroed l) = true
puts (stage.Wipe slots) = true
puts (stage.Restore slots t) = true
puts (stage.Log slots t shards) = true
puts (stage.Store slots t) = true
puts (stage.Clear slots) = true
puts (stage.Erase slots odd) = true
puts (stage.Fill slots first count) = true
puts stage.End = false

-- of a stage that is w wide, with so many slots left, from this sector on
unfoldable pub here : ℕ → ℕ → ℕ → ℕ
here w slots sector = slots * w + (w - 1 - sector) - (w - 1)

-- at a for each put and b for each flush: of a whole stage
abbrev pub size_of : ℕ → ℕ → State → Stage → ℕ
size_of a b s x = cond (puts x) a b * (many (slots_of x) s * width_of x s.now.c)

-- of k stages from stage i on
unfoldable pub later : ℕ → ℕ → Kind → State → ℕ → ℕ → ℕ
later a b kind s zero i = 0
later a b kind s (suc k) i = size_of a b s (stage_at kind s i) + later a b kind s k (suc i)

abbrev pub here_of : ℕ → ℕ → State → Stage → ℕ → ℕ → ℕ
here_of a b s x slot sector =
    cond (puts x) a b * here (width_of x s.now.c) (many_from (slots_of x) (slots s - slot) slot) sector

abbrev left_at : ℕ → ℕ → Kind → State → ℕ → ℕ → ℕ → ℕ
left_at a b kind s i slot sector = here_of a b s (stage_at kind s i) slot sector + later a b kind s (most_stages - suc i) (suc i)

-- of the request
unfoldable pub left : ℕ → ℕ → State → ℕ
left a b s = left_at a b s.kind s s.cursor.stage s.cursor.slot s.cursor.sector

-- a step that did something
abbrev pub acted : Answer → Bool
acted (Put d to) = true
acted (Flush d) = true
acted Done = false
acted (Refused why) = false

-- and what it cost
abbrev pub price : ℕ → ℕ → Answer → ℕ
price a b (Put d to) = a
price a b (Flush d) = b
price a b Done = 0
price a b (Refused why) = 0

not_acted : {A : Type 0} → false ≡ true → A
not_acted e = absurd (let z : ◌≡◌ {A = ℕ} 0 1 = cc in omega arith)

many_from_lem : (mask k d : ℕ) → many_from mask k d ≤ k
unfolding many_from
many_from_lem mask zero d = omega arith
many_from_lem mask (suc k) d = by (in_mask mask d) (many_from_lem mask k (suc d))
  where
    by : (b : Bool) → many_from mask k (suc d) ≤ k → cond b 1 0 + many_from mask k (suc d) ≤ suc k
    by true h = omega arith
    by false h = omega arith

pub many_le : (mask : ℕ) (s : State) → many mask s ≤ slots s
many_le mask s = many_from_lem mask (slots s) 0

-- ---- there are no more stages than these

abbrev pub stages_of : Kind → ℕ
stages_of Nothing = 0
stages_of Idle = 0
stages_of Creating = 3
stages_of Starting = 13
stages_of Labelling = 2
stages_of Writing = 4
stages_of Beginning = 11
stages_of Filling = 4

round_past : (i slots : ℕ) (l : Label) → 2 ≤ i → round_stage i slots l ≡ stage.End
unfolding round_stage
round_past i slots l h =
    unless (eqb i 0) _ _ (ne_eqb i 0 (λ e. omega arith)) ∙ unless (eqb i 1) _ _ (ne_eqb i 1 (λ e. omega arith))

late_past : (s : State) (i : ℕ) → 6 ≤ i → late_stage s i ≡ stage.End
unfolding late_stage
late_past s i h =
    unless (eqb i 0) _ _ (ne_eqb i 0 (λ e. omega arith)) ∙ unless (eqb i 1) _ _ (ne_eqb i 1 (λ e. omega arith))
    ∙ unless (leb i 3) _ _ (lt-leb i 3 (omega arith)) ∙ unless (eqb i 4) _ _ (ne_eqb i 4 (λ e. omega arith))
    ∙ unless (eqb i 5) _ _ (ne_eqb i 5 (λ e. omega arith))

last_past : (s : State) (i : ℕ) → 6 ≤ i → last_stage s i ≡ stage.End
unfolding last_stage
last_past s i h =
    unless (eqb i 0) _ _ (ne_eqb i 0 (λ e. omega arith)) ∙ unless (eqb i 1) _ _ (ne_eqb i 1 (λ e. omega arith))
    ∙ unless (eqb i 2) _ _ (ne_eqb i 2 (λ e. omega arith)) ∙ unless (eqb i 3) _ _ (ne_eqb i 3 (λ e. omega arith))
    ∙ round_past (i - 4) s.marks.present s.next (omega arith)

past : (kind : Kind) (s : State) (i : ℕ) → stages_of kind ≤ i → stage_at kind s i ≡ stage.End
unfolding create_stage start_stage write_stage begin_stage fill_stage
past Nothing s i h = refl
past Idle s i h = refl
past Creating s i h = unless (eqb i 0) _ _ (ne_eqb i 0 (λ e. omega arith)) ∙ round_past (i - 1) s.marks.present s.next (omega arith)
past Starting s i h =
    unless (eqb i 0) _ _ (ne_eqb i 0 (λ e. omega arith)) ∙ unless (leb i 2) _ _ (lt-leb i 2 (omega arith))
    ∙ unless (leb i 4) _ _ (lt-leb i 4 (omega arith)) ∙ unless (leb i 6) _ _ (lt-leb i 6 (omega arith)) ∙ late_past s (i - 7) (omega arith)
past Labelling s i h = round_past i s.marks.present s.next h
past Writing s i h =
    unless (eqb i 0) _ _ (ne_eqb i 0 (λ e. omega arith)) ∙ unless (eqb i 2) _ _ (ne_eqb i 2 (λ e. omega arith))
    ∙ unless (leb i 3) _ _ (lt-leb i 3 (omega arith))
past Beginning s i h =
    unless (eqb i 0) _ _ (ne_eqb i 0 (λ e. omega arith)) ∙ unless (eqb i 1) _ _ (ne_eqb i 1 (λ e. omega arith))
    ∙ unless (eqb i 2) _ _ (ne_eqb i 2 (λ e. omega arith)) ∙ unless (eqb i 3) _ _ (ne_eqb i 3 (λ e. omega arith))
    ∙ unless (eqb i 4) _ _ (ne_eqb i 4 (λ e. omega arith)) ∙ last_past s (i - 5) (omega arith)
past Filling s i h =
    unless (eqb i 0) _ _ (ne_eqb i 0 (λ e. omega arith)) ∙ unless (eqb i 1) _ _ (ne_eqb i 1 (λ e. omega arith))
    ∙ round_past (i - 2) s.marks.present s.next (omega arith)

few_stages : (kind : Kind) → stages_of kind ≤ most_stages
few_stages Nothing = omega arith
few_stages Idle = omega arith
few_stages Creating = omega arith
few_stages Starting = omega arith
few_stages Labelling = omega arith
few_stages Writing = omega arith
few_stages Beginning = omega arith
few_stages Filling = omega arith

-- ---- only the cursor moves

stage_moved : (kind : Kind) (s : State) (i j e u : ℕ) → stage_at kind (moved s j e u) i ≡ stage_at kind s i
unfolding create_stage start_stage late_stage write_stage begin_stage last_stage fill_stage
stage_moved Nothing s i j e u = refl
stage_moved Idle s i j e u = refl
stage_moved Creating s i j e u = refl
stage_moved Starting s i j e u = refl
stage_moved Labelling s i j e u = refl
stage_moved Writing s i j e u = refl
stage_moved Beginning s i j e u = refl
stage_moved Filling s i j e u = refl

-- ---- the slots that are left in a stage

seek_from : (mask k d : ℕ) → d ≤ seek mask k d
unfolding seek
seek_from mask zero d = omega arith
seek_from mask (suc k) d = by (in_mask mask d) (seek_from mask k (suc d))
  where
    by : (b : Bool) → suc d ≤ seek mask k (suc d) → d ≤ cond b d (seek mask k (suc d))
    by true h = omega arith
    by false h = omega arith

-- from the slot e that comes next there are as many left as before it, and one more than behind it
abbrev Sought : ℕ → ℕ → ℕ → ℕ → ℕ → Type 0
Sought mask n k d e =
    (many_from mask k d ≡ suc (many_from mask (n - (e + 1)) (e + 1))) × (many_from mask (n - e) e ≡ suc (many_from mask (n - (e + 1)) (e + 1)))

seek_many : (mask n k d : ℕ) → d + k ≡ n → seek mask k d < n → Sought mask n k d (seek mask k d)
unfolding seek many_from
seek_many mask n zero d h = λ l. absurd (omega arith)
seek_many mask n (suc k) d h = by (in_mask mask d) refl (seek_many mask n k (suc d) (omega arith))
  where
    by : (b : Bool) → in_mask mask d ≡ b → (seek mask k (suc d) < n → Sought mask n k (suc d) (seek mask k (suc d))) → cond b d (seek mask k (suc d)) < n
        → (cond b 1 0 + many_from mask k (suc d) ≡ suc (many_from mask (n - (cond b d (seek mask k (suc d)) + 1)) (cond b d (seek mask k (suc d)) + 1)))
        × (many_from mask (n - cond b d (seek mask k (suc d))) (cond b d (seek mask k (suc d))) ≡ suc (many_from mask (n - (cond b d (seek mask k (suc d)) + 1)) (cond b d (seek mask k (suc d)) + 1)))
    by true q r l =
        let e : n - (d + 1) ≡ k = omega arith in
        let f : n - d ≡ suc k = omega arith in
        let z : d + 1 ≡ suc d = omega arith in
        let u : many_from mask (n - (d + 1)) (d + 1) ≡ many_from mask k (suc d) = ap₂ (many_from mask) e z in
        let w : many_from mask (n - d) d ≡ cond (in_mask mask d) 1 0 + many_from mask k (suc d) = ap (λ (j : ℕ). many_from mask j d) f in
        let x : cond {A = ℕ} (in_mask mask d) 1 0 ≡ 1 = ap (λ (b : Bool). cond {A = ℕ} b 1 0) q in
        (omega (arith, u), omega (arith, u, w, x))
    by false q r l = (omega (arith, (r l).0), (r l).1)

-- ---- within a stage

module _ (w c sector : ℕ) (some : 1 ≤ w) where
  enough : w + c * w ≡ suc c * w
  enough = omega (arith, suc-mul c w)

  next_sector : sector + 1 < w → here w (suc c) (sector + 1) + 1 ≤ here w (suc c) sector
  unfolding here
  next_sector h = omega (arith, enough)

  next_slot_lem : here w c 0 + 1 ≤ here w (suc c) sector
  unfolding here
  next_slot_lem = omega (arith, enough)

whole_stage : (w c : ℕ) → here w c 0 ≡ c * w
unfolding here
whole_stage w c = omega arith

-- ---- from slot to slot, and from stage to stage

no_size : (b : ℕ) (s : State) → b * (many 0 s * 0) ≡ 0
no_size b s = ap (λ (k : ℕ). b * k) (mul-zero (many 0 s)) ∙ mul-zero b

module _ (a b : ℕ) where
  later_past : (kind : Kind) (s : State) (k i : ℕ) → stages_of kind ≤ i → later a b kind s k i ≡ 0
  unfolding later
  later_past kind s zero i h = refl
  later_past kind s (suc k) i h =
      let e : size_of a b s (stage_at kind s i) ≡ size_of a b s stage.End = ap (size_of a b s) (past kind s i h) in
      let z : size_of a b s stage.End ≡ 0 = no_size b s in
      omega (arith, e, z, later_past kind s k (suc i) (omega arith))

  later_moved : (kind : Kind) (s : State) (j e u k i : ℕ) → later a b kind (moved s j e u) k i ≡ later a b kind s k i
  unfolding later
  later_moved kind s j e u zero i = refl
  later_moved kind s j e u (suc k) i =
      ap₂ (λ (x : Stage) (y : ℕ). size_of a b s x + y) (stage_moved kind s i j e u) (later_moved kind s j e u k (suc i))

  left_moved : (s : State) (i e u : ℕ) → left a b (moved s i e u) ≡ left_at a b s.kind s i e u
  unfolding left
  left_moved s i e u =
      ap₂ (λ (x : Stage) (y : ℕ). here_of a b s x e u + y) (stage_moved s.kind s i i e u) (later_moved s.kind s i e u (most_stages - suc i) (suc i))

  left_is : (s : State) → left a b s ≡ left_at a b s.kind s s.cursor.stage s.cursor.slot s.cursor.sector
  unfolding left
  left_is s = refl

  onward_falls : (s : State) → 1 ≤ width_of (stage_of s) s.now.c → next_slot s (geometry_of s.now) < slots s
      → left a b (onward s (next_slot s (geometry_of s.now)) (width_of (stage_of s) s.now.c)) + cond (puts (stage_of s)) a b ≤ left a b s
  unfolding onward
  onward_falls s some less = by (ltb (sector + 1) w) refl
    where
      x : Stage
      x = stage_of s

      w : ℕ
      w = width_of x s.now.c

      n : ℕ
      n = slots s

      i : ℕ
      i = s.cursor.stage

      slot : ℕ
      slot = s.cursor.slot

      sector : ℕ
      sector = s.cursor.sector

      d : ℕ
      d = next_slot s (geometry_of s.now)

      each : ℕ
      each = cond (puts x) a b

      rest : ℕ
      rest = many_from (slots_of x) (n - (d + 1)) (d + 1)

      found_it : Sought (slots_of x) n (n - slot) slot d
      found_it = seek_many (slots_of x) n (n - slot) slot (omega (arith, seek_from (slots_of x) (n - slot) slot)) less

      cost : (y z : ℕ) → y + 1 ≤ z → each * y + each ≤ each * z
      cost y z h = let k : each * (y + 1) ≤ each * z = mul-le-mul_left each h in omega (arith, mul-add each y 1, k)

      now_is : here_of a b s x slot sector ≡ each * here w (suc rest) sector
      now_is = ap (λ (k : ℕ). each * here w k sector) found_it.0

      by : (t : Bool) → ltb (sector + 1) w ≡ t → left a b (cond {A = State} t (moved s i d (sector + 1)) (moved s i (d + 1) 0)) + each ≤ left a b s
      by true e =
          let k = cost (here w (suc rest) (sector + 1)) (here w (suc rest) sector) (next_sector w rest sector some (ltb-true (sector + 1) w e)) in
          let f : here_of a b s x d (sector + 1) ≡ each * here w (suc rest) (sector + 1) = ap (λ (k : ℕ). each * here w k (sector + 1)) found_it.1 in
          omega (arith, left_moved s i d (sector + 1), left_is s, now_is, f, k)
      by false e =
          let k = cost (here w rest 0) (here w (suc rest) sector) (next_slot_lem w rest sector some) in
          omega (arith, left_moved s i (d + 1) 0, left_is s, now_is, k)

  later_more : (kind : Kind) (s : State) (i k : ℕ) → later a b kind s (suc k) i ≡ size_of a b s (stage_at kind s i) + later a b kind s k (suc i)
  unfolding later
  later_more kind s i k = refl

  whole : (s : State) (x : Stage) → here_of a b s x 0 0 ≡ size_of a b s x
  whole s x =
      let e : slots s - 0 ≡ slots s = omega arith in
      ap (λ (k : ℕ). cond (puts x) a b * here (width_of x s.now.c) (many_from (slots_of x) k 0) 0) e
      ∙ ap (λ (k : ℕ). cond (puts x) a b * k) (whole_stage (width_of x s.now.c) (many (slots_of x) s))

  stage_falls : (s : State) → left a b (on_stage s) ≤ left a b s
  stage_falls s =
      ⊎_elim (λ (l : suc i < most_stages). inside l) (λ (h : most_stages ≤ suc i). outside h) (lt_or_ge (suc i) most_stages)
    where
      i : ℕ
      i = s.cursor.stage

      x : Stage
      x = stage_at s.kind s (suc i)

      to : left a b (on_stage s) ≡ here_of a b s x 0 0 + later a b s.kind s (most_stages - suc (suc i)) (suc (suc i))
      to = ap (λ (j : ℕ). left a b (moved s j 0 0)) (let z : i + 1 ≡ suc i = omega arith in z) ∙ left_moved s (suc i) 0 0

      inside : suc i < most_stages → left a b (on_stage s) ≤ left a b s
      inside l =
          let e : most_stages - suc i ≡ suc (most_stages - suc (suc i)) = omega arith in
          let f = ap (λ (k : ℕ). later a b s.kind s k (suc i)) e ∙ later_more s.kind s (suc i) (most_stages - suc (suc i)) in
          omega (arith, to, left_is s, f, whole s x)

      outside : most_stages ≤ suc i → left a b (on_stage s) ≤ left a b s
      outside h =
          let e : size_of a b s x ≡ size_of a b s stage.End = ap (size_of a b s) (past s.kind s (suc i) (omega (arith, few_stages s.kind))) in
          let z : size_of a b s stage.End ≡ 0 = no_size b s in
          let f = later_past s.kind s (most_stages - suc (suc i)) (suc (suc i)) (omega (arith, few_stages s.kind)) in
          omega (arith, to, e, z, f, whole s x)

-- ---- an action goes on by one

-- a put, or a flush
abbrev is_put : Answer → Bool
is_put (Put d to) = true
is_put (Flush d) = false
is_put Done = false
is_put (Refused why) = false

abbrev Onward : State → ℕ → ℕ → Bool → Told → Type 0
Onward s d count puts r = (r.state ≡ onward s d count) × (is_put r.answer ≡ puts)

put_onward : (s : State) (g : Geometry) (d to count : ℕ) (v img : List ℕ) → acted (put_move s g d to count v img).stepped.answer ≡ true
    → Onward s d count true (put_move s g d to count v img).stepped
unfolding put_move
put_onward s g d to count v img = by (in_mask s.absent d) (put_answer g (length img) d to (length v))
  where
    move : Bool → Outcome → Move
    move b o = cond {A = Move} b (refuses s NotNow img) (by_outcome o s g d to count v img)

    by : (b : Bool) (o : Outcome) → acted (move b o).stepped.answer ≡ true → Onward s d count true (move b o).stepped
    by true o e = not_acted e
    by false (Ok tt) e = (refl, refl)
    by false (Err why) e = not_acted e

flush_onward : (s : State) (d : ℕ) → acted (flush_move s d).answer ≡ true → Onward s d 1 false (flush_move s d)
unfolding flush_move
flush_onward s d = by (in_mask s.absent d)
  where
    move : Bool → Told
    move b = cond {A = Told} b (refusal s NotNow) (record { state = onward s d 1; answer = Flush d })

    by : (b : Bool) → acted (move b).answer ≡ true → Onward s d 1 false (move b)
    by true e = not_acted e
    by false e = (refl, refl)

give_onward : (s : State) (g : Geometry) (d zeroed : ℕ) (l : Label) (img : List ℕ) → acted (give_move s g d zeroed l img).stepped.answer ≡ true
    → Onward s d 1 true (give_move s g d zeroed l img).stepped
unfolding give_move
give_onward s g d zeroed l img = by (in_mask zeroed d) (fits_of (named l d))
  where
    move : Bool → Bool → Move
    move b f =
        cond {A = Move} b (put_move s g d (l.generation % 2) 1 (replicate sector_bytes 0) img)
        (cond {A = Move} f (put_move s g d (l.generation % 2) 1 (sealed (named l d)) img) (refuses s NotNow img))

    by : (b f : Bool) → acted (move b f).stepped.answer ≡ true → Onward s d 1 true (move b f).stepped
    by true f e = put_onward s g d (l.generation % 2) 1 (replicate sector_bytes 0) img e
    by false true e = put_onward s g d (l.generation % 2) 1 (sealed (named l d)) img e
    by false false e = not_acted e

restore_onward : (s : State) (g : Geometry) (d t : ℕ) (img : List ℕ) → acted (restore_move s g d t img).stepped.answer ≡ true
    → Onward s d g.c true (restore_move s g d t img).stepped
unfolding restore_move
restore_onward s g d t img = by (restore_answer g.c s.cursor.sector (length (area_of g img d)) sector_bytes)
  where
    on : (f : Found) → acted (by_strip f s g d img).stepped.answer ≡ true → Onward s d g.c true (by_strip f s g d img).stepped
    on (Ok p) e =
        put_onward s g d (p + s.cursor.sector) g.c (restore_of (part (area_of g img d) s.cursor.sector) (part (area_of g img d) g.c) s.cursor.sector) img e
    on (Err why) e = not_acted e

    by : (o : Outcome) → acted (by_restored o s g d t img).stepped.answer ≡ true → Onward s d g.c true (by_restored o s g d t img).stepped
    by (Ok tt) e = on (found (in_range g) (ltb t (stripes_of g)) (strip_of g t)) e
    by (Err why) e = not_acted e

log_onward : (s : State) (g : Geometry) (d t shards : ℕ) (work img : List ℕ) → acted (log_move s g d t shards work img).stepped.answer ≡ true
    → Onward s d (g.c + 1) true (log_move s g d t shards work img).stepped
unfolding log_move
log_onward s g d t shards work img = by (logged_answer g.c s.cursor.sector (kept_of g t d work) (replicate sector_bytes 0))
  where
    by : (o : Outcome) → acted (by_logged o s g d t shards (kept_of g t d work) img).stepped.answer ≡ true
        → Onward s d (g.c + 1) true (by_logged o s g d t shards (kept_of g t d work) img).stepped
    by (Ok tt) e =
        put_onward s g d (first_log + s.cursor.sector) (g.c + 1) (record_sector (tail_of s t shards) g.c s.cursor.sector (kept_of g t d work)) img e
    by (Err why) e = not_acted e

store_onward : (s : State) (g : Geometry) (d t : ℕ) (work img : List ℕ) → acted (store_move s g d t work img).stepped.answer ≡ true
    → Onward s d g.c true (store_move s g d t work img).stepped
unfolding store_move
store_onward s g d t work img = by (found (in_range g) (ltb t (stripes_of g)) (strip_of g t))
  where
    by : (f : Found) → acted (by_stored f s g d (kept_of g t d work) img).stepped.answer ≡ true
        → Onward s d g.c true (by_stored f s g d (kept_of g t d work) img).stepped
    by (Ok p) e = put_onward s g d (p + s.cursor.sector) g.c (part_of (kept_of g t d work) s.cursor.sector) img e
    by (Err why) e = not_acted e

clear_onward : (s : State) (g : Geometry) (d : ℕ) (img : List ℕ) → acted (clear_move s g d img).stepped.answer ≡ true
    → Onward s d (g.c + 1) true (clear_move s g d img).stepped
unfolding clear_move
clear_onward s g d img = by (ltb g.c s.cursor.sector)
  where
    move : Bool → Move
    move b = cond {A = Move} b (refuses s NotNow img) (put_move s g d (first_log + s.cursor.sector) (g.c + 1) (replicate sector_bytes 0) img)

    by : (b : Bool) → acted (move b).stepped.answer ≡ true → Onward s d (g.c + 1) true (move b).stepped
    by true e = not_acted e
    by false e = put_onward s g d (first_log + s.cursor.sector) (g.c + 1) (replicate sector_bytes 0) img e

-- and one of the strips that are rebuilt shows that there are some
fill_onward : (s : State) (g : Geometry) (d first count : ℕ) (work img : List ℕ) → acted (fill_move s g d first count work img).stepped.answer ≡ true
    → Onward s d (count * g.c) true (fill_move s g d first count work img).stepped
unfolding fill_move
fill_onward s g d first count work img =
    by (in_strips first count g.c s.cursor.sector)
    (rebuild_answer s.now s.absent g d (first + s.cursor.sector / g.c) (s.cursor.sector % g.c) work img)
  where
    move : Bool → Outcome → Move
    move b o = cond {A = Move} b (by_rebuilt o s g d first count work img) (refuses s NotNow img)

    by : (b : Bool) (o : Outcome) → acted (move b o).stepped.answer ≡ true → Onward s d (count * g.c) true (move b o).stepped
    by true (Ok tt) e =
        put_onward s g d (first_strip + first * g.c + s.cursor.sector) (count * g.c)
        (rebuilt_sector s.now s.absent g d (first + s.cursor.sector / g.c) (s.cursor.sector % g.c) work img) img e
    by true (Err why) e = not_acted e
    by false o e = not_acted e

fill_some : (s : State) (g : Geometry) (d first count : ℕ) (work img : List ℕ) → acted (fill_move s g d first count work img).stepped.answer ≡ true
    → 1 ≤ count * g.c
unfolding fill_move in_strips
fill_some s g d first count work img =
    by (leb first most_sectors) (leb count most_sectors) (ltb s.cursor.sector (count * g.c)) refl
    (rebuild_answer s.now s.absent g d (first + s.cursor.sector / g.c) (s.cursor.sector % g.c) work img)
  where
    by : (x y z : Bool) → ltb s.cursor.sector (count * g.c) ≡ z → (o : Outcome)
        → acted (cond {A = Move} (x && (y && z)) (by_rebuilt o s g d first count work img) (refuses s NotNow img)).stepped.answer ≡ true → 1 ≤ count * g.c
    by true true true q o e = omega (arith, ltb-true s.cursor.sector (count * g.c) q)
    by true true false q o e = not_acted e
    by true false z q o e = not_acted e
    by false y z q o e = not_acted e

act_onward : (s : State) (g : Geometry) (x : Stage) (d : ℕ) (work img : List ℕ) → acted (act_move s g x d work img).stepped.answer ≡ true
    → Onward s d (width_of x g.c) (puts x) (act_move s g x d work img).stepped
unfolding wipe_move erase_move
act_onward s g (stage.Flush slots) d work img e = flush_onward s d e
act_onward s g (stage.Give slots zeroed l) d work img e = give_onward s g d zeroed l img e
act_onward s g (stage.Wipe slots) d work img e = put_onward s g d (first_log + g.c) 1 (replicate sector_bytes 0) img e
act_onward s g (stage.Restore slots t) d work img e = restore_onward s g d t img e
act_onward s g (stage.Log slots t shards) d work img e = log_onward s g d t shards work img e
act_onward s g (stage.Store slots t) d work img e = store_onward s g d t work img e
act_onward s g (stage.Clear slots) d work img e = clear_onward s g d img e
act_onward s g (stage.Erase slots odd) d work img e = put_onward s g d (odd_sector odd) 1 (replicate sector_bytes 0) img e
act_onward s g (stage.Fill slots first count) d work img e = fill_onward s g d first count work img e
act_onward s g stage.End d work img e = not_acted e

width_some : (s : State) (g : Geometry) (x : Stage) (d : ℕ) (work img : List ℕ) → 1 ≤ g.c → acted (act_move s g x d work img).stepped.answer ≡ true
    → 1 ≤ width_of x g.c
width_some s g (stage.Flush slots) d work img h e = omega arith
width_some s g (stage.Give slots zeroed l) d work img h e = omega arith
width_some s g (stage.Wipe slots) d work img h e = omega arith
width_some s g (stage.Restore slots t) d work img h e = h
width_some s g (stage.Log slots t shards) d work img h e = omega arith
width_some s g (stage.Store slots t) d work img h e = h
width_some s g (stage.Clear slots) d work img h e = omega arith
width_some s g (stage.Erase slots odd) d work img h e = omega arith
width_some s g (stage.Fill slots first count) d work img h e = fill_some s g d first count work img e
width_some s g stage.End d work img h e = not_acted e

price_is : (a b : ℕ) (x : Answer) → acted x ≡ true → price a b x ≡ cond (is_put x) a b
price_is a b (Put d to) e = refl
price_is a b (Flush d) e = refl
price_is a b Done e = not_acted e
price_is a b (Refused why) e = not_acted e

-- what a step leaves to do, and what it cost
abbrev paid : ℕ → ℕ → Told → ℕ
paid a b r = left a b r.state + price a b r.answer

walk_falls : (a b k : ℕ) (s : State) (work img : List ℕ) → 1 ≤ s.now.c → acted (walk k s (geometry_of s.now) work img).stepped.answer ≡ true
    → paid a b (walk k s (geometry_of s.now) work img).stepped ≤ left a b s
unfolding walk
walk_falls a b zero s work img h = λ e. not_acted e
walk_falls a b (suc k) s work img h =
    by (is_end (stage_of s)) (ltb (next_slot s (geometry_of s.now)) (slots s)) refl refl (walk_falls a b k (on_stage s) work img h)
  where
    g : Geometry
    g = geometry_of s.now

    d : ℕ
    d = next_slot s g

    rest : Move
    rest = walk k (on_stage s) g work img

    this : Move
    this = act_move s g (stage_of s) d work img

    move : Bool → Bool → Move
    move x y = cond {A = Move} x (finished s img) (cond {A = Move} y this rest)

    by : (x y : Bool) → is_end (stage_of s) ≡ x → ltb d (slots s) ≡ y
        → (acted rest.stepped.answer ≡ true → paid a b rest.stepped ≤ left a b (on_stage s))
        → acted (move x y).stepped.answer ≡ true → paid a b (move x y).stepped ≤ left a b s
    by true y q l r e = not_acted e
    by false true q l r e =
        let o = act_onward s g (stage_of s) d work img e in
        let p : price a b this.stepped.answer ≡ cond (puts (stage_of s)) a b =
        price_is a b this.stepped.answer e ∙ ap (λ (z : Bool). cond z a b) o.1 in
        let f = onward_falls a b s (width_some s g (stage_of s) d work img h e) (ltb-true d (slots s) l) in
        omega (arith, ap (left a b) o.0, p, f)
    by false false q l r e = omega (arith, r e, stage_falls a b s)

-- ---- the law

-- every put and every flush leaves less to do, by what it costs, whatever the image
pub step_falls : (a b : ℕ) (s : State) (work img : List ℕ) → acted (step_move s work img).stepped.answer ≡ true
    → left a b (step_move s work img).stepped.state + price a b (step_move s work img).stepped.answer ≤ left a b s
unfolding step_move
step_falls a b s work img = by (sound s) (fits_image (geometry_of s.now) (length img)) refl
  where
    w : Move
    w = walk most_stages s (geometry_of s.now) work img

    move : Bool → Bool → Move
    move x f = cond {A = Move} x (cond {A = Move} f (keeps s w) (refuses s BadImage img)) (refuses s NotNow img)

    kept_on : (x : Answer) → w.stepped.answer ≡ x → acted (by_answer x s w.stepped).answer ≡ true
        → (acted w.stepped.answer ≡ true) × (by_answer x s w.stepped ≡ w.stepped)
    kept_on (Put d to) q e = (e, refl)
    kept_on (Flush d) q e = (e, refl)
    kept_on Done q e = (e, refl)
    kept_on (Refused why) q e = not_acted e

    by : (x f : Bool) → sound s ≡ x → acted (move x f).stepped.answer ≡ true → paid a b (move x f).stepped ≤ left a b s
    by true true q e =
        let k = kept_on w.stepped.answer refl e in
        subst (λ (r : Told). paid a b r ≤ left a b s) (sym k.1) (walk_falls a b most_stages s work img (sound_says s q).fits.range.some k.0)
    by true false q e = not_acted e
    by false f q e = not_acted e

-- p puts and f flushes in a row from s; work area and image may be any at each
pub data Steps : ℕ → ℕ → State → Type 0 where
  none : {s : State} → Steps 0 0 s
  put : {p f : ℕ} {s : State} (work img : List ℕ) (d to : ℕ) → (step_move s work img).stepped.answer ≡ Put d to
      → Steps p f (step_move s work img).stepped.state → Steps (suc p) f s
  flush : {p f : ℕ} {s : State} (work img : List ℕ) (d : ℕ) → (step_move s work img).stepped.answer ≡ Flush d
      → Steps p f (step_move s work img).stepped.state → Steps p (suc f) s

pub steps_left : (a b : ℕ) {p f : ℕ} {s : State} → Steps p f s → p * a + f * b ≤ left a b s
steps_left a b none = omega (arith, zero-mul a, zero-mul b)
steps_left a b (put {p} {f} {s} work img d to e r) =
    omega (arith, step_falls a b s work img (ap acted e), ap (price a b) e, steps_left a b r, suc-mul p a)
steps_left a b (flush {p} {f} {s} work img d e r) =
    omega (arith, step_falls a b s work img (ap acted e), ap (price a b) e, steps_left a b r, suc-mul f b)

-- ---- what is left when a request begins

-- it stands before its first stage, or a later one: a rebuild without strips begins with the flush behind them
pub record Fresh (kind : Kind) (s : State) : Type 0 where
  pub kind_is : s.kind ≡ kind
  pub slot_is : s.cursor.slot ≡ 0
  pub sector_is : s.cursor.sector ≡ 0

module _ (a b : ℕ) where
  -- before a later stage no more is left than before the first
  first_most : (s : State) (i : ℕ) → left a b (moved s i 0 0) ≤ left a b (moved s 0 0 0)
  first_most s zero = omega arith
  first_most s (suc i) =
      let e : left a b (moved s (i + 1) 0 0) ≡ left a b (moved s (suc i) 0 0) = ap (λ (j : ℕ). left a b (moved s j 0 0)) (let z : i + 1 ≡ suc i = omega arith in z) in
      omega (arith, e, stage_falls a b (moved s i 0 0), first_most s i)

  fresh_left : (kind : Kind) (s : State) → Fresh kind s → left a b s ≤ size_of a b s (stage_at kind s 0) + later a b kind s 13 1
  unfolding left
  fresh_left kind s f =
      let i : ℕ = s.cursor.stage in
      let e : left a b s ≡ left_at a b kind s i 0 0 = λ j. left_at a b (f.kind_is j) s i (f.slot_is j) (f.sector_is j) in
      let at : (j : ℕ) → left a b (moved s j 0 0) ≡ left_at a b kind s j 0 0 = λ j. left_moved a b s j 0 0 ∙ ap (λ (k : Kind). left_at a b k s j 0 0) f.kind_is in
      omega (arith, e, at i, at 0, first_most s i, whole a b s (stage_at kind s 0))

  module _ (s : State) where
    -- a stage of puts that is w wide, and a stage of flushes
    abbrev giving : ℕ → ℕ → ℕ
    giving mask w = a * (many mask s * w)

    abbrev flushing : ℕ → ℕ
    flushing mask = b * (many mask s * 1)

    label_begins : size_of a b s (stage_at Labelling s 0) + later a b Labelling s 13 1
        ≡ giving s.marks.present 1 + (flushing s.marks.present + later a b Labelling s 12 2)
    unfolding later round_stage
    label_begins = refl

    create_begins : size_of a b s (stage_at Creating s 0) + later a b Creating s 13 1
        ≡ flushing s.marks.present + (giving s.marks.present 1 + (flushing s.marks.present + later a b Creating s 11 3))
    unfolding later create_stage round_stage
    create_begins = refl

    redone : size_of a b s (stage_at Starting s 11) ≡ giving s.marks.redo (cond s.marks.forward s.now.c 1)
    unfolding start_stage late_stage
    redone = by s.marks.forward
      where
        by : (t : Bool) → size_of a b s (cond {A = Stage} t (stage.Restore s.marks.redo s.marks.stripe) (stage.Wipe s.marks.redo)) ≡ giving s.marks.redo (cond t s.now.c 1)
        by true = refl
        by false = refl

    start_begins : size_of a b s (stage_at Starting s 0) + later a b Starting s 13 1
        ≡ flushing s.marks.present + (giving s.marks.parts 1 + (flushing s.marks.parts + (giving s.marks.parts 1 + (flushing s.marks.parts
        + (giving s.marks.parts 1 + (flushing s.marks.parts + (giving s.marks.prep 1 + (flushing s.marks.prep + (giving s.marks.late 1 + (flushing s.marks.late
        + (size_of a b s (stage_at Starting s 11) + (flushing s.marks.redo + later a b Starting s 1 13))))))))))))
    unfolding later start_stage late_stage round_stage
    start_begins = refl

    write_begins : size_of a b s (stage_at Writing s 0) + later a b Writing s 13 1
        ≡ giving s.marks.redo (s.now.c + 1) + (flushing s.marks.redo + (giving s.marks.redo s.now.c + (flushing s.marks.redo + later a b Writing s 10 4)))
    unfolding later write_stage
    write_begins = refl

    begin_begins : size_of a b s (stage_at Beginning s 0) + later a b Beginning s 13 1
        ≡ flushing s.marks.redo + (giving s.marks.parts 1 + (flushing s.marks.parts + (giving s.marks.late 1 + (flushing s.marks.late
        + (giving s.marks.redo (s.now.c + 1) + (flushing s.marks.redo + (giving s.marks.prep 1 + (flushing s.marks.prep
        + (giving s.marks.present 1 + (flushing s.marks.present + later a b Beginning s 3 11))))))))))
    unfolding later begin_stage last_stage round_stage
    begin_begins = refl

    fill_begins : size_of a b s (stage_at Filling s 0) + later a b Filling s 13 1
        ≡ giving s.marks.redo (s.marks.stripe * s.now.c) + (flushing s.marks.redo
        + (giving s.marks.present 1 + (flushing s.marks.present + later a b Filling s 10 4)))
    unfolding later fill_stage round_stage
    fill_begins = refl

-- create: a flush of each slot, a put of each, a flush of each
pub creating_steps : {p f : ℕ} {s : State} → Fresh Creating s → Steps p f s → p + f ≤ 3 * slots s
creating_steps {p} {f} {s} h r =
    omega (
      arith,
      steps_left 1 1 r,
      fresh_left 1 1 Creating s h,
      create_begins 1 1 s,
      later_past 1 1 Creating s 11 3 (omega arith),
      many_le s.marks.present s,
    )

-- a label: a put of each slot, a flush of each
pub labelling_steps : {p f : ℕ} {s : State} → Fresh Labelling s → Steps p f s → p + f ≤ 2 * slots s
labelling_steps {p} {f} {s} h r =
    omega (
      arith,
      steps_left 1 1 r,
      fresh_left 1 1 Labelling s h,
      label_begins 1 1 s,
      later_past 1 1 Labelling s 12 2 (omega arith),
      many_le s.marks.present s,
    )

-- start-up: twelve puts or flushes of each slot, and c puts of each where the log is redone, or 1 where it is wiped
pub starting_steps : {p f : ℕ} {s : State} → Fresh Starting s → Steps p f s
    → p + f ≤ 12 * slots s + slots s * cond s.marks.forward s.now.c 1
starting_steps {p} {f} {s} h r =
    let w : many s.marks.redo s * cond s.marks.forward s.now.c 1 ≤ slots s * cond s.marks.forward s.now.c 1 =
    mul-le-mul_right (cond s.marks.forward s.now.c 1) (many_le s.marks.redo s) in
    omega (
      arith,
      steps_left 1 1 r,
      fresh_left 1 1 Starting s h,
      start_begins 1 1 s,
      redone 1 1 s,
      w,
      later_past 1 1 Starting s 1 13 (omega arith),
      many_le s.marks.present s,
      many_le s.marks.parts s,
      many_le s.marks.prep s,
      many_le s.marks.late s,
      many_le s.marks.redo s,
    )

-- a write: of each slot that it changes 2 c + 1 puts, and 2 flushes
pub writing_steps : {p f : ℕ} {s : State} → Fresh Writing s → Steps p f s
    → (p ≤ many s.marks.redo s * (2 * s.now.c + 1)) × (f ≤ 2 * many s.marks.redo s)
writing_steps {p} {f} {s} h r =
    let i : ℕ = many s.marks.redo s in
    let c : ℕ = s.now.c in
    let e : i * (2 * c + 1) ≡ i * (c + 1) + i * c = let z : 2 * c + 1 ≡ (c + 1) + c = omega arith in ap (λ (x : ℕ). i * x) z ∙ mul-add i (c + 1) c in (
      omega (arith, steps_left 1 0 r, fresh_left 1 0 Writing s h, write_begins 1 0 s, later_past 1 0 Writing s 10 4 (omega arith), e),
      omega (arith, steps_left 0 1 r, fresh_left 0 1 Writing s h, write_begins 0 1 s, later_past 0 1 Writing s 10 4 (omega arith)),
    )

-- begin: c + 1 puts on the slot, one for each label of another shelf and one for each slot that is prepared, and one for each
-- present slot; a flush behind each, and one of the slot at the beginning
pub beginning_steps : {p f : ℕ} {s : State} → Fresh Beginning s → Steps p f s
    → (p ≤ many s.marks.redo s * (s.now.c + 1) + many s.marks.parts s + many s.marks.late s + many s.marks.prep s + many s.marks.present s)
    × (f ≤ 2 * many s.marks.redo s + many s.marks.parts s + many s.marks.late s + many s.marks.prep s + many s.marks.present s)
beginning_steps {p} {f} {s} h r = (
  omega (arith, steps_left 1 0 r, fresh_left 1 0 Beginning s h, begin_begins 1 0 s, later_past 1 0 Beginning s 3 11 (omega arith)),
  omega (arith, steps_left 0 1 r, fresh_left 0 1 Beginning s h, begin_begins 0 1 s, later_past 0 1 Beginning s 3 11 (omega arith)),
)

-- a rebuild: the sectors of its strips on the slot, and one put for each present slot; a flush of the slot, and one of each
-- present slot
pub filling_steps : {p f : ℕ} {s : State} → Fresh Filling s → Steps p f s
    → (p ≤ many s.marks.redo s * (s.marks.stripe * s.now.c) + many s.marks.present s)
    × (f ≤ many s.marks.redo s + many s.marks.present s)
filling_steps {p} {f} {s} h r = (
  omega (arith, steps_left 1 0 r, fresh_left 1 0 Filling s h, fill_begins 1 0 s, later_past 1 0 Filling s 10 4 (omega arith)),
  omega (arith, steps_left 0 1 r, fresh_left 0 1 Filling s h, fill_begins 0 1 s, later_past 0 1 Filling s 10 4 (omega arith)),
)
