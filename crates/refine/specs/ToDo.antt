-- What is left to do of the request under way, as the protocol's actions: what is left of its stage from the cursor on, and
-- all later stages. And of a stage: what is left when a slot, or a sector of it, is done. Assumes nothing.
use Rattle.std.specs.Prelude.{◌≡◌, ◌⊎◌, not, eqb, leb, ltb}
use Rattle.std.proofs.Math.Path.{refl, sym, ap, ap₂, subst}
use Rattle.std.proofs.Common.{◌∙◌, inl, inr, ⊎_elim, arith, ne_eqb}
use Rattle.std.proofs.Math.Bool.{Bool, true, false, cond}
use mathlib.Core.List.{List, [], ◌∷◌, ◌++◌}
use Prim.Native.Nat.{ℕ, zero, suc, ◌+◌, ◌-◌, ◌*◌, ◌≤◌, ◌<◌, ◌/◌, ◌%◌}
use Rattle.std.proofs.lemmas.Bool.{lt-leb, not-false}
use Rattle.disk.specs.Geometry.{shard_of}
use Rattle.disk.specs.Image.{lt_or_ge}
use Rattle.disk.specs.Mask.{in_mask}
use Rattle.label.specs.declared.fields.Label as bytes
use Rattle.record.specs.declared.stamp.Stamp.{Stamp}
use Rattle.protocol.specs.World.{Place, label, log, strip, slot, Image, Action}
use Rattle.protocol.specs.Batch.{puts, flushes}
use Rattle.protocol.specs.Slots.{from, keep, row, rows}
use Rattle.protocol.specs.Write.{logged, stored}
use Rattle.protocol.specs.Label as Label
use Rattle.protocol.specs.Host.{missing}
use Rattle.protocol.specs.Host as Host
use Rattle.protocol.specs.Rebuild.{filled}
use Rattle.protocol.specs.Pairs.{no_sets}
use Rattle.codecs.specs.Sector.{Sector}
use Rattle.codecs.proofs.Sector.{zeros}
use Rattle.codecs.specs.Shelf.{Shelf, slots, size}
use Rattle.codecs.specs.Labels.{side_of, label_of}
use Rattle.codecs.proofs.Labels.{encode_label}
use Rattle.codecs.specs.Records.{stamp_number}
use Rattle.codecs.proofs.Written.{piece_of}
use Rattle.codecs.proofs.Records.{records}
use Rattle.shards.proofs.Parity.{shard_ext}
use Rattle.shards.specs.Strips.{shard_in, blocks_from}
use Rattle.shards.specs.Exact.{blocks_blind}
use Rattle.shards.proofs.Even.{any_code}
use Rattle.stages.specs.Limits.{most_stages}
use Rattle.stages.specs.State.{moved}
use Rattle.stages.specs.Stage.{again, round_stage, late_stage, start_stage, create_stage, write_stage, last_stage, begin_stage, fill_stage, stage_at, stage_of}
use Rattle.shelf.specs.Step.{seek, is_end, on_stage}
use Rattle.stages.specs.declared.state.State.{State}
use Rattle.stages.specs.declared.state.Marks.{Marks}
use Rattle.stages.specs.declared.state.Kind.{Kind}
use Rattle.stages.specs.declared.state.Kind.TheVariants.{Nothing, Idle, Creating, Starting, Labelling, Writing, Beginning, Filling}
use Rattle.stages.specs.declared.stage.Stage.{Stage}
use Rattle.stages.specs.declared.stage.Stage.TheVariants.{Flush, Give, Wipe, Restore, Log, Store, Clear, Erase, Fill, End}
use Rattle.refine.specs.Disks.{cur_of}
use Rattle.refine.specs.Keeps.{kept_strip, kept_write}

-- ---- definitions

-- the slots of a mask from slot d on, of n
abbrev pub slots_from : ℕ → ℕ → ℕ → List ℕ
slots_from n mask d = keep (in_mask mask) (from d (n - d))

-- sectors j .. c - 1 of the first slot of a list, all c of the others
abbrev pub rows_from : (ℕ → ℕ → Place) → ℕ → ℕ → List ℕ → List Place
rows_from mk c j [] = []
rows_from mk c j (d ∷ ds) = row mk d (from j (c - j)) ++ rows mk (from 0 c) ds

-- where a label goes: to the sector that its generation calls for
abbrev pub told_at : bytes.Label → ℕ → ℕ → Place
told_at l d i = label d (side_of l.generation)

-- the tail of a record
abbrev pub tail_at : Shelf → ℕ → ℕ → Place
tail_at z d i = log d z.c

-- the label for a slot, or zeros in its place
abbrev pub given : Shelf → ℕ → bytes.Label → Place → Sector
given z zeroed l k = cond (in_mask zeroed (slot k)) zeros (encode_label z (slot k) (label_of z l))

-- the strip's sector that the record gives back
abbrev pub restored : Shelf → Image Sector → Place → Sector
restored z f = stored (records z) (λ d j. piece_of z (f (log d z.c)) (f (log d j)) j)

-- a copy of the label
abbrev pub copy_at : Bool → ℕ → ℕ → Place
copy_at odd d i = label d odd

-- where sector x of the strips from strip `first` on goes
abbrev pub fill_at : Shelf → ℕ → ℕ → ℕ → Place
fill_at z first d x = strip d (first + x / z.c) (x % z.c)

-- what is rebuilt there: from the strips that the label lets one believe
abbrev pub refilled : Shelf → bytes.Label → Image Sector → Place → Sector
refilled z l f = filled (records z) (Host.rebuilt (size z) (no_sets (slots z)) (records z) (any_code z) (label_of z l) f (label_of z l).rebuilding)

-- what a request goes by: its stamp, and the label that holds
pub record Under : Type 0 where
  pub stamp : Stamp
  pub now : bytes.Label

-- what a stage does from slot d, and sector j of it, on; a is what the request goes by, `work` what it keeps in the work area, and
-- f what the places hold
abbrev pub acts_of : Shelf → Under → List ℕ → Image Sector → Stage → ℕ → ℕ → List (Action Sector)
acts_of z a work f (Flush mask) d j = flushes (slots_from (slots z) mask d)
acts_of z a work f (Give mask zeroed l) d j = puts (given z zeroed l) (rows (told_at l) (0 ∷ []) (slots_from (slots z) mask d))
acts_of z a work f (Wipe mask) d j = puts (λ k. zeros) (rows (tail_at z) (0 ∷ []) (slots_from (slots z) mask d))
acts_of z a work f (Restore mask t) d j = puts (restored z f) (rows_from (λ e i. strip e t i) z.c j (slots_from (slots z) mask d))
acts_of z a work f (Log mask t shards) d j =
    puts (logged (records z) (stamp_number a.stamp) (kept_write z work t shards)) (rows_from log (z.c + 1) j (slots_from (slots z) mask d))
acts_of z a work f (Store mask t) d j = puts (stored (records z) (kept_strip z work t)) (rows_from (λ e i. strip e t i) z.c j (slots_from (slots z) mask d))
acts_of z a work f (Clear mask) d j = puts (λ k. zeros) (rows_from log (z.c + 1) j (slots_from (slots z) mask d))
acts_of z a work f (Erase mask odd) d j = puts (λ k. zeros) (rows (copy_at odd) (0 ∷ []) (slots_from (slots z) mask d))
acts_of z a work f (Fill mask first count) d j = puts (refilled z a.now f) (rows_from (fill_at z first) (count * z.c) j (slots_from (slots z) mask d))
acts_of z a work f End d j = []

-- the stamp of a state's write
abbrev pub stamp_in : State → Stamp
stamp_in s = record { epoch = s.epoch; count = s.count }

abbrev pub under_of : State → Under
under_of s = record { stamp = stamp_in s; now = s.now }

-- k stages from the cursor on
unfoldable pub left_of : Shelf → List ℕ → Image Sector → ℕ → State → List (Action Sector)
left_of z work f zero s = []
left_of z work f (suc k) s =
    cond (is_end (stage_of s)) [] (acts_of z (under_of s) work f (stage_of s) s.cursor.slot s.cursor.sector ++ left_of z work f k (on_stage s))

-- WHAT IS LEFT TO DO, with this work area, on this image
unfoldable pub to_do : Shelf → State → List ℕ → List ℕ → List (Action Sector)
to_do z s work img = left_of z work (cur_of z img) most_stages s

-- ---- the next slot of a mask

-- e is the first of these slots, and the others below n come behind it
pub record Next (mask n : ℕ) (ds : List ℕ) (e : ℕ) : Type 0 where
  pub below : e < n
  pub set : in_mask mask e ≡ true
  pub first : ds ≡ e ∷ slots_from n mask (e + 1)

-- there is none, or one is the next
abbrev Sought : ℕ → ℕ → List ℕ → ℕ → Type 0
Sought mask n ds e = ((n ≤ e) × (ds ≡ [])) ⊎ Next mask n ds e

seeks : (mask k d : ℕ) → Sought mask (d + k) (keep (in_mask mask) (from d k)) (seek mask k d)
unfolding seek
seeks mask zero d = inl (omega arith, refl)
seeks mask (suc k) d =
    let r : Sought mask (suc d + k) (keep (in_mask mask) (from (suc d) k)) (seek mask k (suc d)) = seeks mask k (suc d) in
    go (in_mask mask d) refl (let q : suc d + k ≡ d + suc k = omega arith in subst (λ (n : ℕ). Sought mask n (keep (in_mask mask) (from (suc d) k)) (seek mask k (suc d))) q r)
  where
    go : (b : Bool) → in_mask mask d ≡ b → Sought mask (d + suc k) (keep (in_mask mask) (from (suc d) k)) (seek mask k (suc d))
        → Sought mask (d + suc k) (cond b (d ∷ keep (in_mask mask) (from (suc d) k)) (keep (in_mask mask) (from (suc d) k))) (cond b d (seek mask k (suc d)))
    go true e r =
        let p : suc d ≡ d + 1 = omega arith in
        let q : k ≡ d + suc k - (d + 1) = omega arith in
        inr (record { below = omega arith; set = e; first = ap₂ (λ (a n : ℕ). d ∷ keep (in_mask mask) (from a n)) p q })
    go false e r = r

pub next_slot_lem : (mask n d : ℕ) → Sought mask n (slots_from n mask d) (seek mask (n - d) d)
unfolding seek
next_slot_lem mask n d = ⊎_elim within past (lt_or_ge d n)
  where
    At : ℕ → ℕ → Type 0
    At n k = Sought mask n (keep (in_mask mask) (from d k)) (seek mask k d)

    within : d < n → At n (n - d)
    within l = let q : d + (n - d) ≡ n = omega arith in subst (λ (x : ℕ). At x (n - d)) q (seeks mask (n - d) d)

    past : n ≤ d → At n (n - d)
    past l = let q : 0 ≡ n - d = omega arith in subst (At n) q (inl (l, refl))

-- a slot of the mask is the first from itself on
pub slots_here : (mask n d : ℕ) → d < n → in_mask mask d ≡ true → slots_from n mask d ≡ d ∷ slots_from n mask (d + 1)
slots_here mask n d l e =
    let p : suc d ≡ d + 1 = omega arith in
    let q : n - d ≡ suc (n - (d + 1)) = omega arith in
    ap (λ (k : ℕ). keep (in_mask mask) (from d k)) q
    ∙ ap (λ (b : Bool). cond b (d ∷ keep (in_mask mask) (from (suc d) (n - (d + 1)))) (keep (in_mask mask) (from (suc d) (n - (d + 1))))) e
    ∙ ap (λ (a : ℕ). d ∷ keep (in_mask mask) (from a (n - (d + 1)))) p

-- ---- the stages of a request

-- a state with another cursor has the same stages
pub stage_same : (k : Kind) (s : State) (a b c i : ℕ) → stage_at k (moved s a b c) i ≡ stage_at k s i
unfolding create_stage start_stage late_stage begin_stage last_stage fill_stage
stage_same Nothing s a b c i = refl
stage_same Idle s a b c i = refl
stage_same Creating s a b c i = refl
stage_same Starting s a b c i = refl
stage_same Labelling s a b c i = refl
stage_same Writing s a b c i = refl
stage_same Beginning s a b c i = refl
stage_same Filling s a b c i = refl

module _ (P : Stage → Type 0) (end : P End) where
  pick : (b : Bool) (x y : Stage) → P x → P y → P (cond b x y)
  pick true x y p q = p
  pick false x y p q = q

  -- what holds of the two stages of a round holds of each
  pub round_each : (mask : ℕ) (l : bytes.Label) → P (Give mask 0 l) → P (Flush mask) → (i : ℕ) → P (round_stage i mask l)
  unfolding round_stage
  round_each mask l g f i = pick (eqb i 0) _ _ g (pick (eqb i 1) _ _ f end)

  -- the stages of a write
  pub write_each : (x : Marks) → P (Log x.redo x.stripe x.parts) → P (Store x.redo x.stripe) → P (Flush x.redo) → (i : ℕ) → P (write_stage x i)
  unfolding write_stage
  write_each x l s f i = pick (eqb i 0) _ _ l (pick (eqb i 2) _ _ s (pick (leb i 3) _ _ f end))

  module _ (s : State) where
    -- the stages of begin: what it flushes, erases, clears, and the labels that it gives
    pub begin_each : P (Flush s.marks.redo) → P (Flush s.marks.parts) → P (Flush s.marks.late) → P (Flush s.marks.prep) → P (Flush s.marks.present)
        → P (Erase s.marks.parts s.marks.forward) → P (Erase s.marks.late (not s.marks.forward)) → P (Clear s.marks.redo)
        → P (Give s.marks.prep s.marks.zeroed s.now) → P (Give s.marks.present 0 s.next) → (i : ℕ) → P (begin_stage s i)
    unfolding begin_stage last_stage
    begin_each redone parts late prep present first second clear ready tell i =
        pick (eqb i 0) _ _ redone
        (pick (eqb i 1) _ _ first
        (pick (eqb i 2) _ _ parts
        (pick (eqb i 3) _ _ second
        (pick (eqb i 4) _ _ late
        (pick (eqb (i - 5) 0) _ _ clear
        (pick (eqb (i - 5) 1) _ _ redone
        (pick (eqb (i - 5) 2) _ _ ready
        (pick (eqb (i - 5) 3) _ _ prep (round_each s.marks.present s.next tell present (i - 5 - 4))))))))))

    -- the stages of a rebuild behind its strips
    pub fill_later : P (Flush s.marks.redo) → P (Give s.marks.present 0 s.next) → P (Flush s.marks.present) → (i : ℕ) → 0 < i → P (fill_stage s i)
    unfolding fill_stage
    fill_later redone tell present i l =
        subst (λ (b : Bool). P (cond b (Fill s.marks.redo s.now.mark s.marks.stripe) (cond (eqb i 1) (Flush s.marks.redo) (round_stage (i - 2) s.marks.present s.next)))) (sym (ne_eqb i 0 (λ q. omega arith)))
        (pick (eqb i 1) _ _ redone (round_each s.marks.present s.next tell present (i - 2)))

    -- and all of them
    pub fill_each : P (Fill s.marks.redo s.now.mark s.marks.stripe) → P (Flush s.marks.redo) → P (Give s.marks.present 0 s.next) → P (Flush s.marks.present) → (i : ℕ) → P (fill_stage s i)
    unfolding fill_stage
    fill_each fill redone tell present i = pick (eqb i 0) _ _ fill (pick (eqb i 1) _ _ redone (round_each s.marks.present s.next tell present (i - 2)))

    pub create_each : P (Flush s.marks.present) → P (Give s.marks.present 0 s.next) → (i : ℕ) → P (create_stage s i)
    unfolding create_stage
    create_each f g i = pick (eqb i 0) _ _ f (round_each s.marks.present s.next g f (i - 1))

    -- the stages of start-up: what it flushes, the labels that it gives, and what it does with the records
    pub start_each : P (Flush s.marks.present) → P (Flush s.marks.parts) → P (Flush s.marks.prep) → P (Flush s.marks.late) → P (Flush s.marks.redo)
        → P (Give s.marks.parts 0 s.now) → P (Give s.marks.parts 0 (again s.now (s.now.generation + 1))) → P (Give s.marks.parts 0 s.next)
        → P (Give s.marks.prep s.marks.zeroed (again s.next (s.now.generation + 1))) → P (Give s.marks.late 0 s.next)
        → (s.marks.forward ≡ true → P (Restore s.marks.redo s.marks.stripe)) → (s.marks.forward ≡ false → P (Wipe s.marks.redo))
        → (i : ℕ) → P (start_stage s i)
    unfolding start_stage late_stage
    start_each present parts prep late redone level once last ready adopt restore wipe i =
        pick (eqb i 0) _ _ present
        (pick (leb i 2) _ _ (round_each s.marks.parts s.now level parts (i - 1))
        (pick (leb i 4) _ _ (round_each s.marks.parts (again s.now (s.now.generation + 1)) once parts (i - 3))
        (pick (leb i 6) _ _ (round_each s.marks.parts s.next last parts (i - 5))
        (pick (eqb (i - 7) 0) _ _ ready
        (pick (eqb (i - 7) 1) _ _ prep
        (pick (leb (i - 7) 3) _ _ (round_each s.marks.late s.next adopt late (i - 7 - 2))
        (pick (eqb (i - 7) 4) _ _ (redo s.marks.forward refl) (pick (eqb (i - 7) 5) _ _ redone end))))))))
      where
        redo : (b : Bool) → s.marks.forward ≡ b → P (cond b (Restore s.marks.redo s.marks.stripe) (Wipe s.marks.redo))
        redo true e = restore e
        redo false e = wipe e

-- whether strips are restored from their records: by start-up, where the state says so
unfoldable pub restores : Kind → Bool → Bool
restores Nothing forward = false
restores Idle forward = false
restores Creating forward = false
restores Starting forward = forward
restores Labelling forward = false
restores Writing forward = false
restores Beginning forward = false
restores Filling forward = false

-- then no stage of the request changes a record; and no strip is restored otherwise
abbrev pub Redoes : Bool → Stage → Type 0
Redoes b (Flush mask) = Unit {0}
Redoes b (Give mask zeroed l) = Unit {0}
Redoes b (Wipe mask) = b ≡ false
Redoes b (Restore mask t) = b ≡ true
Redoes b (Log mask t shards) = b ≡ false
Redoes b (Store mask t) = Unit {0}
Redoes b (Clear mask) = b ≡ false
Redoes b (Erase mask odd) = Unit {0}
Redoes b (Fill mask first count) = Unit {0}
Redoes b End = Unit {0}

pub redoes : (k : Kind) (s : State) (i : ℕ) → Redoes (restores k s.marks.forward) (stage_at k s i)
unfolding restores
redoes Nothing s i = tt
redoes Idle s i = tt
redoes Creating s i = create_each (Redoes false) tt s tt tt i
redoes Starting s i = start_each (Redoes s.marks.forward) tt s tt tt tt tt tt tt tt tt tt tt (λ e. e) (λ e. e) i
redoes Labelling s i = round_each (Redoes false) tt s.marks.present s.next tt tt i
redoes Writing s i = write_each (Redoes false) tt s.marks refl tt tt i
redoes Beginning s i = begin_each (Redoes false) tt s tt tt tt tt tt tt tt refl tt tt i
redoes Filling s i = fill_each (Redoes false) tt s tt tt tt tt i

-- whether strips are rebuilt
unfoldable pub fills : Kind → Bool
fills Nothing = false
fills Idle = false
fills Creating = false
fills Starting = false
fills Labelling = false
fills Writing = false
fills Beginning = false
fills Filling = true

-- then no stage of the request changes a strip otherwise; and none is rebuilt otherwise
abbrev pub Refills : Bool → Stage → Type 0
Refills b (Flush mask) = Unit {0}
Refills b (Give mask zeroed l) = Unit {0}
Refills b (Wipe mask) = Unit {0}
Refills b (Restore mask t) = b ≡ false
Refills b (Log mask t shards) = Unit {0}
Refills b (Store mask t) = b ≡ false
Refills b (Clear mask) = Unit {0}
Refills b (Erase mask odd) = Unit {0}
Refills b (Fill mask first count) = b ≡ true
Refills b End = Unit {0}

pub refills : (k : Kind) (s : State) (i : ℕ) → Refills (fills k) (stage_at k s i)
unfolding fills
refills Nothing s i = tt
refills Idle s i = tt
refills Creating s i = create_each (Refills false) tt s tt tt i
refills Starting s i = start_each (Refills false) tt s tt tt tt tt tt tt tt tt tt tt (λ e. refl) (λ e. tt) i
refills Labelling s i = round_each (Refills false) tt s.marks.present s.next tt tt i
refills Writing s i = write_each (Refills false) tt s.marks tt refl tt i
refills Beginning s i = begin_each (Refills false) tt s tt tt tt tt tt tt tt tt tt tt i
refills Filling s i = fill_each (Refills true) tt s refl tt tt tt i

-- no request has a stage from most_stages - 1 on
round_over : (i mask : ℕ) (l : bytes.Label) → 2 ≤ i → round_stage i mask l ≡ End
unfolding round_stage
round_over i mask l h = rw (ne_eqb i 0 (λ q. omega arith), ne_eqb i 1 (λ q. omega arith))

late_over : (s : State) (i : ℕ) → 6 ≤ i → late_stage s i ≡ End
unfolding late_stage
late_over s i h = rw (ne_eqb i 0 (λ q. omega arith), ne_eqb i 1 (λ q. omega arith), lt-leb i 3 (omega arith), ne_eqb i 4 (λ q. omega arith), ne_eqb i 5 (λ q. omega arith))

write_over : (x : Marks) (i : ℕ) → 4 ≤ i → write_stage x i ≡ End
unfolding write_stage
write_over x i h = rw (ne_eqb i 0 (λ q. omega arith), ne_eqb i 2 (λ q. omega arith), lt-leb i 3 (omega arith))

last_over : (s : State) (i : ℕ) → 6 ≤ i → last_stage s i ≡ End
unfolding last_stage
last_over s i h =
    rw (ne_eqb i 0 (λ q. omega arith), ne_eqb i 1 (λ q. omega arith), ne_eqb i 2 (λ q. omega arith), ne_eqb i 3 (λ q. omega arith), round_over (i - 4) s.marks.present s.next (omega arith))

pub stage_over : (k : Kind) (s : State) (i : ℕ) → most_stages ≤ suc i → is_end (stage_at k s i) ≡ true
unfolding create_stage start_stage begin_stage fill_stage
stage_over Nothing s i h = refl
stage_over Idle s i h = refl
stage_over Creating s i h = rw (ne_eqb i 0 (λ q. omega arith), round_over (i - 1) s.marks.present s.next (omega arith))
stage_over Starting s i h =
    rw (ne_eqb i 0 (λ q. omega arith), lt-leb i 2 (omega arith), lt-leb i 4 (omega arith), lt-leb i 6 (omega arith), late_over s (i - 7) (omega arith))
stage_over Labelling s i h = rw (round_over i s.marks.present s.next (omega arith))
stage_over Writing s i h = rw (write_over s.marks i (omega arith))
stage_over Beginning s i h =
    rw (ne_eqb i 0 (λ q. omega arith), ne_eqb i 1 (λ q. omega arith), ne_eqb i 2 (λ q. omega arith), ne_eqb i 3 (λ q. omega arith), ne_eqb i 4 (λ q. omega arith), last_over s (i - 5) (omega arith))
stage_over Filling s i h = rw (ne_eqb i 0 (λ q. omega arith), ne_eqb i 1 (λ q. omega arith), round_over (i - 2) s.marks.present s.next (omega arith))

-- ---- what is left

module _ (z : Shelf) where
  -- it goes by the records alone, where a strip is to be restored; and by the strips that are believed, where others are rebuilt
  unfoldable pub Alike : State → Image Sector → Image Sector → Type 0
  Alike s f g =
      (restores s.kind s.marks.forward ≡ true → (d j : ℕ) → g (log d j) ≡ f (log d j))
      × (fills s.kind ≡ true → (d t j : ℕ) → Label.believed (size z) (label_of z s.now) d t ≡ true → g (strip d t j) ≡ f (strip d t j))

  pub alike_same : (s : State) (f : Image Sector) → Alike s f f
  unfolding Alike
  alike_same s f = (λ q d j. refl, λ q d t j e. refl)

  -- what is rebuilt goes by the strips that are believed
  pub rebuilt_same : (Q : Label.Label) (f g : Image Sector) (t : ℕ) → ((d j : ℕ) → d < slots z → Label.believed (size z) Q d t ≡ true → g (strip d t j) ≡ f (strip d t j)) → (d j : ℕ)
      → Host.rebuilt (size z) (no_sets (slots z)) (records z) (any_code z) Q g d t j ≡ Host.rebuilt (size z) (no_sets (slots z)) (records z) (any_code z) Q f d t j
  unfolding Host.rebuilt Host.read shard_in
  rebuilt_same Q f g t h d j =
      let bad : ℕ → Bool = missing (size z) (no_sets (slots z)) (records z) (any_code z) Q t in
      let a : ℕ → ℕ → Sector = λ e i. g (strip e t i) in
      let b : ℕ → ℕ → Sector = λ e i. f (strip e t i) in
      ap (λ (x : Sector). cond (ltb d (slots z)) x zeros)
      (shard_ext z.k z.m (blocks_from z t bad a) (blocks_from z t bad b) (shard_of (slots z) t d) j
      (λ i l. blocks_blind z t bad a i j (omega arith) b (λ e o q. h e j o (not-false (Label.believed (size z) Q e t) q))))
