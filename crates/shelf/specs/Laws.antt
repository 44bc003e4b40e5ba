-- The laws of a step, for every state and every image, from `step_move` alone: it changes at most one sector, and that of a
-- present slot; a refusal changes nothing; no byte of any disk decides the answer, and none of an absent slot reaches a present
-- one. Assumes nothing.
use Rattle.std.specs.Prelude.{◌≡◌, ◌⊎◌, not, ◌&&◌, length, replicate, get_or, drop, Ok, Err}
use Rattle.std.proofs.Math.Path.{refl, ap, subst}
use Rattle.std.proofs.Common.{sym, ap₂, ◌∙◌, true≢false, arith, length-take, length-drop, length-append, get_or-take, get_or-drop, ltb-true, eqb-true}
use Rattle.std.proofs.Math.Bool.{Bool, true, false, cond}
use mathlib.Core.List.{List, [], ◌∷◌}
use Prim.Native.Nat.{ℕ, zero, suc, ◌+◌, ◌*◌, ◌≤◌, ◌<◌, ◌/◌, ◌%◌}
use Rattle.std.proofs.Math.Dec.{ltb, eqb}
use Rattle.std.proofs.Math.ListN.{take}
use Rattle.std.proofs.lemmas.Bool.{eqb-false}
use Rattle.disk.specs.Limits.{sector_bytes, first_log, first_strip}
use Rattle.disk.specs.Tests.{and_right}
use Rattle.disk.specs.Mask.{in_mask, mask_below}
use Rattle.disk.specs.Image.{place, sector, put_sector, Shape, fits_image, on_shelf, put_answer, fits_image_lem, on_shelf_lem}
use Rattle.disk.proofs.Image.{place_fits, length_put, sector_put, sector_put_other, byte_put_other}
use Rattle.disk.specs.Geometry.{in_range, strip_length, stripes_of, strip_of, shard_of, found}
use Rattle.disk.proofs.GeometryLaws.{strip_inside}
use Rattle.disk.specs.declared.geometry.Geometry.{Geometry}
use Rattle.disk.specs.Geometry.{Found}
use Rattle.disk.specs.declared.refusal.Refusal.{Refusal}
use Rattle.disk.specs.declared.refusal.Refusal.TheVariants.{BadImage, BadBlock, BadBuffer, NotNow}
use Rattle.disk.specs.Refusal.{Outcome}
use Rattle.label.specs.Fields.{geometry_of, fits_of}
use Rattle.label.specs.Bytes.{sealed}
use Rattle.label.specs.declared.fields.Label.{Label}
use Rattle.record.specs.Log.{part, area_of, restore_of, restore_answer, area_part}
use Rattle.position.specs.Row.{listed, listed_length}
use Rattle.strips.specs.Seen.{shown_byte, shard_shown}
use Rattle.strips.specs.Answers.{shown_answer, shown_done}
use Rattle.strips.specs.Laws.{shown_blind}
use Rattle.stages.specs.Limits.{most_stages}
use Rattle.shelf.specs.Fill.{present, believed_slots, seen_slots, stripe_in, shown_from, rebuild_answer, rebuilt_sector}
use Rattle.shelf.specs.Kept.{kept_of, part_of, record_sector, logged_answer}
use Rattle.stages.specs.Stage.{stage_of}
use Rattle.shelf.specs.Act.{Move, refusal, refuses, onward, by_outcome, put_move, flush_move, named, give_move, wipe_move, by_strip, by_restored, restore_move, tail_of, by_logged, log_move, by_stored, store_move, clear_move, odd_sector, erase_move, in_strips, by_rebuilt, fill_move, act_move}
use Rattle.shelf.specs.Step.{is_end, finished, on_stage, next_slot, walk, by_answer, kept, keeps, sound, step_move}
use Rattle.shelf.specs.Says.{when}
use Rattle.stages.specs.declared.state.State.{State}
use Rattle.stages.specs.Told.{Told}
use Rattle.stages.specs.Told.{Answer}
use Rattle.stages.specs.Told.{Put, Flush, Done, Refused}
use Rattle.stages.specs.declared.stage.Stage.{Stage}
use Rattle.stages.specs.declared.stage.Stage.TheVariants as stage

-- ---- what an answer says of the image before and after

-- one sector of a present slot is put, wholly
pub record Puts (absent : ℕ) (g : Geometry) (img after : List ℕ) (d to : ℕ) : Type 0 where
  pub slot : d < g.n
  pub low : to < g.sectors
  pub present : in_mask absent d ≡ false
  pub shape : Shape g.n g.sectors img
  pub bytes : List ℕ
  pub whole : length bytes ≡ sector_bytes
  pub image : after ≡ put_sector g.sectors img d to bytes

-- a present slot is to be flushed, and nothing changes
pub record Flushes (absent : ℕ) (g : Geometry) (img after : List ℕ) (d : ℕ) : Type 0 where
  pub slot : d < g.n
  pub present : in_mask absent d ≡ false
  pub image : after ≡ img

-- any other answer changes nothing
abbrev pub Legal : Answer → ℕ → Geometry → List ℕ → List ℕ → Type 0
Legal (Put d to) absent g img after = Puts absent g img after d to
Legal (Flush d) absent g img after = Flushes absent g img after d
Legal Done absent g img after = after ≡ img
Legal (Refused why) absent g img after = after ≡ img

abbrev LegalMove : State → Geometry → List ℕ → Move → Type 0
LegalMove s g img m = Legal m.stepped.answer s.absent g img m.image

-- ---- each move is legal

put_legal : (s : State) (g : Geometry) (d to count : ℕ) (v img : List ℕ) → LegalMove s g img (put_move s g d to count v img)
unfolding put_move put_answer
put_legal s g d to count v img = by (in_mask s.absent d) refl
  where
    tried : (f o w : Bool) → fits_image g (length img) ≡ f → on_shelf g d to ≡ o → eqb (length v) sector_bytes ≡ w → in_mask s.absent d ≡ false
        → LegalMove s g img (by_outcome (cond f (cond o (cond w (Ok tt) (Err BadBuffer)) (Err BadBlock)) (Err BadImage)) s g d to count v img)
    tried true true true f o w p =
        let h = on_shelf_lem g d to o in
        record { slot = h.0; low = h.1; present = p; shape = (fits_image_lem g img f).1; bytes = v; whole = eqb-true (length v) sector_bytes w; image = refl }
    tried true true false f o w p = refl
    tried true false w f o e p = refl
    tried false o w f e u p = refl

    by : (b : Bool) → in_mask s.absent d ≡ b
        → LegalMove s g img (cond {A = Move} b (refuses s NotNow img) (by_outcome (put_answer g (length img) d to (length v)) s g d to count v img))
    by true e = refl
    by false e = tried (fits_image g (length img)) (on_shelf g d to) (eqb (length v) sector_bytes) refl refl refl e

flush_legal : (s : State) (g : Geometry) (d : ℕ) (img : List ℕ) → d < g.n → LegalMove s g img (record { stepped = flush_move s d; image = img })
unfolding flush_move
flush_legal s g d img l = by (in_mask s.absent d) refl
  where
    by : (b : Bool) → in_mask s.absent d ≡ b
        → LegalMove s g img (record { stepped = cond {A = Told} b (refusal s NotNow) (record { state = onward s d 1; answer = Flush d }); image = img })
    by true e = refl
    by false e = record { slot = l; present = e; image = refl }

give_legal : (s : State) (g : Geometry) (d zeroed : ℕ) (l : Label) (img : List ℕ) → LegalMove s g img (give_move s g d zeroed l img)
unfolding give_move
give_legal s g d zeroed l img = by (in_mask zeroed d) (fits_of (named l d))
  where
    by : (b f : Bool)
        → LegalMove s g img (cond {A = Move} b (put_move s g d (l.generation % 2) 1 (replicate sector_bytes 0) img)
        (cond {A = Move} f (put_move s g d (l.generation % 2) 1 (sealed (named l d)) img) (refuses s NotNow img)))
    by true f = put_legal s g d (l.generation % 2) 1 (replicate sector_bytes 0) img
    by false true = put_legal s g d (l.generation % 2) 1 (sealed (named l d)) img
    by false false = refl

restore_legal : (s : State) (g : Geometry) (d t : ℕ) (img : List ℕ) → LegalMove s g img (restore_move s g d t img)
unfolding restore_move
restore_legal s g d t img = by (restore_answer g.c s.cursor.sector (length (area_of g img d)) sector_bytes)
  where
    on : (f : Found) → LegalMove s g img (by_strip f s g d img)
    on (Ok p) = put_legal s g d (p + s.cursor.sector) g.c (restore_of (part (area_of g img d) s.cursor.sector) (part (area_of g img d) g.c) s.cursor.sector) img
    on (Err why) = refl

    by : (o : Outcome) → LegalMove s g img (by_restored o s g d t img)
    by (Ok tt) = on (found (in_range g) (ltb t (stripes_of g)) (strip_of g t))
    by (Err why) = refl

log_legal : (s : State) (g : Geometry) (d t shards : ℕ) (work img : List ℕ) → LegalMove s g img (log_move s g d t shards work img)
unfolding log_move
log_legal s g d t shards work img = by (logged_answer g.c s.cursor.sector (kept_of g t d work) (replicate sector_bytes 0))
  where
    by : (o : Outcome) → LegalMove s g img (by_logged o s g d t shards (kept_of g t d work) img)
    by (Ok tt) =
        put_legal s g d (first_log + s.cursor.sector) (g.c + 1) (record_sector (tail_of s t shards) g.c s.cursor.sector (kept_of g t d work)) img
    by (Err why) = refl

store_legal : (s : State) (g : Geometry) (d t : ℕ) (work img : List ℕ) → LegalMove s g img (store_move s g d t work img)
unfolding store_move
store_legal s g d t work img = by (found (in_range g) (ltb t (stripes_of g)) (strip_of g t))
  where
    by : (f : Found) → LegalMove s g img (by_stored f s g d (kept_of g t d work) img)
    by (Ok p) = put_legal s g d (p + s.cursor.sector) g.c (part_of (kept_of g t d work) s.cursor.sector) img
    by (Err why) = refl

clear_legal : (s : State) (g : Geometry) (d : ℕ) (img : List ℕ) → LegalMove s g img (clear_move s g d img)
unfolding clear_move
clear_legal s g d img = by (ltb g.c s.cursor.sector)
  where
    by : (b : Bool)
        → LegalMove s g img (cond {A = Move} b (refuses s NotNow img) (put_move s g d (first_log + s.cursor.sector) (g.c + 1) (replicate sector_bytes 0) img))
    by true = refl
    by false = put_legal s g d (first_log + s.cursor.sector) (g.c + 1) (replicate sector_bytes 0) img

fill_legal : (s : State) (g : Geometry) (d first count : ℕ) (work img : List ℕ) → LegalMove s g img (fill_move s g d first count work img)
unfolding fill_move
fill_legal s g d first count work img =
    by (in_strips first count g.c s.cursor.sector)
    (rebuild_answer s.now s.absent g d (first + s.cursor.sector / g.c) (s.cursor.sector % g.c) work img)
  where
    by : (b : Bool) (o : Outcome) → LegalMove s g img (cond {A = Move} b (by_rebuilt o s g d first count work img) (refuses s NotNow img))
    by true (Ok tt) =
        put_legal s g d (first_strip + first * g.c + s.cursor.sector) (count * g.c)
        (rebuilt_sector s.now s.absent g d (first + s.cursor.sector / g.c) (s.cursor.sector % g.c) work img) img
    by true (Err why) = refl
    by false o = refl

act_legal : (s : State) (g : Geometry) (x : Stage) (d : ℕ) (work img : List ℕ) → d < g.n → LegalMove s g img (act_move s g x d work img)
unfolding wipe_move erase_move
act_legal s g (stage.Flush slots) d work img l = flush_legal s g d img l
act_legal s g (stage.Give slots zeroed a) d work img l = give_legal s g d zeroed a img
act_legal s g (stage.Wipe slots) d work img l = put_legal s g d (first_log + g.c) 1 (replicate sector_bytes 0) img
act_legal s g (stage.Restore slots t) d work img l = restore_legal s g d t img
act_legal s g (stage.Log slots t shards) d work img l = log_legal s g d t shards work img
act_legal s g (stage.Store slots t) d work img l = store_legal s g d t work img
act_legal s g (stage.Clear slots) d work img l = clear_legal s g d img
act_legal s g (stage.Erase slots odd) d work img l = put_legal s g d (odd_sector odd) 1 (replicate sector_bytes 0) img
act_legal s g (stage.Fill slots first count) d work img l = fill_legal s g d first count work img
act_legal s g stage.End d work img l = refl

walk_legal : (k : ℕ) (s : State) (g : Geometry) (work img : List ℕ) → LegalMove s g img (walk k s g work img)
unfolding walk
walk_legal zero s g work img = refl
walk_legal (suc k) s g work img = by (is_end (stage_of s)) (ltb (next_slot s g) g.n) refl (walk_legal k (on_stage s) g work img)
  where
    by : (e b : Bool) → ltb (next_slot s g) g.n ≡ b → LegalMove s g img (walk k (on_stage s) g work img)
        → LegalMove s g img (cond {A = Move} e (finished s img) (cond {A = Move} b (act_move s g (stage_of s) (next_slot s g) work img) (walk k (on_stage s) g work img)))
    by true b h r = refl
    by false true h r = act_legal s g (stage_of s) (next_slot s g) work img (ltb-true (next_slot s g) g.n h)
    by false false h r = r

-- the state of a refusal is kept; the answer is the same
kept_answer : (s : State) (r : Told) → (kept s r).answer ≡ r.answer
kept_answer s r = by r.answer refl
  where
    by : (a : Answer) → r.answer ≡ a → (by_answer a s r).answer ≡ a
    by (Put d to) e = e
    by (Flush d) e = e
    by Done e = e
    by (Refused why) e = refl

kept_state : (s : State) (r : Told) (why : Refusal) → r.answer ≡ Refused why → (kept s r).state ≡ s
kept_state s r why e = ap (λ (a : Answer). (by_answer a s r).state) e

-- ---- the laws

-- a step changes at most one sector of a present slot: each answer says what
pub step_one : (s : State) (work img : List ℕ)
    → Legal (step_move s work img).stepped.answer s.absent (geometry_of s.now) img (step_move s work img).image
unfolding step_move
step_one s work img = by (sound s) (fits_image (geometry_of s.now) (length img))
  where
    by : (b f : Bool)
        → LegalMove s (geometry_of s.now) img (cond {A = Move} b (cond {A = Move} f (keeps s (walk most_stages s (geometry_of s.now) work img)) (refuses s BadImage img)) (refuses s NotNow img))
    by true true =
        subst (λ (a : Answer). Legal a s.absent (geometry_of s.now) img (walk most_stages s (geometry_of s.now) work img).image)
        (sym (kept_answer s (walk most_stages s (geometry_of s.now) work img).stepped)) (walk_legal most_stages s (geometry_of s.now) work img)
    by true false = refl
    by false f = refl

legal_length : (a : Answer) (absent : ℕ) (g : Geometry) (img after : List ℕ) → Legal a absent g img after → length after ≡ length img
legal_length (Put d to) absent g img after p =
    ap length p.image ∙ length_put g.n g.sectors img p.bytes p.shape p.whole d to p.slot p.low
legal_length (Flush d) absent g img after p = ap length p.image
legal_length Done absent g img after p = ap length p
legal_length (Refused why) absent g img after p = ap length p

-- the image keeps its length
pub step_length : (s : State) (work img : List ℕ) → length (step_move s work img).image ≡ length img
step_length s work img = legal_length (step_move s work img).stepped.answer s.absent (geometry_of s.now) img (step_move s work img).image (step_one s work img)

said : (s : State) (work img : List ℕ) (a : Answer) → (step_move s work img).stepped.answer ≡ a
    → Legal a s.absent (geometry_of s.now) img (step_move s work img).image
said s work img a e = subst (λ (x : Answer). Legal x s.absent (geometry_of s.now) img (step_move s work img).image) e (step_one s work img)

module _ (s : State) (work img : List ℕ) (d to : ℕ) (put : (step_move s work img).stepped.answer ≡ Put d to) where
  pub step_put : Puts s.absent (geometry_of s.now) img (step_move s work img).image d to
  step_put = said s work img (Put d to) put

  -- every other sector of the shelf reads as before
  pub step_others : (e u : ℕ) → e < s.now.k + s.now.m → u < s.now.sectors → ((e ≡ d) × (u ≡ to) → ⊥)
      → sector s.now.sectors (step_move s work img).image e u ≡ sector s.now.sectors img e u
  step_others e u he hu ne =
      let g = geometry_of s.now in
      let p = step_put in
      ap (λ (x : List ℕ). sector s.now.sectors x e u) p.image
      ∙ sector_put_other g.n g.sectors img p.bytes p.shape p.whole d to p.slot p.low e u he hu ne

  -- and no byte outside the sector changes
  pub step_bytes : (i : ℕ) → (i < place s.now.sectors d to) ⊎ (place s.now.sectors d to + sector_bytes ≤ i)
      → get_or (step_move s work img).image i 0 ≡ get_or img i 0
  step_bytes i h =
      let g = geometry_of s.now in
      let p = step_put in
      ap (λ (x : List ℕ). get_or x i 0) p.image
      ∙ byte_put_other g.n g.sectors img p.bytes p.shape p.whole d to p.slot p.low i h

-- a flush names a present slot of the shelf
pub step_flush : (s : State) (work img : List ℕ) (d : ℕ) → (step_move s work img).stepped.answer ≡ Flush d
    → Flushes s.absent (geometry_of s.now) img (step_move s work img).image d
step_flush s work img d e = said s work img (Flush d) e

-- a step that is done leaves the image as it was
pub step_done : (s : State) (work img : List ℕ) → (step_move s work img).stepped.answer ≡ Done → (step_move s work img).image ≡ img
step_done s work img e = said s work img Done e

refused_state : (s : State) (work img : List ℕ) (why : Refusal) → (step_move s work img).stepped.answer ≡ Refused why → (step_move s work img).stepped.state ≡ s
unfolding step_move
refused_state s work img why = by (sound s) (fits_image (geometry_of s.now) (length img))
  where
    by : (b f : Bool)
        → (cond {A = Move} b (cond {A = Move} f (keeps s (walk most_stages s (geometry_of s.now) work img)) (refuses s BadImage img)) (refuses s NotNow img)).stepped.answer ≡ Refused why
        → (cond {A = Move} b (cond {A = Move} f (keeps s (walk most_stages s (geometry_of s.now) work img)) (refuses s BadImage img)) (refuses s NotNow img)).stepped.state ≡ s
    by true true e = kept_state s (walk most_stages s (geometry_of s.now) work img).stepped why (sym (kept_answer s (walk most_stages s (geometry_of s.now) work img).stepped) ∙ e)
    by true false e = refl
    by false f e = refl

-- a refusal leaves state and image as they were
pub step_refused : (s : State) (work img : List ℕ) (why : Refusal) → (step_move s work img).stepped.answer ≡ Refused why
    → ((step_move s work img).stepped.state ≡ s) × ((step_move s work img).image ≡ img)
step_refused s work img why e = (refused_state s work img why e, said s work img (Refused why) e)

-- ---- no byte of any disk decides the answer

put_blind : (s : State) (g : Geometry) (d to count : ℕ) (v w img jmg : List ℕ) → length v ≡ length w → length img ≡ length jmg
    → (put_move s g d to count v img).stepped ≡ (put_move s g d to count w jmg).stepped
unfolding put_move
put_blind s g d to count v w img jmg ev e = by (in_mask s.absent d)
  where
    same : (o : Outcome) → (by_outcome o s g d to count v img).stepped ≡ (by_outcome o s g d to count w jmg).stepped
    same (Ok tt) = refl
    same (Err why) = refl

    by : (b : Bool)
        → (cond {A = Move} b (refuses s NotNow img) (by_outcome (put_answer g (length img) d to (length v)) s g d to count v img)).stepped
        ≡ (cond {A = Move} b (refuses s NotNow jmg) (by_outcome (put_answer g (length jmg) d to (length w)) s g d to count w jmg)).stepped
    by true = refl
    by false =
        same (put_answer g (length img) d to (length v))
        ∙ ap₂ (λ (i j : ℕ). (by_outcome (put_answer g i d to j) s g d to count w jmg).stepped) e ev

give_blind : (s : State) (g : Geometry) (d zeroed : ℕ) (l : Label) (img jmg : List ℕ) → length img ≡ length jmg
    → (give_move s g d zeroed l img).stepped ≡ (give_move s g d zeroed l jmg).stepped
unfolding give_move
give_blind s g d zeroed l img jmg e = by (in_mask zeroed d) (fits_of (named l d))
  where
    move : Bool → Bool → List ℕ → Move
    move b f x =
        cond {A = Move} b (put_move s g d (l.generation % 2) 1 (replicate sector_bytes 0) x)
        (cond {A = Move} f (put_move s g d (l.generation % 2) 1 (sealed (named l d)) x) (refuses s NotNow x))

    by : (b f : Bool) → (move b f img).stepped ≡ (move b f jmg).stepped
    by true f = put_blind s g d (l.generation % 2) 1 (replicate sector_bytes 0) (replicate sector_bytes 0) img jmg refl e
    by false true = put_blind s g d (l.generation % 2) 1 (sealed (named l d)) (sealed (named l d)) img jmg refl e
    by false false = refl

part_length : (n p : ℕ) (x y : List ℕ) → length x ≡ length y → length (take n (drop p x)) ≡ length (take n (drop p y))
part_length n p x y e = simp (length-take, length-drop, e)

area_length : (g : Geometry) (d : ℕ) (img jmg : List ℕ) → length img ≡ length jmg → length (area_of g img d) ≡ length (area_of g jmg d)
unfolding area_of
area_length g d img jmg e =
    by (fits_image g (length img) && ltb d g.n)
    ∙ ap (λ (k : ℕ). length (cond {A = List ℕ} (fits_image g k && ltb d g.n) (take ((g.c + 1) * sector_bytes) (drop (place g.sectors d first_log) jmg)) [])) e
  where
    by : (b : Bool)
        → length (cond {A = List ℕ} b (take ((g.c + 1) * sector_bytes) (drop (place g.sectors d first_log) img)) [])
        ≡ length (cond {A = List ℕ} b (take ((g.c + 1) * sector_bytes) (drop (place g.sectors d first_log) jmg)) [])
    by true = part_length ((g.c + 1) * sector_bytes) (place g.sectors d first_log) img jmg e
    by false = refl

restored_length : (a b : List ℕ) (c s : ℕ) → length a ≡ length b → length (restore_of (part a s) (part a c) s) ≡ length (restore_of (part b s) (part b c) s)
unfolding restore_of part
restored_length a b c s e = simp (length-append, length-take, length-drop, e)

restore_blind : (s : State) (g : Geometry) (d t : ℕ) (img jmg : List ℕ) → length img ≡ length jmg
    → (restore_move s g d t img).stepped ≡ (restore_move s g d t jmg).stepped
unfolding restore_move
restore_blind s g d t img jmg e =
    by (restore_answer g.c s.cursor.sector (length (area_of g img d)) sector_bytes)
    ∙ ap (λ (k : ℕ). (by_restored (restore_answer g.c s.cursor.sector k sector_bytes) s g d t jmg).stepped) (area_length g d img jmg e)
  where
    v : List ℕ → List ℕ
    v x = restore_of (part (area_of g x d) s.cursor.sector) (part (area_of g x d) g.c) s.cursor.sector

    on : (f : Found) → (by_strip f s g d img).stepped ≡ (by_strip f s g d jmg).stepped
    on (Ok p) =
        put_blind s g d (p + s.cursor.sector) g.c (v img) (v jmg) img jmg
        (restored_length (area_of g img d) (area_of g jmg d) g.c s.cursor.sector (area_length g d img jmg e)) e
    on (Err why) = refl

    by : (o : Outcome) → (by_restored o s g d t img).stepped ≡ (by_restored o s g d t jmg).stepped
    by (Ok tt) = on (found (in_range g) (ltb t (stripes_of g)) (strip_of g t))
    by (Err why) = refl

log_blind : (s : State) (g : Geometry) (d t shards : ℕ) (work img jmg : List ℕ) → length img ≡ length jmg
    → (log_move s g d t shards work img).stepped ≡ (log_move s g d t shards work jmg).stepped
unfolding log_move
log_blind s g d t shards work img jmg e = by (logged_answer g.c s.cursor.sector (kept_of g t d work) (replicate sector_bytes 0))
  where
    v : List ℕ
    v = record_sector (tail_of s t shards) g.c s.cursor.sector (kept_of g t d work)

    by : (o : Outcome) → (by_logged o s g d t shards (kept_of g t d work) img).stepped ≡ (by_logged o s g d t shards (kept_of g t d work) jmg).stepped
    by (Ok tt) = put_blind s g d (first_log + s.cursor.sector) (g.c + 1) v v img jmg refl e
    by (Err why) = refl

store_blind : (s : State) (g : Geometry) (d t : ℕ) (work img jmg : List ℕ) → length img ≡ length jmg
    → (store_move s g d t work img).stepped ≡ (store_move s g d t work jmg).stepped
unfolding store_move
store_blind s g d t work img jmg e = by (found (in_range g) (ltb t (stripes_of g)) (strip_of g t))
  where
    v : List ℕ
    v = part_of (kept_of g t d work) s.cursor.sector

    by : (f : Found) → (by_stored f s g d (kept_of g t d work) img).stepped ≡ (by_stored f s g d (kept_of g t d work) jmg).stepped
    by (Ok p) = put_blind s g d (p + s.cursor.sector) g.c v v img jmg refl e
    by (Err why) = refl

clear_blind : (s : State) (g : Geometry) (d : ℕ) (img jmg : List ℕ) → length img ≡ length jmg → (clear_move s g d img).stepped ≡ (clear_move s g d jmg).stepped
unfolding clear_move
clear_blind s g d img jmg e = by (ltb g.c s.cursor.sector)
  where
    move : Bool → List ℕ → Move
    move b x = cond {A = Move} b (refuses s NotNow x) (put_move s g d (first_log + s.cursor.sector) (g.c + 1) (replicate sector_bytes 0) x)

    by : (b : Bool) → (move b img).stepped ≡ (move b jmg).stepped
    by true = refl
    by false = put_blind s g d (first_log + s.cursor.sector) (g.c + 1) (replicate sector_bytes 0) (replicate sector_bytes 0) img jmg refl e

-- whether a sector can be rebuilt is no matter of what the disks hold, and its length is a sector's
rebuild_blind : (l : Label) (absent : ℕ) (g : Geometry) (d t j : ℕ) (work img jmg : List ℕ) → length img ≡ length jmg
    → rebuild_answer l absent g d t j work img ≡ rebuild_answer l absent g d t j work jmg
unfolding rebuild_answer
rebuild_blind l absent g d t j work img jmg e = by (found (in_range g) (ltb t (stripes_of g) && ltb d g.n) (shard_of g.n t d))
  where
    by : (f : Found) → shown_from f l absent g t j work img ≡ shown_from f l absent g t j work jmg
    by (Ok r) =
        ap (λ (k : ℕ). shown_answer g l.k k t r j 1 (seen_slots g l absent t) (length (stripe_in g work)) (g.n * sector_bytes) sector_bytes) e
    by (Err why) = refl

rebuilt_length : (l : Label) (absent : ℕ) (g : Geometry) (d t j : ℕ) (work img : List ℕ) → length (rebuilt_sector l absent g d t j work img) ≡ sector_bytes
unfolding rebuilt_sector shard_shown
rebuilt_length l absent g d t j work img = listed_length (1 * sector_bytes) _

fill_blind : (s : State) (g : Geometry) (d first count : ℕ) (work img jmg : List ℕ) → length img ≡ length jmg
    → (fill_move s g d first count work img).stepped ≡ (fill_move s g d first count work jmg).stepped
unfolding fill_move
fill_blind s g d first count work img jmg e =
    by (in_strips first count g.c s.cursor.sector) (rebuild_answer s.now s.absent g d t j work img)
    ∙ ap (λ (o : Outcome). (move (in_strips first count g.c s.cursor.sector) o jmg).stepped) (rebuild_blind s.now s.absent g d t j work img jmg e)
  where
    t : ℕ
    t = first + s.cursor.sector / g.c

    j : ℕ
    j = s.cursor.sector % g.c

    v : List ℕ → List ℕ
    v x = rebuilt_sector s.now s.absent g d t j work x

    move : Bool → Outcome → List ℕ → Move
    move b o x = cond {A = Move} b (by_rebuilt o s g d first count work x) (refuses s NotNow x)

    by : (b : Bool) (o : Outcome) → (move b o img).stepped ≡ (move b o jmg).stepped
    by true (Ok tt) =
        put_blind s g d (first_strip + first * g.c + s.cursor.sector) (count * g.c) (v img) (v jmg) img jmg
        (rebuilt_length s.now s.absent g d t j work img ∙ sym (rebuilt_length s.now s.absent g d t j work jmg)) e
    by true (Err why) = refl
    by false o = refl

act_blind : (s : State) (g : Geometry) (x : Stage) (d : ℕ) (work img jmg : List ℕ) → length img ≡ length jmg
    → (act_move s g x d work img).stepped ≡ (act_move s g x d work jmg).stepped
unfolding wipe_move erase_move
act_blind s g (stage.Flush slots) d work img jmg e = refl
act_blind s g (stage.Give slots zeroed a) d work img jmg e = give_blind s g d zeroed a img jmg e
act_blind s g (stage.Wipe slots) d work img jmg e = put_blind s g d (first_log + g.c) 1 (replicate sector_bytes 0) (replicate sector_bytes 0) img jmg refl e
act_blind s g (stage.Restore slots t) d work img jmg e = restore_blind s g d t img jmg e
act_blind s g (stage.Log slots t shards) d work img jmg e = log_blind s g d t shards work img jmg e
act_blind s g (stage.Store slots t) d work img jmg e = store_blind s g d t work img jmg e
act_blind s g (stage.Clear slots) d work img jmg e = clear_blind s g d img jmg e
act_blind s g (stage.Erase slots odd) d work img jmg e = put_blind s g d (odd_sector odd) 1 (replicate sector_bytes 0) (replicate sector_bytes 0) img jmg refl e
act_blind s g (stage.Fill slots first count) d work img jmg e = fill_blind s g d first count work img jmg e
act_blind s g stage.End d work img jmg e = refl

walk_blind : (k : ℕ) (s : State) (g : Geometry) (work img jmg : List ℕ) → length img ≡ length jmg → (walk k s g work img).stepped ≡ (walk k s g work jmg).stepped
unfolding walk
walk_blind zero s g work img jmg e = refl
walk_blind (suc k) s g work img jmg e = by (is_end (stage_of s)) (ltb (next_slot s g) g.n) (walk_blind k (on_stage s) g work img jmg e)
  where
    move : Bool → Bool → List ℕ → Move
    move a b x = cond {A = Move} a (finished s x) (cond {A = Move} b (act_move s g (stage_of s) (next_slot s g) work x) (walk k (on_stage s) g work x))

    by : (a b : Bool) → (walk k (on_stage s) g work img).stepped ≡ (walk k (on_stage s) g work jmg).stepped → (move a b img).stepped ≡ (move a b jmg).stepped
    by true b r = refl
    by false true r = act_blind s g (stage_of s) (next_slot s g) work img jmg e
    by false false r = r

-- two images of one length get the same answer and the same state, whatever the disks hold, absent or present
pub step_blind : (s : State) (work img jmg : List ℕ) → length img ≡ length jmg → (step_move s work img).stepped ≡ (step_move s work jmg).stepped
unfolding step_move
step_blind s work img jmg e =
    by (sound s) (fits_image (geometry_of s.now) (length img))
    ∙ ap (λ (k : ℕ). (move (sound s) (fits_image (geometry_of s.now) k) jmg).stepped) e
  where
    move : Bool → Bool → List ℕ → Move
    move b f x =
        cond {A = Move} b (cond {A = Move} f (keeps s (walk most_stages s (geometry_of s.now) work x)) (refuses s BadImage x)) (refuses s NotNow x)

    by : (b f : Bool) → (move b f img).stepped ≡ (move b f jmg).stepped
    by true true = ap (kept s) (walk_blind most_stages s (geometry_of s.now) work img jmg e)
    by true false = refl
    by false f = refl

-- ---- and no byte of an absent slot reaches a present one

-- two images agree on the sectors of the present slots
abbrev pub Agree : ℕ → Geometry → List ℕ → List ℕ → Type 0
Agree absent g img jmg =
    (e u : ℕ) → e < g.n → u < g.sectors → in_mask absent e ≡ false → sector g.sectors img e u ≡ sector g.sectors jmg e u

-- the same sector of both
put_agree : (absent : ℕ) (g : Geometry) (d to : ℕ) (v img jmg : List ℕ) → d < g.n → to < g.sectors → length v ≡ sector_bytes
    → Shape g.n g.sectors img → Shape g.n g.sectors jmg → Agree absent g img jmg
    → Agree absent g (put_sector g.sectors img d to v) (put_sector g.sectors jmg d to v)
put_agree absent g d to v img jmg hd ht lv si sj a e u he hu p = by (eqb e d) (eqb u to) refl refl
  where
    other : ((e ≡ d) × (u ≡ to) → ⊥) → sector g.sectors (put_sector g.sectors img d to v) e u ≡ sector g.sectors (put_sector g.sectors jmg d to v) e u
    other ne =
        sector_put_other g.n g.sectors img v si lv d to hd ht e u he hu ne ∙ a e u he hu p
        ∙ sym (sector_put_other g.n g.sectors jmg v sj lv d to hd ht e u he hu ne)

    by : (b c : Bool) → eqb e d ≡ b → eqb u to ≡ c
        → sector g.sectors (put_sector g.sectors img d to v) e u ≡ sector g.sectors (put_sector g.sectors jmg d to v) e u
    by true true q r =
        ap₂ (λ (i j : ℕ). sector g.sectors (put_sector g.sectors img d to v) i j) (eqb-true e d q) (eqb-true u to r)
        ∙ sector_put g.n g.sectors img v si lv d to hd ht
        ∙ sym (sector_put g.n g.sectors jmg v sj lv d to hd ht)
        ∙ sym (ap₂ (λ (i j : ℕ). sector g.sectors (put_sector g.sectors jmg d to v) i j) (eqb-true e d q) (eqb-true u to r))
    by true false q r = other (λ h. eqb-false u to r h.1)
    by false c q r = other (λ h. eqb-false e d q h.0)

-- a record gives back sectors of its strip alone
restored_inside : (c j la : ℕ) → restore_answer c j la sector_bytes ≡ Ok tt → j < c
unfolding restore_answer
restored_inside c j la = by (strip_length c) (ltb j c) (eqb la ((c + 1) * sector_bytes) && eqb sector_bytes sector_bytes) refl
  where
    by : (x y z : Bool) → ltb j c ≡ y
        → cond {A = Outcome} x (cond {A = Outcome} y (cond {A = Outcome} z (Ok tt) (Err BadBuffer)) (Err BadBlock)) (Err BadImage) ≡ Ok tt
        → j < c
    by true true z h e = ltb-true j c h
    by true false z h e = absurd (let w : ◌≡◌ {A = ℕ} 0 1 = cc in omega arith)
    by false y z h e = absurd (let w : ◌≡◌ {A = ℕ} 0 1 = cc in omega arith)

listed_same : (n : ℕ) (f h : ℕ → ℕ) → ((i : ℕ) → i < n → f i ≡ h i) → listed n f ≡ listed n h
unfolding listed
listed_same zero f h e = refl
listed_same (suc n) f h e =
    ap₂ (λ (x : ℕ) (y : List ℕ). x ∷ y) (e 0 (omega arith)) (listed_same n (λ i. f (suc i)) (λ i. h (suc i)) (λ i l. e (suc i) (omega arith)))

-- a byte of a sector
sector_byte : (S : ℕ) (img : List ℕ) (d u p : ℕ) → p < sector_bytes → get_or (sector S img d u) p 0 ≡ get_or img (place S d u + p) 0
unfolding sector
sector_byte S img d u p h = get_or-take sector_bytes (drop (place S d u) img) p 0 h ∙ get_or-drop (place S d u) img p 0

-- a slot that is seen is present
seen_present : (g : Geometry) (l : Label) (absent t e : ℕ) → e < g.n → in_mask (seen_slots g l absent t) e ≡ true → in_mask absent e ≡ false
unfolding seen_slots present
seen_present g l absent t e h q =
    let p = sym (mask_below (λ d. in_mask (believed_slots g l t) d && not (in_mask absent d)) g.n e h) ∙ q in
    by (in_mask absent e) refl (and_right (in_mask (believed_slots g l t) e) _ p)
  where
    by : (b : Bool) → in_mask absent e ≡ b → not b ≡ true → in_mask absent e ≡ false
    by true x y = absurd (true≢false (sym y))
    by false x y = x

put_absent : (s : State) (g : Geometry) (d to count : ℕ) (v img : List ℕ) → in_mask s.absent d ≡ true → (put_move s g d to count v img).image ≡ img
unfolding put_move
put_absent s g d to count v img p = ap (λ (x : Move). x.image) (when (in_mask s.absent d) _ _ p)

module _ (g : Geometry) (img jmg : List ℕ) (same : length img ≡ length jmg) where
  shapes : fits_image g (length img) ≡ true → Shape g.n g.sectors img × Shape g.n g.sectors jmg
  shapes f = ((fits_image_lem g img f).1, (fits_image_lem g jmg (ap (fits_image g) (sym same) ∙ f)).1)

  move_agree : (s : State) (d to count : ℕ) (v : List ℕ) → Agree s.absent g img jmg
      → Agree s.absent g (put_move s g d to count v img).image (put_move s g d to count v jmg).image
  unfolding put_move put_answer
  move_agree s d to count v a = by (in_mask s.absent d)
    where
      tried : (f o w : Bool) → fits_image g (length img) ≡ f → on_shelf g d to ≡ o → eqb (length v) sector_bytes ≡ w
          → let answer = cond {A = Outcome} f (cond {A = Outcome} o (cond {A = Outcome} w (Ok tt) (Err BadBuffer)) (Err BadBlock)) (Err BadImage) in
          Agree s.absent g (by_outcome answer s g d to count v img).image (by_outcome answer s g d to count v jmg).image
      tried true true true f o w =
          let h = on_shelf_lem g d to o in
          put_agree s.absent g d to v img jmg h.0 h.1 (eqb-true (length v) sector_bytes w) (shapes f).0 (shapes f).1 a
      tried true true false f o w = a
      tried true false w f o e = a
      tried false o w f e u = a

      by : (b : Bool)
          → Agree s.absent g (cond {A = Move} b (refuses s NotNow img) (by_outcome (put_answer g (length img) d to (length v)) s g d to count v img)).image
          (cond {A = Move} b (refuses s NotNow jmg) (by_outcome (put_answer g (length jmg) d to (length v)) s g d to count v jmg)).image
      by true = a
      by false =
          subst (λ (k : ℕ). Agree s.absent g (by_outcome (put_answer g (length img) d to (length v)) s g d to count v img).image (by_outcome (put_answer g k d to (length v)) s g d to count v jmg).image)
          same (tried (fits_image g (length img)) (on_shelf g d to) (eqb (length v) sector_bytes) refl refl refl)

  give_agree : (s : State) (d zeroed : ℕ) (l : Label) → Agree s.absent g img jmg
      → Agree s.absent g (give_move s g d zeroed l img).image (give_move s g d zeroed l jmg).image
  unfolding give_move
  give_agree s d zeroed l a = by (in_mask zeroed d) (fits_of (named l d))
    where
      move : Bool → Bool → List ℕ → Move
      move b f x =
          cond {A = Move} b (put_move s g d (l.generation % 2) 1 (replicate sector_bytes 0) x)
          (cond {A = Move} f (put_move s g d (l.generation % 2) 1 (sealed (named l d)) x) (refuses s NotNow x))

      by : (b f : Bool) → Agree s.absent g (move b f img).image (move b f jmg).image
      by true f = move_agree s d (l.generation % 2) 1 (replicate sector_bytes 0) a
      by false true = move_agree s d (l.generation % 2) 1 (sealed (named l d)) a
      by false false = a

  -- a present slot's record reads the same in both
  area_agree : (absent d k : ℕ) → in_mask absent d ≡ false → k ≤ g.c → Agree absent g img jmg → part (area_of g img d) k ≡ part (area_of g jmg d) k
  unfolding area_of Shape
  area_agree absent d k p h a = by (fits_image g (length img)) (ltb d g.n) refl refl ∙ ap (λ (i : ℕ). part (cond {A = List ℕ} (fits_image g i && ltb d g.n) (cut jmg) []) k) same
    where
      cut : List ℕ → List ℕ
      cut x = take ((g.c + 1) * sector_bytes) (drop (place g.sectors d first_log) x)

      there : fits_image g (length img) ≡ true → d < g.n → part (cut img) k ≡ part (cut jmg) k
      there f l =
          let r = (fits_image_lem g img f).0 in
          let si = (shapes f).0 in
          let sj = (shapes f).1 in
          let fit = place_fits g.n g.sectors d (first_log + g.c) l (omega (arith, r.room)) in
          area_part g.sectors d g.c k img (omega (arith, si, fit)) h
          ∙ a d (first_log + k) l (omega (arith, r.room)) p
          ∙ sym (area_part g.sectors d g.c k jmg (omega (arith, sj, fit)) h)

      by : (f b : Bool) → fits_image g (length img) ≡ f → ltb d g.n ≡ b
          → part (cond {A = List ℕ} (f && b) (cut img) []) k ≡ part (cond {A = List ℕ} (f && b) (cut jmg) []) k
      by true true q l = there q (ltb-true d g.n l)
      by true false q l = refl
      by false b q l = refl

  restore_agree : (s : State) (d t : ℕ) → Agree s.absent g img jmg
      → Agree s.absent g (restore_move s g d t img).image (restore_move s g d t jmg).image
  unfolding restore_move
  restore_agree s d t a =
      subst (λ (k : ℕ). Agree s.absent g (by_restored (answer (length (area_of g img d))) s g d t img).image (by_restored (answer k) s g d t jmg).image)
      (area_length g d img jmg same) (by (answer (length (area_of g img d))) refl)
    where
      answer : ℕ → Outcome
      answer k = restore_answer g.c s.cursor.sector k sector_bytes

      v : List ℕ → List ℕ
      v x = restore_of (part (area_of g x d) s.cursor.sector) (part (area_of g x d) g.c) s.cursor.sector

      put : (to : ℕ) (b : Bool) → s.cursor.sector < g.c → in_mask s.absent d ≡ b
          → Agree s.absent g (put_move s g d to g.c (v img) img).image (put_move s g d to g.c (v jmg) jmg).image
      put to true h p =
          let still : (x : List ℕ) → x ≡ (put_move s g d to g.c (v x) x).image = λ x. sym (put_absent s g d to g.c (v x) x p) in
          subst (λ (x : List ℕ). Agree s.absent g x (put_move s g d to g.c (v jmg) jmg).image) (still img)
          (subst (λ (x : List ℕ). Agree s.absent g img x) (still jmg) a)
      put to false h p =
          let e : v img ≡ v jmg =
          ap₂ (λ (x y : List ℕ). restore_of x y s.cursor.sector) (area_agree s.absent d s.cursor.sector p (omega arith) a) (area_agree s.absent d g.c p (omega arith) a) in
          subst (λ (x : List ℕ). Agree s.absent g (put_move s g d to g.c (v img) img).image (put_move s g d to g.c x jmg).image) e
          (move_agree s d to g.c (v img) a)

      on : (f : Found) → s.cursor.sector < g.c → Agree s.absent g (by_strip f s g d img).image (by_strip f s g d jmg).image
      on (Ok p) h = put (p + s.cursor.sector) (in_mask s.absent d) h refl
      on (Err why) h = a

      by : (o : Outcome) → answer (length (area_of g img d)) ≡ o → Agree s.absent g (by_restored o s g d t img).image (by_restored o s g d t jmg).image
      by (Ok tt) e = on (found (in_range g) (ltb t (stripes_of g)) (strip_of g t)) (restored_inside g.c s.cursor.sector (length (area_of g img d)) e)
      by (Err why) e = a

  log_agree : (s : State) (d t shards : ℕ) (work : List ℕ) → Agree s.absent g img jmg
      → Agree s.absent g (log_move s g d t shards work img).image (log_move s g d t shards work jmg).image
  unfolding log_move
  log_agree s d t shards work a = by (logged_answer g.c s.cursor.sector (kept_of g t d work) (replicate sector_bytes 0))
    where
      by : (o : Outcome)
          → Agree s.absent g (by_logged o s g d t shards (kept_of g t d work) img).image (by_logged o s g d t shards (kept_of g t d work) jmg).image
      by (Ok tt) =
          move_agree s d (first_log + s.cursor.sector) (g.c + 1) (record_sector (tail_of s t shards) g.c s.cursor.sector (kept_of g t d work)) a
      by (Err why) = a

  store_agree : (s : State) (d t : ℕ) (work : List ℕ) → Agree s.absent g img jmg
      → Agree s.absent g (store_move s g d t work img).image (store_move s g d t work jmg).image
  unfolding store_move
  store_agree s d t work a = by (found (in_range g) (ltb t (stripes_of g)) (strip_of g t))
    where
      by : (f : Found) → Agree s.absent g (by_stored f s g d (kept_of g t d work) img).image (by_stored f s g d (kept_of g t d work) jmg).image
      by (Ok p) = move_agree s d (p + s.cursor.sector) g.c (part_of (kept_of g t d work) s.cursor.sector) a
      by (Err why) = a

  clear_agree : (s : State) (d : ℕ) → Agree s.absent g img jmg → Agree s.absent g (clear_move s g d img).image (clear_move s g d jmg).image
  unfolding clear_move
  clear_agree s d a = by (ltb g.c s.cursor.sector)
    where
      move : Bool → List ℕ → Move
      move b x = cond {A = Move} b (refuses s NotNow x) (put_move s g d (first_log + s.cursor.sector) (g.c + 1) (replicate sector_bytes 0) x)

      by : (b : Bool) → Agree s.absent g (move b img).image (move b jmg).image
      by true = a
      by false = move_agree s d (first_log + s.cursor.sector) (g.c + 1) (replicate sector_bytes 0) a

  rebuilt_agree : (l : Label) (absent d t j : ℕ) (work : List ℕ) → rebuild_answer l absent g d t j work img ≡ Ok tt → Agree absent g img jmg
      → rebuilt_sector l absent g d t j work img ≡ rebuilt_sector l absent g d t j work jmg
  unfolding rebuild_answer rebuilt_sector shard_shown
  rebuilt_agree l absent d t j work told a = by (in_range g) (ltb t (stripes_of g) && ltb d g.n) told
    where
      r : ℕ
      r = shard_of g.n t d

      there : ℕ
      there = seen_slots g l absent t

      shown : shown_answer g l.k (length img) t r j 1 there (length (stripe_in g work)) (g.n * sector_bytes) sector_bytes ≡ Ok tt
          → listed (1 * sector_bytes) (λ p. shown_byte g l.k img there 0 (stripe_in g work) t r (j * sector_bytes + p))
          ≡ listed (1 * sector_bytes) (λ p. shown_byte g l.k jmg there 0 (stripe_in g work) t r (j * sector_bytes + p))
      shown e =
          let h = shown_done g l.k img (stripe_in g work) t r j 1 there (g.n * sector_bytes) sector_bytes e in
          let b = h.0 in
          let u : ℕ = strip_of g t in
          listed_same (1 * sector_bytes) _ _ (λ p lp.
          shown_blind g l.k img jmg there 0 (stripe_in g work) t r (j * sector_bytes + p) (omega (arith, h.1.parity)) h.3
          (λ e he q.
          let lp' : p < sector_bytes = lp in
          let z : place g.sectors e u + (j * sector_bytes + p) ≡ place g.sectors e (u + j) + p = omega arith in
          ap (λ (x : ℕ). get_or img x 0) z ∙ sym (sector_byte g.sectors img e (u + j) p lp')
          ∙ ap (λ (x : List ℕ). get_or x p 0) (a e (u + j) he (omega (arith, strip_inside g b.range t b.stripe, b.within)) (seen_present g l absent t e he q))
          ∙ sector_byte g.sectors jmg e (u + j) p lp' ∙ ap (λ (x : ℕ). get_or jmg x 0) (sym z)))

      by : (x y : Bool) → shown_from (found x y r) l absent g t j work img ≡ Ok tt
          → listed (1 * sector_bytes) (λ p. shown_byte g l.k img there 0 (stripe_in g work) t r (j * sector_bytes + p))
          ≡ listed (1 * sector_bytes) (λ p. shown_byte g l.k jmg there 0 (stripe_in g work) t r (j * sector_bytes + p))
      by true true e = shown e
      by true false e = absurd (let w : ◌≡◌ {A = ℕ} 0 1 = cc in omega arith)
      by false y e = absurd (let w : ◌≡◌ {A = ℕ} 0 1 = cc in omega arith)

  fill_agree : (s : State) (d first count : ℕ) (work : List ℕ) → Agree s.absent g img jmg
      → Agree s.absent g (fill_move s g d first count work img).image (fill_move s g d first count work jmg).image
  unfolding fill_move
  fill_agree s d first count work a =
      subst (λ (o : Outcome). Agree s.absent g (move b (answer img) img).image (move b o jmg).image) (rebuild_blind s.now s.absent g d t j work img jmg same)
      (by b (answer img) refl)
    where
      t : ℕ
      t = first + s.cursor.sector / g.c

      j : ℕ
      j = s.cursor.sector % g.c

      b : Bool
      b = in_strips first count g.c s.cursor.sector

      answer : List ℕ → Outcome
      answer x = rebuild_answer s.now s.absent g d t j work x

      v : List ℕ → List ℕ
      v x = rebuilt_sector s.now s.absent g d t j work x

      to : ℕ
      to = first_strip + first * g.c + s.cursor.sector

      move : Bool → Outcome → List ℕ → Move
      move y o x = cond {A = Move} y (by_rebuilt o s g d first count work x) (refuses s NotNow x)

      by : (y : Bool) (o : Outcome) → answer img ≡ o → Agree s.absent g (move y o img).image (move y o jmg).image
      by true (Ok tt) e =
          subst (λ (x : List ℕ). Agree s.absent g (put_move s g d to (count * g.c) (v img) img).image (put_move s g d to (count * g.c) x jmg).image)
          (rebuilt_agree s.now s.absent d t j work e a) (move_agree s d to (count * g.c) (v img) a)
      by true (Err why) e = a
      by false o e = a

  act_agree : (s : State) (x : Stage) (d : ℕ) (work : List ℕ) → Agree s.absent g img jmg
      → Agree s.absent g (act_move s g x d work img).image (act_move s g x d work jmg).image
  unfolding wipe_move erase_move
  act_agree s (stage.Flush slots) d work a = a
  act_agree s (stage.Give slots zeroed l) d work a = give_agree s d zeroed l a
  act_agree s (stage.Wipe slots) d work a = move_agree s d (first_log + g.c) 1 (replicate sector_bytes 0) a
  act_agree s (stage.Restore slots t) d work a = restore_agree s d t a
  act_agree s (stage.Log slots t shards) d work a = log_agree s d t shards work a
  act_agree s (stage.Store slots t) d work a = store_agree s d t work a
  act_agree s (stage.Clear slots) d work a = clear_agree s d a
  act_agree s (stage.Erase slots odd) d work a = move_agree s d (odd_sector odd) 1 (replicate sector_bytes 0) a
  act_agree s (stage.Fill slots first count) d work a = fill_agree s d first count work a
  act_agree s stage.End d work a = a

walk_agree : (k : ℕ) (s : State) (g : Geometry) (work img jmg : List ℕ) → length img ≡ length jmg → Agree s.absent g img jmg
    → Agree s.absent g (walk k s g work img).image (walk k s g work jmg).image
unfolding walk
walk_agree zero s g work img jmg e a = a
walk_agree (suc k) s g work img jmg e a =
    by (is_end (stage_of s)) (ltb (next_slot s g) g.n) (walk_agree k (on_stage s) g work img jmg e a)
  where
    move : Bool → Bool → List ℕ → Move
    move c b x = cond {A = Move} c (finished s x) (cond {A = Move} b (act_move s g (stage_of s) (next_slot s g) work x) (walk k (on_stage s) g work x))

    by : (c b : Bool) → Agree s.absent g (walk k (on_stage s) g work img).image (walk k (on_stage s) g work jmg).image
        → Agree s.absent g (move c b img).image (move c b jmg).image
    by true b r = a
    by false true r = act_agree g img jmg e s (stage_of s) (next_slot s g) work a
    by false false r = r

-- images that agree on the present slots before a step agree on them after it: what is put is the same
pub step_agrees : (s : State) (work img jmg : List ℕ) → length img ≡ length jmg → Agree s.absent (geometry_of s.now) img jmg
    → Agree s.absent (geometry_of s.now) (step_move s work img).image (step_move s work jmg).image
unfolding step_move
step_agrees s work img jmg e a =
    subst (λ (k : ℕ). Agree s.absent g (move (sound s) (fits_image g (length img)) img).image (move (sound s) (fits_image g k) jmg).image) e
    (by (sound s) (fits_image g (length img)))
  where
    g : Geometry
    g = geometry_of s.now

    move : Bool → Bool → List ℕ → Move
    move b f x = cond {A = Move} b (cond {A = Move} f (keeps s (walk most_stages s g work x)) (refuses s BadImage x)) (refuses s NotNow x)

    by : (b f : Bool) → Agree s.absent g (move b f img).image (move b f jmg).image
    by true true = walk_agree most_stages s g work img jmg e a
    by true false = a
    by false f = a
