-- What the tests of a step say, and each way through it, as the code goes it. Assumes nothing.
use Rattle.std.specs.Prelude.{◌≡◌, Bool, cond, ◌&&◌, ℕ, suc, ◌+◌, ◌-◌, ◌*◌, ◌≤◌, ◌<◌, ◌/◌, ◌%◌, leb, length, replicate, take, drop, Ok, Err}
use Rattle.std.proofs.Math.Path.{refl, sym, ap, ap₂}
use Rattle.std.proofs.Common.{◌∙◌, ⊎_elim, mul-le-mul, eq-zero-or-pos, div-le_self, add-one, ltb-true, leb-true, lt-ltb, le-ltb, le-leb}
use Rattle.std.proofs.Math.Bool.{true, false}
use mathlib.Core.List.{List, []}
use native.Mathlib.Omega.{arith}
use Rattle.std.proofs.Math.Dec.{ltb}
use Rattle.disk.specs.Limits.{most_n, most_c, most_sectors, sector_bytes, first_log, first_strip}
use Rattle.disk.specs.Tests.{and_left, and_right}
use Rattle.disk.specs.Mask.{in_mask}
use Rattle.disk.specs.Image.{fits_image}
use Rattle.disk.specs.Geometry.{in_range, stripes_of, strip_of, shard_of, found, in_range_lem, shard_lt}
use Rattle.disk.proofs.GeometryLaws.{strip_inside}
use Rattle.disk.specs.declared.geometry.Geometry.{Geometry}
use Rattle.disk.specs.Geometry.{Found}
use Rattle.disk.specs.declared.refusal.Refusal.{Refusal}
use Rattle.disk.specs.declared.refusal.Refusal.TheVariants.{BadImage, NotNow}
use Rattle.disk.specs.Refusal.{Outcome}
use Rattle.label.specs.Fields.{geometry_of, fits_of, most_generation}
use Rattle.label.specs.Bytes.{sealed, encode_answer, after_encode}
use Rattle.label.specs.declared.fields.Label.{Label}
use Rattle.label.proofs.Fits.{Fits, fits_says}
use Rattle.record.specs.Log.{area_of, log_sector, log_answer, after_log, restore_answer, after_restore}
use Rattle.record.specs.Tail.{tail_answer, after_tail}
use Rattle.record.specs.declared.tail.Tail.{Tail}
use Rattle.stages.specs.Limits.{most_stages}
use Rattle.shelf.specs.Kept.{shard_at, kept_of, part_of, record_sector, logged_answer, after_logged}
use Rattle.strips.specs.Seen.{shard_shown}
use Rattle.strips.specs.Answers.{shown_answer, after_shown}
use Rattle.shelf.specs.Fill.{seen_slots, stripe_in, shown_from, rebuild_answer, rebuilt_sector, after_rebuild}
use Rattle.stages.specs.Stage.{slots_of, stage_of, stage_for}
use Rattle.shelf.specs.Act.{refuses, put_move, named, give_move, by_strip, by_restored, restore_move, tail_of, by_logged, log_move, by_stored, store_move, in_strips, by_rebuilt, fill_move, act_move}
use Rattle.shelf.specs.Step.{seek, is_end, finished, on_stage, next_slot, walk, keeps, under_way, sound, step_move}
use Rattle.stages.specs.declared.state.State.{State}
use Rattle.stages.specs.declared.stage.Stage.{Stage}

-- ---- a test of two

pub when : {A : Type 0} (b : Bool) (x y : A) → b ≡ true → cond b x y ≡ x
when b x y e = ap (λ (t : Bool). cond t x y) e

pub unless : {A : Type 0} (b : Bool) (x y : A) → b ≡ false → cond b x y ≡ y
unless b x y e = ap (λ (t : Bool). cond t x y) e

-- ---- the next slot

pub seek_here : (mask n d : ℕ) → d < n → in_mask mask d ≡ true → seek mask (n - d) d ≡ d
unfolding seek
seek_here mask n d l e =
    let k : n - d ≡ suc (n - suc d) = omega arith in
    ap (λ (j : ℕ). seek mask j d) k ∙ when (in_mask mask d) d (seek mask (n - suc d) (suc d)) e

pub seek_on : (mask n d : ℕ) → d < n → in_mask mask d ≡ false → seek mask (n - d) d ≡ seek mask (n - (d + 1)) (d + 1)
unfolding seek
seek_on mask n d l e =
    let k : n - d ≡ suc (n - suc d) = omega arith in
    ap (λ (j : ℕ). seek mask j d) k ∙ unless (in_mask mask d) d (seek mask (n - suc d) (suc d)) e
    ∙ ap (λ (j : ℕ). seek mask (n - j) j) (sym (add-one d))

pub seek_end : (mask n d : ℕ) → n ≤ d → seek mask (n - d) d ≡ d
unfolding seek
seek_end mask n d l = let k : n - d ≡ 0 = omega arith in ap (λ (j : ℕ). seek mask j d) k

-- ---- a label's bytes

encoded : (b : Bool) → cond {A = Outcome} b (Ok tt) (Err BadImage) ≡ Ok tt → b ≡ true
encoded true e = refl
encoded false e = absurd (let z : ◌≡◌ {A = ℕ} 0 1 = cc in omega arith)

not_encoded : (b : Bool) (w : Refusal) → cond {A = Outcome} b (Ok tt) (Err BadImage) ≡ Err w → b ≡ false
not_encoded true w e = absurd (let z : ◌≡◌ {A = ℕ} 0 1 = cc in omega arith)
not_encoded false w e = refl

pub encode_done : (l : Label) → encode_answer l sector_bytes ≡ Ok tt → fits_of l ≡ true
unfolding encode_answer
encode_done l e = encoded (fits_of l) e

pub encode_not : (l : Label) (w : Refusal) → encode_answer l sector_bytes ≡ Err w → fits_of l ≡ false
unfolding encode_answer
encode_not l w e = not_encoded (fits_of l) w e

module _ (s : State) (g : Geometry) (d zeroed : ℕ) (l : Label) (img : List ℕ) (off : in_mask zeroed d ≡ false)
    (a : Label) (named_is : a ≡ named l d) (o : Outcome) (answer : o ≡ encode_answer a sector_bytes) where
  pub give_put : o ≡ Ok tt → (to : ℕ) → to ≡ l.generation % 2 → (v z : List ℕ) → v ≡ after_encode o a z
      → give_move s g d zeroed l img ≡ put_move s g d to 1 v img
  unfolding give_move
  give_put told to side v z leaves =
      let f : fits_of (named l d) ≡ true = ap fits_of (sym named_is) ∙ encode_done a (sym answer ∙ told) in
      let b : sealed (named l d) ≡ v = ap sealed (sym named_is) ∙ sym (leaves ∙ ap (λ (x : Outcome). after_encode x a z) told) in
      unless (in_mask zeroed d) _ _ off ∙ when (fits_of (named l d)) _ _ f ∙ ap₂ (λ (y : ℕ) (x : List ℕ). put_move s g d y 1 x img) (sym side) b

  pub give_not : (w : Refusal) → o ≡ Err w → give_move s g d zeroed l img ≡ refuses s NotNow img
  unfolding give_move
  give_not w told =
      let f : fits_of (named l d) ≡ false = ap fits_of (sym named_is) ∙ encode_not a w (sym answer ∙ told) in
      unless (in_mask zeroed d) _ _ off ∙ unless (fits_of (named l d)) _ _ f

-- ---- a strip's sector, from the record

-- a strip that there is begins low enough to add a sector to
pub strip_low : (g : Geometry) (t p : ℕ) → found (in_range g) (ltb t (stripes_of g)) (strip_of g t) ≡ Ok p → p ≤ most_sectors
strip_low g t p e = by (in_range g) (ltb t (stripes_of g)) refl refl e
  where
    by : (a b : Bool) → in_range g ≡ a → ltb t (stripes_of g) ≡ b → found a b (strip_of g t) ≡ Ok p → p ≤ most_sectors
    by true true r l e =
        let q : strip_of g t ≡ p = cc in
        let i = in_range_lem g r in
        omega (arith, i.most, strip_inside g i t (ltb-true t (stripes_of g) l))
    by true false r l e = absurd (let z : ◌≡◌ {A = ℕ} 0 1 = cc in omega arith)
    by false b r l e = absurd (let z : ◌≡◌ {A = ℕ} 0 1 = cc in omega arith)

module _ (s : State) (g : Geometry) (d t : ℕ) (img : List ℕ) (area : List ℕ) (area_is : area ≡ area_of g img d)
    (o : Outcome) (answer : o ≡ restore_answer g.c s.cursor.sector (length area) sector_bytes) where
  restore_is : restore_answer g.c s.cursor.sector (length (area_of g img d)) sector_bytes ≡ o
  restore_is = ap (λ (x : List ℕ). restore_answer g.c s.cursor.sector (length x) sector_bytes) (sym area_is) ∙ sym answer

  pub redo_not : (w : Refusal) → o ≡ Err w → restore_move s g d t img ≡ refuses s NotNow img
  unfolding restore_move
  redo_not w told = ap (λ (x : Outcome). by_restored x s g d t img) (restore_is ∙ told)

  module _ (told : o ≡ Ok tt) (f : Found) (strip : f ≡ found (in_range g) (ltb t (stripes_of g)) (strip_of g t)) where
    on_strip_lem : restore_move s g d t img ≡ by_strip f s g d img
    unfolding restore_move
    on_strip_lem = ap (λ (x : Outcome). by_restored x s g d t img) (restore_is ∙ told) ∙ ap (λ (x : Found). by_strip x s g d img) (sym strip)

    pub redo_none : (w : Refusal) → f ≡ Err w → restore_move s g d t img ≡ refuses s NotNow img
    redo_none w e = on_strip_lem ∙ ap (λ (x : Found). by_strip x s g d img) e

    pub redo_put : (p : ℕ) → f ≡ Ok p → (v : List ℕ) → v ≡ after_restore o area g.c s.cursor.sector (replicate sector_bytes 0)
        → restore_move s g d t img ≡ put_move s g d (p + s.cursor.sector) g.c v img
    redo_put p e v leaves =
        on_strip_lem ∙ ap (λ (x : Found). by_strip x s g d img) e
        ∙ ap (λ (x : List ℕ). put_move s g d (p + s.cursor.sector) g.c x img)
        (sym (leaves ∙ ap₂ (λ (x : Outcome) (y : List ℕ). after_restore x y g.c s.cursor.sector (replicate sector_bytes 0)) told area_is))

-- ---- what is kept

-- a shard that there is has a low number
pub shard_low : (g : Geometry) (t d r : ℕ) → found (in_range g) (ltb t (stripes_of g) && ltb d g.n) (shard_of g.n t d) ≡ Ok r → r < most_n
shard_low g t d r e = by (in_range g) (ltb t (stripes_of g) && ltb d g.n) refl e
  where
    by : (a b : Bool) → in_range g ≡ a → found a b (shard_of g.n t d) ≡ Ok r → r < most_n
    by true true i e =
        let q : shard_of g.n t d ≡ r = cc in
        let h = in_range_lem g i in
        omega (arith, h.few, shard_lt g.n t (omega (arith, h.least)) d)
    by true false i e = absurd (let z : ◌≡◌ {A = ℕ} 0 1 = cc in omega arith)
    by false b i e = absurd (let z : ◌≡◌ {A = ℕ} 0 1 = cc in omega arith)

-- a part by its two ends
pub cut_as : (at len e : ℕ) (l : List ℕ) → e ≡ at + len → take (e - at) (drop at l) ≡ take len (drop at l)
cut_as at len e l h = let q : e - at ≡ len = omega arith in ap (λ (k : ℕ). take k (drop at l)) q

-- so its end is a small number
pub shard_end : (r c : ℕ) → r < most_n → c ≤ most_c → (r * c ≤ most_n * most_c) × (r * c * sector_bytes + c * sector_bytes ≤ most_n * most_c * sector_bytes + most_c * sector_bytes)
shard_end r c hr hc = let h : r * c ≤ most_n * most_c = mul-le-mul {n₂ = most_n} {m₂ = most_c} (let l : r ≤ most_n = omega arith in l) hc in (h, omega arith)

module _ (g : Geometry) (t d : ℕ) (work : List ℕ) (f : Found) (found_is : f ≡ found (in_range g) (ltb t (stripes_of g) && ltb d g.n) (shard_of g.n t d)) where
  kept_by : (x : Found) → f ≡ x → kept_of g t d work ≡ shard_at x g work
  unfolding kept_of
  kept_by x e = ap (λ (y : Found). shard_at y g work) (sym found_is ∙ e)

  pub kept_none : (w : Refusal) → f ≡ Err w → kept_of g t d work ≡ []
  kept_none w e = kept_by (Err w) e

  pub kept_short : (r : ℕ) → f ≡ Ok r → length work < r * g.c * sector_bytes + g.c * sector_bytes → kept_of g t d work ≡ []
  kept_short r e l = kept_by (Ok r) e ∙ when (ltb (length work) (r * g.c * sector_bytes + g.c * sector_bytes)) _ _ (lt-ltb _ _ l)

  pub kept_at_lem : (r : ℕ) → f ≡ Ok r → r * g.c * sector_bytes + g.c * sector_bytes ≤ length work
      → kept_of g t d work ≡ take (g.c * sector_bytes) (drop (r * g.c * sector_bytes) work)
  kept_at_lem r e l = kept_by (Ok r) e ∙ unless (ltb (length work) (r * g.c * sector_bytes + g.c * sector_bytes)) _ _ (le-ltb _ _ l)

-- ---- a record's sectors

module _ (c j : ℕ) (v out : List ℕ) where
  module _ (b : List ℕ) (part_is : b ≡ part_of v j) where
    pub logged_log : j < c → logged_answer c j v out ≡ log_answer (length b) (length out)
    unfolding logged_answer
    logged_log l = when (ltb j c) _ _ (lt-ltb j c l) ∙ ap (λ (y : List ℕ). log_answer (length y) (length out)) (sym part_is)

    pub after_log_lem : (x : Tail) (o : Outcome) → j < c → after_log o x.stamp b out ≡ after_logged o x c j v out
    unfolding record_sector
    after_log_lem x (Ok tt) l = ap (log_sector x.stamp) part_is ∙ sym (when (ltb j c) _ _ (lt-ltb j c l))
    after_log_lem x (Err why) l = refl

  pub logged_past : c < j → logged_answer c j v out ≡ Err NotNow
  unfolding logged_answer
  logged_past l = unless (ltb j c) _ _ (le-ltb j c (omega arith)) ∙ when (ltb c j) _ _ (lt-ltb c j l)

  pub logged_tail : c ≤ j → j ≤ c → logged_answer c j v out ≡ tail_answer c (length v) (length out)
  unfolding logged_answer
  logged_tail l h = unless (ltb j c) _ _ (le-ltb j c l) ∙ unless (ltb c j) _ _ (le-ltb c j h)

  pub after_tail_lem : (x : Tail) (o : Outcome) → c ≤ j → after_tail o x c v out ≡ after_logged o x c j v out
  unfolding record_sector
  after_tail_lem x (Ok tt) l = sym (unless (ltb j c) _ _ (le-ltb j c l))
  after_tail_lem x (Err why) l = refl

-- ---- a write's sectors

module _ (s : State) (g : Geometry) (d t : ℕ) (work img : List ℕ) (v : List ℕ) (kept_is : v ≡ kept_of g t d work) where
  module _ (shards : ℕ) (x : Tail) (tail_is : x ≡ tail_of s t shards) (o : Outcome) (answer : o ≡ logged_answer g.c s.cursor.sector v (replicate sector_bytes 0)) where
    by_logged_lem : (p : Outcome) → o ≡ p → log_move s g d t shards work img ≡ by_logged p s g d t shards v img
    unfolding log_move
    by_logged_lem p e =
        ap (λ (y : List ℕ). by_logged (logged_answer g.c s.cursor.sector y (replicate sector_bytes 0)) s g d t shards y img) (sym kept_is)
        ∙ ap (λ (q : Outcome). by_logged q s g d t shards v img) (sym answer ∙ e)

    pub log_not : (w : Refusal) → o ≡ Err w → log_move s g d t shards work img ≡ refuses s NotNow img
    log_not w e = by_logged_lem (Err w) e

    pub log_put : o ≡ Ok tt → (b : List ℕ) → b ≡ after_logged o x g.c s.cursor.sector v (replicate sector_bytes 0)
        → log_move s g d t shards work img ≡ put_move s g d (first_log + s.cursor.sector) (g.c + 1) b img
    log_put e b leaves =
        by_logged_lem (Ok tt) e
        ∙ ap (λ (y : List ℕ). put_move s g d (first_log + s.cursor.sector) (g.c + 1) y img)
        (sym (leaves ∙ ap₂ (λ (q : Outcome) (y : Tail). after_logged q y g.c s.cursor.sector v (replicate sector_bytes 0)) e tail_is))

  module _ (f : Found) (strip : f ≡ found (in_range g) (ltb t (stripes_of g)) (strip_of g t)) where
    by_stored_lem : (y : Found) → f ≡ y → store_move s g d t work img ≡ by_stored y s g d v img
    unfolding store_move
    by_stored_lem y e = ap₂ (λ (x : Found) (z : List ℕ). by_stored x s g d z img) (sym strip ∙ e) (sym kept_is)

    pub store_not : (w : Refusal) → f ≡ Err w → store_move s g d t work img ≡ refuses s NotNow img
    store_not w e = by_stored_lem (Err w) e

    pub store_put : (p : ℕ) → f ≡ Ok p → (b : List ℕ) → b ≡ part_of v s.cursor.sector
        → store_move s g d t work img ≡ put_move s g d (p + s.cursor.sector) g.c b img
    store_put p e b leaves = by_stored_lem (Ok p) e ∙ ap (λ (y : List ℕ). put_move s g d (p + s.cursor.sector) g.c y img) (sym leaves)

-- ---- the stages, one after the other

walk_ends : (k : ℕ) (t : State) (g : Geometry) (work img : List ℕ) → is_end (stage_of t) ≡ true → walk (suc k) t g work img ≡ finished t img
unfolding walk
walk_ends k t g work img e = when (is_end (stage_of t)) _ _ e

walk_acts : (k : ℕ) (t : State) (g : Geometry) (work img : List ℕ) → is_end (stage_of t) ≡ false → next_slot t g < g.n
    → walk (suc k) t g work img ≡ act_move t g (stage_of t) (next_slot t g) work img
unfolding walk
walk_acts k t g work img e l = unless (is_end (stage_of t)) _ _ e ∙ when (ltb (next_slot t g) g.n) _ _ (lt-ltb (next_slot t g) g.n l)

walk_goes : (k : ℕ) (t : State) (g : Geometry) (work img : List ℕ) → is_end (stage_of t) ≡ false → g.n ≤ next_slot t g
    → walk (suc k) t g work img ≡ walk k (on_stage t) g work img
unfolding walk
walk_goes k t g work img e l = unless (is_end (stage_of t)) _ _ e ∙ unless (ltb (next_slot t g) g.n) _ _ (le-ltb (next_slot t g) g.n l)

-- the stage that the code finds, for a generation in range
pub stage_known : (s : State) → s.now.generation ≤ most_generation → stage_for s ≡ stage_of s
stage_known s l = when (leb s.now.generation most_generation) _ _ (le-leb s.now.generation most_generation l)

-- after i stages with no action left, t is where the request is; its stage is x
module _ (s t : State) (g : Geometry) (work img : List ℕ) (i : ℕ) (so_far : walk (most_stages - i) t g work img ≡ walk most_stages s g work img) where
  pub walk_out : most_stages ≤ i → walk most_stages s g work img ≡ finished t img
  unfolding walk
  walk_out l = let k : most_stages - i ≡ 0 = omega arith in sym so_far ∙ ap (λ (j : ℕ). walk j t g work img) k

  module _ (less : i < most_stages) (x : Stage) (stage : x ≡ stage_of t) where
    walk_from : walk most_stages s g work img ≡ walk (suc (most_stages - (i + 1))) t g work img
    walk_from = let k : most_stages - i ≡ suc (most_stages - (i + 1)) = omega arith in sym so_far ∙ ap (λ (j : ℕ). walk j t g work img) k

    pub walk_end : is_end x ≡ true → walk most_stages s g work img ≡ finished t img
    walk_end e = walk_from ∙ walk_ends (most_stages - (i + 1)) t g work img (ap is_end (sym stage) ∙ e)

    module _ (more : is_end x ≡ false) (d : ℕ) (slot : d ≡ seek (slots_of x) (g.n - t.cursor.slot) t.cursor.slot) where
      slot_is : d ≡ next_slot t g
      slot_is = slot ∙ ap (λ (y : Stage). seek (slots_of y) (g.n - t.cursor.slot) t.cursor.slot) stage

      pub walk_act : d < g.n → walk most_stages s g work img ≡ act_move t g x d work img
      walk_act l =
          walk_from ∙ walk_acts (most_stages - (i + 1)) t g work img (ap is_end (sym stage) ∙ more) (omega (arith, slot_is))
          ∙ ap₂ (λ (y : Stage) (e : ℕ). act_move t g y e work img) (sym stage) (sym slot_is)

      pub walk_on : g.n ≤ d → walk (most_stages - (i + 1)) (on_stage t) g work img ≡ walk most_stages s g work img
      walk_on l = sym (walk_from ∙ walk_goes (most_stages - (i + 1)) t g work img (ap is_end (sym stage) ∙ more) (omega (arith, slot_is)))

-- ---- a state in range

pub record Sound (s : State) : Type 0 where
  pub fit : fits_of s.now ≡ true
  pub fits : Fits s.now
  pub busy : under_way s.kind ≡ true
  pub staged : s.cursor.stage ≤ most_stages
  pub within : s.cursor.sector < s.now.sectors

pub sound_says : (s : State) → sound s ≡ true → Sound s
unfolding sound
sound_says s e =
    let e1 = and_right (fits_of s.now) _ e in
    let e2 = and_right (under_way s.kind) _ e1 in
    let f = and_left (fits_of s.now) _ e in
    record {
      fit = f;
      fits = fits_says s.now f;
      busy = and_left (under_way s.kind) _ e1;
      staged = leb-true _ _ (and_left (leb s.cursor.stage most_stages) _ e2);
      within = ltb-true _ _ (and_right (leb s.cursor.stage most_stages) _ e2);
    }

module _ (s : State) (work img : List ℕ) where
  pub step_unsound : sound s ≡ false → step_move s work img ≡ refuses s NotNow img
  unfolding step_move
  step_unsound e = unless (sound s) _ _ e

  module _ (ok : sound s ≡ true) (g : Geometry) (geometry : g ≡ geometry_of s.now) where
    pub step_other : fits_image g (length img) ≡ false → step_move s work img ≡ refuses s BadImage img
    unfolding step_move
    step_other e =
        when (sound s) _ _ ok
        ∙ unless (fits_image (geometry_of s.now) (length img)) _ _ (ap (λ (x : Geometry). fits_image x (length img)) (sym geometry) ∙ e)

    pub step_goes : fits_image g (length img) ≡ true → step_move s work img ≡ keeps s (walk most_stages s g work img)
    unfolding step_move
    step_goes e =
        when (sound s) _ _ ok
        ∙ when (fits_image (geometry_of s.now) (length img)) _ _ (ap (λ (x : Geometry). fits_image x (length img)) (sym geometry) ∙ e)
        ∙ ap (λ (x : Geometry). keeps s (walk most_stages s x work img)) (sym geometry)

-- ---- the loop of the walk: after i stages t is where the request is, and nothing has changed
pub record Walking (g : Geometry) (work img₀ : List ℕ) (s : State) (img : List ℕ) (t : State) (i : ℕ) : Type 0 where
  pub same : img ≡ img₀
  pub so_far : walk (most_stages - i) t g work img₀ ≡ walk most_stages s g work img₀
  pub few : i ≤ most_stages
  pub staged : t.cursor.stage ≤ most_stages + i
  pub within : t.cursor.sector < most_sectors
  pub low : t.now.generation ≤ most_generation

-- ---- a sector that is rebuilt

found_says : (g : Geometry) (b : Bool) (x r : ℕ) → found (in_range g) b x ≡ Ok r → (in_range g ≡ true) × (x ≡ r)
found_says g b x r e = by (in_range g) b refl e
  where
    by : (a b : Bool) → in_range g ≡ a → found a b x ≡ Ok r → (in_range g ≡ true) × (x ≡ r)
    by true true i e = let q : x ≡ r = cc in (i, q)
    by true false i e = absurd (let z : ◌≡◌ {A = ℕ} 0 1 = cc in omega arith)
    by false b i e = absurd (let z : ◌≡◌ {A = ℕ} 0 1 = cc in omega arith)

-- there is such a shard, so n and c are those of a shelf
pub shard_range : (g : Geometry) (t d r : ℕ) → found (in_range g) (ltb t (stripes_of g) && ltb d g.n) (shard_of g.n t d) ≡ Ok r → (g.n ≤ most_n) × (g.c ≤ most_c)
shard_range g t d r e =
    let h = in_range_lem g (found_says g (ltb t (stripes_of g) && ltb d g.n) (shard_of g.n t d) r e).0 in (h.few, h.short)

module _ (l : Label) (absent : ℕ) (g : Geometry) (d t j : ℕ) (work img : List ℕ) (f : Found)
    (found_is : f ≡ found (in_range g) (ltb t (stripes_of g) && ltb d g.n) (shard_of g.n t d)) where
  from_found : (x : Found) → f ≡ x → rebuild_answer l absent g d t j work img ≡ shown_from x l absent g t j work img
  unfolding rebuild_answer
  from_found x e = ap (λ (y : Found). shown_from y l absent g t j work img) (sym found_is ∙ e)

  pub rebuild_none : (w : Refusal) → f ≡ Err w → rebuild_answer l absent g d t j work img ≡ Err w
  rebuild_none w e = from_found (Err w) e

  module _ (r : ℕ) (at : f ≡ Ok r) (there : ℕ) (seen_is : there ≡ seen_slots g l absent t) (kept : List ℕ) (kept_is : kept ≡ stripe_in g work)
      (room size : ℕ) (room_is : room ≡ g.n * sector_bytes) (size_is : size ≡ sector_bytes) (o : Outcome)
      (answer : o ≡ shown_answer g l.k (length img) t r j 1 there (length kept) room size) where
    pub rebuild_answer_lem : o ≡ rebuild_answer l absent g d t j work img
    rebuild_answer_lem =
        answer ∙ (λ i. shown_answer g l.k (length img) t r j 1 (seen_is i) (length (kept_is i)) (room_is i) (size_is i)) ∙ sym (from_found (Ok r) at)

    pub rebuild_leaves : (x out : List ℕ) → x ≡ after_shown o g l.k img there 0 kept t j 1 r out → x ≡ after_rebuild o l absent g d t j work img out
    unfolding rebuilt_sector
    rebuild_leaves x out e = e ∙ by o
      where
        q : shard_of g.n t d ≡ r
        q = (found_says g (ltb t (stripes_of g) && ltb d g.n) (shard_of g.n t d) r (sym found_is ∙ at)).1

        by : (y : Outcome) → after_shown y g l.k img there 0 kept t j 1 r out ≡ after_rebuild y l absent g d t j work img out
        by (Ok tt) = λ i. shard_shown g l.k img (seen_is i) 0 (kept_is i) t j 1 (sym q i)
        by (Err w) = refl

-- ---- the strips that are rebuilt

pub record Strips (first count c x : ℕ) : Type 0 where
  pub some : 0 < c
  pub low : first ≤ most_sectors
  pub before : first * c ≤ most_sectors * most_c
  pub width : count * c ≤ most_sectors * most_c
  pub strip : x / c ≤ x

pub strips_say : (first count c x : ℕ) → c ≤ most_c → in_strips first count c x ≡ true → Strips first count c x
unfolding in_strips
strips_say first count c x h e =
    let e1 = and_right (leb first most_sectors) _ e in
    let a = leb-true first most_sectors (and_left (leb first most_sectors) _ e) in
    let b = leb-true count most_sectors (and_left (leb count most_sectors) _ e1) in
    let l : x < count * c = ltb-true x (count * c) (and_right (leb count most_sectors) _ e1) in
    record {
      some = ⊎_elim (λ (z : c ≡ 0). absurd (let q : count * c ≡ count * 0 = ap (λ (y : ℕ). count * y) z in omega (arith, q))) (λ (p : 0 < c). p) (eq-zero-or-pos c);
      low = a;
      before = mul-le-mul {n₂ = most_sectors} {m₂ = most_c} a h;
      width = mul-le-mul {n₂ = most_sectors} {m₂ = most_c} b h;
      strip = div-le_self x c;
    }

module _ (s : State) (g : Geometry) (d first count : ℕ) (work img : List ℕ) where
  pub fill_out : in_strips first count g.c s.cursor.sector ≡ false → fill_move s g d first count work img ≡ refuses s NotNow img
  unfolding fill_move
  fill_out e = unless (in_strips first count g.c s.cursor.sector) _ _ e

  module _ (inside : in_strips first count g.c s.cursor.sector ≡ true) (o : Outcome)
      (answer : o ≡ rebuild_answer s.now s.absent g d (first + s.cursor.sector / g.c) (s.cursor.sector % g.c) work img) where
    by_rebuilt_lem : (y : Outcome) → o ≡ y → fill_move s g d first count work img ≡ by_rebuilt y s g d first count work img
    unfolding fill_move
    by_rebuilt_lem y e =
        when (in_strips first count g.c s.cursor.sector) _ _ inside ∙ ap (λ (x : Outcome). by_rebuilt x s g d first count work img) (sym answer ∙ e)

    pub fill_not : (w : Refusal) → o ≡ Err w → fill_move s g d first count work img ≡ refuses s NotNow img
    fill_not w e = by_rebuilt_lem (Err w) e

    pub fill_put : o ≡ Ok tt → (b z : List ℕ)
        → b ≡ after_rebuild o s.now s.absent g d (first + s.cursor.sector / g.c) (s.cursor.sector % g.c) work img z
        → fill_move s g d first count work img ≡ put_move s g d (first_strip + first * g.c + s.cursor.sector) (count * g.c) b img
    fill_put e b z leaves =
        by_rebuilt_lem (Ok tt) e
        ∙ ap (λ (y : List ℕ). put_move s g d (first_strip + first * g.c + s.cursor.sector) (count * g.c) y img)
        (sym (leaves ∙ ap (λ (x : Outcome). after_rebuild x s.now s.absent g d (first + s.cursor.sector / g.c) (s.cursor.sector % g.c) work img z) e))
