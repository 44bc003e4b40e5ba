-- What each decision says. Nothing: no tail that is looked at is one. Forward: a stripe of the shelf, and slots of it that are looked at and have complete records, so
-- that giving a strip's sector back from them is never refused. Kill: slots that are looked at. Assumes nothing.
use Rattle.std.specs.Prelude.{◌≡◌, refl, Bool, true, false, cond, not, List, ℕ, ◌+◌, ◌*◌, ◌≤◌, ◌<◌, ltb, leb, eqb, length, Ok, Some, None}
use Rattle.std.proofs.Common.{sym, ap, ◌∙◌, true≢false, ⊎_elim, arith, ltb-true, lt-ltb}
use Rattle.disk.specs.Limits.{sector_bytes}
use Rattle.disk.specs.Tests.{and_left, and_right}
use Rattle.disk.specs.Geometry.{strip_length, stripes_of}
use Rattle.disk.specs.Image.{fits_image, lt_or_ge}
use Rattle.disk.specs.Mask.{in_mask, mask_of, mask_below, mask_past}
use Rattle.disk.specs.declared.geometry.Geometry.{Geometry}
use Rattle.label.specs.declared.fields.Label.{Label}
use Rattle.record.specs.Stamp.{stamp_at, zero_stamp, same_stamp}
use Rattle.record.specs.Tail.{tail_at, may_be}
use Rattle.record.specs.Log.{area_of, complete_of, restore_answer}
use Rattle.record.specs.declared.stamp.Stamp.{Stamp}
use Rattle.record.specs.declared.tail.Tail.{Tail}
use Rattle.record.specs.Tail.{Found}
use Rattle.redo.specs.Decide.{looked, log_at, tail_found, stamp_found, key_of, leader_of, lead_of, involved, complete_with, whole_of, marked, settled, decided, redo_of}
use Rattle.redo.specs.Laws.{looked_below, tail_tells, may_some}
use Rattle.redo.specs.Complete.{involved_looked, whole_says}
use Rattle.redo.specs.Leader.{leader_top, zero_top}
use Rattle.redo.specs.declared.Redo as declared
use Rattle.redo.specs.declared.Redo.TheVariants.{Nothing, Forward, Kill}

-- the key of a slot that has a tail
some_key : (g : Geometry) (img : List ℕ) (l : Label) (d : ℕ) (x : Tail) → tail_found g img l d ≡ Some x → zero_stamp (key_of g img l d) ≡ true → zero_stamp x.stamp ≡ true
unfolding key_of
some_key g img l d x e z = sym (ap (λ (f : Found). zero_stamp (stamp_found f)) e) ∙ z

-- a slot of the mask that a test makes
mask_says : (p : ℕ → Bool) (n d : ℕ) → in_mask (mask_of p n) d ≡ true → p d ≡ true
mask_says p n d e =
    ⊎_elim (λ (h : d < n). sym (mask_below p n d h) ∙ e) (λ (h : n ≤ d). absurd (true≢false (sym e ∙ mask_past p n d h))) (lt_or_ge d n)

-- where the leader's key is a stamp, its stripe is one of the shelf's
stripe_below : (g : Geometry) (img : List ℕ) (l : Label) (d : ℕ) → zero_stamp (key_of g img l d) ≡ false → (tail_at (log_at g img d g.c)).stripe < stripes_of g
unfolding key_of zero_stamp may_be
stripe_below g img l d = by (tail_found g img l d) refl
  where
    by : (f : Found) → tail_found g img l d ≡ f → zero_stamp (stamp_found f) ≡ false → (tail_at (log_at g img d g.c)).stripe < stripes_of g
    by None e z = absurd (let w : ◌≡◌ {A = ℕ} 0 1 = cc in omega arith)
    by (Some x) e z =
        let t = tail_tells g img l d x e in
        let m = and_right (not (zero_stamp x.stamp)) _ t.may in
        let h = ltb-true x.stripe (stripes_of g) (and_left (ltb x.stripe (stripes_of g)) _ (and_right (leb x.stamp.epoch l.generation) _ m)) in
        omega (arith, ap (λ (y : Tail). y.stripe) t.told, h)

-- a tail decides something
settled_some : (g : Geometry) (img : List ℕ) (l : Label) (a : Stamp) (x : Tail) → settled g img l a x ≡ Nothing → ⊥
unfolding settled
settled_some g img l a x = by (whole_of g img l a x)
  where
    by : (w : Bool) → cond {A = declared.Redo} w (Forward x.stripe (mask_of (involved g l x) g.n)) (Kill (mask_of (marked g img l a) g.n)) ≡ Nothing → ⊥
    by true e = let n : ◌≡◌ {A = ℕ} 0 1 = cc in omega arith
    by false e = let n : ◌≡◌ {A = ℕ} 0 1 = cc in omega arith

-- what Nothing says: no slot that is looked at has a tail
pub nothing_says : (g : Geometry) (img : List ℕ) (l : Label) → fits_image g (length img) ≡ true → redo_of g img l ≡ Nothing
    → (d : ℕ) → d < g.n → tail_found g img l d ≡ None
unfolding redo_of decided lead_of
nothing_says g img l fits e d h = none (tail_found g img l d) refl
  where
    a : Stamp
    a = key_of g img l (leader_of (key_of g img l) g.n)

    x : Tail
    x = tail_at (log_at g img (leader_of (key_of g img l) g.n) g.c)

    zero : (z : Bool) → zero_stamp a ≡ z → cond {A = declared.Redo} z Nothing (settled g img l a x) ≡ Nothing → zero_stamp a ≡ true
    zero true p q = p
    zero false p q = absurd (settled_some g img l a x q)

    no_key : zero_stamp (key_of g img l d) ≡ true
    no_key = zero_top (key_of g img l d) a (zero (zero_stamp a) refl (rw fits at e)) (leader_top (key_of g img l) g.n d h)

    none : (f : Found) → tail_found g img l d ≡ f → f ≡ None
    none None p = refl
    none (Some x) p = absurd (true≢false (sym (some_key g img l d x p no_key) ∙ may_some x (stripes_of g) g.n l.generation (tail_tells g img l d x p).may))

-- what Forward says
pub record Forwards (g : Geometry) (img : List ℕ) (l : Label) (t slots : ℕ) : Type 0 where
  pub stripe : t < stripes_of g
  pub seen : (d : ℕ) → in_mask slots d ≡ true → looked g l d ≡ true
  pub below : (d : ℕ) → in_mask slots d ≡ true → d < g.n
  pub complete : (d : ℕ) → in_mask slots d ≡ true → complete_of (area_of g img d) g.c ≡ true

pub forward_says : (g : Geometry) (img : List ℕ) (l : Label) (t slots : ℕ) → redo_of g img l ≡ Forward t slots → Forwards g img l t slots
unfolding redo_of decided settled complete_with
forward_says g img l t slots = by (fits_image g (length img)) (zero_stamp a) refl (whole_of g img l a x) refl
  where
    a : Stamp
    a = key_of g img l (lead_of g img l)

    x : Tail
    x = tail_at (log_at g img (lead_of g img l) g.c)

    I : ℕ
    I = mask_of (involved g l x) g.n

    by : (f z : Bool) → zero_stamp a ≡ z → (w : Bool) → whole_of g img l a x ≡ w
        → cond {A = declared.Redo} f (cond {A = declared.Redo} z Nothing (cond {A = declared.Redo} w (Forward x.stripe I) (Kill (mask_of (marked g img l a) g.n)))) Nothing ≡ Forward t slots
        → Forwards g img l t slots
    by false z p w q e = absurd (let n : ◌≡◌ {A = ℕ} 0 1 = cc in omega arith)
    by true true p w q e = absurd (let n : ◌≡◌ {A = ℕ} 0 1 = cc in omega arith)
    by true false p false q e = absurd (let n : ◌≡◌ {A = ℕ} 0 1 = cc in omega arith)
    by true false p true q e =
        let s : x.stripe ≡ t = cc in
        let m : I ≡ slots = cc in
        let i : (d : ℕ) → in_mask slots d ≡ true → involved g l x d ≡ true = λ d h. mask_says (involved g l x) g.n d (ap (λ (y : ℕ). in_mask y d) m ∙ h) in
        let k : (d : ℕ) → in_mask slots d ≡ true → looked g l d ≡ true = λ d h. involved_looked g img l a x d (i d h) in
        record {
          stripe = omega (arith, stripe_below g img l (lead_of g img l) p);
          seen = k;
          below = λ d h. looked_below g l d (k d h);
          complete = λ d h.
              and_left (complete_of (area_of g img d) g.c) _
              (whole_says g img l a x q d (i d h));
        }

-- what Kill says
pub record Kills (g : Geometry) (l : Label) (slots : ℕ) : Type 0 where
  pub seen : (d : ℕ) → in_mask slots d ≡ true → looked g l d ≡ true
  pub below : (d : ℕ) → in_mask slots d ≡ true → d < g.n

pub kill_says : (g : Geometry) (img : List ℕ) (l : Label) (slots : ℕ) → redo_of g img l ≡ Kill slots → Kills g l slots
unfolding redo_of decided settled marked
kill_says g img l slots = by (fits_image g (length img)) (zero_stamp a) (whole_of g img l a x)
  where
    a : Stamp
    a = key_of g img l (lead_of g img l)

    x : Tail
    x = tail_at (log_at g img (lead_of g img l) g.c)

    M : ℕ
    M = mask_of (marked g img l a) g.n

    by : (f z w : Bool)
        → cond {A = declared.Redo} f (cond {A = declared.Redo} z Nothing (cond {A = declared.Redo} w (Forward x.stripe (mask_of (involved g l x) g.n)) (Kill M))) Nothing ≡ Kill slots
        → Kills g l slots
    by false z w e = absurd (let n : ◌≡◌ {A = ℕ} 0 1 = cc in omega arith)
    by true true w e = absurd (let n : ◌≡◌ {A = ℕ} 0 1 = cc in omega arith)
    by true false true e = absurd (let n : ◌≡◌ {A = ℕ} 0 1 = cc in omega arith)
    by true false false e =
        let m : M ≡ slots = cc in
        let k : (d : ℕ) → in_mask slots d ≡ true → looked g l d ≡ true = λ d h.
        and_left (looked g l d) (same_stamp (stamp_at (log_at g img d g.c)) a) (mask_says (marked g img l a) g.n d (ap (λ (y : ℕ). in_mask y d) m ∙ h)) in
        record { seen = k; below = λ d h. looked_below g l d (k d h) }

-- a complete record gives each of its strip's sectors back
pub complete_restores : (area : List ℕ) (c s : ℕ) → complete_of area c ≡ true → s < c → restore_answer c s (length area) sector_bytes ≡ Ok tt
unfolding complete_of restore_answer
complete_restores area c s e l =
    let e1 = and_right (strip_length c) _ e in
    let p : strip_length c ≡ true = and_left (strip_length c) _ e in
    let q : eqb (length area) ((c + 1) * sector_bytes) ≡ true = and_left (eqb (length area) ((c + 1) * sector_bytes)) _ e1 in
    rw (p, lt-ltb s c l, q)

pub forward_restores : (g : Geometry) (img : List ℕ) (l : Label) (t slots : ℕ) → redo_of g img l ≡ Forward t slots
    → (d s : ℕ) → in_mask slots d ≡ true → s < g.c → restore_answer g.c s (length (area_of g img d)) sector_bytes ≡ Ok tt
forward_restores g img l t slots e d s h k = complete_restores (area_of g img d) g.c s ((forward_says g img l t slots e).complete d h) k
