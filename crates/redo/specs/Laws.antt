-- Laws of what start-up decides. Assumes nothing.
use Rattle.std.specs.Prelude.{◌≡◌, refl, Bool, true, false, ◌||◌, cond, not, List, ℕ, ◌<◌, ltb, eqb, Some, None}
use Rattle.std.proofs.Common.{sym, ap, ap₂, ◌∙◌, true≢false, arith, ltb-true, eqb-true}
use Rattle.std.proofs.lemmas.Bool.{not-true}
use Rattle.disk.specs.Tests.{and_left, and_right}
use Rattle.disk.specs.Geometry.{stripes_of}
use Rattle.disk.specs.Mask.{in_mask}
use Rattle.disk.specs.declared.geometry.Geometry.{Geometry}
use Rattle.label.specs.declared.fields.Label.{Label}
use Rattle.record.specs.Stamp.{stamp_at, zero_stamp, stamp_ext}
use Rattle.record.specs.Tail.{tail_at, may_be, decode_of}
use Rattle.record.specs.declared.stamp.Stamp.{Stamp}
use Rattle.record.specs.declared.tail.Tail.{Tail}
use Rattle.record.specs.Tail.{Found}
use Rattle.redo.specs.Decide.{plainly_out, looked, believed, log_at, tail_found, no_stamp, stamp_found, key_of, settled, decided}
use Rattle.redo.specs.declared.Redo as declared

-- ---- slots

-- a slot that is looked at is one of the shelf's
pub looked_below : (g : Geometry) (l : Label) (d : ℕ) → looked g l d ≡ true → d < g.n
unfolding looked
looked_below g l d e = ltb-true d g.n (and_left (ltb d g.n) (not (plainly_out l d)) e)

-- a slot that is believed is looked at
pub believed_looked : (g : Geometry) (l : Label) (d t : ℕ) → believed g l d t ≡ true → looked g l d ≡ true
unfolding believed
believed_looked g l d t e = and_left (looked g l d) _ e

-- and its stripe is one of the shelf's
pub believed_below : (g : Geometry) (l : Label) (d t : ℕ) → believed g l d t ≡ true → t < stripes_of g
unfolding believed
believed_below g l d t e = ltb-true t (stripes_of g) (and_left (ltb t (stripes_of g)) (not (in_mask l.out d) || ltb t l.mark) (and_right (looked g l d) _ e))

-- ---- tails

-- a tail that was found: its slot is looked at, the sector tells it, and a write can have it
pub record Tells (g : Geometry) (img : List ℕ) (l : Label) (d : ℕ) (x : Tail) : Type 0 where
  pub seen : looked g l d ≡ true
  pub told : tail_at (log_at g img d g.c) ≡ x
  pub may : may_be x (stripes_of g) g.n l.generation ≡ true

pub tail_tells : (g : Geometry) (img : List ℕ) (l : Label) (d : ℕ) (x : Tail) → tail_found g img l d ≡ Some x → Tells g img l d x
unfolding tail_found decode_of
tail_tells g img l d x = by (looked g l d) refl (may_be y (stripes_of g) g.n l.generation) refl
  where
    y : Tail
    y = tail_at (log_at g img d g.c)

    by : (p : Bool) → looked g l d ≡ p → (q : Bool) → may_be y (stripes_of g) g.n l.generation ≡ q
        → cond {A = Found} p (cond {A = Found} q (Some y) None) None ≡ Some x
        → Tells g img l d x
    by true p true q e =
        let z : y ≡ x = cc in
        record { seen = p; told = z; may = sym (ap (λ (w : Tail). may_be w (stripes_of g) g.n l.generation) z) ∙ q }
    by true p false q e = absurd (let z : ◌≡◌ {A = ℕ} 0 1 = cc in omega arith)
    by false p q r e = absurd (let z : ◌≡◌ {A = ℕ} 0 1 = cc in omega arith)

-- a write's stamp is not that of zeros
pub may_some : (x : Tail) (T n generation : ℕ) → may_be x T n generation ≡ true → zero_stamp x.stamp ≡ false
unfolding may_be
may_some x T n generation e = not-true (zero_stamp x.stamp) (and_left (not (zero_stamp x.stamp)) _ e)

-- the leader has a tail: it decides
pub decided_some : (g : Geometry) (img : List ℕ) (l : Label) (d : ℕ) (x : Tail) → tail_found g img l d ≡ Some x
    → decided g img l d ≡ settled g img l x.stamp x
unfolding decided key_of
decided_some g img l d x e =
    let t = tail_tells g img l d x e in
    ap₂ (λ (f : Found) (y : Tail). cond {A = declared.Redo} (zero_stamp (stamp_found f)) declared.TheVariants.Nothing (settled g img l (stamp_found f) y)) e t.told
    ∙ ap (λ (b : Bool). cond {A = declared.Redo} b declared.TheVariants.Nothing (settled g img l x.stamp x)) (may_some x (stripes_of g) g.n l.generation t.may)

-- it has none: there is nothing to do
pub decided_none : (g : Geometry) (img : List ℕ) (l : Label) (d : ℕ) → tail_found g img l d ≡ None → decided g img l d ≡ declared.TheVariants.Nothing
unfolding decided key_of zero_stamp
decided_none g img l d e =
    ap (λ (f : Found). cond {A = declared.Redo} (zero_stamp (stamp_found f)) declared.TheVariants.Nothing (settled g img l (stamp_found f) (tail_at (log_at g img d g.c)))) e

-- ---- keys

zero_is : (a : Stamp) → zero_stamp a ≡ true → a ≡ no_stamp
unfolding zero_stamp
zero_is a e =
    stamp_ext a no_stamp (eqb-true a.epoch 0 (and_left (eqb a.epoch 0) (eqb a.count 0) e)) (eqb-true a.count 0 (and_right (eqb a.epoch 0) (eqb a.count 0) e))

-- where a tail that is looked at and has a stamp is no garbage, its key is that stamp
pub key_is : (g : Geometry) (img : List ℕ) (l : Label) (d : ℕ)
    → (looked g l d ≡ true → zero_stamp (stamp_at (log_at g img d g.c)) ≡ false → may_be (tail_at (log_at g img d g.c)) (stripes_of g) g.n l.generation ≡ true)
    → key_of g img l d ≡ cond (looked g l d) (stamp_at (log_at g img d g.c)) no_stamp
unfolding key_of tail_found decode_of tail_at
key_is g img l d = by (looked g l d) (may_be y (stripes_of g) g.n l.generation) refl
  where
    y : Tail
    y = tail_at (log_at g img d g.c)

    a : Stamp
    a = stamp_at (log_at g img d g.c)

    none : (z : Bool) → zero_stamp a ≡ z → (z ≡ false → false ≡ true) → no_stamp ≡ a
    none true p h = sym (zero_is a p)
    none false p h = absurd (true≢false (sym (h refl)))

    by : (p q : Bool) → may_be y (stripes_of g) g.n l.generation ≡ q → (p ≡ true → zero_stamp a ≡ false → q ≡ true)
        → stamp_found (cond {A = Found} p (cond {A = Found} q (Some y) None) None) ≡ cond p a no_stamp
    by true true e h = refl
    by true false e h = none (zero_stamp a) refl (h refl)
    by false q e h = refl
