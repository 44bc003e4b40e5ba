-- THE PROMISE. Whatever happens, the host's view goes on as it is allowed to, and only so: `simulate` for each event, `promise` for any sequence of them.
use Prim.Native.Nat.{ℕ, suc, ◌≤◌, ◌<◌}
use Rattle.std.specs.Prelude.{◌≡◌, Bool, ◌&&◌, ◌||◌, leb}
use Rattle.std.proofs.Math.Path.{refl, sym, ap}
use Rattle.std.proofs.Common.{◌∙◌, true≢false, arith}
use Rattle.std.proofs.Math.Bool.{true, false, cond, not, false≢true}
use mathlib.Core.List.{List, [], ◌∷◌, ◌++◌, Memᴰ}
use Rattle.std.proofs.Math.Dec.{ltb}
use borrow.Author.Tests.{ltb-true, lt-ltb, leb-true}
use Rattle.protocol.specs.World.{Place, label, log, strip, slot, Image, World, Action, Sane}
use Rattle.protocol.specs.Batch.{flushes}
use Rattle.protocol.specs.Slots.{from, in_from, in_slots, every, every_of}
use Rattle.protocol.specs.Log.{Write, RecordCodec, Table}
use Rattle.protocol.specs.Write.{both}
use Rattle.protocol.specs.Label.{Label, Size, Quorum, LabelCodec, copy, round}
use Rattle.protocol.specs.Decide.{startup}
use Rattle.protocol.specs.Rebuild.{begun, raised}
use Rattle.protocol.specs.Host.{Host, Change, replace, Code, table, proper, write_of}
use Rattle.protocol.specs.Program.{Stamps, Proper, Medium, NOT_NOW, Verdict, clear, because, Test, first, Own, Memory, Input, Reply, new_label, beyond, mask, present, flushed_first, blank_slot, blank, may_create, may_start}
use Rattle.protocol.specs.Machine.{Machine, at, effect, Event, ask, View, Goes}
use Rattle.protocol.specs.Invariant.{Ready, Invariant}

-- small facts about tests
unfoldable pub is_clear : Verdict → Bool
is_clear clear = true
is_clear (because why) = false

pub first_clear : (t : Test) (l : List Test) → first (t ∷ l) ≡ clear → (t.holds ≡ false) × (first l ≡ clear)
unfolding is_clear
first_clear t l h = go t.holds refl h
  where
    go : (b : Bool) → t.holds ≡ b → cond b (because t.why) (first l) ≡ clear → (t.holds ≡ false) × (first l ≡ clear)
    go true e q = absurd (false≢true (ap is_clear q))
    go false e q = (e, q)

pub yes_of : (x : Bool) → not x ≡ false → x ≡ true
yes_of true e = refl
yes_of false e = sym e

pub neither : (a b : Bool) → (a || b) ≡ false → (a ≡ false) × (b ≡ false)
neither true b q = absurd (true≢false q)
neither false b q = (refl, q)

-- slots beyond the shelf
pub beyond_in : (n : ℕ) (A : ℕ → Bool) (d : ℕ) → beyond n A d ≡ false → d < n
beyond_in n A d h = ltb-true d n (yes_of (ltb d n) (neither (A d) (not (ltb d n)) h).1)

pub beyond_none : (n d : ℕ) → d < n → beyond n (λ e. false) d ≡ false
beyond_none n d i = rw (lt-ltb d n i)

-- labels stay proper
module _ (z : Size) where
  pub proper_begun : (l : Label) (d : ℕ) → d < z.n → l.out d ≡ true → Proper z l → Proper z (begun l d)
  proper_begun l d i o p = record { inside = p.inside; slot_or_none = omega arith; also_out = λ j. o; mark_T = omega arith; unmarked = λ e. refl }

  pub proper_raised : (l : Label) (m : ℕ) → l.rebuilding < z.n → m ≤ z.T → Proper z l → Proper z (raised l m)
  proper_raised l m r i p = record { inside = p.inside; slot_or_none = p.slot_or_none; also_out = p.also_out; mark_T = i; unmarked = λ e. absurd (omega arith) }

  pub proper_new : (g : ℕ) → Proper z (new_label z.n g)
  proper_new g = record { inside = λ d i. refl; slot_or_none = omega arith; also_out = λ j. absurd (omega arith); mark_T = omega arith; unmarked = λ e. refl }

module _ {X : Type 0} (z : Size) (W : Quorum z.n) (C : LabelCodec X z.n) (K : RecordCodec X) (E : Code X z.n K.c W) (S : Stamps) (R : Medium z W C K E S) where
  abbrev pub table_of : Host X → Table X
  table_of = table z W K E

  -- EVENTS
  unfoldable pub Next : Machine X → Event X → View X → Type 0
  Next m e p = (p' : View X) × Goes K.c e p p' × Invariant z W C K E S R m p'

  abbrev pub Answers : World X → Memory X × Reply X → Input X → View X → Type 0
  Answers w r i p = Next (at (effect w r.1) r.0) (ask i r.1) p

  pub in_present : (A : ℕ → Bool) (d : ℕ) → d < z.n → A d ≡ false → Memᴰ d (present z W C K E S R A)
  in_present A d i a = in_slots (λ e. not (A e)) z.n d i (rw a)

  -- START-UP
  module _ (A : ℕ → Bool) (seen : Image X) (ok : may_start z W C K E S R A seen ≡ clear) where
    module _ (w : World X) (agree : (k : Place) → A (slot k) ≡ false → seen k ≡ w.cur k) (inside : (d : ℕ) → A d ≡ false → d < z.n) where
      abbrev pub start_list : List (Action X)
      start_list = flushes (flushed_first z W C K E S R A) ++ startup z C K A seen

  -- CREATE
  -- an image of zeros, as far as the shelf goes
  pub record Zeros (f : Image X) : Type 0 where
    pub labels : (d : ℕ) (b : Bool) → d < z.n → f (label d b) ≡ K.zeros
    pub logs : (d j : ℕ) → d < z.n → j ≤ K.c → f (log d j) ≡ K.zeros
    pub strips : (d t j : ℕ) → d < z.n → t < z.T → j < K.c → f (strip d t j) ≡ K.zeros

  blank_zeros : (f : Image X) → blank z W C K E S R f ≡ true → Zeros f
  blank_zeros f h = record { labels = lab; logs = λ d j i e. lg d j i e; strips = λ d t j i e g. st d t j i e g }
    where
      one : (d : ℕ) → d < z.n → blank_slot z W C K E S R f d ≡ true
      one d i = every_of (blank_slot z W C K E S R f) (from 0 z.n) h d (in_from z.n 0 d (omega arith) (omega arith))

      logs_b : ℕ → Bool
      logs_b d = every (λ j. R.is_zeros (f (log d j))) (from 0 (suc K.c))

      strips_b : ℕ → Bool
      strips_b d = every (λ t. every (λ j. R.is_zeros (f (strip d t j))) (from 0 K.c)) (from 0 z.T)

      parts : (d : ℕ) → d < z.n → ((R.is_zeros (f (label d false)) && R.is_zeros (f (label d true))) ≡ true) × ((logs_b d && strips_b d) ≡ true)
      parts d i = both (R.is_zeros (f (label d false)) && R.is_zeros (f (label d true))) (logs_b d && strips_b d) (one d i)

      lab : (d : ℕ) (b : Bool) → d < z.n → f (label d b) ≡ K.zeros
      lab d true i = R.zeros_of (f (label d true)) (both (R.is_zeros (f (label d false))) (R.is_zeros (f (label d true))) (parts d i).0).1
      lab d false i = R.zeros_of (f (label d false)) (both (R.is_zeros (f (label d false))) (R.is_zeros (f (label d true))) (parts d i).0).0

      lg : (d j : ℕ) → d < z.n → j ≤ K.c → f (log d j) ≡ K.zeros
      lg d j i e = R.zeros_of (f (log d j)) (every_of (λ y. R.is_zeros (f (log d y))) (from 0 (suc K.c)) (both (logs_b d) (strips_b d) (parts d i).1).0 j (in_from (suc K.c) 0 j (omega arith) (omega arith)))

      st : (d t j : ℕ) → d < z.n → t < z.T → j < K.c → f (strip d t j) ≡ K.zeros
      st d t j i e g =
          let x = every_of (λ y. every (λ l. R.is_zeros (f (strip d y l))) (from 0 K.c)) (from 0 z.T) (both (logs_b d) (strips_b d) (parts d i).1).1 t (in_from z.T 0 t (omega arith) (omega arith)) in
          R.zeros_of (f (strip d t j)) (every_of (λ l. R.is_zeros (f (strip d t l))) (from 0 K.c) x j (in_from K.c 0 j (omega arith) (omega arith)))

  pub zeros_same : (f g : Image X) → ((k : Place) → slot k < z.n → g k ≡ f k) → Zeros f → Zeros g
  zeros_same f g h o = record { labels = λ d b i. h (label d b) i ∙ o.labels d b i; logs = λ d j i e. h (log d j) i ∙ o.logs d j i e; strips = λ d t j i e y. h (strip d t j) i ∙ o.strips d t j i e y }

  pub copy_zeros : (f : Image X) → Zeros f → (d : ℕ) (b : Bool) → d < z.n → (copy C f d b).generation ≡ 0
  unfolding copy
  copy_zeros f h d b i = ap (λ (x : X). (C.decode d b x).generation) (h.labels d b i) ∙ R.zeros_label d b

  module _ (w : World X) (h0 : Zeros w.cur) (room : 1 ≤ R.greatest) where
    abbrev pub everyone : List ℕ
    everyone = from 0 z.n

    abbrev pub first_label : Label
    first_label = new_label z.n 1

    abbrev pub create_list : List (Action X)
    create_list = flushes (flushed_first z W C K E S R (beyond z.n (λ d. false))) ++ round C first_label everyone

  -- WRITE
  module _ (v : Host X) (w : World X) (o : Own) (sane : Sane w) (h : Ready z W C K E S R v w o) where
    module _ (t : ℕ) (ch : Change X) (in_t : t < z.T) (fine : proper z W K E ch ≡ true) (room : suc o.count < S.base (suc o.epoch)) where
      abbrev pub seen_w : Image X
      seen_w = mask z W C K E S R o.absent w.cur

      abbrev pub σ : ℕ
      σ = suc o.count

      abbrev pub v' : Host X
      v' = replace v t ch

      abbrev pub wr : Write X
      wr = write_of z W K E o.now seen_w t ch

      abbrev pub o' : Own
      o' = record { now = o.now; absent = o.absent; epoch = o.epoch; count = σ }

    -- what is rebuilt is right
    abbrev pub seen_o : Image X
    seen_o = mask z W C K E S R o.absent w.cur

  pub create_tests : (f : Image X) → may_create z W C K E S R f ≡ clear → Zeros f × (1 ≤ R.greatest)
  create_tests f e =
      let a = first_clear (record { why = NOT_NOW; holds = not (blank z W C K E S R f) }) (record { why = NOT_NOW; holds = not (leb 1 R.greatest) } ∷ []) e in
      let b = first_clear (record { why = NOT_NOW; holds = not (leb 1 R.greatest) }) [] a.1 in
      (blank_zeros f (yes_of (blank z W C K E S R f) a.0), leb-true 1 R.greatest (yes_of (leb 1 R.greatest) b.0))
