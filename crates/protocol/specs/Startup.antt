-- Start-up's labels, over the present slots that are not stale: level (generation M), the same label once more (M + 1), the one with Out' (M + 2);
-- then the stale slots adopt it. An absent disk may carry a label that no present one has, but at most one generation further: after these rounds it
-- can neither tie with the settled label nor beat it.
use Prim.Native.Nat.{ℕ, suc, ◌≤◌, ◌<◌}
use Rattle.std.specs.Prelude.{◌≡◌, Bool, cond, ◌&&◌, ◌||◌, ◌⊎◌}
use Rattle.std.proofs.Math.Path.{refl, ap}
use Rattle.std.proofs.Common.{◌∙◌, arith}
use Rattle.std.proofs.Math.Bool.{true, false, not}
use mathlib.Core.List.{List, ◌++◌}
use Rattle.std.proofs.Math.Dec.{ltb}
use borrow.Author.Tests.{ltb-true, ltb-false}
use Rattle.protocol.specs.World.{label, log, strip, Image, update_other, Action}
use Rattle.protocol.specs.Slots.{from, slots, every, leader, leader_top, leader_below}
use Rattle.protocol.specs.Log.{Belief, Within, Agrees}
use Rattle.protocol.specs.Label.{Label, again, plainly_out, Size, looked, belief, Quorum, LabelCodec, copy, Aged, prep, round, Labels, Bare}
use Rattle.protocol.specs.Bays.{Bays}

-- the label that goes on from l without the slots that are gone
abbrev pub without : ℕ → Label → (ℕ → Bool) → ℕ → Label
without n l gone g =
    record {
      generation = g;
      out = λ d. l.out d || gone d;
      rebuilding = cond (gone l.rebuilding) n l.rebuilding;
      mark = cond (gone l.rebuilding) 0 l.mark;
    }

-- A disk missed something, whatever it looks like, if its own label is more than one generation behind the newest one seen,
unfoldable pub behind : ℕ → ℕ → Bool
behind own newest = ltb (suc own) newest

-- or if its own label calls it plainly out and the newest one does not.
unfoldable pub disowned : Label → Label → ℕ → Bool
disowned own newest d = plainly_out own d && not (plainly_out newest d)

-- the program: what is read, and the rounds
module _ {X : Type 0} (z : Size) (C : LabelCodec X z.n) (absent : ℕ → Bool) (f0 : Image X) where
  abbrev pub newest : ℕ → Label
  newest d = cond (ltb (copy C f0 d false).generation (copy C f0 d true).generation) (copy C f0 d true) (copy C f0 d false)

  abbrev pub seen : ℕ → ℕ
  seen d = cond (absent d) 0 (newest d).generation

  abbrev pub lead : ℕ
  lead = leader seen z.n

  -- the greatest generation seen, and its label (of the lowest slot that has it)
  abbrev pub M : ℕ
  M = seen lead

  abbrev pub L : Label
  L = newest lead

  abbrev pub stale : ℕ → Bool
  stale d = behind (seen d) M || disowned (newest d) L d

  unfoldable pub gone : ℕ → Bool
  gone d = ltb d z.n && (absent d || stale d)

  -- every present slot has a valid label
  abbrev pub labelled : Bool
  labelled = every (λ d. absent d || ltb 0 (seen d)) (from 0 z.n)

  abbrev pub next : ℕ → Label
  next g = without z.n L gone g

  -- the slots that take part in the rounds, and those that are only told the result
  abbrev pub parts : List ℕ
  parts = slots z.n (λ d. not (gone d))

  abbrev pub late : List ℕ
  late = slots z.n (λ d. not (absent d) && stale d)

  -- who gets which label: level, one generation more, and the settled one with Out'
  unfoldable pub level_to : List ℕ
  level_to = parts

  unfoldable pub again_to : List ℕ
  again_to = parts

  unfoldable pub last_to : List ℕ
  last_to = parts

  -- a stale slot adopts the settled label when all the others have it
  abbrev pub adopt : List (Action X)
  adopt = prep C f0 (suc M) (next (suc (suc M))) late ++ round C (next (suc (suc M))) late

  unfoldable pub rounds : List (Action X)
  rounds = round C L level_to ++ (round C (again L (suc M)) again_to ++ (round C (next (suc (suc M))) last_to ++ adopt))

-- statements about strips and records, under a belief, that fewer slots and other places leave alone
unfoldable pub Framed : {X : Type 0} → (Belief → Image X → Type 0) → Type 0
Framed {X} D = (B B' : Belief) → Within B' B → (f g : Image X) → Agrees B' f g → D B f → D B' g

-- THE INVARIANT of a shelf, of whatever a cut leaves: some label Q is settled (the label base, or a newer one: stamps are told apart by it), perhaps a label N was about to be, the labels are as they must be, and D is true of strips and records under both
pub record Shelf {X : Type 0} (z : Size) (W : Quorum z.n) (C : LabelCodec X z.n) (base : Label) (D : Belief → Image X → Type 0) (f : Image X) : Type 0 where
  pub Q : Label
  pub since : (Q ≡ base) ⊎ (base.generation < Q.generation)
  pub N : Label
  pub top : ℕ
  pub far : ℕ → Bool
  pub labels : Labels z W C Q N top far f
  pub under_Q : D (belief z Q) f
  pub under_N : D (belief z N) f

-- S is settled where Q was, and perhaps N was about to be: it is newer than every label before it, does not look at odd slots, and looks nowhere else than Q or N did
pub record Settles (z : Size) (odd : ℕ → Bool) (Q N : Label) (top : ℕ) (S : Label) : Type 0 where
  pub over_Q : Q.generation < S.generation
  pub over_top : top < S.generation
  pub dark : (d : ℕ) → odd d ≡ true → looked z S d ≡ true → ⊥
  pub inner : (d : ℕ) → looked z S d ≡ true → (looked z Q d ≡ true) ⊎ (looked z N d ≡ true)

-- strips and records are what they were
pub record Same {X : Type 0} (f0 f : Image X) : Type 0 where
  pub logs : (d j : ℕ) → f (log d j) ≡ f0 (log d j)
  pub strips : (d t j : ℕ) → f (strip d t j) ≡ f0 (strip d t j)

pub same_agrees : {X : Type 0} (B : Belief) (f0 f : Image X) → Same f0 f → Agrees B f0 f
same_agrees B f0 f s = record { on_log = λ d j a. s.logs d j; on_strip_lem = λ d t j a. s.strips d t j }

pub same_self : {X : Type 0} (f : Image X) → Same f f
same_self f = record { logs = λ d j. refl; strips = λ d t j. refl }

pub same_bare : {X : Type 0} (z : Size) (W : Quorum z.n) (C : LabelCodec X z.n) (f0 : Image X) → Bare z W C (Same f0)
unfolding Bare
same_bare z W C f0 f d b x s =
    record {
      logs = λ e j. update_other f (label d b) x (log e j) (λ q. let i : ◌≡◌ {A = ℕ} 0 1 = cc in omega arith) ∙ s.logs e j;
      strips = λ e t j. update_other f (label d b) x (strip e t j) (λ q. let i : ◌≡◌ {A = ℕ} 0 1 = cc in omega arith) ∙ s.strips e t j;
    }

module _ {X : Type 0} (z : Size) (W : Quorum z.n) (C : LabelCodec X z.n) (absent : ℕ → Bool) (f0 : Image X) where
  pub newest_top : (d : ℕ) (b : Bool) → (copy C f0 d b).generation ≤ (newest z C absent f0 d).generation
  newest_top d b = go (ltb (copy C f0 d false).generation (copy C f0 d true).generation) refl b
    where
      go : (x : Bool) → ltb (copy C f0 d false).generation (copy C f0 d true).generation ≡ x → (y : Bool) → (copy C f0 d y).generation ≤ (cond x (copy C f0 d true) (copy C f0 d false)).generation
      go true e true = omega arith
      go true e false = omega (arith, ltb-true (copy C f0 d false).generation (copy C f0 d true).generation e)
      go false e true = ltb-false (copy C f0 d false).generation (copy C f0 d true).generation e
      go false e false = omega arith

  pub newest_is : (d : ℕ) → (b : Bool) × (newest z C absent f0 d ≡ copy C f0 d b)
  newest_is d = go (ltb (copy C f0 d false).generation (copy C f0 d true).generation)
    where
      go : (x : Bool) → (b : Bool) × (cond x (copy C f0 d true) (copy C f0 d false) ≡ copy C f0 d b)
      go true = (true, refl)
      go false = (false, refl)

  -- a present slot that has generation g is seen to have it
  pub seen_aged : (d g : ℕ) → d < z.n → absent d ≡ false → Aged C f0 d g → g ≤ M z C absent f0
  unfolding Aged
  seen_aged d g i a h =
      let e : seen z C absent f0 d ≡ (newest z C absent f0 d).generation = rw a in
      omega (arith, h.1, newest_top d h.0, e, leader_top (seen z C absent f0) z.n d i)

  -- with no label anywhere, none is seen
  pub M_none : 0 < z.n → ((d : ℕ) (b : Bool) → d < z.n → (copy C f0 d b).generation ≡ 0) → M z C absent f0 ≡ 0
  M_none pos none = go (absent (lead z C absent f0))
    where
      own : (newest z C absent f0 (lead z C absent f0)).generation ≡ 0
      own = let y = newest_is (lead z C absent f0) in rw y.1 (none (lead z C absent f0) y.0 (leader_below (seen z C absent f0) z.n pos))

      go : (b : Bool) → cond b 0 (newest z C absent f0 (lead z C absent f0)).generation ≡ 0
      go true = refl
      go false = own

  pub L_valid : 0 < M z C absent f0 → ((L z C absent f0).generation ≡ M z C absent f0) × C.Fits (L z C absent f0)
  unfolding copy
  L_valid pos =
      let e = same (absent (lead z C absent f0)) refl in
      let y = newest_is (lead z C absent f0) in
      (e, rw y.1 (C.decode_fits (lead z C absent f0) y.0 (f0 (label (lead z C absent f0) y.0)) (omega (arith, pos, e, ap (λ (x : Label). x.generation) y.1))))
    where
      same : (x : Bool) → absent (lead z C absent f0) ≡ x → (L z C absent f0).generation ≡ M z C absent f0
      same true e = let q : M z C absent f0 ≡ 0 = rw e in absurd (omega (arith, pos, q))
      same false e = rw e

  -- What start-up meets: odd slots, whose bays hold another disk than their last; Q, N, top and far, as of the last disks; and a label that is no older than Q. It is not refused.
  module _ (odd : ℕ → Bool) (last : Image X) (Q N : Label) (top : ℕ) (far : ℕ → Bool) (H : Bays z W C Q N top far odd last f0) (M_low : Q.generation ≤ M z C absent f0)
      (all_labelled : labelled z C absent f0 ≡ true) (enough : W.few (λ d. (L z C absent f0).out d || gone z C absent f0 d) ≡ true)
      (fits1 : C.Fits (again (L z C absent f0) (suc (M z C absent f0)))) (fits1' : C.Fits (next z C absent f0 (suc (M z C absent f0)))) (fits2 : C.Fits (next z C absent f0 (suc (suc (M z C absent f0))))) where
    -- the slots that are gone or odd
    unfoldable pub astray : ℕ → Bool
    astray d = gone z C absent f0 d || odd d

    abbrev pub settled : Label
    settled = next z C absent f0 (suc (suc (M z C absent f0)))
