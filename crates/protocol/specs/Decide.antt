-- Start-up as a whole: the rounds, then the log. THE DECISION, and that it is made once.
use Prim.Native.Nat.{ℕ, suc, ◌≤◌}
use Rattle.std.specs.Prelude.{◌≡◌, ◌||◌}
use Rattle.std.proofs.Math.Bool.{Bool, true, false}
use Rattle.std.proofs.Math.Logic.{⊎_elim, inl, inr}
use mathlib.Core.List.{List, ◌++◌}
use Rattle.protocol.specs.World.{Place, label, log, strip, slot, Image, World, Action, run, after}
use Rattle.protocol.specs.Log.{Write, RecordCodec, Belief, Table, New, Quiet, old_frame, new_frame}
use Rattle.protocol.specs.Write.{Mid}
use Rattle.protocol.specs.Redo.{redo}
use Rattle.protocol.specs.Label.{Label, again, Size, belief, Quorum, LabelCodec, Labels}
use Rattle.protocol.specs.Bays.{front, Bays}
use Rattle.protocol.specs.Startup.{L, M, labelled, gone, next, rounds, Framed, Same, Settles}

-- a place of the log or of a strip, on a slot that is looked at
abbrev pub data_place : Place → Bool
data_place (label d b) = false
data_place (log d j) = true
data_place (strip d t j) = true

unfoldable pub Touch : Belief → Place → Type 0
Touch B k = (data_place k ≡ true) × (B.look (slot k) ≡ true)

abbrev pub Looked : Belief → ℕ → Type 0
Looked B d = B.look d ≡ true

module _ {X : Type 0} (K : RecordCodec X) (history : ℕ → Write X) (u : ℕ) where
  pub quiet_framed : (s : Table X) → Framed (λ B f. Quiet K B history u s f)
  unfolding Framed Quiet
  quiet_framed s B B' i f g a o = old_frame K B B' history i f g a u 0 s o

  pub mid_framed : (s s' : Table X) → Framed (λ B f. Mid K B history u s s' f)
  unfolding Framed Mid
  mid_framed s s' B B' i f g a o = ⊎_elim (λ x. inl (old_frame K B B' history i f g a u u s x)) (λ x. inr (new_frame K B B' history i f g a u s' x)) o

  pub new_framed : (s : Table X) → Framed (λ B f. New K B history u s f)
  unfolding Framed
  new_framed s B B' i f g a o = new_frame K B B' history i f g a u s o

-- at rest under the label Q with the table s: nothing is undecided, every strip that is believed is the table's, whatever a cut leaves
pub record Rest {X : Type 0} (z : Size) (W : Quorum z.n) (C : LabelCodec X z.n) (K : RecordCodec X) (history : ℕ → Write X) (u : ℕ) (Q : Label) (s : Table X) (f : Image X) : Type 0 where
  pub labels : Labels z W C Q Q Q.generation Q.out f
  pub quiet : Quiet K (belief z Q) history u s f

module _ {X : Type 0} where
  -- labels first, and only then the log
  unfoldable pub in_turn : List (Action X) → List (Action X) → List (Action X)
  in_turn labels logs = labels ++ logs

module _ {X : Type 0} (z : Size) (C : LabelCodec X z.n) (K : RecordCodec X) (absent : ℕ → Bool) (f0 : Image X) where
  -- the label that start-up settles
  abbrev pub settled : Label
  settled = next z C absent f0 (suc (suc (M z C absent f0)))

  -- START-UP: all its actions, made from what is read at the beginning
  unfoldable pub startup : List (Action X)
  startup = in_turn (rounds z C absent f0) (redo K (belief z settled) f0)

-- start-up is not refused: at most m slots are absent, out or stale, and the labels to be written fit (their generations are below the greatest)
pub record Accepted {X : Type 0} (z : Size) (W : Quorum z.n) (C : LabelCodec X z.n) (absent : ℕ → Bool) (f0 : Image X) : Type 0 where
  pub enough : W.few (λ d. (L z C absent f0).out d || gone z C absent f0 d) ≡ true
  pub labels_there : labelled z C absent f0 ≡ true
  pub fits1 : C.Fits (again (L z C absent f0) (suc (M z C absent f0)))
  pub fits1' : C.Fits (next z C absent f0 (suc (M z C absent f0)))
  pub fits2 : C.Fits (next z C absent f0 (suc (suc (M z C absent f0))))

-- WHAT START-UP MEETS, with P to be kept. Some slots are odd: their bays hold another disk than their last; the last disks make a shelf, as ever, with D under Q and under N. Some
-- present disk has a label that is no older than Q (low). before: while Q and N stand on the last disks, P holds. later: when the new label is settled on the disks in the bays, P holds.
pub record Met {X : Type 0} (z : Size) (W : Quorum z.n) (C : LabelCodec X z.n) (K : RecordCodec X) (absent : ℕ → Bool) (base : Label) (D : Belief → Image X → Type 0) (P : Image X → Type 0) (f0 : Image X) : Type 0 where
  pub odd : ℕ → Bool
  pub last : Image X
  pub Q : Label
  pub N : Label
  pub top : ℕ
  pub far : ℕ → Bool
  pub since : base.generation ≤ Q.generation
  pub bays : Bays z W C Q N top far odd last f0
  pub under_Q : D (belief z Q) (front odd last f0)
  pub under_N : D (belief z N) (front odd last f0)
  pub low : Q.generation ≤ M z C absent f0
  pub before : (t : ℕ) (fr : ℕ → Bool) (f : Image X) → top ≤ t → Bays z W C Q N t fr odd last f → Same f0 f → P f
  pub later : Settles z odd Q N top (settled z C K absent f0) → (f : Image X) → Labels z W C (settled z C K absent f0) (settled z C K absent f0) (settled z C K absent f0).generation (settled z C K absent f0).out f → D (belief z (settled z C K absent f0)) f → P f

module _ {X : Type 0} (z : Size) (W : Quorum z.n) (C : LabelCodec X z.n) (K : RecordCodec X) (history : ℕ → Write X) (absent : ℕ → Bool) (f0 : Image X) (yes_go : Accepted z W C absent f0) where
  module _ (base : Label) (D : Belief → Image X → Type 0) (fr : Framed D) (P : Image X → Type 0) (h : Met z W C K absent base D P f0) where
    abbrev pub w1 : World X
    w1 = run (after f0) (rounds z C absent f0)

    abbrev pub B1 : Belief
    B1 = belief z (settled z C K absent f0)

    abbrev pub Settled : Image X → Type 0
    Settled f = Labels z W C (settled z C K absent f0) (settled z C K absent f0) (settled z C K absent f0).generation (settled z C K absent f0).out f
