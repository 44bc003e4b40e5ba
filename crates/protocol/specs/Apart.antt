-- ALL DISKS OF ALL SLOTS, and what start-up meets in the bays. In words: for each slot there is one disk that belongs to the shelf, wherever it is. These disks together are as the
-- disks of a shelf must be (Shelf). Every other disk of a slot is aside (Aside): each of its labels is two or more generations older than the settled label Q, or calls its own slot
-- plainly out, or is one generation older, where Q calls the slot plainly out itself. So start-up notices such a disk and calls its slot out. The disk that belongs to the shelf is the
-- slot's last disk, the one that was there when the program was last ready, but for slots that neither Q nor N looks at.
use Rattle.std.specs.Prelude.{ℕ, ◌≤◌, ◌<◌, ◌≡◌, Bool, not, ◌⊎◌, ◌≢◌, eqb}
use Rattle.std.proofs.Math.Path.{refl, sym, fun_ext}
use Rattle.std.proofs.Common.{inl, inr, eq-eqb, ne_eqb}
use Rattle.std.proofs.Math.Bool.{true}
use Rattle.std.proofs.Math.Decide.{ℕ_discrete}
use Rattle.protocol.specs.World.{Place, label, slot, Image}
use Rattle.protocol.specs.Log.{RecordCodec, Belief}
use Rattle.protocol.specs.Label.{Label, Size, looked, Quorum, LabelCodec, copy, copy_same}
use Rattle.protocol.specs.Bays.{Aside}
use Rattle.protocol.specs.Startup.{M}
use Rattle.protocol.specs.Decide.{settled, Accepted}
use Rattle.protocol.specs.Host.{Code}
use Rattle.protocol.specs.Program.{Stamps, Medium}
use Rattle.protocol.specs.Machine.{View}
use Rattle.protocol.specs.Invariant.{Ghost, Under, Left}
use Rattle.protocol.specs.Exchange.{Disks, pile}

pub same_nat : (a b : ℕ) → (a ≡ b) ⊎ (a ≢ b)
same_nat a b = go (ℕ_discrete a b)
  where
    go : Dec (a ≡ b) → (a ≡ b) ⊎ (a ≢ b)
    go (yes q) = inl q
    go (no q) = inr q

module _ {X : Type 0} where
  pub pile_in : (x : Disks X) (f : Image X) (i : ℕ) (k : Place) → i ≡ x.inn (slot k) → pile x f i k ≡ f k
  unfolding pile
  pile_in x f i k q = rw (eq-eqb i (x.inn (slot k)) q)

  pub pile_out : (x : Disks X) (f : Image X) (i : ℕ) (k : Place) → i ≢ x.inn (slot k) → pile x f i k ≡ x.stock i k
  unfolding pile
  pile_out x f i k n = rw (ne_eqb i (x.inn (slot k)) n)

  -- of each slot d the disk virt d
  abbrev pub chosen : (ℕ → ℕ) → (ℕ → Image X) → Image X
  chosen virt P k = P (virt (slot k)) k

  pub chosen_inn : (x : Disks X) (f : Image X) → f ≡ chosen x.inn (pile x f)
  chosen_inn x f = fun_ext (λ k. sym (pile_in x f (x.inn (slot k)) k refl))

module _ {X : Type 0} (z : Size) (W : Quorum z.n) (C : LabelCodec X z.n) where
  -- every disk of a slot but the chosen one is aside
  abbrev pub Apart : Label → Label → ℕ → (ℕ → ℕ) → (ℕ → Image X) → Type 0
  Apart Q N top virt P = (d i : ℕ) (b : Bool) → d < z.n → i ≢ virt d → Aside z W C Q N top d (copy C (P i) d b)

  -- the disks that lie around, under a settled label
  abbrev pub Lying : Disks X → Label → Type 0
  Lying x Q = Apart Q Q Q.generation x.inn x.stock

  -- what is in the bay of a slot whose chosen disk is there
  pub chosen_copy : (x : Disks X) (f : Image X) (virt : ℕ → ℕ) (d : ℕ) (b : Bool) → virt d ≡ x.inn d → copy C (chosen virt (pile x f)) d b ≡ copy C f d b
  chosen_copy x f virt d b e = copy_same C f (chosen virt (pile x f)) d b (pile_in x f (virt d) (label d b) e)

module _ {X : Type 0} (z : Size) (W : Quorum z.n) (C : LabelCodec X z.n) (K : RecordCodec X) (E : Code X z.n K.c W) (S : Stamps) (R : Medium z W C K E S) where
  -- OF ALL DISKS, whatever a cut leaves in the bays. virt d: the disk of slot d that belongs to the shelf.
  pub record Whole (g : Ghost X) (p : View X) (home : ℕ → ℕ) (P : ℕ → Image X) : Type 0 where
    pub virt : ℕ → ℕ
    pub shelf : Left z W C K E S R g p (chosen virt P)
    pub apart : Apart z W C shelf.Q shelf.N shelf.top virt P
    pub at_home : (d : ℕ) → d < z.n → (looked z shelf.Q d ≡ true) ⊎ (looked z shelf.N d ≡ true) → virt d ≡ home d

  abbrev pub AtHome : Disks X → Type 0
  AtHome x = (d : ℕ) → d < z.n → x.inn d ≡ x.home d

  -- START-UP MEETS THIS
  module _ (g : Ghost X) (p : View X) (x : Disks X) (A : ℕ → Bool) (f0 : Image X) (ok : Accepted z W C A f0) (h : Whole g p x.home (pile x f0)) (low : h.shelf.Q.generation ≤ M z C A f0) where
    abbrev pub D : Belief → Image X → Type 0
    D = Under z W C K E S R g p

    abbrev pub odd : ℕ → Bool
    odd d = not (eqb (h.virt d) (x.inn d))

    abbrev pub last : Image X
    last k = x.stock (h.virt (slot k)) k

    abbrev pub Q : Label
    Q = h.shelf.Q

    abbrev pub N : Label
    N = h.shelf.N

    abbrev pub S0 : Label
    S0 = settled z C K A f0
