-- A REBUILD UNDER WAY, beside the protocol's machine: an accepted one begins where the machine is at rest; each of its steps is the machine's,
-- and leaves it under way or at rest. Assumes nothing.
use Rattle.std.specs.Prelude.{◌≡◌, true, false, ℕ, ◌<◌}
use Rattle.std.proofs.Common.{sym}
use Rattle.std.proofs.Math.Path.{subst}
use mathlib.Core.List.{List, [], ◌∷◌}
use Rattle.disk.specs.Mask.{in_mask}
use Rattle.label.specs.Fields.{no_slot}
use Rattle.label.specs.declared.fields.Label as bytes
use Rattle.protocol.specs.World.{Image, World, Action, Always}
use Rattle.protocol.specs.Label.{looked}
use Rattle.protocol.specs.Program.{Own, idle, doing, labelling, Reply, step, beyond}
use Rattle.protocol.specs.Machine.{Machine, View, sure, open_write, kept_write, Answered}
use Rattle.protocol.specs.Even.{program_by}
use Rattle.codecs.specs.Sector.{Sector}
use Rattle.codecs.specs.Shelf.{Shelf, slots, size}
use Rattle.codecs.specs.Labels.{label_of, ours}
use Rattle.stages.specs.declared.state.State.{State}
use Rattle.stages.specs.declared.state.Kind.TheVariants.{Filling}
use Rattle.refine.specs.Family.{Family}
use Rattle.refine.specs.Disks.{Disks, cur_of}
use Rattle.refine.specs.ToDo.{to_do}
use Rattle.refine.specs.Steps.{Fair}
use Rattle.refine.specs.Tied.{own_of, program_of}
use Rattle.refine.specs.Named.{Named, Names}
use Rattle.refine.specs.Chain.{Reached}

-- where the next label has no slot that is being rebuilt, the one of the label before is not out any more
abbrev pub Heals : Shelf → bytes.Label → bytes.Label → Type 0
Heals z now next = next.rebuilding ≡ no_slot → (now.rebuilding < slots z) × (in_mask next.out now.rebuilding ≡ false)

module _ (z : Shelf) (F : Family z) (first : Machine Sector) where
  -- a rebuild is under way; `before` is what the program knew when it began: the same label, and the same absent slots
  pub record Refilling (p : View Sector) (w : World Sector) (img : List ℕ) (s : State) (work : List ℕ) : Type 1 where
    pub before : Own
    pub same_label_lem : before.now ≡ label_of z s.now
    pub same_absent : before.absent ≡ beyond (slots z) (in_mask s.absent)
    pub disks : Disks z img
    pub reads : w.cur ≡ cur_of z img
    pub reached : Reached z F first p w (doing labelling (to_do z s work img) before (own_of z s s.next))
    pub named : Always w (Named z)
    pub names : Names z (to_do z s work img)
    pub own_next : ours z s.next ≡ true
    pub heals : Heals z s.now s.next
    pub fair : Fair z s work img
    pub kind : s.kind ≡ Filling

  -- at rest no absent slot is looked at
  pub rest_dark : (p : View Sector) (w : World Sector) (o : Own) → Reached z F first p w (idle o) → (d : ℕ) → o.absent d ≡ true → looked (size z) o.now d ≡ true → ⊥
  rest_dark (sure v) w o r d a q = r.keeps.1.dark d a q
  rest_dark (open_write v v') w o r d a q = r.keeps
  rest_dark (kept_write v') w o r d a q = r.keeps

  -- a step of a request that changes labels leaves the view
  pub saw_label : (l : List (Action Sector)) (o o' : Own) (f : Image Sector) (r : Reply Sector) → (program_of z (doing labelling l o o') f step).1 ≡ r → (p q : View Sector) → Answered z.c step r p q → q ≡ p
  unfolding program_by
  saw_label [] o o' f r m p q h = subst (λ (x : Reply Sector). Answered z.c step x p q) (sym m) h
  saw_label (x ∷ l) o o' f r m p q h = subst (λ (x : Reply Sector). Answered z.c step x p q) (sym m) h
