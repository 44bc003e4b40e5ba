-- A request that ends with a label, whatever it does before: begin, and the rebuild. What is left of it, stage by stage, is begin's
-- list; and each step is the protocol's, whatever the program knew before the request. Assumes nothing.
use Rattle.std.specs.Prelude.{◌≡◌, ◌⊎◌, Bool, ◌&&◌, ℕ, zero, suc, ◌+◌, ◌≤◌, ◌<◌, eqb}
use Rattle.std.proofs.Math.Path.{refl, ap}
use Rattle.std.proofs.Common.{ap₂, ◌∙◌, ⊎_elim, eq-or-lt_of_le, arith, eq-eqb, ne_eqb}
use Rattle.std.proofs.Math.Bool.{cond}
use mathlib.Core.List.{List, [], ◌∷◌, ◌++◌}
use Rattle.label.specs.declared.fields.Label as bytes
use Rattle.protocol.specs.World.{World, Action}
use Rattle.protocol.specs.Batch.{puts, flushes}
use Rattle.protocol.specs.Slots.{from, keep, rows}
use Rattle.protocol.specs.Program.{Own, Memory, idle, doing, labelling, Reply, step}
use Rattle.protocol.specs.Machine.{effect}
use Rattle.codecs.specs.Sector.{Sector}
use Rattle.codecs.proofs.Sector.{zeros}
use Rattle.codecs.specs.Shelf.{Shelf, slots}
use Rattle.shelf.specs.Act.{Move}
use Rattle.shelf.specs.Step.{finished}
use Rattle.stages.specs.declared.state.State.{State}
use Rattle.stages.specs.declared.state.Kind.TheVariants.{Beginning}
use Rattle.stages.specs.declared.stage.Stage.{Stage}
use Rattle.refine.specs.Disks.{cur_of}
use Rattle.refine.specs.Lists.{Says, slots_are}
use Rattle.refine.specs.ToDo.{slots_from, told_at, copy_at, given, under_of, acts_of, to_do}
use Rattle.refine.specs.Steps.{Fair}
use Rattle.refine.specs.Tied.{own_of, Same, program_of}

-- ---- one slot, where it passes a test

keep_none : (p : ℕ → Bool) (d n a : ℕ) → d < a → keep (λ e. eqb e d && p e) (from a n) ≡ []
keep_none p d zero a l = refl
keep_none p d (suc n) a l =
    ap (λ (b : Bool). cond (b && p a) (a ∷ keep (λ e. eqb e d && p e) (from (suc a) n)) (keep (λ e. eqb e d && p e) (from (suc a) n))) (ne_eqb a d (λ q. omega arith)) ∙ keep_none p d n (suc a) (omega arith)

keep_one : (p : ℕ → Bool) (d n a : ℕ) → a ≤ d → d < a + n → keep (λ e. eqb e d && p e) (from a n) ≡ keep p (d ∷ [])
keep_one p d zero a l h = absurd (omega arith)
keep_one p d (suc n) a l h =
    let r : suc a ≤ d → keep (λ e. eqb e d && p e) (from (suc a) n) ≡ keep p (d ∷ []) = λ q. keep_one p d n (suc a) q (omega arith) in
    ⊎_elim
    (λ (e : a ≡ d). ap₂ (λ (b : Bool) (l : List ℕ). cond (b && p a) (a ∷ l) l) (eq-eqb a d e) (keep_none p d n (suc a) (omega arith)) ∙ ap (λ (x : ℕ). keep p (x ∷ [])) e)
    (λ (q : a < d). ap (λ (b : Bool). cond (b && p a) (a ∷ keep (λ e. eqb e d && p e) (from (suc a) n)) (keep (λ e. eqb e d && p e) (from (suc a) n))) (ne_eqb a d (λ e. omega arith)) ∙ r q) (eq-or-lt_of_le l)

pub one_slot : (z : Shelf) (mask d : ℕ) (p : ℕ → Bool) → d < slots z → Says z mask (λ e. eqb e d && p e) → slots_from (slots z) mask 0 ≡ keep p (d ∷ [])
one_slot z mask d p l h = slots_are z mask (λ e. eqb e d && p e) h ∙ keep_one p d (slots z) 0 (omega arith) (omega arith)

module _ (z : Shelf) where
  -- ---- the steps

  -- the program, with a label change under way, asked for a step: it remembers what is left then, answers the same, and acts as the move
  -- does; the request goes on, or is done
  pub record TiedLabel (o : Own) (s : State) (work img : List ℕ) (m : Move) : Type 1 where
    pub after : Memory Sector
    pub reply : Reply Sector
    pub steps : program_of z (doing labelling (to_do z s work img) o (own_of z s s.next)) (cur_of z img) step ≡ (after, reply)
    pub answers : Same z m.stepped.answer reply
    pub acts : (v : World Sector) → v.cur ≡ cur_of z img → (effect v reply).cur ≡ cur_of z m.image
    pub goes_on : (Fair z m.stepped.state work m.image × (m.stepped.state.kind ≡ s.kind) × (m.stepped.state.now ≡ s.now) × (m.stepped.state.absent ≡ s.absent)
        × (after ≡ doing labelling (to_do z m.stepped.state work m.image) o (own_of z m.stepped.state m.stepped.state.next)))
        ⊎ ((m ≡ finished s img) × (after ≡ idle (own_of z s s.next)))
    pub settles : m.stepped.state.next ≡ s.next

  module _ (o : Own) (s : State) (work img : List ℕ) where
    abbrev pub N : List (Action Sector) → Memory Sector
    N l = doing labelling l o (own_of z s s.next)

  -- ---- begin's list

  module _ (s : State) (work img : List ℕ) (kind : s.kind ≡ Beginning) where
    -- what a stage does, from its first slot on
    abbrev pub X : Stage → List (Action Sector)
    X x = acts_of z (under_of s) work (cur_of z img) x 0 0

    -- zeros over a copy of the label of these slots, or a label to them; each flushed
    abbrev pub erased : Bool → List ℕ → List (Action Sector)
    erased odd ds = puts (λ k. zeros) (rows (copy_at odd) (0 ∷ []) ds) ++ flushes ds

    abbrev pub gives : ℕ → bytes.Label → List ℕ → List (Action Sector)
    gives zeroed l ds = puts (given z zeroed l) (rows (told_at l) (0 ∷ []) ds) ++ flushes ds
