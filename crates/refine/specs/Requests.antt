-- THE REQUESTS OF THE CODE begin with states in order, beside which the protocol's program remembers that same request: create and
-- taking a slot out; and a step of theirs is the program's. Assumes nothing.
use Rattle.std.specs.Prelude.{◌≡◌, refl, Bool, cond, not, ◌&&◌, ◌||◌, List, eqb, Ok, Err}
use Rattle.std.proofs.Common.{sym, ap, ◌∙◌, add-one, arith, eq-eqb, ne_eqb, eqb-true, lt-ltb}
use Rattle.std.proofs.Math.Path.{fun_ext}
use Rattle.std.proofs.Math.Bool.{true, false}
use Prim.Native.Nat.{ℕ, suc, ◌+◌, ◌<◌}
use Rattle.disk.specs.Tests.{both}
use Rattle.disk.specs.Mask.{in_mask, with_slot, in_with}
use Rattle.disk.specs.declared.geometry.Geometry.{Geometry}
use Rattle.disk.specs.Refusal.{Outcome}
use Rattle.label.specs.Fields.{no_slot}
use Rattle.label.specs.Newest.{same_shelf}
use Rattle.label.specs.declared.fields.Label as bytes
use Rattle.protocol.specs.Request as protocol
use Rattle.codecs.specs.Shelf.{Shelf, slots, few_slots}
use Rattle.codecs.specs.Labels.{slot_meant, ours, label_of}
use Rattle.stages.specs.declared.state.State.{State}
use Rattle.requests.specs.Begun.{begun, slots_but}
use Rattle.requests.specs.Slots as Slots
use Rattle.requests.specs.Create.{created}
use Rattle.requests.specs.TakeOut.{next_label, outed}
use Rattle.refine.specs.Disks.{Disks}
use Rattle.refine.specs.Given.{shelf_geometry}
use Rattle.refine.specs.Lists.{Says}
use Rattle.requests.specs.Begun.{outcome_of, state_of}

-- an accepted request begins with its first state
pub goes : (o : Outcome) (s t : State) → outcome_of (begun o t) ≡ Ok tt → (o ≡ Ok tt) × (state_of s (begun o t) ≡ t)
goes (Ok tt) s t e = (refl, refl)
goes (Err why) s t e = absurd (let z : ◌≡◌ {A = ℕ} 0 1 = cc in omega arith)

-- the slots that are not absent
pub slots_say : (z : Shelf) (absent : ℕ) → Says z (slots_but absent (slots z)) (λ d. not (in_mask absent d))
slots_say z absent d l = Slots.slots_are absent (slots z) d ∙ ap (λ (b : Bool). b && not (in_mask absent d)) (lt-ltb d (slots z) l)

module _ (z : Shelf) (img : List ℕ) (disks : Disks z img) where
  -- ---- create

  abbrev pub first_state : State
  first_state = created z.k z.m z.c z.sectors z.number

  pub first_ours : ours z first_state.now ≡ true
  unfolding same_shelf
  first_ours =
      both (eqb z.k z.k) _ (eq-eqb z.k z.k refl)
      (both (eqb z.m z.m) _ (eq-eqb z.m z.m refl)
      (both (eqb z.c z.c) _ (eq-eqb z.c z.c refl)
      (both (eqb z.sectors z.sectors) _ (eq-eqb z.sectors z.sectors refl) (eq-eqb z.number z.number refl))))

  -- ---- taking a slot out

  module _ (s : State) (own : ours z s.now ≡ true) (d : ℕ) where
    abbrev pub l : bytes.Label
    l = s.now

    pub n_is : l.k + l.m ≡ slots z
    n_is = ap (λ (g : Geometry). g.n) (shelf_geometry z l own)

    pub out_ours : ours z (outed l d) ≡ true
    unfolding outed same_shelf
    out_ours = by (eqb l.rebuilding d)
      where
        by : (b : Bool) → ours z (cond b (next_label l (with_slot l.out d) no_slot 0) (next_label l (with_slot l.out d) l.rebuilding l.mark)) ≡ true
        by true = own
        by false = own

    or_swap : (a b : Bool) → (a || b) ≡ (b || a)
    or_swap true true = refl
    or_swap true false = refl
    or_swap false true = refl
    or_swap false false = refl

    -- d is the slot being rebuilt, in the one's words and in the other's
    rebuilt_test : d < slots z → eqb (slot_meant (slots z) l.rebuilding) d ≡ eqb l.rebuilding d
    rebuilt_test i = by (eqb l.rebuilding no_slot) refl
      where
        by : (b : Bool) → eqb l.rebuilding no_slot ≡ b → eqb (cond b (slots z) l.rebuilding) d ≡ eqb l.rebuilding d
        by true e =
            ne_eqb (slots z) d (λ q. omega arith) ∙ sym (ne_eqb l.rebuilding d (λ q. omega (arith, few_slots z, eqb-true l.rebuilding no_slot e)))
        by false e = refl

    pub out_label : d < slots z → label_of z (outed l d) ≡ protocol.outed (slots z) (label_of z l) d
    unfolding outed
    out_label i = by (eqb l.rebuilding d) (rebuilt_test i)
      where
        r : ℕ
        r = slot_meant (slots z) l.rebuilding

        o : in_mask (with_slot l.out d) ≡ (λ e. in_mask l.out e || eqb e d)
        o = fun_ext (λ e. in_with l.out d e ∙ or_swap (eqb e d) (in_mask l.out e))

        by : (b : Bool) → eqb r d ≡ b
            → label_of z (cond b (next_label l (with_slot l.out d) no_slot 0) (next_label l (with_slot l.out d) l.rebuilding l.mark))
            ≡ record { generation = suc l.generation; out = λ e. in_mask l.out e || eqb e d; rebuilding = cond (eqb r d) (slots z) r; mark = cond (eqb r d) 0 l.mark }
        by true e = λ j. record { generation = add-one l.generation j; out = o j; rebuilding = cond (sym e j) (slots z) r; mark = cond (sym e j) 0 l.mark }
        by false e = λ j. record { generation = add-one l.generation j; out = o j; rebuilding = cond (sym e j) (slots z) r; mark = cond (sym e j) 0 l.mark }
