-- THE REQUESTS OF THE CODE begin with states in order, beside which the protocol's program remembers that same request: create and
-- taking a slot out; and a step of theirs is the program's. Assumes nothing.
use Rattle.std.specs.Prelude.{◌≡◌, refl, Bool, not, ◌&&◌, List, [], eqb, length, Ok}
use Rattle.std.proofs.Common.{sym, ap, ap₂, subst, ◌∙◌, arith, eq-eqb}
use Rattle.std.proofs.Math.Path.{fun_ext}
use Rattle.std.proofs.Math.Bool.{true, false}
use Prim.Native.Nat.{ℕ, ◌+◌, ◌<◌}
use Rattle.std.proofs.lemmas.Bool.{not-true}
use Rattle.disk.specs.Image.{fits_image}
use Rattle.disk.specs.Mask.{in_mask, in_past}
use Rattle.disk.specs.declared.geometry.Geometry.{Geometry}
use Rattle.label.specs.Fields.{geometry_of}
use Rattle.protocol.specs.Program.{new_label, asked_create, asked_out}
use Rattle.protocol.specs.Pairs.{no_sets}
use Rattle.codecs.specs.Shelf.{Shelf, slots, size}
use Rattle.codecs.specs.Labels.{ours, label_of}
use Rattle.codecs.proofs.Labels.{labels}
use Rattle.codecs.proofs.Records.{records}
use Rattle.codecs.specs.Media.{stamps}
use Rattle.shards.proofs.Even.{any_code, any_sectors}
use Rattle.shelf.specs.Step.{step_move}
use Rattle.stages.specs.declared.state.State.{State}
use Rattle.requests.specs.Begun.{work_bytes, slots_but}
use Rattle.requests.specs.Step.{other_work, step_with, step_goes}
use Rattle.requests.specs.Slots as Slots
use Rattle.requests.specs.Create.{create_answer, create_of}
use Rattle.requests.specs.TakeOut.{take_answer, took_out, take_out_of}
use Rattle.requests.specs.Accepted.{Steps, create_steps, out_steps, take_done}
use Rattle.refine.specs.Disks.{Disks, image_fits}
use Rattle.refine.specs.Rounds.{beyond_below}
use Rattle.refine.specs.Given.{shelf_geometry}
use Rattle.refine.specs.Steps.{Fair}
use Rattle.refine.specs.Lists.{Says}
use Rattle.refine.proofs.Begins.{create_fair, change_fair}
use Rattle.refine.specs.Tied.{own_of, memory_of, plain, Tied}
use Rattle.refine.proofs.Tied.{step_tied}
use Rattle.refine.proofs.Asked.{create_asked, out_asked}
use Rattle.refine.specs.Requests.{goes, slots_say, first_state, first_ours, l, n_is, out_ours, out_label}
use Rattle.requests.specs.Begun.{outcome_of, state_of}

module _ (z : Shelf) (img : List ℕ) (disks : Disks z img) where
  none_in : (d : ℕ) → in_mask 0 d ≡ false
  none_in d = in_past 0 0 d (omega arith) (omega arith)

  all_say : Says z (first_state z img disks).marks.present (λ d. true)
  all_say d l = ap (λ (m : ℕ). in_mask m d) (sym (Slots.all_slots (slots z))) ∙ slots_say z 0 d l ∙ ap not (none_in d)

  first_label : label_of z (first_state z img disks).next ≡ new_label (slots z) 1
  first_label = ap (λ (out : ℕ → Bool). record { generation = 1; out = out; rebuilding = slots z; mark = 0 }) (fun_ext none_in)

  -- CREATE, accepted on an image of this shelf
  pub create_begins : (s : State) (room : ℕ) → outcome_of (create_of z.k z.m z.c z.sectors z.number img room) ≡ Ok tt
      → Fair z (state_of s (create_of z.k z.m z.c z.sectors z.number img room)) [] img
      × (memory_of z (state_of s (create_of z.k z.m z.c z.sectors z.number img room)) [] img ≡ asked_create (size z) (no_sets (slots z)) (labels z) (records z) (any_code z) stamps (any_sectors z))
  create_begins s room e =
      let t = (state_of s (create_of z.k z.m z.c z.sectors z.number img room)) in
      let q = (goes (create_answer z.k z.m z.c z.sectors img room) s (first_state z img disks) e).1 in
      let h = subst Steps q (create_steps s z.k z.m z.c z.sectors z.number img room e) in
      subst (λ (x : State). Fair z x [] img × (memory_of z x [] img ≡ asked_create (size z) (no_sets (slots z)) (labels z) (records z) (any_code z) stamps (any_sectors z))) (sym q)
      (create_fair z (first_state z img disks) img h.taken (first_ours z img disks) disks refl refl (λ d l i. none_in d) (record { same = (first_ours z img disks); fit = h.next_fits }), create_asked z (first_state z img disks) img refl refl all_say first_label refl refl refl)

  -- ---- taking a slot out

  module _ (s : State) (own : ours z s.now ≡ true) (d : ℕ) where
    rest_say : Says z (took_out s d).marks.present (λ e. not (in_mask s.absent e))
    rest_say e i = ap (λ (n : ℕ). in_mask (slots_but s.absent n) e) (n_is z img disks s own d) ∙ slots_say z s.absent e i

    -- TAKING SLOT d OUT, accepted in a state of this shelf
    pub out_begins : (room : ℕ) → outcome_of (take_out_of s d img room) ≡ Ok tt
        → Fair z (state_of s (take_out_of s d img room)) [] img
        × (memory_of z (state_of s (take_out_of s d img room)) [] img ≡ asked_out (size z) (no_sets (slots z)) (labels z) (records z) (any_code z) stamps (any_sectors z) (own_of z s s.now) d)
    out_begins room e =
        let p = goes (take_answer (l z img disks s own d) s.kind s.absent img d room) s (took_out s d) e in
        let h = subst Steps p.1 (out_steps s d img room e) in
        let there : d < slots z = omega (arith, (n_is z img disks s own d), (take_done (l z img disks s own d) s.kind s.absent img d room p.0).1.there) in
        subst (λ (x : State). Fair z x [] img × (memory_of z x [] img ≡ asked_out (size z) (no_sets (slots z)) (labels z) (records z) (any_code z) stamps (any_sectors z) (own_of z s s.now) d)) (sym p.1) (
          change_fair z (took_out s d) img h.taken own disks refl refl (λ x i q. not-true (in_mask s.absent x) (sym (rest_say x i) ∙ q)) (record { same = (out_ours z img disks s own d); fit = λ x i. h.next_fits x (omega (arith, (n_is z img disks s own d))) }),
          out_asked z (took_out s d) img refl d refl (λ x i. rest_say x i ∙ sym (ap not (beyond_below (slots z) s.absent x i))) ((out_label z img disks s own d) there),
        )

-- ---- A STEP, with a work area of the right size, is the program's

-- it is the shelf's step
pub room_fits : (z : Shelf) (s : State) (work other img : List ℕ) → Fair z s other img → length work ≡ work_bytes (slots z) z.c → step_with s img work ≡ step_move s work img
unfolding other_work
room_fits z s work other img fair e =
    let g = shelf_geometry z s.now fair.ours_now in
    let w : eqb (length work) (work_bytes (s.now.k + s.now.m) s.now.c) ≡ true = eq-eqb (length work) (work_bytes (s.now.k + s.now.m) s.now.c) (e ∙ sym (ap (λ (x : Geometry). work_bytes x.n x.c) g)) in
    let f : fits_image (geometry_of s.now) (length img) ≡ true = ap (λ (x : Geometry). fits_image x (length img)) g ∙ image_fits z img fair.disks in
    step_goes s img work fair.in_range_lem (ap₂ (λ (a b : Bool). a && not b) f w)

pub step_with_lem : (z : Shelf) (s : State) (work img : List ℕ) → plain s.kind ≡ true → Fair z s [] img → length work ≡ work_bytes (slots z) z.c → Tied z s [] img (step_with s img work)
step_with_lem z s work img p fair e = subst (Tied z s [] img) (sym (room_fits z s work [] img fair e)) (step_tied z s [] work img p fair)
