-- BEGIN, ACCEPTED AT REST, is accepted by the protocol's program too: it begins with a state in order, beside which the program remembers
-- that same request. Asked is that the slot, if it is absent, is not looked at, as the protocol's invariant has it at rest; so it is out.
-- Assumes nothing.
use Rattle.std.specs.Prelude.{◌≡◌, List, Ok}
use Rattle.std.proofs.Math.Path.{refl, ap₂}
use Rattle.std.proofs.Common.{sym, ap, subst, ◌∙◌, arith}
use Rattle.std.proofs.Math.Bool.{true, not}
use Prim.Native.Nat.{ℕ}
use borrow.Author.Tests.{lt-ltb, not-true}
use Rattle.disk.specs.Tests.{both}
use Rattle.disk.specs.Mask.{in_mask}
use Rattle.label.specs.Fields.{fits_of}
use Rattle.label.proofs.Fits.{fits_says}
use Rattle.protocol.specs.World.{Image}
use Rattle.protocol.specs.Label as protocol
use Rattle.protocol.specs.Program.{Verdict, Memory, idle, doing, labelling, accepted, begin, asked_begin as asked_begin', answer}
use Rattle.protocol.specs.Even.{program_by}
use Rattle.protocol.specs.Pairs.{no_sets}
use Rattle.codecs.specs.Sector.{Sector}
use Rattle.codecs.specs.Shelf.{Shelf, slots, geometry, size, few_slots}
use Rattle.codecs.specs.Labels.{label_of, ours}
use Rattle.codecs.proofs.Labels.{labels}
use Rattle.codecs.proofs.Records.{records}
use Rattle.codecs.specs.Media.{stamps}
use Rattle.shards.proofs.Even.{any_code, any_sectors}
use Rattle.shelf.specs.Step.{sound}
use Rattle.stages.specs.declared.state.State.{State}
use Rattle.stages.specs.declared.state.Kind.TheVariants.{Beginning}
use Rattle.rebuilds.specs.Readied.{odd_first, alien, prepared}
use Rattle.rebuilds.specs.Begin.{begin_answer, begun_label}
use Rattle.refine.specs.Disks.{Disks, cur_of}
use Rattle.refine.proofs.Disks.{seen_mask}
use Rattle.refine.specs.ToDo.{to_do}
use Rattle.refine.specs.Steps.{Fair}
use Rattle.refine.specs.Begins.{tells}
use Rattle.refine.specs.Tied.{own_of, program_of}
use Rattle.refine.proofs.Relabels.{begin_fair}
use Rattle.refine.specs.BeginAsked.{only_present, A, f, absent_is, A_below, t, began_is, begun_label_lem, rest_say}
use Rattle.refine.proofs.BeginAsked.{begin_list_is}
use Rattle.refine.specs.BeginBegins.{begun_fits, l, o, goes, there, is_out, t', begun_ours, begin_clear}

module _ (z : Shelf) (img : List ℕ) (disks : Disks z img) (s : State) (own : ours z s.now ≡ true) (d room : ℕ) (e : begin_answer s.now s.kind s.absent img d room ≡ Ok tt)
    (dark : in_mask s.absent d ≡ true → protocol.looked (size z) (label_of z s.now) d ≡ true → ⊥) where
  taken : sound (t z img disks s own d (there z img disks s own d room e dark)) ≡ true
  unfolding sound
  taken = both (fits_of (l z img disks s own d room e dark)) _ (goes z img disks s own d room e dark).fits (lt-ltb 0 (l z img disks s own d room e dark).sectors (omega (arith, (fits_says (l z img disks s own d room e dark) (goes z img disks s own d room e dark).fits).range.room)))

  -- IT CAN BE CARRIED OUT
  pub begin_state_fair : (work : List ℕ) → Fair z (t' z img disks s own d room e dark) work img
  begin_state_fair work =
      let x = t z img disks s own d (there z img disks s own d room e dark) in
      let h = begun_fits (l z img disks s own d room e dark) d (goes z img disks s own d room e dark).fits (goes z img disks s own d room e dark).there (omega (arith, (there z img disks s own d room e dark), few_slots z)) (goes z img disks s own d room e dark).more in
      subst (λ (y : State). Fair z y work img) (sym (began_is z img disks s own d (there z img disks s own d room e dark)))
      (begin_fair z x work img refl taken own disks refl (only_present z d s.absent true) (only_present z d s.absent (alien (geometry z) img (l z img disks s own d room e dark) d (odd_first (geometry z) img (l z img disks s own d room e dark) d)))
      (only_present z d s.absent (alien (geometry z) img (l z img disks s own d room e dark) d (not (odd_first (geometry z) img (l z img disks s own d room e dark) d)))) (only_present z d s.absent (not (prepared (geometry z) img (l z img disks s own d room e dark) d)))
      (λ y i q. sym (A_below z img disks s own d (there z img disks s own d room e dark) y i) ∙ not-true (A z img disks s own d (there z img disks s own d room e dark) y) (sym (rest_say z img disks s own d (there z img disks s own d room e dark) y i) ∙ q))
      (tells z (l z img disks s own d room e dark) own (goes z img disks s own d room e dark).fits) (tells z (begun_label (l z img disks s own d room e dark) d) (begun_ours z img disks s own d room e dark) h))

  -- WHAT THE PROGRAM REMEMBERS OF IT is what is left of it, what it knew before, and what it will know
  pub begin_asked : (work : List ℕ) → asked_begin' (size z) (no_sets (slots z)) (labels z) (records z) (any_code z) stamps (any_sectors z) (o z img disks s own d room e dark) (f z img disks s own d (there z img disks s own d room e dark)) d
      ≡ doing labelling (to_do z (t' z img disks s own d room e dark) work img) (o z img disks s own d room e dark) (own_of z (t' z img disks s own d room e dark) (t' z img disks s own d room e dark).next)
  begin_asked work =
      let N = begun_label_lem z img disks s own d (there z img disks s own d room e dark) (is_out z img disks s own d room e dark) in
      let a = absent_is z img disks s own d (there z img disks s own d room e dark) in
      let p = ap (λ (y : State). to_do z y work img) (began_is z img disks s own d (there z img disks s own d room e dark)) ∙ begin_list_is z img disks s own d (there z img disks s own d room e dark) work (is_out z img disks s own d room e dark) in
      sym (λ i. doing labelling (p i) (o z img disks s own d room e dark) (record { now = N i; absent = a i; epoch = s.epoch; count = (o z img disks s own d room e dark).count }))

  -- THE PROGRAM ACCEPTS IT
  pub begin_accepted : (work : List ℕ) → program_of z (idle (o z img disks s own d room e dark)) (cur_of z img) (begin d) ≡ (doing labelling (to_do z (t' z img disks s own d room e dark) work img) (o z img disks s own d room e dark) (own_of z (t' z img disks s own d room e dark) (t' z img disks s own d room e dark).next), accepted)
  unfolding program_by
  begin_accepted work =
      ap₂ (λ (v : Verdict) (m : Memory Sector). answer (size z) (no_sets (slots z)) (labels z) (records z) (any_code z) stamps (any_sectors z) (idle (o z img disks s own d room e dark)) v m accepted) (begin_clear z img disks s own d room e dark)
      (ap (λ (x : Image Sector). asked_begin' (size z) (no_sets (slots z)) (labels z) (records z) (any_code z) stamps (any_sectors z) (o z img disks s own d room e dark) x d) (seen_mask z (A z img disks s own d (there z img disks s own d room e dark)) img) ∙ begin_asked work)

  -- BEGIN, accepted at rest
  pub begin_begins : (work : List ℕ)
      → Fair z (t' z img disks s own d room e dark) work img × ((t' z img disks s own d room e dark).kind ≡ Beginning)
      × (program_of z (idle (o z img disks s own d room e dark)) (cur_of z img) (begin d) ≡ (doing labelling (to_do z (t' z img disks s own d room e dark) work img) (o z img disks s own d room e dark) (own_of z (t' z img disks s own d room e dark) (t' z img disks s own d room e dark).next), accepted))
  begin_begins work = (begin_state_fair work, refl, begin_accepted work)
