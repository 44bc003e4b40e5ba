-- WHAT THE CODE ACCEPTS THE PROTOCOL'S PROGRAM ACCEPTS: create on an image of zeros, start-up by the survey's plan, taking a slot out
-- at rest. (It may refuse more, and nothing changes then: a disk whose newest label is another shelf's.) And start-up finds no
-- garbage in the log, in a world that the protocol keeps. Assumes nothing.
use Rattle.std.proofs.Math.Path.{◌≡◌, refl, sym, ap}
use Rattle.std.proofs.Common.{subst, ◌∙◌, arith}
use Rattle.std.proofs.Math.Bool.{Bool, true, false, cond, not}
use Rattle.std.specs.Prelude.{◌&&◌, List, [], ◌∷◌, eqb, get_or, Ok}
use Prim.Native.Nat.{ℕ, zero, suc, ◌+◌, ◌<◌, ◌^◌}
use Rattle.std.specs.Int.Count.{ones}
use borrow.Author.Tests.{eq-eqb, ne_eqb, eqb-true, eqb-false, lt-ltb, le-leb}
use Rattle.disk.specs.Tests.{and_left, and_right}
use Rattle.disk.specs.Mask.{in_mask, with_slot, with_lt}
use Rattle.label.specs.Fields.{no_slot, fits_of}
use Rattle.label.specs.Bytes.{all_zero}
use Rattle.label.specs.declared.fields.Label as bytes
use Rattle.label.proofs.Fits.{fits_says}
use Rattle.label.proofs.Counts.{same_says}
use Rattle.rounds.specs.Survey.{next_of, survey_of}
use Rattle.rounds.specs.declared.plan.Plan.{Plan}
use Rattle.protocol.specs.World.{Image, World}
use Rattle.protocol.specs.Log.{Belief}
use Rattle.protocol.specs.Label.{Label, plainly_out as plainly_out'}
use Rattle.protocol.specs.Machine.{View}
use Rattle.protocol.specs.Invariant.{Ghost, Under, Off}
use Rattle.protocol.specs.Request as protocol
use Rattle.protocol.specs.Program.{Own, beyond}
use Rattle.codecs.specs.Sector.{Sector}
use Rattle.codecs.specs.Shelf.{Shelf, slots, geometry, size}
use Rattle.codecs.specs.Labels.{no_label, ours, label_of}
use Rattle.codecs.proofs.Labels.{labels}
use Rattle.codecs.specs.Labels as Labels
use Rattle.codecs.proofs.Records.{records}
use Rattle.codecs.specs.Media.{stamps}
use Rattle.shards.specs.Quorum.{few_of}
use Rattle.shards.proofs.Quorum.{few_mask}
use Rattle.stages.specs.declared.state.State.{State}
use Rattle.requests.specs.Ready.{is_idle}
use Rattle.requests.specs.TakeOut.{out_with, plainly_out, take_answer, next_label, outed}
use Rattle.requests.specs.Accepted.{Goes, take_done}
use Rattle.refine.specs.Disks.{Disks, cur_of}
use Rattle.refine.specs.Family.{Family, code_in, sectors_in}
use Rattle.refine.specs.Labels.{Led}
use Rattle.refine.specs.Rounds.{slot_test}
use Rattle.refine.specs.Requests.{n_is, out_label}
use Rattle.refine.specs.Tied.{own_of}

and_swap : (a b : Bool) → (a && b) ≡ (b && a)
and_swap true true = refl
and_swap true false = refl
and_swap false true = refl
and_swap false false = refl

eqb_swap : (a b : ℕ) → eqb a b ≡ eqb b a
eqb_swap a b = go (eqb b a) refl
  where
    go : (t : Bool) → eqb b a ≡ t → eqb a b ≡ t
    go true e = eq-eqb a b (sym (eqb-true b a e))
    go false e = ne_eqb a b (λ q. eqb-false b a e (sym q))

-- out and not being rebuilt: the two tests
pub plain_is : (z : Shelf) (l : bytes.Label) (d : ℕ) → d < slots z → plainly_out' (label_of z l) d ≡ plainly_out l d
unfolding plainly_out
plain_is z l d there =
    ap (λ (b : Bool). in_mask l.out d && not b) (slot_test z l.rebuilding d there ∙ eqb_swap d l.rebuilding) ∙ and_swap (in_mask l.out d) (not (eqb l.rebuilding d))

-- ---- create

-- every byte of an image of zeros is 0
pub none_there : (b : List ℕ) → all_zero b ≡ true → (p : ℕ) → get_or b p 0 ≡ 0
unfolding all_zero
none_there [] e zero = refl
none_there [] e (suc p) = refl
none_there (x ∷ b) e zero = eqb-true x 0 (and_left (eqb x 0) (all_zero b) e)
none_there (x ∷ b) e (suc p) = none_there b (and_right (eqb x 0) (all_zero b) e) p

module _ (z : Shelf) (img : List ℕ) where
  -- START-UP
  module _ (absent : ℕ) (p : Plan) (e : survey_of (geometry z) img absent ≡ Ok p) (led : Led z img absent (beyond (slots z) (in_mask absent)) p.lead) where
    abbrev pub A : ℕ → Bool
    A = beyond (slots z) (in_mask absent)

    abbrev pub l : bytes.Label
    l = p.lead

    -- NO TAIL IS GARBAGE under the label that it settles, where the protocol's invariant holds for a family in which the slots lie that go out
    module _ (F : Family z) (in_family : F.sets.few (in_mask p.next.out) ≡ true) (w : World Sector) (reads : w.cur ≡ cur_of z img) (view : View Sector) (off : Off (size z) F.sets (labels z) (records z) (code_in z F) stamps (sectors_in z F) view w) where
      abbrev pub f : Image Sector
      f = cur_of z img

      abbrev pub new : bytes.Label
      new = next_of (geometry z) img absent l

      abbrev pub g : Ghost Sector
      g = off.ghost

      abbrev pub D : Belief → Image Sector → Type 0
      D = Under (size z) F.sets (labels z) (records z) (code_in z F) stamps (sectors_in z F) g view

  -- TAKING A SLOT OUT, at rest
  module _ (disks : Disks z img) (s : State) (own : ours z s.now ≡ true) (d room : ℕ) (e : take_answer s.now s.kind s.absent img d room ≡ Ok tt) where
    abbrev pub now : bytes.Label
    now = s.now

    abbrev pub o : Own
    o = own_of z s now

    fits : fits_of now ≡ true
    fits = (take_done now s.kind s.absent img d room e).0

    pub can : Goes now (is_idle s.kind) s.absent d
    can = (take_done now s.kind s.absent img d room e).1

    pub there : d < slots z
    there = omega (arith, n_is z img disks s own d, can.there)

    out_is : (outed now d).out ≡ with_slot now.out d
    unfolding outed
    out_is = go (eqb now.rebuilding d)
      where
        go : (b : Bool) → (cond b (next_label now (with_slot now.out d) no_slot 0) (next_label now (with_slot now.out d) now.rebuilding now.mark)).out ≡ with_slot now.out d
        go true = refl
        go false = refl

    pub few : few_of z (protocol.outed (slots z) (label_of z now) d).out ≡ true
    unfolding out_with
    few =
        let n = n_is z img disks s own d in
        let big : with_slot now.out d < 2 ^ slots z = with_lt (slots z) now.out d (subst (λ (x : ℕ). now.out < 2 ^ x) n (fits_says now fits).out_below) there in
        let w : out_with now d ≡ with_slot now.out d = ap (λ (b : Bool). cond b (with_slot now.out d) now.out) (lt-ltb d (now.k + now.m) can.there) in
        let m : now.m ≡ z.m = sym (same_says (Labels.fields_of z 0 (no_label z)) now own).same_m in
        ap (λ (x : Label). few_of z x.out) (sym (out_label z img disks s own d there)) ∙ ap (λ (x : ℕ). few_of z (in_mask x)) out_is ∙ few_mask z (with_slot now.out d) big
        ∙ le-leb (ones (with_slot now.out d)) z.m (omega (arith, m, ap ones w, can.few))

    pub out_few : few_of z (in_mask (outed now d).out) ≡ true
    out_few = ap (λ (x : Label). few_of z x.out) (out_label z img disks s own d there) ∙ few
