-- BEGIN IS THE PROGRAM'S: what the code finds on the disk of slot d is what the protocol's program finds there, and the state with which
-- an accepted begin begins has the program's list before it. Assumes nothing.
use Rattle.std.specs.Prelude.{◌≡◌, ◌&&◌, ◌||◌, ℕ, suc, ◌<◌}
use Rattle.std.proofs.Math.Path.{refl, sym, ap, fun_ext}
use Rattle.std.proofs.Common.{◌∙◌, add-one, arith, ne_eqb, eqb-true, lt-ltb, le-leb}
use Rattle.std.proofs.Math.Bool.{Bool, true, false, cond, not}
use mathlib.Core.List.{List, [], ◌∷◌}
use Rattle.std.proofs.Math.Dec.{eqb, ltb}
use Rattle.disk.specs.Limits.{most_n}
use Rattle.disk.specs.Mask.{in_mask, with_slot, without_slot, in_with, in_without, in_past}
use Rattle.disk.specs.declared.geometry.Geometry.{Geometry}
use Rattle.label.specs.Fields.{no_slot}
use Rattle.label.specs.declared.fields.Label as bytes
use Rattle.protocol.specs.World.{Image}
use Rattle.protocol.specs.Slots.{keep}
use Rattle.protocol.specs.Label as protocol
use Rattle.protocol.specs.Label.{Label, copy}
use Rattle.protocol.specs.Rebuild as rebuild
use Rattle.protocol.specs.Program.{back_in, told_to}
use Rattle.protocol.specs.Pairs.{no_sets}
use Rattle.codecs.specs.Sector.{Sector}
use Rattle.codecs.specs.Shelf.{Shelf, slots, geometry, size, few_slots}
use Rattle.codecs.specs.Labels.{side_of, label_of, ours, slot_meant}
use Rattle.codecs.proofs.Labels.{labels}
use Rattle.codecs.proofs.Records.{records}
use Rattle.codecs.specs.Media.{stamps}
use Rattle.shards.proofs.Even.{any_code, any_sectors}
use Rattle.stages.specs.declared.state.State.{State}
use Rattle.requests.specs.Begun.{slots_but}
use Rattle.rebuilds.specs.Readied as readied
use Rattle.rebuilds.specs.Begin.{only, begin_marks, begun_label, began_with, began}
use Rattle.refine.specs.Disks.{Disks, seen_of}
use Rattle.refine.specs.Lists.{Says}
use Rattle.refine.specs.ToDo.{slots_from}
use Rattle.refine.specs.Steps.{Present}
use Rattle.refine.specs.Tied.{own_of}
use Rattle.refine.specs.Given.{shelf_geometry}
use Rattle.refine.specs.Requests.{slots_say}
use Rattle.refine.specs.Relabels.{one_slot}

pub none_in : (d : ℕ) → in_mask 0 d ≡ false
none_in d = in_past 0 0 d (omega arith) (omega arith)

and_false : (b : Bool) → (b && false) ≡ false
and_false true = refl
and_false false = refl

-- ---- the mask of one slot, or of none

module _ (z : Shelf) (d : ℕ) where
  pub only_says : (b : Bool) (p : ℕ → Bool) → p d ≡ b → Says z (only d b) (λ e. eqb e d && p e)
  only_says b p h e i = by b (eqb e d) h refl
    where
      by : (b t : Bool) → p d ≡ b → eqb e d ≡ t → in_mask (only d b) e ≡ (t && p e)
      by true true h q = in_with 0 d e ∙ ap (λ (x : Bool). x || in_mask 0 e) q ∙ sym (ap p (eqb-true e d q) ∙ h)
      by true false h q = in_with 0 d e ∙ ap (λ (x : Bool). x || in_mask 0 e) q ∙ none_in e
      by false true h q = none_in e ∙ sym (ap p (eqb-true e d q) ∙ h)
      by false false h q = none_in e

  pub only_slots : d < slots z → (b : Bool) (p : ℕ → Bool) → p d ≡ b → slots_from (slots z) (only d b) 0 ≡ keep p (d ∷ [])
  only_slots there b p h = one_slot z (only d b) d p there (only_says b p h)

  -- it is present, where d is counted so
  pub only_present : (absent : ℕ) (b : Bool) → Present z (without_slot absent d) (only d b)
  only_present absent b e i h = by (eqb e d) refl (sym (only_says b (λ x. b) refl e i) ∙ h)
    where
      by : (t : Bool) → eqb e d ≡ t → (t && b) ≡ true → in_mask (without_slot absent d) e ≡ false
      by true q y = in_without absent d e ∙ ap (λ (x : Bool). not x && in_mask absent e) q
      by false q y = absurd (let c : ◌≡◌ {A = ℕ} 0 1 = ap (λ (x : Bool). cond x 1 0) y in omega arith)

module _ (z : Shelf) (img : List ℕ) (disks : Disks z img) (s : State) (own : ours z s.now ≡ true) (d : ℕ) (there : d < slots z) where
  abbrev pub l : bytes.Label
  l = s.now

  abbrev pub Q : Label
  Q = label_of z l

  abbrev pub g : ℕ
  g = l.generation

  -- d counts as present
  abbrev pub absent_then : ℕ
  absent_then = without_slot s.absent d

  abbrev pub A : ℕ → Bool
  A = back_in (size z) (no_sets (slots z)) (labels z) (records z) (any_code z) stamps (any_sectors z) (own_of z s l).absent d

  -- what is seen then
  abbrev pub f : Image Sector
  f = seen_of z A img

  pub absent_is : (own_of z (began s d img) l).absent ≡ A
  absent_is = fun_ext (λ e. ap (λ (b : Bool). b || not (ltb e (slots z))) (in_without s.absent d e) ∙ by e (eqb e d) refl)
    where
      by : (e : ℕ) (t : Bool) → eqb e d ≡ t → ((not t && in_mask s.absent e) || not (ltb e (slots z))) ≡ ((in_mask s.absent e || not (ltb e (slots z))) && not t)
      by e true q = ap not (ap (λ (x : ℕ). ltb x (slots z)) (eqb-true e d q) ∙ lt-ltb d (slots z) there) ∙ sym (and_false (in_mask s.absent e || not (ltb e (slots z))))
      by e false q = go (in_mask s.absent e || not (ltb e (slots z)))
        where
          go : (b : Bool) → b ≡ (b && true)
          go true = refl
          go false = refl

  pub A_below : (e : ℕ) → e < slots z → A e ≡ in_mask absent_then e
  A_below e i = ap (λ (x : ℕ → Bool). x e) (sym absent_is) ∙ ap (λ (b : Bool). in_mask absent_then e || not b) (lt-ltb e (slots z) i) ∙ go (in_mask absent_then e)
    where
      go : (b : Bool) → (b || false) ≡ b
      go true = refl
      go false = refl

  abbrev pub may_wipe : Bool
  may_wipe = ltb 0 (copy (labels z) f d (side_of (suc g))).generation || eqb (copy (labels z) f d (side_of g)).generation 0

  -- the copy that goes first
  abbrev pub odd : Bool
  odd = readied.odd_first (geometry z) img l d

  -- ---- the list

  -- the state with which it begins
  abbrev pub t : State
  t = began_with s (begun_label l d) absent_then (begin_marks (geometry z) img l absent_then d)

  pub began_is : began s d img ≡ t
  began_is = ap (λ (x : Geometry). began_with s (begun_label l d) absent_then (begin_marks x img l absent_then d)) (shelf_geometry z l own)

  -- its label
  pub begun_label_lem : in_mask l.out d ≡ true → label_of z (begun_label l d) ≡ rebuild.begun Q d
  begun_label_lem out =
      let r : slot_meant (slots z) d ≡ d = ap (λ (b : Bool). cond b (slots z) d) (ne_eqb d no_slot (λ q. omega (arith, few_slots z))) in
      let o : in_mask (with_slot l.out d) ≡ in_mask l.out = fun_ext (λ e. in_with l.out d e ∙ by e (eqb e d) refl) in
      λ i. record { generation = add-one g i; out = o i; rebuilding = r i; mark = 0 }
    where
      by : (e : ℕ) (b : Bool) → eqb e d ≡ b → (b || in_mask l.out e) ≡ in_mask l.out e
      by e true q = sym (ap (in_mask l.out) (eqb-true e d q) ∙ out)
      by e false q = refl

  -- the slots that are told
  pub rest_say : Says z t.marks.present (λ e. not (A e))
  rest_say e i =
      ap (λ (b : Bool). in_mask (cond b (slots_but absent_then (slots z)) 0) e) (le-leb (slots z) most_n (few_slots z))
      ∙ slots_say z absent_then e i ∙ ap not (sym (A_below e i))

  -- the disk is prepared
  abbrev pub np : ℕ → Bool
  np e = not (protocol.prepared (labels z) f g e)

  abbrev pub zeroed : ℕ
  zeroed = t.marks.zeroed

  module _ (work : List ℕ) where
    abbrev pub tells_to : List ℕ
    tells_to = told_to (size z) (no_sets (slots z)) (labels z) (records z) (any_code z) stamps (any_sectors z) A
