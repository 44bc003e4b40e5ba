-- GOING ON WITH A REBUILD, accepted at rest: it can be carried out, what the program remembers beside it is what it remembers of that
-- request, and the program accepts it too. Where the mark is T already, it has no strips: a flush, and then the label. Assumes nothing.
use Rattle.std.specs.Prelude.{◌≡◌, Bool, ◌&&◌, ℕ, ◌+◌, ◌<◌, ◌^◌, eqb, Ok}
use Rattle.std.proofs.Math.Path.{refl, ap}
use Rattle.std.proofs.Common.{sym, ◌∙◌, arith}
use Rattle.std.proofs.Math.Bool.{true, false, cond, not}
use mathlib.Core.List.{List, ◌++◌}
use Rattle.std.proofs.Math.Dec.{leb, ltb}
use Rattle.std.specs.Int.Count.{ones, ones_in}
use Rattle.std.proofs.Math.ListN.{length}
use borrow.Author.Tests.{lt-ltb, le-leb, eq-eqb, ne_eqb, eqb-true}
use Rattle.disk.specs.Limits.{most_k, most_m}
use Rattle.disk.specs.Tests.{and_left, and_right, both}
use Rattle.disk.specs.Geometry.{in_range_with, stripes_of}
use Rattle.disk.specs.Mask.{in_mask, without_slot, in_without, in_past, slots_below}
use Rattle.disk.specs.declared.geometry.Geometry.{Geometry}
use Rattle.label.specs.Fields.{no_slot, most_generation, geometry_of, rebuild_fits, fits_of}
use Rattle.label.specs.declared.fields.Label as bytes
use Rattle.label.proofs.Fits.{Fits, fits_says}
use Rattle.label.specs.Newest.{same_shelf}
use Rattle.protocol.specs.Label.{Label, looked, round}
use Rattle.protocol.specs.Host.{rebuilt}
use Rattle.protocol.specs.Rebuild.{fill}
use Rattle.protocol.specs.Program.{Own, Memory, doing, labelling, beyond, told_to, relabelled, at_least_one as at_least_one'}
use Rattle.protocol.specs.Pairs.{no_sets}
use Rattle.codecs.specs.Sector.{Sector}
use Rattle.codecs.specs.Shelf.{Shelf, slots, geometry, size, few_slots}
use Rattle.codecs.specs.Labels.{label_of, ours}
use Rattle.codecs.proofs.Labels.{labels}
use Rattle.codecs.proofs.Records.{records}
use Rattle.codecs.specs.Media.{stamps}
use Rattle.shards.proofs.Even.{any_code, any_sectors}
use Rattle.shelf.specs.Act.{named}
use Rattle.shelf.specs.Says.{unless}
use Rattle.stages.specs.declared.state.State.{State}
use Rattle.stages.specs.declared.state.Kind.{Kind}
use Rattle.requests.specs.Begun.{work_bytes}
use Rattle.requests.specs.Ready.{is_idle, ready_of}
use Rattle.requests.specs.TakeOut.{next_label}
use Rattle.rebuilds.specs.Judge.{too_few, sized, Passed, judged_done, first_done, one_more}
use Rattle.rebuilds.specs.On.{cannot_go_on, asked_on, on_answer, at_least_one, last_batch, on_label, went_on, GoesOn, on_done, mark_fits}
use Rattle.refine.specs.Disks.{Disks, seen_of}
use Rattle.refine.specs.Given.{shelf_geometry}
use Rattle.refine.specs.Steps.{Tells}
use Rattle.refine.specs.Tied.{own_of}

-- no slot is in the empty mask
pub ones_none : ones 0 ≡ 0
unfolding ones ones_in
ones_none = refl

-- the label with the next generation fits each slot
fits_next : (l : bytes.Label) (d out r mark : ℕ) → fits_of l ≡ true → d < l.k + l.m → l.generation < most_generation → out < 2 ^ (l.k + l.m)
    → rebuild_fits (named (next_label l out r mark) d) ≡ true → fits_of (named (next_label l out r mark) d) ≡ true
unfolding fits_of
fits_next l d out r mark e i more low rebuild =
    let e1 = and_right (leb l.k most_k) _ e in
    let e2 = and_right (leb l.m most_m) _ e1 in
    both (leb l.k most_k) _ (and_left (leb l.k most_k) _ e)
    (both (leb l.m most_m) _ (and_left (leb l.m most_m) _ e1)
    (both (in_range_with (geometry_of l) l.k) _ (and_left (in_range_with (geometry_of l) l.k) _ e2)
    (both (ltb d (l.k + l.m)) _ (lt-ltb d (l.k + l.m) i)
    (both (leb 1 (l.generation + 1)) _ (le-leb 1 (l.generation + 1) (omega arith))
    (both (leb (l.generation + 1) most_generation) _ (le-leb (l.generation + 1) most_generation (omega arith))
    (both (ltb out (2 ^ (l.k + l.m))) _ (lt-ltb out (2 ^ (l.k + l.m)) low) rebuild))))))

-- it is accepted at rest
pub on_rests : (l : bytes.Label) (kind : Kind) (absent : ℕ) (img : List ℕ) (room : ℕ) → on_answer l kind absent img room ≡ Ok tt → is_idle kind ≡ true
unfolding asked_on
on_rests l kind absent img room e =
    (judged_done (too_few l absent) false (is_idle kind) (cannot_go_on l absent) (sized l room) (first_done (ready_of l kind absent img) (asked_on l (is_idle kind) absent room) e).1).free

module _ (z : Shelf) (img : List ℕ) (disks : Disks z img) (s : State) (own : ours z s.now ≡ true) (b : ℕ) (work : List ℕ)
    (ok : on_answer s.now s.kind s.absent img (length work) ≡ Ok tt)
    (dark : (d : ℕ) → d < slots z → in_mask s.absent d ≡ true → looked (size z) (label_of z s.now) d ≡ true → ⊥) where
  abbrev pub l : bytes.Label
  l = s.now

  abbrev pub Q : Label
  Q = label_of z l

  abbrev pub r : ℕ
  r = l.rebuilding

  abbrev pub A : ℕ → Bool
  A = beyond (slots z) (in_mask s.absent)

  -- the state with which it begins
  abbrev pub t : State
  t = went_on s b img

  pub geo : geometry_of l ≡ geometry z
  geo = shelf_geometry z l own

  pub n_is : l.k + l.m ≡ slots z
  n_is = ap (λ (g : Geometry). g.n) geo

  -- ---- what was asked

  pub goes_on : GoesOn l
  goes_on = on_done l s.kind s.absent img (length work) ok

  pub passed : Passed (too_few l s.absent) false (is_idle s.kind) (cannot_go_on l s.absent) (sized l (length work))
  unfolding asked_on
  passed = judged_done (too_few l s.absent) false (is_idle s.kind) (cannot_go_on l s.absent) (sized l (length work)) (first_done (ready_of l s.kind s.absent img) (asked_on l (is_idle s.kind) s.absent (length work)) ok).1

  pub one_left : l.generation < most_generation
  one_left = one_more l goes_on.more

  pub fits : Fits l
  fits = fits_says l goes_on.fits

  pub there : r < slots z
  there = omega (arith, n_is, goes_on.there)

  pub a_slot : eqb r no_slot ≡ false
  a_slot = ne_eqb r no_slot (λ q. omega (arith, there, few_slots z))

  pub is_out : in_mask l.out r ≡ true
  unfolding rebuild_fits
  is_out =
      and_left (in_mask l.out r) _ (and_right (ltb r (l.k + l.m)) _
      (sym (unless (eqb r no_slot) (eqb l.mark 0) (ltb r (l.k + l.m) && (in_mask l.out r && leb l.mark (stripes_of (geometry_of l)))) a_slot) ∙ fits.rebuild))

  -- the work area is the shelf's
  pub on_sized : length work ≡ work_bytes (slots z) z.c
  unfolding sized
  on_sized = eqb-true (length work) (work_bytes (l.k + l.m) l.c) passed.room ∙ ap (λ (g : Geometry). work_bytes g.n g.c) geo

  -- ---- its label

  low_out : without_slot l.out r < 2 ^ (l.k + l.m)
  low_out = slots_below (l.k + l.m) (without_slot l.out r) (λ e i. in_without l.out r e ∙ ap (λ (x : Bool). not (eqb e r) && x) (in_past (l.k + l.m) l.out e fits.out_below i) ∙ by (not (eqb e r)))
    where
      by : (x : Bool) → (x && false) ≡ false
      by true = refl
      by false = refl

  raise_fits : last_batch l b ≡ false → (d : ℕ) → rebuild_fits (named (next_label l l.out r (l.mark + at_least_one b)) d) ≡ true
  unfolding rebuild_fits
  raise_fits q d =
      unless (eqb r no_slot) _ _ a_slot
      ∙ both (ltb r (l.k + l.m)) _ (lt-ltb r (l.k + l.m) goes_on.there) (both (in_mask l.out r) _ is_out (le-leb (l.mark + at_least_one b) (stripes_of (geometry_of l)) (omega (arith, mark_fits l b q))))

  pub next_tells : Tells z (on_label l b)
  unfolding on_label same_shelf rebuild_fits
  next_tells = by (last_batch l b) refl
    where
      by : (x : Bool) → last_batch l b ≡ x → Tells z (cond x (next_label l (without_slot l.out r) no_slot 0) (next_label l l.out r (l.mark + at_least_one b)))
      by true q = record { same = own; fit = λ d i. fits_next l d (without_slot l.out r) no_slot 0 goes_on.fits (omega (arith, n_is)) one_left low_out refl }
      by false q = record { same = own; fit = λ d i. fits_next l d l.out r (l.mark + at_least_one b) goes_on.fits (omega (arith, n_is)) one_left fits.out_below (raise_fits q d) }

  pub on_next : ours z (on_label l b) ≡ true
  on_next = next_tells.same

  -- where that label has no slot that is being rebuilt, the slot is healthy
  pub on_heals : (on_label l b).rebuilding ≡ no_slot → (r < slots z) × (in_mask (on_label l b).out r ≡ false)
  unfolding on_label
  on_heals e = (there, by (last_batch l b) e)
    where
      by : (x : Bool) → (cond x (next_label l (without_slot l.out r) no_slot 0) (next_label l l.out r (l.mark + at_least_one b))).rebuilding ≡ no_slot
          → in_mask (cond x (next_label l (without_slot l.out r) no_slot 0) (next_label l l.out r (l.mark + at_least_one b))).out r ≡ false
      by true q = in_without l.out r r ∙ ap (λ (x : Bool). not x && in_mask l.out r) (eq-eqb r r refl)
      by false q = absurd (omega (arith, q, there, few_slots z))

  -- what the program remembers, for so many strips and the label N
  abbrev pub o : Own
  o = own_of z s l

  abbrev pub on_with : ℕ → Label → Memory Sector
  on_with more N =
      doing labelling
      (fill (records z) Q more (rebuilt (size z) (no_sets (slots z)) (records z) (any_code z) Q (seen_of z A img) Q.rebuilding)
      ++ round (labels z) N (told_to (size z) (no_sets (slots z)) (labels z) (records z) (any_code z) stamps (any_sectors z) A))
      o (relabelled (size z) (no_sets (slots z)) (labels z) (records z) (any_code z) stamps (any_sectors z) o N)

  abbrev pub one : ℕ → ℕ
  one = at_least_one' (size z) (no_sets (slots z)) (labels z) (records z) (any_code z) stamps (any_sectors z)
