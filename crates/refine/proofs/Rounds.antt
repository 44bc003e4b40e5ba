-- What `Rattle.rounds` makes of the labels is what the protocol's start-up makes of them: who is gone, who adopts, what the
-- settled label is, whether few enough slots are out, and what a slot that adopts is given first. Assumes nothing.
use Rattle.std.proofs.Math.Path.{◌≡◌, refl, sym, ap, ap₂, fun_ext}
use Rattle.std.proofs.Common.{◌∙◌, eqb-true, le-ltb}
use Rattle.std.proofs.Math.Logic.{⊎_elim}
use Rattle.std.specs.Prelude.{Bool, ◌&&◌, ◌||◌, List, [], ◌∷◌, Some, None}
use Rattle.std.proofs.Math.Bool.{true, false, cond, not}
use Prim.Native.Nat.{ℕ, suc, ◌+◌, ◌≤◌, ◌<◌, ◌%◌}
use native.Mathlib.Omega.{arith}
use Rattle.std.specs.Int.Count.{ones}
use Rattle.std.proofs.Math.Dec.{ltb, eqb, leb}
use Rattle.std.proofs.lemmas.Bool.{not-true}
use Rattle.disk.specs.Tests.{and_right}
use Rattle.disk.specs.Image.{lt_or_ge}
use Rattle.disk.specs.Mask.{in_mask, mask_lt, mask_below, mask_past, in_past}
use Rattle.label.specs.Fields.{no_slot, most_generation}
use Rattle.label.specs.Newest.{copy_of, disk_label, present_label, same_shelf}
use Rattle.label.specs.declared.fields.Label as bytes
use Rattle.label.specs.Fields.{Decoded}
use Rattle.label.proofs.Fits.{fits_says}
use Rattle.label.proofs.Counts.{SameShelf, same_says, agreed_says}
use Rattle.rounds.specs.Slot.{age_of, age_under, plainly_out, calls_out, goes_out, adopts, copy_age, wiped, gets_zeros, gets_label, takes_part}
use Rattle.rounds.specs.Slot as Slot
use Rattle.rounds.specs.Survey.{slots_that, next_of}
use Rattle.protocol.specs.World.{label}
use Rattle.protocol.specs.Label.{Label, again, plainly_out as plainly_out', copy, prep_value}
use Rattle.protocol.specs.Label as Label
use Rattle.protocol.specs.Startup.{M, without, next}
use Rattle.protocol.specs.Startup as Startup
use Rattle.protocol.specs.Program.{NO_LABEL, TOO_FEW, NOT_NOW, clear, first, left_out as left_out', may_start}
use Rattle.protocol.specs.Even.{may_start_by}
use Rattle.protocol.specs.Pairs.{no_sets}
use Rattle.codecs.proofs.Sector.{zeros}
use Rattle.codecs.specs.Shelf.{Shelf, slots, geometry, size, few_slots}
use Rattle.codecs.specs.Labels.{no_label, label_of, ours, meant, slot_meant, side_of}
use Rattle.codecs.proofs.Labels.{encode_label, labels, sector_side}
use Rattle.codecs.specs.Labels as Labels
use Rattle.codecs.proofs.Records.{records}
use Rattle.codecs.specs.Media.{stamps}
use Rattle.codecs.proofs.Media.{medium}
use Rattle.shards.specs.Quorum.{few_of}
use Rattle.shards.proofs.Quorum.{few_mask}
use Rattle.shards.proofs.Even.{any_code, any_sectors}
use Rattle.refine.specs.Family.{Family, code_in, sectors_in}
use Rattle.refine.specs.Labels.{named, Led}
use Rattle.refine.proofs.Labels.{labelled_is, copy_is, newest_of_lem, seen_of_lem, M_is, L_is}
use Rattle.refine.specs.Rounds.{slot_test, f0, gone_of, left_out, after, may_wipe, verdict}

module _ (z : Shelf) (img : List ℕ) (absent : ℕ) (A : ℕ → Bool) (l : bytes.Label) (led : Led z img absent A l) where
  -- ---- who is gone

  plainly_same : (a : bytes.Label) (d : ℕ) → d < slots z → plainly_out' (label_of z a) d ≡ plainly_out a d
  unfolding plainly_out
  plainly_same a d h = ap (λ (b : Bool). in_mask a.out d && not b) (slot_test z a.rebuilding d h)

  pub stale_is : (d : ℕ) → d < slots z → in_mask absent d ≡ false → Startup.stale (size z) (labels z) A (f0 z img absent A l led) d ≡ Slot.stale (geometry z) img absent l d
  unfolding Slot.stale Slot.behind Slot.disowned Startup.behind Startup.disowned present_label
  stale_is d h e =
      let s = agreed_says (geometry z) img absent l led.agree d h e in
      let a = s.label in
      let p1 = seen_of_lem z img absent A l led d a h e s.is in
      let p2 = M_is z img absent A l led in
      let p3 = newest_of_lem z img absent A l led d a h e s.is in
      let p4 = L_is z img absent A l led in
      let there : present_label (geometry z) img absent d ≡ Some a = ap (λ (b : Bool). cond b None (disk_label (geometry z) img d)) e ∙ s.is in
      (λ i. Startup.behind (p1 i) (p2 i) || Startup.disowned (p3 i) (p4 i) d)
      ∙ ap₂ (λ (x y : Bool). ltb (suc a.generation) l.generation || (x && not y)) (plainly_same a d h) (plainly_same l d h)
      ∙ ap (λ (x : ℕ). ltb x l.generation || (plainly_out a d && not (plainly_out l d))) (let q : suc a.generation ≡ a.generation + 1 = omega arith in q)
      ∙ sym (ap (λ (x : Decoded). ltb (age_of x + 1) l.generation || (calls_out x d && not (plainly_out l d))) there)

  pub gone_is : (d : ℕ) → (gone_of z img absent A l led) d ≡ Slot.gone (geometry z) img absent l d
  unfolding Slot.gone Startup.gone
  gone_is d = ⊎_elim (λ (h : d < slots z). below h (in_mask absent d) refl) (λ (h : slots z ≤ d). rw (le-ltb d (slots z) h)) (lt_or_ge d (slots z))
    where
      below : d < slots z → (b : Bool) → in_mask absent d ≡ b
          → (ltb d (slots z) && (A d || Startup.stale (size z) (labels z) A (f0 z img absent A l led) d)) ≡ (ltb d (slots z) && (in_mask absent d || Slot.stale (geometry z) img absent l d))
      below h true e =
          ap (λ (b : Bool). ltb d (slots z) && (b || Startup.stale (size z) (labels z) A (f0 z img absent A l led) d)) (led.are d h ∙ e)
          ∙ sym (ap (λ (b : Bool). ltb d (slots z) && (b || Slot.stale (geometry z) img absent l d)) e)
      below h false e = ap₂ (λ (b c : Bool). ltb d (slots z) && (b || c)) (led.are d h) (stale_is d h e)

  gone_past : (d : ℕ) → slots z ≤ d → Slot.gone (geometry z) img absent l d ≡ false
  unfolding Slot.gone
  gone_past d h = rw (le-ltb d (slots z) h)

  -- ---- the settled label

  same : SameShelf (Labels.fields_of z 0 (no_label z)) l
  same = same_says (Labels.fields_of z 0 (no_label z)) l led.own

  out_past : (d : ℕ) → slots z ≤ d → in_mask l.out d ≡ false
  out_past d h =
      let f = fits_says l (named (geometry z) img absent l led.disks.small led.leads).0 in
      in_past (l.k + l.m) l.out d f.out_below (omega (arith, same.same_k, same.same_m))

  -- Out', as the protocol says it, and as a mask
  out_is : (d : ℕ) → (in_mask l.out d || (gone_of z img absent A l led) d) ≡ in_mask (slots_that (geometry z) img absent goes_out l) d
  unfolding slots_that goes_out
  out_is d =
      ap (λ (b : Bool). in_mask l.out d || b) (gone_is d)
      ∙ ⊎_elim (λ (h : d < slots z). sym (mask_below (goes_out (geometry z) img absent l) (slots z) d h))
      (λ (h : slots z ≤ d). ap₂ (λ (a b : Bool). a || b) (out_past d h) (gone_past d h) ∙ sym (mask_past (goes_out (geometry z) img absent l) (slots z) d h))
      (lt_or_ge d (slots z))

  -- whether the slot being rebuilt is gone
  gone_slot : (gone_of z img absent A l led) (slot_meant (slots z) l.rebuilding) ≡ Slot.gone (geometry z) img absent l l.rebuilding
  gone_slot = by (eqb l.rebuilding no_slot) refl
    where
      by : (b : Bool) → eqb l.rebuilding no_slot ≡ b → (gone_of z img absent A l led) (cond b (slots z) l.rebuilding) ≡ Slot.gone (geometry z) img absent l l.rebuilding
      by true e = gone_is (slots z) ∙ gone_past (slots z) (omega arith) ∙ sym (gone_past l.rebuilding (omega (arith, eqb-true l.rebuilding no_slot e, few_slots z)))
      by false e = gone_is l.rebuilding

  pub next_is : next (size z) (labels z) A (f0 z img absent A l led) (suc (suc (M (size z) (labels z) A (f0 z img absent A l led)))) ≡ label_of z (next_of (geometry z) img absent l)
  unfolding next_of
  next_is =
      let n = slots z in
      let r = l.rebuilding in
      let gen : suc (suc (M (size z) (labels z) A (f0 z img absent A l led))) ≡ l.generation + 2 = omega (arith, M_is z img absent A l led) in
      let o : ◌≡◌ {A = ℕ → Bool} (λ d. in_mask l.out d || (gone_of z img absent A l led) d) (in_mask (slots_that (geometry z) img absent goes_out l)) = fun_ext out_is in
      let s : cond ((gone_of z img absent A l led) (slot_meant n r)) n (slot_meant n r) ≡ slot_meant n (cond (Slot.gone (geometry z) img absent l r) no_slot r) =
      ap (λ (b : Bool). cond b n (slot_meant n r)) gone_slot ∙ ended (Slot.gone (geometry z) img absent l r) in
      let m : cond ((gone_of z img absent A l led) (slot_meant n r)) 0 l.mark ≡ cond (Slot.gone (geometry z) img absent l r) 0 l.mark = ap (λ (b : Bool). cond b 0 l.mark) gone_slot in
      ap (λ (x : Label). without n x (gone_of z img absent A l led) (suc (suc (M (size z) (labels z) A (f0 z img absent A l led))))) (L_is z img absent A l led)
      ∙ (λ i. record { generation = gen i; out = o i; rebuilding = s i; mark = m i })
    where
      ended : (b : Bool) → cond b (slots z) (slot_meant (slots z) l.rebuilding) ≡ slot_meant (slots z) (cond b no_slot l.rebuilding)
      ended true = refl
      ended false = refl

  pub left_out_is : (d : ℕ) → (left_out z img absent A l led) d ≡ in_mask (slots_that (geometry z) img absent goes_out l) d
  unfolding left_out'
  left_out_is d = ap (λ (x : Label). x.out d || (gone_of z img absent A l led) d) (L_is z img absent A l led) ∙ out_is d

  pub few_is : few_of z (left_out z img absent A l led) ≡ leb (ones (slots_that (geometry z) img absent goes_out l)) l.m
  unfolding slots_that
  few_is =
      ap (few_of z) (fun_ext left_out_is)
      ∙ few_mask z (slots_that (geometry z) img absent goes_out l) (mask_lt (goes_out (geometry z) img absent l) (slots z))
      ∙ ap (leb (ones (slots_that (geometry z) img absent goes_out l))) same.same_m

  -- ---- who takes part, and who adopts

  pub parts_is : (d : ℕ) → d < slots z → in_mask (slots_that (geometry z) img absent takes_part l) d ≡ not ((gone_of z img absent A l led) d)
  unfolding slots_that
  parts_is d h = mask_below (takes_part (geometry z) img absent l) (slots z) d h ∙ ap not (sym (gone_is d))

  pub late_is : (d : ℕ) → d < slots z → in_mask (slots_that (geometry z) img absent adopts l) d ≡ (not (A d) && Startup.stale (size z) (labels z) A (f0 z img absent A l led) d)
  unfolding slots_that adopts
  late_is d h = mask_below (adopts (geometry z) img absent l) (slots z) d h ∙ sym (by (in_mask absent d) refl)
    where
      by : (b : Bool) → in_mask absent d ≡ b → (not (A d) && Startup.stale (size z) (labels z) A (f0 z img absent A l led) d) ≡ (not (in_mask absent d) && Slot.stale (geometry z) img absent l d)
      by true e = ap (λ (b : Bool). not b && Startup.stale (size z) (labels z) A (f0 z img absent A l led) d) (led.are d h ∙ e) ∙ sym (ap (λ (b : Bool). not b && Slot.stale (geometry z) img absent l d) e)
      by false e = ap₂ (λ (b c : Bool). not b && c) (led.are d h) (stale_is d h e)

  -- ---- what a slot that adopts is given first

  ours_lead : (b : bytes.Label) → ours z b ≡ same_shelf l b
  unfolding same_shelf
  ours_lead b = λ i.
      eqb (same.same_k i) b.k
      && (eqb (same.same_m i) b.m
      && (eqb (same.same_c i) b.c && (eqb (same.same_sectors i) b.sectors && eqb (same.same_number i) b.shelf)))

  age_same : (x : Decoded) → (meant z x).generation ≡ age_under l x
  age_same None = refl
  age_same (Some b) = ap (λ (t : Bool). (cond t (label_of z b) (no_label z)).generation) (ours_lead b) ∙ go (same_shelf l b)
    where
      go : (t : Bool) → (cond t (label_of z b) (no_label z)).generation ≡ cond t b.generation 0
      go true = refl
      go false = refl

  -- the generation of the copy in the sector of generation q
  pub copy_age_lem : (d q : ℕ) → d < slots z → in_mask absent d ≡ false → (copy (labels z) (f0 z img absent A l led) d (side_of q)).generation ≡ copy_age (geometry z) img l d (q % 2)
  unfolding copy_age
  copy_age_lem d q h e =
      ap (λ (x : Label). x.generation) (copy_is z img led.disks absent A led.are d (side_of q) h e)
      ∙ ap (λ (s : ℕ). (meant z (copy_of (geometry z) img d s)).generation) (sector_side q) ∙ age_same (copy_of (geometry z) img d (q % 2))

  pub after_is : (after z img absent A l led) ≡ l.generation + 1
  after_is = omega (arith, M_is z img absent A l led)

  pub prepared_is : (d : ℕ) → d < slots z → in_mask absent d ≡ false → Label.prepared (labels z) (f0 z img absent A l led) (after z img absent A l led) d ≡ Slot.prepared (geometry z) img l d
  unfolding Slot.prepared
  prepared_is d h e =
      ap (λ (q : ℕ). eqb (copy (labels z) (f0 z img absent A l led) d (side_of q)).generation q) after_is ∙ ap (λ (x : ℕ). eqb x (l.generation + 1)) (copy_age_lem d (l.generation + 1) h e)

  pub wiped_is : (d : ℕ) → d < slots z → in_mask absent d ≡ false → (may_wipe z img absent A l led) d ≡ wiped (geometry z) img l d
  unfolding wiped
  wiped_is d h e =
      let q : suc (after z img absent A l led) ≡ l.generation + 2 = omega (arith, after_is) in
      ap₂ (λ (x y : ℕ). ltb 0 (copy (labels z) (f0 z img absent A l led) d (side_of x)).generation || eqb (copy (labels z) (f0 z img absent A l led) d (side_of y)).generation 0) q after_is
      ∙ ap₂ (λ (x y : ℕ). ltb 0 x || eqb y 0) (copy_age_lem d (l.generation + 2) h e) (copy_age_lem d (l.generation + 1) h e)

  given : (d : ℕ) → d < slots z → (P : Bool → Bool → Bool)
      → (adopts (geometry z) img absent l d && P (Slot.prepared (geometry z) img l d) (wiped (geometry z) img l d)) ≡ (adopts (geometry z) img absent l d && P (Label.prepared (labels z) (f0 z img absent A l led) (after z img absent A l led) d) ((may_wipe z img absent A l led) d))
  unfolding adopts
  given d h P = by (in_mask absent d) refl
    where
      by : (b : Bool) → in_mask absent d ≡ b
          → ((not (in_mask absent d) && Slot.stale (geometry z) img absent l d) && P (Slot.prepared (geometry z) img l d) (wiped (geometry z) img l d))
          ≡ ((not (in_mask absent d) && Slot.stale (geometry z) img absent l d) && P (Label.prepared (labels z) (f0 z img absent A l led) (after z img absent A l led) d) ((may_wipe z img absent A l led) d))
      by true e = rw e
      by false e = ap₂ (λ (p w : Bool). (not (in_mask absent d) && Slot.stale (geometry z) img absent l d) && P p w) (sym (prepared_is d h e)) (sym (wiped_is d h e))

  -- of those that adopt, these get zeros; and these the new content
  pub zeroed_is : (d : ℕ) → d < slots z
      → in_mask (slots_that (geometry z) img absent gets_zeros l) d ≡ (in_mask (slots_that (geometry z) img absent adopts l) d && (not (Label.prepared (labels z) (f0 z img absent A l led) (after z img absent A l led) d) && (may_wipe z img absent A l led) d))
  unfolding slots_that gets_zeros
  zeroed_is d h =
      mask_below (gets_zeros (geometry z) img absent l) (slots z) d h
      ∙ given d h (λ (p w : Bool). not p && w)
      ∙ ap (λ (b : Bool). b && (not (Label.prepared (labels z) (f0 z img absent A l led) (after z img absent A l led) d) && (may_wipe z img absent A l led) d)) (sym (mask_below (adopts (geometry z) img absent l) (slots z) d h))

  pub kept_is : (d : ℕ) → d < slots z
      → in_mask (slots_that (geometry z) img absent gets_label l) d ≡ (in_mask (slots_that (geometry z) img absent adopts l) d && (not (Label.prepared (labels z) (f0 z img absent A l led) (after z img absent A l led) d) && not ((may_wipe z img absent A l led) d)))
  unfolding slots_that gets_label
  kept_is d h =
      mask_below (gets_label (geometry z) img absent l) (slots z) d h
      ∙ given d h (λ (p w : Bool). not p && not w)
      ∙ ap (λ (b : Bool). b && (not (Label.prepared (labels z) (f0 z img absent A l led) (after z img absent A l led) d) && not ((may_wipe z img absent A l led) d))) (sym (mask_below (adopts (geometry z) img absent l) (slots z) d h))

  -- what they get, in the protocol's words; `new` is the settled label
  module _ (new : Label) (d : ℕ) (h : d < slots z) where
    pub zeroed_value : in_mask (slots_that (geometry z) img absent gets_zeros l) d ≡ true → prep_value (labels z) (f0 z img absent A l led) (after z img absent A l led) new (label d (side_of (after z img absent A l led))) ≡ zeros
    zeroed_value e =
        let w = and_right (not (Label.prepared (labels z) (f0 z img absent A l led) (after z img absent A l led) d)) ((may_wipe z img absent A l led) d) (and_right (in_mask (slots_that (geometry z) img absent adopts l) d) _ (sym (zeroed_is d h) ∙ e)) in
        ap (λ (b : Bool). cond b zeros (encode_label z d (again new (after z img absent A l led)))) w

    pub kept_value : in_mask (slots_that (geometry z) img absent gets_label l) d ≡ true → prep_value (labels z) (f0 z img absent A l led) (after z img absent A l led) new (label d (side_of (after z img absent A l led))) ≡ encode_label z d (again new (after z img absent A l led))
    kept_value e =
        let w = and_right (not (Label.prepared (labels z) (f0 z img absent A l led) (after z img absent A l led) d)) (not ((may_wipe z img absent A l led) d)) (and_right (in_mask (slots_that (geometry z) img absent adopts l) d) _ (sym (kept_is d h) ∙ e)) in
        ap (λ (b : Bool). cond b zeros (encode_label z d (again new (after z img absent A l led)))) (not-true ((may_wipe z img absent A l led) d) w)

  pub start_is : may_start_by (size z) (no_sets (slots z)) (labels z) (records z) (any_code z) stamps (any_sectors z) (few_of z) A (f0 z img absent A l led)
      ≡ (verdict z img absent A l led) (leb (ones (slots_that (geometry z) img absent goes_out l)) l.m) (leb (l.generation + 2) most_generation)
  unfolding any_sectors medium
  start_is =
      let p = labelled_is z img absent A l led in
      let q = few_is in
      let r : leb (suc (after z img absent A l led)) most_generation ≡ leb (l.generation + 2) most_generation = ap (λ (x : ℕ). leb x most_generation) (let e : suc (after z img absent A l led) ≡ l.generation + 2 = omega (arith, after_is) in e) in
      λ i. first (record { why = NO_LABEL; holds = not (p i) } ∷ record { why = TOO_FEW; holds = not (q i) } ∷ record { why = NOT_NOW; holds = not (r i) } ∷ [])

  -- START-UP MAY GO ON IN A FAMILY in which the slots lie that go out
  pub start_in : (F : Family z) → F.sets.few (in_mask (slots_that (geometry z) img absent goes_out l)) ≡ true → leb (l.generation + 2) most_generation ≡ true
      → may_start (size z) F.sets (labels z) (records z) (code_in z F) stamps (sectors_in z F) A (f0 z img absent A l led) ≡ clear
  unfolding any_sectors medium left_out'
  start_in F few left =
      let p = labelled_is z img absent A l led in
      let q : F.sets.few (left_out z img absent A l led) ≡ true = ap F.sets.few (fun_ext left_out_is) ∙ few in
      let r : leb (suc (after z img absent A l led)) most_generation ≡ true = ap (λ (x : ℕ). leb x most_generation) (let e : suc (after z img absent A l led) ≡ l.generation + 2 = omega (arith, after_is) in e) ∙ left in
      λ i. first (record { why = NO_LABEL; holds = not (p i) } ∷ record { why = TOO_FEW; holds = not (q i) } ∷ record { why = NOT_NOW; holds = not (r i) } ∷ [])
