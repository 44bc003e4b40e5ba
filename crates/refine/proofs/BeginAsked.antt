-- BEGIN IS THE PROGRAM'S: what the code finds on the disk of slot d is what the protocol's program finds there, and the state with which
-- an accepted begin begins has the program's list before it. Assumes nothing.
use Rattle.std.specs.Prelude.{◌≡◌, ◌&&◌, ◌||◌, ℕ, suc, ◌<◌, ◌%◌, Some, None}
use Rattle.std.proofs.Math.Path.{refl, sym, ap, ap₂, fun_ext}
use Rattle.std.proofs.Common.{◌∙◌, add-one, eq-eqb}
use Rattle.std.proofs.Math.Bool.{Bool, true, false, cond, not}
use mathlib.Core.List.{List, [], ◌∷◌, ◌++◌}
use Rattle.std.proofs.Math.Dec.{eqb, ltb}
use Rattle.disk.specs.Image.{read_of}
use Rattle.disk.specs.Mask.{in_mask, in_without}
use Rattle.label.specs.Valid.{label_at, decode_of}
use Rattle.label.specs.Newest.{copy_of, same_shelf}
use Rattle.label.specs.Strange as strange
use Rattle.label.specs.declared.fields.Label as bytes
use Rattle.label.specs.Fields.{Decoded}
use Rattle.label.proofs.Counts.{SameShelf, same_says}
use Rattle.protocol.specs.World.{label, slot, Action}
use Rattle.protocol.specs.Batch.{puts, flushes}
use Rattle.protocol.specs.Slots as Slots
use Rattle.protocol.specs.Slots.{keep, rows}
use Rattle.protocol.specs.Walk.{append_assoc}
use Rattle.protocol.specs.Label as protocol
use Rattle.protocol.specs.Label.{Label, copy, told, round_batch, prep_batch, prep_places, expel_batch, last_side}
use Rattle.protocol.specs.Rebuild as rebuild
use Rattle.protocol.specs.Rebuild.{beginning, flushed_at_begin, expel_first, wipe}
use Rattle.protocol.specs.Program.{told_to}
use Rattle.codecs.specs.Sector.{Sector}
use Rattle.codecs.proofs.Sector.{zeros}
use Rattle.codecs.specs.Shelf.{Shelf, slots, geometry}
use Rattle.codecs.specs.Labels as Labels
use Rattle.codecs.specs.Labels.{side_of, no_label, label_of, ours, meant, fields_of, strange_label}
use Rattle.codecs.proofs.Labels.{sector_side, encode_label, labels}
use Rattle.codecs.proofs.Records.{records}
use Rattle.rounds.specs.Slot.{age_under, copy_age}
use Rattle.shelf.specs.Act.{odd_sector}
use Rattle.stages.specs.declared.state.State.{State}
use Rattle.rebuilds.specs.Readied as readied
use Rattle.rebuilds.specs.Begin.{begun_label}
use Rattle.refine.specs.Places.{copy_sector, sector_of, label_inside}
use Rattle.refine.specs.Disks.{Disks}
use Rattle.refine.proofs.Disks.{cur_read, seen_present}
use Rattle.refine.proofs.Labels.{copy_is}
use Rattle.refine.specs.Lists.{slots_are}
use Rattle.refine.specs.ToDo.{slots_from, given, to_do}
use Rattle.refine.specs.Relabels.{gives}
use Rattle.refine.proofs.Relabels.{begin_batches}
use Rattle.refine.specs.BeginAsked.{none_in, only_says, only_slots, l, Q, g, absent_then, A, f, A_below, may_wipe, odd, t, begun_label_lem, rest_say, np, zeroed, tells_to}

not_not : (b : Bool) → not (not b) ≡ b
not_not true = refl
not_not false = refl

module _ (z : Shelf) (img : List ℕ) (disks : Disks z img) (s : State) (own : ours z s.now ≡ true) (d : ℕ) (there : d < slots z) where
  here_then : in_mask (absent_then z img disks s own d there) d ≡ false
  here_then = in_without s.absent d d ∙ ap (λ (x : Bool). not x && in_mask s.absent d) (eq-eqb d d refl)

  -- ---- what is found on the disk of slot d

  same : SameShelf (fields_of z 0 (no_label z)) (l z img disks s own d there)
  same = same_says (fields_of z 0 (no_label z)) (l z img disks s own d there) own

  ours_same : (b : bytes.Label) → ours z b ≡ same_shelf (l z img disks s own d there) b
  unfolding same_shelf
  ours_same b = λ i.
      eqb (same.same_k i) b.k
      && (eqb (same.same_m i) b.m
      && (eqb (same.same_c i) b.c && (eqb (same.same_sectors i) b.sectors && eqb (same.same_number i) b.shelf)))

  -- a copy of this shelf
  age_same : (x : Decoded) → (meant z x).generation ≡ age_under (l z img disks s own d there) x
  age_same None = refl
  age_same (Some b) = ap (λ (t : Bool). (cond t (label_of z b) (no_label z)).generation) (ours_same b) ∙ go (same_shelf (l z img disks s own d there) b)
    where
      go : (t : Bool) → (cond t (label_of z b) (no_label z)).generation ≡ cond t b.generation 0
      go true = refl
      go false = refl

  copy_age_lem : (q : ℕ) → (copy (labels z) (f z img disks s own d there) d (side_of q)).generation ≡ copy_age (geometry z) img (l z img disks s own d there) d (q % 2)
  unfolding copy_age
  copy_age_lem q =
      ap (λ (x : Label). x.generation) (copy_is z img disks (absent_then z img disks s own d there) (A z img disks s own d there) (A_below z img disks s own d there) d (side_of q) there here_then)
      ∙ ap (λ (s : ℕ). (meant z (copy_of (geometry z) img d s)).generation) (sector_side q) ∙ age_same (copy_of (geometry z) img d (q % 2))

  pub prepared_is : protocol.prepared (labels z) (f z img disks s own d there) (g z img disks s own d there) d ≡ readied.prepared (geometry z) img (l z img disks s own d there) d
  unfolding readied.prepared
  prepared_is = ap (λ (x : ℕ). eqb x (g z img disks s own d there)) (copy_age_lem (g z img disks s own d there))

  pub wiped_is : (may_wipe z img disks s own d there) ≡ readied.wiped (geometry z) img (l z img disks s own d there) d
  unfolding readied.wiped
  wiped_is =
      ap₂ (λ (x y : ℕ). ltb 0 x || eqb y 0) (copy_age_lem (suc (g z img disks s own d there))) (copy_age_lem (g z img disks s own d there))
      ∙ ap (λ (q : ℕ). ltb 0 (copy_age (geometry z) img (l z img disks s own d there) d (q % 2)) || eqb (copy_age (geometry z) img (l z img disks s own d there) d ((g z img disks s own d there) % 2)) 0) (sym (add-one (g z img disks s own d there)))

  -- a copy of another shelf or slot
  strange_same : (x : Decoded) → Labels.strange_in z d x ≡ strange.strange_in (l z img disks s own d there) d x
  unfolding strange.own
  strange_same None = refl
  strange_same (Some a) = ap (λ (t : Bool). cond (t && eqb a.slot d) 0 a.generation) (ours_same a)

  read_is : (b : Bool) → ((f z img disks s own d there) (label d b)).bytes ≡ read_of (geometry z) img d (odd_sector b)
  unfolding sector_of copy_sector
  read_is b = ap (λ (x : Sector). x.bytes) (seen_present z (A z img disks s own d there) img (label d b) ((A_below z img disks s own d there) d there ∙ here_then)) ∙ cur_read z img disks (label d b) (label_inside z d b there)

  pub foreign_is : (b : Bool) → protocol.foreign (labels z) (f z img disks s own d there) d b ≡ readied.foreign (geometry z) img (l z img disks s own d there) d (odd_sector b)
  unfolding readied.foreign strange.strange_of strange_label
  foreign_is b =
      ap (λ (x : List ℕ). Labels.strange_in z d (decode_of x (label_at x).slot (odd_sector b))) (read_is b)
      ∙ strange_same (decode_of (read_of (geometry z) img d (odd_sector b)) (label_at (read_of (geometry z) img d (odd_sector b))).slot (odd_sector b))

  pub alien_is : (b : Bool) → protocol.alien (labels z) (f z img disks s own d there) b d ≡ readied.alien (geometry z) img (l z img disks s own d there) d b
  unfolding readied.alien
  alien_is b = ap (ltb 0) (foreign_is b)

  pub first_is : (odd z img disks s own d there) ≡ not (last_side (labels z) (f z img disks s own d there) d)
  unfolding readied.odd_first last_side
  first_is = ap₂ (λ (x y : ℕ). not (ltb x y)) (sym (foreign_is false)) (sym (foreign_is true))

  zeroed_is : (np z img disks s own d there) d ≡ true → in_mask (zeroed z img disks s own d there) d ≡ (may_wipe z img disks s own d there)
  unfolding readied.gets_zeros
  zeroed_is e =
      only_says z d (readied.gets_zeros (geometry z) img (l z img disks s own d there) d) (λ x. readied.gets_zeros (geometry z) img (l z img disks s own d there) d) refl d there
      ∙ ap (λ (b : Bool). b && readied.gets_zeros (geometry z) img (l z img disks s own d there) d) (eq-eqb d d refl)
      ∙ ap (λ (b : Bool). b && readied.wiped (geometry z) img (l z img disks s own d there) d) (ap not (sym prepared_is) ∙ e) ∙ sym wiped_is

  module _ (work : List ℕ) where
    prep_is : gives z (t z img disks s own d there) work img refl (zeroed z img disks s own d there) (l z img disks s own d there) (keep (np z img disks s own d there) (d ∷ [])) ≡ protocol.prep (labels z) (f z img disks s own d there) (g z img disks s own d there) (Q z img disks s own d there) (d ∷ [])
    unfolding prep_batch prep_places
    prep_is = by ((np z img disks s own d there) d) refl
      where
        by : (b : Bool) → (np z img disks s own d there) d ≡ b
            → gives z (t z img disks s own d there) work img refl (zeroed z img disks s own d there) (l z img disks s own d there) (cond b (d ∷ []) []) ≡ puts (protocol.prep_value (labels z) (f z img disks s own d there) (g z img disks s own d there) (Q z img disks s own d there)) (rows (λ e j. label e (side_of (g z img disks s own d there))) (0 ∷ []) (cond b (d ∷ []) [])) ++ flushes (cond b (d ∷ []) [])
        by true e = ap (λ (x : Bool). puts (λ k. cond x zeros (encode_label z d (Q z img disks s own d there))) (label d (side_of (g z img disks s own d there)) ∷ []) ++ flushes (d ∷ [])) (zeroed_is e)
        by false e = refl

    -- the label is told
    told_is : (x : bytes.Label) → given z 0 x ≡ told (labels z) (label_of z x)
    told_is x = fun_ext (λ k. ap (λ (b : Bool). cond b zeros (encode_label z (slot k) (label_of z x))) (none_in (slot k)))

    round_is : (N : Label) → label_of z (begun_label (l z img disks s own d there) d) ≡ N → (ds : List ℕ) → gives z (t z img disks s own d there) work img refl 0 (begun_label (l z img disks s own d there) d) ds ≡ protocol.round (labels z) N ds
    unfolding round_batch
    round_is N e ds =
        (λ i. puts (told_is (begun_label (l z img disks s own d there) d) i) (rows (protocol.there (labels z) (label_of z (begun_label (l z img disks s own d there) d))) (0 ∷ []) ds) ++ flushes ds)
        ∙ (λ i. puts (told (labels z) (e i)) (rows (protocol.there (labels z) (e i)) (0 ∷ []) ds) ++ flushes ds)

    told_slots : slots_from (slots z) (t z img disks s own d there).marks.present 0 ≡ (tells_to z img disks s own d there work)
    unfolding told_to Slots.slots
    told_slots = slots_are z (t z img disks s own d there).marks.present (λ e. not ((A z img disks s own d there) e)) (rest_say z img disks s own d there)

    -- THE LIST of an accepted begin is the protocol's
    pub begin_list_is : in_mask (l z img disks s own d there).out d ≡ true → to_do z (t z img disks s own d there) work img ≡ beginning (records z) (labels z) (f z img disks s own d there) (Q z img disks s own d there) d (tells_to z img disks s own d there work)
    unfolding flushed_at_begin expel_first expel_batch
    begin_list_is out =
        let E : Bool → List (Action Sector) = λ b. protocol.expel (labels z) (f z img disks s own d there) b (d ∷ []) in
        let S = last_side (labels z) (f z img disks s own d there) d in
        let R : List (Action Sector) = wipe (records z) d ++ (gives z (t z img disks s own d there) work img refl (zeroed z img disks s own d there) (l z img disks s own d there) (keep (np z img disks s own d there) (d ∷ [])) ++ gives z (t z img disks s own d there) work img refl 0 (begun_label (l z img disks s own d there) d) (tells_to z img disks s own d there work)) in
        begin_batches z (t z img disks s own d there) work img refl refl d (keep (protocol.alien (labels z) (f z img disks s own d there) (odd z img disks s own d there)) (d ∷ [])) (keep (protocol.alien (labels z) (f z img disks s own d there) (not (odd z img disks s own d there))) (d ∷ [])) (keep (np z img disks s own d there) (d ∷ [])) (tells_to z img disks s own d there work)
        (only_slots z d there true (λ e. true) refl)
        (only_slots z d there (readied.alien (geometry z) img (l z img disks s own d there) d (odd z img disks s own d there)) (protocol.alien (labels z) (f z img disks s own d there) (odd z img disks s own d there)) (alien_is (odd z img disks s own d there)))
        (only_slots z d there (readied.alien (geometry z) img (l z img disks s own d there) d (not (odd z img disks s own d there))) (protocol.alien (labels z) (f z img disks s own d there) (not (odd z img disks s own d there))) (alien_is (not (odd z img disks s own d there))))
        (only_slots z d there (not (readied.prepared (geometry z) img (l z img disks s own d there) d)) (np z img disks s own d there) (ap not prepared_is))
        told_slots
        ∙ ap (λ (a : List (Action Sector)). flushes (d ∷ []) ++ a)
        (sym (append_assoc (E (odd z img disks s own d there)) (E (not (odd z img disks s own d there))) R)
        ∙ ap₂ (λ (b c : Bool). (E b ++ E c) ++ R) first_is (ap not first_is ∙ not_not S)
        ∙ ap₂ (λ (p r : List (Action Sector)). (E (not S) ++ E S) ++ (wipe (records z) d ++ (p ++ r))) prep_is (round_is (rebuild.begun (Q z img disks s own d there) d) ((begun_label_lem z img disks s own d there) out) (tells_to z img disks s own d there work)))
