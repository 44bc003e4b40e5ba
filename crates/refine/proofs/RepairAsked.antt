-- A REPAIR THAT IS ACCEPTED, at rest, is the protocol's: its program accepts it too, what the state and the work area then describe is
-- the write of the accused shard, mended, that it makes, and it can be carried out. Whatever the strips hold: nothing is asked of them, nor
-- of the host's list. And one that is refused is refused by the program too, with the same code for BAD_BLOCK and NOT_NOW, but for what the code alone looks at. In the
-- words of repair's contract. Assumes nothing.
use Rattle.std.specs.Prelude.{◌≡◌, Bool, cond, ◌&&◌, ◌||◌, ℕ, suc, ◌+◌, ◌-◌, ◌*◌, ◌≤◌, ◌<◌, Ok, Err}
use Rattle.std.proofs.Math.Path.{refl, sym, ap, ap₂, subst}
use Rattle.std.proofs.Common.{◌∙◌, inl, arith, lit<, pow_pos, get_or-take}
use Rattle.std.proofs.Math.Logic.{⊎_elim}
use Rattle.std.proofs.Math.Bool.{true, false, not}
use Rattle.std.proofs.lemmas.Bool.{false≢true}
use mathlib.Core.List.{List, ◌++◌}
use Rattle.std.proofs.Math.Nat.{suc-mul, mul_assoc, mul-le-mul_right}
use Rattle.std.proofs.Math.Decide.{ℕ_discrete}
use Rattle.std.proofs.Math.Dec.{eqb, ltb}
use Rattle.std.specs.Int.Count.{ones}
use Rattle.std.proofs.Math.ListN.{length, get_or, drop, length-append, length-drop}
use borrow.Author.Tests.{lt-ltb, le-ltb, ltb-true, ltb-false, eq-eqb, ne_eqb, eqb-true, not-true}
use Rattle.code.specs.Stripes.{Repaired}
use Rattle.code.specs.Exact.{said_one}
use Rattle.code.specs.declared.Verdict.{Verdict}
use Rattle.code.specs.declared.Verdict.TheVariants as verdict
use Rattle.disk.specs.Limits.{sector_bytes}
use Rattle.disk.specs.Geometry.{stripes_of, slot_of, shard_of, slot_lt, slot_shard, shard_slot}
use Rattle.disk.specs.Image.{sector, fits_image, lt_or_ge}
use Rattle.disk.specs.Mask.{in_mask, with_slot, in_with, with_lt, in_past}
use Rattle.disk.specs.declared.geometry.Geometry.{Geometry}
use Rattle.disk.specs.declared.refusal.Refusal.{Refusal}
use Rattle.disk.specs.declared.refusal.Refusal.TheVariants as why
use Rattle.disk.specs.Refusal.{Outcome}
use Rattle.label.specs.Fields.{geometry_of, fits_of}
use Rattle.label.proofs.Counts.{SameShelf, same_says}
use Rattle.protocol.specs.Label as Label
use Rattle.protocol.proofs.Label as Label_laws
use Rattle.protocol.specs.Slots.{from, in_from, of_from, every_of, every_all}
use Rattle.protocol.specs.Host.{Finding, all_sound, accused, several, blames, strips_of, repair_of}
use Rattle.protocol.specs.Program.{BAD_BLOCK, NOT_NOW, idle, repair, accepted, beyond, mask, finding, asked_repair}
use Rattle.protocol.specs.Even.{program_by}
use Rattle.protocol.specs.Pairs.{no_sets}
use Rattle.codecs.specs.Sector.{Bytes}
use Rattle.codecs.proofs.Sector.{bytes_take}
use Rattle.codecs.specs.Shelf.{Shelf, slots, geometry, size, some_slots}
use Rattle.codecs.specs.Labels.{fields_of, no_label, label_of, ours}
use Rattle.codecs.proofs.Labels.{labels}
use Rattle.codecs.specs.Records.{counts}
use Rattle.codecs.proofs.Records.{records}
use Rattle.codecs.specs.Media.{stamps}
use Rattle.shards.proofs.Even.{any_code, any_sectors}
use Rattle.stripes.specs.Slice.{shard_bytes, sector_byte}
use Rattle.stripes.specs.Same.{verdict_of}
use Rattle.strips.specs.Whole.{stripe_seen}
use Rattle.views.specs.Seen.{Lying}
use Rattle.views.proofs.Whole.{mend_finds, mended_is}
use Rattle.views.proofs.Program.{repair_mended}
use Rattle.requests.specs.Begun.{begun, state_of}
use Rattle.requests.specs.Begun as requests
use Rattle.requests.specs.Ready.{is_idle, has_shelf, ready_of}
use Rattle.requests.specs.Begun.{Begun}
use Rattle.blocks.specs.Slots.{missing_at, missing, too_few, none_missing, all_slots, none_lost_lem}
use Rattle.blocks.specs.Answers.{answered, stripe_answer, sized_of, never, sized_half}
use Rattle.blocks.specs.Write.{most_count, stamp_left}
use Rattle.blocks.specs.Repair.{mend_answer, sized_answer, stripe_bytes, mending, mended, leaves, Repairs, MayMend, may_done, repair_half}
use Rattle.stages.specs.declared.state.State.{State}
use Rattle.stages.specs.declared.state.Kind.{Kind}
use Rattle.stages.specs.declared.state.Kind.TheVariants.{Nothing, Idle, Creating, Starting, Labelling, Writing, Beginning, Filling}
use Rattle.refine.specs.Given.{shelf_geometry}
use Rattle.refine.specs.Disks.{Disks, image_fits, cur_of, seen_of}
use Rattle.refine.specs.Rounds.{beyond_below}
use Rattle.refine.proofs.Strips.{lying_seen}
use Rattle.refine.specs.Keeps.{mask_is, Works, kept_strip}
use Rattle.refine.proofs.Keeps.{kept_bytes}
use Rattle.refine.specs.Lists.{Says}
use Rattle.refine.specs.Steps.{Present, Fair}
use Rattle.refine.specs.Tied.{own_of, memory_with, program_of}
use Rattle.refine.specs.WriteList.{Writes}
use Rattle.refine.specs.OnBegins.{ones_none}
use Rattle.refine.specs.Writes.{Asks}
use Rattle.refine.proofs.Writes.{log_begins, write_fair}
use Rattle.refine.specs.WriteAsked.{stamped_sound}
use Rattle.refine.specs.Mends.{Whole, may_whole, stripe_inside, none_missing_lem, all_believe, repaired_here}
use Rattle.refine.specs.RepairAsked.{seen, in_order, stamp_remains, replies, l, n, f, W, D, may, whole, in_T, found_so, r, half, starts, Refuses, accuses, la, num, blamed, P, held, sense, tests, asked}
use Rattle.requests.specs.Begun.{outcome_of}

-- a mask of one slot
one_slot : (m e : ℕ) → in_mask (with_slot 0 m) e ≡ eqb e m
one_slot m e = in_with 0 m e ∙ ap (λ (x : Bool). eqb e m || x) (in_past 0 0 e (lit< tt) (omega arith)) ∙ by (eqb e m)
  where
    by : (a : Bool) → (a || false) ≡ a
    by true = refl
    by false = refl

-- ---- what the program answers, by its tests: there is such a stripe, no slot is out, a stamp is left, and a shard is accused

module _ (z : Shelf) (img : List ℕ) (i : State) (t : ℕ) where
  program_replies : program_of z (idle (own_of z i i.now)) (cur_of z img) (repair t)
      ≡ (replies z img i t) (ltb t (stripes_of (geometry z))) (in_order z img i t) (stamp_remains z img i t) (blames (finding (size z) (no_sets (slots z)) (labels z) (records z) (any_code z) stamps (any_sectors z) (seen z img i t) t))
  unfolding program_by seen_of mask
  program_replies = refl

  -- the stamps
  left_is : (stamp_remains z img i t) ≡ stamp_left i.count
  unfolding stamp_left
  left_is = by (ltb i.count most_count) refl
    where
      by : (a : Bool) → ltb i.count most_count ≡ a → (stamp_remains z img i t) ≡ a
      by true e = lt-ltb (suc (own_of z i i.now).count) (suc i.epoch * counts) (omega (arith, ltb-true i.count most_count e, suc-mul i.epoch counts))
      by false e = le-ltb (suc (own_of z i i.now).count) (suc i.epoch * counts) (omega (arith, ltb-false i.count most_count e, suc-mul i.epoch counts))

-- with no slot missing, it sees every strip of the stripe
sees_all : (z : Shelf) (img : List ℕ) → Disks z img → (i : State) → ours z i.now ≡ true → (t : ℕ) → Whole i t
    → Lying z t img (all_slots (slots z)) (strips_of (size z) (no_sets (slots z)) (records z) (any_code z) (seen z img i t) t)
sees_all z img disks i own t whole =
    lying_seen z img disks (beyond (slots z) (in_mask i.absent)) t (all_slots (slots z)) (stripe_inside z i own t whole)
    (λ d h e. beyond_below (slots z) i.absent d h ∙ (none_missing_lem z i own t whole d h).1)

-- ---- a repair that is accepted

module _ (z : Shelf) (img : List ℕ) (disks : Disks z img) (i : State) (own : ours z i.now ≡ true) (t : ℕ) (work : List ℕ) (b : Begun) (after : List ℕ) (small : Bytes after)
    (w : Repairs i t img work b after) (done : outcome_of b ≡ Ok tt) where
  passed : MayMend i img t
  passed = may_done i img t (may z img disks i own t work b after small w done)

  n_is : (l z img disks i own t work b after small w done).k + (l z img disks i own t work b after small w done).m ≡ (n z img disks i own t work b after small w done)
  n_is = ap (λ (g : Geometry). g.n) (shelf_geometry z (l z img disks i own t work b after small w done) own)

  sized : sized_of (l z img disks i own t work b after small w done) (length work) ≡ true
  unfolding sized_answer
  sized = by (sized_of (l z img disks i own t work b after small w done) (length work)) refl
    where
      says : outcome_of b ≡ (outcome_of (begun (sized_answer (l z img disks i own t work b after small w done) (length work)) (mending i t (r z img disks i own t work b after small w done))))
      says =
          ap (λ (x : Begun). outcome_of x) w.answers
          ∙ ap₂ (λ (o : Outcome) (v : Verdict). (outcome_of (begun (requests.first o (mend_answer v (l z img disks i own t work b after small w done) (length work))) (mended i t v)))) (may z img disks i own t work b after small w done) (found_so z img disks i own t work b after small w done).1

      by : (a : Bool) → sized_of (l z img disks i own t work b after small w done) (length work) ≡ a → a ≡ true
      by true e = refl
      by false e = absurd (never why.BadBuffer (sym (says ∙ ap (λ (a : Bool). outcome_of (begun (cond a (Ok tt) (Err why.BadBuffer)) (mending i t (r z img disks i own t work b after small w done)))) e) ∙ done))

  half_bytes : Bytes (half z img disks i own t work b after small w done)
  half_bytes = bytes_take (stripe_bytes (l z img disks i own t work b after small w done)) after small

  here : Repaired z.k ((n z img disks i own t work b after small w done) - z.k) (shard_bytes z) (Ok (verdict.Accused (r z img disks i own t work b after small w done))) (stripe_seen (geometry z) img (all_slots (n z img disks i own t work b after small w done)) t) (half z img disks i own t work b after small w done)
  here =
      subst (λ (v : Verdict). Repaired z.k ((n z img disks i own t work b after small w done) - z.k) (shard_bytes z) (Ok v) (stripe_seen (geometry z) img (all_slots (n z img disks i own t work b after small w done)) t) (half z img disks i own t work b after small w done)) (found_so z img disks i own t work b after small w done).1
      (repaired_here z (l z img disks i own t work b after small w done) own img t (Ok w.found) (half z img disks i own t work b after small w done) (repair_half i t img work b after w done))

  lies : Lying z t img (all_slots (n z img disks i own t work b after small w done)) (strips_of (size z) (no_sets (n z img disks i own t work b after small w done)) (records z) (any_code z) (f z img disks i own t work b after small w done) t)
  lies = sees_all z img disks i own t (whole z img disks i own t work b after small w done)

  -- it finds what the code found
  finds : ((any_code z).scrub t (strips_of (size z) (no_sets (n z img disks i own t work b after small w done)) (records z) (any_code z) (f z img disks i own t work b after small w done) t) ≡ accused (r z img disks i own t work b after small w done)) × ((r z img disks i own t work b after small w done) < (n z img disks i own t work b after small w done))
  unfolding Bytes
  finds = let y = mended_is z t img (all_slots (n z img disks i own t work b after small w done)) (strips_of (size z) (no_sets (n z img disks i own t work b after small w done)) (records z) (any_code z) (f z img disks i own t work b after small w done) t) lies (none_lost_lem (n z img disks i own t work b after small w done) t (some_slots z)) (r z img disks i own t work b after small w done) (half z img disks i own t work b after small w done) half_bytes here in (y.0, y.1)

  pub repair_finds : (r : ℕ) × (finding (size z) (no_sets (n z img disks i own t work b after small w done)) (labels z) (records z) (any_code z) stamps (any_sectors z) (f z img disks i own t work b after small w done) t ≡ accused r) × (r < (n z img disks i own t work b after small w done))
  repair_finds = ((r z img disks i own t work b after small w done), finds.0, finds.1)

  -- it accuses the same slot, and mends its strip to the same
  mends : ((D z img disks i own t work b after small w done) ≡ slot_of (n z img disks i own t work b after small w done) t (r z img disks i own t work b after small w done)) × ((j : ℕ) → j < z.c → sector z.c (half z img disks i own t work b after small w done) (r z img disks i own t work b after small w done) j ≡ ((W z img disks i own t work b after small w done).new (D z img disks i own t work b after small w done) j).bytes)
  unfolding Bytes
  mends = repair_mended z t (all_slots (n z img disks i own t work b after small w done)) img (f z img disks i own t work b after small w done) lies (none_lost_lem (n z img disks i own t work b after small w done) t (some_slots z)) (r z img disks i own t work b after small w done) (half z img disks i own t work b after small w done) half_bytes here

  -- ---- the state and the work area

  same_one : (d : ℕ) → d < (n z img disks i own t work b after small w done) → eqb (shard_of (n z img disks i own t work b after small w done) t d) (r z img disks i own t work b after small w done) ≡ eqb d (slot_of (n z img disks i own t work b after small w done) t (r z img disks i own t work b after small w done))
  same_one d h = by (ℕ_discrete d (slot_of (n z img disks i own t work b after small w done) t (r z img disks i own t work b after small w done)))
    where
      by : Dec (d ≡ slot_of (n z img disks i own t work b after small w done) t (r z img disks i own t work b after small w done)) → eqb (shard_of (n z img disks i own t work b after small w done) t d) (r z img disks i own t work b after small w done) ≡ eqb d (slot_of (n z img disks i own t work b after small w done) t (r z img disks i own t work b after small w done))
      by (yes e) = eq-eqb (shard_of (n z img disks i own t work b after small w done) t d) (r z img disks i own t work b after small w done) (ap (shard_of (n z img disks i own t work b after small w done) t) e ∙ shard_slot (n z img disks i own t work b after small w done) t (some_slots z) (r z img disks i own t work b after small w done) finds.1) ∙ sym (eq-eqb d (slot_of (n z img disks i own t work b after small w done) t (r z img disks i own t work b after small w done)) e)
      by (no e) = ne_eqb (shard_of (n z img disks i own t work b after small w done) t d) (r z img disks i own t work b after small w done) (λ q. e (sym (slot_shard (n z img disks i own t work b after small w done) t (some_slots z) d h) ∙ ap (slot_of (n z img disks i own t work b after small w done) t) q)) ∙ sym (ne_eqb d (slot_of (n z img disks i own t work b after small w done) t (r z img disks i own t work b after small w done)) e)

  changes : (d : ℕ) → (ltb d (n z img disks i own t work b after small w done) && in_mask (with_slot 0 (r z img disks i own t work b after small w done)) (shard_of (n z img disks i own t work b after small w done) t d)) ≡ (W z img disks i own t work b after small w done).changes d
  unfolding repair_of
  changes d = ⊎_elim inside past (lt_or_ge d (n z img disks i own t work b after small w done)) ∙ ap (eqb d) (sym mends.0)
    where
      inside : d < (n z img disks i own t work b after small w done) → (ltb d (n z img disks i own t work b after small w done) && in_mask (with_slot 0 (r z img disks i own t work b after small w done)) (shard_of (n z img disks i own t work b after small w done) t d)) ≡ eqb d (slot_of (n z img disks i own t work b after small w done) t (r z img disks i own t work b after small w done))
      inside h = ap₂ (λ (x y : Bool). x && y) (lt-ltb d (n z img disks i own t work b after small w done) h) (one_slot (r z img disks i own t work b after small w done) (shard_of (n z img disks i own t work b after small w done) t d) ∙ same_one d h)

      past : (n z img disks i own t work b after small w done) ≤ d → (ltb d (n z img disks i own t work b after small w done) && in_mask (with_slot 0 (r z img disks i own t work b after small w done)) (shard_of (n z img disks i own t work b after small w done) t d)) ≡ eqb d (slot_of (n z img disks i own t work b after small w done) t (r z img disks i own t work b after small w done))
      past h =
          ap (λ (x : Bool). x && in_mask (with_slot 0 (r z img disks i own t work b after small w done)) (shard_of (n z img disks i own t work b after small w done) t d)) (le-ltb d (n z img disks i own t work b after small w done) h)
          ∙ sym (ne_eqb d (slot_of (n z img disks i own t work b after small w done) t (r z img disks i own t work b after small w done)) (λ q. absurd (omega (arith, q, slot_lt (n z img disks i own t work b after small w done) t (some_slots z) (r z img disks i own t work b after small w done)))))

  same : SameShelf (fields_of z 0 (no_label z)) (l z img disks i own t work b after small w done)
  same = same_says (fields_of z 0 (no_label z)) (l z img disks i own t work b after small w done) own

  half_is : stripe_bytes (l z img disks i own t work b after small w done) ≡ (n z img disks i own t work b after small w done) * (z.c * sector_bytes)
  unfolding stripe_bytes
  half_is = ap₂ (λ (a c : ℕ). a * (c * sector_bytes)) n_is (sym same.same_c)

  strips : (d j : ℕ) → (W z img disks i own t work b after small w done).changes d ≡ true → j < z.c → kept_strip z after t d j ≡ (W z img disks i own t work b after small w done).new d j
  unfolding repair_of
  strips d j e q =
      let is : d ≡ (D z img disks i own t work b after small w done) = eqb-true d (D z img disks i own t work b after small w done) e in
      let shard : shard_of (n z img disks i own t work b after small w done) t d ≡ (r z img disks i own t work b after small w done) = ap (shard_of (n z img disks i own t work b after small w done) t) (is ∙ mends.0) ∙ shard_slot (n z img disks i own t work b after small w done) t (some_slots z) (r z img disks i own t work b after small w done) finds.1 in
      kept_bytes z after t d j ((W z img disks i own t work b after small w done).new d j)
      (λ p pl.
      let at : (r z img disks i own t work b after small w done) * (z.c * sector_bytes) + (j * sector_bytes + p) < stripe_bytes (l z img disks i own t work b after small w done) =
      omega (arith, half_is, mul-le-mul_right (z.c * sector_bytes) finds.1, suc-mul (r z img disks i own t work b after small w done) (z.c * sector_bytes), mul-le-mul_right sector_bytes q, suc-mul j sector_bytes) in
      ap (λ (x : ℕ). get_or after (x * z.c * sector_bytes + (j * sector_bytes + p)) 0) shard
      ∙ ap (λ (x : ℕ). get_or after (x + (j * sector_bytes + p)) 0) (mul_assoc (r z img disks i own t work b after small w done) z.c sector_bytes)
      ∙ sym (get_or-take (stripe_bytes (l z img disks i own t work b after small w done)) after ((r z img disks i own t work b after small w done) * (z.c * sector_bytes) + (j * sector_bytes + p)) 0 at)
      ∙ sym (sector_byte z (half z img disks i own t work b after small w done) (r z img disks i own t work b after small w done) j p pl)
      ∙ ap (λ (x : List ℕ). get_or x p 0) (mends.1 j q)
      ∙ ap (λ (x : ℕ). get_or ((W z img disks i own t work b after small w done).new x j).bytes p 0) (sym is))

  -- the work area keeps its length
  long : length after ≡ length work
  unfolding stripe_bytes
  long =
      let left : after ≡ w.stripe ++ drop (stripe_bytes (l z img disks i own t work b after small w done)) work = w.left ∙ ap (λ (o : Outcome). leaves o (l z img disks i own t work b after small w done) w.stripe work) done in
      let room : stripe_bytes (l z img disks i own t work b after small w done) ≤ length work = sized_half (l z img disks i own t work b after small w done) (length work) passed.lies.fits sized in
      omega (arith, ap length left, length-append w.stripe (drop (stripe_bytes (l z img disks i own t work b after small w done)) work), (w.repaired (may z img disks i own t work b after small w done)).1, length-drop (stripe_bytes (l z img disks i own t work b after small w done)) work, room)

  works : Works z after
  unfolding stripe_bytes
  works =
      let room : stripe_bytes (l z img disks i own t work b after small w done) ≤ length work = sized_half (l z img disks i own t work b after small w done) (length work) passed.lies.fits sized in
      record { room = omega (arith, room, long, half_is, mul_assoc (n z img disks i own t work b after small w done) z.c sector_bytes); small = small }

  involves : Says z (starts z img disks i own t work b after small w done).marks.redo (λ d. Label.believed (size z) (label_of z (l z img disks i own t work b after small w done)) d (W z img disks i own t work b after small w done).stripe && (W z img disks i own t work b after small w done).changes d)
  unfolding repair_of
  involves d hd =
      ap (λ (m : ℕ). in_mask (with_slot 0 (slot_of m t (r z img disks i own t work b after small w done))) d) n_is ∙ one_slot (slot_of (n z img disks i own t work b after small w done) t (r z img disks i own t work b after small w done)) d
      ∙ sym (ap₂ (λ (x : Bool) (e : ℕ). x && eqb d e) (all_believe z i own t (whole z img disks i own t work b after small w done) d hd) mends.0)

  starts_writes : Writes z (starts z img disks i own t work b after small w done) after (W z img disks i own t work b after small w done)
  unfolding repair_of
  starts_writes = record { kind = refl; stripe = refl; changes = changes; strips = strips; involves = involves; works = works }

  asks : Asks z i (starts z img disks i own t work b after small w done) after (W z img disks i own t work b after small w done)
  asks = record { now = refl; next = refl; absent = refl; epoch = refl; count = refl; cursor = refl; writes = starts_writes }

  present : Present z i.absent (starts z img disks i own t work b after small w done).marks.redo
  present d hd e = (none_missing_lem z i own t (whole z img disks i own t work b after small w done) d hd).1

  -- IT CAN BE CARRIED OUT
  starts_fair : Fair z (starts z img disks i own t work b after small w done) after img
  starts_fair =
      write_fair z (starts z img disks i own t work b after small w done) after img (stamped_sound z i own passed.lies.fits t (in_T z img disks i own t work b after small w done) (starts z img disks i own t work b after small w done).marks) own disks refl refl present (in_T z img disks i own t work b after small w done) (with_lt (n z img disks i own t work b after small w done) 0 (r z img disks i own t work b after small w done) (pow_pos (n z img disks i own t work b after small w done)) finds.1) (omega (arith, passed.stamp)) works

  -- THE STATE AND THE WORK AREA describe the write that the protocol's program makes, and what is remembered of it is what the program remembers
  pub repair_goes : Fair z (state_of i b) after img × Writes z (state_of i b) after (W z img disks i own t work b after small w done)
      × (memory_with z (W z img disks i own t work b after small w done) (state_of i b) after img ≡ asked_repair (size z) (no_sets (n z img disks i own t work b after small w done)) (labels z) (records z) (any_code z) stamps (any_sectors z) (own_of z i (l z img disks i own t work b after small w done)) (f z img disks i own t work b after small w done) t)
      × ((state_of i b).next ≡ (l z img disks i own t work b after small w done)) × (length after ≡ length work)
  repair_goes =
      subst (λ (x : State). Fair z x after img × Writes z x after (W z img disks i own t work b after small w done)
      × (memory_with z (W z img disks i own t work b after small w done) x after img ≡ asked_repair (size z) (no_sets (n z img disks i own t work b after small w done)) (labels z) (records z) (any_code z) stamps (any_sectors z) (own_of z i (l z img disks i own t work b after small w done)) (f z img disks i own t work b after small w done) t)
      × (x.next ≡ (l z img disks i own t work b after small w done)) × (length after ≡ length work)) (sym (found_so z img disks i own t work b after small w done).2) (starts_fair, starts_writes, log_begins z i (starts z img disks i own t work b after small w done) after img (W z img disks i own t work b after small w done) asks, refl, long)

  -- AND THE PROGRAM ACCEPTS IT
  pub repair_accepted : program_of z (idle (own_of z i (l z img disks i own t work b after small w done))) (cur_of z img) (repair t)
      ≡ (asked_repair (size z) (no_sets (n z img disks i own t work b after small w done)) (labels z) (records z) (any_code z) stamps (any_sectors z) (own_of z i (l z img disks i own t work b after small w done)) (f z img disks i own t work b after small w done) t, accepted)
  unfolding stamp_left
  repair_accepted =
      let all_in : in_order z img i t ≡ true =
      every_all (λ d. not (in_mask (l z img disks i own t work b after small w done).out d)) (from 0 (n z img disks i own t work b after small w done)) (λ d h. ap not (none_missing_lem z i own t (whole z img disks i own t work b after small w done) d (omega (arith, of_from (n z img disks i own t work b after small w done) 0 d h))).0) in
      program_replies z img i t
      ∙ (λ j. replies z img i t (lt-ltb t (stripes_of (geometry z)) (in_T z img disks i own t work b after small w done) j) (all_in j) ((left_is z img i t ∙ lt-ltb i.count most_count passed.stamp) j) (blames (finds.0 j)))

blames_so : (y : Finding) → blames y ≡ accuses (verdict_of y)
blames_so all_sound = refl
blames_so (accused r) = refl
blames_so several = refl

module _ (z : Shelf) (img : List ℕ) (disks : Disks z img) (i : State) (own : ours z i.now ≡ true)
    (dark : (d : ℕ) → d < slots z → in_mask i.absent d ≡ true → Label.looked (size z) (label_of z i.now) d ≡ true → ⊥)
    (rest : is_idle i.kind ≡ true) (fits : fits_of i.now ≡ true) (t : ℕ) (work : List ℕ) (b : Begun) (after : List ℕ) (w : Repairs i t img work b after) where
  kept : (o : Outcome) (x : State) → (P z img disks i own dark rest fits t work b after w) o → (P z img disks i own dark rest fits t work b after w) (outcome_of (begun o x))
  kept (Ok tt) x p = p
  kept (Err y) x p = p

  -- ---- the program's side

  outside : ltb t (stripes_of (geometry z)) ≡ false → (P z img disks i own dark rest fits t work b after w) (Err why.BadBlock)
  outside e = program_replies z img i t ∙ (λ j. replies z img i t (e j) (in_order z img i t) (stamp_remains z img i t) (blamed z img disks i own dark rest fits t work b after w))

  none_in : ltb t (stripes_of (geometry z)) ≡ true → in_order z img i t ≡ false → (P z img disks i own dark rest fits t work b after w) (Err why.NotNow)
  none_in e a = program_replies z img i t ∙ (λ j. replies z img i t (e j) (a j) (stamp_remains z img i t) (blamed z img disks i own dark rest fits t work b after w))

  no_stamp : ltb t (stripes_of (geometry z)) ≡ true → stamp_remains z img i t ≡ false → (P z img disks i own dark rest fits t work b after w) (Err why.NotNow)
  no_stamp e c = by (in_order z img i t) refl
    where
      by : (a : Bool) → in_order z img i t ≡ a → (P z img disks i own dark rest fits t work b after w) (Err why.NotNow)
      by true a = program_replies z img i t ∙ (λ j. replies z img i t (e j) (a j) (c j) (blamed z img disks i own dark rest fits t work b after w))
      by false a = none_in e a

  nobody : ltb t (stripes_of (geometry z)) ≡ true → (blamed z img disks i own dark rest fits t work b after w) ≡ false → (P z img disks i own dark rest fits t work b after w) (Err why.NotNow)
  nobody e x = by (in_order z img i t) refl (stamp_remains z img i t) refl
    where
      by : (a : Bool) → in_order z img i t ≡ a → (c : Bool) → stamp_remains z img i t ≡ c → (P z img disks i own dark rest fits t work b after w) (Err why.NotNow)
      by true a true c = program_replies z img i t ∙ (λ j. replies z img i t (e j) (a j) (c j) (x j))
      by true a false c = no_stamp e c
      by false a u c = none_in e a

  -- ---- a slot that is missing is out, since no absent slot is looked at

  num_is : (la z img disks i own dark rest fits t work b after w).k + (la z img disks i own dark rest fits t work b after w).m ≡ (num z img disks i own dark rest fits t work b after w)
  num_is = ap (λ (g : Geometry). g.n) (shelf_geometry z (la z img disks i own dark rest fits t work b after w) own)

  not_out : in_order z img i t ≡ true → (d : ℕ) → d < (num z img disks i own dark rest fits t work b after w) → in_mask (la z img disks i own dark rest fits t work b after w).out d ≡ false
  not_out q d h = not-true (in_mask (la z img disks i own dark rest fits t work b after w).out d) (every_of (λ d. not (in_mask (la z img disks i own dark rest fits t work b after w).out d)) (from 0 (num z img disks i own dark rest fits t work b after w)) q d (in_from (num z img disks i own dark rest fits t work b after w) 0 d (omega arith) (omega arith)))

  not_absent : in_order z img i t ≡ true → (d : ℕ) → d < (num z img disks i own dark rest fits t work b after w) → in_mask i.absent d ≡ false
  not_absent q d h = go (in_mask i.absent d) refl
    where
      go : (a : Bool) → in_mask i.absent d ≡ a → a ≡ false
      go true p = absurd (dark d h p (Label_laws.look_is (size z) (label_of z (la z img disks i own dark rest fits t work b after w)) d h (inl (not_out q d h))))
      go false p = refl

  some_out : none_missing (la z img disks i own dark rest fits t work b after w) i.absent ≡ false → in_order z img i t ≡ false
  unfolding none_missing missing missing_at
  some_out e = by (in_order z img i t) refl
    where
      none : in_order z img i t ≡ true → missing (la z img disks i own dark rest fits t work b after w) i.absent ≡ 0
      none q =
          mask_is ((la z img disks i own dark rest fits t work b after w).k + (la z img disks i own dark rest fits t work b after w).m) 0 (pow_pos ((la z img disks i own dark rest fits t work b after w).k + (la z img disks i own dark rest fits t work b after w).m)) (missing_at (la z img disks i own dark rest fits t work b after w).out i.absent)
          (λ d h. let hd : d < (num z img disks i own dark rest fits t work b after w) = subst (λ (m : ℕ). d < m) num_is h in
          ap₂ (λ (x y : Bool). x || y) (not_out q d hd) (not_absent q d hd) ∙ sym (in_past 0 0 d (lit< tt) (omega arith)))

      by : (a : Bool) → in_order z img i t ≡ a → a ≡ false
      by true q = absurd (false≢true (sym e ∙ eq-eqb (missing (la z img disks i own dark rest fits t work b after w) i.absent) 0 (none q)))
      by false q = refl

  -- too many are missing: some are
  few_none : too_few (la z img disks i own dark rest fits t work b after w) i.absent ≡ true → none_missing (la z img disks i own dark rest fits t work b after w) i.absent ≡ false
  unfolding too_few none_missing
  few_none e = by (eqb (missing (la z img disks i own dark rest fits t work b after w) i.absent) 0) refl
    where
      by : (a : Bool) → eqb (missing (la z img disks i own dark rest fits t work b after w) i.absent) 0 ≡ a → a ≡ false
      by true q = absurd (omega (arith, ltb-true (la z img disks i own dark rest fits t work b after w).m (ones (missing (la z img disks i own dark rest fits t work b after w) i.absent)) e, ap ones (eqb-true (missing (la z img disks i own dark rest fits t work b after w) i.absent) 0 q), ones_none))
      by false q = refl

  ready_is : ready_of (la z img disks i own dark rest fits t work b after w) i.kind i.absent img ≡ cond (held z img disks i own dark rest fits t work b after w) (Ok tt) (Err why.NoLabel)
  unfolding ready_of has_shelf
  ready_is = by i.kind rest
    where
      image : fits_image (geometry_of (la z img disks i own dark rest fits t work b after w)) (length img) ≡ true
      image = subst (λ (g : Geometry). fits_image g (length img) ≡ true) (sym (shelf_geometry z (la z img disks i own dark rest fits t work b after w) own)) (image_fits z img disks)

      by : (k : Kind) → is_idle k ≡ true → ready_of (la z img disks i own dark rest fits t work b after w) k i.absent img ≡ cond (held z img disks i own dark rest fits t work b after w) (Ok tt) (Err why.NoLabel)
      by Idle e = ap₂ (λ (x y : Bool). cond x (cond y (cond (held z img disks i own dark rest fits t work b after w) (Ok tt) (Err why.NoLabel)) (Err why.BadImage)) (Err why.NotNow)) fits image
      by Nothing e = absurd (false≢true e)
      by Creating e = absurd (false≢true e)
      by Starting e = absurd (false≢true e)
      by Labelling e = absurd (false≢true e)
      by Writing e = absurd (false≢true e)
      by Beginning e = absurd (false≢true e)
      by Filling e = absurd (false≢true e)

  may_is : (asked z img disks i own dark rest fits t work b after w) ≡ (tests z img disks i own dark rest fits t work b after w) (held z img disks i own dark rest fits t work b after w) (too_few (la z img disks i own dark rest fits t work b after w) i.absent) (ltb t (stripes_of (geometry_of (la z img disks i own dark rest fits t work b after w)))) (sense z img disks i own dark rest fits t work b after w)
  unfolding stripe_answer answered
  may_is =
      ap₂ (λ (o : Outcome) (x : Bool). requests.first o (cond (too_few (la z img disks i own dark rest fits t work b after w) i.absent) (Err why.TooFew) (cond (ltb t (stripes_of (geometry_of (la z img disks i own dark rest fits t work b after w)))) (cond x (cond (sense z img disks i own dark rest fits t work b after w) (Ok tt) (Err why.NotNow)) (Err why.Busy)) (Err why.BadBlock)))) ready_is rest

  -- nobody is accused by the one where nobody is by the other
  by_verdict : (asked z img disks i own dark rest fits t work b after w) ≡ Ok tt → ltb t (stripes_of (geometry z)) ≡ true → (P z img disks i own dark rest fits t work b after w) (mend_answer w.found (la z img disks i own dark rest fits t work b after w) (length work))
  unfolding sized_answer
  by_verdict e inside = by w.found refl
    where
      found_is : (blamed z img disks i own dark rest fits t work b after w) ≡ accuses w.found
      found_is =
          let g = strips_of (size z) (no_sets (num z img disks i own dark rest fits t work b after w)) (records z) (any_code z) (seen z img i t) t in
          blames_so ((any_code z).scrub t g)
          ∙ ap accuses (sym (said_one (mend_finds z t img (all_slots (num z img disks i own dark rest fits t work b after w)) g (sees_all z img disks i own t (may_whole i img t e)) (none_lost_lem (num z img disks i own dark rest fits t work b after w) t (some_slots z)) (Ok w.found) w.stripe
          (repaired_here z (la z img disks i own dark rest fits t work b after w) own img t (Ok w.found) w.stripe (w.repaired e).0))))

      by : (v : Verdict) → w.found ≡ v → (P z img disks i own dark rest fits t work b after w) (mend_answer v (la z img disks i own dark rest fits t work b after w) (length work))
      by (verdict.Accused r) q = go (sized_of (la z img disks i own dark rest fits t work b after w) (length work))
        where
          go : (a : Bool) → (P z img disks i own dark rest fits t work b after w) (cond a (Ok tt) (Err why.BadBuffer))
          go true = tt
          go false = tt
      by verdict.Sound q = nobody inside (found_is ∙ ap accuses q)
      by verdict.Unsound q = nobody inside (found_is ∙ ap accuses q)

  -- ---- each way out

  refused_by : (h few inside s : Bool) → too_few (la z img disks i own dark rest fits t work b after w) i.absent ≡ few → ltb t (stripes_of (geometry z)) ≡ inside → (sense z img disks i own dark rest fits t work b after w) ≡ s → (asked z img disks i own dark rest fits t work b after w) ≡ (tests z img disks i own dark rest fits t work b after w) h few inside s
      → (P z img disks i own dark rest fits t work b after w) (requests.first ((tests z img disks i own dark rest fits t work b after w) h few inside s) (mend_answer w.found (la z img disks i own dark rest fits t work b after w) (length work)))
  refused_by false few inside s a c d e = tt
  refused_by true true true s a c d e = (NOT_NOW, none_in c (some_out (few_none a)))
  refused_by true true false s a c d e = (BAD_BLOCK, outside c)
  refused_by true false false s a c d e = outside c
  refused_by true false true true a c d e = by_verdict e c
  refused_by true false true false a c d e = by (stamp_left i.count) refl
    where
      by : (x : Bool) → stamp_left i.count ≡ x → (P z img disks i own dark rest fits t work b after w) (Err why.NotNow)
      by false q = no_stamp c (left_is z img i t ∙ q)
      by true q = none_in c (some_out (sym (ap (λ (x : Bool). x && none_missing (la z img disks i own dark rest fits t work b after w) i.absent) q) ∙ d))

  -- A REPAIR THAT THE CODE REFUSES AT REST
  pub repair_refused_says : (x : Refusal) → outcome_of b ≡ Err x → Refuses x z img i t
  repair_refused_says x e =
      let same : ltb t (stripes_of (geometry_of (la z img disks i own dark rest fits t work b after w))) ≡ ltb t (stripes_of (geometry z)) = ap (λ (g : Geometry). ltb t (stripes_of g)) (shelf_geometry z (la z img disks i own dark rest fits t work b after w) own) in
      let so = may_is ∙ ap (λ (a : Bool). (tests z img disks i own dark rest fits t work b after w) (held z img disks i own dark rest fits t work b after w) (too_few (la z img disks i own dark rest fits t work b after w) i.absent) a (sense z img disks i own dark rest fits t work b after w)) same in
      let o : Outcome = (tests z img disks i own dark rest fits t work b after w) (held z img disks i own dark rest fits t work b after w) (too_few (la z img disks i own dark rest fits t work b after w) i.absent) (ltb t (stripes_of (geometry z))) (sense z img disks i own dark rest fits t work b after w) in
      subst (P z img disks i own dark rest fits t work b after w) (sym (ap (λ (y : Begun). outcome_of y) w.answers ∙ ap (λ (y : Outcome). outcome_of (begun (requests.first y (mend_answer w.found (la z img disks i own dark rest fits t work b after w) (length work))) (mended i t w.found))) so) ∙ e)
      (kept (requests.first o (mend_answer w.found (la z img disks i own dark rest fits t work b after w) (length work))) (mended i t w.found) (refused_by (held z img disks i own dark rest fits t work b after w) (too_few (la z img disks i own dark rest fits t work b after w) i.absent) (ltb t (stripes_of (geometry z))) (sense z img disks i own dark rest fits t work b after w) refl refl refl so))
