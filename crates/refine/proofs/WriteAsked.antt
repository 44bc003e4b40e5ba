-- A WRITE THAT IS ACCEPTED, at rest, is the protocol's: its program accepts it too, what the state and the work area then describe is
-- the write that it makes, and it can be carried out. In the words of write's contract. Assumes nothing.
use Rattle.std.specs.Prelude.{◌≡◌, Bool, ◌&&◌, ◌||◌, eqb, length, Ok}
use Rattle.std.proofs.Math.Path.{refl, sym, ap, ap₂}
use Rattle.std.proofs.Common.{subst, ◌∙◌, mul_assoc, arith, length-drop, get_or-take}
use Rattle.std.proofs.Math.Bool.{true, false, cond, not}
use mathlib.Core.List.{List, [], ◌∷◌}
use Prim.Native.Nat.{ℕ, suc, ◌+◌, ◌*◌, ◌<◌, ◌^◌}
use Rattle.std.proofs.Math.Nat.{suc-mul, mul-le-mul_right}
use Rattle.std.proofs.Math.Dec.{leb, ltb}
use Rattle.std.proofs.Math.ListN.{get_or}
use borrow.Author.Tests.{lt-ltb, ltb-true}
use Rattle.disk.specs.Tests.{both, and_left}
use Rattle.disk.specs.Limits.{sector_bytes}
use Rattle.disk.specs.Geometry.{stripes_of, shard_of, shard_lt, slot_shard, block_inside}
use Rattle.disk.specs.Mask.{in_mask, mask_of, mask_lt, mask_below}
use Rattle.disk.specs.declared.geometry.Geometry.{Geometry}
use Rattle.label.specs.Fields.{geometry_of}
use Rattle.label.proofs.Fits.{fits_says}
use Rattle.label.proofs.Counts.{SameShelf, same_says}
use Rattle.protocol.specs.Label as Label
use Rattle.protocol.specs.Host.{write_of}
use Rattle.protocol.specs.Program.{BAD_BLOCK, BUSY, NOT_NOW, first, idle, write, accepted, mask, asked_write, answer}
use Rattle.protocol.specs.Even.{program_by}
use Rattle.protocol.specs.Pairs.{no_sets}
use Rattle.codecs.specs.Sector.{Bytes}
use Rattle.codecs.proofs.Sector.{bytes_take}
use Rattle.codecs.specs.Shelf.{Shelf, slots, geometry, size, some_slots}
use Rattle.codecs.specs.Labels.{fields_of, no_label, label_of, ours}
use Rattle.codecs.proofs.Labels.{labels}
use Rattle.codecs.specs.Records.{counts, strip_bytes}
use Rattle.codecs.proofs.Records.{records}
use Rattle.codecs.specs.Media.{stamps}
use Rattle.shards.specs.Quorum.{few_of}
use Rattle.shards.specs.Strips.{reaches, touched_in}
use Rattle.shards.proofs.Even.{any_code, any_sectors}
use Rattle.stripes.specs.Slice.{laid_out}
use Rattle.stripes.proofs.Slice.{laid_at}
use Rattle.strips.specs.Answers.{few_lost}
use Rattle.strips.specs.Whole.{PreparedBy}
use Rattle.views.specs.Seen.{gone}
use Rattle.views.proofs.Whole as Whole
use Rattle.views.proofs.Program.{write_prepared, changes_made}
use Rattle.blocks.specs.Slots.{there, changes_at, changed_shards, changed_at, changed_slots}
use Rattle.blocks.specs.Answers.{work_is, range_of}
use Rattle.blocks.specs.Read.{Shows, half_of, shows_block}
use Rattle.blocks.specs.Write.{most_count, write_answer, Written, write_done}
use Rattle.stages.specs.declared.state.State.{State}
use Rattle.refine.specs.Given.{shelf_geometry}
use Rattle.refine.specs.Disks.{Disks, cur_of, seen_of}
use Rattle.refine.specs.Keeps.{Works, kept_strip}
use Rattle.refine.proofs.Keeps.{kept_bytes}
use Rattle.refine.specs.Lists.{Says}
use Rattle.refine.specs.Steps.{Present, Fair}
use Rattle.refine.specs.Tied.{own_of, memory_with, program_of}
use Rattle.refine.specs.WriteList.{Writes}
use Rattle.refine.specs.Writes.{Asks}
use Rattle.refine.proofs.Writes.{write_begins, write_fair}
use Rattle.refine.specs.Sees.{sectors_of, sectors_strip, there_present, there_believed}
use Rattle.refine.proofs.Sees.{there_lying}
use Rattle.refine.specs.WriteAsked.{stamped_sound, l, n, stripe, in_stripe, asked_change, f, W, th, half, parts, begun}

module _ (z : Shelf) (img : List ℕ) (disks : Disks z img) (i : State) (own : ours z i.now ≡ true)
    (dark : (d : ℕ) → d < slots z → in_mask i.absent d ≡ true → Label.looked (size z) (label_of z i.now) d ≡ true → ⊥)
    (b : ℕ) (given work : List ℕ) (small : Bytes given) (ok : write_answer i.now i.kind i.absent i.count img b (length given) (length work) ≡ Ok tt) where
  shows : Shows (l z img disks i own dark b given work small ok) i.absent img work b given
  shows = (write_done (l z img disks i own dark b given work small ok) i.kind i.absent i.count img b given work ok).0

  few_writes : i.count < most_count
  few_writes = (write_done (l z img disks i own dark b given work small ok) i.kind i.absent i.count img b given work ok).1

  same : SameShelf (fields_of z 0 (no_label z)) (l z img disks i own dark b given work small ok)
  same = same_says (fields_of z 0 (no_label z)) (l z img disks i own dark b given work small ok) own

  geo : geometry_of (l z img disks i own dark b given work small ok) ≡ geometry z
  geo = shelf_geometry z (l z img disks i own dark b given work small ok) own

  k_is : (l z img disks i own dark b given work small ok).k ≡ z.k
  k_is = sym same.same_k

  n_is : (l z img disks i own dark b given work small ok).k + (l z img disks i own dark b given work small ok).m ≡ (n z img disks i own dark b given work small ok)
  n_is = ap (λ (g : Geometry). g.n) geo

  c_is : (l z img disks i own dark b given work small ok).c ≡ z.c
  c_is = sym same.same_c

  inside : ((stripe z img disks i own dark b given work small ok) < stripes_of (geometry_of (l z img disks i own dark b given work small ok))) × ((in_stripe z img disks i own dark b given work small ok) < (l z img disks i own dark b given work small ok).k)
  inside = block_inside (geometry_of (l z img disks i own dark b given work small ok)) (l z img disks i own dark b given work small ok).k b (omega (arith, (fits_says (l z img disks i own dark b given work small ok) shows.fits).split.least)) shows.inside

  in_T : (stripe z img disks i own dark b given work small ok) < stripes_of (geometry z)
  in_T = subst (λ (g : Geometry). (stripe z img disks i own dark b given work small ok) < stripes_of g) geo inside.0

  in_k : (in_stripe z img disks i own dark b given work small ok) < z.k
  in_k = subst (λ (k : ℕ). (in_stripe z img disks i own dark b given work small ok) < k) k_is inside.1

  few : few_of z (gone (th z img disks i own dark b given work small ok)) ≡ true
  few =
      sym (Whole.few_lost_lem z (stripe z img disks i own dark b given work small ok) (th z img disks i own dark b given work small ok))
      ∙ ap₂ (λ (m k : ℕ). few_lost m k (stripe z img disks i own dark b given work small ok) (th z img disks i own dark b given work small ok)) (sym n_is) (sym k_is) ∙ (shows_block (l z img disks i own dark b given work small ok) i.absent img work b given shows).few

  module _ (s : State) (after : List ℕ) (bytes_after : Bytes after) (h : Written i b given img work s after) where
    prepared : PreparedBy (geometry z) z.k img (th z img disks i own dark b given work small ok) (stripe z img disks i own dark b given work small ok) (in_stripe z img disks i own dark b given work small ok) (strip_bytes (sectors_of z.c given) z.c) h.all (half z img disks i own dark b given work small ok s after bytes_after h)
    prepared =
        subst (λ (x : List ℕ). PreparedBy (geometry z) z.k img (th z img disks i own dark b given work small ok) (stripe z img disks i own dark b given work small ok) (in_stripe z img disks i own dark b given work small ok) x h.all (half z img disks i own dark b given work small ok s after bytes_after h)) (sectors_strip z.c given (shows.sized ∙ ap (λ (c : ℕ). c * sector_bytes) c_is) small)
        (subst (λ (k : ℕ). PreparedBy (geometry z) k img (th z img disks i own dark b given work small ok) (stripe z img disks i own dark b given work small ok) (in_stripe z img disks i own dark b given work small ok) given h.all (half z img disks i own dark b given work small ok s after bytes_after h)) k_is
        (subst (λ (g : Geometry). PreparedBy g (l z img disks i own dark b given work small ok).k img (th z img disks i own dark b given work small ok) (stripe z img disks i own dark b given work small ok) (in_stripe z img disks i own dark b given work small ok) given h.all (half z img disks i own dark b given work small ok s after bytes_after h)) geo h.prepared.stripe))

    half_bytes : Bytes (half z img disks i own dark b given work small ok s after bytes_after h)
    unfolding half_of
    half_bytes = bytes_take (((l z img disks i own dark b given work small ok).k + (l z img disks i own dark b given work small ok).m) * ((l z img disks i own dark b given work small ok).c * sector_bytes)) after bytes_after

    -- THE STRIPE in the work area
    laid : (half z img disks i own dark b given work small ok s after bytes_after h) ≡ laid_out z (stripe z img disks i own dark b given work small ok) (W z img disks i own dark b given work small ok).new
    unfolding Bytes
    laid =
        write_prepared z (own_of z i (l z img disks i own dark b given work small ok)) (stripe z img disks i own dark b given work small ok) (th z img disks i own dark b given work small ok) img (f z img disks i own dark b given work small ok) (there_believed z (l z img disks i own dark b given work small ok) own i.absent (stripe z img disks i own dark b given work small ok) dark) (there_lying z (l z img disks i own dark b given work small ok) own i.absent (stripe z img disks i own dark b given work small ok) img disks in_T) few (in_stripe z img disks i own dark b given work small ok) in_k (sectors_of z.c given) h.all (half z img disks i own dark b given work small ok s after bytes_after h) half_bytes prepared

    changes_is : (d : ℕ) → (W z img disks i own dark b given work small ok).changes d ≡ cond h.all (ltb d (n z img disks i own dark b given work small ok)) (touched_in z (stripe z img disks i own dark b given work small ok) (in_stripe z img disks i own dark b given work small ok) d)
    unfolding Bytes
    changes_is =
        changes_made z (own_of z i (l z img disks i own dark b given work small ok)) (stripe z img disks i own dark b given work small ok) (th z img disks i own dark b given work small ok) img (f z img disks i own dark b given work small ok) (there_believed z (l z img disks i own dark b given work small ok) own i.absent (stripe z img disks i own dark b given work small ok) dark) (there_lying z (l z img disks i own dark b given work small ok) own i.absent (stripe z img disks i own dark b given work small ok) img disks in_T) few (in_stripe z img disks i own dark b given work small ok) in_k (sectors_of z.c given) h.all (half z img disks i own dark b given work small ok s after bytes_after h) half_bytes prepared

    shard_changes : (d : ℕ) → in_mask (parts z img disks i own dark b given work small ok s after bytes_after h) (shard_of (n z img disks i own dark b given work small ok) (stripe z img disks i own dark b given work small ok) d) ≡ changes_at z.k (in_stripe z img disks i own dark b given work small ok) h.all (shard_of (n z img disks i own dark b given work small ok) (stripe z img disks i own dark b given work small ok) d)
    unfolding changed_shards
    shard_changes d =
        ap₂ (λ (m k : ℕ). in_mask (mask_of (changes_at k (in_stripe z img disks i own dark b given work small ok) h.all) m) (shard_of (n z img disks i own dark b given work small ok) (stripe z img disks i own dark b given work small ok) d)) n_is k_is
        ∙ mask_below (changes_at z.k (in_stripe z img disks i own dark b given work small ok) h.all) (n z img disks i own dark b given work small ok) (shard_of (n z img disks i own dark b given work small ok) (stripe z img disks i own dark b given work small ok) d) (shard_lt (n z img disks i own dark b given work small ok) (stripe z img disks i own dark b given work small ok) (some_slots z) d)

    changes : (d : ℕ) → (ltb d (n z img disks i own dark b given work small ok) && in_mask (parts z img disks i own dark b given work small ok s after bytes_after h) (shard_of (n z img disks i own dark b given work small ok) (stripe z img disks i own dark b given work small ok) d)) ≡ (W z img disks i own dark b given work small ok).changes d
    unfolding changes_at touched_in reaches
    changes d = ap (λ (x : Bool). ltb d (n z img disks i own dark b given work small ok) && x) (shard_changes d) ∙ by h.all (ltb d (n z img disks i own dark b given work small ok)) ∙ sym (changes_is d)
      where
        by : (a x : Bool) → (x && (a || (eqb (shard_of (n z img disks i own dark b given work small ok) (stripe z img disks i own dark b given work small ok) d) (in_stripe z img disks i own dark b given work small ok) || leb z.k (shard_of (n z img disks i own dark b given work small ok) (stripe z img disks i own dark b given work small ok) d)))) ≡ cond a x (x && (eqb (shard_of (n z img disks i own dark b given work small ok) (stripe z img disks i own dark b given work small ok) d) (in_stripe z img disks i own dark b given work small ok) || leb z.k (shard_of (n z img disks i own dark b given work small ok) (stripe z img disks i own dark b given work small ok) d)))
        by true true = refl
        by true false = refl
        by false x = refl

    below : (d : ℕ) → (W z img disks i own dark b given work small ok).changes d ≡ true → d < (n z img disks i own dark b given work small ok)
    below d e = ltb-true d (n z img disks i own dark b given work small ok) (and_left (ltb d (n z img disks i own dark b given work small ok)) (in_mask (parts z img disks i own dark b given work small ok s after bytes_after h) (shard_of (n z img disks i own dark b given work small ok) (stripe z img disks i own dark b given work small ok) d)) (changes d ∙ e))

    strips : (d j : ℕ) → (W z img disks i own dark b given work small ok).changes d ≡ true → j < z.c → kept_strip z after (stripe z img disks i own dark b given work small ok) d j ≡ (W z img disks i own dark b given work small ok).new d j
    unfolding half_of
    strips d j e q =
        kept_bytes z after (stripe z img disks i own dark b given work small ok) d j ((W z img disks i own dark b given work small ok).new d j)
        (λ p pl.
        let r = shard_of (n z img disks i own dark b given work small ok) (stripe z img disks i own dark b given work small ok) d in
        let rl : r < (n z img disks i own dark b given work small ok) = shard_lt (n z img disks i own dark b given work small ok) (stripe z img disks i own dark b given work small ok) (some_slots z) d in
        let H : ℕ = ((l z img disks i own dark b given work small ok).k + (l z img disks i own dark b given work small ok).m) * ((l z img disks i own dark b given work small ok).c * sector_bytes) in
        let he : H ≡ (n z img disks i own dark b given work small ok) * (z.c * sector_bytes) = ap₂ (λ (a c : ℕ). a * (c * sector_bytes)) n_is c_is in
        let at : r * (z.c * sector_bytes) + (j * sector_bytes + p) < H = omega (arith, he, mul-le-mul_right (z.c * sector_bytes) rl, suc-mul r (z.c * sector_bytes), mul-le-mul_right sector_bytes q, suc-mul j sector_bytes) in
        ap (λ (x : ℕ). get_or after (x + (j * sector_bytes + p)) 0) (mul_assoc r z.c sector_bytes)
        ∙ sym (get_or-take H after (r * (z.c * sector_bytes) + (j * sector_bytes + p)) 0 at)
        ∙ ap (λ (x : List ℕ). get_or x (r * (z.c * sector_bytes) + (j * sector_bytes + p)) 0) laid
        ∙ laid_at z (stripe z img disks i own dark b given work small ok) (W z img disks i own dark b given work small ok).new j p r q pl rl
        ∙ ap (λ (x : ℕ). get_or ((W z img disks i own dark b given work small ok).new x j).bytes p 0) (slot_shard (n z img disks i own dark b given work small ok) (stripe z img disks i own dark b given work small ok) (some_slots z) d (below d e)))

    -- the work area keeps its length
    long : length after ≡ length work
    long =
        let m : ℕ = (l z img disks i own dark b given work small ok).k + (l z img disks i own dark b given work small ok).m in
        let H : ℕ = m * ((l z img disks i own dark b given work small ok).c * sector_bytes) in
        omega (arith, sym (length-drop H after) ∙ ap length h.prepared.rest ∙ length-drop H work, shows.whole, work_is (l z img disks i own dark b given work small ok) (range_of (l z img disks i own dark b given work small ok) shows.fits), mul_assoc m (l z img disks i own dark b given work small ok).c sector_bytes, mul_assoc 2 m (l z img disks i own dark b given work small ok).c)

    works : Works z after
    works =
        let m : ℕ = (l z img disks i own dark b given work small ok).k + (l z img disks i own dark b given work small ok).m in
        let same_size : m * (l z img disks i own dark b given work small ok).c * sector_bytes ≡ (n z img disks i own dark b given work small ok) * z.c * sector_bytes = ap₂ (λ (a c : ℕ). a * c * sector_bytes) n_is c_is in
        record { room = omega (arith, same_size, long, shows.whole, work_is (l z img disks i own dark b given work small ok) (range_of (l z img disks i own dark b given work small ok) shows.fits), mul_assoc 2 m (l z img disks i own dark b given work small ok).c); small = bytes_after }

    involves : Says z (begun z img disks i own dark b given work small ok s after bytes_after h).marks.redo (λ d. Label.believed (size z) (label_of z (l z img disks i own dark b given work small ok)) d (W z img disks i own dark b given work small ok).stripe && (W z img disks i own dark b given work small ok).changes d)
    unfolding changed_slots changed_at write_of
    involves d hd =
        ap₂ (λ (g : Geometry) (m : ℕ). in_mask (mask_of (λ e. in_mask (there g (l z img disks i own dark b given work small ok) i.absent (stripe z img disks i own dark b given work small ok)) e && in_mask (parts z img disks i own dark b given work small ok s after bytes_after h) (shard_of m (stripe z img disks i own dark b given work small ok) e)) m) d) refl n_is
        ∙ mask_below (λ e. in_mask (th z img disks i own dark b given work small ok) e && in_mask (parts z img disks i own dark b given work small ok s after bytes_after h) (shard_of (n z img disks i own dark b given work small ok) (stripe z img disks i own dark b given work small ok) e)) (n z img disks i own dark b given work small ok) d hd
        ∙ ap₂ (λ (x y : Bool). x && y) (there_believed z (l z img disks i own dark b given work small ok) own i.absent (stripe z img disks i own dark b given work small ok) dark d hd)
        (sym (ap (λ (x : Bool). x && in_mask (parts z img disks i own dark b given work small ok s after bytes_after h) (shard_of (n z img disks i own dark b given work small ok) (stripe z img disks i own dark b given work small ok) d)) (lt-ltb d (n z img disks i own dark b given work small ok) hd)) ∙ changes d)

    -- THE STATE AND THE WORK AREA describe the write that the protocol's program makes
    begun_writes : Writes z (begun z img disks i own dark b given work small ok s after bytes_after h) after (W z img disks i own dark b given work small ok)
    unfolding write_of
    begun_writes = record { kind = refl; stripe = refl; changes = changes; strips = strips; involves = involves; works = works }

    asks_begun : Asks z i (begun z img disks i own dark b given work small ok s after bytes_after h) after (W z img disks i own dark b given work small ok)
    asks_begun = record { now = refl; next = refl; absent = refl; epoch = refl; count = refl; cursor = refl; writes = begun_writes }

    here : Present z i.absent (begun z img disks i own dark b given work small ok s after bytes_after h).marks.redo
    unfolding changed_slots changed_at
    here d hd e =
        there_present z (l z img disks i own dark b given work small ok) own i.absent (stripe z img disks i own dark b given work small ok) d hd
        (and_left (in_mask (th z img disks i own dark b given work small ok) d) (in_mask (parts z img disks i own dark b given work small ok s after bytes_after h) (shard_of (n z img disks i own dark b given work small ok) (stripe z img disks i own dark b given work small ok) d))
        (sym (mask_below (λ e. in_mask (th z img disks i own dark b given work small ok) e && in_mask (parts z img disks i own dark b given work small ok s after bytes_after h) (shard_of (n z img disks i own dark b given work small ok) (stripe z img disks i own dark b given work small ok) e)) (n z img disks i own dark b given work small ok) d hd)
        ∙ sym (ap₂ (λ (g : Geometry) (m : ℕ). in_mask (mask_of (λ e. in_mask (there g (l z img disks i own dark b given work small ok) i.absent (stripe z img disks i own dark b given work small ok)) e && in_mask (parts z img disks i own dark b given work small ok s after bytes_after h) (shard_of m (stripe z img disks i own dark b given work small ok) e)) m) d) refl n_is) ∙ e))

    -- IT CAN BE CARRIED OUT
    begun_fair : Fair z (begun z img disks i own dark b given work small ok s after bytes_after h) after img
    unfolding changed_shards
    begun_fair =
        write_fair z (begun z img disks i own dark b given work small ok s after bytes_after h) after img (stamped_sound z i own shows.fits (stripe z img disks i own dark b given work small ok) in_T (begun z img disks i own dark b given work small ok s after bytes_after h).marks) own disks refl refl here in_T (subst (λ (m : ℕ). (parts z img disks i own dark b given work small ok s after bytes_after h) < 2 ^ m) n_is (mask_lt (changes_at (l z img disks i own dark b given work small ok).k (in_stripe z img disks i own dark b given work small ok) h.all) ((l z img disks i own dark b given work small ok).k + (l z img disks i own dark b given work small ok).m))) (omega (arith, few_writes)) works

    -- what is remembered of it is what the protocol's program remembers
    pub write_goes : Fair z s after img × Writes z s after (W z img disks i own dark b given work small ok)
        × (memory_with z (W z img disks i own dark b given work small ok) s after img ≡ asked_write (size z) (no_sets (n z img disks i own dark b given work small ok)) (labels z) (records z) (any_code z) stamps (any_sectors z) (own_of z i (l z img disks i own dark b given work small ok)) (f z img disks i own dark b given work small ok) (stripe z img disks i own dark b given work small ok) (asked_change z img disks i own dark b given work small ok))
        × (s.next ≡ (l z img disks i own dark b given work small ok)) × (length after ≡ length work)
    write_goes =
        subst (λ (x : State). Fair z x after img × Writes z x after (W z img disks i own dark b given work small ok)
        × (memory_with z (W z img disks i own dark b given work small ok) x after img ≡ asked_write (size z) (no_sets (n z img disks i own dark b given work small ok)) (labels z) (records z) (any_code z) stamps (any_sectors z) (own_of z i (l z img disks i own dark b given work small ok)) (f z img disks i own dark b given work small ok) (stripe z img disks i own dark b given work small ok) (asked_change z img disks i own dark b given work small ok))
        × (x.next ≡ (l z img disks i own dark b given work small ok)) × (length after ≡ length work)) (sym h.becomes) (begun_fair, begun_writes, write_begins z i (begun z img disks i own dark b given work small ok s after bytes_after h) after img (f z img disks i own dark b given work small ok) (stripe z img disks i own dark b given work small ok) (asked_change z img disks i own dark b given work small ok) asks_begun, refl, long)

  -- AND THE PROGRAM ACCEPTS IT
  pub write_accepted : program_of z (idle (own_of z i (l z img disks i own dark b given work small ok))) (cur_of z img) (write (stripe z img disks i own dark b given work small ok) (asked_change z img disks i own dark b given work small ok))
      ≡ (asked_write (size z) (no_sets (n z img disks i own dark b given work small ok)) (labels z) (records z) (any_code z) stamps (any_sectors z) (own_of z i (l z img disks i own dark b given work small ok)) (f z img disks i own dark b given work small ok) (stripe z img disks i own dark b given work small ok) (asked_change z img disks i own dark b given work small ok), accepted)
  unfolding program_by seen_of mask
  write_accepted =
      let left : ltb (suc (own_of z i (l z img disks i own dark b given work small ok)).count) (suc i.epoch * counts) ≡ true = lt-ltb (suc (own_of z i (l z img disks i own dark b given work small ok)).count) (suc i.epoch * counts) (omega (arith, few_writes, suc-mul i.epoch counts)) in
      ap₂ (λ (x : Bool) (y : Bool). answer (size z) (no_sets (n z img disks i own dark b given work small ok)) (labels z) (records z) (any_code z) stamps (any_sectors z) (idle (own_of z i (l z img disks i own dark b given work small ok)))
      (first (record { why = BAD_BLOCK; holds = not x } ∷ record { why = BUSY; holds = false } ∷ record { why = NOT_NOW; holds = not y } ∷ []))
      (asked_write (size z) (no_sets (n z img disks i own dark b given work small ok)) (labels z) (records z) (any_code z) stamps (any_sectors z) (own_of z i (l z img disks i own dark b given work small ok)) (f z img disks i own dark b given work small ok) (stripe z img disks i own dark b given work small ok) (asked_change z img disks i own dark b given work small ok)) accepted)
      (both (ltb (stripe z img disks i own dark b given work small ok) (stripes_of (geometry z))) (ltb (in_stripe z img disks i own dark b given work small ok) z.k) (lt-ltb (stripe z img disks i own dark b given work small ok) (stripes_of (geometry z)) in_T) (lt-ltb (in_stripe z img disks i own dark b given work small ok) z.k in_k)) left
