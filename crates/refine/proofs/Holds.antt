-- WHAT IS TRUE OF THE DISKS, in the words of the bytes: what it means that no label on any disk lies, also while a write is under way, and that a label has its shape; each follows from the protocol's
-- words for it (`Truthful` and `OwnTrue` of its Kept, `Shape`). Assumes nothing.
use Rattle.std.specs.Prelude.{◌≡◌, ◌⊎◌, Bool, true, false, not, Some, None}
use Rattle.std.proofs.Math.Path.{refl, sym, ap, ap₂, subst}
use Rattle.std.proofs.Common.{◌∙◌, ⊎_elim, inl, inr, true≢false, mod-eq_of_lt, arith}
use Rattle.std.proofs.Math.Bool.{cond, ◌&&◌}
use mathlib.Core.List.{List}
use Prim.Native.Nat.{ℕ, zero, suc, ◌*◌, ◌/◌, ◌≤◌, ◌<◌}
use Rattle.std.proofs.Math.Nat.{suc-mul}
use Rattle.std.proofs.Math.ListN.{replicate}
use borrow.Author.Tests.{ne_eqb, lt-ltb, le-ltb}
use Rattle.disk.specs.Limits.{sector_bytes}
use Rattle.disk.specs.Tests.{and_left, and_right}
use Rattle.disk.specs.Geometry.{stripes_of, shard_of}
use Rattle.disk.specs.Image.{sector}
use Rattle.disk.specs.Mask.{in_mask, mask_of, mask_below}
use Rattle.label.specs.Valid.{decode_of}
use Rattle.label.specs.Newest.{copy_of}
use Rattle.label.specs.declared.fields.Label as bytes
use Rattle.label.specs.Fields.{Decoded}
use Rattle.label.proofs.Fits.{fits_says}
use Rattle.label.proofs.Counts.{copy_says}
use Rattle.record.specs.Stamp.{stamp_at, zero_stamp, later_of, StampFits, later_or}
use Rattle.record.specs.Tail.{tail_at, may_be}
use Rattle.record.specs.Log.{restore_of}
use Rattle.record.specs.declared.stamp.Stamp.{Stamp}
use Rattle.record.specs.declared.tail.Tail.{Tail}
use Rattle.record.specs.Tail.{Found}
use Rattle.redo.specs.Decide.{looked, believed, log_at, tail_found, no_stamp, stamp_found, key_of, lead_of, involved, complete_with, whole_of, marked, settled, decided, redo_of}
use Rattle.redo.specs.Laws.{looked_below, believed_looked, believed_below, tail_tells, decided_some, key_is}
use Rattle.redo.specs.Laws as laws
use Rattle.redo.specs.Complete.{complete_stamps, stamps_complete, says_whole}
use Rattle.redo.specs.Leader.{leader_top, zero_top}
use Rattle.redo.specs.declared.Redo.{Redo}
use Rattle.redo.specs.declared.Redo.TheVariants as redo
use Rattle.protocol.specs.World.{label, log, strip, World, Always}
use Rattle.protocol.specs.Log.{Write, Complete}
use Rattle.protocol.specs.Label.{Label, copy, Aged}
use Rattle.protocol.specs.Label as Label
use Rattle.protocol.specs.Host.{Host, table}
use Rattle.protocol.specs.Shape.{ShapeBy}
use Rattle.protocol.specs.Program.{Own}
use Rattle.protocol.specs.Machine.{View, sure, open_write, kept_write}
use Rattle.protocol.specs.Kept as Kept
use Rattle.codecs.specs.Sector.{Sector}
use Rattle.codecs.proofs.Sector.{zeros}
use Rattle.codecs.specs.Shelf.{Shelf, slots, geometry, size}
use Rattle.codecs.specs.Labels.{sector_of, no_label, ours, label_of, meant, decode_label}
use Rattle.codecs.proofs.Labels.{labels}
use Rattle.codecs.specs.Records.{counts, stamp_number, stamp_of, stamp_in, stripe_in, changes_in}
use Rattle.codecs.proofs.Written.{stamp_number_lem, piece_of}
use Rattle.codecs.proofs.Records.{end_back, stripe_tail, changes_tail, records}
use Rattle.codecs.proofs.Order.{sector_stamp, number_stamp, zero_number, later_number, tail_may}
use Rattle.codecs.specs.Media.{stamps}
use Rattle.shards.specs.Quorum.{few_of}
use Rattle.refine.specs.Family.{Family, code_in, sectors_in}
use Rattle.refine.specs.Places.{label_inside, log_inside, strip_is_inside}
use Rattle.refine.specs.Places as places
use Rattle.refine.specs.Disks.{Disks, image_fits, cur_of}
use Rattle.refine.proofs.Disks.{cur_bytes, cur_read}
use Rattle.refine.specs.Redo.{look_is, believe_is}
use Rattle.refine.specs.Named.{Named, side}
use Rattle.refine.proofs.Named.{copy_ours}
use Rattle.refine.specs.Holds.{Wanted, Logged, Carried, InLog, StripTrue, Elsewhere, Truthful, NoLies, HeldTrue, Follows, Tells, top}

module _ (z : Shelf) (img : List ℕ) (disks : Disks z img) (a : bytes.Label) (stripe : ℕ) (changes : ℕ → Bool) (stamp : Stamp) (some : zero_stamp stamp ≡ false)
    (full : (e : ℕ) → believed (geometry z) a e stripe ≡ true → changes e ≡ true → complete_with (geometry z) img stamp e ≡ true)
    (last : (e j : ℕ) → looked (geometry z) a e ≡ true → j ≤ z.c → later_of (stamp_at (log_at (geometry z) img e j)) stamp ≡ false)
    (told : (e : ℕ) → looked (geometry z) a e ≡ true → stamp_at (log_at (geometry z) img e z.c) ≡ stamp → Tells z a stripe changes (tail_at (log_at (geometry z) img e z.c)))
    (d : ℕ) (own : believed (geometry z) a d stripe ≡ true) (changed : changes d ≡ true) where
  -- slot d has the stamp, so the leader's is none before it
  leads : later_of stamp (key_of (geometry z) img a (top z img disks a stripe changes stamp some full last told d own changed)) ≡ false
  unfolding lead_of
  leads =
      let seen = believed_looked (geometry z) a d stripe own in
      let below = looked_below (geometry z) a d seen in
      let here = complete_stamps (geometry z) img d (image_fits z img disks) below stamp (full d own changed) z.c (omega arith) in
      let key : key_of (geometry z) img a d ≡ stamp = key_is (geometry z) img a d (λ l n. (told d l here).0) ∙ ap (λ (b : Bool). cond b (stamp_at (log_at (geometry z) img d z.c)) no_stamp) seen ∙ here in
      ap (λ (x : Stamp). later_of x (key_of (geometry z) img a (top z img disks a stripe changes stamp some full last told d own changed))) (sym key) ∙ leader_top (key_of (geometry z) img a) (slots z) d below

  -- so the leader has just this stamp, its tail tells the write, and each believed slot of the write is complete
  carries : Carried z a stripe changes stamp img
  unfolding key_of redo_of settled involved tail_at zero_stamp
  carries = by (tail_found (geometry z) img a (top z img disks a stripe changes stamp some full last told d own changed)) refl
    where
      by : (f : Found) → tail_found (geometry z) img a (top z img disks a stripe changes stamp some full last told d own changed) ≡ f → Carried z a stripe changes stamp img
      by None e = absurd (true≢false (sym (zero_top stamp no_stamp refl (ap (λ (f : Found). later_of stamp (stamp_found f)) (sym e) ∙ leads)) ∙ some))
      by (Some x) e =
          record {
            full = full;
            last = last;
            mask = mask_of (involved (geometry z) a x) (slots z);
            forward =
                ap (λ (b : Bool). cond {A = Redo} b (decided (geometry z) img a (top z img disks a stripe changes stamp some full last told d own changed)) redo.Nothing) (image_fits z img disks) ∙ decided_some (geometry z) img a (top z img disks a stripe changes stamp some full last told d own changed) x e
                ∙ ap (λ (b : Bool). cond {A = Redo} b (redo.Forward x.stripe (mask_of (involved (geometry z) a x) (slots z))) (redo.Kill (mask_of (marked (geometry z) img a x.stamp) (slots z)))) whole
                ∙ ap (λ (t : ℕ). redo.Forward t (mask_of (involved (geometry z) a x) (slots z))) tells.1;
            those = λ i k.
                mask_below (involved (geometry z) a x) (slots z) i k ∙ ap₂ ◌&&◌ (ap (believed (geometry z) a i) tells.1) (tells.2 i k);
          }
        where
          t : laws.Tells (geometry z) img a (top z img disks a stripe changes stamp some full last told d own changed) x
          t = tail_tells (geometry z) img a (top z img disks a stripe changes stamp some full last told d own changed) x e

          read : stamp_at (log_at (geometry z) img (top z img disks a stripe changes stamp some full last told d own changed) z.c) ≡ x.stamp
          read = ap (λ (y : Tail). y.stamp) t.told

          is : x.stamp ≡ stamp
          is =
              ⊎_elim (λ (q : later_of x.stamp stamp ≡ true). absurd (true≢false (sym q ∙ ap (λ (y : Stamp). later_of y stamp) (sym read) ∙ last (top z img disks a stripe changes stamp some full last told d own changed) z.c t.seen (omega arith))))
              (⊎_elim (λ (q : later_of stamp x.stamp ≡ true). absurd (true≢false (sym q ∙ ap (λ (f : Found). later_of stamp (stamp_found f)) (sym e) ∙ leads))) (λ (q : x.stamp ≡ stamp). q))
              (later_or x.stamp stamp)

          tells : Tells z a stripe changes x
          tells = subst (Tells z a stripe changes) t.told (told (top z img disks a stripe changes stamp some full last told d own changed) t.seen (read ∙ is))

          whole : whole_of (geometry z) img a x.stamp x ≡ true
          whole =
              says_whole (geometry z) img a x.stamp x
              (λ i k.
              let b = and_left (believed (geometry z) a i x.stripe) _ k in
              let c = and_right (believed (geometry z) a i x.stripe) _ k in
              subst (λ (y : Stamp). complete_with (geometry z) img y i ≡ true) (sym is)
              (full i (subst (λ (y : ℕ). believed (geometry z) a i y ≡ true) tells.1 b) (sym (tells.2 i (looked_below (geometry z) a i (believed_looked (geometry z) a i x.stripe b))) ∙ c)))

-- ---- FROM THE PROTOCOL'S WORDS

-- a stamp of the protocol's is not that of zeros
number_some : (u : ℕ) → 0 < u → zero_stamp (stamp_of u) ≡ false
number_some u some = zero_number (stamp_of u) ∙ ne_eqb (stamp_number (stamp_of u)) 0 (λ e. omega (arith, e, stamp_number_lem u, some))

module _ (z : Shelf) (F : Family z) where
  elsewhere_of : (p : View Sector) (x : Write Sector) → Kept.Between (size z) F.sets (labels z) (records z) (code_in z F) stamps (sectors_in z F) p x → Elsewhere z p x.stripe x.changes
  unfolding table
  elsewhere_of (sure v) x h = tt
  elsewhere_of (open_write v v') x h = h.same
  elsewhere_of (kept_write v') x h = tt

  module _ (img : List ℕ) (disks : Disks z img) where
    -- a log sector, and its stamp
    log_there : (d j : ℕ) → d < slots z → j ≤ z.c → (cur_of z img (log d j)).bytes ≡ log_at (geometry z) img d j
    unfolding places.sector_of log_at
    log_there d j below l = cur_read z img disks (log d j) (log_inside z d j below l)

    log_fits : (d j : ℕ) → d < slots z → j ≤ z.c → StampFits (stamp_at (log_at (geometry z) img d j))
    log_fits d j below l = subst (λ (b : List ℕ). StampFits (stamp_at b)) (log_there d j below l) (sector_stamp (cur_of z img (log d j)))

    log_stamp : (d j u : ℕ) → d < slots z → j ≤ z.c → stamp_in (cur_of z img (log d j)) ≡ u → stamp_at (log_at (geometry z) img d j) ≡ stamp_of u
    unfolding stamp_in
    log_stamp d j u below l q =
        sym (number_stamp (stamp_at (log_at (geometry z) img d j)) (log_fits d j below l)) ∙ ap stamp_of (ap (λ (b : List ℕ). stamp_number (stamp_at b)) (sym (log_there d j below l)) ∙ q)

    log_complete : (d u : ℕ) → d < slots z → 0 < u → Complete (records z) (cur_of z img) d u → complete_with (geometry z) img (stamp_of u) d ≡ true
    unfolding Complete
    log_complete d u below some h =
        stamps_complete (geometry z) img d (image_fits z img disks) below (stamp_of u) (number_some u some)
        (λ j l. log_stamp d j u below l (h j l))

    module _ (d t : ℕ) (below : d < slots z) where
      wanted_of : (v : Host Sector) → t < stripes_of (geometry z) → Kept.Wanted (size z) F.sets (labels z) (records z) (code_in z F) stamps (sectors_in z F) v (cur_of z img) d t → Wanted z v img d t
      unfolding places.sector_of table
      wanted_of v l h j c = sym (cur_bytes z img disks (strip d t j) (strip_is_inside z d t j below l c)) ∙ ap (λ (x : Sector). x.bytes) (h j c)

      logged_of : (v : Host Sector) (u : ℕ) → 0 < u → Kept.Logged (size z) F.sets (labels z) (records z) (code_in z F) stamps (sectors_in z F) v u (cur_of z img) d t → Logged z v (stamp_of u) img d t
      unfolding places.sector_of table stripe_in piece_of
      logged_of v u some h =
          let tail = log_there d z.c below (omega arith) in
          record {
            complete = log_complete d u below some h.complete;
            stripe = ap (λ (b : List ℕ). (tail_at b).stripe) (sym tail) ∙ h.stripe;
            back = λ j c.
                ap₂ (λ (x y : List ℕ). restore_of x y j) (sym (log_there d j below (omega arith))) (sym tail) ∙ ap (restore_of (cur_of z img (log d j)).bytes (cur_of z img (log d z.c)).bytes) (sym (mod-eq_of_lt c))
                ∙ ap (λ (x : Sector). x.bytes) (h.back j c);
          }

      -- the write is whole and the last one, and slot d is one of its slots
      carried_of : (a : bytes.Label) (x : Write Sector) (u : ℕ) → believed (geometry z) a d x.stripe ≡ true → x.changes d ≡ true
          → Kept.Carried (size z) F.sets (labels z) (records z) (code_in z F) stamps (sectors_in z F) (label_of z a) x u (cur_of z img) → Carried z a x.stripe x.changes (stamp_of u) img
      unfolding Complete stamp_in stripe_in changes_in
      carried_of a x u own changed h =
          carries z img disks a x.stripe x.changes (stamp_of u) (number_some u h.some)
          (λ e b c. log_complete e u (looked_below (geometry z) a e (believed_looked (geometry z) a e x.stripe b)) h.some (h.full e (believe_is z a e x.stripe ∙ b) c))
          (λ e j i l.
          let k = looked_below (geometry z) a e i in
          let s = stamp_at (log_at (geometry z) img e j) in
          later_number s (stamp_of u) (log_fits e j k l) fits
          ∙ le-ltb (stamp_number (stamp_of u)) (stamp_number s) (omega (arith, stamp_number_lem u, ap (λ (b : List ℕ). stamp_number (stamp_at b)) (log_there e j k l), h.last e j (look_is z a e ∙ i) l)))
          (λ e i q.
          let tail = log_there e z.c (looked_below (geometry z) a e i) (omega arith) in
          let r = h.told e (look_is z a e ∙ i) (ap (λ (b : List ℕ). stamp_number (stamp_at b)) tail ∙ ap stamp_number q ∙ stamp_number_lem u) in
          let y = tail_at (cur_of z img (log e z.c)).bytes in
          subst (λ (b : List ℕ). Tells z a x.stripe x.changes (tail_at b)) tail (
            ap (λ (s : Sector). may_be (tail_at s.bytes) (stripes_of (geometry z)) (slots z) a.generation) r.0
                ∙ ap (λ (y : Tail). may_be y (stripes_of (geometry z)) (slots z) a.generation) (end_back z u x e r.2)
                ∙ tail_may z u x r.2 a.generation e h.some settled_epoch r.1,
            ap stripe_in r.0 ∙ stripe_tail z u x e r.2,
            λ m k. ap (λ (t : Bool). t && in_mask y.shards (shard_of (slots z) y.stripe m)) (sym (lt-ltb m (slots z) k)) ∙ ap (λ (s : Sector). changes_in z s m) r.0 ∙ changes_tail z u x e m r.2,
          )) d own changed
        where
          settled_epoch : u / counts ≤ a.generation
          settled_epoch = let e : u < suc a.generation * counts = h.early in omega (arith, e, suc-mul a.generation counts)

          fits : StampFits (stamp_of u)
          fits =
              subst StampFits (log_stamp d z.c u below (omega arith) (h.full d (believe_is z a d x.stripe ∙ own) changed z.c (omega arith)))
              (log_fits d z.c below (omega arith))

      in_log_of : (a : bytes.Label) (v : Host Sector) (x : Write Sector) (u : ℕ) → believed (geometry z) a d t ≡ true
          → Kept.InLog (size z) F.sets (labels z) (records z) (code_in z F) stamps (sectors_in z F) (label_of z a) v x u (cur_of z img) d t → InLog z a v x.stripe x.changes (stamp_of u) img d t
      in_log_of a v x u b y = (y.0, y.1, logged_of v u y.3.some y.2, carried_of a x u (subst (λ (s : ℕ). believed (geometry z) a d s ≡ true) y.0 b) y.1 y.3)

      true_of : (a : bytes.Label) (p : View Sector) (x : Write Sector) (u : ℕ) → believed (geometry z) a d t ≡ true
          → Kept.StripTrue (size z) F.sets (labels z) (records z) (code_in z F) stamps (sectors_in z F) (label_of z a) p x u (cur_of z img) d t → StripTrue z a p x.stripe x.changes (stamp_of u) img d t
      true_of a (sure v) x u b h = wanted_of v (believed_below (geometry z) a d t b) h
      true_of a (open_write v v') x u b h = ⊎_elim (λ y. inl (wanted_of v (believed_below (geometry z) a d t b) y)) (λ y. inr (in_log_of a v' x u b y)) h
      true_of a (kept_write v') x u b h = ⊎_elim (λ y. inl (wanted_of v' (believed_below (geometry z) a d t b) y)) (λ y. inr (in_log_of a v' x u b y)) h

    -- a label that believes what is true
    believes : (p : View Sector) (x : Write Sector) (u : ℕ) (l : Label) (a : bytes.Label) → l ≡ label_of z a
        → ((d t : ℕ) → Label.believed (size z) l d t ≡ true → Kept.StripTrue (size z) F.sets (labels z) (records z) (code_in z F) stamps (sectors_in z F) l p x u (cur_of z img) d t)
        → Truthful z p x.stripe x.changes (stamp_of u) img a
    believes p x u l a e h d t b =
        true_of d t (looked_below (geometry z) a d (believed_looked (geometry z) a d t b)) a p x u b
        (subst (λ (y : Label). (d t : ℕ) → Label.believed (size z) y d t ≡ true → Kept.StripTrue (size z) F.sets (labels z) (records z) (code_in z F) stamps (sectors_in z F) y p x u (cur_of z img) d t) e h
        d t (believe_is z a d t ∙ b))

    -- a copy of a label
    pub copy_meant : (d : ℕ) (b : Bool) → d < slots z → copy (labels z) (cur_of z img) d b ≡ meant z (copy_of (geometry z) img d (sector_of b))
    unfolding copy decode_label copy_of places.sector_of places.copy_sector
    copy_meant d b h = ap (λ (x : List ℕ). meant z (decode_of x d (sector_of b))) (cur_read z img disks (label d b) (label_inside z d b h))

    module _ (named : Named z (cur_of z img)) where
      copy_label : (d s : ℕ) (a : bytes.Label) → d < slots z → (l : s < 2) → copy_of (geometry z) img d s ≡ Some a → copy (labels z) (cur_of z img) d (side s l).0 ≡ label_of z a
      copy_label d s a h l e =
          let b = side s l in
          copy_meant d b.0 h ∙ ap (λ (x : ℕ). meant z (copy_of (geometry z) img d x)) b.1 ∙ ap (meant z) e
          ∙ ap (λ (t : Bool). cond t (label_of z a) (no_label z)) (copy_ours z img disks named d s a h l e)

      -- a copy that has a generation is a label
      pub copy_there : (d : ℕ) (b : Bool) (q : ℕ) → d < slots z → 0 < q → q ≤ (copy (labels z) (cur_of z img) d b).generation → (a : bytes.Label) × (copy_of (geometry z) img d (sector_of b) ≡ Some a) × (q ≤ a.generation)
      copy_there d b q h pos le = by (copy_of (geometry z) img d (sector_of b)) refl (subst (λ (x : Label). q ≤ x.generation) (copy_meant d b h) le)
        where
          by : (x : Decoded) → copy_of (geometry z) img d (sector_of b) ≡ x → q ≤ (meant z x).generation → (a : bytes.Label) × (copy_of (geometry z) img d (sector_of b) ≡ Some a) × (q ≤ a.generation)
          by None e i = absurd (omega arith)
          by (Some a) e i = (a, e, own (ours z a) i)
            where
              own : (t : Bool) → q ≤ (cond t (label_of z a) (no_label z)).generation → q ≤ a.generation
              own true i = i
              own false i = absurd (omega arith)

      pub no_lies : (p : View Sector) → Kept.Truthful (size z) F.sets (labels z) (records z) (code_in z F) stamps (sectors_in z F) p (cur_of z img) → NoLies z p img
      unfolding Aged
      no_lies p h =
          record {
            settled = h.q;
            out = h.out;
            few_out = F.few h.out h.few_out;
            everyone = λ d i o pos. let y = h.everyone d i o in let c = copy_there d y.0 h.q i pos y.1 in (sector_of y.0, c.0, c.1, c.2);
            few = λ d s a i l e g.
                subst (λ (x : ℕ → Bool). few_of z x ≡ true) (ap (λ (y : Label). y.out) (copy_label d s a i l e)) (F.few (copy (labels z) (cur_of z img) d (side s l).0).out (h.few d (side s l).0 i (omega (arith, born d s a e, age d s a i l e)) (omega (arith, g, age d s a i l e))));
            stripe = h.written.stripe;
            changes = h.written.changes;
            stamp = stamp_of h.stamp;
            elsewhere = elsewhere_of p h.written h.between;
            right = λ d s a i l e g. believes p h.written h.stamp (copy (labels z) (cur_of z img) d (side s l).0) a (copy_label d s a i l e) (h.right d (side s l).0 i (omega (arith, born d s a e, age d s a i l e)) (omega (arith, g, age d s a i l e)));
          }
        where
          age : (d s : ℕ) (a : bytes.Label) → d < slots z → (l : s < 2) → copy_of (geometry z) img d s ≡ Some a → (copy (labels z) (cur_of z img) d (side s l).0).generation ≡ a.generation
          age d s a i l e = ap (λ (y : Label). y.generation) (copy_label d s a i l e)

          born : (d s : ℕ) (a : bytes.Label) → copy_of (geometry z) img d s ≡ Some a → 0 < a.generation
          born d s a e = (fits_says a (copy_says (geometry z) img d s a e).fit).from_one

      -- what a valid copy counts as
      pub copy_counts : (d : ℕ) (b : Bool) (a : bytes.Label) → d < slots z → copy_of (geometry z) img d (sector_of b) ≡ Some a → ((copy (labels z) (cur_of z img) d b).generation ≡ a.generation) × (0 < a.generation)
      copy_counts d false a i e = (ap (λ (y : Label). y.generation) (copy_label d 0 a i (omega arith) e), (fits_says a (copy_says (geometry z) img d 0 a e).fit).from_one)
      copy_counts d true a i e = (ap (λ (y : Label). y.generation) (copy_label d 1 a i (omega arith) e), (fits_says a (copy_says (geometry z) img d 1 a e).fit).from_one)

      pub shape_of : (d : ℕ) → d < slots z → ShapeBy (labels z) false (cur_of z img) d → Follows z img d
      unfolding places.sector_of places.copy_sector
      shape_of d i h = record { calm = calm; follow = follow }
        where
          Either : ℕ → Type 0
          Either s = (sector z.sectors img d s ≡ replicate sector_bytes 0) ⊎ ((a : bytes.Label) × (copy_of (geometry z) img d s ≡ Some a))

          beside : (b : Bool) → 0 < (copy (labels z) (cur_of z img) d (not b)).generation → Either (sector_of b)
          beside b p =
              ⊎_elim (λ (q : cur_of z img (label d b) ≡ zeros). inl (sym (cur_bytes z img disks (label d b) (label_inside z d b i)) ∙ ap (λ (x : Sector). x.bytes) q))
              (λ (q : 0 < (copy (labels z) (cur_of z img) d b).generation). inr (let y = copy_there d b 1 i (omega arith) q in (y.0, y.1))) (h.calm b (inr p))

          calm : (s o : ℕ) (a : bytes.Label) → s < 2 → o < 2 → copy_of (geometry z) img d o ≡ Some a → Either s
          calm zero zero a l k e = inr (a, e)
          calm zero (suc zero) a l k e = let y = copy_counts d true a i e in beside false (omega (arith, y.0, y.1))
          calm (suc zero) zero a l k e = let y = copy_counts d false a i e in beside true (omega (arith, y.0, y.1))
          calm (suc zero) (suc zero) a l k e = inr (a, e)
          calm zero (suc (suc o)) a l k e = absurd (omega arith)
          calm (suc zero) (suc (suc o)) a l k e = absurd (omega arith)
          calm (suc (suc s)) o a l k e = absurd (omega arith)

          follow : (a b : bytes.Label) → copy_of (geometry z) img d 0 ≡ Some a → copy_of (geometry z) img d 1 ≡ Some b → (a.generation ≡ suc b.generation) ⊎ (b.generation ≡ suc a.generation)
          follow a b p q =
              let x = copy_counts d false a i p in
              let y = copy_counts d true b i q in
              ⊎_elim (λ (e : (copy (labels z) (cur_of z img) d false).generation ≡ suc (copy (labels z) (cur_of z img) d true).generation). inl (omega (arith, e, x.0, y.0)))
              (λ (e : (copy (labels z) (cur_of z img) d true).generation ≡ suc (copy (labels z) (cur_of z img) d false).generation). inr (omega (arith, e, x.0, y.0)))
              (h.follow false (omega (arith, x.0, x.1)) (omega (arith, y.0, y.1)))

  pub held_true : (p : View Sector) (w : World Sector) (o : Own) (a : bytes.Label) → o.now ≡ label_of z a → Kept.OwnTrue (size z) F.sets (labels z) (records z) (code_in z F) stamps (sectors_in z F) p w o → HeldTrue z p w a
  unfolding Always
  held_true p w o a e h =
      record {
        stripe = h.written.stripe;
        changes = h.written.changes;
        stamp = stamp_of h.stamp;
        elsewhere = elsewhere_of p h.written h.between;
        right = λ left here possible. believes left here p h.written h.stamp o.now a e (h.right (cur_of z left) possible);
      }
