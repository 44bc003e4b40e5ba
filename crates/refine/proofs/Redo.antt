-- What `Rattle.redo` decides about the log is what the protocol's start-up decides: the tails that are looked at, the greatest
-- stamp, whether its write is whole, and who is written or wiped; where no tail that is looked at is garbage. In a world that the
-- protocol keeps none is (`logs_fair`). Assumes nothing.
use Rattle.std.specs.Prelude.{◌≡◌, ◌&&◌, ◌||◌}
use Rattle.std.proofs.Math.Path.{refl, sym, ap, ap₂}
use Rattle.std.proofs.Common.{◌∙◌, subst, true≢false, mod-eq_of_lt, arith, lit<}
use Rattle.std.proofs.Math.Bool.{Bool, true, false, cond}
use mathlib.Core.List.{List, []}
use Prim.Native.Nat.{ℕ, zero, suc, ◌≤◌, ◌<◌, ◌/◌}
use Rattle.std.proofs.Math.Dec.{ltb, eqb}
use borrow.Author.Tests.{eq-eqb, eqb-true, lt-ltb}
use Rattle.disk.specs.Tests.{and_left, and_right, both}
use Rattle.disk.specs.Mask.{in_mask, mask_of, mask_below}
use Rattle.disk.specs.Geometry.{stripes_of, shard_of}
use Rattle.label.specs.declared.fields.Label as bytes
use Rattle.record.specs.Stamp.{stamp_at, zero_stamp, same_stamp, later_of, StampFits, same_true, same_refl}
use Rattle.record.specs.Tail.{tail_at, may_be}
use Rattle.record.specs.Log.{part, area_of, restore_of}
use Rattle.record.specs.declared.stamp.Stamp.{Stamp}
use Rattle.record.specs.declared.tail.Tail.{Tail}
use Rattle.rounds.specs.Survey.{next_of}
use Rattle.redo.specs.Decide.{looked, log_at, no_stamp, leader_of, lead_of, involved, complete_with, whole_of, marked, settled, decided, redo_of}
use Rattle.redo.specs.Laws.{looked_below, believed_looked, key_is}
use Rattle.redo.specs.Complete.{area_sector, complete_stamps, stamps_complete, involved_looked, whole_says, says_whole}
use Rattle.redo.specs.declared.Redo as declared
use Rattle.redo.specs.declared.Redo.TheVariants.{Nothing, Forward, Kill}
use Rattle.protocol.specs.World.{log}
use Rattle.protocol.specs.Slots.{leader, from, in_from, of_from, every, every_of, every_all}
use Rattle.protocol.specs.Log.{Logs}
use Rattle.protocol.specs.Log as Log
use Rattle.protocol.specs.Label.{belief}
use Rattle.protocol.specs.Label as Label
use Rattle.protocol.proofs.Write.{in_involved, of_involved}
use Rattle.protocol.specs.Write as Write
use Rattle.protocol.specs.Redo as Redo
use Rattle.protocol.specs.Startup.{L, M, stale, gone}
use Rattle.protocol.proofs.Startup.{without_gone}
use Rattle.codecs.specs.Sector.{Sector}
use Rattle.codecs.specs.Shelf.{Shelf, slots, geometry, size}
use Rattle.codecs.specs.Labels.{label_of}
use Rattle.codecs.proofs.Labels.{labels}
use Rattle.codecs.specs.Records.{counts, stamp_number, stamp_in, stripe_in, changes_in}
use Rattle.codecs.proofs.Written.{piece_of}
use Rattle.codecs.proofs.Records.{records, end_back}
use Rattle.codecs.proofs.Order.{sector_stamp, stamp_one, later_number, zero_number, tail_may}
use Rattle.refine.specs.Places.{sector_of, log_inside}
use Rattle.refine.specs.Disks.{Disks, image_fits, seen_of}
use Rattle.refine.proofs.Disks.{cur_read, seen_present}
use Rattle.refine.specs.Labels.{Led}
use Rattle.refine.proofs.Rounds.{next_is}
use Rattle.refine.specs.Redo.{B, look_is, believe_is, f0, Fair, keys, top, tail_read}

-- two tests that say the same
same_test : (a b : Bool) → (a ≡ true → b ≡ true) → (b ≡ true → a ≡ true) → a ≡ b
same_test true b f g = sym (f refl)
same_test false true f g = g refl
same_test false false f g = refl

-- ---- stamps and their numbers

same_number : (a b : Stamp) → StampFits a → StampFits b → eqb (stamp_number a) (stamp_number b) ≡ same_stamp a b
same_number a b f g =
    same_test (eqb (stamp_number a) (stamp_number b)) (same_stamp a b)
    (λ e. ap (same_stamp a) (sym (stamp_one a b f g (eqb-true (stamp_number a) (stamp_number b) e))) ∙ same_refl a)
    (λ e. eq-eqb (stamp_number a) (stamp_number b) (ap stamp_number (same_true a b e)))

-- the leaders are the same
lead_same : (key : ℕ → ℕ) (keys : ℕ → Stamp) → ((d : ℕ) → StampFits (keys d)) → ((d : ℕ) → key d ≡ stamp_number (keys d)) → (n : ℕ) → leader key n ≡ leader_of keys n
unfolding leader_of
lead_same key keys f e zero = refl
lead_same key keys f e (suc n) = by (leader key n) (leader_of keys n) (lead_same key keys f e n)
  where
    by : (x y : ℕ) → x ≡ y → cond (ltb (key x) (key n)) n x ≡ cond (later_of (keys n) (keys y)) n y
    by x y q = ap₂ (λ (b : Bool) (i : ℕ). cond b n i) (ap₂ ltb (ap key q ∙ e y) (e n) ∙ sym (later_number (keys n) (keys y) (f n) (f y))) q

module _ (z : Shelf) (l : bytes.Label) where
  module _ (img : List ℕ) (disks : Disks z img) (A : ℕ → Bool) (dark : (d : ℕ) → looked (geometry z) l d ≡ true → A d ≡ false) where
    -- ---- the sectors of a record that is looked at
    pub log_is : (d j : ℕ) → looked (geometry z) l d ≡ true → j ≤ z.c → ((f0 z l img disks A dark) (log d j)).bytes ≡ log_at (geometry z) img d j
    unfolding log_at sector_of
    log_is d j e h =
        ap (λ (x : Sector). x.bytes) (seen_present z A img (log d j) (dark d e))
        ∙ cur_read z img disks (log d j) (log_inside z d j (looked_below (geometry z) l d e) h)

    log_stamp : (d j : ℕ) → looked (geometry z) l d ≡ true → j ≤ z.c → stamp_in ((f0 z l img disks A dark) (log d j)) ≡ stamp_number (stamp_at (log_at (geometry z) img d j))
    unfolding stamp_in
    log_stamp d j e h = ap (λ (b : List ℕ). stamp_number (stamp_at b)) (log_is d j e h)

    log_fits : (d j : ℕ) → looked (geometry z) l d ≡ true → j ≤ z.c → StampFits (stamp_at (log_at (geometry z) img d j))
    log_fits d j e h = subst (λ (b : List ℕ). StampFits (stamp_at b)) (log_is d j e h) (sector_stamp ((f0 z l img disks A dark) (log d j)))

    -- what goes forward: each sector of a strip, from its record
    pub redone_is : (d j : ℕ) → looked (geometry z) l d ≡ true → j < z.c
        → (Redo.redone (records z) (B z l) (f0 z l img disks A dark) d j).bytes ≡ restore_of (part (area_of (geometry z) img d) j) (part (area_of (geometry z) img d) z.c) j
    unfolding piece_of
    redone_is d j e h =
        let below = looked_below (geometry z) l d e in
        let at : (i : ℕ) → i ≤ z.c → ((f0 z l img disks A dark) (log d i)).bytes ≡ part (area_of (geometry z) img d) i = λ i k. log_is d i e k ∙ sym (area_sector (geometry z) img d (image_fits z img disks) below i k) in
        ap (restore_of ((f0 z l img disks A dark) (log d j)).bytes ((f0 z l img disks A dark) (log d z.c)).bytes) (mod-eq_of_lt h)
        ∙ ap₂ (λ (x y : List ℕ). restore_of x y j) (at j (omega arith)) (at z.c (omega arith))

    -- so it is where each log sector is zeros or a true sector of a write, of an epoch that is settled
    pub logs_fair : (history : ℕ → Log.Write Sector) (u : ℕ) → Logs (records z) (B z l) history u (f0 z l img disks A dark) → u / counts ≤ l.generation → (Fair z l img disks A dark)
    unfolding belief
    logs_fair history u logs old d e some = by (stamp_in ((f0 z l img disks A dark) (log d z.c))) refl
      where
        look : Label.looked (size z) (label_of z l) d ≡ true
        look = (look_is z l) d ∙ e

        by : (σ : ℕ) → stamp_in ((f0 z l img disks A dark) (log d z.c)) ≡ σ → may_be (tail_at (log_at (geometry z) img d z.c)) (stripes_of (geometry z)) (slots z) l.generation ≡ true
        by zero q = absurd (true≢false (sym (zero_number (stamp_at (log_at (geometry z) img d z.c)) ∙ eq-eqb _ 0 (sym (log_stamp d z.c e (omega arith)) ∙ q)) ∙ some))
        by (suc τ) q =
            let r = logs.real d z.c τ look (omega arith) q in
            let o = logs.old d z.c look (omega arith) in
            ap (λ (x : Tail). may_be x (stripes_of (geometry z)) (slots z) l.generation)
            (ap tail_at (sym (log_is d z.c e (omega arith)) ∙ ap (λ (x : Sector). x.bytes) r.0) ∙ end_back z (suc τ) (history (suc τ)) d r.2)
            ∙ tail_may z (suc τ) (history (suc τ)) r.2 l.generation d (omega arith) (omega (arith, old, o, q)) r.1

    module _ (fair : (Fair z l img disks A dark)) where
      keys_is : (d : ℕ) → (keys z l img disks A dark fair) d ≡ cond (looked (geometry z) l d) (stamp_at (log_at (geometry z) img d z.c)) no_stamp
      keys_is d = key_is (geometry z) img l d (fair d)

      keys_fit : (d : ℕ) → StampFits ((keys z l img disks A dark fair) d)
      keys_fit d = subst StampFits (sym (keys_is d)) (by (looked (geometry z) l d) refl)
        where
          by : (b : Bool) → looked (geometry z) l d ≡ b → StampFits (cond b (stamp_at (log_at (geometry z) img d z.c)) no_stamp)
          by true e = log_fits d z.c e (omega arith)
          by false e = record { epochs = lit< tt; counts = lit< tt }

      pub key_same : (d : ℕ) → Redo.key (records z) (B z l) (f0 z l img disks A dark) d ≡ stamp_number ((keys z l img disks A dark fair) d)
      unfolding belief
      key_same d =
          ap (λ (b : Bool). cond b (stamp_in ((f0 z l img disks A dark) (log d z.c))) 0) ((look_is z l) d) ∙ by (looked (geometry z) l d) refl ∙ ap stamp_number (sym (keys_is d))
        where
          by : (b : Bool) → looked (geometry z) l d ≡ b → cond b (stamp_in ((f0 z l img disks A dark) (log d z.c))) 0 ≡ stamp_number (cond b (stamp_at (log_at (geometry z) img d z.c)) no_stamp)
          by true e = log_stamp d z.c e (omega arith)
          by false e = refl

      pub lead_is : Redo.lead (records z) (B z l) (f0 z l img disks A dark) ≡ lead_of (geometry z) img l
      unfolding lead_of belief
      lead_is = lead_same (Redo.key (records z) (B z l) (f0 z l img disks A dark)) (keys z l img disks A dark fair) keys_fit key_same (slots z)

      key_lead : Redo.key (records z) (B z l) (f0 z l img disks A dark) (Redo.lead (records z) (B z l) (f0 z l img disks A dark)) ≡ stamp_number ((keys z l img disks A dark fair) (top z l img disks A dark fair))
      key_lead = key_same (Redo.lead (records z) (B z l) (f0 z l img disks A dark)) ∙ ap (λ (i : ℕ). stamp_number ((keys z l img disks A dark fair) i)) lead_is

      -- ---- with some stamp there

      module _ (some : zero_stamp ((keys z l img disks A dark fair) (top z l img disks A dark fair)) ≡ false) where
        -- the leader is looked at
        lead_looked : looked (geometry z) l (top z l img disks A dark fair) ≡ true
        unfolding zero_stamp
        lead_looked = by (looked (geometry z) l (top z l img disks A dark fair)) (sym (ap zero_stamp (keys_is (top z l img disks A dark fair))) ∙ some)
          where
            by : (b : Bool) → zero_stamp (cond b (stamp_at (log_at (geometry z) img (top z l img disks A dark fair) z.c)) no_stamp) ≡ false → b ≡ true
            by true e = refl
            by false e = absurd (true≢false e)

        tail_is : tail_at (Redo.tail (records z) (B z l) (f0 z l img disks A dark)).bytes ≡ (tail_read z l img disks A dark fair)
        tail_is = ap (λ (d : ℕ). tail_at ((f0 z l img disks A dark) (log d z.c)).bytes) lead_is ∙ ap tail_at (log_is (top z l img disks A dark fair) z.c lead_looked (omega arith))

        pub stripe_is : stripe_in (Redo.tail (records z) (B z l) (f0 z l img disks A dark)) ≡ (tail_read z l img disks A dark fair).stripe
        unfolding stripe_in
        stripe_is = ap (λ (x : Tail). x.stripe) tail_is

        -- who is written
        pub involved_is : (d : ℕ) → (Label.believed (size z) (label_of z l) d (stripe_in (Redo.tail (records z) (B z l) (f0 z l img disks A dark))) && changes_in z (Redo.tail (records z) (B z l) (f0 z l img disks A dark)) d) ≡ involved (geometry z) l (tail_read z l img disks A dark fair) d
        unfolding stripe_in changes_in involved
        involved_is d =
            (λ i. Label.believed (size z) (label_of z l) d (tail_is i).stripe && (ltb d (slots z) && in_mask (tail_is i).shards (shard_of (slots z) (tail_is i).stripe d)))
            ∙ by (Label.believed (size z) (label_of z l) d (tail_read z l img disks A dark fair).stripe) refl
            ∙ ap (λ (b : Bool). b && in_mask (tail_read z l img disks A dark fair).shards (shard_of (slots z) (tail_read z l img disks A dark fair).stripe d)) ((believe_is z l) d (tail_read z l img disks A dark fair).stripe)
          where
            by : (b : Bool) → Label.believed (size z) (label_of z l) d (tail_read z l img disks A dark fair).stripe ≡ b
                → (b && (ltb d (slots z) && in_mask (tail_read z l img disks A dark fair).shards (shard_of (slots z) (tail_read z l img disks A dark fair).stripe d))) ≡ (b && in_mask (tail_read z l img disks A dark fair).shards (shard_of (slots z) (tail_read z l img disks A dark fair).stripe d))
            by true e =
                ap (λ (b : Bool). b && in_mask (tail_read z l img disks A dark fair).shards (shard_of (slots z) (tail_read z l img disks A dark fair).stripe d))
                (lt-ltb d (slots z) (looked_below (geometry z) l d (believed_looked (geometry z) l d (tail_read z l img disks A dark fair).stripe (sym ((believe_is z l) d (tail_read z l img disks A dark fair).stripe) ∙ e))))
            by false e = refl

        -- who is wiped
        pub marked_is : (d : ℕ) → (Label.looked (size z) (label_of z l) d && eqb (stamp_in ((f0 z l img disks A dark) (log d z.c))) (Redo.key (records z) (B z l) (f0 z l img disks A dark) (Redo.lead (records z) (B z l) (f0 z l img disks A dark)))) ≡ marked (geometry z) img l ((keys z l img disks A dark fair) (top z l img disks A dark fair)) d
        unfolding marked
        marked_is d =
            ap₂ (λ (b : Bool) (x : ℕ). b && eqb (stamp_in ((f0 z l img disks A dark) (log d z.c))) x) ((look_is z l) d) key_lead
            ∙ by (looked (geometry z) l d) refl
          where
            by : (b : Bool) → looked (geometry z) l d ≡ b
                → (b && eqb (stamp_in ((f0 z l img disks A dark) (log d z.c))) (stamp_number ((keys z l img disks A dark fair) (top z l img disks A dark fair)))) ≡ (b && same_stamp (stamp_at (log_at (geometry z) img d z.c)) ((keys z l img disks A dark fair) (top z l img disks A dark fair)))
            by true e =
                ap (λ (x : ℕ). eqb x (stamp_number ((keys z l img disks A dark fair) (top z l img disks A dark fair)))) (log_stamp d z.c e (omega arith))
                ∙ same_number (stamp_at (log_at (geometry z) img d z.c)) ((keys z l img disks A dark fair) (top z l img disks A dark fair)) (log_fits d z.c e (omega arith)) (keys_fit (top z l img disks A dark fair))
            by false e = refl

        -- who is complete
        complete_is : (d : ℕ) → looked (geometry z) l d ≡ true → Redo.complete_b (records z) (B z l) (f0 z l img disks A dark) (stamp_number ((keys z l img disks A dark fair) (top z l img disks A dark fair))) d ≡ complete_with (geometry z) img ((keys z l img disks A dark fair) (top z l img disks A dark fair)) d
        unfolding Redo.complete_b Redo.compared_sectors
        complete_is d e =
            let below = looked_below (geometry z) l d e in
            let fits = image_fits z img disks in
            let test : ℕ → Bool = λ j. eqb (stamp_in ((f0 z l img disks A dark) (log d j))) (stamp_number ((keys z l img disks A dark fair) (top z l img disks A dark fair))) in
            same_test (every test (from 0 (suc z.c))) (complete_with (geometry z) img ((keys z l img disks A dark fair) (top z l img disks A dark fair)) d)
            (λ q. stamps_complete (geometry z) img d fits below ((keys z l img disks A dark fair) (top z l img disks A dark fair)) some
            (λ j h. stamp_one (stamp_at (log_at (geometry z) img d j)) ((keys z l img disks A dark fair) (top z l img disks A dark fair)) (log_fits d j e h) (keys_fit (top z l img disks A dark fair))
            (sym (log_stamp d j e h) ∙ eqb-true (stamp_in ((f0 z l img disks A dark) (log d j))) (stamp_number ((keys z l img disks A dark fair) (top z l img disks A dark fair))) (every_of test (from 0 (suc z.c)) q j (in_from (suc z.c) 0 j (omega arith) (omega arith))))))
            (λ q. every_all test (from 0 (suc z.c))
            (λ j m. let h : j ≤ z.c = omega (arith, of_from (suc z.c) 0 j m) in
            eq-eqb (stamp_in ((f0 z l img disks A dark) (log d j))) (stamp_number ((keys z l img disks A dark fair) (top z l img disks A dark fair))) (log_stamp d j e h ∙ ap stamp_number (complete_stamps (geometry z) img d fits below ((keys z l img disks A dark fair) (top z l img disks A dark fair)) q j h))))

        -- whether the write is whole
        pub whole_is : Redo.whole (records z) (B z l) (f0 z l img disks A dark) ≡ whole_of (geometry z) img l ((keys z l img disks A dark fair) (top z l img disks A dark fair)) (tail_read z l img disks A dark fair)
        unfolding Redo.whole belief
        whole_is =
            let t = stripe_in (Redo.tail (records z) (B z l) (f0 z l img disks A dark)) in
            let ch = changes_in z (Redo.tail (records z) (B z l) (f0 z l img disks A dark)) in
            let K = records z in
            let test = Redo.complete_b K (B z l) (f0 z l img disks A dark) (Redo.key K (B z l) (f0 z l img disks A dark) (Redo.lead K (B z l) (f0 z l img disks A dark))) in
            let same : (d : ℕ) → looked (geometry z) l d ≡ true → test d ≡ complete_with (geometry z) img ((keys z l img disks A dark fair) (top z l img disks A dark fair)) d = λ d e. ap (λ (x : ℕ). Redo.complete_b K (B z l) (f0 z l img disks A dark) x d) key_lead ∙ complete_is d e in
            same_test (every test (Write.involved (B z l) t ch)) (whole_of (geometry z) img l ((keys z l img disks A dark fair) (top z l img disks A dark fair)) (tail_read z l img disks A dark fair))
            (λ q. says_whole (geometry z) img l ((keys z l img disks A dark fair) (top z l img disks A dark fair)) (tail_read z l img disks A dark fair)
            (λ d i.
            let j = involved_is d ∙ i in
            let m = in_involved (B z l) t ch d (and_left (Label.believed (size z) (label_of z l) d t) (ch d) j) (and_right (Label.believed (size z) (label_of z l) d t) (ch d) j) in
            sym (same d (involved_looked (geometry z) img l ((keys z l img disks A dark fair) (top z l img disks A dark fair)) (tail_read z l img disks A dark fair) d i)) ∙ every_of test (Write.involved (B z l) t ch) q d m))
            (λ q. every_all test (Write.involved (B z l) t ch)
            (λ d m.
            let y = of_involved (B z l) t ch d m in
            let i : involved (geometry z) l (tail_read z l img disks A dark fair) d ≡ true = sym (involved_is d) ∙ both (Label.believed (size z) (label_of z l) d t) (ch d) y.0 y.1 in
            same d (involved_looked (geometry z) img l ((keys z l img disks A dark fair) (top z l img disks A dark fair)) (tail_read z l img disks A dark fair) d i) ∙ whole_says (geometry z) img l ((keys z l img disks A dark fair) (top z l img disks A dark fair)) (tail_read z l img disks A dark fair) q d i))

      -- ---- THE DECISION

      -- what `decide` answers
      opened : redo_of (geometry z) img l ≡ cond {A = declared.Redo} (zero_stamp ((keys z l img disks A dark fair) (top z l img disks A dark fair))) Nothing
          (cond {A = declared.Redo} (whole_of (geometry z) img l ((keys z l img disks A dark fair) (top z l img disks A dark fair)) (tail_read z l img disks A dark fair)) (Forward (tail_read z l img disks A dark fair).stripe (mask_of (involved (geometry z) l (tail_read z l img disks A dark fair)) (slots z)))
          (Kill (mask_of (marked (geometry z) img l ((keys z l img disks A dark fair) (top z l img disks A dark fair))) (slots z))))
      unfolding redo_of decided settled
      opened = rw (image_fits z img disks)

      -- what the protocol does
      acts : (s w : Bool) → zero_stamp ((keys z l img disks A dark fair) (top z l img disks A dark fair)) ≡ s → Redo.whole (records z) (B z l) (f0 z l img disks A dark) ≡ w → Redo.redo (records z) (B z l) (f0 z l img disks A dark) ≡ cond s [] (cond w (Redo.forward (records z) (B z l) (f0 z l img disks A dark)) (Redo.kill (records z) (B z l) (f0 z l img disks A dark)))
      unfolding Redo.redo
      acts s w p q =
          ap₂ (λ (x y : Bool). cond x [] (cond y (Redo.forward (records z) (B z l) (f0 z l img disks A dark)) (Redo.kill (records z) (B z l) (f0 z l img disks A dark))))
          (ap (λ (x : ℕ). eqb x 0) key_lead ∙ sym (zero_number ((keys z l img disks A dark fair) (top z l img disks A dark fair))) ∙ p) q

      -- nothing: the protocol does nothing
      pub redo_none : redo_of (geometry z) img l ≡ Nothing → Redo.redo (records z) (B z l) (f0 z l img disks A dark) ≡ []
      redo_none h = by (zero_stamp ((keys z l img disks A dark fair) (top z l img disks A dark fair))) refl (whole_of (geometry z) img l ((keys z l img disks A dark fair) (top z l img disks A dark fair)) (tail_read z l img disks A dark fair)) (sym opened ∙ h)
        where
          by : (s : Bool) → zero_stamp ((keys z l img disks A dark fair) (top z l img disks A dark fair)) ≡ s → (w : Bool)
              → cond {A = declared.Redo} s Nothing (cond {A = declared.Redo} w (Forward (tail_read z l img disks A dark fair).stripe (mask_of (involved (geometry z) l (tail_read z l img disks A dark fair)) (slots z))) (Kill (mask_of (marked (geometry z) img l ((keys z l img disks A dark fair) (top z l img disks A dark fair))) (slots z)))) ≡ Nothing
              → Redo.redo (records z) (B z l) (f0 z l img disks A dark) ≡ []
          by true e w q = acts true (Redo.whole (records z) (B z l) (f0 z l img disks A dark)) e refl
          by false e true q = absurd (let i : ◌≡◌ {A = ℕ} 0 1 = cc in omega arith)
          by false e false q = absurd (let i : ◌≡◌ {A = ℕ} 0 1 = cc in omega arith)

      -- forward: the protocol goes forward, with that stripe and those slots
      pub redo_forward : (t m : ℕ) → redo_of (geometry z) img l ≡ Forward t m
          → (Redo.redo (records z) (B z l) (f0 z l img disks A dark) ≡ Redo.forward (records z) (B z l) (f0 z l img disks A dark)) × (stripe_in (Redo.tail (records z) (B z l) (f0 z l img disks A dark)) ≡ t)
          × ((d : ℕ) → d < slots z → in_mask m d ≡ (Label.believed (size z) (label_of z l) d (stripe_in (Redo.tail (records z) (B z l) (f0 z l img disks A dark))) && changes_in z (Redo.tail (records z) (B z l) (f0 z l img disks A dark)) d))
      redo_forward t m h = by (zero_stamp ((keys z l img disks A dark fair) (top z l img disks A dark fair))) refl (whole_of (geometry z) img l ((keys z l img disks A dark fair) (top z l img disks A dark fair)) (tail_read z l img disks A dark fair)) refl (sym opened ∙ h)
        where
          I : ℕ
          I = mask_of (involved (geometry z) l (tail_read z l img disks A dark fair)) (slots z)

          by : (s : Bool) → zero_stamp ((keys z l img disks A dark fair) (top z l img disks A dark fair)) ≡ s → (w : Bool) → whole_of (geometry z) img l ((keys z l img disks A dark fair) (top z l img disks A dark fair)) (tail_read z l img disks A dark fair) ≡ w
              → cond {A = declared.Redo} s Nothing (cond {A = declared.Redo} w (Forward (tail_read z l img disks A dark fair).stripe I) (Kill (mask_of (marked (geometry z) img l ((keys z l img disks A dark fair) (top z l img disks A dark fair))) (slots z)))) ≡ Forward t m
              → (Redo.redo (records z) (B z l) (f0 z l img disks A dark) ≡ Redo.forward (records z) (B z l) (f0 z l img disks A dark)) × (stripe_in (Redo.tail (records z) (B z l) (f0 z l img disks A dark)) ≡ t)
              × ((d : ℕ) → d < slots z → in_mask m d ≡ (Label.believed (size z) (label_of z l) d (stripe_in (Redo.tail (records z) (B z l) (f0 z l img disks A dark))) && changes_in z (Redo.tail (records z) (B z l) (f0 z l img disks A dark)) d))
          by true e w f q = absurd (let i : ◌≡◌ {A = ℕ} 0 1 = cc in omega arith)
          by false e false f q = absurd (let i : ◌≡◌ {A = ℕ} 0 1 = cc in omega arith)
          by false e true f q =
              let a : (tail_read z l img disks A dark fair).stripe ≡ t = cc in
              let b : I ≡ m = cc in (
                acts false true e (whole_is e ∙ f),
                stripe_is e ∙ a,
                λ d k. ap (λ (x : ℕ). in_mask x d) (sym b) ∙ mask_below (involved (geometry z) l (tail_read z l img disks A dark fair)) (slots z) d k ∙ sym (involved_is e d),
              )

      -- kill: the protocol wipes the tails of those slots
      pub redo_kill : (m : ℕ) → redo_of (geometry z) img l ≡ Kill m
          → (Redo.redo (records z) (B z l) (f0 z l img disks A dark) ≡ Redo.kill (records z) (B z l) (f0 z l img disks A dark))
          × ((d : ℕ) → d < slots z → in_mask m d ≡ (Label.looked (size z) (label_of z l) d && eqb (stamp_in ((f0 z l img disks A dark) (log d z.c))) (Redo.key (records z) (B z l) (f0 z l img disks A dark) (Redo.lead (records z) (B z l) (f0 z l img disks A dark)))))
      redo_kill m h = by (zero_stamp ((keys z l img disks A dark fair) (top z l img disks A dark fair))) refl (whole_of (geometry z) img l ((keys z l img disks A dark fair) (top z l img disks A dark fair)) (tail_read z l img disks A dark fair)) refl (sym opened ∙ h)
        where
          J : ℕ
          J = mask_of (marked (geometry z) img l ((keys z l img disks A dark fair) (top z l img disks A dark fair))) (slots z)

          by : (s : Bool) → zero_stamp ((keys z l img disks A dark fair) (top z l img disks A dark fair)) ≡ s → (w : Bool) → whole_of (geometry z) img l ((keys z l img disks A dark fair) (top z l img disks A dark fair)) (tail_read z l img disks A dark fair) ≡ w
              → cond {A = declared.Redo} s Nothing (cond {A = declared.Redo} w (Forward (tail_read z l img disks A dark fair).stripe (mask_of (involved (geometry z) l (tail_read z l img disks A dark fair)) (slots z))) (Kill J)) ≡ Kill m
              → (Redo.redo (records z) (B z l) (f0 z l img disks A dark) ≡ Redo.kill (records z) (B z l) (f0 z l img disks A dark))
              × ((d : ℕ) → d < slots z → in_mask m d ≡ (Label.looked (size z) (label_of z l) d && eqb (stamp_in ((f0 z l img disks A dark) (log d z.c))) (Redo.key (records z) (B z l) (f0 z l img disks A dark) (Redo.lead (records z) (B z l) (f0 z l img disks A dark)))))
          by true e w f q = absurd (let i : ◌≡◌ {A = ℕ} 0 1 = cc in omega arith)
          by false e true f q = absurd (let i : ◌≡◌ {A = ℕ} 0 1 = cc in omega arith)
          by false e false f q =
              let b : J ≡ m = cc in (
                acts false false e (whole_is e ∙ f),
                λ d k. ap (λ (x : ℕ). in_mask x d) (sym b) ∙ mask_below (marked (geometry z) img l ((keys z l img disks A dark fair) (top z l img disks A dark fair))) (slots z) d k ∙ sym (marked_is e d),
              )

-- ---- UNDER THE LABEL THAT START-UP SETTLES no absent slot is looked at
pub settled_dark : (z : Shelf) (img : List ℕ) (absent : ℕ) (A : ℕ → Bool) (l : bytes.Label) → Led z img absent A l
    → (d : ℕ) → looked (geometry z) (next_of (geometry z) img absent l) d ≡ true → A d ≡ false
unfolding gone
settled_dark z img absent A l led d e =
    let n = next_of (geometry z) img absent l in
    let f = seen_of z A img in
    let g = gone (size z) (labels z) A f in
    let q = without_gone (size z) (L (size z) (labels z) A f) g (suc (suc (M (size z) (labels z) A f))) d
    (ap (λ (x : Label.Label). Label.looked (size z) x d) (next_is z img absent A l led) ∙ look_is z n d ∙ e) in
    by (A d) (stale (size z) (labels z) A f d) (sym (ap (λ (b : Bool). b && (A d || stale (size z) (labels z) A f d)) (lt-ltb d (slots z) (looked_below (geometry z) n d e))) ∙ q)
  where
    by : (a s : Bool) → (a || s) ≡ false → a ≡ false
    by true s q = q
    by false s q = refl
