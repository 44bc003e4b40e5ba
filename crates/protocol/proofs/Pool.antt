-- EXCHANGED DISKS, WITH k <= m: the machine of Exchange with the program of Even; what is asked of the world there, from one moment of rest to the next; and the promise. Among the sets of slots that
-- are left out (Since) there is then, for each accepted start-up, also the set of the slots that are absent or hold another disk than their last; but not where every slot has its last disk, nor where
-- start-up sees the newest label that there is on any disk.
use Rattle.std.specs.Prelude.{ℕ, ◌<◌, ◌≡◌, Bool, false, cond}
use Rattle.std.proofs.Math.Path.{refl, subst}
use Rattle.std.proofs.Common.{sym, ap, ◌∙◌, inl, inr, arith}
use Rattle.std.proofs.Math.Bool.{true}
use Rattle.std.proofs.Math.Logic.{⊎_elim}
use mathlib.Core.List.Memᴰ
use mathlib.Core.List.{List, [], ◌∷◌, ◌++◌, Memᴰ}
use Rattle.protocol.specs.World.{World, Sane, Always}
use Rattle.protocol.specs.Log.{RecordCodec}
use Rattle.protocol.specs.Write.{both}
use Rattle.protocol.specs.Label.{Label, Size, Quorum, LabelCodec, copy}
use Rattle.protocol.specs.Host.{Code}
use Rattle.protocol.specs.Program.{Stamps, Medium, Refusal, Own, Memory, nothing, idle, doing, Input, create, start, read_block, write, take_out, begin, rebuild_on, scrub_stripe, repair, step, Reply, accepted, refused, did, safe, done, block, found, unseen}
use Rattle.protocol.specs.Machine.{at, effect, Event, ask, View, sure, Views, same, next}
use Rattle.protocol.specs.Promise.{Zeros}
use Rattle.protocol.specs.Exchange as Exchange
use Rattle.protocol.specs.Exchange.{Disks, Room, room, noted, Strange, Newest, Asked}
use Rattle.protocol.specs.Apart.{Lying}
use Rattle.protocol.specs.Exchanged.{Stage}
use Rattle.protocol.proofs.Exchanged.{ready_kin, exchange_simulate}
use Rattle.protocol.specs.Noticed.{nothing_asked, Beside}
use Rattle.protocol.proofs.Noticed.{beside_enough}
use Rattle.protocol.specs.Even.{is_accepted, not_accepted, leaves, Shared, Refused, refusable}
use Rattle.protocol.proofs.Even.{passed, by_step, refuses}
use Rattle.protocol.specs.Pairs.{Parts, AnyTwo, two_alone, and_is, no_sets, within, parts, listed, none_listed, Mends}
use Rattle.protocol.proofs.Pairs.{same_by, same_leaves}
use Rattle.protocol.specs.Since.{at_rest, settled_out, more_of}
use Rattle.protocol.proofs.Since.{rule_for, rest_for, rest_few, begins, few_here}
use Rattle.protocol.specs.Pool.{absent_in, missing, bays, answers, Told, counted, BefallsBy, BefellBy, left_event, moved_event, sets_event, sets_all, sets_ahead, ExchangeSince, W, sub, E', R', HoldsFor, does, GoesOn, power_cut, program_dies, swapped_off, swapped_on, from_host, stays, goes}

module _ {X : Type 0} (z : Size) (C : LabelCodec X z.n) (K : RecordCodec X) (E : Code X z.n K.c (no_sets z.n)) (S : Stamps) (R : Medium z (no_sets z.n) C K E S) (test : (ℕ → Bool) → Bool) where
  -- they are among all of the history
  ahead_all : {r r' : Room X} {l : List (Event X)} (b : (BefellBy z C K E S R test) r l r') (t : ℕ → Bool) → Memᴰ t ((sets_ahead z C K E S R test) b) → Memᴰ t ((sets_all z C K E S R test) b)
  ahead_all stays t j = j
  ahead_all (goes {r' = r'} s b) t j = ⊎_elim (λ k. Memᴰ.append_left ((sets_all z C K E S R test) b) k) (λ k. Memᴰ.append_right ((sets_event z C K E S R test) s) (ahead_all b t (more_of (at_rest (bays r')) k))) (Memᴰ.append_cases ((sets_event z C K E S R test) s) j)

  -- the program's own test holds of those that are left out
  event_passed : {r r' : Room X} {e : Event X} (s : (BefallsBy z C K E S R test) r e r') → Shared test ((left_event z C K E S R test) s)
  unfolding is_accepted
  event_passed (power_cut f p) t j = absurd (Memᴰ.not-nil j)
  event_passed program_dies t j = absurd (Memᴰ.not-nil j)
  event_passed (swapped_off d i g a b p) t j = absurd (Memᴰ.not-nil j)
  event_passed (swapped_on d i g a b p) t j = absurd (Memᴰ.not-nil j)
  event_passed (from_host {w = w} {m = m} i a) t j = go ((answers z C K E S R test) m w.cur i).1 refl j
    where
      go : (x : Reply X) → ((answers z C K E S R test) m w.cur i).1 ≡ x → Memᴰ t (cond (is_accepted x) (leaves z (no_sets z.n) C K E S R test m w.cur i) []) → test t ≡ true
      go accepted e j = passed z (no_sets z.n) C K E S R test m w.cur i e t j
      go (refused why) e j = absurd (Memᴰ.not-nil j)
      go (did a) e j = absurd (Memᴰ.not-nil j)
      go safe e j = absurd (Memᴰ.not-nil j)
      go (done k) e j = absurd (Memᴰ.not-nil j)
      go (block b) e j = absurd (Memᴰ.not-nil j)
      go (found x) e j = absurd (Memᴰ.not-nil j)

  -- ---- ONE EVENT, for a family F whose sets count as few where they pass the test
  module _ (ok : Mends test E) (part : Parts z.n test) (F : Quorum z.n) where
    unseen_is : (i : Input X) → absent_in z.n i ≡ unseen z (W z C K E S R test ok part F) C K (E' z C K E S R test ok part F) S (R' z C K E S R test ok part F) nothing i
    unseen_is create = refl
    unseen_is (start A) = refl
    unseen_is (read_block t i) = refl
    unseen_is (write t ch) = refl
    unseen_is (take_out d) = refl
    unseen_is (begin d) = refl
    unseen_is (rebuild_on b) = refl
    unseen_is (scrub_stripe t) = refl
    unseen_is (repair t) = refl
    unseen_is step = refl

    -- what Exchange asks
    as_asked : (w : World X) (m : Memory X) (x : Disks X) (i : Input X) (t : (Told z C K E S R test) w m i x) (p : View X) → (HoldsFor z C K E S R test ok part F) (room w m x) p → (((does z C K E S R test ok part F) m w.cur i).1 ≡ accepted → Shared F.few ((counted z C K E S R test) w m i x t)) → Asked z (W z C K E S R test ok part F) C K (E' z C K E S R test ok part F) S (R' z C K E S R test ok part F) w m i ((does z C K E S R test ok part F) m w.cur i).1 x
    as_asked w nothing x i (inl t) p h c = λ e.
        inl (beside_enough z (W z C K E S R test ok part F) C K (E' z C K E S R test ok part F) S (R' z C K E S R test ok part F) w x p h i e (subst (λ (A : ℕ → Bool). Beside z (W z C K E S R test ok part F) C K (E' z C K E S R test ok part F) S (R' z C K E S R test ok part F) A x) (unseen_is i) (λ b few. F.meet (missing z.n i x) b (c e (missing z.n i x) (Memᴰ.head refl)) (both (test b) (F.few b) few).1)))
    as_asked w nothing x i (inr (inl a)) p h c = λ e. inl (nothing_asked z (W z C K E S R test ok part F) C K (E' z C K E S R test ok part F) S (R' z C K E S R test ok part F) (unseen z (W z C K E S R test ok part F) C K (E' z C K E S R test ok part F) S (R' z C K E S R test ok part F) nothing i) x a)
    as_asked w nothing x i (inr (inr n)) p h c = λ e. inr (subst (λ (A : ℕ → Bool). Newest z (W z C K E S R test ok part F) C K (E' z C K E S R test ok part F) S (R' z C K E S R test ok part F) A w x) (unseen_is i) n)
    as_asked w (idle o) x i t p h c = tt
    as_asked w (doing k l o o') x i t p h c = tt

    -- nothing is asked of a refusal
    refused_asked : (w : World X) (m : Memory X) (i : Input X) (why : Refusal) (x : Disks X) → Asked z (W z C K E S R test ok part F) C K (E' z C K E S R test ok part F) S (R' z C K E S R test ok part F) w m i (refused why) x
    refused_asked w nothing i why x = λ e. absurd (not_accepted (refused why) why refl e)
    refused_asked w (idle o) i why x = tt
    refused_asked w (doing k l o o') i why x = tt

    one_event : {r r' : Room X} {e : Event X} (s : (BefallsBy z C K E S R test) r e r') → Shared F.few ((sets_event z C K E S R test) s) → (p : View X) → (HoldsFor z C K E S R test ok part F) r p → (GoesOn z C K E S R test ok part F) e p r'
    unfolding is_accepted
    one_event (power_cut {w = w} {m = m} {x = x} f q) h p i = exchange_simulate z (W z C K E S R test ok part F) C K (E' z C K E S R test ok part F) S (R' z C K E S R test ok part F) (Exchange.power_cut {w = w} {m = m} {x = x} f q) p i
    one_event (program_dies {w = w} {m = m} {x = x}) h p i = exchange_simulate z (W z C K E S R test ok part F) C K (E' z C K E S R test ok part F) S (R' z C K E S R test ok part F) (Exchange.program_dies {w = w} {m = m} {x = x}) p i
    one_event (swapped_off {w = w} {x = x} d j g a b q) h p i = exchange_simulate z (W z C K E S R test ok part F) C K (E' z C K E S R test ok part F) S (R' z C K E S R test ok part F) (Exchange.swapped_off {w = w} {x = x} d j g a b q) p i
    one_event (swapped_on {w = w} {o = o} {x = x} d j g a b q) h p i = exchange_simulate z (W z C K E S R test ok part F) C K (E' z C K E S R test ok part F) S (R' z C K E S R test ok part F) (Exchange.swapped_on {w = w} {o = o} {x = x} d j g a b q) p i
    one_event (from_host {w = w} {m = m} {x = x} i t) h p holds =
        ⊎_elim (λ e. let d = same_by z C K E S R test ok (W z C K E S R test ok part F) (sub z C K E S R test ok part F) m w.cur i ∙ e in subst Goal (sym d) (exchange_simulate z (W z C K E S R test ok part F) C K (E' z C K E S R test ok part F) S (R' z C K E S R test ok part F) (Exchange.from_host {w = w} {m = m} {x = x} i (as_asked w m x i t p holds (λ q s k. h s (Memᴰ.append_left ((left_event z C K E S R test) here) (took ((counted z C K E S R test) w m i x t) s (ap (λ (u : Memory X × Reply X). u.1) d ∙ q) k))))) p holds))
        (λ y. subst Goal (sym (same_by z C K E S R test ok (W z C K E S R test ok part F) (sub z C K E S R test ok part F) m w.cur i ∙ y.1)) (subst After no.1 (λ a. exchange_simulate z (W z C K E S R test ok part F) C K (E' z C K E S R test ok part F) S (R' z C K E S R test ok part F) (Exchange.from_host {w = w} {m = m} {x = x} j a) p holds) (refused_asked w m j no.0 x)))
        (by_step z (W z C K E S R test ok part F) C K (E' z C K E S R test ok part F) S (R' z C K E S R test ok part F) test m w.cur i (λ e s k. let n = took (leaves z (no_sets z.n) C K E S R test m w.cur i) s (ap (λ (u : Memory X × Reply X). u.1) (same_by z C K E S R test ok (W z C K E S R test ok part F) (sub z C K E S R test ok part F) m w.cur i) ∙ e) (subst (λ (l : List (ℕ → Bool)). Memᴰ s l) (sym (same_leaves z C K E S R test ok (W z C K E S R test ok part F) (sub z C K E S R test ok part F) m w.cur i)) k) in and_is (test s) (F.few s) (event_passed here s n) (h s (Memᴰ.append_right ((moved_event z C K E S R test) here) n))))
      where
        here : (BefallsBy z C K E S R test) (room w m x) (ask i ((answers z C K E S R test) m w.cur i).1) (room (effect w ((answers z C K E S R test) m w.cur i).1) ((answers z C K E S R test) m w.cur i).0 (noted ((answers z C K E S R test) m w.cur i).0 x))
        here = from_host {w = w} {m = m} {x = x} i t

        took : (l : List (ℕ → Bool)) (s : ℕ → Bool) → ((answers z C K E S R test) m w.cur i).1 ≡ accepted → Memᴰ s l → Memᴰ s (cond (is_accepted ((answers z C K E S R test) m w.cur i).1) l [])
        took l s e k = subst (λ (u : Reply X). Memᴰ s (cond (is_accepted u) l [])) (sym e) k

        j : Input X
        j = refusable z (W z C K E S R test ok part F) C K (E' z C K E S R test ok part F) S (R' z C K E S R test ok part F) test m

        no : Refused z (W z C K E S R test ok part F) C K (E' z C K E S R test ok part F) S (R' z C K E S R test ok part F) test m ((does z C K E S R test ok part F) m w.cur j)
        no = refuses z (W z C K E S R test ok part F) C K (E' z C K E S R test ok part F) S (R' z C K E S R test ok part F) test m w.cur

        Goal : Memory X × Reply X → Type 0
        Goal u = (GoesOn z C K E S R test ok part F) (ask i u.1) p (room (effect w u.1) u.0 (noted u.0 x))

        After : Memory X × Reply X → Type 0
        After u = Asked z (W z C K E S R test ok part F) C K (E' z C K E S R test ok part F) S (R' z C K E S R test ok part F) w m j u.1 x → (GoesOn z C K E S R test ok part F) (ask j u.1) p (room (effect w u.1) u.0 (noted u.0 x))

    -- the set that is settled is in the family
    settled_few : (r : Room X) (p : View X) → (HoldsFor z C K E S R test ok part F) r p → Shared F.few (settled_out (bays r))
    settled_few (room w nothing x) p h t j = absurd (Memᴰ.not-nil j)
    settled_few (room w (doing k l o o') x) p h t j = absurd (Memᴰ.not-nil j)
    settled_few (room w (idle o) x) p h t j = (both (test t) (F.few t) (few_here z C K E S R test ok (W z C K E S R test ok part F) (sub z C K E S R test ok part F) (at w (idle o)) p (ready_kin z (W z C K E S R test ok part F) C K (E' z C K E S R test ok part F) S (R' z C K E S R test ok part F) w o x p h).0 t j)).1

  -- ---- AT REST ANOTHER FAMILY CAN BE CHOSEN: any that has the set which the settled label calls out. Of the disks that lie
  -- around nothing else is in the way: a label there of the settled generation calls out what the settled one does, and of older ones nothing is said of the sets that they call out.
  lying_for : (W W' : Quorum z.n) (x : Disks X) (Q : Label) → W'.few Q.out ≡ true → Lying z W C x Q → Lying z W' C x Q
  lying_for W W' x Q few h d i b n m =
      let y = h d i b n m in
      record { cap = y.cap; fine = λ p g. rule_for z C W W' Q (copy C (x.stock i) d b) few (omega (arith, g, y.cap)) (y.fine p g); own = y.own; near = y.near }

  module _ (ok : Mends test E) (part : Parts z.n test) where
    room_for : (F F' : Quorum z.n) (w : World X) (o : Own) (x : Disks X) (p : View X) → F'.few o.now.out ≡ true → (HoldsFor z C K E S R test) ok part F (room w (idle o) x) p → (HoldsFor z C K E S R test) ok part F' (room w (idle o) x) p
    room_for F F' w o x p few h = go x.made h
      where
        G : Quorum z.n
        G = within test part F

        G' : Quorum z.n
        G' = within test part F'

        few_out : G'.few o.now.out ≡ true
        few_out = and_is (test o.now.out) (F'.few o.now.out) ((sub z C K E S R test) ok part F o.now.out (rest_few z C K E S R test ok G ((sub z C K E S R test) ok part F) w o p (ready_kin z G C K ((E' z C K E S R test) ok part F) S ((R' z C K E S R test) ok part F) w o x p h).0)) few

        go : (b : Bool) → Stage z G C K ((E' z C K E S R test) ok part F) S ((R' z C K E S R test) ok part F) b w (idle o) x p → Stage z G' C K ((E' z C K E S R test) ok part F') S ((R' z C K E S R test) ok part F') b w (idle o) x p
        go true y = (rest_for z C K E S R test ok G ((sub z C K E S R test) ok part F) G' ((sub z C K E S R test) ok part F') w o p few_out y.0, record { at_home = y.1.at_home; born = y.1.born; rises = y.1.rises; lying = lying_for G G' x o.now few_out y.1.lying; lying' = lying_for G G' x o.now few_out y.1.lying' })
        go false y = (rest_for z C K E S R test ok G ((sub z C K E S R test) ok part F) G' ((sub z C K E S R test) ok part F') w o p few_out y.0, y.1)

    -- ---- the promise
    module _ (none : test (λ d. false) ≡ true) (some : 0 < z.n) where
      two_here : {r r' : Room X} {l : List (Event X)} (b : (BefellBy z C K E S R test) r l r') → AnyTwo z.n (settled_out (bays r)) → (ExchangeSince z C K E S R test) b → AnyTwo z.n (settled_out (bays r) ++ (sets_ahead z C K E S R test) b)
      two_here {r} stays h two = two_alone z.n (settled_out (bays r)) h
      two_here (goes s b) h two = two.0

      -- the next room is not at rest, and the family stays; or it is, and the next family takes over
      on : (F : Quorum z.n) (r : Room X) {r' : Room X} {l : List (Event X)} (b : (BefellBy z C K E S R test) r l r')
          → ((F' : Quorum z.n) → Shared F'.few ((sets_ahead z C K E S R test) b) → (p : View X) → (HoldsFor z C K E S R test) ok part F' r p → (q : View X) × Views K.c p l q)
          → Shared F.few (cond (at_rest (bays r)) [] ((sets_ahead z C K E S R test) b)) → (ExchangeSince z C K E S R test) b → (p : View X) → (HoldsFor z C K E S R test) ok part F r p → (q : View X) × Views K.c p l q
      on F (room w nothing x) b then h two p i = then F h p i
      on F (room w (doing k l o o') x) b then h two p i = then F h p i
      on F (room w (idle o) x) b then h two p i =
          let l = o.now.out ∷ (sets_ahead z C K E S R test) b in
          let few = settled_few ok part F (room w (idle o) x) p i in
          let all : AnyTwo z.n l = two_here b (λ s t c d. F.meet s t (few s c) (few t d)) two in
          let F' = parts some l all in
          then F' (λ s j. listed some l all s (Memᴰ.tail j)) p (room_for F F' w o x p (listed some l all o.now.out (Memᴰ.head refl)) i)

      along : (F : Quorum z.n) {r r' : Room X} {l : List (Event X)} (b : (BefellBy z C K E S R test) r l r') → Shared F.few ((sets_ahead z C K E S R test) b) → (ExchangeSince z C K E S R test) b → (p : View X) → (HoldsFor z C K E S R test) ok part F r p → (q : View X) × Views K.c p l q
      along F stays h two p i = (p, same)
      along F (goes {r' = r'} s b) h two p i =
          let y = one_event ok part F s (λ t j. h t (Memᴰ.append_left (cond (at_rest (bays r')) [] ((sets_ahead z C K E S R test) b)) j)) p i in
          let v = on F r' b (λ F' h' p' i'. along F' b h' two.1 p' i') (λ t j. h t (Memᴰ.append_right ((sets_event z C K E S R test) s) j)) two.1 y.0 y.2 in
          (v.0, next y.1 v.1)

      -- before the shelf is made
      first_holds : (F : Quorum z.n) → F.few (λ d. false) ≡ true → (w : World X) (x : Disks X) → Sane w → Always w (Zeros z (no_sets z.n) C K E S R) → x.made ≡ false → Strange z C x → (HoldsFor z C K E S R test) ok part F (room w nothing x) (sure (λ t i j. K.zeros))
      first_holds F empty w x sane h made strange =
          subst (λ (b : Bool). Stage z (within test part F) C K ((E' z C K E S R test) ok part F) S ((R' z C K E S R test) ok part F) b w nothing x (sure (λ t i j. K.zeros))) (sym made)
          (begins z C K E S R test ok (within test part F) ((sub z C K E S R test) ok part F) (and_is (test (λ d. false)) (F.few (λ d. false)) none empty) w sane h, strange)

      -- THE PROMISE WITH EXCHANGED DISKS, from zeros on
      pub exchange_since_promised : (w : World X) (x : Disks X) → Sane w → Always w (Zeros z (no_sets z.n) C K E S R) → x.made ≡ false → Strange z C x → {r : Room X} {l : List (Event X)} (b : (BefellBy z C K E S R test) (room w nothing x) l r) → (ExchangeSince z C K E S R test) b → (p : View X) × Views K.c (sure (λ t i j. K.zeros)) l p
      exchange_since_promised w x sane h made strange b two =
          let all : AnyTwo z.n ((sets_ahead z C K E S R test) b) = two_here b (λ s t i j. absurd (Memᴰ.not-nil i)) two in
          let F = parts some ((sets_ahead z C K E S R test) b) all in
          along F b (listed some ((sets_ahead z C K E S R test) b) all) two (sure (λ t i j. K.zeros)) (first_holds F (none_listed some ((sets_ahead z C K E S R test) b) all) w x sane h made strange)

      -- where all sets are in one family, any two leave a slot out
      family_along : (F : Quorum z.n) {r r' : Room X} {l : List (Event X)} (b : (BefellBy z C K E S R test) r l r') → Shared F.few ((sets_all z C K E S R test) b) → (p : View X) → (HoldsFor z C K E S R test) ok part F r p → (ExchangeSince z C K E S R test) b
      family_along F stays h p i = tt
      family_along F (goes {r = r} s b) h p i =
          let y = one_event ok part F s (λ t j. h t (Memᴰ.append_left ((sets_all z C K E S R test) b) j)) p i in
          let all : Shared F.few (settled_out (bays r) ++ (sets_ahead z C K E S R test) (goes s b)) = λ t j. ⊎_elim (settled_few ok part F r p i t) (λ k. h t (ahead_all (goes s b) t k)) (Memᴰ.append_cases (settled_out (bays r)) j) in
          (λ c d j k. F.meet c d (all c j) (all d k), family_along F b (λ t j. h t (Memᴰ.append_right ((sets_event z C K E S R test) s) j)) y.0 y.2)

      -- it is less than to ask it of all sets of the history
      pub exchange_pairs_since : (w : World X) (x : Disks X) → Sane w → Always w (Zeros z (no_sets z.n) C K E S R) → x.made ≡ false → Strange z C x → {r : Room X} {l : List (Event X)} (b : (BefellBy z C K E S R test) (room w nothing x) l r) → AnyTwo z.n ((sets_all z C K E S R test) b) → (ExchangeSince z C K E S R test) b
      exchange_pairs_since w x sane h made strange b two =
          let F = parts some ((sets_all z C K E S R test) b) two in
          family_along F b (listed some ((sets_all z C K E S R test) b) two) (sure (λ t i j. K.zeros)) (first_holds F (none_listed some ((sets_all z C K E S R test) b) two) w x sane h made strange)
