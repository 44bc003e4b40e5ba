-- SHELVES WITH k <= m: WHAT IS ASKED OF THE WORLD, and THE PROMISE FOR EVERY RUN in which it holds. A program that is ready has settled its label: every slot that the label does not call out has it,
-- and what was left out before no longer matters. So it is asked, from each such moment up to the next one: any two of the sets of slots that accepted start-ups and take-outs leave out in between, the
-- set that the settled label calls out among them, leave a slot out in common, one that took part in both. Some such thing has to be asked: if two sets are all slots, and a write was acknowledged with
-- the first one left out, a start-up that leaves out the second cannot tell (no-telling, in Limits).
use Rattle.std.specs.Prelude.{ℕ, ◌<◌, ◌≡◌, refl, Bool, true, false, cond}
use Rattle.std.proofs.Common.{ap, subst, ◌∙◌, ⊎_elim, arith}
use mathlib.Core.List.Memᴰ
use mathlib.Core.List.{List, [], ◌∷◌, ◌++◌, Memᴰ}
use Rattle.protocol.specs.World.{Image, World, Sane, Always, always_map, always_cur}
use Rattle.protocol.specs.Log.{RecordCodec}
use Rattle.protocol.specs.Label.{Label, Size, Quorum, LabelCodec, copy, MayRule, Labels}
use Rattle.protocol.specs.Decide.{Rest}
use Rattle.protocol.specs.Host.{Host, Code, table}
use Rattle.protocol.specs.Program.{Stamps, Medium, Own, nothing, idle, doing}
use Rattle.protocol.specs.Machine.{Machine, at, Event, View, sure, open_write, kept_write, Views, same, next}
use Rattle.protocol.specs.Promise.{Zeros}
use Rattle.protocol.proofs.Promise.{zeros_off, promise}
use Rattle.protocol.specs.Even.{Shared, stays, goes}
use Rattle.protocol.proofs.Even.{views_alike, asked_runs, all_passed}
use Rattle.protocol.specs.Pairs.{Parts, AnyTwo, two_alone, no_sets, tested_parts, parts_pass, none_in, in_parts, Mends, code_of, medium_for, same_zeros_of}
use Rattle.protocol.proofs.Pairs.{same_runs}
use Rattle.protocol.specs.Since.{at_rest, settled_out, more_of, Passing, InvariantFor, ReadyFor, HappensTo, RunsTo, left_now, left_then, ahead, AnyTwoSince}

-- ---- at rest the labels are right for every family that has the set which the settled label calls out

-- a label of the settled generation calls out what the settled one does
pub rule_for : {X : Type 0} (z : Size) (C : LabelCodec X z.n) (W W' : Quorum z.n) (Q l : Label) → W'.few Q.out ≡ true → l.generation ≡ Q.generation → MayRule z W C Q Q l → MayRule z W' C Q Q l
rule_for z C W W' Q l few e y = record { few_out = ap W'.few (y.same_out e) ∙ few; same_out = y.same_out; narrow = y.narrow }

labels_for : {X : Type 0} (z : Size) (C : LabelCodec X z.n) (W W' : Quorum z.n) (Q : Label) (f : Image X) → W'.few Q.out ≡ true → Labels z W C Q Q Q.generation Q.out f → Labels z W' C Q Q Q.generation Q.out f
labels_for z C W W' Q f few h = record { few_Q = few; few_far = few; low = h.low; cap = h.cap; near = h.near; fine = λ d b i p g. rule_for z C W W' Q (copy C f d b) few (omega (arith, g, h.cap d b i)) (h.fine d b i p g) }

module _ {X : Type 0} (z : Size) (C : LabelCodec X z.n) (K : RecordCodec X) (E : Code X z.n K.c (no_sets z.n)) (S : Stamps) (R : Medium z (no_sets z.n) C K E S) (test : (ℕ → Bool) → Bool) (ok : Mends test E) where
  ready_for : (W : Quorum z.n) (sub : (Passing z C K E S R test ok) W) (W' : Quorum z.n) (sub' : (Passing z C K E S R test ok) W') (v : Host X) (w : World X) (o : Own) → W'.few o.now.out ≡ true → (ReadyFor z C K E S R test ok) W sub v w o → (ReadyFor z C K E S R test ok) W' sub' v w o
  unfolding table
  ready_for W sub W' sub' v w o few h =
      record {
        history = h.history;
        u = h.u;
        used = h.used;
        early = h.early;
        born = h.born;
        epoch_now = h.epoch_now;
        sound = h.sound;
        most = h.most;
        rest = always_map (Rest z W C K h.history h.u o.now (table z W K (code_of z C K E S R test ok W sub) v)) (Rest z W' C K h.history h.u o.now (table z W' K (code_of z C K E S R test ok W' sub') v)) w
            (λ f r. record { labels = labels_for z C W W' o.now f few r.labels; quiet = r.quiet }) h.rest;
        dark = h.dark;
      }

  -- AT REST ANOTHER FAMILY CAN BE CHOSEN: any that has the set which the settled label calls out
  pub rest_for : (W : Quorum z.n) (sub : (Passing z C K E S R test ok) W) (W' : Quorum z.n) (sub' : (Passing z C K E S R test ok) W') (w : World X) (o : Own) (p : View X) → W'.few o.now.out ≡ true → (InvariantFor z C K E S R test ok) W sub (at w (idle o)) p → (InvariantFor z C K E S R test ok) W' sub' (at w (idle o)) p
  rest_for W sub W' sub' w o (sure v) few i = (i.0, ready_for W sub W' sub' v w o few i.1)
  rest_for W sub W' sub' w o (open_write v v') few i = i
  rest_for W sub W' sub' w o (kept_write v') few i = i

  -- the family for which the invariant holds has it
  pub rest_few : (W : Quorum z.n) (sub : (Passing z C K E S R test ok) W) (w : World X) (o : Own) (p : View X) → (InvariantFor z C K E S R test ok) W sub (at w (idle o)) p → W.few o.now.out ≡ true
  rest_few W sub w o (sure v) i = (always_cur (Rest z W C K i.1.history i.1.u o.now (table z W K (code_of z C K E S R test ok W sub) v)) w i.0 i.1.rest).labels.few_Q
  rest_few W sub w o (open_write v v') i = absurd i
  rest_few W sub w o (kept_write v') i = absurd i

  -- they are among all that are left out
  ahead_left : {m m' : Machine X} {l : List (Event X)} (r : (RunsTo z C K E S R test ok) m l m') (t : ℕ → Bool) → Memᴰ t ((ahead z C K E S R test ok) r) → Memᴰ t ((left_then z C K E S R test ok) r)
  ahead_left stays t j = j
  ahead_left (goes {m' = m'} s r) t j = ⊎_elim (λ k. Memᴰ.append_left ((left_then z C K E S R test ok) r) k) (λ k. Memᴰ.append_right ((left_now z C K E S R test ok) s) (ahead_left r t (more_of (at_rest m') k))) (Memᴰ.append_cases ((left_now z C K E S R test ok) s) j)

  -- ---- one event

  one_event : (W : Quorum z.n) (sub : (Passing z C K E S R test ok) W) {m m' : Machine X} {e : Event X} (s : (HappensTo z C K E S R test ok) m e m') → Shared W.few ((left_now z C K E S R test ok) s) → (p : View X) → (InvariantFor z C K E S R test ok) W sub m p → (q : View X) × Views K.c p (e ∷ []) q × (InvariantFor z C K E S R test ok) W sub m' q
  one_event W sub s h p i =
      let y = same_runs z C K E S R test ok W sub (goes s stays) in
      let a = asked_runs z W C K (code_of z C K E S R test ok W sub) S (medium_for z C K E S R test ok W sub) test y.0 (λ t j. ⊎_elim (λ k. h t k) (λ k. absurd (Memᴰ.not-nil k)) (Memᴰ.append_cases ((left_now z C K E S R test ok) s) (subst (λ (l : List (ℕ → Bool)). Memᴰ t l) y.1 j))) in
      let b = promise z W C K (code_of z C K E S R test ok W sub) S (medium_for z C K E S R test ok W sub) a.2 p i in
      (b.0, views_alike a.1 b.1, b.2)

  views_on : {p q r : View X} {e : Event X} {l : List (Event X)} → Views K.c p (e ∷ []) q → Views K.c q l r → Views K.c p (e ∷ l) r
  views_on (next g same) v = next g v

  -- ---- from zeros on

  pub begins : (W : Quorum z.n) (sub : (Passing z C K E S R test ok) W) → W.few (λ d. false) ≡ true → (w : World X) → Sane w → Always w (Zeros z (no_sets z.n) C K E S R) → (InvariantFor z C K E S R test ok) W sub (at w nothing) (sure (λ t i j. K.zeros))
  begins W sub none w sane h =
      let E' = code_of z C K E S R test ok W sub in
      let R' = medium_for z C K E S R test ok W sub in
      zeros_off z W C K E' S R' w sane none (always_map (Zeros z (no_sets z.n) C K E S R) (Zeros z W C K E' S R') w (same_zeros_of z C K E S R test ok W sub) h)

  -- the set that is settled is in the family
  pub few_here : (W : Quorum z.n) (sub : (Passing z C K E S R test ok) W) (m : Machine X) (p : View X) → (InvariantFor z C K E S R test ok) W sub m p → Shared W.few (settled_out m)
  few_here W sub (at w nothing) p i t j = absurd (Memᴰ.not-nil j)
  few_here W sub (at w (doing k l o o')) p i t j = absurd (Memᴰ.not-nil j)
  few_here W sub (at w (idle o)) p i t j = ⊎_elim (λ e. ap W.few e ∙ rest_few W sub w o p i) (λ k. absurd (Memᴰ.not-nil k)) (Memᴰ.cases_cons j)

  -- ---- the promise

  module _ (part : Parts z.n test) (none : test (λ d. false) ≡ true) (some : 0 < z.n) where
    two_here : {m m' : Machine X} {l : List (Event X)} (r : (RunsTo z C K E S R test ok) m l m') → AnyTwo z.n (settled_out m) → (AnyTwoSince z C K E S R test ok) r → AnyTwo z.n (settled_out m ++ (ahead z C K E S R test ok) r)
    two_here {m} stays h two = two_alone z.n (settled_out m) h
    two_here (goes s r) h two = two.0

    -- the next machine is not at rest, and the family stays; or it is, and the next family takes over
    on : (W : Quorum z.n) (sub : (Passing z C K E S R test ok) W) (m : Machine X) {m' : Machine X} {l : List (Event X)} (r : (RunsTo z C K E S R test ok) m l m')
        → ((W' : Quorum z.n) (sub' : (Passing z C K E S R test ok) W') → Shared W'.few ((ahead z C K E S R test ok) r) → (p : View X) → (InvariantFor z C K E S R test ok) W' sub' m p → (q : View X) × Views K.c p l q)
        → Shared W.few (cond (at_rest m) [] ((ahead z C K E S R test ok) r)) → Shared test ((ahead z C K E S R test ok) r) → (AnyTwoSince z C K E S R test ok) r → (p : View X) → (InvariantFor z C K E S R test ok) W sub m p → (q : View X) × Views K.c p l q
    on W sub (at w nothing) r then h pass two p i = then W sub h p i
    on W sub (at w (doing k l o o')) r then h pass two p i = then W sub h p i
    on W sub (at w (idle o)) r then h pass two p i =
        let l = o.now.out ∷ (ahead z C K E S R test ok) r in
        let few = few_here W sub (at w (idle o)) p i in
        let all : AnyTwo z.n l = two_here r (λ s t a b. W.meet s t (few s a) (few t b)) two in
        let W' = tested_parts test part none some l all in
        then W' (parts_pass test part none some l all) (λ s j. in_parts test part none some l all s (Memᴰ.append_right (o.now.out ∷ []) j) (pass s j)) p
        (rest_for W sub W' (parts_pass test part none some l all) w o p (in_parts test part none some l all o.now.out (Memᴰ.head refl) (sub o.now.out (rest_few W sub w o p i))) i)

    along : (W : Quorum z.n) (sub : (Passing z C K E S R test ok) W) {m m' : Machine X} {l : List (Event X)} (r : (RunsTo z C K E S R test ok) m l m') → Shared W.few ((ahead z C K E S R test ok) r) → (AnyTwoSince z C K E S R test ok) r → (p : View X) → (InvariantFor z C K E S R test ok) W sub m p → (q : View X) × Views K.c p l q
    along W sub stays h two p i = (p, same)
    along W sub (goes {m' = m'} s r) h two p i =
        let y = one_event W sub s (λ t j. h t (Memᴰ.append_left (cond (at_rest m') [] ((ahead z C K E S R test ok) r)) j)) p i in
        let v = on W sub m' r (λ W' sub' h' p' i'. along W' sub' r h' two.1 p' i') (λ t j. h t (Memᴰ.append_right ((left_now z C K E S R test ok) s) j)) (λ t j. all_passed z (no_sets z.n) C K E S R test r t (ahead_left r t j)) two.1 y.0 y.2 in
        (v.0, views_on y.1 v.1)

    -- THE PROMISE, from zeros on
    pub since_promised : (w : World X) → Sane w → Always w (Zeros z (no_sets z.n) C K E S R) → {m : Machine X} {l : List (Event X)} (r : (RunsTo z C K E S R test ok) (at w nothing) l m) → (AnyTwoSince z C K E S R test ok) r → (p : View X) × Views K.c (sure (λ t i j. K.zeros)) l p
    since_promised w sane h r two =
        let all : AnyTwo z.n ((ahead z C K E S R test ok) r) = two_here r (λ s t i j. absurd (Memᴰ.not-nil i)) two in
        let W = tested_parts test part none some ((ahead z C K E S R test ok) r) all in
        let sub = parts_pass test part none some ((ahead z C K E S R test ok) r) all in
        along W sub r (λ t j. in_parts test part none some ((ahead z C K E S R test ok) r) all t j (all_passed z (no_sets z.n) C K E S R test r t (ahead_left r t j))) two (sure (λ t i j. K.zeros)) (begins W sub (none_in test part none some ((ahead z C K E S R test ok) r) all) w sane h)

    -- where all sets that are left out are in one family, any two leave a slot out
    family_along : (W : Quorum z.n) (sub : (Passing z C K E S R test ok) W) {m m' : Machine X} {l : List (Event X)} (r : (RunsTo z C K E S R test ok) m l m') → Shared W.few ((left_then z C K E S R test ok) r) → (p : View X) → (InvariantFor z C K E S R test ok) W sub m p → (AnyTwoSince z C K E S R test ok) r
    family_along W sub stays h p i = tt
    family_along W sub (goes {m = m} s r) h p i =
        let y = one_event W sub s (λ t j. h t (Memᴰ.append_left ((left_then z C K E S R test ok) r) j)) p i in
        let all : Shared W.few (settled_out m ++ (ahead z C K E S R test ok) (goes s r)) = λ t j. ⊎_elim (few_here W sub m p i t) (λ k. h t (ahead_left (goes s r) t k)) (Memᴰ.append_cases (settled_out m) j) in
        (λ a b j k. W.meet a b (all a j) (all b k), family_along W sub r (λ t j. h t (Memᴰ.append_right ((left_now z C K E S R test ok) s) j)) y.0 y.2)

    -- it is less than to ask it of all sets of the history
    pub pairs_since : (w : World X) → Sane w → Always w (Zeros z (no_sets z.n) C K E S R) → {m : Machine X} {l : List (Event X)} (r : (RunsTo z C K E S R test ok) (at w nothing) l m) → AnyTwo z.n ((left_then z C K E S R test ok) r) → (AnyTwoSince z C K E S R test ok) r
    pairs_since w sane h r two =
        let l = (left_then z C K E S R test ok) r in
        let W = tested_parts test part none some l two in
        let sub = parts_pass test part none some l two in
        family_along W sub r (λ t j. in_parts test part none some l two t j (all_passed z (no_sets z.n) C K E S R test r t j)) (sure (λ t i j. K.zeros)) (begins W sub (none_in test part none some l two) w sane h)
