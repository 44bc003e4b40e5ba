-- SHELVES WITH k <= m: WHAT IS ASKED OF THE WORLD, and THE PROMISE FOR EVERY RUN in which it holds. A program that is ready has settled its label: every slot that the label does not call out has it,
-- and what was left out before no longer matters. So it is asked, from each such moment up to the next one: any two of the sets of slots that accepted start-ups and take-outs leave out in between, the
-- set that the settled label calls out among them, leave a slot out in common, one that took part in both. Some such thing has to be asked: if two sets are all slots, and a write was acknowledged with
-- the first one left out, a start-up that leaves out the second cannot tell (no-telling, in Limits).
use Rattle.std.specs.Prelude.{ℕ, ◌≡◌, Bool, true, false, cond}
use mathlib.Core.List.Memᴰ
use mathlib.Core.List.{List, [], ◌∷◌, ◌++◌, Memᴰ}
use Rattle.protocol.specs.World.{World}
use Rattle.protocol.specs.Log.{RecordCodec}
use Rattle.protocol.specs.Label.{Size, Quorum, LabelCodec}
use Rattle.protocol.specs.Host.{Host, Code}
use Rattle.protocol.specs.Program.{Stamps, Medium, Own, nothing, idle, doing}
use Rattle.protocol.specs.Machine.{Machine, at, Event, View}
use Rattle.protocol.specs.Invariant.{Ready, Invariant}
use Rattle.protocol.specs.Even.{HappensBy, RunsBy, stays, goes, left_one, left_by}
use Rattle.protocol.specs.Pairs.{AnyTwo, no_sets, Mends, code_of, medium_for}

-- ---- moments of rest

-- the program is ready: its label is settled
abbrev pub at_rest : {X : Type 0} → Machine X → Bool
at_rest (at w nothing) = false
at_rest (at w (idle o)) = true
at_rest (at w (doing k l o o')) = false

-- the set of slots that this label calls out
abbrev pub settled_out : {X : Type 0} → Machine X → List (ℕ → Bool)
settled_out (at w nothing) = []
settled_out (at w (idle o)) = o.now.out ∷ []
settled_out (at w (doing k l o o')) = []

pub more_of : (b : Bool) {l : List (ℕ → Bool)} {t : ℕ → Bool} → Memᴰ t (cond b [] l) → Memᴰ t l
more_of true j = absurd (Memᴰ.not-nil j)
more_of false j = j

module _ {X : Type 0} (z : Size) (C : LabelCodec X z.n) (K : RecordCodec X) (E : Code X z.n K.c (no_sets z.n)) (S : Stamps) (R : Medium z (no_sets z.n) C K E S) (test : (ℕ → Bool) → Bool) (ok : Mends test E) where
  -- a family whose sets pass the test
  abbrev pub Passing : Quorum z.n → Type 0
  Passing W = (a : ℕ → Bool) → W.few a ≡ true → test a ≡ true

  abbrev pub InvariantFor : (W : Quorum z.n) → Passing W → Machine X → View X → Type 0
  InvariantFor W sub = Invariant z W C K (code_of z C K E S R test ok W sub) S (medium_for z C K E S R test ok W sub)

  abbrev pub ReadyFor : (W : Quorum z.n) → Passing W → Host X → World X → Own → Type 0
  ReadyFor W sub = Ready z W C K (code_of z C K E S R test ok W sub) S (medium_for z C K E S R test ok W sub)

  -- ---- WHAT IS ASKED

  abbrev pub HappensTo : Machine X → Event X → Machine X → Type 1
  HappensTo = HappensBy z (no_sets z.n) C K E S R test

  abbrev pub RunsTo : Machine X → List (Event X) → Machine X → Type 1
  RunsTo = RunsBy z (no_sets z.n) C K E S R test

  abbrev pub left_now : {m m' : Machine X} {e : Event X} → HappensTo m e m' → List (ℕ → Bool)
  left_now s = left_one z (no_sets z.n) C K E S R test s

  abbrev pub left_then : {m m' : Machine X} {l : List (Event X)} → RunsTo m l m' → List (ℕ → Bool)
  left_then r = left_by z (no_sets z.n) C K E S R test r

  -- the sets that are left out from here up to the next moment of rest
  abbrev pub ahead : {m m' : Machine X} {l : List (Event X)} → RunsTo m l m' → List (ℕ → Bool)
  ahead stays = []
  ahead (goes {m' = m'} s r) = left_now s ++ cond (at_rest m') [] (ahead r)

  -- at every moment of the run any two of them, with the set that is settled there, leave a slot out
  abbrev pub AnyTwoSince : {m m' : Machine X} {l : List (Event X)} → RunsTo m l m' → Type 0
  AnyTwoSince stays = Unit {0}
  AnyTwoSince (goes {m = m} s r) = AnyTwo z.n (settled_out m ++ ahead (goes s r)) × AnyTwoSince r
