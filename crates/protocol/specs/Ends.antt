-- EVERY ACCEPTED REQUEST ENDS IN ITS OWN SUCCESS. Left alone it carries out its actions one by one, with no refusal midway, and then answers; and the
-- number of its actions is bounded.
use Prim.Native.Nat.{ℕ, zero, suc, ◌+◌, ◌≤◌}
use Rattle.std.specs.Prelude.{◌≡◌, Bool, cond, ltb}
use Rattle.std.proofs.Math.Path.{refl, ap}
use Rattle.std.proofs.Math.Bool.{true, false}
use mathlib.Core.List.{List, [], ◌∷◌}
use native.Mathlib.Omega.{arith}
use Rattle.std.proofs.Math.ListN.{length, length-append}
use Rattle.protocol.specs.World.{Place, Action}
use Rattle.protocol.specs.Batch.{Batch, actions, puts, flushes}
use Rattle.protocol.specs.Slots.{from, keep, slots}
use Rattle.protocol.specs.Log.{Write, RecordCodec, Belief}
use Rattle.protocol.specs.Write.{involved}
use Rattle.protocol.specs.Label.{Label, Size, Quorum, LabelCodec}
use Rattle.protocol.specs.Rebuild.{raised, healed}
use Rattle.protocol.specs.Host.{Code}
use Rattle.protocol.specs.Program.{Stamps, Medium, Own, step, did, at_least_one, last_batch}
use Rattle.protocol.specs.Machine.{Event, ask}

-- the steps that carry out a list of actions, and then those of r
abbrev pub carried : {X : Type 0} → List (Action X) → List (Event X) → List (Event X)
carried [] r = r
carried (a ∷ l) r = ask step (did a) ∷ carried l r

-- HOW MANY ACTIONS
pub flushes_length : (X : Type 0) (ds : List ℕ) → length (flushes {X = X} ds) ≡ length ds
flushes_length X [] = refl
flushes_length X (d ∷ ds) = ap suc (flushes_length X ds)

module _ {X : Type 0} where
  puts_length : (v : Place → X) (ks : List Place) → length (puts v ks) ≡ length ks
  puts_length v [] = refl
  puts_length v (k ∷ ks) = ap suc (puts_length v ks)

  pub actions_length : (b : Batch X) → length (actions b) ≡ length b.places + length b.flushed
  actions_length b =
      let e = length-append (puts b.value b.places) (flushes b.flushed) in
      omega (arith, e, puts_length b.value b.places, flushes_length X b.flushed)

pub from_length : (n a : ℕ) → length (from a n) ≡ n
from_length zero a = refl
from_length (suc n) a = ap suc (from_length n (suc a))

pub keep_length : (p : ℕ → Bool) (l : List ℕ) → length (keep p l) ≤ length l
keep_length p [] = omega arith
keep_length p (d ∷ l) = go (p d) (keep_length p l)
  where
    go : (b : Bool) → length (keep p l) ≤ length l → length (cond b (d ∷ keep p l) (keep p l)) ≤ suc (length l)
    go true h = omega arith
    go false h = omega arith

pub slots_length : (n : ℕ) (p : ℕ → Bool) → length (slots n p) ≤ n
unfolding slots
slots_length n p = omega (arith, keep_length p (from 0 n), from_length n 0)

module _ {X : Type 0} (K : RecordCodec X) (B : Belief) where
  abbrev pub members : Write X → ℕ
  members w = length (involved B w.stripe w.changes)

module _ {X : Type 0} (z : Size) (W : Quorum z.n) (C : LabelCodec X z.n) (K : RecordCodec X) (E : Code X z.n K.c W) (S : Stamps) (R : Medium z W C K E S) where
  -- REBUILD ON raises the mark by at least one strip, or the slot is healthy
  abbrev pub after_on : Own → ℕ → Label
  after_on o b = cond (last_batch z W C K E S R o b) (healed z.n o.now) (raised o.now (o.now.mark + at_least_one z W C K E S R b))

  -- the label after j requests to rebuild on, each of b strips; asked only while something is being rebuilt
  abbrev pub rebuilt_on : ℕ → Own → ℕ → Own
  rebuilt_on zero o b = o
  rebuilt_on (suc j) o b = cond (ltb o.now.rebuilding z.n) (rebuilt_on j (record { now = after_on o b; absent = o.absent; epoch = o.epoch; count = o.count }) b) o
