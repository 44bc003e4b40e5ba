-- COUNTERS INSTEAD OF LISTS. A batch that goes over a range of slots (or stripes), and over a range of sectors of each, can be carried out by a machine that
-- remembers where it is: slot and sector. Each tick does the next action, or moves on without one. It does what the list says, in that order (`walks`).
use Prim.Native.Nat.{ℕ, zero, suc}
use Rattle.std.specs.Prelude.{◌≡◌, Bool, true, false, cond}
use Rattle.std.proofs.Math.Path.{refl, ap}
use Rattle.std.proofs.Common.{sym, ◌∙◌}
use mathlib.Core.List.{List, [], ◌∷◌, ◌++◌}
use Rattle.protocol.specs.World.{Place, Action, put, flush}
use Rattle.protocol.specs.Batch.{Batch, actions, puts, flushes}
use Rattle.protocol.specs.Slots.{from, keep, row, rows}

-- n slots from a on that pass the test, c sectors from b on of each; then flushes over a range of slots that pass theirs
pub record Walk (X : Type 0) : Type 0 where
  pub a : ℕ
  pub n : ℕ
  pub test : ℕ → Bool
  pub b : ℕ
  pub c : ℕ
  pub place : ℕ → ℕ → Place
  pub value : Place → X
  pub first_flush : ℕ
  pub flushes_n : ℕ
  pub flush_test : ℕ → Bool

-- where it is: the slot and how many are left with it, the sector and how many are left with it; or the slot to flush
pub data Cursor : Type 0 where
  putting : ℕ → ℕ → ℕ → ℕ → Cursor
  flushing : ℕ → ℕ → Cursor

pub append_assoc : {A : Type 0} (x y v : List A) → (x ++ y) ++ v ≡ x ++ (y ++ v)
append_assoc [] y v = refl
append_assoc (a ∷ x) y v = ap (λ (l : List _). a ∷ l) (append_assoc x y v)

module _ {X : Type 0} where
  -- the batch that it is
  abbrev pub batch_of : Walk X → Batch X
  batch_of w = record { value = w.value; places = rows w.place (from w.b w.c) (keep w.test (from w.a w.n)); flushed = keep w.flush_test (from w.first_flush w.flushes_n) }

  abbrev pub begins : Walk X → Cursor
  begins w = putting w.a w.n w.b w.c

  -- one tick: where it is next, and what it does (nothing, or one action)
  abbrev pub tick : Walk X → Cursor → Cursor × List (Action X)
  tick w (putting d zero j k) = (flushing w.first_flush w.flushes_n, [])
  tick w (putting d (suc l) j zero) = (putting (suc d) l w.b w.c, [])
  tick w (putting d (suc l) j (suc k)) = cond (w.test d) (putting d (suc l) (suc j) k, put (w.place d j) (w.value (w.place d j)) ∷ []) (putting (suc d) l w.b w.c, [])
  tick w (flushing d zero) = (flushing d zero, [])
  tick w (flushing d (suc l)) = cond (w.flush_test d) (flushing (suc d) l, flush d ∷ []) (flushing (suc d) l, [])

  puts_append : (v : Place → X) (x y : List Place) → puts v (x ++ y) ≡ puts v x ++ puts v y
  puts_append v [] y = refl
  puts_append v (k ∷ x) y = ap (λ (l : List (Action X)). put k (v k) ∷ l) (puts_append v x y)

  -- what is still to be done from there
  abbrev left_flushes : Walk X → ℕ → ℕ → List (Action X)
  left_flushes w d l = flushes (keep w.flush_test (from d l))

  abbrev left_slots : Walk X → ℕ → ℕ → List (Action X)
  left_slots w d l = puts w.value (rows w.place (from w.b w.c) (keep w.test (from d l)))

  abbrev pub left : Walk X → Cursor → List (Action X)
  left w (putting d zero j k) = left_flushes w w.first_flush w.flushes_n
  left w (putting d (suc l) j k) = cond (w.test d) (puts w.value (row w.place d (from j k))) [] ++ (left_slots w (suc d) l ++ left_flushes w w.first_flush w.flushes_n)
  left w (flushing d l) = left_flushes w d l

  left_fresh : (w : Walk X) (d l : ℕ) → left w (putting d l w.b w.c) ≡ left_slots w d l ++ left_flushes w w.first_flush w.flushes_n
  left_fresh w d zero = refl
  left_fresh w d (suc l) = go (w.test d)
    where
      go : (t : Bool) → cond t (puts w.value (row w.place d (from w.b w.c))) [] ++ (left_slots w (suc d) l ++ left_flushes w w.first_flush w.flushes_n) ≡ puts w.value (rows w.place (from w.b w.c) (cond t (d ∷ keep w.test (from (suc d) l)) (keep w.test (from (suc d) l)))) ++ left_flushes w w.first_flush w.flushes_n
      go true =
          sym (append_assoc (puts w.value (row w.place d (from w.b w.c))) (left_slots w (suc d) l) (left_flushes w w.first_flush w.flushes_n))
          ∙ ap (λ (y : List (Action X)). y ++ left_flushes w w.first_flush w.flushes_n) (sym (puts_append w.value (row w.place d (from w.b w.c)) (rows w.place (from w.b w.c) (keep w.test (from (suc d) l)))))
      go false = refl

  -- at the beginning: the whole batch
  pub walk_begins : (w : Walk X) → left w (begins w) ≡ actions (batch_of w)
  walk_begins w = left_fresh w w.a w.n

  -- EACH TICK does the first of what is left, or nothing, and the rest is left
  pub walks : (w : Walk X) (p : Cursor) → left w p ≡ (tick w p).1 ++ left w (tick w p).0
  walks w (putting d zero j k) = refl
  walks w (putting d (suc l) j zero) = go (w.test d) ∙ sym (left_fresh w (suc d) l)
    where
      go : (t : Bool) → cond t (puts w.value (row w.place d (from j zero))) [] ++ (left_slots w (suc d) l ++ left_flushes w w.first_flush w.flushes_n) ≡ left_slots w (suc d) l ++ left_flushes w w.first_flush w.flushes_n
      go true = refl
      go false = refl
  walks w (putting d (suc l) j (suc k)) = go (w.test d) refl
    where
      go : (t : Bool) → w.test d ≡ t → cond t (puts w.value (row w.place d (from j (suc k)))) [] ++ (left_slots w (suc d) l ++ left_flushes w w.first_flush w.flushes_n) ≡ (cond {A = Cursor × List (Action X)} t (putting d (suc l) (suc j) k, put (w.place d j) (w.value (w.place d j)) ∷ []) (putting (suc d) l w.b w.c, [])).1 ++ left w (cond {A = Cursor × List (Action X)} t (putting d (suc l) (suc j) k, put (w.place d j) (w.value (w.place d j)) ∷ []) (putting (suc d) l w.b w.c, [])).0
      go true e = rw e
      go false e = sym (left_fresh w (suc d) l)
  walks w (flushing d zero) = refl
  walks w (flushing d (suc l)) = go (w.flush_test d)
    where
      go : (t : Bool) → flushes (cond t (d ∷ keep w.flush_test (from (suc d) l)) (keep w.flush_test (from (suc d) l))) ≡ (cond {A = Cursor × List (Action X)} t (flushing (suc d) l, flush d ∷ []) (flushing (suc d) l, [])).1 ++ left w (cond {A = Cursor × List (Action X)} t (flushing (suc d) l, flush d ∷ []) (flushing (suc d) l, [])).0
      go true = refl
      go false = refl

  -- ticks in a row, and what they do
  abbrev pub ticks : ℕ → Walk X → Cursor → List (Action X)
  ticks zero w p = []
  ticks (suc n) w p = (tick w p).1 ++ ticks n w (tick w p).0

  abbrev pub place_after : ℕ → Walk X → Cursor → Cursor
  place_after zero w p = p
  place_after (suc n) w p = place_after n w (tick w p).0

  -- after any number of ticks: what was done and what is left are the batch
  pub walked : (n : ℕ) (w : Walk X) (p : Cursor) → left w p ≡ ticks n w p ++ left w (place_after n w p)
  walked zero w p = refl
  walked (suc n) w p =
      walks w p ∙ (ap (λ (y : List (Action X)). (tick w p).1 ++ y) (walked n w (tick w p).0) ∙ sym (append_assoc (tick w p).1 (ticks n w (tick w p).0) (left w (place_after n w (tick w p).0))))
