-- The log part of start-up. Its list of actions is computed from what is read, f0, once the label is settled: the greatest stamp among the
-- tails decides. Complete on every believed slot that its write changes: forward. Otherwise: kill.
use Prim.Native.Nat.{ℕ, suc, ◌≤◌, ◌<◌}
use Rattle.std.proofs.Math.Path.{◌≡◌, refl, ap}
use Rattle.std.proofs.Common.{◌∙◌, arith}
use Rattle.std.proofs.Math.Bool.{Bool, true}
use Rattle.std.specs.Prelude.{false, cond, ◌&&◌, ◌⊎◌}
use mathlib.Core.List.{List, [], ◌∷◌}
use Rattle.std.proofs.Math.Dec.{eqb}
use Rattle.protocol.specs.World.{log, Image, World, Action, run, Always, During}
use Rattle.protocol.specs.Batch.{Batch, actions}
use Rattle.protocol.specs.Slots.{from, slots, rows, leader, leader_top, every}
use Rattle.protocol.specs.Log.{Write, RecordCodec, Belief, Complete, Logs}
use Rattle.protocol.specs.Write.{involved, store}

-- a record is complete when the stamps of all these sectors are equal
module _ {X : Type 0} (K : RecordCodec X) where
  unfoldable pub compared_sectors : List ℕ
  compared_sectors = from 0 (suc K.c)

-- the program: what it looks at, and what it then does
module _ {X : Type 0} (K : RecordCodec X) (B : Belief) (f0 : Image X) where
  -- the stamp of slot d's tail, 0 where it is not to be looked at
  abbrev pub key : ℕ → ℕ
  key d = cond (B.look d) (K.stamp (f0 (log d K.c))) 0

  abbrev pub lead : ℕ
  lead = leader key B.n

  abbrev pub tail : X
  tail = f0 (log lead K.c)

  unfoldable pub complete_b : ℕ → ℕ → Bool
  complete_b τ d = every (λ j. eqb (K.stamp (f0 (log d j))) τ) (compared_sectors K)

  unfoldable pub whole : Bool
  whole = every (complete_b (key lead)) (involved B (K.stripe_of tail) (K.changes_of tail))

  -- whether the write with stamp u is found there, and goes forward
  unfoldable pub decision : ℕ → Bool
  decision u = eqb (key lead) u && whole

  abbrev pub redone : ℕ → ℕ → X
  redone d j = K.piece (f0 (log d K.c)) (f0 (log d j)) j

  unfoldable pub forward : List (Action X)
  forward = store K B (K.stripe_of tail) (K.changes_of tail) redone

  unfoldable pub marked : List ℕ
  marked = slots B.n (λ d. B.look d && eqb (K.stamp (f0 (log d K.c))) (key lead))

  unfoldable pub kill_batch : Batch X
  kill_batch =
      record {
        value = λ k. K.zeros;
        places = rows (λ d j. log d K.c) (0 ∷ []) marked;
        flushed = marked;
      }

  abbrev pub kill : List (Action X)
  kill = actions kill_batch

  unfoldable pub redo : List (Action X)
  redo = cond (eqb (key lead) 0) [] (cond whole forward kill)

module _ {X : Type 0} (K : RecordCodec X) (B : Belief) (history : ℕ → Write X) (f0 : Image X) where
  pub key_look : (d : ℕ) → B.look d ≡ true → key K B f0 d ≡ K.stamp (f0 (log d K.c))
  key_look d e = rw e

  pub key_top : (d : ℕ) → B.look d ≡ true → K.stamp (f0 (log d K.c)) ≤ key K B f0 (lead K B f0)
  key_top d e = omega (arith, key_look d e, leader_top (key K B f0) B.n d (B.look_n d e))

  pub key_seen : (d κ : ℕ) → key K B f0 d ≡ suc κ → (B.look d ≡ true) × (K.stamp (f0 (log d K.c)) ≡ suc κ)
  key_seen d κ e = go (B.look d) refl e
    where
      go : (b : Bool) → B.look d ≡ b → cond b (K.stamp (f0 (log d K.c))) 0 ≡ suc κ → (B.look d ≡ true) × (K.stamp (f0 (log d K.c)) ≡ suc κ)
      go true q z = (q, z)
      go false q z = absurd (omega arith)

  -- what the leader's tail tells
  module _ (u : ℕ) (l : Logs K B history u f0) (κ : ℕ) (e : key K B f0 (lead K B f0) ≡ suc κ) where
    pub the_tail : tail K B f0 ≡ K.sector (suc κ) (history (suc κ)) (lead K B f0) K.c
    the_tail = let s = key_seen (lead K B f0) κ e in (l.real (lead K B f0) K.c κ s.0 (omega arith) s.1).0

    the_fits : K.Fits (suc κ) (history (suc κ))
    the_fits = let s = key_seen (lead K B f0) κ e in (l.real (lead K B f0) K.c κ s.0 (omega arith) s.1).2

    pub the_stripe : K.stripe_of (tail K B f0) ≡ (history (suc κ)).stripe
    the_stripe = ap K.stripe_of the_tail ∙ K.stripe_tail (suc κ) (history (suc κ)) (lead K B f0) the_fits

    pub the_changes : (d : ℕ) → K.changes_of (tail K B f0) d ≡ (history (suc κ)).changes d
    the_changes d = ap (λ (x : X). K.changes_of x d) the_tail ∙ K.changes_tail (suc κ) (history (suc κ)) (lead K B f0) d the_fits

    -- a complete record gives back its strip
    pub the_strip : (d : ℕ) → B.look d ≡ true → Complete K f0 d (suc κ) → (j : ℕ) → j < K.c → redone K B f0 d j ≡ (history (suc κ)).new d j
    unfolding Complete
    the_strip d a p j h =
        let x = (l.real d K.c κ a (omega arith) (p K.c (omega arith))).0 in
        let y = (l.real d j κ a (omega arith) (p j (omega arith))).0 in
        let q : K.piece (f0 (log d K.c)) (f0 (log d j)) j ≡ (history (suc κ)).new d j = rw (x, y) (K.piece_back (suc κ) (history (suc κ)) d j the_fits h) in
        q

  -- the tails are still what was read, or zeros
  unfoldable pub Tails : Image X → Type 0
  Tails f = (d : ℕ) → B.look d ≡ true → (f (log d K.c) ≡ f0 (log d K.c)) ⊎ (f (log d K.c) ≡ K.zeros)

  -- what the log part of start-up does to a world that reads as f0 where it looks: R all the while, and then Z
  unfoldable pub Redone : World X → (Image X → Type 0) → (Image X → Type 0) → Type 0
  Redone w R Z = During w (redo K B f0) R × Always (run w (redo K B f0)) Z
