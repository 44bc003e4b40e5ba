-- AT THE EDGES. Create on disks whose zeros are still in their caches; and why nothing is promised where two sets of few slots can be all slots (k <= m).
use Prim.Native.Nat.{ℕ, ◌≤◌}
use Rattle.std.specs.Prelude.{◌≡◌, cond, not, ◌||◌, List, ◌++◌, ltb}
use Rattle.std.proofs.Math.Path.{refl, fun_ext}
use Rattle.std.proofs.Common.{sym, ◌∙◌, arith}
use Rattle.std.proofs.Math.Bool.{Bool, true, false, true≢false}
use Rattle.std.proofs.lemmas.Bool.{false≢true}
use Rattle.protocol.specs.World.{Place, slot, Image, World, run, after, Sane, Always, sane_run, during_map}
use Rattle.protocol.specs.Batch.{flushes}
use Rattle.protocol.specs.Slots.{from, of_from}
use Rattle.protocol.specs.Log.{Write, RecordCodec, Quiet}
use Rattle.protocol.specs.Startup.{Shelf}
use Rattle.protocol.specs.Label.{Label, Size, Quorum, LabelCodec, round}
use Rattle.protocol.proofs.Label.{look_of}
use Rattle.protocol.specs.Decide.{Rest}
use Rattle.protocol.proofs.Spare.{round_spares}
use Rattle.protocol.specs.Restart.{restart}
use Rattle.protocol.specs.Host.{Code, table}
use Rattle.protocol.specs.Program.{Stamps, Medium, nothing, idle, new_label, beyond, mask, flushed_first, created, start, program}
use Rattle.protocol.proofs.Program.{blind}
use Rattle.protocol.specs.Machine.{at, sure}
use Rattle.protocol.specs.Invariant.{Invariant}
use Rattle.protocol.specs.Promise.{beyond_in, beyond_none, proper_new, Zeros, zeros_same}
use Rattle.protocol.proofs.Promise.{in_flushed, from_zeros}

always_any : {X : Type 0} (w : World X) → Always w (λ f. Unit {0})
unfolding Always
always_any w f p = tt

module _ {X : Type 0} (z : Size) (W : Quorum z.n) (C : LabelCodec X z.n) (K : RecordCodec X) (E : Code X z.n K.c W) (S : Stamps) (R : Medium z W C K E S) where
  -- CREATE ON CACHED ZEROS. The disks read as zeros, and may hold anything else if power is lost. Once create is done, the shelf holds the list of zeros for good.
  pub create_cached : (w : World X) → Sane w → Zeros z W C K E S R w.cur → W.few (λ d. false) ≡ true → 1 ≤ R.greatest → Invariant z W C K E S R (at (run w (flushes (flushed_first z W C K E S R (beyond z.n (λ d. false))) ++ round C (new_label z.n 1) (from 0 z.n))) (idle (created z W C K E S R))) (sure (λ t i j. K.zeros))
  unfolding table
  create_cached w sane h few room =
      let r = restart A (λ f. Unit {0}) (Rest z W C K none 0 one (table z W K E (λ t i j. K.zeros))) (flushed_first z W C K E S R A) (round C one everyone) (round_spares z W C K A one everyone (λ d m. beyond_none z.n d (omega (arith, of_from z.n 0 d m)))) (λ k a. in_flushed z W C K E S R A (slot k) (beyond_in z.n (λ d. false) (slot k) a) a) w sane (always_any w)
      (λ f q a u.
      let zf = zeros_same z W C K E S R w.cur f (λ k i. a k (beyond_none z.n (slot k) i)) h in
      let y = from_zeros z W C K E S R w h room f (λ t i j. K.zeros) none 0 (new_label z.n 0) refl few few zf (λ t d j i e c. R.zeros_shard t d j i c) in
      (during_map (Shelf z W C (new_label z.n 0) (λ B g. Quiet K B none 0 (table z W K E (λ t i j. K.zeros)) g)) (λ g. Unit {0}) (after f) (round C one everyone) (λ g o. tt) y.0, y.1)) in (
        sane_run w (flushes (flushed_first z W C K E S R A) ++ round C one everyone) sane,
        record {
          history = none;
          u = 0;
          used = omega arith;
          early = S.rises 1;
          born = omega arith;
          epoch_now = omega arith;
          sound = proper_new z 1;
          most = room;
          rest = r.1;
          dark = λ d a l. true≢false (sym a ∙ beyond_none z.n d (look_of z one d l).0);
        },
      )
    where
      A : ℕ → Bool
      A = beyond z.n (λ d. false)

      everyone : List ℕ
      everyone = from 0 z.n

      one : Label
      one = new_label z.n 1

      none : ℕ → Write X
      none τ = record { stripe = 0; changes = λ d. false; new = λ d j. K.zeros }

  -- WHERE TWO SETS OF FEW SLOTS CAN BE ALL SLOTS (k <= m), no program can keep the promise without asking more of the world. A and B are such sets. The shelf
  -- starts up with A absent, and a write is acknowledged: f becomes g, on slots that are not in A. Then it starts up with B absent: it sees the same as if
  -- that write had never been. One of the two histories wants the old block and the other the new one, and every answer is the same for both.
  pub no_telling : (A B : ℕ → Bool) → ((d : ℕ) → (A d || B d) ≡ true) → (f g : Image X) → ((k : Place) → A (slot k) ≡ true → f k ≡ g k) → mask z W C K E S R B f ≡ mask z W C K E S R B g
  unfolding mask
  no_telling A B all f g h = fun_ext (λ k. go k (B (slot k)) refl)
    where
      left : (a b : Bool) → (a || b) ≡ true → b ≡ false → a ≡ true
      left true b p q = refl
      left false b p q = absurd (false≢true (sym q ∙ p))

      go : (k : Place) (b : Bool) → B (slot k) ≡ b → cond b K.zeros (f k) ≡ cond b K.zeros (g k)
      go k true e = refl
      go k false e = h k (left (A (slot k)) (B (slot k)) (all (slot k)) e)

  -- whatever the program remembers nothing of, it answers alike, from start-up on
  pub same_answer : (A B : ℕ → Bool) → ((d : ℕ) → (A d || B d) ≡ true) → (f g : Image X) → ((k : Place) → A (slot k) ≡ true → f k ≡ g k) → program z W C K E S R nothing f (start B) ≡ program z W C K E S R nothing g (start B)
  same_answer A B all f g h = blind z W C K E S R nothing (start B) f g (λ k e. h k (left (A (slot k)) (B (slot k)) (all (slot k)) (first (B (slot k)) (not (ltb (slot k) z.n)) e)))
    where
      left : (a b : Bool) → (a || b) ≡ true → b ≡ false → a ≡ true
      left true b p q = refl
      left false b p q = absurd (false≢true (sym q ∙ p))

      first : (a b : Bool) → (a || b) ≡ false → a ≡ false
      first true b p = absurd (true≢false p)
      first false b p = refl
