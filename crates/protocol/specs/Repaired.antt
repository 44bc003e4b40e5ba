-- A REPAIR IS CUT. While its log is written the strip is as it was found. Once the log is flushed, whatever a cut leaves, the next start-up that takes the slot in
-- has stored the mended strip when it answers: so the strip is as found or repaired, and never a mixture that stays. Assumes nothing.
use Prim.Native.Nat.{ℕ, zero, suc, ◌≤◌, ◌<◌}
use Rattle.std.specs.Prelude.{◌≡◌, Bool}
use Rattle.std.proofs.Math.Path.{refl, ap}
use Rattle.std.proofs.Common.{◌∙◌, arith}
use Rattle.std.proofs.Math.Bool.{true, false}
use mathlib.Core.List.{List, [], ◌∷◌, ◌++◌}
use Rattle.protocol.specs.World.{log, strip, Image, World, Action, act, run, after, Sane, Always, During, sane_act}
use Rattle.protocol.specs.Batch.{flushes}
use Rattle.protocol.specs.Log.{Write, RecordCodec, Belief, Table, Complete, Quiet}
use Rattle.protocol.specs.Write.{log_write}
use Rattle.protocol.specs.Redo.{key, lead, redone, key_top, key_seen, the_strip}
use Rattle.protocol.specs.Label.{Size, believed, belief, Quorum, LabelCodec}
use Rattle.protocol.specs.Host.{Host, accused, Code}
use Rattle.protocol.specs.Program.{Stamps, Medium, clear, Own, idle, beyond, mask, flushed_first, may_start, finding}
use Rattle.protocol.specs.Machine.{sure}
use Rattle.protocol.specs.Veil.{Rot, Agree, Veiled, veiled_act, cleaned, cleaned_agrees, cleaned_possible}
use Rattle.protocol.specs.Rot.{Rotten, stores_of, wr}
use Rattle.protocol.specs.Decide.{settled, startup}

module _ {X : Type 0} (K : RecordCodec X) where
  -- slot d's log holds the record of the write wr with the stamp σ
  abbrev pub Recorded : ℕ → Write X → ℕ → Image X → Type 0
  Recorded σ wr d f = (j : ℕ) → j ≤ K.c → f (log d j) ≡ K.sector σ wr d j

  -- START-UP FINDS IT, with the greatest stamp and whole: it goes forward
  module _ (B : Belief) (history : ℕ → Write X) (κ : ℕ) (s : Table X) (f : Image X) (q : Quiet K B history (suc κ) s f) (d : ℕ) (only : (e : ℕ) → (history (suc κ)).changes e ≡ true → e ≡ d) (bel : B.believe d (history (suc κ)).stripe ≡ true) (ch : (history (suc κ)).changes d ≡ true) (fits : K.Fits (suc κ) (history (suc κ))) (rec : Recorded (suc κ) (history (suc κ)) d f) where
    pub stamped : (j : ℕ) → j ≤ K.c → K.stamp (f (log d j)) ≡ suc κ
    stamped j i = ap K.stamp (rec j i) ∙ K.stamp_sector (suc κ) (history (suc κ)) d j fits i

    look : B.look d ≡ true
    look = B.believe_look d (history (suc κ)).stripe bel

    pub found_key : key K B f (lead K B f) ≡ suc κ
    unfolding Quiet
    found_key = go (key K B f (lead K B f)) refl
      where
        high : suc κ ≤ key K B f (lead K B f)
        high = omega (arith, key_top K B history f d look, stamped K.c (omega arith))

        go : (x : ℕ) → key K B f (lead K B f) ≡ x → key K B f (lead K B f) ≡ suc κ
        go zero e = absurd (omega (arith, high))
        go (suc m) e = let y = key_seen K B history f (lead K B f) m e in omega (arith, high, e, y.1, q.logs.old (lead K B f) K.c y.0 (omega arith))

    pub redone_right : (j : ℕ) → j < K.c → redone K B f d j ≡ (history (suc κ)).new d j
    unfolding Quiet Complete
    redone_right j i = the_strip K B history f (suc κ) q.logs κ found_key d look (λ l g. stamped l g) j i

-- what holds of the disks, and of the clean ones, at every moment of the same actions
pub during_veiled : {X : Type 0} (c : ℕ) (rot : Rot) (P Q : Image X → Type 0) (w v : World X) (l : List (Action X)) → Veiled c rot w v → Sane v → During w l P → During v l Q → During w l (λ f. P f × ((g : Image X) × Agree c rot f g × Q g))
unfolding Always
during_veiled c rot P Q w v [] h s a b = λ f p. (a f p, (cleaned c rot v f, cleaned_agrees c rot v f, b (cleaned c rot v f) (cleaned_possible c rot w v f h s p)))
during_veiled c rot P Q w v (x ∷ l) h s a b = (λ f p. (a.0 f p, (cleaned c rot v f, cleaned_agrees c rot v f, b.0 (cleaned c rot v f) (cleaned_possible c rot w v f h s p))), during_veiled c rot P Q (act w x) (act v x) l (veiled_act c rot w v x h) (sane_act v x s) a.1 b.1)

pub during_after : {X : Type 0} (P : Image X → Type 0) (w : World X) (l r : List (Action X)) → During w (l ++ r) P → During (run w l) r P
during_after P w [] r h = h
during_after P w (a ∷ l) r h = during_after P (act w a) l r h.1

module _ {X : Type 0} (z : Size) (W : Quorum z.n) (C : LabelCodec X z.n) (K : RecordCodec X) (E : Code X z.n K.c W) (S : Stamps) (R : Medium z W C K E S) where
  -- start-up, from the image f: its list of actions
  abbrev pub begun_again : (ℕ → Bool) → Image X → List (Action X)
  begun_again A f = flushes (flushed_first z W C K E S R (beyond z.n A)) ++ startup z C K (beyond z.n A) (mask z W C K E S R (beyond z.n A) f)

  -- the strip of slot d in stripe t is that of the list v when the next start-up that is not refused, and takes the slot in, answers
  abbrev pub Repairs : Host X → ℕ → ℕ → Image X → Type 0
  Repairs v d t f =
      (A : ℕ → Bool) → may_start z W C K E S R (beyond z.n A) (mask z W C K E S R (beyond z.n A) f) ≡ clear → believed z (settled z C K (beyond z.n A) (mask z W C K E S R (beyond z.n A) f)) d t ≡ true
      → Always (run (after f) (begun_again A f)) (λ g. (j : ℕ) → j < K.c → g (strip d t j) ≡ E.shard t (v t) d j)

  module _ (rot : Rot) (w : World X) (o : Own) (v : Host X) (h : Rotten z W C K E S R rot w (idle o) (sure v)) (none : (d : ℕ) → d < z.n → o.now.out d ≡ false) (t : ℕ) (in_t : t < z.T) (r : ℕ) (acc : finding z W C K E S R (mask z W C K E S R o.absent w.cur) t ≡ accused r) (room : suc o.count < S.base (suc o.epoch)) where
    abbrev pub repairing : Write X
    repairing = wr z W C K E S R rot w o v h none t in_t r acc

    abbrev pub d : ℕ
    d = E.lies t r

    abbrev pub its_log : List (Action X)
    its_log = log_write K (belief z o.now) (suc o.count) repairing

    abbrev pub its_strips : List (Action X)
    its_strips = stores_of z W C K E S R o repairing
