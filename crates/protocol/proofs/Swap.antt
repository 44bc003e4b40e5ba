-- Another disk in a slot that is absent: what it holds does not matter, as long as its labels are older than the settled one.
use Rattle.std.specs.Prelude.{ℕ, ◌≤◌, ◌<◌, ◌≡◌, Bool, cond, ◌⊎◌, ◌≢◌}
use Rattle.std.proofs.Math.Path.{refl, subst}
use Rattle.std.proofs.Common.{sym, inl, inr, arith, ne_eqb}
use Rattle.std.proofs.Math.Bool.{true, false}
use Rattle.std.proofs.Math.Logic.{⊎_elim}
use Rattle.std.proofs.Math.Decide.{ℕ_discrete}
use Rattle.std.proofs.Math.Dec.{eqb}
use Rattle.std.proofs.lemmas.Bool.{eqb-false}
use Rattle.protocol.specs.World.{Place, label, log, strip, slot, Image, World, Possible, Sane, Always}
use Rattle.protocol.specs.Log.{Write, RecordCodec, Table, within_self}
use Rattle.protocol.specs.Label.{Label, Size, looked, belief, Quorum, LabelCodec, copy, copy_same, Aged, MayRule}
use Rattle.protocol.proofs.Label.{look_is}
use Rattle.protocol.specs.Startup.{Framed}
use Rattle.protocol.specs.Decide.{quiet_framed, Rest}
use Rattle.protocol.specs.Swap.{Swapped}

module _ {X : Type 0} (z : Size) (W : Quorum z.n) (C : LabelCodec X z.n) (K : RecordCodec X) (history : ℕ → Write X) (u : ℕ) (Q : Label) (s : Table X) (d : ℕ) (w w' : World X) (sw : Swapped C d Q.generation w w') where
  -- as if the disk had stayed
  back : Image X → Image X
  back f k = cond (eqb (slot k) d) (w.cur k) (f k)

  back_other : (f : Image X) (k : Place) → slot k ≢ d → f k ≡ back f k
  unfolding back
  back_other f k n = rw (ne_eqb (slot k) d n)

  back_possible : (f : Image X) → Sane w → Possible w' f → Possible w (back f)
  unfolding Possible Sane back
  back_possible f sane p k = go (eqb (slot k) d) refl
    where
      go : (b : Bool) → eqb (slot k) d ≡ b → w.may k (cond b (w.cur k) (f k))
      go true e = sane k
      go false e = sw.others k (eqb-false (slot k) d e) (f k) (p k)

  pub rest_swap : Sane w → (looked z Q d ≡ true → ⊥) → Always w (Rest z W C K history u Q s) → Always w' (Rest z W C K history u Q s)
  unfolding Always Framed Aged belief
  rest_swap sane dark h f p =
      record {
        labels = record {
          few_Q = r.labels.few_Q;
          few_far = r.labels.few_far;
          low = λ e i o. let y = r.labels.low e i o in (y.0, subst (λ (l : Label). Q.generation ≤ l.generation) (sym (same e y.0 (not_d e i o))) y.1);
          cap = λ e b i. ⊎_elim (λ q. rw q (omega (arith, sw.older f p b))) (λ q. subst (λ (l : Label). l.generation ≤ Q.generation) (sym (same e b q)) (r.labels.cap e b i)) (decode e);
          near = λ e g i o j. let y = r.labels.near e g i o j in (y.0, subst (λ (l : Label). g ≤ l.generation) (sym (same e y.0 (not_d e i o))) y.1);
          fine = λ e b i y g. ⊎_elim (λ q. absurd (omega (arith, sw.older f p b, subst (λ (x : ℕ). Q.generation ≤ (copy C f x b).generation) q g))) (λ q. subst (λ (l : Label). MayRule z W C Q Q l) (sym (same e b q)) (r.labels.fine e b i (subst (λ (l : Label). 0 < l.generation) (same e b q) y) (subst (λ (l : Label). Q.generation ≤ l.generation) (same e b q) g))) (decode e);
        };
        quiet = quiet_framed K history u s (belief z Q) (belief z Q) (within_self (belief z Q)) (back f) f
            (record {
              on_log = λ e j a. back_other f (log e j) (λ q. dark (subst (λ (x : ℕ). looked z Q x ≡ true) q a));
              on_strip_lem = λ e t j a. back_other f (strip e t j) (λ q. dark (subst (λ (x : ℕ). looked z Q x ≡ true) q a));
            }) r.quiet;
      }
    where
      r : Rest z W C K history u Q s (back f)
      r = h (back f) (back_possible f sane p)

      decode : (e : ℕ) → (e ≡ d) ⊎ (e ≢ d)
      decode e = go (ℕ_discrete e d)
        where
          go : Dec (e ≡ d) → (e ≡ d) ⊎ (e ≢ d)
          go (yes q) = inl q
          go (no q) = inr q

      not_d : (e : ℕ) → e < z.n → Q.out e ≡ false → e ≢ d
      not_d e i o q = dark (subst (λ (x : ℕ). looked z Q x ≡ true) q (look_is z Q e i (inl o)))

      same : (e : ℕ) (b : Bool) → e ≢ d → copy C f e b ≡ copy C (back f) e b
      same e b n = copy_same C (back f) f e b (back_other f (label e b) n)
