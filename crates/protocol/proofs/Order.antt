-- THE DISK OF DOCUMENT 03, SECTION 4: sector writes reach it in the order in which they were issued, so a cut leaves every one of them. Whatever
-- happens on such disks happens, in the same words, on disks with caches: so all that is promised there is promised here.
use Rattle.std.specs.Prelude.{◌≡◌, true, false, List, ◌∷◌}
use Rattle.std.proofs.Math.Path.{refl, ap, subst}
use Rattle.std.proofs.Common.{◌∙◌}
use Rattle.protocol.specs.World.{Image, World, Action, put, flush, act, after, Sane, sane_act, sane_after, always_after, Always}
use Rattle.protocol.specs.Log.{RecordCodec}
use Rattle.protocol.specs.Label.{Size, Quorum, LabelCodec}
use Rattle.protocol.specs.Host.{Code}
use Rattle.protocol.specs.Program.{Stamps, Medium, Memory, nothing, Reply, accepted, refused, did, safe, done, block, found, program}
use Rattle.protocol.specs.Machine.{at, effect, Event, ask, power_cut, program_dies, from_outside, from_host, Runs, stays, goes, View, sure, Views}
use Rattle.protocol.specs.Invariant.{Invariant}
use Rattle.protocol.specs.Promise.{Zeros}
use Rattle.protocol.proofs.Kept.{promised}
use Rattle.protocol.specs.Order.{written, plainly, Ordered, ends, cuts, stops, asks}

module _ {X : Type 0} (z : Size) (W : Quorum z.n) (C : LabelCodec X z.n) (K : RecordCodec X) (E : Code X z.n K.c W) (S : Stamps) (R : Medium z W C K E S) where
  effect_sane : (w : World X) (r : Reply X) → Sane w → Sane (effect w r)
  effect_sane w accepted s = s
  effect_sane w (refused why) s = s
  effect_sane w (did a) s = sane_act w a s
  effect_sane w safe s = s
  effect_sane w (done k) s = s
  effect_sane w (block b) s = s
  effect_sane w (found x) s = s

  acts_cur : (w : World X) (a : Action X) → (act w a).cur ≡ written w.cur a
  acts_cur w (put k x) = refl
  acts_cur w (flush d) = refl

  effect_cur : (w : World X) (r : Reply X) → (effect w r).cur ≡ plainly w.cur r
  effect_cur w accepted = refl
  effect_cur w (refused why) = refl
  effect_cur w (did a) = acts_cur w a
  effect_cur w safe = refl
  effect_cur w (done k) = refl
  effect_cur w (block b) = refl
  effect_cur w (found x) = refl

  cached : {f g : Image X} {m m' : Memory X} {l : List (Event X)} → (Ordered z W C K E S R) f m l g m' → (w : World X) → Sane w → w.cur ≡ f → (w' : World X) × Runs z W C K E S R (at w m) l (at w' m') × (w'.cur ≡ g)
  unfolding Sane after
  cached ends w s e = (w, stays, e)
  cached (cuts {m = m} r) w s e =
      let y = cached r (after w.cur) (sane_after w.cur) e in
      (y.0, goes (from_outside (power_cut {w = w} {m = m} w.cur s)) y.1, y.2)
  cached (stops {m = m} r) w s e =
      let y = cached r w s e in
      (y.0, goes (from_outside (program_dies {w = w} {m = m})) y.1, y.2)
  cached (asks {f = f} {g = g} {m = m} {m' = m'} {l = l} i r) w s e =
      let p : Image X → Memory X × Reply X = λ h. program z W C K E S R m h i in
      let y = cached r (effect w (p f).1) (effect_sane w (p f).1 s) (effect_cur w (p f).1 ∙ ap (λ (h : Image X). plainly h (p f).1) e) in
      (y.0, subst (λ (h : Image X). Runs z W C K E S R (at (effect w (p h).1) (p h).0) l (at y.0 m') → Runs z W C K E S R (at w m) (ask i (p h).1 ∷ l) (at y.0 m')) e (λ q. goes (from_host {w = w} {m = m} i) q) y.1, y.2)

  -- THE PROMISE ON SUCH DISKS, from zeros on
  pub in_order : (f : Image X) → W.few (λ d. false) ≡ true → Zeros z W C K E S R f → {l : List (Event X)} {g : Image X} {m : Memory X} → (Ordered z W C K E S R) f nothing l g m → (w : World X) × (w.cur ≡ g) × (p : View X) × Views K.c (sure (λ t i j. K.zeros)) l p × Invariant z W C K E S R (at w m) p
  unfolding after
  in_order f few h r =
      let y = cached r (after f) (sane_after f) (now f) in
      let q = promised z W C K E S R (after f) (sane_after f) few (certain f h) y.1 in
      (y.0, y.2, q.0, q.1, q.2)
    where
      now : (f : Image X) → (after f).cur ≡ f
      now f = refl

      certain : (f : Image X) → Zeros z W C K E S R f → Always (after f) (Zeros z W C K E S R)
      certain f h = always_after (Zeros z W C K E S R) f h
