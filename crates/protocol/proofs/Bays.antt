-- A slot's bay may hold another disk than the slot's last one: such a slot is odd. Its last disk lies elsewhere, and the shelf is what all the last disks hold.
-- What the labels on all of these disks may be, while rounds are written on the disks in the bays.
use Rattle.std.specs.Prelude.{ℕ, suc, ◌≤◌, ◌<◌, ◌≡◌, Bool}
use Rattle.std.proofs.Math.Path.{refl, subst}
use Rattle.std.proofs.Common.{sym, true≢false, arith}
use Rattle.std.proofs.Math.Bool.{true, false}
use Rattle.protocol.specs.World.{Place, label, Image, update}
use Rattle.protocol.specs.Label.{Label, Size, looked, Quorum, LabelCodec, copy, copy_told, Aged, MayRule, Labels}
use Rattle.protocol.proofs.Label.{labels_put, labels_rise, labels_same}
use Rattle.protocol.specs.Bays.{front, front_odd, front_put, Aside, Bays, same_copy, aged_out}

module _ {X : Type 0} (z : Size) (W : Quorum z.n) (C : LabelCodec X z.n) where
  -- no slot is odd
  pub bays_all : (Q N : Label) (top : ℕ) (far : ℕ → Bool) (last f : Image X) → Labels z W C Q N top far f → (Bays z W C) Q N top far (λ d. false) last f
  unfolding front
  bays_all Q N top far last f h = record { lasts = h; odds = λ d b i o. absurd (true≢false (sym o)) }

  pub aside_top : (Q N : Label) (top top' d : ℕ) (l : Label) → top ≤ top' → (Aside z W C) Q N top d l → (Aside z W C) Q N top' d l
  aside_top Q N top top' d l i h = record { cap = omega (arith, h.cap); fine = h.fine; own = h.own; near = h.near }

  module _ (Q N : Label) (top : ℕ) (far odd : ℕ → Bool) (last : Image X) where
    pub bays_cap : (f : Image X) → (Bays z W C) Q N top far odd last f → (d : ℕ) (b : Bool) → d < z.n → (copy C f d b).generation ≤ top
    bays_cap f h d b i = go (odd d) refl
      where
        go : (x : Bool) → odd d ≡ x → (copy C f d b).generation ≤ top
        go true e = (h.odds d b i e).cap
        go false e = subst (λ (l : Label). l.generation ≤ top) ((same_copy z W C Q N top far odd last) f d b e) (h.lasts.cap d b i)

    pub bays_fine : (f : Image X) → (Bays z W C) Q N top far odd last f → (d : ℕ) (b : Bool) → d < z.n → 0 < (copy C f d b).generation → Q.generation ≤ (copy C f d b).generation → MayRule z W C Q N (copy C f d b)
    bays_fine f h d b i = go (odd d) refl
      where
        go : (x : Bool) → odd d ≡ x → 0 < (copy C f d b).generation → Q.generation ≤ (copy C f d b).generation → MayRule z W C Q N (copy C f d b)
        go true e = (h.odds d b i e).fine
        go false e = subst (λ (l : Label). 0 < l.generation → Q.generation ≤ l.generation → MayRule z W C Q N l) ((same_copy z W C Q N top far odd last) f d b e) (h.lasts.fine d b i)

    -- slot d is told l; if it is odd, l calls it plainly out
    pub bays_put : (f : Image X) (l : Label) (d : ℕ) → C.Fits l → Q.generation ≤ l.generation → l.generation ≤ top → top ≤ suc l.generation → MayRule z W C Q N l → (odd d ≡ true → looked z l d ≡ true → ⊥) → (Bays z W C) Q N top far odd last f → (Bays z W C) Q N top far odd last (update f (label d (C.side l.generation)) (C.encode d l))
    bays_put f l d fit a b c ok dark h =
        record {
          lasts = go (odd d) refl;
          odds = λ e s i o. copy_told C ((Aside z W C) Q N top e) l d f fit e s i (λ q. record { cap = b; fine = λ x y. ok; own = λ x y. subst (λ (x : ℕ). odd x ≡ true → looked z l x ≡ true → ⊥) (sym q) dark o; near = λ x y. absurd (omega arith) }) (h.odds e s i o);
        }
      where
        k : Place
        k = label d (C.side l.generation)

        v : X
        v = C.encode d l

        go : (x : Bool) → odd d ≡ x → Labels z W C Q N top far (front odd last (update f k v))
        go true e = labels_same z W C Q N top far (front odd last f) (front odd last (update f k v)) (λ x s. front_odd odd last f k v e (label x s)) h.lasts
        go false e = labels_same z W C Q N top far (update (front odd last f) k v) (front odd last (update f k v)) (λ x s. front_put odd last f k v e (label x s)) (labels_put z W C Q N top far (front odd last f) l d fit a b c ok h.lasts)

    pub bays_rise : (top' : ℕ) (far' : ℕ → Bool) (f : Image X) → top ≤ top' → W.few far' ≡ true → ((d g : ℕ) → d < z.n → far' d ≡ false → g < top' → (odd d ≡ false) × Aged C f d g) → (Bays z W C) Q N top far odd last f → (Bays z W C) Q N top' far' odd last f
    bays_rise top' far' f h few n o =
        record {
          lasts = labels_rise z W C Q N top top' far far' (front odd last f) h few (λ d g i x j. let y = n d g i x j in (aged_out z W C Q N top far odd last) f d g y.0 y.1) o.lasts;
          odds = λ d b i x. aside_top Q N top top' d (copy C f d b) h (o.odds d b i x);
        }
