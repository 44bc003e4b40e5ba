-- A slot's bay may hold another disk than the slot's last one: such a slot is odd. Its last disk lies elsewhere, and the shelf is what all the last disks hold.
-- What the labels on all of these disks may be, while rounds are written on the disks in the bays.
use Rattle.std.specs.Prelude.{ℕ, suc, ◌≤◌, ◌<◌, ◌≡◌, Bool, ◌≢◌}
use Rattle.std.proofs.Math.Path.{refl, ap, subst}
use Rattle.std.proofs.Common.{sym, ◌∙◌, true≢false}
use Rattle.std.proofs.Math.Bool.{true, false, cond}
use Rattle.std.proofs.Math.Logic.{⊎_elim}
use Rattle.protocol.specs.World.{Place, label, slot, Image, update, update_here, update_other, same_or_not}
use Rattle.protocol.specs.Label.{Label, Size, looked, Quorum, LabelCodec, copy, copy_same, Aged, MayRule, Labels}

module _ {X : Type 0} (odd : ℕ → Bool) (last : Image X) where
  -- the last disk of every slot; f: what is in the bays, last: what the last disks of the odd slots hold
  unfoldable pub front : Image X → Image X
  front f k = cond (odd (slot k)) (last k) (f k)

  pub front_in : (f : Image X) (k : Place) → odd (slot k) ≡ false → front f k ≡ f k
  unfolding front
  front_in f k e = rw e

  front_other : (f : Image X) (k : Place) (v : X) (j : Place) → j ≢ k → front (update f k v) j ≡ front f j
  unfolding front
  front_other f k v j n = ap (cond (odd (slot j)) (last j)) (update_other f k v j n)

  -- a put on an odd slot does not reach its last disk
  pub front_odd : (f : Image X) (k : Place) (v : X) → odd (slot k) ≡ true → (j : Place) → front (update f k v) j ≡ front f j
  unfolding front
  front_odd f k v o j = ⊎_elim (λ q. go (odd (slot j)) (ap (λ (x : Place). odd (slot x)) q ∙ o)) (λ n. front_other f k v j n) (same_or_not j k)
    where
      go : (b : Bool) → b ≡ true → cond b (last j) (update f k v j) ≡ cond b (last j) (f j)
      go true e = refl
      go false e = absurd (true≢false (sym e))

  -- and one on another slot does
  pub front_put : (f : Image X) (k : Place) (v : X) → odd (slot k) ≡ false → (j : Place) → front (update f k v) j ≡ update (front f) k v j
  front_put f k v o j =
      ⊎_elim (λ q. subst (λ (x : Place). front (update f k v) x ≡ update (front f) k v x) (sym q) (front_in (update f k v) k o ∙ (update_here f k v ∙ sym (update_here (front f) k v))))
      (λ n. front_other f k v j n ∙ sym (update_other (front f) k v j n)) (same_or_not j k)

module _ {X : Type 0} (z : Size) (W : Quorum z.n) (C : LabelCodec X z.n) where
  -- What a label l may be that lies on a disk of slot d, but not on its last one. cap, fine: as on every disk.
  -- own: if it is of Q's generation or newer, it calls its own slot plainly out. near: if it is one generation older, it does so or Q does.
  pub record Aside (Q N : Label) (top d : ℕ) (l : Label) : Type 0 where
    pub cap : l.generation ≤ top
    pub fine : 0 < l.generation → Q.generation ≤ l.generation → MayRule z W C Q N l
    pub own : 0 < l.generation → Q.generation ≤ l.generation → looked z l d ≡ true → ⊥
    pub near : 0 < l.generation → suc l.generation ≡ Q.generation → looked z Q d ≡ true → looked z l d ≡ true → ⊥

  -- lasts: the last disks are as the disks of a shelf must be. odds: the others in the bays are as above.
  pub record Bays (Q N : Label) (top : ℕ) (far odd : ℕ → Bool) (last f : Image X) : Type 0 where
    pub lasts : Labels z W C Q N top far (front odd last f)
    pub odds : (d : ℕ) (b : Bool) → d < z.n → odd d ≡ true → Aside Q N top d (copy C f d b)

  module _ (Q N : Label) (top : ℕ) (far odd : ℕ → Bool) (last : Image X) where
    pub same_copy : (f : Image X) (d : ℕ) (b : Bool) → odd d ≡ false → copy C (front odd last f) d b ≡ copy C f d b
    same_copy f d b o = copy_same C f (front odd last f) d b (front_in odd last f (label d b) o)

    -- where the last disk is in the bay
    pub aged_in : (f : Image X) (d g : ℕ) → odd d ≡ false → Aged C (front odd last f) d g → Aged C f d g
    unfolding Aged
    aged_in f d g o a = (a.0, subst (λ (l : Label). g ≤ l.generation) (same_copy f d a.0 o) a.1)

    pub aged_out : (f : Image X) (d g : ℕ) → odd d ≡ false → Aged C f d g → Aged C (front odd last f) d g
    unfolding Aged
    aged_out f d g o a = (a.0, subst (λ (l : Label). g ≤ l.generation) (sym (same_copy f d a.0 o)) a.1)
