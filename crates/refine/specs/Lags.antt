-- WHAT IS TOLD OF DISKS THAT WERE EXCHANGED WHILE NO PROGRAM RAN: until they are told of, the old disks of their slots are told to be there still. Beside those slots the one world reads as the other, and
-- holds after a cut only what the other may. The new disks have no valid label, so that a start-up that does not call such a slot absent is refused. Assumes nothing.
use Rattle.std.specs.Prelude.{◌≡◌, ◌⊎◌, Bool, ◌&&◌, ℕ, zero, suc, ◌<◌, replicate, Err, Some, None}
use Rattle.std.proofs.Math.Path.{refl, ap}
use Rattle.std.proofs.Common.{sym, subst, ◌∙◌, ⊎_elim, inl, inr, true≢false, arith}
use Rattle.std.proofs.Math.Bool.{true, false}
use mathlib.Core.List.{List}
use Rattle.std.proofs.Math.Decide.{ℕ_discrete}
use Rattle.disk.specs.Limits.{sector_bytes}
use Rattle.disk.specs.Mask.{in_mask}
use Rattle.disk.specs.Image.{sector}
use Rattle.disk.proofs.Image.{sector_put_other}
use Rattle.disk.specs.declared.geometry.Geometry.{Geometry}
use Rattle.disk.specs.declared.refusal.Refusal.TheVariants.{BadImage, NoLabel}
use Rattle.label.specs.Newest.{newer, newest_of, copy_of, disk_label, shelf_label, agreed}
use Rattle.label.specs.declared.fields.Label as bytes
use Rattle.label.specs.Fields.{Decoded}
use Rattle.label.proofs.Counts.{all_not, agreed_says}
use Rattle.rounds.specs.Survey.{fits_shelf, labelled, table, unless, survey_of}
use Rattle.protocol.specs.World.{Place, slot, World}
use Rattle.codecs.specs.Sector.{Sector}
use Rattle.codecs.specs.Shelf.{Shelf, slots, geometry, limits}
use Rattle.shelf.specs.Laws.{Legal}
use Rattle.stages.specs.declared.state.State.{State}
use Rattle.stages.specs.Told.{Answer}
use Rattle.stages.specs.Told as answer
use Rattle.refine.specs.Disks.{Disks, cur_of, image_fits}
use Rattle.refine.specs.Other.{unless_false}
use Rattle.refine.specs.Holds.{Follows}
use Rattle.refine.specs.Merged.{copy_alike}

-- ---- A WORLD AND THE ONE THAT IS TOLD: beside the slots of A the one reads as the other, and holds after a cut only what the other may; nothing is cached in the slots of A

pub record Lags (A : ℕ → Bool) (w w0 : World Sector) : Type 0 where
  pub reads : (k : Place) → A (slot k) ≡ false → w.cur k ≡ w0.cur k
  pub fewer : (k : Place) (x : Sector) → A (slot k) ≡ false → w.may k x → w0.may k x
  pub certain : (k : Place) (x : Sector) → A (slot k) ≡ true → w.may k x → x ≡ w.cur k

-- no slot
abbrev pub nowhere : ℕ → Bool
nowhere d = false

-- a world that may hold less lags too
pub lags_more : (A : ℕ → Bool) (w v w0 : World Sector) → Lags nowhere w v → Lags A v w0 → Lags A w w0
lags_more A w v w0 l h =
    record {
      reads = λ k a. l.reads k refl ∙ h.reads k a;
      fewer = λ k x a m. h.fewer k x a (l.fewer k x refl m);
      certain = λ k x a m. h.certain k x a (l.fewer k x refl m) ∙ sym (l.reads k refl);
    }

module _ (z : Shelf) where
  -- ---- BEHIND: since the program was last at rest the disks of the slots of A were exchanged, and the old ones are told

  pub record Behind (A : ℕ → Bool) (w : World Sector) (img : List ℕ) (w0 : World Sector) (img0 : List ℕ) : Type 0 where
    pub inner : (e : ℕ) → A e ≡ true → e < slots z
    pub lags : Lags A w w0
    pub disks : Disks z img
    pub reads : w.cur ≡ cur_of z img
    pub alike : (e u : ℕ) → e < slots z → u < z.sectors → A e ≡ false → sector z.sectors img e u ≡ sector z.sectors img0 e u
    pub blank : (e o : ℕ) → A e ≡ true → o < 2 → copy_of (geometry z) img e o ≡ None

  -- a start-up that does not call such a slot absent is refused: the slot has no label
  pub not_valid : (a : bytes.Label) → ◌≡◌ {A = Decoded} None (Some a) → ⊥
  not_valid a e = let i : ◌≡◌ {A = ℕ} 0 1 = cc in absurd (omega arith)

  pub bare : (img : List ℕ) (e : ℕ) → ((o : ℕ) → o < 2 → copy_of (geometry z) img e o ≡ None) → disk_label (geometry z) img e ≡ None
  unfolding disk_label newest_of
  bare img e blank = λ j. newer (newer None (blank 0 (omega arith) j)) (blank 1 (omega arith) j)

  pub unlabelled : (img : List ℕ) → Disks z img → (absent e : ℕ) → e < slots z → in_mask absent e ≡ false → ((o : ℕ) → o < 2 → copy_of (geometry z) img e o ≡ None) → survey_of (geometry z) img absent ≡ Err NoLabel
  unfolding survey_of
  unlabelled img disks absent e i p blank =
      ap (λ (b : Bool). unless b BadImage (table (geometry z) img absent (shelf_label (geometry z) img absent))) (image_fits z img disks)
      ∙ unless_false (labelled (geometry z) img absent (shelf_label (geometry z) img absent)) NoLabel _ (no (shelf_label (geometry z) img absent))
    where
      no : (x : Decoded) → labelled (geometry z) img absent x ≡ false
      no None = all_not (in_mask absent) (slots z) e i p
      no (Some lead) = by (agreed (geometry z) img absent lead) refl
        where
          by : (b : Bool) → agreed (geometry z) img absent lead ≡ b → (agreed (geometry z) img absent lead && fits_shelf (geometry z) lead) ≡ false
          by true q = let y = agreed_says (geometry z) img absent lead q e i p in absurd (not_valid y.label (sym (bare img e blank) ∙ y.is))
          by false q = ap (λ (b : Bool). b && fits_shelf (geometry z) lead) q

  pub few_low : (o : ℕ) → o < 2 → o < z.sectors
  few_low o l = omega (arith, (limits z).0.room)

  -- does it call them all absent?
  pub covers : (A : ℕ → Bool) (absent i : ℕ) → ((e : ℕ) → e < i → A e ≡ true → in_mask absent e ≡ true) ⊎ ((e : ℕ) × (e < i) × (A e ≡ true) × (in_mask absent e ≡ false))
  covers A absent zero = inl (λ e l a. absurd (omega arith))
  covers A absent (suc i) = by (covers A absent i) (A i) refl (in_mask absent i) refl
    where
      Some : ℕ → Type 0
      Some n = ((e : ℕ) → e < n → A e ≡ true → in_mask absent e ≡ true) ⊎ ((e : ℕ) × (e < n) × (A e ≡ true) × (in_mask absent e ≡ false))

      last : ((e : ℕ) → e < i → A e ≡ true → in_mask absent e ≡ true) → (A i ≡ true → in_mask absent i ≡ true) → (e : ℕ) → e < suc i → A e ≡ true → in_mask absent e ≡ true
      last all h e l a = go (ℕ_discrete e i)
        where
          go : Dec (e ≡ i) → in_mask absent e ≡ true
          go (yes q) = subst (λ (n : ℕ). in_mask absent n ≡ true) (sym q) (h (subst (λ (n : ℕ). A n ≡ true) q a))
          go (no q) = all e (omega (arith, q)) a

      by : Some i → (a : Bool) → A i ≡ a → (b : Bool) → in_mask absent i ≡ b → Some (suc i)
      by (inr y) a p b q = inr (y.0, omega (arith, y.1), y.2, y.3)
      by (inl all) true p true q = inl (last all (λ u. q))
      by (inl all) true p false q = inr (i, omega arith, p, q)
      by (inl all) false p b q = inl (last all (λ u. absurd (true≢false (sym u ∙ p))))

pub absent_kept : (s : State) (g : Geometry) (img next : List ℕ) (a : Answer) → Legal a s.absent g img next → (e u : ℕ) → e < g.n → u < g.sectors → in_mask s.absent e ≡ true → sector g.sectors next e u ≡ sector g.sectors img e u
absent_kept s g img next (answer.Put d to) h e u i l q =
    ap (λ (x : List ℕ). sector g.sectors x e u) h.image
    ∙ sector_put_other g.n g.sectors img h.bytes h.shape h.whole d to h.slot h.low e u i l (λ y. true≢false (sym q ∙ (ap (in_mask s.absent) y.0 ∙ h.present)))
absent_kept s g img next (answer.Flush d) h e u i l q = ap (λ (x : List ℕ). sector g.sectors x e u) h.image
absent_kept s g img next answer.Done h e u i l q = ap (λ (x : List ℕ). sector g.sectors x e u) h
absent_kept s g img next (answer.Refused why) h e u i l q = ap (λ (x : List ℕ). sector g.sectors x e u) h

-- the shape of a label is in the sectors of its slot
pub follows_alike : (z : Shelf) (x y : List ℕ) → Disks z x → Disks z y → (d : ℕ) → d < slots z → ((o : ℕ) → o < 2 → sector z.sectors x d o ≡ sector z.sectors y d o) → Follows z y d → Follows z x d
follows_alike z x y dx dy d i h f =
    let c : (o : ℕ) → o < 2 → copy_of (geometry z) x d o ≡ copy_of (geometry z) y d o = λ o l. copy_alike z x y dx dy d o i l (h o l) in
    record {
      calm = λ s o a k l q.
          ⊎_elim (λ (e : sector z.sectors y d s ≡ replicate sector_bytes 0). inl (h s k ∙ e)) (λ (e : (b : bytes.Label) × (copy_of (geometry z) y d s ≡ Some b)). inr (e.0, c s k ∙ e.1)) (f.calm s o a k l (sym (c o l) ∙ q));
      follow = λ a b p q. f.follow a b (sym (c 0 (omega arith)) ∙ p) (sym (c 1 (omega arith)) ∙ q);
    }
