-- WHAT IS TOLD OF DISKS THAT WERE EXCHANGED WHILE NO PROGRAM RAN: until they are told of, the old disks of their slots are told to be there still. Beside those slots the one world reads as the other, and
-- holds after a cut only what the other may. The new disks have no valid label, so that a start-up that does not call such a slot absent is refused. Assumes nothing.
use Rattle.std.specs.Prelude.{◌≡◌, Bool, ℕ, ◌<◌}
use Rattle.std.proofs.Math.Path.{refl, ap}
use Rattle.std.proofs.Common.{sym, subst, ◌∙◌, ⊎_elim, inl, inr, true≢false}
use Rattle.std.proofs.Math.Bool.{false}
use mathlib.Core.List.{List}
use Rattle.label.specs.Valid.{decode_of}
use Rattle.label.specs.Newest.{copy_of}
use Rattle.protocol.specs.World.{Place, label, slot, update, update_other, World, put, flush, act}
use Rattle.codecs.specs.Sector.{Sector}
use Rattle.codecs.specs.Shelf.{Shelf, slots, geometry}
use Rattle.codecs.specs.Labels.{sector_of}
use Rattle.stages.specs.Told.{Answer}
use Rattle.stages.specs.Told as answer
use Rattle.refine.specs.Places.{label_inside}
use Rattle.refine.specs.Places as places
use Rattle.refine.specs.Disks.{Disks, cur_of}
use Rattle.refine.proofs.Disks.{cur_read}
use Rattle.refine.specs.Chain.{Heard}
use Rattle.refine.specs.Touched.{Touches}
use Rattle.refine.specs.Lags.{Lags}

lags_put : (A : ℕ → Bool) (w w0 : World Sector) (k : Place) (v : Sector) → A (slot k) ≡ false → Lags A w w0 → Lags A (act w (put k v)) (act w0 (put k v))
unfolding update
lags_put A w w0 k v n h =
    record {
      reads = λ l a. ap (λ (y : Sector). update (λ (m : Place). y) k v l) (h.reads l a);
      fewer = λ l x a m. ⊎_elim (λ (y : w.may l x). inl (h.fewer l x a y)) (λ (y : (l ≡ k) × (x ≡ v)). inr y) m;
      certain = λ l x a m.
          ⊎_elim (λ (y : w.may l x). h.certain l x a y ∙ sym (update_other w.cur k v l (λ q. true≢false (sym a ∙ (ap (λ (e : Place). A (slot e)) q ∙ n)))))
          (λ (y : (l ≡ k) × (x ≡ v)). absurd (true≢false (sym a ∙ (ap (λ (e : Place). A (slot e)) y.0 ∙ n)))) m;
    }

lags_flush : (A : ℕ → Bool) (w w0 : World Sector) (d : ℕ) → Lags A w w0 → Lags A (act w (flush d)) (act w0 (flush d))
lags_flush A w w0 d h =
    record {
      reads = h.reads;
      fewer = λ l x a m. (h.fewer l x a m.0, λ q. m.1 q ∙ h.reads l a);
      certain = λ l x a m. h.certain l x a m.0;
    }

-- what the caller does with the disks is told too
pub lags_heard : (z : Shelf) (A : ℕ → Bool) (w w0 : World Sector) (a : Answer) (img img0 : List ℕ) (w' : World Sector) → Lags A w w0 → ((e : ℕ) → Touches a e → A e ≡ false)
    → ((k : Place) → A (slot k) ≡ false → cur_of z img k ≡ cur_of z img0 k) → Heard z w a img w' → (w0' : World Sector) × Heard z w0 a img0 w0' × Lags A w' w0'
lags_heard z A w w0 (answer.Put d to) img img0 w' h t same (k, i, s, o, e) =
    let n : A (slot k) ≡ false = ap A s ∙ t d refl in (
      act w0 (put k (cur_of z img0 k)),
      (k, i, s, o, refl),
      subst (λ (x : World Sector). Lags A x (act w0 (put k (cur_of z img0 k)))) (sym e) (subst (λ (v : Sector). Lags A (act w (put k v)) (act w0 (put k (cur_of z img0 k)))) (sym (same k n)) (lags_put A w w0 k (cur_of z img0 k) n h)),
    )
lags_heard z A w w0 (answer.Flush d) img img0 w' h t same e = (act w0 (flush d), refl, subst (λ (x : World Sector). Lags A x (act w0 (flush d))) (sym e) (lags_flush A w w0 d h))
lags_heard z A w w0 answer.Done img img0 w' h t same e = (w0, refl, subst (λ (x : World Sector). Lags A x w0) (sym e) h)
lags_heard z A w w0 (answer.Refused why) img img0 w' h t same e = (w0, refl, subst (λ (x : World Sector). Lags A x w0) (sym e) h)

module _ (z : Shelf) where
  pub label_alike : (x y : List ℕ) → Disks z x → Disks z y → (e : ℕ) (b : Bool) → e < slots z → cur_of z x (label e b) ≡ cur_of z y (label e b) → copy_of (geometry z) x e (sector_of b) ≡ copy_of (geometry z) y e (sector_of b)
  unfolding copy_of places.sector_of places.copy_sector
  label_alike x y dx dy e b i q =
      ap (λ (v : List ℕ). decode_of v e (sector_of b)) (sym (cur_read z x dx (label e b) (label_inside z e b i)) ∙ ap (λ (v : Sector). v.bytes) q ∙ cur_read z y dy (label e b) (label_inside z e b i))
