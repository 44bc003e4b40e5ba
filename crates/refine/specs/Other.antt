-- OTHER NUMBERS THAN THE SHELF'S OWN, on disks whose labels are all this shelf's. Start-up with another n, c or S is refused: BAD_IMAGE if the image is not of that length, else NO_LABEL (TOO_FEW if it
-- is told that every slot is absent); create is refused where the image is not zeros. Of start-up one thing is asked: if it is told another S, it is not told too that slot 0 is absent. Every other slot
-- begins elsewhere then, where any bytes may stand, also bytes that read as labels. Assumes nothing.
use Rattle.std.specs.Prelude.{◌≡◌, ◌⊎◌, Bool, cond, List, ℕ, ◌+◌, eqb, Ok, Err}
use Rattle.std.proofs.Math.Path.{refl, ap}
use Rattle.std.proofs.Common.{inl, inr, eqb-true}
use Rattle.std.proofs.Math.Bool.{true, false}
use Rattle.std.proofs.Math.ListN.{length}
use Rattle.std.proofs.lemmas.Bool.{eqb-false}
use Rattle.disk.specs.Mask.{in_mask}
use Rattle.disk.specs.Image.{fits_image}
use Rattle.disk.specs.declared.geometry.Geometry.{Geometry}
use Rattle.disk.specs.declared.refusal.Refusal.{Refusal}
use Rattle.disk.specs.declared.refusal.Refusal.TheVariants.{BadImage, NoLabel, TooFew, NotNow, BadBuffer}
use Rattle.label.specs.Bytes.{all_zero}
use Rattle.label.specs.Newest.{all_of}
use Rattle.rounds.specs.Survey.{unless}
use Rattle.rounds.specs.Survey.{Survey}
use Rattle.disk.specs.Refusal.{Outcome}
use Rattle.requests.specs.Begun.{work_bytes}
use Rattle.requests.specs.Create.{shelf_fits, create_answer}
use Rattle.codecs.specs.Shelf.{Shelf, slots, geometry}

-- what start-up is told of slot 0 and of S: the S is the shelf's own, or slot 0 is present
abbrev pub Sits : Shelf → Geometry → ℕ → Type 0
Sits z g absent = (g.sectors ≡ z.sectors) ⊎ (in_mask absent 0 ≡ false)

-- the refusal of another geometry
abbrev pub other_code : Geometry → ℕ → ℕ → Refusal
other_code g len absent = cond (fits_image g len) (cond (all_of (in_mask absent) g.n) TooFew NoLabel) BadImage

pub unless_false : (b : Bool) (why : Refusal) (s : Survey) → b ≡ false → unless b why s ≡ Err why
unless_false b why s e = ap (λ (x : Bool). unless x why s) e

-- the three numbers are the shelf's, or they are not
pub same_numbers : (z : Shelf) (g : Geometry) → (g ≡ geometry z) ⊎ (g ≡ geometry z → ⊥)
same_numbers z g = go (eqb g.n (slots z)) refl (eqb g.c z.c) refl (eqb g.sectors z.sectors) refl
  where
    go : (a : Bool) → eqb g.n (slots z) ≡ a → (b : Bool) → eqb g.c z.c ≡ b → (c : Bool) → eqb g.sectors z.sectors ≡ c → (g ≡ geometry z) ⊎ (g ≡ geometry z → ⊥)
    go true p true q true r = inl (λ i. record { n = eqb-true g.n (slots z) p i; c = eqb-true g.c z.c q i; sectors = eqb-true g.sectors z.sectors r i })
    go false p b q c r = inr (λ e. eqb-false g.n (slots z) p (ap (λ (x : Geometry). x.n) e))
    go true p false q c r = inr (λ e. eqb-false g.c z.c q (ap (λ (x : Geometry). x.c) e))
    go true p true q false r = inr (λ e. eqb-false g.sectors z.sectors r (ap (λ (x : Geometry). x.sectors) e))

-- CREATE IS REFUSED on an image that is not zeros, whatever its numbers: BAD_IMAGE if they are no shelf's or not of that length, else NOT_NOW
pub create_late : (k m c S : ℕ) (img : List ℕ) (room : ℕ) → all_zero img ≡ false → create_answer k m c S img room ≡ Err (cond (shelf_fits k m c S (length img)) NotNow BadImage)
unfolding create_answer
create_late k m c S img room e = go (shelf_fits k m c S (length img))
  where
    go : (b : Bool) → cond {A = Outcome} b (cond (all_zero img) (cond (eqb room (work_bytes (k + m) c)) (Ok tt) (Err BadBuffer)) (Err NotNow)) (Err BadImage) ≡ Err (cond b NotNow BadImage)
    go true = ap (λ (b : Bool). cond b (cond (eqb room (work_bytes (k + m) c)) (Ok tt) (Err BadBuffer)) (Err NotNow)) e
    go false = refl
