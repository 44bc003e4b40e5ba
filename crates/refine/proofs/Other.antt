-- OTHER NUMBERS THAN THE SHELF'S OWN, on disks whose labels are all this shelf's. Start-up with another n, c or S is refused: BAD_IMAGE if the image is not of that length, else NO_LABEL (TOO_FEW if it
-- is told that every slot is absent); create is refused where the image is not zeros. Of start-up one thing is asked: if it is told another S, it is not told too that slot 0 is absent. Every other slot
-- begins elsewhere then, where any bytes may stand, also bytes that read as labels. Assumes nothing.
use Rattle.std.specs.Prelude.{◌≡◌, Bool, cond, ◌&&◌, List, [], ℕ, zero, suc, ◌+◌, ◌*◌, ◌<◌, ◌/◌, take, drop, Err, Some, None}
use Rattle.std.proofs.Math.Path.{refl, sym, ap, ap₂}
use Rattle.std.proofs.Common.{◌∙◌, ⊎_elim, true≢false, arith, lt-ltb}
use Rattle.std.proofs.Math.Bool.{true, false}
use Rattle.std.proofs.Math.Arith.{digits_div}
use Rattle.std.proofs.Math.Dec.{ltb}
use Rattle.std.proofs.Math.ListN.{length}
use Rattle.disk.specs.Limits.{sector_bytes}
use Rattle.disk.specs.Tests.{both}
use Rattle.disk.specs.Mask.{in_mask}
use Rattle.disk.specs.Image.{sector, on_shelf, read_of, fits_image, fits_image_lem, Shape}
use Rattle.disk.specs.declared.geometry.Geometry.{Geometry}
use Rattle.disk.specs.declared.refusal.Refusal.TheVariants.{BadImage, NoLabel, TooFew}
use Rattle.label.specs.Fields.{geometry_of}
use Rattle.label.specs.Valid.{decode_of}
use Rattle.label.specs.Newest.{newer, newest_of, copy_of, disk_label, shelf_label, all_of, agreed}
use Rattle.label.specs.declared.fields.Label.{Label}
use Rattle.label.specs.Fields.{Decoded}
use Rattle.label.proofs.Counts.{all_at, all_not, disk_says, shelf_says, present_says, agreed_says}
use Rattle.rounds.specs.Survey.{fits_shelf, labelled, table, unless, survey_of}
use Rattle.codecs.specs.Shelf.{Shelf, slots, geometry, some_slots}
use Rattle.codecs.specs.Labels.{ours}
use Rattle.refine.specs.Disks.{Disks, image_fits}
use Rattle.refine.specs.Rounds.{geometry_path}
use Rattle.refine.specs.Given.{shelf_geometry}
use Rattle.refine.specs.Other.{Sits, other_code, unless_false}

mul_cancel_r : (a b c : ℕ) → 0 < c → a * c ≡ b * c → a ≡ b
mul_cancel_r a b c h e = sym (digits_div a h) ∙ ap (λ (x : ℕ). (x + 0) / c) e ∙ digits_div b h

-- one that fails
all_some : (p : ℕ → Bool) (n : ℕ) → all_of p n ≡ false → (d : ℕ) × (d < n) × (p d ≡ false)
unfolding all_of
all_some p zero e = absurd (true≢false e)
all_some p (suc n) e = go (λ q. all_some p n q) (all_of p n) refl (p n) refl e
  where
    go : (all_of p n ≡ false → (d : ℕ) × (d < n) × (p d ≡ false)) → (a : Bool) → all_of p n ≡ a → (b : Bool) → p n ≡ b → (a && b) ≡ false → (d : ℕ) × (d < suc n) × (p d ≡ false)
    go ih true q true r h = absurd (true≢false h)
    go ih true q false r h = (n, omega arith, r)
    go ih false q b r h = let y = ih q in (y.0, omega (arith, y.1), y.2)

module _ (z : Shelf) (img : List ℕ) (disks : Disks z img) (own : (d s : ℕ) (a : Label) → d < slots z → s < 2 → copy_of (geometry z) img d s ≡ Some a → ours z a ≡ true) (g : Geometry) (absent : ℕ) where
  module _ (fits : fits_image g (length img) ≡ true) where
    -- a slot that begins at the same sector has the same label
    module _ (d : ℕ) (here : d < g.n) (there : d < slots z) (begins : d * g.sectors ≡ d * z.sectors) where
      same_copy : (s : ℕ) → s < 2 → copy_of g img d s ≡ copy_of (geometry z) img d s
      unfolding copy_of read_of on_shelf sector
      same_copy s l =
          let r = (fits_image_lem g img fits).0.room in
          let q = (fits_image_lem (geometry z) img (image_fits z img disks)).0.room in
          let in_g : (fits_image g (length img) && (ltb d g.n && ltb s g.sectors)) ≡ true = both (fits_image g (length img)) _ fits (both (ltb d g.n) (ltb s g.sectors) (lt-ltb d g.n here) (lt-ltb s g.sectors (omega (arith, r)))) in
          let in_z : (fits_image (geometry z) (length img) && (ltb d (slots z) && ltb s z.sectors)) ≡ true = both (fits_image (geometry z) (length img)) _ (image_fits z img disks) (both (ltb d (slots z)) (ltb s z.sectors) (lt-ltb d (slots z) there) (lt-ltb s z.sectors (omega (arith, q)))) in
          ap (λ (b : Bool). decode_of (cond b (take sector_bytes (drop ((d * g.sectors + s) * sector_bytes) img)) []) d s) in_g
          ∙ ap (λ (x : ℕ). decode_of (take sector_bytes (drop ((x + s) * sector_bytes) img)) d s) begins
          ∙ sym (ap (λ (b : Bool). decode_of (cond b (take sector_bytes (drop ((d * z.sectors + s) * sector_bytes) img)) []) d s) in_z)

      same_disk : disk_label g img d ≡ disk_label (geometry z) img d
      unfolding disk_label newest_of
      same_disk = ap₂ (λ (x y : Decoded). newer (newer None x) y) (same_copy 0 (omega arith)) (same_copy 1 (omega arith))

      disk_ours : (a : Label) → disk_label g img d ≡ Some a → ours z a ≡ true
      disk_ours a e = let y = disk_says (geometry z) img d a (sym same_disk ∙ e) in own d y.whose a there y.among y.is

      -- if it is present, some disk has no label, or they do not agree with each other and with the caller
      not_labelled : (g ≡ geometry z → ⊥) → in_mask absent d ≡ false → (x : Decoded) → labelled g img absent x ≡ false
      not_labelled other present None = all_not (in_mask absent) g.n d here present
      not_labelled other present (Some lead) = go (agreed g img absent lead) refl (fits_shelf g lead) refl
        where
          go : (a : Bool) → agreed g img absent lead ≡ a → (b : Bool) → fits_shelf g lead ≡ b → (agreed g img absent lead && fits_shelf g lead) ≡ false
          go true p true q =
              let y = agreed_says g img absent lead p d here present in
              let same : geometry_of lead ≡ geometry_of y.label = λ i. record { n = y.same.same_k i + y.same.same_m i; c = y.same.same_c i; sectors = y.same.same_sectors i } in
              absurd (other (sym (geometry_path g lead q) ∙ same ∙ shelf_geometry z y.label (disk_ours y.label y.is)))
          go true p false q = ap₂ (λ (x y : Bool). x && y) p q
          go false p b q = ap (λ (x : Bool). x && fits_shelf g lead) p

      no_label : (g ≡ geometry z → ⊥) → in_mask absent d ≡ false → survey_of g img absent ≡ Err NoLabel
      unfolding survey_of
      no_label other present =
          ap (λ (b : Bool). unless b BadImage (table g img absent (shelf_label g img absent))) fits
          ∙ unless_false (labelled g img absent (shelf_label g img absent)) NoLabel _ (not_labelled other present (shelf_label g img absent))

    -- all slots are absent
    all_gone : all_of (in_mask absent) g.n ≡ true → survey_of g img absent ≡ Err TooFew
    unfolding survey_of
    all_gone e = ap (λ (b : Bool). unless b BadImage (table g img absent (shelf_label g img absent))) fits ∙ by (shelf_label g img absent) refl
      where
        by : (x : Decoded) → shelf_label g img absent ≡ x → table g img absent x ≡ Err TooFew
        by None q = ap (λ (b : Bool). unless b NoLabel (Err TooFew)) e
        by (Some l) q =
            let n = shelf_says g img absent l q in
            absurd (true≢false (sym (all_at (in_mask absent) g.n e n.whose n.among) ∙ (present_says g img absent n.whose l n.is).0))

    -- with the shelf's S it has the shelf's n
    same_n : g.sectors ≡ z.sectors → g.n ≡ slots z
    unfolding Shape
    same_n e =
        let a : length img ≡ g.n * g.sectors * sector_bytes = (fits_image_lem g img fits).1 in
        let b : length img ≡ slots z * z.sectors * sector_bytes = disks.shape in
        let q = (fits_image_lem (geometry z) img (image_fits z img disks)).0.room in
        let c : g.n * z.sectors ≡ slots z * z.sectors = mul_cancel_r (g.n * z.sectors) (slots z * z.sectors) sector_bytes (omega arith) (sym (ap (λ (x : ℕ). g.n * x * sector_bytes) e) ∙ sym a ∙ b) in
        mul_cancel_r g.n (slots z) z.sectors (omega (arith, q)) c

    fits_other : (g ≡ geometry z → ⊥) → Sits z g absent → (b : Bool) → all_of (in_mask absent) g.n ≡ b → survey_of g img absent ≡ Err (cond b TooFew NoLabel)
    fits_other other sits true e = all_gone e
    fits_other other sits false e =
        ⊎_elim
        (λ (q : g.sectors ≡ z.sectors). let y = all_some (in_mask absent) g.n e in no_label y.0 y.1 (omega (arith, same_n q, y.1)) (ap (λ (x : ℕ). y.0 * x) q) other y.2)
        (λ (q : in_mask absent 0 ≡ false). no_label 0 (omega (arith, (fits_image_lem g img fits).0.least)) (some_slots z) (let e : 0 * g.sectors ≡ 0 * z.sectors = omega arith in e) other q) sits

  -- START-UP WITH ANOTHER GEOMETRY IS REFUSED, and this is the refusal
  pub start_other : (g ≡ geometry z → ⊥) → Sits z g absent → survey_of g img absent ≡ Err (other_code g (length img) absent)
  unfolding survey_of
  start_other other sits = by (fits_image g (length img)) refl
    where
      by : (b : Bool) → fits_image g (length img) ≡ b → survey_of g img absent ≡ Err (cond b (cond (all_of (in_mask absent) g.n) TooFew NoLabel) BadImage)
      by true e = fits_other e other sits (all_of (in_mask absent) g.n) refl
      by false e = ap (λ (b : Bool). unless b BadImage (table g img absent (shelf_label g img absent))) e
