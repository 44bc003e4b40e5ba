-- THE STRIPE AS A STATE SEES IT: the slots whose strip is believed and which are not absent. At rest no absent slot is believed, so
-- these are the protocol's believed ones, and what is read or prepared goes by the strips that its program sees. Assumes nothing.
use Rattle.std.specs.Prelude.{◌≡◌, Bool, ◌&&◌, List, ℕ, ◌+◌, ◌*◌, ◌<◌, ◌/◌, ◌%◌, length}
use Rattle.std.proofs.Math.Path.{refl, sym, ap}
use Rattle.std.proofs.Common.{◌∙◌, mod-eq_of_lt, lit<}
use Rattle.std.proofs.Math.Bool.{true, false, not}
use Rattle.std.proofs.Math.Nat.{mod-lt}
use native.Mathlib.Omega.{arith}
use Rattle.std.proofs.Math.ListN.{get_or}
use Rattle.std.proofs.Math.Seq.{ext_get_or}
use Rattle.std.proofs.lemmas.Bool.{not-true}
use Rattle.disk.specs.Tests.{and_right}
use Rattle.disk.specs.Limits.{sector_bytes}
use Rattle.disk.specs.Mask.{in_mask, mask_below}
use Rattle.disk.specs.declared.geometry.Geometry.{Geometry}
use Rattle.label.specs.Fields.{geometry_of}
use Rattle.label.specs.declared.fields.Label as bytes
use Rattle.redo.specs.Decide.{believed}
use Rattle.protocol.specs.Label as Label
use Rattle.codecs.specs.Sector.{Sector, Bytes}
use Rattle.codecs.specs.Shelf.{Shelf, slots, geometry, size}
use Rattle.codecs.specs.Labels.{label_of, ours}
use Rattle.codecs.specs.Records.{strip_bytes}
use Rattle.codecs.proofs.Written.{length_strip}
use Rattle.shards.specs.Parity.{byte_of}
use Rattle.shards.specs.Parity as Parity
use Rattle.blocks.specs.Slots.{there_at, there}
use Rattle.refine.specs.Given.{shelf_geometry}
use Rattle.refine.specs.Keeps.{strip_byte}
use Rattle.refine.specs.Redo.{believe_is}

-- ---- a block's bytes, as sectors

module _ (c : ℕ) (given : List ℕ) where
  abbrev data_byte : ℕ → ℕ → ℕ
  data_byte j p = get_or given (j * sector_bytes + p) 0 % 256

  unfoldable pub sectors_of : ℕ → Sector
  sectors_of j = Parity.sector_of (data_byte j) (λ p. mod-lt (get_or given (j * sector_bytes + p) 0) (lit< tt))

  pub sectors_strip : length given ≡ c * sector_bytes → Bytes given → given ≡ strip_bytes sectors_of c
  unfolding sectors_of Bytes
  sectors_strip e small =
      ext_get_or 0 given (strip_bytes sectors_of c) (e ∙ sym (length_strip sectors_of c))
      (λ i l.
      let j = i / sector_bytes in
      let p = i % sector_bytes in
      let q : j * sector_bytes + p ≡ i = omega arith in
      let pl : p < sector_bytes = omega arith in
      sym (mod-eq_of_lt (small i)) ∙ ap (λ (x : ℕ). get_or given x 0 % 256) (sym q)
      ∙ sym (byte_of (data_byte j) (λ p. mod-lt (get_or given (j * sector_bytes + p) 0) (lit< tt)) p pl)
      ∙ sym (strip_byte sectors_of c j p (omega arith) pl)
      ∙ ap (λ (x : ℕ). get_or (strip_bytes sectors_of c) x 0) q)

-- ---- the slots that are there

module _ (z : Shelf) (l : bytes.Label) (own : ours z l ≡ true) (absent t : ℕ) where
  abbrev pub seen_slots : ℕ
  seen_slots = there (geometry_of l) l absent t

  there_at_lem : (d : ℕ) → d < slots z → in_mask seen_slots d ≡ (believed (geometry z) l d t && not (in_mask absent d))
  unfolding there there_at
  there_at_lem d i = ap (λ (g : Geometry). in_mask (there g l absent t) d) (shelf_geometry z l own) ∙ mask_below (there_at (geometry z) l absent t) (slots z) d i

  -- none of them is absent
  pub there_present : (d : ℕ) → d < slots z → in_mask seen_slots d ≡ true → in_mask absent d ≡ false
  there_present d i e = not-true (in_mask absent d) (and_right (believed (geometry z) l d t) (not (in_mask absent d)) (sym (there_at_lem d i) ∙ e))

  -- they are the believed ones, where no absent slot is looked at
  pub there_believed : ((d : ℕ) → d < slots z → in_mask absent d ≡ true → Label.looked (size z) (label_of z l) d ≡ true → ⊥)
      → (d : ℕ) → d < slots z → in_mask seen_slots d ≡ Label.believed (size z) (label_of z l) d t
  unfolding Label.belief
  there_believed dark d i = there_at_lem d i ∙ by (in_mask absent d) refl (believed (geometry z) l d t) refl ∙ sym (believe_is z l d t)
    where
      by : (a : Bool) → in_mask absent d ≡ a → (b : Bool) → believed (geometry z) l d t ≡ b → (b && not a) ≡ b
      by true e true q = absurd (dark d i e ((Label.belief (size z) (label_of z l)).believe_look d t (believe_is z l d t ∙ q)))
      by false e true q = refl
      by a e false q = refl
