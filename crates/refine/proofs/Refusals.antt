-- Start-up's refusals that are made before there is a label to go by: a present disk without any label, and no disk at all. (The
-- other refusals: `start_is` in Rounds.) One refusal is the code's alone, and changes nothing: a disk whose newest label is of
-- another shelf, which the protocol, to which such a copy is no label, may take for the older copy beside it. Assumes nothing.
use Rattle.std.specs.Prelude.{◌≡◌, ◌&&◌, ◌||◌, List, ltb, Some, None}
use Rattle.std.proofs.Math.Path.{refl, sym, ap}
use Rattle.std.proofs.Common.{ap₂, ◌∙◌, lt-ltb}
use Rattle.std.proofs.Math.Bool.{Bool, true, false, cond, or-true}
use Prim.Native.Nat.{ℕ, zero, suc, ◌<◌}
use native.Mathlib.Omega.{arith}
use Rattle.disk.specs.Mask.{in_mask}
use Rattle.label.specs.Newest.{copy_of, disk_label}
use Rattle.label.specs.Fields.{Decoded}
use Rattle.label.proofs.Counts.{newest_none}
use Rattle.protocol.specs.Slots.{from, in_from, of_from, every_of, every_all}
use Rattle.protocol.specs.Label.{Label, copy}
use Rattle.protocol.specs.Startup.{newest, seen, L, stale, gone, labelled}
use Rattle.protocol.specs.Program.{NO_LABEL, TOO_FEW, because, left_out}
use Rattle.protocol.specs.Count.{count}
use Rattle.protocol.specs.Even.{may_start_by}
use Rattle.protocol.specs.Pairs.{no_sets}
use Rattle.codecs.specs.Shelf.{Shelf, slots, geometry, size, limits}
use Rattle.codecs.specs.Labels.{meant}
use Rattle.codecs.proofs.Labels.{labels}
use Rattle.codecs.specs.Labels as Labels
use Rattle.codecs.proofs.Records.{records}
use Rattle.codecs.specs.Media.{stamps}
use Rattle.shards.specs.Quorum.{few_of}
use Rattle.shards.proofs.Quorum.{few_count}
use Rattle.shards.proofs.Even.{any_code, any_sectors}
use Rattle.refine.specs.Disks.{Disks}
use Rattle.refine.proofs.Labels.{copy_is}
use Rattle.refine.specs.Refusals.{f0}

-- where all pass, all count
count_all : (p : ℕ → Bool) (n : ℕ) → ((i : ℕ) → i < n → p i ≡ true) → count p n ≡ n
count_all p zero h = refl
count_all p (suc n) h = rw (h n (omega arith)) (omega (arith, count_all p n (λ i l. h i (omega arith))))

module _ (z : Shelf) (img : List ℕ) (disks : Disks z img) (absent : ℕ) (A : ℕ → Bool) (are : (d : ℕ) → d < slots z → A d ≡ in_mask absent d) where
  -- ---- a disk with no label

  copy_none : (d : ℕ) (b : Bool) → d < slots z → in_mask absent d ≡ false → disk_label (geometry z) img d ≡ None → (copy (labels z) (f0 z img disks absent A are) d b).generation ≡ 0
  unfolding disk_label
  copy_none d b h e q = ap (λ (x : Label). x.generation) (copy_is z img disks absent A are d b h e) ∙ by (copy_of (geometry z) img d (Labels.sector_of b)) refl
    where
      side : (b : Bool) → Labels.sector_of b < 2
      side true = omega arith
      side false = omega arith

      by : (x : Decoded) → copy_of (geometry z) img d (Labels.sector_of b) ≡ x → (meant z x).generation ≡ 0
      by None p = refl
      by (Some a) p = absurd (newest_none (copy_of (geometry z) img d) 2 q (Labels.sector_of b) a (side b) p)

  seen_none : (d : ℕ) → d < slots z → in_mask absent d ≡ false → disk_label (geometry z) img d ≡ None → seen (size z) (labels z) A (f0 z img disks absent A are) d ≡ 0
  seen_none d h e q =
      ap (λ (b : Bool). cond b 0 (newest (size z) (labels z) A (f0 z img disks absent A are) d).generation) (are d h ∙ e)
      ∙ by (ltb (copy (labels z) (f0 z img disks absent A are) d false).generation (copy (labels z) (f0 z img disks absent A are) d true).generation)
    where
      by : (b : Bool) → (cond b (copy (labels z) (f0 z img disks absent A are) d true) (copy (labels z) (f0 z img disks absent A are) d false)).generation ≡ 0
      by true = copy_none d true h e q
      by false = copy_none d false h e q

  pub unlabelled : (d : ℕ) → d < slots z → in_mask absent d ≡ false → disk_label (geometry z) img d ≡ None → labelled (size z) (labels z) A (f0 z img disks absent A are) ≡ false
  unlabelled d h e q = by (labelled (size z) (labels z) A (f0 z img disks absent A are)) refl
    where
      test : ℕ → Bool
      test i = A i || ltb 0 (seen (size z) (labels z) A (f0 z img disks absent A are) i)

      by : (b : Bool) → labelled (size z) (labels z) A (f0 z img disks absent A are) ≡ b → b ≡ false
      by true p =
          sym (every_of test (from 0 (slots z)) p d (in_from (slots z) 0 d (omega arith) (omega arith)))
          ∙ ap₂ (λ (x : Bool) (n : ℕ). x || ltb 0 n) (are d h ∙ e) (seen_none d h e q)
      by false p = refl

  pub no_label : (d : ℕ) → d < slots z → in_mask absent d ≡ false → disk_label (geometry z) img d ≡ None
      → may_start_by (size z) (no_sets (slots z)) (labels z) (records z) (any_code z) stamps (any_sectors z) (few_of z) A (f0 z img disks absent A are) ≡ because NO_LABEL
  no_label d h e q = rw (unlabelled d h e q)

  -- ---- no disk at all

  pub all_absent : ((d : ℕ) → d < slots z → in_mask absent d ≡ true)
      → may_start_by (size z) (no_sets (slots z)) (labels z) (records z) (any_code z) stamps (any_sectors z) (few_of z) A (f0 z img disks absent A are) ≡ because TOO_FEW
  unfolding left_out gone
  all_absent h = rw (there, few (few_of z out) refl)
    where
      out : ℕ → Bool
      out = left_out (size z) (no_sets (slots z)) (labels z) (records z) (any_code z) stamps (any_sectors z) A (f0 z img disks absent A are)

      there : labelled (size z) (labels z) A (f0 z img disks absent A are) ≡ true
      there =
          every_all (λ d. A d || ltb 0 (seen (size z) (labels z) A (f0 z img disks absent A are) d)) (from 0 (slots z))
          (λ d m.
          let k : d < slots z = omega (arith, of_from (slots z) 0 d m) in
          ap (λ (b : Bool). b || ltb 0 (seen (size z) (labels z) A (f0 z img disks absent A are) d)) (are d k ∙ h d k))

      every_out : (d : ℕ) → d < slots z → out d ≡ true
      every_out d k =
          ap₂ (λ (b c : Bool). (L (size z) (labels z) A (f0 z img disks absent A are)).out d || (b && (c || stale (size z) (labels z) A (f0 z img disks absent A are) d))) (lt-ltb d (slots z) k) (are d k ∙ h d k)
          ∙ or-true ((L (size z) (labels z) A (f0 z img disks absent A are)).out d)

      few : (b : Bool) → few_of z out ≡ b → few_of z out ≡ false
      few true p = absurd (omega (arith, few_count z out p, count_all out (slots z) every_out, (limits z).1.least))
      few false p = p
