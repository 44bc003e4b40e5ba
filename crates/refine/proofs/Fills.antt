-- A STRIP THAT IS REBUILT. What a rebuild asks of the shelf's label, its slot, its strips and the work area; and then each of its sectors is the
-- one that the protocol's program rebuilds, and goes to its place. Assumes nothing.
use Rattle.std.specs.Prelude.{◌≡◌}
use Rattle.std.proofs.Math.Path.{sym, ap}
use Rattle.std.proofs.Common.{◌∙◌, lit<}
use Rattle.std.proofs.Math.Bool.{Bool, true, false, not}
use Rattle.std.proofs.lemmas.Bool.{false≢true}
use mathlib.Core.List.{List}
use Prim.Native.Nat.{ℕ, ◌+◌, ◌*◌, ◌<◌, ◌/◌}
use Rattle.std.proofs.Math.Nat.{div-add-mod', mul-add, mul_comm}
use native.Mathlib.Omega.{arith}
use Rattle.disk.specs.Limits.{first_strip}
use Rattle.disk.specs.Geometry.{stripes_of, strip_of, slot_of, shard_of}
use Rattle.disk.specs.Mask.{in_past}
use Rattle.label.specs.declared.fields.Label as bytes
use Rattle.protocol.specs.World.{strip}
use Rattle.protocol.specs.Label as Label
use Rattle.protocol.specs.Host.{Blocks, missing}
use Rattle.protocol.specs.Host as Host
use Rattle.protocol.specs.Pairs.{no_sets}
use Rattle.codecs.specs.Sector.{Sector}
use Rattle.codecs.specs.Shelf.{Shelf, slots, size}
use Rattle.codecs.specs.Labels.{ours}
use Rattle.codecs.specs.Records.{strip_bytes}
use Rattle.codecs.proofs.Records.{records}
use Rattle.shards.proofs.Even.{any_code}
use Rattle.strips.specs.Seen.{shard_shown}
use Rattle.views.specs.Seen.{Lying, Keeping, gone}
use Rattle.views.proofs.Seen.{none_over}
use Rattle.views.proofs.Filled.{filled_part}
use Rattle.views.specs.Program.{bad_same}
use Rattle.shelf.specs.Fill as Fill
use Rattle.refine.specs.Places.{sector_of, strip_is_inside}
use Rattle.refine.specs.Disks.{Disks, cur_of}
use Rattle.refine.proofs.Disks.{cur_bytes}
use Rattle.refine.specs.ToDo.{fill_at}
use Rattle.refine.specs.Fills.{Fillable, G, Q, th, seen_believed, few_gone, k_is, g}

module _ (z : Shelf) (absent : ℕ) (l : bytes.Label) (work : List ℕ) (mask first count : ℕ) (can : Fillable z absent l work mask first count) where
  pub fill_sector : (d x : ℕ) → sector_of z (fill_at z first d x) ≡ first_strip + first * z.c + x
  unfolding sector_of strip_of
  fill_sector d x =
      omega (arith, mul_comm (first + x / z.c) z.c, mul-add z.c first (x / z.c), mul_comm first z.c, mul_comm (x / z.c) z.c, div-add-mod' x z.c)

  -- ---- the slots that are there

  module _ (own : ours z l ≡ true) (t : ℕ) (ht : t < stripes_of (G z absent l work mask first count can)) where
    module _ (img : List ℕ) (disks : Disks z img) where
      lies : Lying z t img (th z absent l work mask first count can own t ht) (g z absent l work mask first count can own t ht img disks)
      unfolding sector_of
      lies d j hd hj e = sym (cur_bytes z img disks (strip d t j) (strip_is_inside z d t j hd ht hj))

      plain : Keeping z t (Fill.stripe_in (G z absent l work mask first count can) work) 0 (g z absent l work mask first count can own t ht img disks)
      plain r j hr hj e = absurd (false≢true (sym (in_past 0 0 (slot_of (slots z) t r) (lit< tt) (omega arith)) ∙ e))

      module _ (d : ℕ) (hd : d < slots z) (off : Label.believed (size z) (Q z absent l work mask first count can) d t ≡ false) (j : ℕ) (hj : j < z.c) where
        -- THE SECTOR is the program's
        pub sector_rebuilt : Fill.rebuilt_sector l absent (G z absent l work mask first count can) d t j work img ≡ (Host.rebuilt (size z) (no_sets (slots z)) (records z) (any_code z) (Q z absent l work mask first count can) (cur_of z img) d t j).bytes
        unfolding Fill.rebuilt_sector gone Host.rebuilt Host.read
        sector_rebuilt =
            let r : ℕ = shard_of (slots z) t d in
            let bad : ℕ → Bool = missing (size z) (no_sets (slots z)) (records z) (any_code z) (Q z absent l work mask first count can) t in
            let same : j + 0 ≡ j = omega arith in
            ap (λ (k : ℕ). shard_shown (G z absent l work mask first count can) k img (th z absent l work mask first count can own t ht) 0 (Fill.stripe_in (G z absent l work mask first count can) work) t j 1 r) (k_is z absent l work mask first count can own t ht)
            ∙ filled_part z t img (th z absent l work mask first count can own t ht) 0 (Fill.stripe_in (G z absent l work mask first count can) work) (g z absent l work mask first count can own t ht img disks) (g z absent l work mask first count can own t ht img disks) lies plain (few_gone z absent l work mask first count can own t ht) d hd ((seen_believed z absent l work mask first count can own t ht) d hd ∙ off) j 1 (omega arith)
            ∙ ap (λ (v : ℕ → ℕ → Sector). strip_bytes (λ i. (any_code z).shard t ((any_code z).blocks t (gone (th z absent l work mask first count can own t ht)) v) d (j + i)) 1) (none_over (g z absent l work mask first count can own t ht img disks) (g z absent l work mask first count can own t ht img disks))
            ∙ ap (λ (b : Blocks Sector). strip_bytes (λ i. (any_code z).shard t b d (j + i)) 1) (bad_same z t (gone (th z absent l work mask first count can own t ht)) bad (g z absent l work mask first count can own t ht img disks) (λ e i. ap not ((seen_believed z absent l work mask first count can own t ht) e i)))
            ∙ ap (λ (i : ℕ). ((any_code z).shard t ((any_code z).blocks t bad (g z absent l work mask first count can own t ht img disks)) d i).bytes) same
