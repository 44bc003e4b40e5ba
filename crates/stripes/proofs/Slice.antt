-- A stripe of a shelf as one slice: its shards one behind the other, as the functions on a stripe take them. Assumes nothing.
use Rattle.std.specs.Prelude.{◌≡◌, length, drop}
use Rattle.std.proofs.Math.Path.{sym, ap}
use Rattle.std.proofs.Common.{◌∙◌, subst, div-add-mod', div-lt_iff_lt-mul, mod-lt, arith, ext_get_or}
use mathlib.Core.List.{List}
use Prim.Native.Nat.{ℕ, ◌+◌, ◌*◌, ◌/◌, ◌%◌, ◌<◌}
use Rattle.std.proofs.Math.ListN.{get_or}
use Rattle.std.proofs.Math.Seq.{get_or-take, get_or-drop}
use Rattle.disk.specs.Limits.{sector_bytes}
use Rattle.disk.specs.Geometry.{slot_of}
use Rattle.disk.specs.Image.{sector}
use Rattle.record.specs.Log.{part}
use Rattle.codeword.specs.Stripe.{byte_at}
use Rattle.codecs.specs.Sector.{Sector}
use Rattle.codecs.specs.Shelf.{Shelf, slots, some_sectors}
use Rattle.codecs.specs.Records.{strip_bytes}
use Rattle.codecs.proofs.Written.{length_strip, strip_part}
use Rattle.position.specs.Row.{row_length, row_at}
use Rattle.shards.specs.Parity.{byte}
use Rattle.shards.specs.Strips.{position}
use Rattle.stripes.specs.Slice.{shard_at, laid_out, each_byte, n, len, within, sector_byte, sector_is}

module _ (z : Shelf) where
  module _ (t : ℕ) (g : ℕ → ℕ → Sector) where
    shard_length : (r : ℕ) → length (shard_at z t g r) ≡ (len z)
    shard_length r = length_strip (g (slot_of (slots z) t r)) z.c

    pub laid_length : length (laid_out z t g) ≡ (n z) * (len z)
    unfolding laid_out
    laid_length = row_length (len z) (shard_at z t g) (n z) (λ i l. shard_length i)

    strip_at : (v : ℕ → Sector) (j p : ℕ) → j < z.c → p < sector_bytes → get_or (strip_bytes v z.c) (j * sector_bytes + p) 0 ≡ byte (v j) p
    unfolding part
    strip_at v j p hj hp =
        let s : List ℕ = strip_bytes v z.c in
        sym (get_or-take sector_bytes (drop (j * sector_bytes) s) p 0 hp ∙ get_or-drop (j * sector_bytes) s p 0)
        ∙ ap (λ (l : List ℕ). get_or l p 0) (strip_part v z.c j hj)

    -- ITS BYTES are those of the strips
    pub laid_at : (j p r : ℕ) → j < z.c → p < sector_bytes → r < (n z) → byte_at (len z) (laid_out z t g) (j * sector_bytes + p) r ≡ byte (g (slot_of (n z) t r) j) p
    unfolding laid_out
    laid_at j p r hj hp hr =
        row_at (len z) (shard_at z t g) (n z) (λ i l. shard_length i) r (j * sector_bytes + p) hr ((within z) j p hj hp)
        ∙ strip_at (g (slot_of (n z) t r)) j p hj hp

    pub laid_position : (j p r : ℕ) → j < z.c → p < sector_bytes → r < (n z) → byte_at (len z) (laid_out z t g) (j * sector_bytes + p) r ≡ position z t g j p r
    unfolding position
    laid_position j p r hj hp hr = laid_at j p r hj hp hr

  -- every sector of it is the strip's
  pub laid_sector : (t : ℕ) (g : ℕ → ℕ → Sector) (r j : ℕ) → r < (n z) → j < z.c → sector z.c (laid_out z t g) r j ≡ (g (slot_of (n z) t r) j).bytes
  laid_sector t g r j hr hj =
      (sector_is z) (laid_out z t g) r j (laid_length t g) hr hj (g (slot_of (n z) t r) j) (λ p hp. laid_at t g j p r hj hp hr)

  -- AND ONLY THIS SLICE is such
  pub laid_only : (t : ℕ) (g : ℕ → ℕ → Sector) (s : List ℕ) → length s ≡ (n z) * (len z)
      → ((r j : ℕ) → r < (n z) → j < z.c → sector z.c s r j ≡ (g (slot_of (n z) t r) j).bytes) → s ≡ laid_out z t g
  laid_only t g s e h = ext_get_or 0 s (laid_out z t g) (e ∙ sym (laid_length t g)) (λ i l. each i (omega arith))
    where
      in_shard : (r : ℕ) → r < (n z) → (p : ℕ) → p < (len z) → byte_at (len z) s p r ≡ byte_at (len z) (laid_out z t g) p r
      in_shard r hr =
          each_byte z.c (λ p. byte_at (len z) s p r ≡ byte_at (len z) (laid_out z t g) p r)
          (λ j p hj hp. sym ((sector_byte z) s r j p hp) ∙ ap (λ (l : List ℕ). get_or l p 0) (h r j hr hj) ∙ sym (laid_at t g j p r hj hp hr))

      some : 0 < (len z)
      some = omega (arith, some_sectors z)

      each : (i : ℕ) → i < (n z) * (len z) → get_or s i 0 ≡ get_or (laid_out z t g) i 0
      each i l =
          subst (λ (i : ℕ). get_or s i 0 ≡ get_or (laid_out z t g) i 0) (div-add-mod' i (len z))
          (in_shard (i / (len z)) ((div-lt_iff_lt-mul {k = (len z)} {x = i} {y = (n z)} some).1 l) (i % (len z)) (mod-lt i some))
