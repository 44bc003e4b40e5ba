-- The numbers of a label, and which of them can be. Assumes nothing.
use Rattle.std.specs.Prelude.{Bool, not, ◌&&◌, cond, ℕ, ◌+◌, ◌^◌, leb, ltb, eqb, Option}
use Rattle.disk.specs.Limits.{most_k, most_m}
use Rattle.disk.specs.Geometry.{in_range_with, stripes_of}
use Rattle.disk.specs.Mask.{in_mask}
use Rattle.disk.specs.declared.geometry.Geometry.{Geometry}
use Rattle.label.specs.declared.fields.Label.{Label}

-- what a sector is, as a label
abbrev pub Decoded : Type 0
Decoded = Option Label

-- no slot is being rebuilt
abbrev pub no_slot : ℕ
no_slot = 255

-- 2^63 - 1
abbrev pub most_generation : ℕ
most_generation = 9223372036854775807

-- n, c and S
abbrev pub geometry_of : Label → Geometry
geometry_of l = record { n = l.k + l.m; c = l.c; sectors = l.sectors }

-- slot d is out, and it is not the one being rebuilt
unfoldable pub calls_out : Label → ℕ → Bool
calls_out l d = in_mask l.out d && not (eqb d l.rebuilding)

-- no slot is being rebuilt, and the mark is 0; or it is a slot that is out, and the mark is at most T
unfoldable pub rebuild_fits : Label → Bool
rebuild_fits l =
    cond (eqb l.rebuilding no_slot) (eqb l.mark 0)
    (ltb l.rebuilding (l.k + l.m) && (in_mask l.out l.rebuilding && leb l.mark (stripes_of (geometry_of l))))

-- k, m, c and S are in range, the slot is below n, the generation is from 1 to 2^63 - 1, no slot at n or above is out,
-- and the rebuild can be
unfoldable pub fits_of : Label → Bool
fits_of l =
    leb l.k most_k
    && (leb l.m most_m
    && (in_range_with (geometry_of l) l.k
    && (ltb l.slot (l.k + l.m)
    && (leb 1 l.generation && (leb l.generation most_generation && (ltb l.out (2 ^ (l.k + l.m)) && rebuild_fits l))))))
