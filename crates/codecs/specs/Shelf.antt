-- A shelf: k, m, c, S and its number, within the limits; and its size in the protocol's words. Assumes nothing.
use Rattle.std.specs.Prelude.{◌≡◌, refl, true, ℕ, ◌+◌, ◌≤◌, ◌<◌, ◌^◌, leb}
use Rattle.std.proofs.Common.{arith, lit<}
use Rattle.disk.specs.Limits.{most_k, most_m, least_n, most_n, most_c}
use Rattle.disk.specs.Tests.{and_left, and_right}
use Rattle.disk.specs.Geometry.{strip_length, in_range, splits, in_range_with, stripes_of, InRange, Splits, in_range_with_lem, stripes_le}
use Rattle.disk.specs.declared.geometry.Geometry.{Geometry}
use Rattle.protocol.specs.Label.{Size}

pub record Shelf : Type 0 where
  pub k : ℕ
  pub m : ℕ
  pub c : ℕ
  pub sectors : ℕ
  pub number : ℕ
  pub range : in_range_with (record { n = k + m; c = c; sectors = sectors }) k ≡ true
  pub number_fits : number < 2 ^ 64

-- n
abbrev pub slots : Shelf → ℕ
slots z = z.k + z.m

abbrev pub geometry : Shelf → Geometry
geometry z = record { n = slots z; c = z.c; sectors = z.sectors }

-- n and T
abbrev pub size : Shelf → Size
size z = record { n = slots z; T = stripes_of (geometry z) }

-- what the limits say
module _ (z : Shelf) where
  pub limits : InRange (geometry z) × Splits (slots z) z.k
  limits = in_range_with_lem (geometry z) z.k z.range

  pub few_data : z.k ≤ most_k
  few_data = limits.1.most

  pub few_parity : z.m ≤ most_m
  few_parity = omega (arith, limits.1.few)

  pub some_slots : 0 < slots z
  some_slots = omega (arith, limits.0.least)

  pub few_slots : slots z ≤ most_n
  few_slots = limits.0.few

  pub short_strip : z.c ≤ most_c
  short_strip = limits.0.short

  pub some_sectors : 0 < z.c
  some_sectors = omega (arith, limits.0.some)

  -- stripes have numbers of 8 bytes
  pub stripes_few : stripes_of (geometry z) < 2 ^ 64
  stripes_few = omega (arith, limits.0.most, stripes_le (geometry z))

  pub in_limits : in_range (geometry z) ≡ true
  unfolding in_range_with
  in_limits = and_left (in_range (geometry z)) (splits (slots z) z.k) z.range

  -- c is 1, 2, 4 or 8
  pub strips_fit : strip_length z.c ≡ true
  unfolding in_range
  strips_fit = and_left (strip_length z.c) _ (and_right (leb (slots z) most_n) _ (and_right (leb least_n (slots z)) _ in_limits))

-- there are such shelves: the least one has two data disks, one for parity, and one strip of one sector
unfoldable pub least : Shelf
unfolding in_range_with in_range strip_length splits
least = record { k = 2; m = 1; c = 1; sectors = 67; number = 0; range = refl; number_fits = lit< tt }
