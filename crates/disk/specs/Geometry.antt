-- Where things lie on a shelf, in the words of the document: n slots, S sectors a disk, strips of c sectors, k data
-- shards a stripe. The laws: strips lie apart, behind the log and within the disk; for each stripe shards and slots are
-- one to one; blocks and data shards are one to one. Assumes nothing.
use Rattle.std.specs.Prelude.{◌≡◌, refl, Bool, true, false, ◌&&◌, ◌||◌, cond, ℕ, ◌+◌, ◌*◌, ◌-◌, ◌≤◌, ◌<◌, ◌/◌, ◌%◌, leb, eqb, Ok, Err, Result}
use Rattle.std.proofs.Common.{sym, ◌∙◌, le_trans, mul-le-mul_left, mul-le-mul_right, div-le_self, le-div_iff_mul-le, one-mul, mod-eq_of_lt, div-lt_iff_lt-mul, leb-true, eqb-true}
use Rattle.std.proofs.Math.Path.{ap}
use Rattle.std.proofs.Math.Nat.{mod-lt, mod-add-mod, add-mod_right, div-add-mod', add-mul-mod_self_right}
use native.Mathlib.Omega.{arith}
use Rattle.std.proofs.Math.Arith.{digits_lt, digits_div, digits_mod}
use Rattle.disk.specs.Limits.{least_k, most_k, least_m, most_m, least_n, most_n, most_c, most_sectors, sector_bytes, first_strip}
use Rattle.disk.specs.Tests.{and_left, and_right}
use Rattle.disk.specs.declared.refusal.Refusal.TheVariants.{BadImage, BadBlock}
use Rattle.disk.specs.declared.geometry.Geometry.{Geometry}
use Rattle.disk.specs.declared.refusal.Refusal.{Refusal}
use Rattle.disk.specs.declared.geometry.DataShard.{DataShard}

-- ---- ranges

-- c is 1, 2, 4 or 8
unfoldable pub strip_length : ℕ → Bool
strip_length c = eqb c 1 || (eqb c 2 || (eqb c 4 || eqb c 8))

-- n, c and S are those of a shelf; there is room for one strip at least
unfoldable pub in_range : Geometry → Bool
in_range g =
    leb least_n g.n
    && (leb g.n most_n && (strip_length g.c && (leb g.sectors most_sectors && leb (first_strip + g.c) g.sectors)))

-- n slots are k data shards and n - k parity shards
unfoldable pub splits : ℕ → ℕ → Bool
splits n k = leb least_k k && (leb k most_k && (leb (k + least_m) n && leb n (k + most_m)))

unfoldable pub in_range_with : Geometry → ℕ → Bool
in_range_with g k = in_range g && splits g.n k

-- ---- where things lie

-- the bytes of the image
unfoldable pub image_bytes : Geometry → ℕ
image_bytes g = g.n * g.sectors * sector_bytes

-- T
unfoldable pub stripes_of : Geometry → ℕ
stripes_of g = (g.sectors - first_strip) / g.c

-- the sector at which strip t begins
unfoldable pub strip_of : Geometry → ℕ → ℕ
strip_of g t = first_strip + t * g.c

-- the slot of shard r of stripe t
unfoldable pub slot_of : ℕ → ℕ → ℕ → ℕ
slot_of n t r = (r + t) % n

-- the shard of stripe t that slot d holds: see `slot_shard`, `shard_slot`
unfoldable pub shard_of : ℕ → ℕ → ℕ → ℕ
shard_of n t d = (d + (n - t % n)) % n

-- the blocks that the host sees
unfoldable pub blocks_of : Geometry → ℕ → ℕ
blocks_of g k = stripes_of g * k

-- the block that is data shard r of stripe t; block b is data shard b mod k of stripe b / k
unfoldable pub block_of : ℕ → ℕ → ℕ → ℕ
block_of k t r = t * k + r

-- ---- answers: BAD_IMAGE where the first test fails, BAD_BLOCK where the second does

-- a number, or why there is none
abbrev pub Found : Type 0
Found = Result ℕ Refusal

-- a data shard of a stripe, or why there is none
abbrev pub Placed : Type 0
Placed = Result DataShard Refusal

abbrev pub found : Bool → Bool → ℕ → Found
found range there x = cond range (cond there (Ok x) (Err BadBlock)) (Err BadImage)

abbrev pub placed : Bool → Bool → ℕ → ℕ → Placed
placed range there t r =
    cond range (cond there (Ok (record { stripe = t; shard = r })) (Err BadBlock)) (Err BadImage)

-- ---- what the tests say

pub record InRange (g : Geometry) : Type 0 where
  pub least : least_n ≤ g.n
  pub few : g.n ≤ most_n
  pub some : 1 ≤ g.c
  pub short : g.c ≤ most_c
  pub most : g.sectors ≤ most_sectors
  pub room : first_strip + g.c ≤ g.sectors

pub record Splits (n k : ℕ) : Type 0 where
  pub least : least_k ≤ k
  pub most : k ≤ most_k
  pub parity : k + least_m ≤ n
  pub few : n ≤ k + most_m

-- a strip has from 1 to most_c sectors
pub strip_length_lem : (c : ℕ) → strip_length c ≡ true → (1 ≤ c) × (c ≤ most_c)
unfolding strip_length
strip_length_lem c e =
    by (eqb c 1) (eqb c 2) (eqb c 4) (eqb c 8) (eqb-true c 1) (eqb-true c 2) (eqb-true c 4) (eqb-true c 8) e
  where
    by : (p q r s : Bool) → (p ≡ true → c ≡ 1) → (q ≡ true → c ≡ 2) → (r ≡ true → c ≡ 4) → (s ≡ true → c ≡ 8)
        → (p || (q || (r || s))) ≡ true → (1 ≤ c) × (c ≤ most_c)
    by true q r s f g h i e = let z : c ≡ 1 = f refl in (omega arith, omega arith)
    by false true r s f g h i e = let z : c ≡ 2 = g refl in (omega arith, omega arith)
    by false false true s f g h i e = let z : c ≡ 4 = h refl in (omega arith, omega arith)
    by false false false s f g h i e = let z : c ≡ 8 = i e in (omega arith, omega arith)

pub in_range_lem : (g : Geometry) → in_range g ≡ true → InRange g
unfolding in_range
in_range_lem g e =
    let e1 = and_right (leb least_n g.n) _ e in
    let e2 = and_right (leb g.n most_n) _ e1 in
    let e3 = and_right (strip_length g.c) _ e2 in
    let length = strip_length_lem g.c (and_left (strip_length g.c) _ e2) in
    record {
      least = leb-true _ _ (and_left (leb least_n g.n) _ e);
      few = leb-true _ _ (and_left (leb g.n most_n) _ e1);
      some = length.0;
      short = length.1;
      most = leb-true _ _ (and_left (leb g.sectors most_sectors) _ e3);
      room = leb-true _ _ (and_right (leb g.sectors most_sectors) _ e3);
    }

pub may_split : (n k : ℕ) → splits n k ≡ true → Splits n k
unfolding splits
may_split n k e =
    let e1 = and_right (leb least_k k) _ e in
    let e2 = and_right (leb k most_k) _ e1 in
    record {
      least = leb-true _ _ (and_left (leb least_k k) _ e);
      most = leb-true _ _ (and_left (leb k most_k) _ e1);
      parity = leb-true _ _ (and_left (leb (k + least_m) n) _ e2);
      few = leb-true _ _ (and_right (leb (k + least_m) n) _ e2);
    }

pub in_range_with_lem : (g : Geometry) (k : ℕ) → in_range_with g k ≡ true → InRange g × Splits g.n k
unfolding in_range_with
in_range_with_lem g k e =
    (in_range_lem g (and_left (in_range g) (splits g.n k) e), may_split g.n k (and_right (in_range g) (splits g.n k) e))

-- ---- strips

pub stripes_le : (g : Geometry) → stripes_of g ≤ g.sectors
unfolding stripes_of
stripes_le g = omega (arith, div-le_self (g.sectors - first_strip) g.c)

-- a shelf has a stripe at least
pub stripes_some : (g : Geometry) → InRange g → 1 ≤ stripes_of g
unfolding stripes_of
stripes_some g r = (le-div_iff_mul-le {k = g.c} {x = 1} {y = g.sectors - first_strip} (omega (arith, r.some))).1 (omega (arith, r.room, one-mul g.c))

pub product_le : (x y a b : ℕ) → x ≤ a → y ≤ b → x * y ≤ a * b
product_le x y a b hx hy = le_trans (mul-le-mul_right y hx) (mul-le-mul_left a hy)

-- the sectors of all disks
pub sectors_le : (g : Geometry) → InRange g → g.n * g.sectors ≤ most_n * most_sectors
sectors_le g r = product_le g.n g.sectors most_n most_sectors r.few r.most

-- ---- shards and slots of a stripe, one to one

module _ (n t : ℕ) (some : 1 ≤ n) where
  pub slot_lt : (r : ℕ) → slot_of n t r < n
  unfolding slot_of
  slot_lt r = mod-lt (r + t) some

  pub shard_lt : (d : ℕ) → shard_of n t d < n
  unfolding shard_of
  shard_lt d = mod-lt (d + (n - t % n)) some

  -- there and back: t and n - t mod n make a multiple of n
  turn : (x : ℕ) → x < n → (x + t + (n - t % n)) % n ≡ x
  turn x h =
      let u : t % n < n = mod-lt t some in
      let e : x + t + (n - t % n) ≡ x + n + t / n * n = omega (arith, div-add-mod' t n) in
      ap (λ (y : ℕ). y % n) e ∙ add-mul-mod_self_right (x + n) (t / n) n ∙ add-mod_right x n ∙ mod-eq_of_lt h

  pub shard_slot : (r : ℕ) → r < n → shard_of n t (slot_of n t r) ≡ r
  unfolding slot_of shard_of
  shard_slot r h = mod-add-mod (r + t) n (n - t % n) ∙ turn r h

  pub slot_shard : (d : ℕ) → d < n → slot_of n t (shard_of n t d) ≡ d
  unfolding slot_of shard_of
  slot_shard d h =
      let e : d + (n - t % n) + t ≡ d + t + (n - t % n) = omega arith in
      mod-add-mod (d + (n - t % n)) n t ∙ ap (λ (y : ℕ). y % n) e ∙ turn d h

  -- two shards of a stripe lie in two slots
  pub slot_one : (r q : ℕ) → r < n → q < n → slot_of n t r ≡ slot_of n t q → r ≡ q
  slot_one r q hr hq e = sym (shard_slot r hr) ∙ ap (shard_of n t) e ∙ shard_slot q hq

-- ---- blocks and data shards, one to one

module _ (g : Geometry) (k : ℕ) where
  -- block b is a data shard of a stripe that there is
  pub block_inside : (b : ℕ) → 1 ≤ k → b < blocks_of g k → (b / k < stripes_of g) × (b % k < k)
  unfolding blocks_of
  block_inside b some h = ((div-lt_iff_lt-mul {k = k} {x = b} {y = stripes_of g} some).1 h, mod-lt b some)

  pub block_lt : (t r : ℕ) → t < stripes_of g → r < k → block_of k t r < blocks_of g k
  unfolding blocks_of block_of
  block_lt t r ht hr = digits_lt ht hr

  pub block_back : (b : ℕ) → block_of k (b / k) (b % k) ≡ b
  unfolding block_of
  block_back b = div-add-mod' b k

  pub stripe_back : (t r : ℕ) → r < k → block_of k t r / k ≡ t
  unfolding block_of
  stripe_back t r h = digits_div t h

  pub shard_back : (t r : ℕ) → r < k → block_of k t r % k ≡ r
  unfolding block_of
  shard_back t r h = digits_mod t h
