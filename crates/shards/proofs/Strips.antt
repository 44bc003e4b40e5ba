-- A shelf's strips at real sectors (document 03, section 1, and document 01, sections 2 to 4). Shard r
-- of stripe t lies in slot (r + t) mod n; byte by byte the shards of a stripe meet the equations. What is believed gives the blocks
-- back; a scrub tells a sound stripe. Both are definitions by search, total in the strips whatever these hold. Assumes nothing.
use Rattle.std.specs.Prelude.{◌≡◌, Bool, ◌&&◌, ◌||◌, ◌≢◌, ℕ, ◌+◌, ◌≤◌, ◌<◌, eqb, ltb, length}
use Rattle.std.proofs.Math.Path.{refl, ap}
use Rattle.std.proofs.Common.{sym, ◌∙◌, arith}
use Rattle.std.proofs.Math.Bool.{true, false, cond, or-true, true≢false}
use Rattle.std.proofs.Math.Logic.{⊎_elim}
use borrow.Author.Tests.{ltb-true, lt-ltb, le-leb, eq-eqb, ne_eqb}
use Rattle.disk.specs.Limits.{sector_bytes}
use Rattle.disk.specs.Tests.{and_left}
use Rattle.disk.specs.Image.{lt_or_ge}
use Rattle.disk.specs.Geometry.{slot_of, shard_of, slot_lt, shard_slot}
use Rattle.codeword.specs.Stripe.{has}
use Rattle.protocol.specs.Host.{Blocks, set_block, all_sound}
use Rattle.codecs.specs.Sector.{Sector}
use Rattle.codecs.proofs.Sector.{zeros}
use Rattle.codecs.specs.Shelf.{Shelf, some_slots}
use Rattle.shards.specs.Quorum.{few_of, count_shards, broad_shards}
use Rattle.shards.proofs.Quorum.{few_count}
use Rattle.position.specs.Position.{holds_same, filled_back}
use Rattle.shards.specs.Counted.{ascending_length}
use Rattle.shards.specs.Parity.{byte, byte_small, sector_ext, parity_of_sectors, row_of, shard_sector, parity_zeros}
use Rattle.shards.proofs.Parity.{data_sector, shard_ext, sectors_hold}
use Rattle.shards.specs.Strips.{shard_in, reaches, touched_in, position, missing_of, position_bytes, blocks_from, scrub_of, n, in_range_lem, missing_has, blocks_byte, scrub_holds}

pub reaches_own : (k i : ℕ) → reaches k i i ≡ true
unfolding reaches
reaches_own k i = rw (eq-eqb i i refl)

pub reaches_parity : (k i r : ℕ) → k ≤ r → reaches k i r ≡ true
unfolding reaches
reaches_parity k i r h = ap (λ (b : Bool). eqb r i || b) (le-leb k r h) ∙ or-true (eqb r i)

-- ---- their laws

module _ (z : Shelf) where
  module _ (t : ℕ) where
    -- the strip of a slot is the shard that lies there
    pub shard_there : (b : Blocks Sector) (r j : ℕ) → r < (n z) → shard_in z t b (slot_of (n z) t r) j ≡ shard_sector z.k z.m b r j
    unfolding shard_in
    shard_there b r j h =
        ap (λ (u : Bool). cond u (shard_sector z.k z.m b (shard_of (n z) t (slot_of (n z) t r)) j) zeros) (lt-ltb (slot_of (n z) t r) (n z) (slot_lt (n z) t (some_slots z) r))
        ∙ ap (λ (q : ℕ). shard_sector z.k z.m b q j) (shard_slot (n z) t (some_slots z) r h)

    touched_there : (i r : ℕ) → r < (n z) → reaches z.k i r ≡ true → touched_in z t i (slot_of (n z) t r) ≡ true
    unfolding touched_in
    touched_there i r h e =
        ap (λ (u : Bool). u && reaches z.k i (shard_of (n z) t (slot_of (n z) t r))) (lt-ltb (slot_of (n z) t r) (n z) (slot_lt (n z) t (some_slots z) r))
        ∙ ap (reaches z.k i) (shard_slot (n z) t (some_slots z) r h) ∙ e

    pub touched_inside : (i d : ℕ) → touched_in z t i d ≡ true → d < (n z)
    unfolding touched_in
    touched_inside i d e = ltb-true d (n z) (and_left (ltb d (n z)) (reaches z.k i (shard_of (n z) t d)) e)

    pub shard_equal : (a b : Blocks Sector) → ((i j : ℕ) → i < z.k → j < z.c → a i j ≡ b i j) → (d j : ℕ) → d < (n z) → j < z.c → shard_in z t a d j ≡ shard_in z t b d j
    unfolding shard_in
    shard_equal a b e d j h l = go (ltb d (n z))
      where
        go : (u : Bool) → cond u (shard_sector z.k z.m a (shard_of (n z) t d) j) zeros ≡ cond u (shard_sector z.k z.m b (shard_of (n z) t d) j) zeros
        go true = shard_ext z.k z.m a b (shard_of (n z) t d) j (λ i g. e i j g l)
        go false = refl

    -- another block than i, and no parity
    kept : (i r : ℕ) (b : Blocks Sector) (x : ℕ → Sector) (j : ℕ) → reaches z.k i r ≡ false → shard_sector z.k z.m b r j ≡ shard_sector z.k z.m (set_block b i x) r j
    unfolding set_block
    kept i r b x j e = ⊎_elim same (λ h. absurd (true≢false (sym (reaches_parity z.k i r h) ∙ e))) (lt_or_ge r z.k)
      where
        other : r ≢ i
        other q = true≢false (sym (reaches_own z.k i) ∙ (ap (reaches z.k i) (sym q) ∙ e))

        same : r < z.k → shard_sector z.k z.m b r j ≡ shard_sector z.k z.m (λ i'. cond (eqb i' i) x (b i')) r j
        same l =
            data_sector z.k z.m b r j l ∙ ap (λ (u : Bool). cond u x (b r) j) (sym (ne_eqb r i other))
            ∙ sym (data_sector z.k z.m (λ i'. cond (eqb i' i) x (b i')) r j l)

    pub shard_kept : (i : ℕ) (b : Blocks Sector) (x : ℕ → Sector) (d j : ℕ) → touched_in z t i d ≡ false → shard_in z t b d j ≡ shard_in z t (set_block b i x) d j
    unfolding touched_in shard_in
    shard_kept i b x d j e = go (ltb d (n z)) e
      where
        go : (u : Bool) → (u && reaches z.k i (shard_of (n z) t d)) ≡ false
            → cond u (shard_sector z.k z.m b (shard_of (n z) t d) j) zeros ≡ cond u (shard_sector z.k z.m (set_block b i x) (shard_of (n z) t d) j) zeros
        go true h = kept i (shard_of (n z) t d) b x j h
        go false h = refl

    pub zeros_in : (d j : ℕ) → shard_in z t (λ i l. zeros) d j ≡ zeros
    unfolding shard_in shard_sector
    zeros_in d j = go (ltb d (n z)) (ltb (shard_of (n z) t d) z.k)
      where
        go : (u v : Bool) → cond u (cond v zeros (parity_of_sectors z.k z.m (row_of z.k (shard_of (n z) t d)) (λ i. zeros))) zeros ≡ zeros
        go true true = refl
        go true false = parity_zeros z.k z.m (row_of z.k (shard_of (n z) t d))
        go false v = refl

    -- the strips of some blocks, as bytes of a position
    pub stripe_there : (b : Blocks Sector) (g : ℕ → ℕ → Sector) (j p r : ℕ) → r < (n z) → g (slot_of (n z) t r) j ≡ shard_in z t b (slot_of (n z) t r) j
        → position z t g j p r ≡ byte (shard_sector z.k z.m b r j) p
    unfolding position
    stripe_there b g j p r h e = ap (λ (x : Sector). byte x p) (e ∙ shard_there b r j h)

    -- few bad slots are few missing shards
    pub missing_few : (bad : ℕ → Bool) → few_of z bad ≡ true → length (missing_of z t bad) ≤ z.m
    unfolding missing_of
    missing_few bad few = omega (arith, ascending_length (λ r. bad (slot_of (n z) t r)) (n z), count_shards bad (n z) t, few_count z bad few)

    pub blocks_back : (bad : ℕ → Bool) (b : Blocks Sector) (g : ℕ → ℕ → Sector) → few_of z bad ≡ true
        → ((d j : ℕ) → d < (n z) → bad d ≡ false → j < z.c → g d j ≡ shard_in z t b d j) → (i j : ℕ) → i < z.k → j < z.c → blocks_from z t bad g i j ≡ b i j
    blocks_back bad b g few e i j hi hj = sector_ext (blocks_from z t bad g i j) (b i j) same
      where
        there : (p r : ℕ) → r < z.k + z.m → has (missing_of z t bad) r ≡ false → position z t g j p r ≡ byte (shard_sector z.k z.m b r j) p
        there p r h q = stripe_there b g j p r h (e (slot_of (n z) t r) j (slot_lt (n z) t (some_slots z) r) (sym ((missing_has z t) bad r h) ∙ q) hj)

        same : (p : ℕ) → p < sector_bytes → byte (blocks_from z t bad g i j) p ≡ byte (b i j) p
        same p l =
            (blocks_byte z t) bad g i j p l
            ∙ filled_back z.k z.m (in_range_lem z) (missing_of z t bad) (missing_few bad few) (position z t g j p) (λ r. byte (shard_sector z.k z.m b r j) p)
            (position_bytes z t g j p) (λ r. byte_small (shard_sector z.k z.m b r j) p) (sectors_hold z.k z.m b j p l) (there p) i (omega arith)
            ∙ ap (λ (x : Sector). byte x p) (data_sector z.k z.m b i j hi)

    pub scrub_right : (b : Blocks Sector) (g : ℕ → ℕ → Sector) → ((d j : ℕ) → d < (n z) → j < z.c → g d j ≡ shard_in z t b d j) → scrub_of z t g ≡ all_sound
    scrub_right b g e =
        (scrub_holds z t) g
        (λ j p hj l. holds_same z.k z.m (position z t g j p) (λ r. byte (shard_sector z.k z.m b r j) p)
        (λ r h. stripe_there b g j p r h (e (slot_of (n z) t r) j (slot_lt (n z) t (some_slots z) r) hj)) (sectors_hold z.k z.m b j p l))

    pub touched_broad : (i : ℕ) → i < z.k → (a : ℕ → Bool) → few_of z a ≡ true → (d : ℕ) × (d < (n z)) × (a d ≡ false) × (touched_in z t i d ≡ true)
    touched_broad i h a few =
        let y = broad_shards z.k z.m i (λ r. touched_in z t i (slot_of (n z) t r)) (λ r. a (slot_of (n z) t r)) h
        (touched_there i i (omega arith) (reaches_own z.k i))
        (λ r k l. touched_there i r l (reaches_parity z.k i r k))
        (omega (arith, count_shards a (n z) t, few_count z a few)) in
        (slot_of (n z) t y.0, slot_lt (n z) t (some_slots z) y.0, y.2, y.3)
