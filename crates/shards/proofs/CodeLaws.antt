-- The shelf's code at real sectors, as the protocol asks for it: the strips of Strips, and what a scrub and a mended strip are where all shards of a
-- stripe but one are right. Assumes nothing.
use Rattle.std.specs.Prelude.{◌≡◌, Bool, true, false, cond, [], ◌∷◌, ◌≢◌, ◌⊎◌, ℕ, ◌≤◌, ◌<◌, leb}
use Rattle.std.proofs.Math.Path.{refl}
use Rattle.std.proofs.Common.{sym, ap, subst, ◌∙◌, true≢false, inl, inr, arith, eq-eqb, ne_eqb, leb-true, le-leb}
use Rattle.std.proofs.lemmas.Bool.{false≢true, eqb-false}
use Rattle.std.proofs.Math.Decide.{ℕ_discrete}
use Rattle.std.proofs.Math.Dec.{eqb}
use Rattle.disk.specs.Limits.{sector_bytes}
use Rattle.disk.specs.Geometry.{slot_of, shard_of, slot_lt, shard_lt, shard_slot, slot_shard}
use Rattle.codeword.specs.Stripe.{has}
use Rattle.codeword.proofs.Unique.{unique}
use Rattle.codeword.specs.Mend.{put, put_at, put_off}
use Rattle.protocol.specs.Host.{Blocks, Finding, accused, blames, Code}
use Rattle.codecs.specs.Sector.{Sector}
use Rattle.codecs.proofs.Sector.{zeros}
use Rattle.codecs.specs.Shelf.{Shelf, slots, some_slots}
use Rattle.shards.specs.Quorum.{few_of, count_one}
use Rattle.shards.proofs.Quorum.{count_few, quorum}
use Rattle.position.specs.Position.{holds_same}
use Rattle.shards.specs.Parity.{byte, byte_small, sector_ext, shard_sector}
use Rattle.shards.proofs.Parity.{sectors_hold}
use Rattle.shards.specs.Strips.{shard_in, touched_in, position, position_bytes, sound_in, sound_is, blocks_from, scrub_of, in_range_lem, scrub_holds}
use Rattle.shards.proofs.Strips.{shard_there, stripe_there, touched_inside, shard_equal, shard_kept, zeros_in, blocks_back, scrub_right, touched_broad}
use Rattle.shards.specs.Exact.{Sound, sound_of, Blames, scrub_accuses, scrub_several}
use Rattle.shards.specs.Code.{mended_in, who, n, home}

module _ (z : Shelf) where
  -- one slot is few
  few_one : (d : ℕ) → d < (n z) → few_of z (λ e. eqb e d) ≡ true
  few_one d h = count_few z (λ e. eqb e d) (omega (arith, (in_range_lem z).m_least_lem, count_one (λ e. eqb e d) (n z) d h (eq-eqb d d refl) (λ i l q. ne_eqb i d q)))

  -- all strips but that of slot d are those of the blocks b
  module _ (t d : ℕ) (b : Blocks Sector) (g : ℕ → ℕ → Sector) (hd : d < (n z)) (right : (e j : ℕ) → e < (n z) → e ≢ d → j < z.c → g e j ≡ shard_in z t b e j) where
    pub mended_right : (j : ℕ) → j < z.c → mended_in z t g d j ≡ shard_in z t b d j
    unfolding mended_in
    mended_right j hj =
        shard_equal z t (blocks_from z t (λ e. eqb e d) g) b
        (λ i l hi hl. blocks_back z t (λ e. eqb e d) b g (few_one d hd) (λ e l he q hl. right e l he (eqb-false e d q) hl) i l hi hl) d j hd hj

    -- the shard that lies there
    r : ℕ
    r = shard_of (n z) t d

    r_lt : r < (n z)
    unfolding r
    r_lt = shard_lt (n z) t (some_slots z) d

    r_slot : slot_of (n z) t r ≡ d
    unfolding r
    r_slot = slot_shard (n z) t (some_slots z) d hd

    at_position : (j p : ℕ) → byte (g (slot_of (n z) t r) j) p ≡ position z t g j p r
    unfolding position
    at_position j p = refl

    blamed : Blames z (position z t g) r
    blamed j p hj hp = (byte (shard_sector z.k z.m b r j) p, byte_small (shard_sector z.k z.m b r j) p, holds_same z.k z.m (put r v (position z t g j p)) (λ q. byte (shard_sector z.k z.m b q j) p) (λ q hq. there q hq (ℕ_discrete q r)) (sectors_hold z.k z.m b j p hp))
      where
        v : ℕ
        v = byte (shard_sector z.k z.m b r j) p

        apart : (q : ℕ) → q < (n z) → q ≢ r → slot_of (n z) t q ≢ d
        apart q hq ne e = ne (sym (shard_slot (n z) t (some_slots z) q hq) ∙ (ap (shard_of (n z) t) (e ∙ sym r_slot) ∙ shard_slot (n z) t (some_slots z) r r_lt))

        there : (q : ℕ) → q < (n z) → Dec (q ≡ r) → put r v (position z t g j p) q ≡ byte (shard_sector z.k z.m b q j) p
        there q hq (yes e) = ap (put r v (position z t g j p)) e ∙ (put_at r v (position z t g j p) ∙ ap (λ (x : ℕ). byte (shard_sector z.k z.m b x j) p) (sym e))
        there q hq (no ne) = put_off r v q (position z t g j p) ne ∙ stripe_there z t b g j p q hq (right (slot_of (n z) t q) j (slot_lt (n z) t (some_slots z) q) (apart q hq ne) hj)

    -- nobody else is accused
    pub accused_there : (q : ℕ) → scrub_of z t g ≡ accused q → slot_of (n z) t q ≡ d
    accused_there q e = go (leb 2 z.m) refl
      where
        not_sound : Sound z (position z t g) → ⊥
        not_sound h = false≢true (ap blames (sym (scrub_holds z t g h) ∙ e))

        go : (y : Bool) → leb 2 z.m ≡ y → slot_of (n z) t q ≡ d
        go true two = ap (λ (f : Finding). slot_of (n z) t (who f)) (sym e ∙ scrub_accuses z t g not_sound (leb-true 2 z.m two) r r_lt blamed) ∙ r_slot
        go false two = absurd (false≢true (ap blames (sym (scrub_several z t g not_sound (λ m x hx u. true≢false (sym (le_two m) ∙ two))) ∙ e)))
          where
            le_two : 2 ≤ z.m → leb 2 z.m ≡ true
            le_two m = le-leb 2 z.m m

    -- a sound stripe: then this strip is right too
    sound_strip : Sound z (position z t g) → (j : ℕ) → j < z.c → g d j ≡ shard_in z t b d j
    sound_strip h j hj = subst (λ (x : ℕ). g x j ≡ shard_in z t b x j) r_slot (sector_ext (g (slot_of (n z) t r) j) (shard_in z t b (slot_of (n z) t r) j) (λ p hp. bytes p hp ∙ ap (λ (x : Sector). byte x p) (sym (shard_there z t b r j r_lt))))
      where
        apart : (q : ℕ) → q < (n z) → q ≢ r → slot_of (n z) t q ≢ d
        apart q hq ne e = ne (sym (shard_slot (n z) t (some_slots z) q hq) ∙ (ap (shard_of (n z) t) (e ∙ sym r_slot) ∙ shard_slot (n z) t (some_slots z) r r_lt))

        off : (q : ℕ) → has (r ∷ []) q ≡ false → q ≢ r
        off q e y = true≢false (sym (ap (λ (x : Bool). cond x true false) (eq-eqb r q (sym y))) ∙ e)

        bytes : (p : ℕ) → p < sector_bytes → byte (g (slot_of (n z) t r) j) p ≡ byte (shard_sector z.k z.m b r j) p
        bytes p hp =
            at_position j p
            ∙ unique z.k z.m (in_range_lem z) (r ∷ []) (in_range_lem z).m_least_lem (position z t g j p) (λ q. byte (shard_sector z.k z.m b q j) p) (position_bytes z t g j p) (λ q. byte_small (shard_sector z.k z.m b q j) p)
            (h j p hj hp) (sectors_hold z.k z.m b j p hp)
            (λ q hq e. stripe_there z t b g j p q hq (right (slot_of (n z) t q) j (slot_lt (n z) t (some_slots z) q) (apart q hq (off q e)) hj)) r r_lt

    -- with m >= 2 a rotten strip is told
    pub told : leb 2 z.m ≡ true → ((j : ℕ) → j < z.c → g d j ≡ shard_in z t b d j) ⊎ ((q : ℕ) × (scrub_of z t g ≡ accused q))
    told two = go (sound_in z (position z t g)) refl
      where
        go : (y : Bool) → sound_in z (position z t g) ≡ y → ((j : ℕ) → j < z.c → g d j ≡ shard_in z t b d j) ⊎ ((q : ℕ) × (scrub_of z t g ≡ accused q))
        go true e = inl (sound_strip (sound_of z (position z t g) e))
        go false e = inr (r, scrub_accuses z t g (λ h. true≢false (sym (sound_is z (position z t g) h) ∙ e)) (leb-true 2 z.m two) r r_lt blamed)

-- ---- the code of a shelf

abbrev pub code : (z : Shelf) (more : z.m < z.k) → Code Sector (slots z) z.c (quorum z more)
code z more =
    record {
      k = z.k;
      shard = shard_in z;
      blocks = blocks_from z;
      touched = touched_in z;
      touched_n = touched_inside z;
      back = blocks_back z;
      shard_same = shard_equal z;
      keeps = shard_kept z;
      scrub = scrub_of z;
      scrub_sound = scrub_right z;
      broad = touched_broad z;
      lies = slot_of (slots z);
      mended = mended_in z;
      at_home = home z;
      mends = mended_right z;
      accuses_it = λ t d r b g h e. accused_there z t d b g h e r;
      sharp = leb 2 z.m;
      tells = λ two t d b g h e. told z t d b g h e two;
    }

-- with nothing written, the shards are zeros
pub zeros_shard : (z : Shelf) (more : z.m < z.k) (t d j : ℕ) → d < slots z → j < z.c → (code z more).shard t (λ i l. zeros) d j ≡ zeros
zeros_shard z more t d j h l = zeros_in z t d j
