-- What rebuild, encode and scrub make of a shelf's stripe, by their contracts alone, is what the protocol's code says: the blocks that
-- a read gives, the strips that a write puts, the finding of a scrub. Whatever the strips hold, also where they contradict each
-- other. Assumes nothing.
use Rattle.std.specs.Prelude.{◌≡◌, refl, Bool, cond, ◌⊎◌, leb, length, get_or, Ok, Err}
use Rattle.std.proofs.Math.Path.{sym, ap}
use Rattle.std.proofs.Common.{◌∙◌, subst, inl, inr, arith, le-leb}
use Rattle.std.proofs.Math.Bool.{true, false}
use mathlib.Core.List.{List}
use Prim.Native.Nat.{ℕ, ◌+◌, ◌-◌, ◌*◌, ◌≤◌, ◌<◌}
use Rattle.field.specs.Refusal.{Answer}
use Rattle.field.specs.declared.Refusal.TheVariants.{BadShape, TooMany, BadShard}
use Rattle.disk.specs.Limits.{sector_bytes}
use Rattle.disk.specs.Geometry.{slot_of}
use Rattle.disk.specs.Image.{sector}
use Rattle.codeword.specs.Stripe.{byte_at, has}
use Rattle.codeword.specs.Named.{has_index}
use Rattle.solve.specs.Lost.{shards_of}
use Rattle.code.specs.Shape.{rebuild_answer}
use Rattle.code.specs.Lists.{below_or_not}
use Rattle.code.specs.Stripes.{Encoded, Rebuilt}
use Rattle.code.specs.declared.Verdict.{Verdict}
use Rattle.code.specs.declared.Verdict.TheVariants as verdict
use Rattle.protocol.specs.Host.{Blocks, Finding, all_sound, accused, several}
use Rattle.codecs.specs.Sector.{Sector}
use Rattle.codecs.specs.Shelf.{Shelf, slots}
use Rattle.shards.specs.Quorum.{few_of}
use Rattle.position.specs.Position.{padded_off, parity_ext}
use Rattle.position.specs.Rebuild.{same_padding}
use Rattle.shards.specs.Parity.{byte, shard_sector}
use Rattle.shards.proofs.Parity.{data_sector, sectors_hold}
use Rattle.shards.specs.Strips.{position, missing_of, missing_has, blocks_from}
use Rattle.shards.proofs.Strips.{missing_few, shard_there}
use Rattle.shards.proofs.Even.{any_code}
use Rattle.shards.specs.Exact.{blocks_there}
use Rattle.shards.proofs.Exact.{blocks_found}
use Rattle.stripes.specs.Slice.{shard_bytes, laid_out, within, slice_shape, sector_byte, sector_is, missing_shards}

-- ---- READ

-- a slice that has the shards of the slots that are not bad. What it has for the others makes no difference
module _ (z : Shelf) (t : ℕ) (bad : ℕ → Bool) (g : ℕ → ℕ → Sector) (few : few_of z bad ≡ true) (before : List ℕ) (whole : length before ≡ slots z * shard_bytes z) where
  abbrev missing : List ℕ
  missing = missing_of z t bad

  rebuild_taken : rebuild_answer z.k z.m (shard_bytes z) (length before) missing ≡ Ok tt
  rebuild_taken =
      ap (λ (b : Bool). cond b (cond (leb (length missing) z.m) (cond (shards_of (slots z) missing) (Ok tt) (Err BadShard)) (Err TooMany)) (Err BadShape))
      (slice_shape z before whole)
      ∙ ap (λ (b : Bool). cond b (cond (shards_of (slots z) missing) (Ok tt) (Err BadShard)) (Err TooMany)) (le-leb (length missing) z.m (missing_few z t bad few))
      ∙ ap (λ (b : Bool). cond b (Ok tt) (Err BadShard)) (missing_shards z t bad)

  module _ (a : Answer) (after : List ℕ) (w : Rebuilt z.k z.m (shard_bytes z) missing a before after) where
    -- where few slots are bad, a rebuild is never refused
    pub rebuild_done : a ≡ Ok tt
    rebuild_done = w.answers ∙ rebuild_taken

    module _ (there : (r j : ℕ) → r < slots z → j < z.c → bad (slot_of (slots z) t r) ≡ false → sector z.c before r j ≡ (g (slot_of (slots z) t r) j).bytes) where
      there_at_lem : (j p r : ℕ) → j < z.c → p < sector_bytes → r < slots z → bad (slot_of (slots z) t r) ≡ false
          → byte_at (shard_bytes z) before (j * sector_bytes + p) r ≡ byte (g (slot_of (slots z) t r) j) p
      there_at_lem j p r hj hp hr e = sym (sector_byte z before r j p hp) ∙ ap (λ (l : List ℕ). get_or l p 0) (there r j hr hj e)

      -- EVERY SECTOR OF EVERY SHARD is then what the code says
      pub rebuilt : (i j : ℕ) → i < slots z → j < z.c → sector z.c after i j ≡ ((any_code z).blocks t bad g i j).bytes
      unfolding position
      rebuilt i j hi hj =
          sector_is z after i j (w.same ∙ whole) hi hj (blocks_from z t bad g i j) (λ p hp. at p hp (bad (slot_of (slots z) t i)) refl)
        where
          at : (p : ℕ) → p < sector_bytes → (b : Bool) → bad (slot_of (slots z) t i) ≡ b
              → byte_at (shard_bytes z) after (j * sector_bytes + p) i ≡ byte (blocks_from z t bad g i j) p
          at p hp false e =
              w.survivors rebuild_done i hi (missing_has z t bad i hi ∙ e) (j * sector_bytes + p) (within z j p hj hp)
              ∙ there_at_lem j p i hj hp hi e ∙ ap (λ (x : Sector). byte x p) (sym (blocks_there z t bad g i j hi e))
          at p hp true e =
              let q : ℕ = j * sector_bytes + p in
              let hq : q < shard_bytes z = within z j p hj hp in
              let y = w.goes_by rebuild_done in
              let c = has_index missing i (missing_has z t bad i hi ∙ e) in
              ap (byte_at (shard_bytes z) after q) (sym c.2) ∙ y.filled c.0 c.1 q hq ∙ ap (byte_at (shard_bytes z) y.stripe q) c.2
              ∙ sym (blocks_found z t bad g i j hi few e p hp (byte_at (shard_bytes z) y.stripe q) (λ r. y.bytes (r * shard_bytes z + q)) (y.sound q hq)
              (λ r hr n. sym (there_at_lem j p r hj hp hr (sym (missing_has z t bad r hr) ∙ padded_off z.k z.m missing (missing_few z t bad few) r n))
              ∙ y.agrees r hr (ap (λ (l : List ℕ). has l r) (same_padding z.k z.m missing) ∙ n) q hq))

-- ---- WRITE

module _ (z : Shelf) (t : ℕ) (b : Blocks Sector) (before after : List ℕ) (whole : length before ≡ slots z * shard_bytes z) where
  module _ (a : Answer) (w : Encoded z.k z.m (shard_bytes z) a before after) where
    -- an encode of a stripe is never refused
    pub encode_done : a ≡ Ok tt
    encode_done = w.answers ∙ ap (λ (b : Bool). cond b (Ok tt) (Err BadShape)) (slice_shape z before whole)

    module _ (laid : (i j : ℕ) → i < z.k → j < z.c → sector z.c before i j ≡ (b i j).bytes) where
      -- a data shard at a byte
      data_at : (j p i : ℕ) → j < z.c → p < sector_bytes → i < z.k
          → byte_at (shard_bytes z) after (j * sector_bytes + p) i ≡ byte (shard_sector z.k z.m b i j) p
      data_at j p i hj hp hi =
          w.kept encode_done i hi (j * sector_bytes + p) (within z j p hj hp) ∙ sym (sector_byte z before i j p hp)
          ∙ ap (λ (l : List ℕ). get_or l p 0) (laid i j hi hj) ∙ ap (λ (x : Sector). byte x p) (sym (data_sector z.k z.m b i j hi))

      -- a parity shard at a byte
      parity_at : (j p i : ℕ) → j < z.c → p < sector_bytes → i < z.m
          → byte_at (shard_bytes z) after (j * sector_bytes + p) (z.k + i) ≡ byte (shard_sector z.k z.m b (z.k + i) j) p
      parity_at j p i hj hp hi =
          w.sound encode_done (j * sector_bytes + p) (within z j p hj hp) i hi
          ∙ parity_ext z.k z.m i (byte_at (shard_bytes z) after (j * sector_bytes + p)) (λ r. byte (shard_sector z.k z.m b r j) p) (λ r h. data_at j p r hj hp h)
          ∙ sym (sectors_hold z.k z.m b j p hp i hi)

      -- EVERY SECTOR OF EVERY SHARD is what the code puts into its slot
      pub written : (r j : ℕ) → r < slots z → j < z.c → sector z.c after r j ≡ ((any_code z).shard t b (slot_of (slots z) t r) j).bytes
      written r j hr hj =
          sector_is z after r j (w.same ∙ whole) hr hj (shard_sector z.k z.m b r j) (λ p hp. at p hp (below_or_not r z.k))
          ∙ ap (λ (x : Sector). x.bytes) (sym (shard_there z t b r j hr))
        where
          at : (p : ℕ) → p < sector_bytes → (r < z.k) ⊎ (z.k ≤ r) → byte_at (shard_bytes z) after (j * sector_bytes + p) r ≡ byte (shard_sector z.k z.m b r j) p
          at p hp (inl h) = data_at j p r hj hp h
          at p hp (inr h) =
              let e : z.k + (r - z.k) ≡ r = omega arith in
              subst (λ (i : ℕ). byte_at (shard_bytes z) after (j * sector_bytes + p) i ≡ byte (shard_sector z.k z.m b i j) p) e
              (parity_at j p (r - z.k) hj hp (omega arith))

-- ---- SCRUB

-- a finding as the scrub of a slice says it
abbrev pub verdict_of : Finding → Verdict
verdict_of all_sound = verdict.Sound
verdict_of (accused r) = verdict.Accused r
verdict_of several = verdict.Unsound

module _ (z : Shelf) (t : ℕ) (g : ℕ → ℕ → Sector) where
  abbrev pub s : List ℕ
  s = laid_out z t g

  -- the equations, and those with another byte v for shard r, hold in the slice where they hold in the strips, and back
  module _ (j p : ℕ) (hj : j < z.c) (hp : p < sector_bytes) where
    abbrev pub slice : ℕ → ℕ
    slice = byte_at (shard_bytes z) s (j * sector_bytes + p)

    abbrev pub strips : ℕ → ℕ
    strips = position z t g j p
