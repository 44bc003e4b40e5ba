-- What a write keeps in the work area, as the protocol's write: the work area begins with the stripe's shards, one after the
-- other, and the sectors that the code makes of them are the sectors of the protocol's record and strips. Assumes nothing.
use Rattle.std.specs.Prelude.{◌≡◌, Bool, cond, ◌&&◌, ℕ, ◌+◌, ◌*◌, ◌≤◌, ◌<◌, ◌/◌, ◌%◌, ◌^◌, take, drop, Ok}
use Rattle.std.proofs.Math.Path.{sym, ap, ap₂}
use Rattle.std.proofs.Common.{◌∙◌, arith, lit<, length-drop, get_or-take, get_or-drop, length-take-le}
use Rattle.std.proofs.Math.Logic.{⊎_elim}
use mathlib.Core.List.{List, []}
use Rattle.std.proofs.Math.Nat.{mod-lt, mod-eq_of_lt, suc-mul, mul-le-mul_right}
use Rattle.std.proofs.Math.Arith.{digits_div, digits_mod}
use Rattle.std.proofs.Math.Dec.{ltb}
use Rattle.std.proofs.Math.ListN.{length, get_or}
use Rattle.std.proofs.Math.Seq.{ext_get_or}
use borrow.Author.Tests.{lt-ltb, le-ltb, eq-eqb}
use Rattle.disk.specs.Limits.{sector_bytes}
use Rattle.disk.specs.Image.{lt_or_ge}
use Rattle.disk.specs.Geometry.{in_range, stripes_of, slot_of, shard_of, found, slot_lt, shard_lt, shard_slot}
use Rattle.disk.specs.Mask.{in_mask}
use Rattle.disk.specs.Geometry.{Found}
use Rattle.record.specs.Log.{part, log_sector, log_answer}
use Rattle.record.specs.Tail.{tail_sector, tail_answer}
use Rattle.record.specs.declared.stamp.Stamp.{Stamp}
use Rattle.record.specs.declared.tail.Tail.{Tail}
use Rattle.codecs.specs.Sector.{Sector, Bytes}
use Rattle.codecs.proofs.Sector.{sector_path}
use Rattle.codecs.specs.Shelf.{Shelf, slots, geometry, some_slots, in_limits, strips_fit}
use Rattle.codecs.specs.Records.{counts, stamp_number, stamp_of, strip_bytes, shards_of}
use Rattle.codecs.proofs.Written.{length_strip, strip_part, log_of, end_of}
use Rattle.codecs.specs.Records as codec
use Rattle.codecs.proofs.Written as codec_laws
use Rattle.shards.specs.Parity.{byte_of}
use Rattle.shelf.specs.Kept.{shard_at, kept_of, part_of, record_sector, logged_answer}
use Rattle.shelf.specs.Says.{when, unless}
use Rattle.refine.specs.Keeps.{kept_at, kept_byte, kept_strip, Works, mask_is, strip_byte, r, W}

-- ---- a strip that is kept there

module _ (z : Shelf) (work : List ℕ) (t d : ℕ) where
  -- by its bytes
  pub kept_bytes : (j : ℕ) (x : Sector) → ((p : ℕ) → p < sector_bytes → get_or work (shard_of (slots z) t d * z.c * sector_bytes + (j * sector_bytes + p)) 0 ≡ get_or x.bytes p 0)
      → kept_strip z work t d j ≡ x
  unfolding kept_strip Bytes
  kept_bytes j x e =
      sector_path (kept_strip z work t d j) x
      (ext_get_or 0 (kept_strip z work t d j).bytes x.bytes ((kept_strip z work t d j).whole ∙ sym x.whole)
      (λ p l.
      let q : p < sector_bytes = omega (arith, (kept_strip z work t d j).whole) in
      byte_of (kept_byte z work t d j) (λ i. mod-lt (get_or work (kept_at z t d j i) 0) (lit< tt)) p q
      ∙ ap (λ (b : ℕ). b % 256) (e p q) ∙ mod-eq_of_lt (x.small p)))

  -- the shard is the sectors of v in a row
  pub kept_row : (v : ℕ → Sector) → take (z.c * sector_bytes) (drop (shard_of (slots z) t d * z.c * sector_bytes) work) ≡ strip_bytes v z.c → (j : ℕ) → j < z.c → kept_strip z work t d j ≡ v j
  kept_row v e j l =
      kept_bytes j (v j)
      (λ p q.
      let inside : j * sector_bytes + p < z.c * sector_bytes = omega (arith, mul-le-mul_right sector_bytes l, suc-mul j sector_bytes) in
      sym (get_or-take (z.c * sector_bytes) (drop (shard_of (slots z) t d * z.c * sector_bytes) work) (j * sector_bytes + p) 0 inside ∙ get_or-drop (shard_of (slots z) t d * z.c * sector_bytes) work (j * sector_bytes + p) 0)
      ∙ ap (λ (b : List ℕ). get_or b (j * sector_bytes + p) 0) e ∙ strip_byte v z.c j p l q)

module _ (z : Shelf) (work : List ℕ) (works : Works z work) (t d : ℕ) (stripe : t < stripes_of (geometry z)) (below : d < slots z) where
  r_low : (r z work works t d stripe below) < slots z
  r_low = shard_lt (slots z) t (some_slots z) d

  long : (r z work works t d stripe below) * z.c * sector_bytes + z.c * sector_bytes ≤ length work
  long = omega (arith, works.room, mul-le-mul_right z.c r_low, suc-mul (r z work works t d stripe below) z.c)

  kept_at_lem : kept_of (geometry z) t d work ≡ take (z.c * sector_bytes) (drop ((r z work works t d stripe below) * z.c * sector_bytes) work)
  unfolding kept_of
  kept_at_lem =
      let f : found (in_range (geometry z)) (ltb t (stripes_of (geometry z)) && ltb d (slots z)) (r z work works t d stripe below) ≡ Ok (r z work works t d stripe below) = rw (in_limits z, lt-ltb t (stripes_of (geometry z)) stripe, lt-ltb d (slots z) below) in
      ap (λ (x : Found). shard_at x (geometry z) work) f ∙ unless (ltb (length work) ((r z work works t d stripe below) * z.c * sector_bytes + z.c * sector_bytes)) _ _ (le-ltb _ _ long)

  kept_length : length (kept_of (geometry z) t d work) ≡ z.c * sector_bytes
  kept_length = ap length kept_at_lem ∙ length-take-le (z.c * sector_bytes) (drop ((r z work works t d stripe below) * z.c * sector_bytes) work) (omega (arith, long, length-drop ((r z work works t d stripe below) * z.c * sector_bytes) work))

  -- THE SHARD in the work area is the strip's sectors in a row
  pub kept_strip_lem : kept_of (geometry z) t d work ≡ strip_bytes (kept_strip z work t d) z.c
  unfolding kept_strip Bytes
  kept_strip_lem =
      ext_get_or 0 (kept_of (geometry z) t d work) (strip_bytes (kept_strip z work t d) z.c) (kept_length ∙ sym (length_strip (kept_strip z work t d) z.c))
      (λ i l. let q : i < z.c * sector_bytes = omega (arith, kept_length) in at i q)
    where
      h : (j p : ℕ) → kept_byte z work t d j p < 256
      h j p = mod-lt (get_or work (kept_at z t d j p) 0) (lit< tt)

      at : (i : ℕ) → i < z.c * sector_bytes → get_or (kept_of (geometry z) t d work) i 0 ≡ get_or (strip_bytes (kept_strip z work t d) z.c) i 0
      at i q =
          let j = i / sector_bytes in
          let p = i % sector_bytes in
          let e : j * sector_bytes + p ≡ i = omega arith in
          let jl : j < z.c = omega arith in
          let pl : p < sector_bytes = omega arith in
          ap (λ (x : List ℕ). get_or x i 0) kept_at_lem ∙ get_or-take (z.c * sector_bytes) (drop ((r z work works t d stripe below) * z.c * sector_bytes) work) i 0 q ∙ get_or-drop ((r z work works t d stripe below) * z.c * sector_bytes) work i 0
          ∙ sym (mod-eq_of_lt (works.small ((r z work works t d stripe below) * z.c * sector_bytes + i)))
          ∙ ap (λ (x : ℕ). get_or work ((r z work works t d stripe below) * z.c * sector_bytes + x) 0 % 256) (sym e)
          ∙ sym (byte_of (kept_byte z work t d j) (h j) p pl) ∙ sym (strip_byte (kept_strip z work t d) z.c j p jl pl)
          ∙ ap (λ (x : ℕ). get_or (strip_bytes (kept_strip z work t d) z.c) x 0) e

  -- and sector j of it is the strip's
  pub kept_part : (j : ℕ) → j < z.c → part_of (kept_of (geometry z) t d work) j ≡ (kept_strip z work t d j).bytes
  unfolding part_of
  kept_part j l =
      unless (ltb (length (kept_of (geometry z) t d work)) (j * sector_bytes + sector_bytes)) [] (part (kept_of (geometry z) t d work) j) (le-ltb (length (kept_of (geometry z) t d work)) (j * sector_bytes + sector_bytes) (omega (arith, kept_length, mul-le-mul_right sector_bytes l, suc-mul j sector_bytes)))
      ∙ ap (λ (x : List ℕ). part x j) kept_strip_lem ∙ strip_part (kept_strip z work t d) z.c j l

  -- ---- the record

  module _ (a : Stamp) (few : a.count < counts) (shards : ℕ) (low : shards < 2 ^ slots z) where
    stamp_back : stamp_of (stamp_number a) ≡ a
    stamp_back = λ i. record { epoch = digits_div a.epoch few i; count = digits_mod a.epoch few i }

    shards_back : shards_of z (W z work works t d stripe below a few shards low) ≡ shards
    shards_back =
        mask_is (slots z) shards low _
        (λ i l. ap₂ (λ (b : Bool) (x : ℕ). b && in_mask shards x) (lt-ltb (slot_of (slots z) t i) (slots z) (slot_lt (slots z) t (some_slots z) i)) (shard_slot (slots z) t (some_slots z) i l))

    tail_same : codec.tail_of z (stamp_number a) (W z work works t d stripe below a few shards low) ≡ record { stamp = a; stripe = t; shards = shards }
    tail_same = ap₂ (λ (x : Stamp) (y : ℕ). record { stamp = x; stripe = t; shards = y }) stamp_back shards_back

    -- THE RECORD that the code makes is the protocol's
    pub record_is : (j : ℕ) → j ≤ z.c
        → record_sector (record { stamp = a; stripe = t; shards = shards }) z.c j (kept_of (geometry z) t d work) ≡ (codec_laws.record_sector z (stamp_number a) (W z work works t d stripe below a few shards low) d j).bytes
    unfolding record_sector codec_laws.record_sector log_of end_of
    record_is j l = ⊎_elim early late (lt_or_ge j z.c)
      where
        early : j < z.c
            → record_sector (record { stamp = a; stripe = t; shards = shards }) z.c j (kept_of (geometry z) t d work) ≡ (codec_laws.record_sector z (stamp_number a) (W z work works t d stripe below a few shards low) d j).bytes
        early h =
            when (ltb j z.c) _ _ (lt-ltb j z.c h) ∙ ap₂ (λ (x : Stamp) (y : List ℕ). log_sector x y) (sym stamp_back) (kept_part j h)
            ∙ ap (λ (b : Bool). (cond b (log_of z (stamp_number a) (W z work works t d stripe below a few shards low) d j) (end_of z (stamp_number a) (W z work works t d stripe below a few shards low) d)).bytes) (sym (lt-ltb j z.c h))

        late : z.c ≤ j
            → record_sector (record { stamp = a; stripe = t; shards = shards }) z.c j (kept_of (geometry z) t d work) ≡ (codec_laws.record_sector z (stamp_number a) (W z work works t d stripe below a few shards low) d j).bytes
        late h =
            unless (ltb j z.c) _ _ (le-ltb j z.c h) ∙ ap₂ (λ (x : Tail) (y : List ℕ). tail_sector x z.c y) (sym tail_same) kept_strip_lem
            ∙ ap (λ (b : Bool). (cond b (log_of z (stamp_number a) (W z work works t d stripe below a few shards low) d j) (end_of z (stamp_number a) (W z work works t d stripe below a few shards low) d)).bytes) (sym (le-ltb j z.c h))

  -- the code can write it
  pub can_log : (j : ℕ) (out : List ℕ) → j ≤ z.c → length out ≡ sector_bytes → logged_answer z.c j (kept_of (geometry z) t d work) out ≡ Ok tt
  unfolding logged_answer log_answer tail_answer
  can_log j out l e = ⊎_elim early late (lt_or_ge j z.c)
    where
      early : j < z.c → logged_answer z.c j (kept_of (geometry z) t d work) out ≡ Ok tt
      early h = rw (lt-ltb j z.c h, eq-eqb (length (part_of (kept_of (geometry z) t d work) j)) sector_bytes (ap length (kept_part j h) ∙ (kept_strip z work t d j).whole), eq-eqb (length out) sector_bytes e)

      late : z.c ≤ j → logged_answer z.c j (kept_of (geometry z) t d work) out ≡ Ok tt
      late h = rw (le-ltb j z.c h, le-ltb z.c j l, strips_fit z, eq-eqb (length (kept_of (geometry z) t d work)) (z.c * sector_bytes) kept_length, eq-eqb (length out) sector_bytes e)
