-- The protocol's log records as the bytes of real sectors: a stamp is epoch and count in one number, a strip is its c
-- sectors in a row, the slots that a write changes are told as its stripe's shards. Assumes nothing.
use Rattle.std.specs.Prelude.{◌≡◌, refl, Bool, true, false, ◌&&◌}
use Rattle.std.proofs.Common.{sym, ◌∙◌, mod-eq_of_lt, lt_trans, lt_of_lt_of_le, arith, pow_mono, lt-ltb, le-ltb}
use Rattle.std.proofs.Math.Path.{ap, ap₂}
use Rattle.std.proofs.Math.Logic.{⊎_elim}
use Rattle.std.proofs.Math.Bool.{cond}
use mathlib.Core.List.{List, ◌++◌}
use Prim.Native.Nat.{ℕ, ◌*◌, ◌-◌, ◌≤◌, ◌<◌}
use Rattle.std.proofs.Math.Dec.{ltb}
use Rattle.std.proofs.Math.ListN.{replicate}
use Rattle.disk.specs.Limits.{sector_bytes}
use Rattle.disk.specs.Image.{lt_or_ge}
use Rattle.disk.specs.Mask.{in_mask, mask_lt, mask_below}
use Rattle.disk.specs.Geometry.{shard_of, shard_lt, slot_shard}
use Rattle.record.specs.Layout.{rests_at, rest}
use Rattle.record.specs.Stamp.{StampFits}
use Rattle.record.specs.Tail.{tail_at, tail_sector, rests, TailFits, tail_back}
use Rattle.record.specs.Log.{log_sector, restore_of, log_stamp, tail_stamp, restore_back}
use Rattle.record.specs.declared.tail.Tail.{Tail}
use Rattle.protocol.specs.Log.{Write, RecordCodec}
use Rattle.codecs.specs.Sector.{Sector}
use Rattle.codecs.proofs.Sector.{zeros, sector_path}
use Rattle.codecs.specs.Shelf.{Shelf, slots, some_slots, few_slots, stripes_few}
use Rattle.codecs.specs.Records.{stamp_number, stamp_of, stamp_in, stripe_in, strip_bytes, changes_shard, shards_of, tail_of, changes_in, Fitting}
use Rattle.codecs.proofs.Written.{stamp_number_lem, stamp_fits, stamp_zeros, length_strip, strip_part, log_of, end_of, record_sector, piece_of}

module _ (z : Shelf) where
  -- ---- the laws

  log_at : (σ : ℕ) (w : Write Sector) (d j : ℕ) → j < z.c → (record_sector z) σ w d j ≡ (log_of z) σ w d j
  unfolding record_sector
  log_at σ w d j l = ap (λ (b : Bool). cond b ((log_of z) σ w d j) ((end_of z) σ w d)) (lt-ltb j z.c l)

  end_at : (σ : ℕ) (w : Write Sector) (d j : ℕ) → z.c ≤ j → (record_sector z) σ w d j ≡ (end_of z) σ w d
  unfolding record_sector
  end_at σ w d j l = ap (λ (b : Bool). cond b ((log_of z) σ w d j) ((end_of z) σ w d)) (le-ltb j z.c l)

  pub stamp_sector : (σ : ℕ) (w : Write Sector) (d j : ℕ) → (Fitting z) σ w → stamp_in ((record_sector z) σ w d j) ≡ σ
  unfolding stamp_in log_of end_of
  stamp_sector σ w d j f = ⊎_elim
      (λ (l : j < z.c). ap stamp_in (log_at σ w d j l) ∙ ap stamp_number (log_stamp (stamp_of σ) (w.new d j).bytes fit) ∙ stamp_number_lem σ)
      (λ (g : z.c ≤ j). ap stamp_in (end_at σ w d j g) ∙ ap stamp_number (tail_stamp ((tail_of z) σ w) z.c (strip_bytes (w.new d) z.c) fit) ∙ stamp_number_lem σ)
      (lt_or_ge j z.c)
    where
      fit : StampFits (stamp_of σ)
      fit = stamp_fits σ f.stamps

  tail_fits : (σ : ℕ) (w : Write Sector) → (Fitting z) σ w → TailFits ((tail_of z) σ w)
  tail_fits σ w f =
      record {
        stamps = stamp_fits σ f.stamps;
        stripes = lt_trans f.stripes (stripes_few z);
        shardss = lt_of_lt_of_le (mask_lt ((changes_shard z) w) (slots z)) (pow_mono {j = 64} (omega (arith, few_slots z)));
      }

  pub end_back : (σ : ℕ) (w : Write Sector) (d : ℕ) → (Fitting z) σ w → tail_at ((record_sector z) σ w d z.c).bytes ≡ (tail_of z) σ w
  unfolding end_of tail_sector
  end_back σ w d f =
      ap (λ (x : Sector). tail_at x.bytes) (end_at σ w d z.c (omega arith))
      ∙ tail_back ((tail_of z) σ w) (rests z.c (strip_bytes (w.new d) z.c) ++ replicate (sector_bytes - rests_at - z.c * rest) 0) (tail_fits σ w f)

  pub stripe_tail : (σ : ℕ) (w : Write Sector) (d : ℕ) → (Fitting z) σ w → stripe_in ((record_sector z) σ w d z.c) ≡ w.stripe
  unfolding stripe_in
  stripe_tail σ w d f = ap (λ (x : Tail). x.stripe) (end_back σ w d f)

  pub changes_tail : (σ : ℕ) (w : Write Sector) (d e : ℕ) → (Fitting z) σ w → (changes_in z) ((record_sector z) σ w d z.c) e ≡ w.changes e
  unfolding changes_in
  changes_tail σ w d e f = ap (λ (x : Tail). ltb e n && in_mask x.shards (shard_of n x.stripe e)) (end_back σ w d f) ∙ ⊎_elim below above (lt_or_ge e n)
    where
      n : ℕ
      n = slots z

      t : ℕ
      t = w.stripe

      below : e < n → (ltb e n && in_mask ((shards_of z) w) (shard_of n t e)) ≡ w.changes e
      below l =
          ap (λ (b : Bool). b && in_mask ((shards_of z) w) (shard_of n t e)) (lt-ltb e n l)
          ∙ mask_below ((changes_shard z) w) n (shard_of n t e) (shard_lt n t (some_slots z) e)
          ∙ ap w.changes (slot_shard n t (some_slots z) e l)

      above : n ≤ e → (ltb e n && in_mask ((shards_of z) w) (shard_of n t e)) ≡ w.changes e
      above g = ap (λ (b : Bool). b && in_mask ((shards_of z) w) (shard_of n t e)) (le-ltb e n g) ∙ go (w.changes e) refl
        where
          go : (b : Bool) → w.changes e ≡ b → false ≡ w.changes e
          go true q = absurd (omega (arith, f.inside e q))
          go false q = sym q

  pub piece_back : (σ : ℕ) (w : Write Sector) (d j : ℕ) → (Fitting z) σ w → j < z.c
      → (piece_of z) ((record_sector z) σ w d z.c) ((record_sector z) σ w d j) j ≡ w.new d j
  unfolding piece_of log_of end_of
  piece_back σ w d j f l =
      let v : List ℕ = strip_bytes (w.new d) z.c in
      ap₂ (λ (t x : Sector). (piece_of z) t x j) (end_at σ w d z.c (omega arith)) (log_at σ w d j l)
      ∙ sector_path ((piece_of z) ((end_of z) σ w d) ((log_of z) σ w d j) j) (w.new d j)
      (ap (restore_of (log_sector (stamp_of σ) (w.new d j).bytes) (tail_sector ((tail_of z) σ w) z.c v)) (mod-eq_of_lt l)
      ∙ ap (λ (y : List ℕ). restore_of (log_sector (stamp_of σ) y) (tail_sector ((tail_of z) σ w) z.c v) j) (sym (strip_part (w.new d) z.c j l))
      ∙ restore_back (stamp_of σ) ((tail_of z) σ w) z.c j v (length_strip (w.new d) z.c) l
      ∙ strip_part (w.new d) z.c j l)

-- the codec of this shelf's records
abbrev pub records : Shelf → RecordCodec Sector
records z =
    record {
      Fits = Fitting z;
      c = z.c;
      zeros = zeros;
      stamp = stamp_in;
      sector = record_sector z;
      stripe_of = stripe_in;
      changes_of = changes_in z;
      piece = piece_of z;
      stamp_zeros = stamp_zeros;
      stamp_sector = λ σ w d j f l. stamp_sector z σ w d j f;
      stripe_tail = stripe_tail z;
      changes_tail = changes_tail z;
      piece_back = piece_back z;
    }
