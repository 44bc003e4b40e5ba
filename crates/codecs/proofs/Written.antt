-- The log records' sectors, as real bytes: what the protocol's codec of records writes and reads back. Assumes nothing.
use Rattle.std.specs.Prelude.{◌≡◌, refl, length, take, drop}
use Rattle.std.proofs.Common.{sym, ◌∙◌, mod-lt, div-add-mod', suc-mul, eq-or-lt_of_le, le_of_suc-le-suc, div-lt_iff_lt-mul, arith, lit<, length-append, length-drop, drop_at, take_all}
use Rattle.std.proofs.Math.Path.{ap, ap₂}
use Rattle.std.proofs.Math.Logic.{⊎_elim}
use Rattle.std.proofs.Math.Bool.{cond}
use mathlib.Core.List.{List, ◌++◌}
use Prim.Native.Nat.{ℕ, zero, suc, ◌+◌, ◌*◌, ◌-◌, ◌<◌, ◌%◌, ◌^◌}
use Rattle.std.proofs.Math.Dec.{ltb}
use Rattle.std.proofs.Math.ListN.{replicate}
use Rattle.std.proofs.lemmas.List.{take-append-le, drop-append-le}
use Rattle.disk.specs.Limits.{sector_bytes}
use Rattle.disk.specs.Number.{number_at, bytes_of}
use Rattle.record.specs.Layout.{stamp_length, body, rests_at, rest}
use Rattle.record.specs.Stamp.{stamp_at, stamp_bytes, StampFits}
use Rattle.record.specs.Tail.{tail_sector, field_bytes, rests}
use Rattle.record.specs.Log.{part, log_sector, restore_of, length_log, length_tail}
use Rattle.record.specs.declared.stamp.Stamp.{Stamp}
use Rattle.record.specs.declared.tail.Tail.{Tail}
use Rattle.protocol.specs.Log.{Write}
use Rattle.codecs.specs.Sector.{Sector, Bytes}
use Rattle.codecs.proofs.Sector.{zeros, bytes_none, bytes_append, bytes_take, bytes_drop, bytes_zeros, bytes_number}
use Rattle.codecs.specs.Shelf.{Shelf, some_sectors, short_strip}
use Rattle.codecs.specs.Records.{counts, stamp_number, stamp_of, stamp_in, strip_bytes, length_restore, tail_of}

pub stamp_number_lem : (σ : ℕ) → stamp_number (stamp_of σ) ≡ σ
stamp_number_lem σ = div-add-mod' σ counts

pub stamp_fits : (σ : ℕ) → σ < 2 ^ 128 → StampFits (stamp_of σ)
stamp_fits σ h = record { epochs = (div-lt_iff_lt-mul {k = counts} {x = σ} {y = 2 ^ 64} (lit< tt)).1 h; counts = mod-lt σ (lit< tt) }

pub stamp_zeros : stamp_in zeros ≡ 0
unfolding stamp_in stamp_at number_at
stamp_zeros = refl

pub length_strip : (v : ℕ → Sector) (c : ℕ) → length (strip_bytes v c) ≡ c * sector_bytes
length_strip v zero = refl
length_strip v (suc s) = length-append (strip_bytes v s) (v s).bytes ∙ ap₂ (λ (x y : ℕ). x + y) (length_strip v s) (v s).whole ∙ sym (suc-mul s sector_bytes)

pub strip_bytes_lem : (v : ℕ → Sector) (c : ℕ) → Bytes (strip_bytes v c)
strip_bytes_lem v zero = bytes_none
strip_bytes_lem v (suc s) = bytes_append (strip_bytes v s) (v s).bytes (strip_bytes_lem v s) (v s).small

pub strip_part : (v : ℕ → Sector) (c j : ℕ) → j < c → part (strip_bytes v c) j ≡ (v j).bytes
unfolding part
strip_part v zero j l = absurd (omega arith)
strip_part v (suc c) j l =
    ⊎_elim (λ (e : j ≡ c). last e) (λ (h : j < c). before h ∙ strip_part v c j h) (eq-or-lt_of_le (le_of_suc-le-suc l))
  where
    n : length (strip_bytes v c) ≡ c * sector_bytes
    n = length_strip v c

    last : j ≡ c → take sector_bytes (drop (j * sector_bytes) (strip_bytes v c ++ (v c).bytes)) ≡ (v j).bytes
    last e =
        ap (λ (i : ℕ). take sector_bytes (drop (i * sector_bytes) (strip_bytes v c ++ (v c).bytes))) e
        ∙ ap (take sector_bytes) (drop_at (strip_bytes v c) (v c).bytes (c * sector_bytes) n)
        ∙ take_all sector_bytes (v c).bytes (omega (arith, (v c).whole)) ∙ ap (λ (i : ℕ). (v i).bytes) (sym e)

    before : j < c → take sector_bytes (drop (j * sector_bytes) (strip_bytes v c ++ (v c).bytes)) ≡ take sector_bytes (drop (j * sector_bytes) (strip_bytes v c))
    before h =
        ap (take sector_bytes) (drop-append-le (j * sector_bytes) (strip_bytes v c) (v c).bytes (omega (arith, n)))
        ∙ take-append-le sector_bytes (drop (j * sector_bytes) (strip_bytes v c)) (v c).bytes (omega (arith, n, length-drop (j * sector_bytes) (strip_bytes v c)))

-- ---- sectors of bytes

stamp_bytes_lem : (a : Stamp) → Bytes (stamp_bytes a)
unfolding stamp_bytes
stamp_bytes_lem a = bytes_append (bytes_of 8 a.epoch) (bytes_of 8 a.count) (bytes_number 8 a.epoch) (bytes_number 8 a.count)

pub log_bytes : (a : Stamp) (v : List ℕ) → Bytes v → Bytes (log_sector a v)
unfolding log_sector
log_bytes a v p = bytes_append (stamp_bytes a) (take body v) (stamp_bytes_lem a) (bytes_take body v p)

rests_bytes : (c : ℕ) (v : List ℕ) → Bytes v → Bytes (rests c v)
unfolding rests
rests_bytes zero v p = bytes_none
rests_bytes (suc s) v p =
    bytes_append (rests s v) (take rest (drop (s * sector_bytes + body) v)) (rests_bytes s v p)
    (bytes_take rest (drop (s * sector_bytes + body) v) (bytes_drop (s * sector_bytes + body) v p))

field_bytes_lem : (x : Tail) → Bytes (field_bytes x)
unfolding field_bytes
field_bytes_lem x =
    bytes_append (stamp_bytes x.stamp) (bytes_of 8 x.stripe ++ bytes_of 8 x.shards) (stamp_bytes_lem x.stamp)
    (bytes_append (bytes_of 8 x.stripe) (bytes_of 8 x.shards) (bytes_number 8 x.stripe) (bytes_number 8 x.shards))

pub tail_bytes : (x : Tail) (c : ℕ) (v : List ℕ) → Bytes v → Bytes (tail_sector x c v)
unfolding tail_sector
tail_bytes x c v p =
    bytes_append (field_bytes x) (rests c v ++ replicate (sector_bytes - rests_at - c * rest) 0) (field_bytes_lem x)
    (bytes_append (rests c v) (replicate (sector_bytes - rests_at - c * rest) 0) (rests_bytes c v p) (bytes_zeros (sector_bytes - rests_at - c * rest)))

pub restore_bytes : (log tail : List ℕ) (s : ℕ) → Bytes log → Bytes tail → Bytes (restore_of log tail s)
unfolding restore_of
restore_bytes log tail s p q =
    bytes_append (take body (drop stamp_length log)) (take rest (drop (rests_at + s * rest) tail)) (bytes_take body (drop stamp_length log) (bytes_drop stamp_length log p))
    (bytes_take rest (drop (rests_at + s * rest) tail) (bytes_drop (rests_at + s * rest) tail q))

-- ---- a record

module _ (z : Shelf) where
  -- the log sector for sector j of slot d's strip; and its tail
  unfoldable pub log_of : ℕ → Write Sector → ℕ → ℕ → Sector
  log_of σ w d j =
      record {
        bytes = log_sector (stamp_of σ) (w.new d j).bytes;
        whole = length_log (stamp_of σ) (w.new d j).bytes (w.new d j).whole;
        small = log_bytes (stamp_of σ) (w.new d j).bytes (w.new d j).small;
      }

  unfoldable pub end_of : ℕ → Write Sector → ℕ → Sector
  end_of σ w d =
      record {
        bytes = tail_sector ((tail_of z) σ w) z.c (strip_bytes (w.new d) z.c);
        whole = length_tail ((tail_of z) σ w) z.c (strip_bytes (w.new d) z.c) (omega (arith, length_strip (w.new d) z.c)) (short_strip z);
        small = tail_bytes ((tail_of z) σ w) z.c (strip_bytes (w.new d) z.c) (strip_bytes_lem (w.new d) z.c);
      }

  unfoldable pub record_sector : ℕ → Write Sector → ℕ → ℕ → Sector
  record_sector σ w d j = cond (ltb j z.c) (log_of σ w d j) (end_of σ w d)

  -- (sectors from c on do not occur: each is taken as one below c, so that the codec is total)
  unfoldable pub piece_of : Sector → Sector → ℕ → Sector
  piece_of t x j =
      record {
        bytes = restore_of x.bytes t.bytes (j % z.c);
        whole = length_restore x.bytes t.bytes (j % z.c) x.whole t.whole (omega (arith, mod-lt j (some_sectors z), short_strip z));
        small = restore_bytes x.bytes t.bytes (j % z.c) x.small t.small;
      }
