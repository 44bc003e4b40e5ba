-- What a sector says as a label: the meaning of valid, clause by clause. Assumes nothing.
use Rattle.std.specs.Prelude.{Bool, ◌&&◌, cond, List, ℕ, ◌%◌, eqb, length, get_or, take, drop, Some, None}
use Rattle.crc32c.specs.Crc.{crc_of}
use Rattle.disk.specs.Limits.{sector_bytes}
use Rattle.disk.specs.Number.{number_at}
use Rattle.label.specs.Fields.{fits_of}
use Rattle.label.specs.Bytes.{letters, version, checksum_at, all_zero}
use Rattle.label.specs.declared.fields.Label.{Label}
use Rattle.label.specs.Fields.{Decoded}

-- the fields at their offsets
unfoldable pub label_at : List ℕ → Label
label_at b =
    record {
      k = get_or b 10 0;
      m = get_or b 11 0;
      slot = get_or b 12 0;
      c = get_or b 13 0;
      sectors = number_at 4 b 16;
      shelf = number_at 8 b 20;
      generation = number_at 8 b 28;
      out = number_at 4 b 36;
      rebuilding = get_or b 40 0;
      mark = number_at 4 b 44;
    }

-- bytes 14 and 15, 41 to 43, and 48 to 507 are 0
unfoldable pub zeros_of : List ℕ → Bool
zeros_of b = all_zero (take 2 (drop 14 b)) && (all_zero (take 3 (drop 41 b)) && all_zero (take 460 (drop 48 b)))

-- the bytes b are a valid label of slot d in sector s: a whole sector, letters, version, zeros, ranges, its own slot
-- number, its checksum, and the sector that its generation calls for
unfoldable pub valid_of : List ℕ → ℕ → ℕ → Bool
valid_of b d s =
    eqb (length b) sector_bytes
    && (eqb (number_at 8 b 0) letters
    && (eqb (number_at 2 b 8) version
    && (zeros_of b
    && (fits_of (label_at b)
    && (eqb (label_at b).slot d && (eqb (number_at 4 b checksum_at) (crc_of (take checksum_at b)) && eqb ((label_at b).generation % 2) s))))))

unfoldable pub decode_of : List ℕ → ℕ → ℕ → Decoded
decode_of b d s = cond (valid_of b d s) (Some (label_at b)) None
