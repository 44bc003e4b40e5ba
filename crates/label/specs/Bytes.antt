-- The bytes of a label: the document's table, row by row, then the checksum of what stands before it. Assumes nothing.
use Rattle.std.specs.Prelude.{Bool, true, ◌&&◌, cond, List, [], ◌∷◌, ◌++◌, ℕ, eqb, replicate, Ok, Err}
use Rattle.crc32c.specs.Crc.{crc_of}
use Rattle.disk.specs.Limits.{sector_bytes}
use Rattle.disk.specs.Number.{bytes_of}
use Rattle.disk.specs.declared.refusal.Refusal.TheVariants.{BadImage}
use Rattle.disk.specs.Refusal.{Outcome}
use Rattle.label.specs.Fields.{fits_of}
use Rattle.label.specs.declared.fields.Label.{Label}

-- the letters SHELFRS1, lowest byte first
abbrev pub letters : ℕ
letters = 0x315352464c454853

abbrev pub version : ℕ
version = 1

-- the checksum's place, behind all that it is of
abbrev pub checksum_at : ℕ
checksum_at = 508

-- the size and the value of each field, in the document's order
abbrev pub table : Label → List (ℕ × ℕ)
table l =
    (8, letters) ∷ (2, version) ∷ (1, l.k) ∷ (1, l.m) ∷ (1, l.slot) ∷ (1, l.c) ∷ (2, 0) ∷ (4, l.sectors) ∷ (8, l.shelf)
    ∷ (8, l.generation) ∷ (4, l.out) ∷ (1, l.rebuilding) ∷ (3, 0) ∷ (4, l.mark) ∷ (460, 0) ∷ []

-- one field after the other, each lowest byte first
abbrev pub written : List (ℕ × ℕ) → List ℕ
written [] = []
written (f ∷ r) = bytes_of f.0 f.1 ++ written r

-- bytes 0 to 507
unfoldable pub label_bytes : Label → List ℕ
label_bytes l = written (table l)

-- the 512 bytes, with the checksum of bytes 0 to 507
unfoldable pub sealed : Label → List ℕ
sealed l = label_bytes l ++ bytes_of 4 (crc_of (label_bytes l))

-- the 512 bytes, with zeros for the checksum
unfoldable pub unsealed : Label → List ℕ
unsealed l = label_bytes l ++ replicate 4 0

unfoldable pub all_zero : List ℕ → Bool
all_zero [] = true
all_zero (x ∷ l) = eqb x 0 && all_zero l

-- BAD_IMAGE where the sector is not 512 bytes or a number is out of range
unfoldable pub encode_answer : Label → ℕ → Outcome
encode_answer l len = cond (eqb len sector_bytes && fits_of l) (Ok tt) (Err BadImage)

-- and what it leaves
abbrev pub after_encode : Outcome → Label → List ℕ → List ℕ
after_encode (Ok tt) l b = sealed l
after_encode (Err why) l b = b
