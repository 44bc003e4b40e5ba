-- What begin finds on the disk of slot d, under the settled label l, of generation q. Said of the bytes of one image, and taken apart as the
-- protocol's `expelled` and `prep` are. Assumes nothing.
use Rattle.std.specs.Prelude.{◌≡◌, refl, Bool, true, false, not, ◌&&◌, ◌||◌, List, ℕ, ◌+◌, ◌-◌, ◌%◌, leb, ltb, eqb}
use Rattle.std.proofs.Common.{arith, ltb-true, ltb-false, le-leb}
use Rattle.std.proofs.lemmas.Bool.{lt-leb}
use Rattle.disk.specs.Image.{read_of}
use Rattle.disk.specs.declared.geometry.Geometry.{Geometry}
use Rattle.label.specs.Strange.{strange_of}
use Rattle.label.specs.declared.fields.Label.{Label}
use Rattle.rounds.specs.Slot.{sector_for, copy_age}
use Rattle.shelf.specs.Act.{odd_sector}

module _ (g : Geometry) (img : List ℕ) (l : Label) (d : ℕ) where
  -- the generation of the copy of another shelf or slot in sector s, 0 where there is none
  unfoldable pub foreign : ℕ → ℕ
  foreign s = strange_of (read_of g img d s) l d s

  -- the copy of the smaller generation is zeroed first: whether that is the one in sector 1
  unfoldable pub odd_first : Bool
  odd_first = not (ltb (foreign 0) (foreign 1))

  -- sector 1 (odd), or sector 0, holds one
  unfoldable pub alien : Bool → Bool
  alien odd = ltb 0 (foreign (odd_sector odd))

  -- the sector that is not q + 1's holds generation q already
  unfoldable pub prepared : Bool
  prepared = eqb (copy_age g img l d (sector_for l.generation)) l.generation

  -- otherwise it is zeroed where q + 1's own sector holds a copy, or it holds none, and else given the label
  unfoldable pub wiped : Bool
  wiped = ltb 0 (copy_age g img l d (sector_for (l.generation + 1))) || eqb (copy_age g img l d (sector_for l.generation)) 0

  unfoldable pub gets_zeros : Bool
  gets_zeros = not prepared && wiped

-- the sector of generation q + 1
pub other_side : (q : ℕ) → 1 - q % 2 ≡ (q + 1) % 2
other_side q = omega arith

pub leb_not : (a b : ℕ) → leb a b ≡ not (ltb b a)
leb_not a b = by (ltb b a) refl
  where
    by : (t : Bool) → ltb b a ≡ t → leb a b ≡ not t
    by true e = lt-leb a b (ltb-true b a e)
    by false e = le-leb a b (ltb-false b a e)
