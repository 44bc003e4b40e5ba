-- What start-up asks of one slot, with the shelf's label (`lead`, of generation M) in hand. A slot's own label is that of
-- its disk if the slot is present: of an absent slot nothing is read. Assumes nothing.
use Rattle.std.specs.Prelude.{Bool, false, not, ◌&&◌, ◌||◌, cond, List, ℕ, ◌+◌, ◌%◌, ltb, eqb, Some, None}
use Rattle.disk.specs.Mask.{in_mask}
use Rattle.disk.specs.declared.geometry.Geometry.{Geometry}
use Rattle.label.specs.Newest.{copy_of, present_label, same_shelf}
use Rattle.label.specs.declared.fields.Label.{Label}
use Rattle.label.specs.Fields.{Decoded}

-- the generation of a label, 0 where there is none
abbrev pub age_of : Decoded → ℕ
age_of None = 0
age_of (Some l) = l.generation

-- a label calls slot d plainly out: it is out, and not the one being rebuilt
unfoldable pub plainly_out : Label → ℕ → Bool
plainly_out l d = in_mask l.out d && not (eqb d l.rebuilding)

abbrev pub calls_out : Decoded → ℕ → Bool
calls_out None d = false
calls_out (Some l) d = plainly_out l d

-- A disk missed something, whatever it looks like, if its own label is more than one generation behind the newest one seen,
unfoldable pub behind : ℕ → ℕ → Bool
behind own newest = ltb (own + 1) newest

-- or if its own label calls it plainly out and the newest one does not.
unfoldable pub disowned : Decoded → Label → ℕ → Bool
disowned own lead d = calls_out own d && not (plainly_out lead d)

-- the generation of a copy of this shelf, 0 where there is none
abbrev pub age_under : Label → Decoded → ℕ
age_under lead None = 0
age_under lead (Some x) = cond (same_shelf lead x) x.generation 0

-- the label of generation q is written to sector q mod 2
abbrev pub sector_for : ℕ → ℕ
sector_for q = q % 2

module _ (g : Geometry) (img : List ℕ) where
  module _ (absent : ℕ) (lead : Label) (d : ℕ) where
    unfoldable pub stale : Bool
    stale =
        behind (age_of (present_label g img absent d)) lead.generation || disowned (present_label g img absent d) lead d

    -- absent or stale
    unfoldable pub gone : Bool
    gone = ltb d g.n && (in_mask absent d || stale)

    -- neither: it takes part in the rounds
    abbrev pub takes_part : Bool
    takes_part = not gone

    -- in Out': out in the shelf's label, or gone
    unfoldable pub goes_out : Bool
    goes_out = in_mask lead.out d || gone

    -- present and stale: it takes no part in the rounds and adopts the label that they settle
    unfoldable pub adopts : Bool
    adopts = not (in_mask absent d) && stale

  -- ---- what a slot that adopts is given first (prep for generation M + 2), so that it never holds two copies that do not follow each other

  -- the copy in sector s of slot d
  unfoldable pub copy_age : Label → ℕ → ℕ → ℕ
  copy_age lead d s = age_under lead (copy_of g img d s)

  module _ (lead : Label) (d : ℕ) where
    -- the sector that is not M + 2's holds generation M + 1 already
    unfoldable pub prepared : Bool
    prepared = eqb (copy_age lead d (sector_for (lead.generation + 1))) (lead.generation + 1)

    -- it may be wiped: M + 2's own sector holds a copy, or neither does
    unfoldable pub wiped : Bool
    wiped = ltb 0 (copy_age lead d (sector_for (lead.generation + 2))) || eqb (copy_age lead d (sector_for (lead.generation + 1))) 0

  module _ (absent : ℕ) (lead : Label) (d : ℕ) where
    unfoldable pub gets_zeros : Bool
    gets_zeros = adopts absent lead d && (not (prepared lead d) && wiped lead d)

    -- otherwise it holds the disk's only copy, and is given the new content with generation M + 1
    unfoldable pub gets_label : Bool
    gets_label = adopts absent lead d && (not (prepared lead d) && not (wiped lead d))

-- a test of a slot d of an image, with the absent slots and the shelf's label, as goes_out, takes_part, adopts, gets_zeros and gets_label are
abbrev pub Question : Type 0
Question = Geometry → List ℕ → ℕ → Label → ℕ → Bool
