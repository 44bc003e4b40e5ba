-- NO ANSWER DEPENDS ON WHAT THE ABSENT SLOTS HOLD. Two runs make the same calls, each on an image of its own. Before each call the host may
-- change both images as it likes, as long as they are then alike where the slots are present that the call looks at: so the bytes of
-- absent slots may be others on each image, at every call anew. The two runs get the same answers, the same states and the same work
-- areas (`same_answers`); and to each run on the one image there is that run on the other (`other_run`). Assumes nothing.
use Rattle.std.specs.Prelude.{◌≡◌, List, [], ◌∷◌, ℕ}
use Rattle.codeword.specs.Unique.{AllBytes}
use Rattle.disk.specs.declared.geometry.Geometry.{Geometry}
use Rattle.label.specs.Fields.{geometry_of}
use Rattle.stages.specs.declared.state.State.{State}
use Rattle.blind.specs.Alike.{Alike}
use Rattle.blind.specs.Own.{Own}
use Rattle.blind.specs.Calls.{Call, Reply, Makes, shelf_of, hidden}

-- ---- a run on one image

-- something befalls the disks, and then a call is made; or the caller goes on with another state and work area, as after a power cut
pub data Ask : Type 0 where
  asks : (befalls : List ℕ → List ℕ) (c : Call) → Ask
  anew : (s : State) (work : List ℕ) → Ask

-- what is asked from here on, what the caller gets for each call, and the image at the end
abbrev pub Run : State → List ℕ → List ℕ → List Ask → List Reply → List ℕ → Type 0
Run s work img [] [] end = end ≡ img
Run s work img [] (r ∷ rs) end = ⊥
Run s work img (asks befalls c ∷ qs) [] end = ⊥
Run s work img (asks befalls c ∷ qs) (r ∷ rs) end = (after : List ℕ) × Makes c s work (befalls img) r after × Run r.state r.work after qs rs end
Run s work img (anew t other ∷ qs) rs end = Run t other img qs rs end

-- what is lent to the calls is bytes
abbrev pub Lent : (s : State) (work img : List ℕ) (qs : List Ask) (rs : List Reply) (end : List ℕ) → Run s work img qs rs end → Type 0
Lent s work img [] [] end m = Unit {0}
Lent s work img [] (r ∷ rs) end m = ⊥
Lent s work img (asks befalls c ∷ qs) [] end m = ⊥
Lent s work img (asks befalls c ∷ qs) (r ∷ rs) end m = AllBytes work × AllBytes (befalls img) × AllBytes r.work × Lent r.state r.work m.0 qs rs end m.2
Lent s work img (anew t other ∷ qs) rs end m = Lent t other img qs rs end m

-- ---- two runs with the same calls

-- the same call for both, and what befalls the disks of each
pub data Twin : Type 0 where
  asks_both : (one other : List ℕ → List ℕ) (c : Call) → Twin
  anew_both : (s : State) (work : List ℕ) → Twin

abbrev pub ones : List Twin → List Ask
ones [] = []
ones (asks_both one other c ∷ qs) = asks one c ∷ ones qs
ones (anew_both s work ∷ qs) = anew s work ∷ ones qs

abbrev pub others : List Twin → List Ask
others [] = []
others (asks_both one other c ∷ qs) = asks other c ∷ others qs
others (anew_both s work ∷ qs) = anew s work ∷ others qs

-- what befalls two images that are alike with these slots absent leaves them alike for the state, and for what the call looks at
pub record Befalls (g : Geometry) (absent : ℕ) (s : State) (c : Call) (one other : List ℕ → List ℕ) : Type 0 where
  pub for_state : (a b : List ℕ) → Alike g absent a b → Alike (geometry_of s.now) s.absent (one a) (other b)
  pub for_call : (a b : List ℕ) → Alike g absent a b → Alike (shelf_of c s) (hidden c s) (one a) (other b)

-- all that is asked of the host, and nothing is asked of what absent slots hold. g, absent: the shelf and the absent slots of the last
-- state, also where that was lost
abbrev pub Fair : Geometry → ℕ → State → List Twin → List Reply → Type 0
Fair g absent s [] rs = Unit {0}
Fair g absent s (asks_both one other c ∷ qs) [] = Unit {0}
Fair g absent s (asks_both one other c ∷ qs) (r ∷ rs) = Befalls g absent s c one other × Fair (geometry_of r.state.now) r.state.absent r.state qs rs
Fair g absent s (anew_both t work ∷ qs) rs = Own (geometry_of t.now) t.absent t × Fair g absent t qs rs

-- alike at the end, where the slots are present of the last state
abbrev pub AtEnd : Geometry → ℕ → List Twin → List Reply → List ℕ → List ℕ → Type 0
AtEnd g absent [] rs x y = Alike g absent x y
AtEnd g absent (asks_both one other c ∷ qs) [] x y = ⊥
AtEnd g absent (asks_both one other c ∷ qs) (r ∷ rs) x y = AtEnd (geometry_of r.state.now) r.state.absent qs rs x y
AtEnd g absent (anew_both t work ∷ qs) rs x y = AtEnd g absent qs rs x y
