-- A sector of a strip that is rebuilt. Assumes nothing.
use Rattle.std.specs.Prelude.{Bool, not, cond, ◌&&◌, List, [], ℕ, ◌*◌, ltb, length, take, Ok, Err}
use Rattle.disk.specs.Limits.{sector_bytes}
use Rattle.disk.specs.Geometry.{in_range, stripes_of, shard_of, found}
use Rattle.disk.specs.Mask.{in_mask, mask_of}
use Rattle.disk.specs.declared.geometry.Geometry.{Geometry}
use Rattle.disk.specs.Geometry.{Found}
use Rattle.disk.specs.Refusal.{Outcome}
use Rattle.label.specs.declared.fields.Label.{Label}
use Rattle.redo.specs.Decide.{believed}
use Rattle.strips.specs.Seen.{shard_bytes, shard_shown}
use Rattle.strips.specs.Answers.{shown_answer}

-- a slot of the mask that is not absent
unfoldable pub present : ℕ → ℕ → ℕ → Bool
present mask absent d = in_mask mask d && not (in_mask absent d)

-- the slots whose strip of stripe t the label lets one believe
abbrev pub believed_slots : Geometry → Label → ℕ → ℕ
believed_slots g l t = cond (in_range g) (mask_of (λ d. believed g l d t) g.n) 0

-- those of them that are there
unfoldable pub seen_slots : Geometry → Label → ℕ → ℕ → ℕ
seen_slots g l absent t = mask_of (present (believed_slots g l t) absent) g.n

-- the part of the work area that is as long as a stripe
unfoldable pub stripe_in : Geometry → List ℕ → List ℕ
stripe_in g work = cond (ltb (length work) (g.n * shard_bytes g)) [] (take (g.n * shard_bytes g) work)

-- whether sector j of slot d's strip of stripe t can be computed, which is shard r
abbrev pub shown_from : Found → Label → ℕ → Geometry → ℕ → ℕ → List ℕ → List ℕ → Outcome
shown_from (Ok r) l absent g t j work img =
    shown_answer g l.k (length img) t r j 1 (seen_slots g l absent t) (length (stripe_in g work)) (g.n * sector_bytes) sector_bytes
shown_from (Err why) l absent g t j work img = Err why

unfoldable pub rebuild_answer : Label → ℕ → Geometry → ℕ → ℕ → ℕ → List ℕ → List ℕ → Outcome
rebuild_answer l absent g d t j work img =
    shown_from (found (in_range g) (ltb t (stripes_of g) && ltb d g.n) (shard_of g.n t d)) l absent g t j work img

-- and that sector
unfoldable pub rebuilt_sector : Label → ℕ → Geometry → ℕ → ℕ → ℕ → List ℕ → List ℕ → List ℕ
rebuilt_sector l absent g d t j work img = shard_shown g l.k img (seen_slots g l absent t) 0 (stripe_in g work) t j 1 (shard_of g.n t d)

abbrev pub after_rebuild : Outcome → Label → ℕ → Geometry → ℕ → ℕ → ℕ → List ℕ → List ℕ → List ℕ → List ℕ
after_rebuild (Ok tt) l absent g d t j work img out = rebuilt_sector l absent g d t j work img
after_rebuild (Err why) l absent g d t j work img out = out
