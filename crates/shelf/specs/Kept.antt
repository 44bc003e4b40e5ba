-- What a write keeps in the work area, and the sectors of a record. Assumes nothing.
use Rattle.std.specs.Prelude.{cond, ◌&&◌, List, [], ℕ, ◌+◌, ◌*◌, ltb, length, take, drop, Ok, Err}
use Rattle.disk.specs.Limits.{sector_bytes}
use Rattle.disk.specs.Geometry.{in_range, stripes_of, shard_of, found}
use Rattle.disk.specs.declared.geometry.Geometry.{Geometry}
use Rattle.disk.specs.Geometry.{Found}
use Rattle.disk.specs.declared.refusal.Refusal.TheVariants.{NotNow}
use Rattle.disk.specs.Refusal.{Outcome}
use Rattle.record.specs.Log.{part, log_answer, log_sector}
use Rattle.record.specs.Tail.{tail_answer, tail_sector}
use Rattle.record.specs.declared.tail.Tail.{Tail}

-- shard r of a stripe that the work area begins with
abbrev pub shard_at : Found → Geometry → List ℕ → List ℕ
shard_at (Ok r) g work = cond (ltb (length work) (r * g.c * sector_bytes + g.c * sector_bytes)) [] (take (g.c * sector_bytes) (drop (r * g.c * sector_bytes) work))
shard_at (Err why) g work = []

-- the shard that lies in slot d
unfoldable pub kept_of : Geometry → ℕ → ℕ → List ℕ → List ℕ
kept_of g t d work = shard_at (found (in_range g) (ltb t (stripes_of g) && ltb d g.n) (shard_of g.n t d)) g work

-- sector j of a strip, or nothing
unfoldable pub part_of : List ℕ → ℕ → List ℕ
part_of strip j = cond (ltb (length strip) (j * sector_bytes + sector_bytes)) [] (part strip j)

-- sector j of the record of a strip of c sectors: its log sectors, then the tail
unfoldable pub record_sector : Tail → ℕ → ℕ → List ℕ → List ℕ
record_sector x c j v = cond (ltb j c) (log_sector x.stamp (part_of v j)) (tail_sector x c v)

-- what writing one answers, and leaves
unfoldable pub logged_answer : ℕ → ℕ → List ℕ → List ℕ → Outcome
logged_answer c j v out =
    cond (ltb j c) (log_answer (length (part_of v j)) (length out)) (cond (ltb c j) (Err NotNow) (tail_answer c (length v) (length out)))

abbrev pub after_logged : Outcome → Tail → ℕ → ℕ → List ℕ → List ℕ → List ℕ
after_logged (Ok tt) x c j v out = record_sector x c j v
after_logged (Err why) x c j v out = out
